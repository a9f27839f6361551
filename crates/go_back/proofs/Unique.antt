-- A call of `go_back` has one answer, and leaves one content of the lent text; where a place holds the name, it gives what that holds. Assumes
-- nothing.
use mathlib.Core.Path.{◌≡◌, refl, sym, ap, ◌∙◌}
use mathlib.Core.Logic.{inl, inr}
use mathlib.Core.List.{List}
use Prim.Native.Nat.{ℕ}
use native.Mathlib.Omega.{arith}
use lib.ListN.{length, take}
use lib.Seq.{sets}
use Rattle.std.specs.Prelude.{Result, Ok, Err}
use Rattle.statement_writer.proofs.Puts.{put_front}
use Rattle.stages.specs.Stages.{Holds}
use Rattle.stages.proofs.Places.{holds_text}
use Rattle.go_back.specs.Return.{Room, number, ReturnRefused, ReturnFinished, ReturnAnswers}
use Rattle.go_back.specs.declared.Refusal.{Refusal}
use Rattle.go_back.specs.declared.Refusal.TheVariants as refusal

-- a number is that of one refusal only
same-number : (r s : Refusal) → number r ≡ number s → r ≡ s
same-number refusal.Room refusal.Room e = refl
same-number refusal.Room refusal.Misnamed e = absurd (omega arith)
same-number refusal.Room refusal.Unknown e = absurd (omega arith)
same-number refusal.Misnamed refusal.Room e = absurd (omega arith)
same-number refusal.Misnamed refusal.Misnamed e = refl
same-number refusal.Misnamed refusal.Unknown e = absurd (omega arith)
same-number refusal.Unknown refusal.Room e = absurd (omega arith)
same-number refusal.Unknown refusal.Misnamed e = absurd (omega arith)
same-number refusal.Unknown refusal.Unknown e = refl

module _ (mem n o : List ℕ) where
  refused-unique : (r s : ℕ) → ReturnRefused mem n o r → ReturnRefused mem n o s → r ≡ s
  refused-unique r s (inl a) (inl b) = a.1 ∙ sym b.1
  refused-unique r s (inl (inl h, e)) (inr (inl b)) = absurd (omega (arith, b.0.0))
  refused-unique r s (inl (inr h, e)) (inr (inl b)) = absurd (omega (arith, b.0.1))
  refused-unique r s (inl (inl h, e)) (inr (inr b)) = absurd (omega (arith, b.0.0))
  refused-unique r s (inl (inr h, e)) (inr (inr b)) = absurd (omega (arith, b.0.1))
  refused-unique r s (inr (inl a)) (inl (inl h, e)) = absurd (omega (arith, a.0.0))
  refused-unique r s (inr (inl a)) (inl (inr h, e)) = absurd (omega (arith, a.0.1))
  refused-unique r s (inr (inr a)) (inl (inl h, e)) = absurd (omega (arith, a.0.0))
  refused-unique r s (inr (inr a)) (inl (inr h, e)) = absurd (omega (arith, a.0.1))
  refused-unique r s (inr (inl a)) (inr (inl b)) = a.2 ∙ sym b.2
  refused-unique r s (inr (inl a)) (inr (inr b)) = absurd (a.1 b.1)
  refused-unique r s (inr (inr a)) (inr (inl b)) = absurd (b.1 a.1)
  refused-unique r s (inr (inr a)) (inr (inr b)) = a.3 ∙ sym b.3

  module _ {k : ℕ} {t : List ℕ} (h : Holds mem k n t) where
    held-refused : (r : ℕ) → Room mem o → ReturnRefused mem n o r → ⊥
    held-refused r room (inl (inl l, e)) = omega (arith, room.0)
    held-refused r room (inl (inr l, e)) = omega (arith, room.1)
    held-refused r room (inr (inl a)) = a.1 h.stands.valid
    held-refused r room (inr (inr a)) = a.2 k (t, h)

    -- whatever a call answers that is lent enough, it gives the text that is kept under the name
    pub held-returned : (q : List ℕ) (r : Result ℕ Refusal) → Room mem o → ReturnAnswers mem n o q r → (r ≡ Ok (length t)) × (take (length t) q ≡ t)
    held-returned q (Err r) room (a, same) = absurd (held-refused (number r) room a)
    held-returned q (Ok b) room f =
        let is : f.t ≡ t = holds_text f.holds h in
        let size : b ≡ length t = omega (arith, f.written.after, ap length is) in
        (ap Ok size, ap (λ (i : ℕ). take i q) (sym size) ∙ put_front f.written f.fits ∙ is)

  return-finished : {b c : ℕ} {q r : List ℕ} → ReturnFinished mem n o q b → ReturnFinished mem n o r c → (b ≡ c) × (q ≡ r)
  return-finished {b} {c} x y =
      let same : x.t ≡ y.t = holds_text x.holds y.holds in
      let size : b ≡ c = omega (arith, x.written.after, ap length same, y.written.after) in
      (size, x.written.text ∙ ap (sets o 0) same ∙ sym y.written.text)

  -- a call of `go_back` has one answer, and leaves one content of the lent text
  pub return-unique : (a b : Result ℕ Refusal) (q r : List ℕ) → ReturnAnswers mem n o q a → ReturnAnswers mem n o r b → (a ≡ b) × (q ≡ r)
  return-unique (Err m) (Err k) q r x y = (ap Err (same-number m k (refused-unique (number m) (number k) x.0 y.0)), x.1 ∙ sym y.1)
  return-unique (Err m) (Ok c) q r x y = absurd (held-refused y.holds (number m) y.room x.0)
  return-unique (Ok b) (Err m) q r x y = absurd (held-refused x.holds (number m) x.room y.0)
  return-unique (Ok b) (Ok c) q r x y = let f = return-finished x y in (ap Ok f.0, f.1)
