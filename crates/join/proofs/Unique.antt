-- A call of `join` has one answer, and leaves one content of the lent bytes. Assumes nothing.
use Rattle.std.specs.Prelude.{Result, Ok, Err}
use mathlib.Core.Path.{◌≡◌, refl, sym, ap, ap₂, ◌∙◌}
use mathlib.Core.List.{List}
use Prim.Native.Nat.{ℕ, ◌≤◌, ◌<◌}
use native.Mathlib.Omega.{arith}
use lib.ListN.{length}
use lib.Seq.{sets}
use Rattle.program.specs.Program.{text}
use Rattle.program.proofs.RoundTrip.{taken-unique}
use Rattle.program.proofs.Unique.{refused-unique, taken_refused}
use Rattle.program.specs.declared.Refusal as program-refusal
use Rattle.calls.proofs.Unique.{refuses-unique, refuses-not, same-program, program-numbers}
use Rattle.joining.specs.Joining.{joined}
use Rattle.calls.specs.Refusals.{number_of}
use Rattle.calls.specs.declared.Refusal as calls
use Rattle.calls.specs.declared.Refusal.TheVariants.{Room, Program, Text}
use Rattle.join.specs.Join.{text_bytes, Refused, number, JoinRefused, JoinFinished, About, JoinAnswers}
use Rattle.join.specs.declared.Joined.{Joined}
use Rattle.join.specs.declared.Refusal.{Refusal}
use Rattle.join.specs.declared.Refusal.TheVariants.{Creeper, Long}

module _ (t u o : List ℕ) where
  lent-apart : length o < text_bytes → text_bytes ≤ length o → ⊥
  lent-apart s e = omega arith

  second-unique : (r s : Refusal) → Refused t u r → Refused t u s → r ≡ s
  second-unique (Creeper r) (Creeper s) a b = ap Creeper (refused-unique u r s a b)
  second-unique (Creeper r) Long a b = absurd (taken_refused u b.3 r a)
  second-unique Long (Creeper s) a b = absurd (taken_refused u a.3 s b)
  second-unique Long Long a b = refl

  second-not : {q : List ℕ} {m b : ℕ} → JoinFinished t u o q m b → (r : Refusal) → Refused t u r → ⊥
  second-not f (Creeper r) a = taken_refused u f.creeper r a
  second-not f Long a = omega (arith, a.4, ap length (taken-unique a.2 f.road), ap length (taken-unique a.3 f.creeper), f.few)

  join-not : (n : ℕ) {q : List ℕ} {m b : ℕ} → JoinRefused t u o n → JoinFinished t u o q m b → ⊥
  join-not n r f = refuses-not lent-apart t (Refused t u) number n r f.room f.road (second-not f)

  module _ {m n k l : ℕ} {q r : List ℕ} (a : JoinFinished t u o q m n) (b : JoinFinished t u o r k l) where
    same-road : a.P ≡ b.P
    same-road = taken-unique a.road b.road

    same-creeper : a.Q ≡ b.Q
    same-creeper = taken-unique a.creeper b.creeper

    same_text : text (joined a.P a.Q) ≡ text (joined b.P b.Q)
    same_text = rw (same-road, same-creeper)

    join-finished : (m ≡ k) × (n ≡ l) × (q ≡ r)
    join-finished = (
      omega (arith, a.counted, b.counted, ap length same-road, ap length same-creeper),
      omega (arith, a.written.after, b.written.after, ap length same_text),
      a.written.text ∙ ap (sets o 0) same_text ∙ sym b.written.text,
    )

  -- a refusal is told by its number and by the text that it is about
  same-refusal : (a b : calls.Refusal Refusal) → number_of number a ≡ number_of number b → About t a → About t b → a ≡ b
  same-refusal Room Room e x y = refl
  same-refusal Room (Program s) e x y = absurd (omega (arith, e, (program-numbers s).0))
  same-refusal Room (Text (Creeper s)) e x y = absurd (omega (arith, e, (program-numbers s).0))
  same-refusal Room (Text Long) e x y = absurd (omega (arith, e))
  same-refusal (Program r) Room e x y = absurd (omega (arith, e, (program-numbers r).0))
  same-refusal (Program r) (Program s) e x y = ap Program (same-program r s e)
  same-refusal (Program r) (Text s) e x y = absurd (taken_refused t y.1 r x)
  same-refusal (Text (Creeper r)) Room e x y = absurd (omega (arith, e, (program-numbers r).0))
  same-refusal (Text Long) Room e x y = absurd (omega (arith, e))
  same-refusal (Text r) (Program s) e x y = absurd (taken_refused t x.1 s y)
  same-refusal (Text (Creeper r)) (Text (Creeper s)) e x y = ap (λ (r : program-refusal.Refusal). Text (Creeper r)) (same-program r s e)
  same-refusal (Text (Creeper r)) (Text Long) e x y = absurd (omega (arith, e, (program-numbers r).1))
  same-refusal (Text Long) (Text (Creeper s)) e x y = absurd (omega (arith, e, (program-numbers s).1))
  same-refusal (Text Long) (Text Long) e x y = refl

  -- a call of `join` has one answer, and leaves one content of the lent bytes
  pub join-unique : (a b : Result Joined (calls.Refusal Refusal)) (q r : List ℕ) → JoinAnswers t u o q a → JoinAnswers t u o r b → (a ≡ b) × (q ≡ r)
  join-unique (Err n) (Err m) q r x y =
      (ap Err (same-refusal n m (refuses-unique lent-apart t (Refused t u) number second-unique _ _ x.0 y.0) x.1 y.1), x.2 ∙ sym y.2)
  join-unique (Err n) (Ok j) q r x y = absurd (join-not (number_of number n) x.0 y)
  join-unique (Ok j) (Err n) q r x y = absurd (join-not (number_of number n) y.0 x)
  join-unique (Ok a) (Ok b) q r x y =
      let e = join-finished x y in
      (ap₂ (λ (m n : ℕ). Ok (record { statements = m; bytes = n })) e.0 e.1, e.2)
