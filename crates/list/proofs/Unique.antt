-- A call of `list` has one answer, tells one count of each set, and leaves one list. Assumes nothing.
use mathlib.Core.Path.{◌≡◌, refl, sym, ap, ◌∙◌, subst}
use mathlib.Core.Logic.{inl, inr}
use mathlib.Core.List.{List}
use Prim.Native.Nat.{ℕ, ◌≤◌, ◌<◌}
use native.Mathlib.Decide.{dec_lt}
use native.Mathlib.Omega.{arith}
use lib.ListN.{length, get_or}
use lib.Seq.{ext_get_or}
use Rattle.language.specs.declared.Statement.{Statement}
use Rattle.program.proofs.RoundTrip.{taken-unique}
use Rattle.program.proofs.Unique.{refused-unique, taken_refused}
use Rattle.program.specs.Program.{Taken}
use Rattle.program.specs.Reading as program
use Rattle.listing.proofs.Counts.{counted-unique}
use Rattle.listing.proofs.Relisted.{Words, lists_agree}
use Rattle.listing.specs.Listing.{list_words, ListOf, Counted}
use Rattle.std.specs.Prelude.{Result, Ok, Err}
use Rattle.listing.specs.declared.Ones.{Ones}
use Rattle.calls.proofs.Unique.{same-program, program-numbers}
use Rattle.list.specs.declared.Refusal.{Refusal}
use Rattle.list.specs.declared.Refusal.TheVariants.{Room, Program}
use Rattle.list.specs.List.{number, ListRefused, ListMade, ListAnswers}

-- a number is that of one refusal only
same-number : (r s : Refusal) → number r ≡ number s → r ≡ s
same-number Room Room e = refl
same-number Room (Program s) e = absurd (omega (arith, e, (program-numbers s).0))
same-number (Program r) Room e = absurd (omega (arith, e, (program-numbers r).0))
same-number (Program r) (Program s) e = ap Program (same-program r s e)

module _ (t old : List ℕ) where
  number-unique : {n m : ℕ} → ListRefused t old n → ListRefused t old m → n ≡ m
  number-unique (inl a) (inl b) = a.1 ∙ sym b.1
  number-unique (inl a) (inr b) = absurd (omega (arith, a.0, b.0))
  number-unique (inr a) (inl b) = absurd (omega (arith, a.0, b.0))
  number-unique (inr a) (inr b) = a.3 ∙ ap program.number (refused-unique t a.1 b.1 a.2 b.2) ∙ sym b.3

  -- a call with enough words and a text that is taken isn't refused
  pub never-refused : {n : ℕ} {P : List Statement} → ListRefused t old n → list_words ≤ length old → Taken t P → ⊥
  never-refused (inl r) room taken = omega (arith, r.0)
  never-refused (inr r) room taken = taken_refused t taken r.1 r.2

  module _ {new other d u e v : List ℕ} (a : ListMade t old new d u) (b : ListMade t old other e v) where
    list-made : Words new → Words other → (new ≡ other) × (d ≡ e) × (u ≡ v)
    list-made w x =
        let counts = counted-unique a.counted (subst (λ (l : List ℕ). Counted l e v) (sym same) b.counted) in
        (same, counts.0, counts.1)
      where
        made : ListOf a.P other
        made = subst (λ (P : List Statement). ListOf P other) (taken-unique b.program a.program) b.made

        same : new ≡ other
        same = ext_get_or 0 new other (a.same ∙ sym b.same) (λ m _. go m (dec_lt m list_words))
          where
            go : (m : ℕ) → Dec (m < list_words) → get_or new m 0 ≡ get_or other m 0
            go m (yes l) = lists_agree w x a.made made m l
            go m (no l) = a.past m (omega arith) ∙ sym (b.past m (omega arith))

  -- a call of `list` has one answer, tells one count of each set, and leaves one list
  pub list-unique : (a b : Result Ones Refusal) (new other : List ℕ) → Words new → Words other → ListAnswers t old new a → ListAnswers t old other b
      → (a ≡ b) × (new ≡ other)
  list-unique (Err r) (Err s) new other w x p q = (ap Err (same-number r s (number-unique p.0 q.0)), p.1 ∙ sym q.1)
  list-unique (Err r) (Ok d) new other w x p q = absurd (never-refused p.0 q.room q.program)
  list-unique (Ok c) (Err s) new other w x p q = absurd (never-refused q.0 p.room p.program)
  list-unique (Ok c) (Ok d) new other w x p q = let s = list-made p q w x in (ap Ok (λ i. record { defined = s.1 i; used = s.2 i }), s.0)
