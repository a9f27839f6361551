-- A call of `relist` has one answer, tells one count of each set, and leaves one list. Assumes nothing.
use mathlib.Core.Path.{◌≡◌, sym, ap, ◌∙◌, subst}
use mathlib.Core.List.{List}
use Prim.Native.Nat.{ℕ, ◌≤◌, ◌<◌}
use native.Mathlib.Omega.{arith}
use lib.ListN.{length}
use Rattle.program.proofs.RoundTrip.{taken-unique}
use Rattle.listing.proofs.Counts.{counted-unique}
use Rattle.listing.proofs.Relisted.{Words, updated-unique}
use Rattle.listing.specs.Listing.{list_words, Updated, Counted}
use Rattle.std.specs.Prelude.{Result, Ok, Err}
use Rattle.listing.specs.declared.Ones.{Ones}
use Rattle.marks.specs.declared.Refusal as marks-refusal
use Rattle.calls.specs.declared.Refusal.{Refusal}
use Rattle.marks.proofs.Lists as marks-unique
use Rattle.marks.specs.Reading as marks
use Rattle.rewriting.proofs.Unique.{rewritten-agree}
use Rattle.rewriting.specs.Verdicts.{Verdicts, Rewritten}
use Rattle.calls.proofs.Unique.{refuses-unique, refuses-not, same-refusal}
use Rattle.relist.specs.Relist.{RelistRefused, RelistMade, RelistAnswers}

module _ (t u old : List ℕ) where
  words-apart : length old < list_words → list_words ≤ length old → ⊥
  words-apart s e = omega arith

  module _ {new other d c e v : List ℕ} (a : RelistMade t u old new d c) (b : RelistMade t u old other e v) where
    same-given : b.P ≡ a.P
    same-given = taken-unique b.program a.program

    same-marks : b.ms ≡ a.ms
    same-marks = marks-unique.taken-unique b.marks a.marks

    same-rewritten : b.Q ≡ a.Q
    same-rewritten =
        let judged : Verdicts a.P a.ms b.vs = rw (← same-given, ← same-marks) b.judged in
        let rewritten : Rewritten a.P a.ms b.vs b.Q = rw (← same-given, ← same-marks) b.rewritten in
        rewritten-agree a.P a.ms b.vs a.vs judged a.judged rewritten a.rewritten

    relist-made : Words new → Words other → (new ≡ other) × (d ≡ e) × (c ≡ v)
    relist-made w x =
        let counts = counted-unique a.counted (subst (λ (l : List ℕ). Counted l e v) (sym same) b.counted) in
        (same, counts.0, counts.1)
      where
        updated : Updated a.P a.Q old other
        updated = rw (← same-given, ← same-rewritten) b.updated

        same : new ≡ other
        same = updated-unique w x a.updated updated

  relist-refused : (n m : ℕ) → RelistRefused t u old n → RelistRefused t u old m → n ≡ m
  relist-refused = refuses-unique words-apart t (marks.Refused u) marks.number (marks-unique.refused-unique u)

  relist-not : (n : ℕ) {new d c : List ℕ} → RelistRefused t u old n → RelistMade t u old new d c → ⊥
  relist-not n r f = refuses-not words-apart t (marks.Refused u) marks.number n r f.room f.program (marks-unique.taken_refused f.marks)

  -- a call of `relist` has one answer, tells one count of each set, and leaves one list
  pub relist-unique : (a b : Result Ones (Refusal marks-refusal.Refusal)) (new other : List ℕ) → Words new → Words other
      → RelistAnswers t u old new a → RelistAnswers t u old other b → (a ≡ b) × (new ≡ other)
  relist-unique (Err r) (Err s) new other w x p q =
      (ap Err (same-refusal marks.number marks-unique.same-number marks-unique.numbers-above r s (relist-refused _ _ p.0 q.0)), p.1 ∙ sym q.1)
  relist-unique (Err r) (Ok d) new other w x p q = absurd (relist-not _ p.0 q)
  relist-unique (Ok c) (Err s) new other w x p q = absurd (relist-not _ q.0 p)
  relist-unique (Ok c) (Ok d) new other w x p q = let s = relist-made p q w x in (ap Ok (λ i. record { defined = s.1 i; used = s.2 i }), s.0)
