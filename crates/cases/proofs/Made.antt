-- A rewriter that computes: the program with the accepted marks made. Assumes nothing.
use mathlib.Core.Path.{◌≡◌, refl, sym, subst, ◌∙◌}
use mathlib.Core.List.{List}
use mathlib.Core.Bool.{Bool, true, false}
use Prim.Native.Nat.{ℕ, zero, suc, ◌≤◌, ◌<◌}
use native.Mathlib.Nat.{not-suc-le-zero}
use native.Mathlib.Omega.{arith}
use lib.Dec.{eqb}
use lib.ListN.{length, get_or, take, set, length-set}
use lib.Seq.{get_or-set_same, get_or-set_other}
use borrow.Author.Tests.{eqb-true, eq-eqb}
use Rattle.language.specs.declared.Statement.{Statement}
use Rattle.language.specs.declared.Statement.TheVariants.{Skip}
use Rattle.program.specs.Program.{at}
use Rattle.base.proofs.Bools.{clash, last-or-below}
use Rattle.marks.specs.declared.Mark.{Mark}
use Rattle.marks.specs.Marks.{names, mark_at}
use Rattle.lockstep.specs.Rules.{makes}
use Rattle.rewriting.specs.Verdicts.{Named, place, Verdicts, Rewritten}
use Rattle.rewriting.proofs.Accepted.{accepted-judged}
use Rattle.verdicts.proofs.Made.{named-earlier}

module _ (P : List Statement) where
  -- Q with the mark made of P's statement, where the test holds
  abbrev make_if : Bool → Mark → List Statement → List Statement
  make_if true m Q = set Q (place m) (makes m (at P (place m)))
  make_if false m Q = Q

  make-length : (b : Bool) (m : Mark) (Q : List Statement) → length (make_if b m Q) ≡ length Q
  make-length true m Q = length-set Q (place m) (makes m (at P (place m)))
  make-length false m Q = refl

  make-here : (b : Bool) (m : Mark) (Q : List Statement) → b ≡ true → place m < length Q → at (make_if b m Q) (place m) ≡ makes m (at P (place m))
  make-here true m Q e l = get_or-set_same Q (place m) (makes m (at P (place m))) Skip l
  make-here false m Q e l = clash e refl

  make-other : (b : Bool) (m : Mark) (Q : List Statement) (s : ℕ) → (b ≡ true → place m ≡ s → ⊥) → at (make_if b m Q) s ≡ at Q s
  make-other true m Q s f = get_or-set_other Q (place m) s (makes m (at P (place m))) Skip (λ e. f refl (sym e))
  make-other false m Q s f = refl

  module _ (ms : List Mark) (vs : List ℕ) where
    abbrev accepted : ℕ → Bool
    accepted j = eqb (get_or vs j 0) 0

    -- the accepted marks of the first n lines are made
    unfoldable pub made : ℕ → List Statement
    made zero = P
    made (suc j) = make_if (accepted j) (mark_at ms j) (made j)

    made-length : (n : ℕ) → length (made n) ≡ length P
    unfolding made
    made-length zero = refl
    made-length (suc n) = make-length (accepted n) (mark_at ms n) (made n) ∙ made-length n

    made_kept : (n s : ℕ) → ((j : ℕ) → j < n → get_or vs j 0 ≡ 0 → place (mark_at ms j) ≡ s → ⊥) → at (made n) s ≡ at P s
    unfolding made
    made_kept zero s f = refl
    made_kept (suc n) s f =
        make-other (accepted n) (mark_at ms n) (made n) s (λ e. f n (omega arith) (eqb-true (get_or vs n 0) 0 e))
        ∙ made_kept n s (λ j l. f j (omega arith))

    module _ (judged : Verdicts P ms vs) where
      -- no two accepted lines name one statement
      apart : (i j : ℕ) → i < j → j < length ms → get_or vs i 0 ≡ 0 → get_or vs j 0 ≡ 0 → place (mark_at ms j) ≡ place (mark_at ms i) → ⊥
      apart i j h l e f p =
          let a = accepted-judged P ms vs judged i (omega arith, e) in
          let b = accepted-judged P ms vs judged j (l, f) in
          let same : names (mark_at ms i) ≡ names (mark_at ms j) = omega (arith, a.0.0, b.0.0) in
          b.1 (subst (Named (take j ms)) same (named-earlier ms i j h (omega arith)))

      made-line : (n : ℕ) → n ≤ length ms → (j : ℕ) → j < n → get_or vs j 0 ≡ 0
          → at (made n) (place (mark_at ms j)) ≡ makes (mark_at ms j) (at P (place (mark_at ms j)))
      unfolding made
      made-line zero h = λ j l. absurd (not-suc-le-zero l)
      made-line (suc n) h =
          last-or-below n
          (λ j. get_or vs j 0 ≡ 0 → at (made (suc n)) (place (mark_at ms j)) ≡ makes (mark_at ms j) (at P (place (mark_at ms j))))
          (λ e.
          let a = accepted-judged P ms vs judged n (omega arith, e) in
          make-here (accepted n) (mark_at ms n) (made n) (eq-eqb (get_or vs n 0) 0 e) (omega (arith, made-length n, a.0.0, a.0.1)))
          (λ j l e.
          make-other (accepted n) (mark_at ms n) (made n) (place (mark_at ms j)) (λ t. apart j n l (omega arith) e (eqb-true (get_or vs n 0) 0 t))
          ∙ made-line n (omega arith) j l e)

      pub made-rewritten : Rewritten P ms vs (made (length ms))
      made-rewritten = record {
        same = made-length (length ms);
        made = λ j a. made-line (length ms) (omega arith) j a.0 a.1;
        kept = λ s l f. made_kept (length ms) s (λ j h e. f j (h, e));
      }
