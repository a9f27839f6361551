-- Accepted marks, from their verdict bytes: which they are, and that the program with them made is one only. Assumes nothing.
use mathlib.Core.Path.{◌≡◌, refl, sym, ◌∙◌, subst}
use mathlib.Core.Bool.{Bool, true, false, ◌&&◌}
use mathlib.Core.Logic.{⊎_elim}
use mathlib.Core.List.{List}
use Prim.Native.Nat.{ℕ, ◌<◌}
use native.Mathlib.Omega.{arith}
use lib.Dec.{eqb}
use lib.ListN.{length, get_or, take}
use lib.Seq.{ext_get_or}
use borrow.Author.Tests.{eqb-true, eq-eqb}
use Rattle.base.proofs.Bools.{clash, and_left, and_right, and_both, find-below}
use Rattle.language.specs.declared.Statement.{Statement}
use Rattle.language.specs.declared.Statement.TheVariants.{Skip}
use Rattle.program.specs.Program.{at}
use Rattle.marks.specs.declared.Mark.{Mark}
use Rattle.marks.specs.Marks.{mark_at}
use Rattle.rewriting.specs.Verdicts.{number, place, Judged, Widened, Verdicts, Accepts, Rewritten}
use Rattle.rewriting.specs.declared.Verdict.{Verdict}
use Rattle.rewriting.specs.declared.Verdict.TheVariants.{Accepted, Missing, Repeated, Unfit, MayFault, Unmet}

module _ (U : ℕ → ℕ → Type 0) (P : List Statement) (earlier : List Mark) (m : Mark) where
  -- 0 is the number of no other verdict
  pub zero-accepted : (v : Verdict) → number v ≡ 0 → Judged U P earlier m v → Judged U P earlier m Accepted
  zero-accepted Accepted e h = h
  zero-accepted Missing e h = absurd (omega arith)
  zero-accepted Repeated e h = absurd (omega arith)
  zero-accepted Unfit e h = absurd (omega arith)
  zero-accepted MayFault e h = absurd (omega arith)
  zero-accepted Unmet e h = absurd (omega arith)

  -- and no other is right beside it
  pub accepted-zero : (v : Verdict) → Judged U P earlier m Accepted → Judged U P earlier m v → number v ≡ 0
  accepted-zero Accepted a h = refl
  accepted-zero Missing a h = absurd (h a.0)
  accepted-zero Repeated a h = absurd (a.1 h.1)
  accepted-zero Unfit a h = absurd (h.2 a.2)
  accepted-zero MayFault a h = absurd (h.3 a.3)
  accepted-zero Unmet a h = absurd (h.4 a.4)

-- an accepted line names the statement at place s
abbrev pub Made : List Mark → List ℕ → ℕ → Type 0
Made ms vs s = (j : ℕ) × Accepts ms vs j × (place (mark_at ms j) ≡ s)

-- by a search of the lines
pub made-decided : (ms : List Mark) (vs : List ℕ) (s : ℕ) → Dec (Made ms vs s)
made-decided ms vs s = ⊎_elim (λ w. yes (found w)) (λ none. no (unfound none)) (find-below (length ms) (λ j. accepted j && named j))
  where
    accepted : ℕ → Bool
    accepted j = eqb (get_or vs j 0) 0

    named : ℕ → Bool
    named j = eqb (place (mark_at ms j)) s

    found : (j : ℕ) × (j < length ms) × ((accepted j && named j) ≡ true) → Made ms vs s
    found (j, l, e) = (
      j,
      (l, eqb-true (get_or vs j 0) 0 (and_left (accepted j) (named j) e)),
      eqb-true (place (mark_at ms j)) s (and_right (accepted j) (named j) e),
    )

    unfound : ((j : ℕ) → j < length ms → (accepted j && named j) ≡ false) → ¬ Made ms vs s
    unfound none (j, (l, byte), here) =
        clash (and_both (accepted j) (named j) (eq-eqb (get_or vs j 0) 0 byte) (eq-eqb (place (mark_at ms j)) s here)) (none j l)

module _ (P : List Statement) (ms : List Mark) (vs : List ℕ) (judged : Verdicts P ms vs) where
  -- "that byte is 0 exactly where none of 11 to 14", nor document 02's 18, "applies"
  pub accepted-judged : (j : ℕ) → Accepts ms vs j → Judged (Widened P ms) P (take j ms) (mark_at ms j) Accepted
  accepted-judged j (l, byte) =
      let v = judged j l in zero-accepted (Widened P ms) P (take j ms) (mark_at ms j) v.0 (sym v.2 ∙ byte) v.1

  pub judged-accepted : (j : ℕ) → j < length ms → Judged (Widened P ms) P (take j ms) (mark_at ms j) Accepted → Accepts ms vs j
  judged-accepted j l h = let v = judged j l in (l, v.2 ∙ accepted-zero (Widened P ms) P (take j ms) (mark_at ms j) v.0 h v.1)

-- the verdict bytes leave no choice of the program
pub rewritten-unique : {P Q R : List Statement} {ms : List Mark} {vs : List ℕ} → Rewritten P ms vs Q → Rewritten P ms vs R → Q ≡ R
rewritten-unique {P} {Q} {R} {ms} {vs} q r =
    ext_get_or Skip Q R (q.same ∙ sym r.same) (λ s l. by s (rw q.same at l) (made-decided ms vs s))
  where
    by : (s : ℕ) → s < length P → Dec (Made ms vs s) → at Q s ≡ at R s
    by s l (yes (j, accepts, here)) = subst (λ (t : ℕ). at Q t ≡ at R t) here (q.made j accepts ∙ sym (r.made j accepts))
    by s l (no none) = q.kept s l (λ j a e. none (j, a, e)) ∙ sym (r.kept s l (λ j a e. none (j, a, e)))
