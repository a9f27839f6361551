-- The program with the accepted marks made is the given one with some changes: a mark whose verdict byte is 0 fits its statement and has
-- its condition true there. Assumes nothing.
use mathlib.Core.Path.{◌≡◌, refl, sym, subst}
use mathlib.Core.Logic.{inl, inr}
use mathlib.Core.List.{List}
use Prim.Native.Nat.{ℕ, ◌<◌}
use lib.ListN.{length, take}
use Rattle.language.specs.declared.Statement.{Statement}
use Rattle.program.specs.Program.{at}
use Rattle.truth.specs.Truth.{uses_of, SatBy}
use Rattle.marks.specs.Marks.{AllValid, mark_at}
use Rattle.marks.specs.declared.Mark.{Mark}
use Rattle.marks.specs.declared.Mark.TheVariants.{Rm, Rpl, Cse}
use Rattle.marks.proofs.Walk.{at-valid}
use Rattle.lockstep.specs.Rules.{Fits, published, makes}
use Rattle.rewriting.specs.Verdicts.{place, Judged, Reuses, Widened, Verdicts, Rewritten}
use Rattle.rewriting.specs.declared.Verdict.TheVariants.{Accepted}
use Rattle.rewriting.proofs.Accepted.{Made, made-decided, accepted-judged}
use Rattle.rewriting.proofs.Uses.{cse-judged}
use Rattle.lockstep.specs.Lockstep.{Counted, Change, Changed}

-- an accepted `cse` adds its use
accepted-counted : (P : List Statement) (ms : List Mark) (j : ℕ) → j < length ms → (m : Mark) → mark_at ms j ≡ m
    → Judged (Widened P ms) P (take j ms) m Accepted → Counted (Widened P ms) m (place m)
accepted-counted P ms j l (Rm n x e) is h = tt
accepted-counted P ms j l (Rpl n x a) is h = tt
accepted-counted P ms j l (Cse n t e) is h =
    inr (j, l, subst (λ (m : Mark). Reuses P (take j ms) m t (place (Cse n t e))) (sym is) (refl, refl, cse-judged (Widened P ms) (uses_of P) P (take j ms) n t e Accepted h))

module _ (P : List Statement) (ms : List Mark) (vs : List ℕ) (judged : Verdicts P ms vs) where
  pub rewritten-changed : (Q : List Statement) → AllValid ms → Rewritten P ms vs Q → Changed (Widened P ms) P Q
  rewritten-changed Q valid r = record { same = r.same; wide = λ x s u. inl u; changes = λ s l. by s l (made-decided ms vs s) }
    where
      by : (s : ℕ) → s < length P → Dec (Made ms vs s) → Change (Widened P ms) P s (at Q s)
      by s l (yes (j, accepts, here)) =
          let m = mark_at ms j in
          let h = accepted-judged P ms vs judged j accepts in
          inr (
            m,
            at-valid ms j _ valid accepts.0,
            subst (λ (t : ℕ). Fits m (at P t)) here h.2,
            h.3,
            subst (SatBy (Widened P ms) P (published m)) here h.4,
            subst (Counted (Widened P ms) m) here (accepted-counted P ms j accepts.0 m refl h),
            subst (λ (t : ℕ). at Q t ≡ makes m (at P t)) here (r.made j accepts),
          )
      by s l (no none) = inl (r.kept s l (λ j a e. none (j, a, e)))
