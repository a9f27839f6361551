-- What counts as used plays no part in a verdict, but for an `rm` that comes to its condition. Assumes nothing.
use mathlib.Core.List.{List}
use mathlib.Core.Logic.{◌↔◌}
use Prim.Native.Nat.{ℕ}
use lib.ListN.{length}
use Rattle.language.specs.declared.Operand.{Operand}
use Rattle.language.specs.declared.Expression.{Expression}
use Rattle.language.specs.declared.Statement.{Statement}
use Rattle.truth.specs.Truth.{SatBy}
use Rattle.truth.proofs.By.{use-free, uses-same}
use Rattle.marks.specs.Marks.{names}
use Rattle.marks.specs.declared.Mark.{Mark}
use Rattle.marks.specs.declared.Mark.TheVariants.{Rm, Rpl, Cse}
use Rattle.lockstep.specs.Rules.{published}
use Rattle.rewriting.specs.Verdicts.{Inside, place, Judged}
use Rattle.rewriting.specs.declared.Verdict.{Verdict}
use Rattle.rewriting.specs.declared.Verdict.TheVariants.{Accepted, Missing, Repeated, Unfit, MayFault, Unmet}

module _ (U W : ℕ → ℕ → Type 0) (P : List Statement) (earlier : List Mark) where
  -- a mark whose condition means the same by both, if its statement is one of the program's
  pub judged-same :
      (m : Mark) → (Inside (length P) (names m) → SatBy U P (published m) (place m) ↔ SatBy W P (published m) (place m))
      → (v : Verdict) → Judged U P earlier m v → Judged W P earlier m v
  judged-same m f Missing h = h
  judged-same m f Repeated h = h
  judged-same m f Unfit h = h
  judged-same m f MayFault h = h
  judged-same m f Unmet h = (h.0, h.1, h.2, h.3, λ x. h.4 ((f h.0).1 x))
  judged-same m f Accepted h = (h.0, h.1, h.2, h.3, (f h.0).0 h.4)

  -- so by relations that say the same
  pub judged-as : ((x s : ℕ) → U x s ↔ W x s) → (m : Mark) (v : Verdict) → Judged U P earlier m v → Judged W P earlier m v
  judged-as f m v h = judged-same m (λ i. uses-same U W P (published m) f (place m)) v h

  -- the conditions of `rpl` and `cse` have no `use`
  pub rpl-judged : (n x : ℕ) (a : Operand) (v : Verdict) → Judged U P earlier (Rpl n x a) v → Judged W P earlier (Rpl n x a) v
  rpl-judged n x a v h = judged-same (Rpl n x a) (λ i. use-free U W P (published (Rpl n x a)) (((tt, tt), tt), tt) (place (Rpl n x a))) v h

  pub cse-judged : (n t : ℕ) (e : Expression) (v : Verdict) → Judged U P earlier (Cse n t e) v → Judged W P earlier (Cse n t e) v
  cse-judged n t e v h = judged-same (Cse n t e) (λ i. use-free U W P (published (Cse n t e)) (((tt, tt), tt), (tt, tt)) (place (Cse n t e))) v h
