-- A culprit is a place where a path may end, and a place has one culprit only. Assumes nothing.
use mathlib.Core.Path.{◌≡◌, sym, ◌∙◌}
use mathlib.Core.Logic.{inl, inr}
use mathlib.Core.List.{List}
use Prim.Native.Nat.{ℕ}
use Rattle.language.specs.declared.Expression.{Expression}
use Rattle.language.specs.declared.Expression.TheVariants.{Single}
use Rattle.language.specs.declared.Statement.{Statement}
use Rattle.program.specs.Program.{at}
use Rattle.truth.specs.Truth.{uses_of}
use Rattle.marks.specs.declared.Mark.{Mark}
use Rattle.marks.specs.declared.Mark.TheVariants.{Rm, Rpl, Cse}
use Rattle.refused_marks.specs.RefusedMarks.{UsedBy, SpoiltBy, Culprit}
use Rattle.refused_marks.specs.Ends.{Untouched, Ends}

spoilt-touched : (P : List Statement) (x : ℕ) (e : Expression) (t c : ℕ) → SpoiltBy (at P t) x e t c → ¬ Untouched P x e t
spoilt-touched P x e t c (inl (k, d)) u = u.0 d
spoilt-touched P x e t c (inr (inl (k, n, s))) u = u.1 s
spoilt-touched P x e t c (inr (inr (k, n, m, z))) u = u.2 z

module _ (U : ℕ → ℕ → Type 0) (P : List Statement) (wider : (x t : ℕ) → uses_of P x t → U x t) where
  used-ends : (x t c : ℕ) → UsedBy U P x t c → U x t
  used-ends x t c (inl (k, u)) = wider x t u
  used-ends x t c (inr (k, n, u)) = u

  pub culprit-ends : (m : Mark) (t c : ℕ) → Culprit U P m t c → Ends U P m t
  culprit-ends (Rm n x e) t c h = used-ends x t c h
  culprit-ends (Rpl n x a) t c h = (spoilt-touched P x (Single a) t c h.1, h.0)
  culprit-ends (Cse n x e) t c h = (spoilt-touched P x e t c h.1, h.0)

-- ---- one culprit only

used-one : (U : ℕ → ℕ → Type 0) (P : List Statement) (x t c d : ℕ) → UsedBy U P x t c → UsedBy U P x t d → c ≡ d
used-one U P x t c d (inl a) (inl b) = a.0 ∙ sym b.0
used-one U P x t c d (inl a) (inr b) = absurd (b.1 a.1)
used-one U P x t c d (inr a) (inl b) = absurd (a.1 b.1)
used-one U P x t c d (inr a) (inr b) = a.0 ∙ sym b.0

spoilt-one : (i : Statement) (x : ℕ) (e : Expression) (t c d : ℕ) → SpoiltBy i x e t c → SpoiltBy i x e t d → c ≡ d
spoilt-one i x e t c d (inl a) (inl b) = a.0 ∙ sym b.0
spoilt-one i x e t c d (inl a) (inr (inl b)) = absurd (b.1 a.1)
spoilt-one i x e t c d (inl a) (inr (inr b)) = absurd (b.1 a.1)
spoilt-one i x e t c d (inr (inl a)) (inl b) = absurd (a.1 b.1)
spoilt-one i x e t c d (inr (inl a)) (inr (inl b)) = a.0 ∙ sym b.0
spoilt-one i x e t c d (inr (inl a)) (inr (inr b)) = absurd (b.2 a.2)
spoilt-one i x e t c d (inr (inr a)) (inl b) = absurd (a.1 b.1)
spoilt-one i x e t c d (inr (inr a)) (inr (inl b)) = absurd (a.2 b.2)
spoilt-one i x e t c d (inr (inr a)) (inr (inr b)) = a.0 ∙ sym b.0

pub culprit-unique : (U : ℕ → ℕ → Type 0) (P : List Statement) (m : Mark) (t c d : ℕ) → Culprit U P m t c → Culprit U P m t d → c ≡ d
culprit-unique U P (Rm n x e) t c d a b = used-one U P x t c d a b
culprit-unique U P (Rpl n x y) t c d a b = spoilt-one (at P t) x (Single y) t c d a.1 b.1
culprit-unique U P (Cse n x e) t c d a b = spoilt-one (at P t) x e t c d a.1 b.1
