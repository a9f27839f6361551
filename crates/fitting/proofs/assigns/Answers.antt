-- `assigns` meets its contract: what a statement assigns to is the first number of its code. Assumes nothing.
use Rattle.language.specs.declared.Statement.{Statement}
use Rattle.language.specs.declared.Statement.TheVariants.{Assign}
use mathlib.Core.Path.{◌≡◌, refl, sym, ◌∙◌, ap}
use Prim.Native.Nat.{ℕ}
use Rattle.base.proofs.Decides.{decides-same}
use Rattle.language.specs.declared.Expression.{Expression}
use Rattle.language.specs.declared.Expression.TheVariants.{Single, Binary}
use Rattle.codes.specs.Codes.{statement_code}
use Rattle.fitting.proofs.assigns.Goals as goal

first-assigned : (z : ℕ) (e : Expression) → (statement_code (Assign z e)).first ≡ z
first-assigned z (Single a) = refl
first-assigned z (Binary a o b) = refl

-- the variable is the only one that there can be
only : (i : Statement) (x : ℕ) (e : Expression) → x ≡ (statement_code i).first → (z : ℕ) × (i ≡ Assign z e) → i ≡ Assign x e
only i x e is (z, q) =
    q ∙ ap (λ (y : ℕ). Assign y e) (sym (is ∙ ap (λ (j : Statement). (statement_code j).first) q ∙ first-assigned z e))

pub returns : goal.returns
returns c =
    decides-same c.same_statement.result (λ h. (c.variable_of.result, h)) (only c.args.i c.variable_of.result c.args.e c.variable_of.ensures) c.same_statement.ensures
