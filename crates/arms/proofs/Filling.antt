-- The arms, as they are filled in from the first statement on. Assumes nothing.
use mathlib.Core.Path.{◌≡◌, refl, sym, ap, ◌∙◌}
use mathlib.Core.List.{List}
use mathlib.Core.Bool.{Bool}
use Prim.Native.Nat.{ℕ, ◌+◌, ◌≤◌, ◌<◌}
use native.Mathlib.Omega.{arith}
use lib.ListN.{length, get_or, set, length-set}
use lib.Seq.{get_or-set_same, get_or-set_other}
use borrow.Author.Count.{below_more, below_none}
use Rattle.language.specs.declared.Statement.{Statement}
use Rattle.encoding.specs.declared.Entry.{Entry}
use Rattle.program.specs.declared.Program.{Program}
use Rattle.program.specs.Program.{at, Targets, WellFormed}
use Rattle.program.specs.Reading.{statements, Held}
use Rattle.program.proofs.Held.{held, at_held, targets-wider}
use Rattle.flow.proofs.Successors.{statements-size}
use Rattle.arms.specs.Arms.{arm_at, ArmsOf}

-- the statements before place s have their arms, and what stands from there on is as it was
pub record Filled (es : List Entry) (mine : ℕ → Bool) (numbers arms₀ arms : List ℕ) (s : ℕ) : Type 0 where
  pub size : length arms ≡ length arms₀
  pub done : (j : ℕ) → j < s → get_or arms j 0 ≡ arm_at (held es j) (mine j) numbers j
  pub kept : (j : ℕ) → s ≤ j → get_or arms j 0 ≡ get_or arms₀ j 0

module _ (es : List Entry) (mine : ℕ → Bool) (numbers arms₀ : List ℕ) where
  pub filled_none : Filled es mine numbers arms₀ arms₀ 0
  filled_none = record { size = refl; done = below_none _; kept = λ j l. refl }

  pub filled_more : (arms : List ℕ) (s v : ℕ) (own : Bool) → Filled es mine numbers arms₀ arms s → s < length arms → own ≡ mine s → v ≡ arm_at (held es s) own numbers s → Filled es mine numbers arms₀ (set arms s v) (s + 1)
  filled_more arms s v own w l m e = record {
    size = length-set arms s v ∙ w.size;
    done = below_more (λ j. get_or (set arms s v) j 0 ≡ arm_at (held es j) (mine j) numbers j) s (λ j b. get_or-set_other arms s j v 0 (omega arith) ∙ w.done j b)
        (get_or-set_same arms s v 0 l ∙ e ∙ ap (λ (o : Bool). arm_at (held es s) o numbers s) m);
    kept = λ j b. get_or-set_other arms s j v 0 (omega arith) ∙ w.kept j (omega arith);
  }

module _ (p : Program) (h : Held p) where
  pub filled-arms : (mine : ℕ → Bool) (numbers arms₀ arms : List ℕ) (s : ℕ) → p.count ≤ s → Filled p.entries mine numbers arms₀ arms s → ArmsOf (statements p) mine numbers arms
  filled-arms mine numbers arms₀ arms s past w j l =
      w.done j (omega (arith, statements-size p h)) ∙ ap (λ (x : Statement). arm_at x (mine j) numbers j) (sym (at_held p.entries p.count j l))

  pub entry-targets : WellFormed (statements p) → (m s : ℕ) → p.count ≤ m → s < p.count → Targets m (held p.entries s)
  entry-targets w m s room l =
      let inside : s < length (statements p) = omega (arith, statements-size p h) in
      rw (at_held p.entries p.count s inside) at (targets-wider (length (statements p)) m (at (statements p) s) (omega (arith, statements-size p h)) (w.aimed s inside))
