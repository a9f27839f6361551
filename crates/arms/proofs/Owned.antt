-- The places at which the driver picks, found from the first statement on. Assumes nothing.
use mathlib.Core.Path.{◌≡◌, refl, sym, ap, ◌∙◌}
use mathlib.Core.Bool.{Bool, true, false, ◌||◌}
use mathlib.Core.List.{List}
use Prim.Native.Nat.{ℕ, ◌+◌, ◌≤◌, ◌<◌}
use native.Mathlib.Omega.{arith}
use lib.Dec.{eqb}
use borrow.Author.Count.{below_more, below_none}
use Rattle.encoding.specs.declared.Entry.{Entry}
use Rattle.program.specs.declared.Program.{Program}
use Rattle.language.specs.declared.Statement.{Statement}
use Rattle.language.specs.declared.Statement.TheVariants.{Read, Write, Assign, Branch, Skip}
use Rattle.language.specs.Spelling.{Valid}
use Rattle.program.specs.Program.{at, WellFormed}
use Rattle.program.specs.Reading.{statements, Held}
use Rattle.program.proofs.Held.{held, at_held, held-valid}
use Rattle.ctl.proofs.Reach.{more-self, more-other}
use Rattle.flow.proofs.Successors.{statements-size}
use Rattle.arms.specs.Arms.{asks, his}

-- the statements before place s were looked at
pub record Owned (es : List Entry) (named own : ℕ → Bool) (s : ℕ) : Type 0 where
  pub done : (j : ℕ) → j < s → own j ≡ asks named (held es j)
  pub rest : (j : ℕ) → s ≤ j → own j ≡ false

module _ {es : List Entry} {named own : ℕ → Bool} where
  pub owned-none : ((j : ℕ) → own j ≡ false) → Owned es named own 0
  owned-none e = record { done = below_none _; rest = λ j _. e j }

  module _ {s : ℕ} (w : Owned es named own s) where
    pub owned-out : asks named (held es s) ≡ false → Owned es named own (s + 1)
    owned-out e = record { done = below_more (λ j. own j ≡ asks named (held es j)) s w.done (w.rest s (omega arith) ∙ sym e); rest = λ j l. w.rest j (omega arith) }

    pub owned_in : {own' : ℕ → Bool} → ((j : ℕ) → own' j ≡ (own j || eqb s j)) → asks named (held es s) ≡ true → Owned es named own' (s + 1)
    owned_in {own' = own'} add e = record {
      done = below_more (λ j. own' j ≡ asks named (held es j)) s (λ j l. other j (omega arith) ∙ w.done j l) (more-self own own' s add ∙ sym e);
      rest = λ j l. other j (omega arith) ∙ w.rest j (omega arith);
    }
      where
        other : (j : ℕ) → (s ≡ j → ⊥) → own' j ≡ own j
        other = more-other own own' s add

module _ (p : Program) (h : Held p) where
  pub entry-valid : WellFormed (statements p) → (s : ℕ) → s < p.count → Valid (held p.entries s)
  entry-valid w s l = held-valid p.entries p.count s (omega (arith, statements-size p h)) w

  pub owned-his : {named own : ℕ → Bool} {s : ℕ} → p.count ≤ s → Owned p.entries named own s → (j : ℕ) → j < p.count → own j ≡ his (statements p) named j
  owned-his {named = named} past w j l = w.done j (omega arith) ∙ ap (asks named) (sym (at_held p.entries p.count j (omega (arith, statements-size p h))))

-- the same variables, named otherwise
asks-same : {f g : ℕ → Bool} → ((x : ℕ) → f x ≡ g x) → (x : Statement) → asks f x ≡ asks g x
asks-same e (Read x) = refl
asks-same e (Write x) = refl
asks-same e (Assign x y) = refl
asks-same e (Branch x n m) = e x
asks-same e Skip = refl

pub his-same : (P : List Statement) {f g : ℕ → Bool} → ((x : ℕ) → f x ≡ g x) → (s : ℕ) → his P f s ≡ his P g s
his-same P e s = asks-same e (at P s)
