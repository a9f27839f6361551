-- A run keeps all its values. Assumes nothing.
use mathlib.Core.Path.{◌≡◌, ◌∙◌}
use mathlib.Core.List.{List}
use Prim.Native.Nat.{ℕ, zero, suc}
use lib.ListN.{length, length-set}
use Rattle.language.specs.declared.Statement.{Statement}
use Rattle.language.specs.declared.Statement.TheVariants.{Read, Write, Assign, Branch, Skip}
use Rattle.program.specs.Program.{at}
use Rattle.std.specs.Prelude.{Option, None, Some}
use Rattle.machine.proofs.Runs.{Stands}
use Rattle.machine.specs.Machine.{State, before, ended, stored, value, perform, step_from, after}

-- a run that stands before a statement has n values
abbrev Whole : ℕ → State → Type 0
Whole n (before s vs) = length vs ≡ n
Whole n (ended v) = Unit

stored-whole : (n : ℕ) (g : Option ℕ) (x s : ℕ) (vs : List ℕ) → length vs ≡ n → Whole n (stored g x s vs)
stored-whole n (Some v) x s vs l = length-set vs x v ∙ l
stored-whole n None x s vs l = tt

perform-whole : (n : ℕ) (i : Statement) (input s : ℕ) (vs : List ℕ) → length vs ≡ n → Whole n (perform i input s vs)
perform-whole n (Read x) input s vs l = length-set vs x input ∙ l
perform-whole n (Write x) input s vs l = tt
perform-whole n (Assign x e) input s vs l = stored-whole n (value vs e) x s vs l
perform-whole n (Branch x m k) input s vs l = l
perform-whole n Skip input s vs l = l

step-whole : (n : ℕ) (P : List Statement) (input : ℕ) (a : State) → Whole n a → Whole n (step_from P input a)
step-whole n P input (before s vs) l = perform-whole n (at P s) input s vs l
step-whole n P input (ended v) l = tt

after-whole : {n : ℕ} (P : List Statement) (vs : List ℕ) (input k : ℕ) → length vs ≡ n → Whole n (after P vs input k)
unfolding after
after-whole P vs input zero l = l
after-whole {n} P vs input (suc k) l = step-whole n P input (after P vs input k) (after-whole P vs input k l)

pub values-kept : {n : ℕ} {P : List Statement} {vs : List ℕ} {input k s : ℕ} {ws : List ℕ} → length vs ≡ n → Stands P vs input k s ws → length ws ≡ n
values-kept {n} {P} {vs} {input} {k} l h = rw h.state at (after-whole P vs input k l)
