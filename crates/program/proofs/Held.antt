-- The statements that the code's value of a program holds, and what is known of each. Assumes nothing.
use mathlib.Core.Path.{◌≡◌, refl, ap, ◌∙◌}
use mathlib.Core.List.{List, [], ◌∷◌, map}
use Prim.Native.Nat.{ℕ, zero, suc, ◌+◌, ◌≤◌, ◌<◌}
use native.Mathlib.Omega.{arith}
use borrow.Author.Count.{below_more}
use lib.ListN.{length, take, get_or, length-take, length-map, get_or-map}
use lib.Seq.{get_or-take, length-take-le}
use Rattle.lines.proofs.Texts.{valid-at}
use Rattle.language.specs.Spelling.{Valid}
use Rattle.language.specs.declared.Statement.{Statement}
use Rattle.language.specs.declared.Statement.TheVariants.{Read, Write, Assign, Branch, Skip}
use Rattle.encoding.specs.declared.Entry.{Entry}
use Rattle.encoding.specs.Encoding.{statement_in}
use Rattle.program.specs.Program.{AllValid, at, most, Targets, WellFormed}

-- within a list the default is never asked
pub get_d-within : {A : Type 0} (l : List A) (i : ℕ) (d e : A) → i < length l → get_or l i d ≡ get_or l i e
get_d-within [] i d e h = absurd (omega arith)
get_d-within (a ∷ l) zero d e h = refl
get_d-within (a ∷ l) (suc i) d e h = get_d-within l i d e (omega arith)

pub at-valid : (P : List Statement) (s : ℕ) → AllValid P → s < length P → Valid (at P s)
at-valid P s v h = valid-at Valid P s Skip v h

pub targets-wider : (n m : ℕ) (x : Statement) → n ≤ m → Targets n x → Targets m x
targets-wider n m (Read x) l t = tt
targets-wider n m (Write x) l t = tt
targets-wider n m (Assign x e) l t = tt
targets-wider n m (Branch x a b) l t = ((t.0.0, omega arith), (t.1.0, omega arith))
targets-wider n m Skip l t = tt

-- the entry that code finds past the last
abbrev pub zeros : Entry
zeros = record { head = 0; first = 0; second = 0 }

-- the statement in the code's entry at place s
abbrev pub held : List Entry → ℕ → Statement
held es s = statement_in (get_or es s zeros)

-- the statement at a place is the one in the entry there, and what is known of it
module _ (es : List Entry) (n s : ℕ) (inside : s < length (map statement_in (take n es))) where
  pub at_held : at (map statement_in (take n es)) s ≡ held es s
  at_held =
      let front = take n es in
      let below : s < n = omega (arith, length-map front statement_in, length-take n es) in
      get_d-within (map statement_in front) s Skip (statement_in zeros) inside ∙ get_or-map statement_in front s zeros
      ∙ ap statement_in (get_or-take n es s zeros below)

  pub held-valid : WellFormed (map statement_in (take n es)) → Valid (held es s)
  held-valid w = rw at_held at (at-valid (map statement_in (take n es)) s w.valid inside)

  pub held-targets : WellFormed (map statement_in (take n es)) → Targets most (held es s)
  held-targets w =
      rw at_held at (targets-wider (length (map statement_in (take n es))) most (at (map statement_in (take n es)) s) w.counted.1 (w.aimed s inside))

pub length-held : (es : List Entry) (n : ℕ) → n ≤ length es → length (map statement_in (take n es)) ≡ n
length-held es n fits = length-map (take n es) statement_in ∙ length-take-le n es fits

-- the claim holds of the statements before place s
abbrev pub SoFar : (ℕ → ℕ → Statement → Type 0) → List Entry → ℕ → ℕ → Type 0
SoFar Q es n s = (j : ℕ) → j < s → Q n j (at (map statement_in (take n es)) j)

-- a claim of each statement, looked at from the first on
module _ (Q : ℕ → ℕ → Statement → Type 0) (es : List Entry) (n : ℕ) (fits : n ≤ length es) where
  pub so_far_more : (s : ℕ) → s < n → SoFar Q es n s → Q n s (held es s) → SoFar Q es n (s + 1)
  so_far_more s h f q = below_more _ s f (rw (at_held es n s (rw (length-held es n fits) h)) q)

  abbrev Each : Type 0
  Each = (s : ℕ) → s < length (map statement_in (take n es)) → Q (length (map statement_in (take n es))) s (at (map statement_in (take n es)) s)

  pub each_holds : (s : ℕ) → n ≤ s → SoFar Q es n s → Each
  each_holds s h f = rw (length-held es n fits) (λ j l. f j (omega arith))

  pub each-fails : (s : ℕ) → s < n → (Q n s (held es s) → ⊥) → Each → ⊥
  each-fails s h f all =
      f (rw (at_held es n s (rw (length-held es n fits) h)) at ((rw (length-held es n fits) at all) s h))
