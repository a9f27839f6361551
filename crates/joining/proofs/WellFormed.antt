-- The joined program is a program: its statements are valid, stand in their places and have their targets in it. Assumes nothing.
use mathlib.Core.Path.{◌≡◌}
use mathlib.Core.List.{List, [], ◌∷◌, map}
use Prim.Native.Nat.{ℕ, zero, suc, ◌+◌, ◌-◌, ◌≤◌, ◌<◌}
use native.Mathlib.Omega.{arith}
use lib.ListN.{length, take, drop}
use Rattle.lines.proofs.Texts.{valid-append}
use Rattle.language.specs.Spelling.{ValidVariable, Valid}
use Rattle.language.specs.declared.Statement.{Statement}
use Rattle.language.specs.declared.Statement.TheVariants.{Read, Write, Assign, Branch, Skip}
use Rattle.program.specs.Program.{at, most, AllValid, InPlace, Targets, WellFormed}
use Rattle.program.proofs.Held.{at-valid, targets-wider}
use Rattle.joining.specs.Joining.{moved, writes, reads, joined}
use Rattle.joining.proofs.Statements.{joined_length, each}

-- ---- what is valid

writes-valid : (i : Statement) → Valid i → ValidVariable (writes i)
writes-valid (Read x) v = omega arith
writes-valid (Write x) v = v
writes-valid (Assign x e) v = omega arith
writes-valid (Branch x n m) v = omega arith
writes-valid Skip v = omega arith

reads-valid : (i : Statement) → Valid i → ValidVariable (reads i)
reads-valid (Read x) v = v
reads-valid (Write x) v = omega arith
reads-valid (Assign x e) v = omega arith
reads-valid (Branch x n m) v = omega arith
reads-valid Skip v = omega arith

moved-valid : (d n : ℕ) (i : Statement) → d + n ≤ most → Valid i → Targets n i → Valid (moved d i)
moved-valid d n (Read x) h v t = v
moved-valid d n (Write x) h v t = v
moved-valid d n (Assign x e) h v t = v
moved-valid d n (Branch x a b) h v t = (v.0, omega arith, omega arith)
moved-valid d n Skip h v t = v

all_moved : (d n : ℕ) (Q : List Statement) → d + n ≤ most → AllValid Q → ((s : ℕ) → s < length Q → Targets n (at Q s)) → AllValid (map (moved d) Q)
all_moved d n [] h v t = tt
all_moved d n (i ∷ Q) h v t = (moved-valid d n i h v.0 (t 0 (omega arith)), all_moved d n Q h v.1 (λ s l. t (suc s) (omega arith)))

past_first : (d : ℕ) (Q : List Statement) → AllValid (map (moved d) Q) → AllValid (map (moved d) (drop 1 Q))
past_first d [] v = tt
past_first d (i ∷ Q) v = v.1

front-valid : (n : ℕ) (P : List Statement) → AllValid P → AllValid (take n P)
front-valid zero P v = tt
front-valid (suc n) [] v = tt
front-valid (suc n) (i ∷ P) v = (v.0, front-valid n P v.1)

-- ---- places and targets

placed-wider : (N M s : ℕ) (i : Statement) → s + 1 < N → N ≤ M → InPlace N s i → InPlace M s i
placed-wider N M s (Read x) l h p = p
placed-wider N M s (Write x) l h p = absurd (omega (arith, p))
placed-wider N M s (Assign x e) l h p = (p.0, omega arith)
placed-wider N M s (Branch x n m) l h p = (p.0, omega arith)
placed-wider N M s Skip l h p = (p.0, omega arith)

moved-placed : (d N s : ℕ) (i : Statement) → InPlace N (suc s) i → InPlace (d + N) (d + suc s) (moved d i)
moved-placed d N s (Read x) p = absurd (omega (arith, p))
moved-placed d N s (Write x) p = omega (arith, p)
moved-placed d N s (Assign x e) p = (omega arith, omega arith)
moved-placed d N s (Branch x n m) p = (omega arith, omega arith)
moved-placed d N s Skip p = (omega arith, omega arith)

moved-aimed : (d N : ℕ) (i : Statement) → Targets N i → Targets (d + N) (moved d i)
moved-aimed d N (Read x) t = tt
moved-aimed d N (Write x) t = tt
moved-aimed d N (Assign x e) t = tt
moved-aimed d N (Branch x n m) t = ((omega arith, omega arith), (omega arith, omega arith))
moved-aimed d N Skip t = tt

-- ---- the program

pub joined-wellformed : {P Q : List Statement} → WellFormed P → WellFormed Q → length P + length Q ≤ most + 1 → WellFormed (joined P Q)
joined-wellformed {P} {Q} w x few = record {
  valid = valid-append Valid (take d P) _ (front-valid d P w.valid) (
    (
      reads-valid (at Q 0) (at-valid Q 0 x.valid (omega arith)),
      writes-valid (at P d) (at-valid P d w.valid (omega arith)),
    ),
    past_first d Q (all_moved d (length Q) Q (omega arith) x.valid x.aimed),
  );
  counted = (omega (arith, size), omega (arith, size));
  placed = rw size placed;
  aimed = rw size aimed;
}
  where
    d : ℕ
    d = length P - 1

    size : length (joined P Q) ≡ d + length Q
    size = joined_length P Q w.counted x.counted

    placed : (s : ℕ) → s < d + length Q → InPlace (d + length Q) s (at (joined P Q) s)
    placed =
        each P Q w.counted x.counted (λ s i. InPlace (d + length Q) s i)
        (λ s l. placed-wider (length P) (d + length Q) s (at P s) (omega arith) (omega arith) (w.placed s (omega arith)))
        (omega arith, omega arith)
        (λ j l. moved-placed d (length Q) j (at Q (suc j)) (x.placed (suc j) l))

    aimed : (s : ℕ) → s < d + length Q → Targets (d + length Q) (at (joined P Q) s)
    aimed =
        each P Q w.counted x.counted (λ s i. Targets (d + length Q) i)
        (λ s l. targets-wider (length P) (d + length Q) (at P s) (omega arith) (w.aimed s (omega arith)))
        tt
        (λ j l. moved-aimed d (length Q) (at Q (suc j)) (x.aimed (suc j) l))
