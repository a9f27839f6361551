-- How long a program's text can be. Assumes nothing.
use mathlib.Core.List.{List, [], ◌∷◌}
use Prim.Native.Nat.{ℕ, suc, ◌*◌, ◌≤◌, ◌<◌}
use native.Mathlib.Omega.{arith}
use lib.ListN.{length, length-append}
use Rattle.lines.specs.Lines as lines
use Rattle.language.specs.Spelling.{spell, Valid}
use Rattle.language.specs.Room.{statement_room}
use Rattle.language.specs.declared.Statement.{Statement}
use Rattle.language.specs.declared.Statement.TheVariants.{Read, Write, Assign, Branch, Skip}
use Rattle.language.proofs.Lengths.{Near, statement-most}
use Rattle.program.specs.Program.{at, text, AllValid, most, line_room, text_room, Targets, WellFormed}

-- targets within a program have few digits
pub near : (N : ℕ) (s : Statement) → N ≤ most → Targets N s → Near s
near N (Read x) h t = tt
near N (Write x) h t = tt
near N (Assign x e) h t = tt
near N (Branch x n m) h t = (omega arith, omega arith)
near N Skip h t = tt

-- a statement of a program
pub statement-short : (N : ℕ) (s : Statement) → N ≤ most → Valid s → Targets N s → length (spell s) ≤ statement_room
statement-short N s h v t = statement-most s v (near N s h t)

-- each line has room in line-room bytes
lines-most : (N : ℕ) (P : List Statement) → N ≤ most → AllValid P → ((s : ℕ) → s < length P → Targets N (at P s)) → length (text P) ≤ line_room * length P
unfolding lines.text
lines-most N [] h v t = omega arith
lines-most N (s ∷ P) h v t =
    let a = length-append (spell s) (10 ∷ text P) in
    let b = statement-short N s h v.0 (t 0 (omega arith)) in
    let c = lines-most N P h v.1 (λ i l. t (suc i) (omega arith)) in
    omega arith

-- the text of each program, a rewritten one too, has room in text-room bytes
pub text-fits : {P : List Statement} → WellFormed P → length (text P) ≤ text_room
text-fits {P = P} w = let h = w.counted in let l = lines-most (length P) P h.1 w.valid w.aimed in omega arith
