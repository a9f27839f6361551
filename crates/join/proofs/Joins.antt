-- What is known once both texts are read: the joined text fits, and the call is finished. Assumes nothing.
use mathlib.Core.Path.{◌≡◌}
use mathlib.Core.List.{List}
use Prim.Native.Nat.{ℕ, ◌+◌, ◌-◌, ◌≤◌}
use native.Mathlib.Omega.{arith}
use lib.ListN.{length}
use Rattle.language.specs.declared.Statement.{Statement}
use Rattle.statement_writer.specs.Writing.{Put}
use Rattle.statement_writer.proofs.Puts.{put_front}
use Rattle.program.specs.Program.{text, most, Taken}
use Rattle.program.specs.Reading.{statements, Held}
use Rattle.program.specs.declared.Program.{Program}
use Rattle.program.proofs.Lengths.{text-fits}
use Rattle.joining.proofs.Written.{held-size}
use Rattle.joining.specs.Joining.{joined}
use Rattle.join.specs.Join.{text_bytes, JoinFinished}
use Rattle.join.proofs.Theorem.{joined-taken, joined-texts}

-- the code's test, of the statements
pub together : {p q : Program} → Held p → Held q → p.count + q.count ≤ most + 1 → length (statements p) + length (statements q) ≤ most + 1
together h g few = omega (arith, held-size h, held-size g)

module _ {t u : List ℕ} {P Q : List Statement} (p : Taken t P) (q : Taken u Q) (few : length P + length Q ≤ most + 1) where
  pub text-short : length (text (joined P Q)) ≤ text_bytes
  text-short = text-fits (joined-taken p q few).program

  pub finished : {o r : List ℕ} {count bytes : ℕ} → text_bytes ≤ length o → count ≡ length P + length Q - 1 → Put o 0 (text (joined P Q)) r bytes → JoinFinished t u o r count bytes
  finished {o} room n put =
      let fits : length (text (joined P Q)) ≤ length o = omega (arith, text-short) in
      record {
        P = P;
        Q = Q;
        room = room;
        road = p;
        creeper = q;
        few = omega arith;
        counted = n;
        fits = fits;
        written = put;
        theorem = rw (put_front put fits) (joined-texts p q few);
      }
