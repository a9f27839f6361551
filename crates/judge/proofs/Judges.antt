-- From the verdicts, the rewritten program and its text to what `judge` promises. Assumes nothing.
use mathlib.Core.Path.{◌≡◌, refl, ap}
use mathlib.Core.List.{List}
use Prim.Native.Nat.{ℕ, ◌≤◌}
use native.Mathlib.Omega.{arith}
use lib.ListN.{length}
use Rattle.statement_writer.specs.Writing.{Put}
use Rattle.language.specs.declared.Statement.{Statement}
use Rattle.statement_writer.proofs.Puts.{put_front}
use Rattle.program.specs.Program.{text, Taken}
use Rattle.program.specs.Reading.{statements, Held}
use Rattle.program.specs.declared.Program.{Program}
use Rattle.program.proofs.Lengths.{text-fits}
use Rattle.bits.specs.Row.{count_below}
use Rattle.marks.specs.Reading as marks
use Rattle.marks.specs.declared.Mark.{Mark}
use Rattle.marks.proofs.Walk.{lined}
use Rattle.rewriting.specs.Verdicts.{Widened}
use Rattle.verdicts.specs.Judging.{VerdictsOf, SomeJudged, RewritingOf}
use Rattle.verdicts.specs.declared.Rewriting.{Rewriting}
use Rattle.demand.specs.Demand.{Demand3}
use Rattle.demand.proofs.Demand.{demand-3}
use Rattle.judge.specs.Judge.{text_bytes, Room, JudgeFinished}

module _ {t u : List ℕ} {P : List Statement} {ms : List Mark} (p : Taken t P) (m : marks.Taken u ms) {old vs : List ℕ} (j : VerdictsOf (Widened P ms) P ms old vs) where
  pub some-judged : marks.most ≤ length old → SomeJudged P u vs
  some-judged h = record { ms = ms; taken = m; judged = j.judged; room = omega (arith, j.same) }

  module _ {r : Rewriting} (w : RewritingOf P ms vs r) where
    demands : Demand3 t u vs (text (statements r.program))
    demands = demand-3 p m vs j.judged (statements r.program) w.rewritten

    pub text-short : length (text (statements r.program)) ≤ text_bytes
    text-short = let d = demands.taken in omega (arith, ap length d.lines, text-fits d.program)

    pub finished : {before after : List ℕ} {count bytes : ℕ} → Room old before → count ≡ length ms → Put before 0 (text (statements r.program)) after bytes
        → JudgeFinished t u (record { verdicts = old; new = before }) (record { verdicts = vs; new = after }) count r.accepted bytes
    finished {before} room n put =
        let fits : length (text (statements r.program)) ≤ length before = omega (arith, text-short, room.1) in
        record {
          P = P;
          ms = ms;
          Q = statements r.program;
          room = room;
          program = p;
          marks = m;
          lined = lined m.spells;
          counted = n;
          taken = w.counted;
          judged = j.judged;
          same = j.same;
          kept = λ i l. j.past i (omega (arith, n));
          rewritten = w.rewritten;
          fits = fits;
          written = put;
          demand = rw (put_front put fits) demands;
        }

-- a list without marks: there is nothing to judge, and the program stays
module _ {ms : List Mark} (none : length ms ≡ 0) where
  pub none-judged : (U : ℕ → ℕ → Type 0) (P : List Statement) (vs : List ℕ) → VerdictsOf U P ms vs vs
  none-judged U P vs = record { judged = λ j h. absurd (omega (arith, none)); same = refl; past = λ j h. refl }

  pub none_made : (p : Program) → Held p → (vs : List ℕ) → RewritingOf (statements p) ms vs (record { program = p; accepted = 0 })
  unfolding count_below
  none_made p h vs = record {
    held = h;
    rewritten = record { same = refl; made = λ j a. absurd (omega (arith, none, a.0)); kept = λ s l m. refl };
    counted = rw none refl;
  }
