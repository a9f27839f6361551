-- Demand 3, one theorem. Given a program text and a marks text that are taken, whatever the list holds, the verdict bytes that document 01
-- defines, and the program with just the accepted marks made: a byte is 0 exactly where none of 11 to 14 and 18 applies, and that program is
-- itself taken. Whatever the starting values and the input are, after every number of steps its run and the given program's stand before
-- the same statement, and every variable that the given program may still use before defining it holds the same value in both; or both have
-- ended with the same value and the same kept ones, or with a fault at the same statement. Under every budget that isn't refused both answer
-- alike.
-- Assumes nothing.
use Rattle.std.specs.Prelude.{Result, Ok, Err}
use mathlib.Core.Path.{◌≡◌, refl, subst}
use mathlib.Core.List.{List}
use Prim.Native.Nat.{ℕ, ◌≤◌}
use lib.ListN.{length}
use Rattle.language.specs.Spelling.{variables}
use Rattle.language.specs.declared.Statement.{Statement}
use Rattle.program.specs.Program.{text, Taken}
use Rattle.program.proofs.RoundTrip.{taken-unique}
use Rattle.pricing.specs.Prices.{in_force}
use Rattle.machine.specs.Answer.{Answers}
use Rattle.machine.specs.declared.Answer.{Answer}
use Rattle.marks.specs.Reading as marks
use Rattle.marks.specs.declared.Mark.{Mark}
use Rattle.rewriting.specs.Verdicts.{Widened, Verdicts, Rewritten}
use Rattle.lockstep.specs.Lockstep.{Changed}
use Rattle.lockstep.proofs.Lockstep.{lockstep, together}
use Rattle.lockstep.proofs.Changed.{changed-wellformed}
use Rattle.lockstep.proofs.Answers.{answers-alike}
use Rattle.rewriting.proofs.Accepted.{accepted-judged, judged-accepted}
use Rattle.rewriting.proofs.Rewritten.{rewritten-changed}
use Rattle.run.proofs.Unique.{never-refused}
use Rattle.run.specs.Run.{most_steps, RunAnswers}
use Rattle.demand.specs.Demand.{RunsAlike, Demand3}
use Rattle.execution.specs.declared.Outcome.{Outcome}
use Rattle.run.specs.declared.Refusal.{Refusal}

module _ {t : List ℕ} {P : List Statement} (taken : Taken t P) (ps start : List ℕ) (input budget : ℕ) (allowed : budget ≤ most_steps) where
  -- a text that is taken gets none of 2 to 5, and an allowed budget not 15; the program that answers is the one that the text is taken as
  pub called-answers :
      (r : Result Outcome Refusal) → RunAnswers ps t start input budget r
      → (o : Outcome) × (r ≡ Ok o) × Answers (in_force ps) P start input budget o.answer o.values o.kept
  called-answers (Err r) f = absurd (never-refused t budget f allowed taken)
  called-answers (Ok o) f =
      (o, refl, subst (λ (Q : List Statement). Answers (in_force ps) Q start input budget o.answer o.values o.kept) (taken-unique f.taken taken) f.answers)

pub demand-3 :
    {t u : List ℕ} {P : List Statement} {ms : List Mark} → Taken t P → marks.Taken u ms
    → (vs : List ℕ) → Verdicts P ms vs → (Q : List Statement) → Rewritten P ms vs Q → Demand3 t u vs (text Q)
demand-3 {t} {u} {P} {ms} given listed vs judged Q r = record {
  P = P;
  ms = ms;
  Q = Q;
  given = given;
  listed = listed;
  accepted = λ j l. (λ byte. accepted-judged P ms vs judged j (l, byte), λ h. (judged-accepted P ms vs judged j l h).1);
  rewritten = r;
  taken = taken;
  together = together given.program changed;
  traces = lockstep given.program changed;
  alike = alike;
}
  where
    changed : Changed (Widened P ms) P Q
    changed = rewritten-changed P ms vs judged Q listed.spells.valid r

    taken : Taken (text Q) Q
    taken = record { lines = refl; program = changed-wellformed given.program changed }

    alike :
        (ps start : List ℕ) → length start ≡ variables → (input budget : ℕ) → budget ≤ most_steps → (a b : Result Outcome Refusal)
        → RunAnswers ps t start input budget a → RunAnswers ps (text Q) start input budget b → RunsAlike a b
    alike ps start l input budget allowed a b p q =
        let x = called-answers given ps start input budget allowed a p in
        let y = called-answers taken ps start input budget allowed b q in
        rw (x.1, y.1)
        (answers-alike given.program changed start l input (in_force ps) budget x.0.answer y.0.answer x.0.values y.0.values x.0.kept y.0.kept x.2 y.2)
