-- The theorem of Wish 11, one claim about a stage and every program that is reached from it. From a stage n, which holds the text t, is reached: t
-- itself; with a text that is reached, the new text of any finished call of `judge` on it, whatever the list of marks holds. The bytes of the
-- stages are those that the last call left: any finished call of `keep` under another name, of any program, stays with what is reached, and so does
-- one that was refused. Then the stage is as it was: `go_back` to n, lent the bytes as they now are, gives t. The text w that is reached is taken.
-- Whatever the starting values and the input are, after every number of steps the runs of t and of w stand before the same statement, or both have
-- ended with the same value and the same kept ones, or with a fault at the same statement. Under every budget that isn't refused both answer alike.
-- That is all: the agreement of live variables, which demand 3 has for one round, doesn't last over several.
use Rattle.std.specs.Prelude.{◌≡◌, List, ℕ, ◌≤◌, length, take, Result, Ok, Err}
use Rattle.language.specs.Spelling.{variables}
use Rattle.language.specs.declared.Statement.{Statement}
use Rattle.program.specs.Program.{Taken}
use Rattle.machine.specs.Machine.{after}
use Rattle.lockstep.specs.Lockstep.{Together}
use Rattle.run.specs.Run.{most_steps, RunAnswers}
use Rattle.execution.specs.declared.Outcome.{Outcome}
use Rattle.run.specs.declared.Refusal as run
use Rattle.demand.specs.Demand.{RunsAlike}
use Rattle.judge.specs.Judge.{Lent, JudgeAnswers}
use Rattle.judge.specs.declared.Judged.{Judged}
use Rattle.stages.specs.Stages.{stage_bytes, Holds}
use Rattle.calls.specs.declared.Refusal as call
use Rattle.keep.specs.Keep.{KeepAnswers}
use Rattle.keep.specs.declared.Refusal as keep
use Rattle.go_back.specs.Return.{text_bytes, ReturnAnswers}
use Rattle.go_back.specs.declared.Refusal.{Refusal}

-- "A program reached by rounds from a stage, with no return and no replacing of that stage in between, and each call lent the bytes as the last one
-- left them": mem are the bytes of the stages, and the last list is the text
pub data Reached (n t : List ℕ) : List ℕ → List ℕ → Type 0 where
  start : (mem : List ℕ) (k : ℕ) → stage_bytes ≤ length mem → Holds mem k n t → Reached n t mem t
  round : (mem w u : List ℕ) (o q : Lent) (judged : Judged) → Reached n t mem w → JudgeAnswers w u o q (Ok judged)
      → Reached n t mem (take judged.bytes q.new)
  other : (mem w m p next : List ℕ) (k : ℕ) → Reached n t mem w → (m ≡ n → ⊥) → KeepAnswers mem m p next (Ok k) → Reached n t next w
  refused : (mem w m p next : List ℕ) (r : call.Refusal keep.Refusal) → Reached n t mem w → KeepAnswers mem m p next (Err r) → Reached n t next w

-- "runs as the program returned from it does, compared as in demand 3"
pub record Rounds (n t mem w : List ℕ) : Type 0 where
  pub P : List Statement
  pub Q : List Statement
  pub returned : (o q : List ℕ) (r : Result ℕ Refusal) → text_bytes ≤ length o → ReturnAnswers mem n o q r → (r ≡ Ok (length t)) × (take (length t) q ≡ t)
  pub given : Taken t P
  pub taken : Taken w Q
  pub together : (vs : List ℕ) → length vs ≡ variables → (input k : ℕ) → Together (after P vs input k) (after Q vs input k)
  pub alike : (ps vs : List ℕ) → length vs ≡ variables → (input budget : ℕ) → budget ≤ most_steps → (a b : Result Outcome run.Refusal)
      → RunAnswers ps t vs input budget a → RunAnswers ps w vs input budget b → RunsAlike a b

-- for every stage, and whatever is reached from it
abbrev pub Claim : Type 0
Claim = (n t mem w : List ℕ) → Reached n t mem w → Rounds n t mem w
