-- What is printed of a program and its rewritten one, for every program text t, marks text m and start text u; and where printing stands
-- when some of it was handed out.
use Rattle.std.specs.Prelude.{◌≡◌, ◌⊎◌, List, [], ◌++◌, ℕ, ◌+◌, ◌-◌, ◌≤◌, ◌<◌, length, take, replicate, Result, Ok, Err}
use Rattle.language.specs.Spelling.{variables}
use Rattle.statement_writer.specs.Writing.{Put}
use Rattle.rewriting.specs.Verdicts.{accepted_count}
use Rattle.machine.specs.declared.Answer.{Answer}
use Rattle.machine.specs.Machine.{after}
use Rattle.lockstep.specs.Lockstep.{Agree, Side, Alike}
use Rattle.pricing.specs.Prices.{ours}
use Rattle.run.specs.Run.{most_steps, RunFinished}
use Rattle.judge.specs.Judge.{text_bytes}
use Rattle.demand.specs.Demand.{Demand3}
use Rattle.desk.specs.Refusals.{refusal_text}
use Rattle.refusal_line.specs.Blame.{Blamed}
use Rattle.start_refusal.specs.StartRefusal.{start_text}
use Rattle.start.specs.Start.{StartTaken, StartRead}
use Rattle.start.specs.declared.Start.{Start}
use Rattle.start.specs.declared.Wrong.{Wrong}
use Rattle.liveness.specs.Liveness.{live_words, LiveRows}
use Rattle.comparison.specs.Lines.{both_lines}
use Rattle.comparison.specs.Stepping.{line_room, BothStand}
use Rattle.heading.specs.Heading.{heading_text, RefusedWith}
use Rattle.closing.specs.Closing.{closing_text}
use Rattle.side_by_side.specs.declared.Stage.{Stage}
use Rattle.side_by_side.specs.declared.Stage.TheVariants.{Begin, Steps, Closing, Ended, Refused}
use Rattle.side_by_side.specs.declared.Position.{Position}
use Rattle.side_by_side.specs.declared.Piece.{Piece}

-- what both runs start from, and demand 3 of the program, the marks and the rewritten program's text x
pub record Runs (t m u x : List ℕ) : Type 0 where
  pub input : ℕ
  pub budget : ℕ
  pub values : List ℕ
  pub start : StartTaken u input budget values
  pub allowed : budget ≤ most_steps
  pub verdicts : List ℕ
  pub demand : Demand3 t m verdicts x

-- the counts of the marks, the line over the columns, and the lines of the first n steps of both runs
abbrev pub lines_text : {t m u x : List ℕ} → Runs t m u x → ℕ → List ℕ
lines_text r n =
    heading_text (length r.demand.ms) (accepted_count r.demand.ms r.verdicts)
    ++ both_lines r.demand.P r.demand.Q r.values r.input 0 n

-- b is all that is printed where nothing is refused: the counts, the line over the columns, the lines of all steps within the budget, and both outcomes, which agree and
-- keep the same; before each step every variable that the given program may still use before defining it holds the same value in both
pub record Comparison (t m u b : List ℕ) : Type 0 where
  pub x : List ℕ
  pub runs : Runs t m u x
  pub given : Answer
  pub rewritten : Answer
  pub us : List ℕ
  pub ws : List ℕ
  pub ks : List ℕ
  pub one : RunFinished ours t runs.values runs.input runs.budget given us ks
  pub two : RunFinished ours x runs.values runs.input runs.budget rewritten ws ks
  pub alike : Alike given rewritten
  pub traces : (k : ℕ)
      → Side (Agree runs.demand.P) (after runs.demand.P runs.values runs.input k) (after runs.demand.Q runs.values runs.input k)
  pub text : b ≡ lines_text runs runs.budget ++ closing_text given rewritten ks

-- b tells the refusal of the budget, the program or the marks
pub record CallRefused (t m : List ℕ) (budget : ℕ) (b : List ℕ) : Type 0 where
  pub n : ℕ
  pub line : ℕ
  pub refused : RefusedWith t m budget n
  pub blamed : Blamed t m n line
  pub text : b ≡ refusal_text n line

-- a start that is wrong is refused first, whatever the program and the marks
abbrev pub Refuses : List ℕ → List ℕ → Result Start Wrong → List ℕ → Type 0
Refuses t m (Ok s) b = CallRefused t m s.budget b
Refuses t m (Err r) b = b ≡ start_text r

-- b is all that is printed where something is refused
pub record Refusal (t m u b : List ℕ) : Type 0 where
  pub answer : Result Start Wrong
  pub read : StartRead u answer
  pub refuses : Refuses t m answer b

-- b is the whole output
abbrev pub Output : List ℕ → List ℕ → List ℕ → List ℕ → Type 0
Output t m u b = Refusal t m u b ⊎ Comparison t m u b

-- the position at a stage at which neither run stands
abbrev pub at_stage : Stage → Position
at_stage s = record { stage = s; at = 0; done = 0; values = replicate variables 0; others = replicate variables 0; bytes = 0; live = replicate live_words 0 }

-- b has the lines of the steps done, the rewritten program's text is at the front of the lent bytes w, and the position says where both
-- runs stand, and where each variable is live in the given program
pub record StepsTold (t m u : List ℕ) (p : Position) (w b : List ℕ) : Type 0 where
  pub within : p.bytes ≤ length w
  pub runs : Runs t m u (take p.bytes w)
  pub done : p.done ≤ runs.budget
  pub stand : BothStand runs.demand.P runs.demand.Q runs.values runs.input p.done p.at p.values p.others
  pub live : LiveRows runs.demand.P p.live
  pub text : b ≡ lines_text runs p.done

-- b has the lines of all steps
pub record AllTold (t m u b : List ℕ) : Type 0 where
  pub x : List ℕ
  pub runs : Runs t m u x
  pub text : b ≡ lines_text runs runs.budget

-- printing stands at the position p, with w in the bytes lent for the rewritten program's text, after b was handed out
abbrev pub HandedAt : List ℕ → List ℕ → List ℕ → Stage → Position → List ℕ → List ℕ → Type 0
HandedAt t m u Begin p w b = (p ≡ at_stage Begin) × (b ≡ [])
HandedAt t m u Steps p w b = StepsTold t m u p w b
HandedAt t m u Closing p w b = (p ≡ at_stage Closing) × AllTold t m u b
HandedAt t m u Ended p w b = (p ≡ at_stage Ended) × Comparison t m u b
HandedAt t m u Refused p w b = (p ≡ at_stage Refused) × Refusal t m u b

abbrev pub Handed : List ℕ → List ℕ → List ℕ → Position → List ℕ → List ℕ → Type 0
Handed t m u p w b = HandedAt t m u p.stage p w b

-- a bound on the pieces that are still to come
abbrev pub ahead_at : Stage → ℕ → ℕ
ahead_at Begin done = 3 + most_steps
ahead_at Steps done = 2 + (most_steps - done)
ahead_at Closing done = 1
ahead_at Ended done = 0
ahead_at Refused done = 0

abbrev pub ahead : Position → ℕ
ahead p = ahead_at p.stage p.done

-- no bytes, and the same position
abbrev pub stays : Position → Piece
stays p = record { bytes = 0; next = p }

pub record Stays (p : Position) (w v o q : List ℕ) (r : Piece) : Type 0 where
  pub same : r ≡ stays p
  pub new : v ≡ w
  pub out : q ≡ o

-- at most text-bytes of the bytes w lent for the new text are changed
pub record Kept (w v : List ℕ) : Type 0 where
  pub n : ℕ
  pub few : n ≤ text_bytes
  pub put : Put w 0 (take n v) v n

-- the piece stands at the front of the bytes o, all others are kept. What was handed out before, with the piece, brings printing to the
-- next position; fewer pieces are to come, and none after the whole output
pub record Prints (t m u : List ℕ) (p : Position) (w v o q : List ℕ) (r : Piece) : Type 0 where
  pub put : Put o 0 (take r.bytes q) q r.bytes
  pub new : Kept w v
  pub handed : (b : List ℕ) → Handed t m u p w b → Handed t m u r.next v (b ++ take r.bytes q)
  pub further : (b : List ℕ) → Handed t m u p w b → 0 < ahead p → ahead r.next < ahead p
  pub ended : ahead p ≡ 0 → Stays p w v o q r

-- every piece has room in this many bytes
abbrev pub side_by_side_room : ℕ
side_by_side_room = line_room

-- with too little room nothing is printed, and nothing changes
pub record Next (t m u : List ℕ) (p : Position) (w v o q : List ℕ) (r : Piece) : Type 0 where
  pub little : (length o < side_by_side_room) ⊎ (length w < text_bytes) → Stays p w v o q r
  pub prints : side_by_side_room ≤ length o → text_bytes ≤ length w → Prints t m u p w v o q r
