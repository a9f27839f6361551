-- What `witness` answers, and what it leaves in the lent words, for every program text, condition text, part, statement and path.
use Rattle.std.specs.Prelude.{◌≡◌, Bool, true, List, ◌↔◌, ℕ, ◌+◌, ◌-◌, ◌≤◌, ◌<◌, length, Result, Ok, Err}
use Rattle.language.specs.declared.Statement.{Statement}
use Rattle.program.specs.Program.{most, Taken}
use Rattle.ctl.specs.Paths.{Quant, E, A}
use Rattle.flow.specs.Flow.{steps}
use Rattle.condition.specs.Condition.{Unary, negation, Binary, conjunction, disjunction, Condition, atom, unary, binary, parts}
use Rattle.condition.specs.Texts as condition
use Rattle.condition_reader.specs.Reading as condition-reading
use Rattle.condition_reader.specs.declared.Refusal as condition-refusal
use Rattle.truth.specs.Truth.{Sat}
use Rattle.table.specs.Table.{part_at}
use Rattle.table.specs.Rules.{unary_operator, binary_operator}
use Rattle.calls.specs.Refusals.{CallRefused, number_of}
use Rattle.calls.specs.declared.Refusal.{Refusal}
use Rattle.witness.specs.Witness.{Witness}
use Rattle.explain.specs.declared.Witnessed.{Witnessed}
use Rattle.explain.specs.declared.Witnessed.TheVariants.{Path, None}

-- "The path needs as many words as the program can have statements and one more, else 1."
abbrev pub path_words : ℕ
path_words = most + 1

-- "negations before a path operator are looked through": the condition without those before it
unfoldable pub bare : Condition → Condition
bare (atom a) = atom a
bare (unary negation p) = bare p
bare (unary (Unary.path k d o) p) = unary (Unary.path k d o) p
bare (binary o p q) = binary o p q

-- the first m words tell a path from place s of P that bears out E of the condition's path operator, or speaks against A of it
abbrev pub Shows : List Statement → Condition → ℕ → List ℕ → List ℕ → ℕ → ℕ → Type 0
Shows P (atom a) s old new m turn = ⊥
Shows P (unary negation p) s old new m turn = ⊥
Shows P (unary (Unary.path k d o) p) s old new m turn = Witness k (unary_operator o) (length P) (steps P d) (Sat P p) (Sat P p) s old new m turn
Shows P (binary conjunction p q) s old new m turn = ⊥
Shows P (binary disjunction p q) s old new m turn = ⊥
Shows P (binary (Binary.path k d o) p q) s old new m turn = Witness k (binary_operator o) (length P) (steps P d) (Sat P p) (Sat P q) s old new m turn

-- no path can show what a quantifier says where E is false, or A true
abbrev pub Quiet : Quant → Type 0 → Type 0
Quiet E X = ¬ X
Quiet A X = X

-- "a part without a path operator outside has none"; one with such an operator has none where no path can show what it says
abbrev pub Silent : List Statement → Condition → ℕ → Type 0
Silent P (atom a) s = Unit
Silent P (unary negation p) s = Unit
Silent P (unary (Unary.path k d o) p) s = Quiet k (Sat P (unary (Unary.path k d o) p) s)
Silent P (binary conjunction p q) s = Unit
Silent P (binary disjunction p q) s = Unit
Silent P (binary (Binary.path k d o) p q) s = Quiet k (Sat P (binary (Binary.path k d o) p q) s)

-- "Order: 1, .. then 2 to 5, then 6 to 8": the number of the first that applies
abbrev pub WitnessRefused : List ℕ → List ℕ → List ℕ → ℕ → Type 0
WitnessRefused t u path n = CallRefused (length path < path_words) (path_words ≤ length path) t (condition-reading.Refused u) condition-reading.number n

-- the condition has the part, counted from 0, and the program the statement, counted from 1
abbrev pub Exists : List Statement → Condition → ℕ → ℕ → Type 0
Exists P c part statement = (part < length (parts c)) × (1 ≤ statement) × (statement ≤ length P)

-- none applies, of the program P and the condition c
pub record Read (t u path : List ℕ) (P : List Statement) (c : Condition) : Type 0 where
  pub room : path_words ≤ length path
  pub program : Taken t P
  pub condition : condition.Taken u c

-- part k of the condition has a path at the statement
pub record PathTold (t u : List ℕ) (part statement : ℕ) (old new : List ℕ) (m turn : ℕ) : Type 0 where
  pub P : List Statement
  pub c : Condition
  pub read : Read t u old P c
  pub exists : Exists P c part statement
  pub shown : Shows P (bare (part_at c part)) (statement - 1) old new m turn

-- it has none: "its truth is told", which is false of a part or a statement that doesn't exist; all words are kept
pub record NoneTold (t u : List ℕ) (part statement : ℕ) (old new : List ℕ) (truth : Bool) : Type 0 where
  pub P : List Statement
  pub c : Condition
  pub read : Read t u old P c
  pub decides : (truth ≡ true) ↔ (Exists P c part statement × Sat P (part_at c part) (statement - 1))
  pub silent : Exists P c part statement → Silent P (bare (part_at c part)) (statement - 1)
  pub kept : new ≡ old

-- a path, or why there is none
abbrev pub WitnessTold : List ℕ → List ℕ → ℕ → ℕ → List ℕ → List ℕ → Witnessed → Type 0
WitnessTold t u part statement old new (Path m turn) = PathTold t u part statement old new m turn
WitnessTold t u part statement old new (None truth) = NoneTold t u part statement old new truth

-- "A refused call answers only its number and keeps all lent memory."
abbrev pub WitnessAnswers : List ℕ → List ℕ → ℕ → ℕ → List ℕ → List ℕ → Result Witnessed (Refusal condition-refusal.Refusal) → Type 0
WitnessAnswers t u part statement old new (Err r) = WitnessRefused t u old (number_of condition-reading.number r) × (new ≡ old)
WitnessAnswers t u part statement old new (Ok a) = WitnessTold t u part statement old new a
