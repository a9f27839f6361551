-- Conditions: the tree, its spelling, which are valid, and its parts. Document 01, "Conditions".
use Rattle.std.specs.Prelude.{List, [], ◌∷◌, ◌++◌, ℕ}
use Rattle.base.specs.Bytes.{bytes, byte}
use Rattle.language.specs.Spelling.{spell_statement_number, ValidStatementNumber, spell_variable, ValidVariable, spell_expression, ValidExpression, spell, Valid}
use Rattle.ctl.specs.Paths.{Quant, E, A, Direction, forward, backward}
use Rattle.condition.specs.declared.Atom.{Atom}
use Rattle.condition.specs.declared.Atom.TheVariants.{True, False, Entry, Exit, Node, Stmt, Def, Use, Trans}

-- "Forward: X at place 1; F at some place; G at all .. Backward, in that order: Y, R, M"
pub data PathUnary : Type 0 where
  next finally globally : PathUnary

-- "p U q .. p W q .. Backward, in that order: .. S, B"
pub data PathBinary : Type 0 where
  until weak : PathBinary

-- "`!p`"; "one of `EX AX EF AF EG AG EY AY ER AR EM AM`, a space, p"
pub data Unary : Type 0 where
  negation : Unary
  path : Quant → Direction → PathUnary → Unary

-- "`(p & q)`, `(p | q)`"; "`E[p U q]`, `A[p U q]`, and the same with `W`, `S`, `B`"
pub data Binary : Type 0 where
  conjunction disjunction : Binary
  path : Quant → Direction → PathBinary → Binary

pub data Condition : Type 0 where
  atom : Atom → Condition
  unary : Unary → Condition → Condition
  binary : Binary → Condition → Condition → Condition

abbrev pub quant_letter : Quant → ℕ
quant_letter E = byte "E"
quant_letter A = byte "A"

abbrev pub unary_letter : Direction → PathUnary → ℕ
unary_letter forward next = byte "X"
unary_letter forward finally = byte "F"
unary_letter forward globally = byte "G"
unary_letter backward next = byte "Y"
unary_letter backward finally = byte "R"
unary_letter backward globally = byte "M"

abbrev pub binary_letter : Direction → PathBinary → ℕ
binary_letter forward until = byte "U"
binary_letter forward weak = byte "W"
binary_letter backward until = byte "S"
binary_letter backward weak = byte "B"

-- what stands before the condition of a unary operator: `!`, or as `EX `
abbrev pub prefix : Unary → List ℕ
prefix negation = bytes "!"
prefix (path k d o) = quant_letter k ∷ unary_letter d o ∷ bytes " "

-- what stands before, between and after the conditions of a binary operator: as `(`, ` & `, `)`, or as `E[`, ` U `, `]`
abbrev pub opening : Binary → List ℕ
opening conjunction = bytes "("
opening disjunction = bytes "("
opening (path k d o) = quant_letter k ∷ bytes "["

abbrev pub middle : Binary → List ℕ
middle conjunction = bytes " & "
middle disjunction = bytes " | "
middle (path k d o) = byte " " ∷ binary_letter d o ∷ bytes " "

abbrev pub closing : Binary → List ℕ
closing conjunction = bytes ")"
closing disjunction = bytes ")"
closing (path k d o) = bytes "]"

-- "Atoms: `true`, `false`, `entry`, `exit`, `node(n)`, `stmt(I)`, `def(X)`, `use(X)`, `trans(E)`"
unfoldable pub spell_atom : Atom → List ℕ
spell_atom True = bytes "true"
spell_atom False = bytes "false"
spell_atom Entry = bytes "entry"
spell_atom Exit = bytes "exit"
spell_atom (Node n) = bytes "node(" ++ (spell_statement_number n ++ bytes ")")
spell_atom (Stmt i) = bytes "stmt(" ++ (spell i ++ bytes ")")
spell_atom (Def x) = bytes "def(" ++ (spell_variable x ++ bytes ")")
spell_atom (Use x) = bytes "use(" ++ (spell_variable x ++ bytes ")")
spell_atom (Trans e) = bytes "trans(" ++ (spell_expression e ++ bytes ")")

unfoldable pub spell_condition : Condition → List ℕ
spell_condition (atom a) = spell_atom a
spell_condition (unary o p) = prefix o ++ spell_condition p
spell_condition (binary o p q) = opening o ++ (spell_condition p ++ (middle o ++ (spell_condition q ++ closing o)))

-- what an atom names lies in its range
abbrev pub ValidAtom : Atom → Type 0
ValidAtom True = Unit
ValidAtom False = Unit
ValidAtom Entry = Unit
ValidAtom Exit = Unit
ValidAtom (Node n) = ValidStatementNumber n
ValidAtom (Stmt i) = Valid i
ValidAtom (Def x) = ValidVariable x
ValidAtom (Use x) = ValidVariable x
ValidAtom (Trans e) = ValidExpression e

abbrev pub ValidCondition : Condition → Type 0
ValidCondition (atom a) = ValidAtom a
ValidCondition (unary o p) = ValidCondition p
ValidCondition (binary o p q) = ValidCondition p × ValidCondition q

-- "The parts of a condition are its operators and atoms .., counted at each occurrence, in the order in which their text ends; of those
-- that end together the inner comes first."
unfoldable pub parts : Condition → List Condition
parts (atom a) = atom a ∷ []
parts (unary o p) = parts p ++ unary o p ∷ []
parts (binary o p q) = parts p ++ (parts q ++ binary o p q ∷ [])
