-- Marks and how a list of them is spelled: document 01, "Marks", and document 02, Wish 6.
use Rattle.std.specs.Prelude.{List, ◌++◌, ℕ, get_or}
use Rattle.base.specs.Bytes.{bytes}
use Rattle.lines.specs.Lines as lines
use Rattle.language.specs.Spelling.{spell_statement_number, ValidStatementNumber, spell_variable, ValidVariable, spell_operand, ValidOperand, spell_expression, ValidExpression}
use Rattle.language.specs.declared.Expression.TheVariants.{Single}
use Rattle.language.specs.declared.Operand.TheVariants.{Constant}
use Rattle.marks.specs.declared.Mark.{Mark}
use Rattle.marks.specs.declared.Mark.TheVariants.{Rm, Rpl, Cse}

abbrev pub mark_word : List ℕ
mark_word = bytes ": mark("

abbrev pub rm_word : List ℕ
rm_word = bytes "rm, "

abbrev pub rpl_word : List ℕ
rpl_word = bytes "rpl, "

abbrev pub cse_word : List ℕ
cse_word = bytes "cse, "

abbrev pub comma_word : List ℕ
comma_word = bytes ", "

-- "`n: mark(rm, X, E)` or `n: mark(rpl, X, A)`", document 02: "A new line `n: mark(cse, T, E)`": a mark's line without its byte 10
unfoldable pub spell_mark : Mark → List ℕ
spell_mark (Rm n x e) =
    spell_statement_number n ++ (mark_word ++ (rm_word ++ (spell_variable x ++ (comma_word ++ (spell_expression e ++ bytes ")")))))
spell_mark (Rpl n x a) =
    spell_statement_number n ++ (mark_word ++ (rpl_word ++ (spell_variable x ++ (comma_word ++ (spell_operand a ++ bytes ")")))))
spell_mark (Cse n t e) =
    spell_statement_number n ++ (mark_word ++ (cse_word ++ (spell_variable t ++ (comma_word ++ (spell_expression e ++ bytes ")")))))

-- what it names lies in its range
abbrev pub ValidMark : Mark → Type 0
ValidMark (Rm n x e) = ValidStatementNumber n × ValidVariable x × ValidExpression e
ValidMark (Rpl n x a) = ValidStatementNumber n × ValidVariable x × ValidOperand a
ValidMark (Cse n t e) = ValidStatementNumber n × ValidVariable t × ValidExpression e

-- "lines, each ended by byte 10"
abbrev pub text : List Mark → List ℕ
text ms = lines.text spell_mark ms

abbrev pub AllValid : List Mark → Type 0
AllValid ms = lines.AllValid ValidMark ms

-- the text t is the lines of the valid marks ms
abbrev pub Spells : List ℕ → List Mark → Type 0
Spells t ms = lines.Spells spell_mark ValidMark t ms

-- the number of the statement that a mark names
abbrev pub names : Mark → ℕ
names (Rm n x e) = n
names (Rpl n x a) = n
names (Cse n t e) = n

-- the mark of line j, counted from 0
abbrev pub mark_at : List Mark → ℕ → Mark
mark_at ms j = get_or ms j (Rm 0 0 (Single (Constant 0)))
