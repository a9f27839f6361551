-- A proof device: what each reader of statements finds at the front of a text. It promises nothing by itself: proofs/Lines.antt holds it to the
-- spelling, both ways round.
use Rattle.std.specs.Prelude.{ℕ, List, [], ◌∷◌, eqb}
use Rattle.base.specs.Bytes.{byte, bytes}
use Rattle.base.specs.Pick.{pick}
use Rattle.language.specs.Spelling.{read_word, write_word, becomes_word, if_word, goto_word, else_word, skip_word}
use Rattle.language.specs.declared.Operand.{Operand}
use Rattle.language.specs.declared.Operand.TheVariants.{Variable, Constant}
use Rattle.language.specs.declared.Operator.{Operator}
use Rattle.language.specs.declared.Operator.TheVariants.{Add, Subtract, Multiply, Less, Equal, Divide}
use Rattle.language.specs.declared.Expression.{Expression}
use Rattle.language.specs.declared.Expression.TheVariants.{Single, Binary}
use Rattle.language.specs.declared.Statement.{Statement}
use Rattle.language.specs.declared.Statement.TheVariants.{Read, Write, Assign, Branch, Skip}
use Rattle.tokens.specs.Parsing.{Parsed, found, misspelled, after, after_or, where?, either, parse_word, parse_constant, parse_statement_number, parse_variable}

unfoldable pub parse_operand : List ℕ → Parsed Operand
parse_operand l =
    either
    (after (parse_constant l) λ n t. found (Constant n) t)
    (after (parse_variable l) λ x t. found (Variable x) t)

unfoldable pub parse_operator : List ℕ → Parsed Operator
parse_operator [] = misspelled
parse_operator (c ∷ l) =
    either (where? (eqb c (byte "+")) (found Add l))
    (either (where? (eqb c (byte "-")) (found Subtract l))
    (either (where? (eqb c (byte "*")) (found Multiply l))
    (either (where? (eqb c (byte "<")) (found Less l))
    (either (where? (eqb c (byte "=")) (found Equal l))
    (where? (eqb c (byte "/")) (found Divide l))))))

unfoldable pub parse_expression : List ℕ → Parsed Expression
parse_expression l =
    after (parse_operand l) λ a t.
    after_or (parse_word (bytes " ") t)
    (λ _ u.
    after (parse_operator u) λ o v.
    after (parse_word (bytes " ") v) λ _ w.
    after (parse_operand w) λ b x.
    found (Binary a o b) x)
    (found (Single a) t)

unfoldable pub parse_read : List ℕ → Parsed Statement
parse_read l = after (parse_word read_word l) λ _ t. after (parse_variable t) λ x u. found (Read x) u

unfoldable pub parse_write : List ℕ → Parsed Statement
parse_write l = after (parse_word write_word l) λ _ t. after (parse_variable t) λ x u. found (Write x) u

unfoldable pub parse_skip : List ℕ → Parsed Statement
parse_skip l = after (parse_word skip_word l) λ _ t. found Skip t

unfoldable pub parse_assign : List ℕ → Parsed Statement
parse_assign l =
    after (parse_variable l) λ x t.
    after (parse_word becomes_word t) λ _ u.
    after (parse_expression u) λ e v.
    found (Assign x e) v

unfoldable pub parse_branch : List ℕ → Parsed Statement
parse_branch l =
    after (parse_word if_word l) λ _ t.
    after (parse_variable t) λ x u.
    after (parse_word goto_word u) λ _ v.
    after (parse_statement_number v) λ n w.
    after (parse_word else_word w) λ _ y.
    after (parse_statement_number y) λ m z.
    found (Branch x n m) z

unfoldable pub parse_assign_or_branch : List ℕ → Parsed Statement
parse_assign_or_branch l = either (parse_assign l) (parse_branch l)

-- a statement by its first byte: `r`, `w`, `s` or `i`
unfoldable pub by_first : ℕ → List ℕ → Parsed Statement
by_first c l =
    pick (eqb c (byte "r")) (parse_read l)
    (pick (eqb c (byte "w")) (parse_write l)
    (pick (eqb c (byte "s")) (parse_skip l)
    (where? (eqb c (byte "i")) (parse_assign_or_branch l))))

unfoldable pub parse_statement : List ℕ → Parsed Statement
parse_statement [] = misspelled
parse_statement (c ∷ l) = by_first c (c ∷ l)

-- a statement with its byte 10
unfoldable pub parse_line : List ℕ → Parsed Statement
parse_line l =
    after (parse_statement l) λ s t.
    after (parse_word (10 ∷ []) t) λ _ u.
    found s u
