-- A proof device: what each reader of atoms finds at the front of a text, the readers' common language. It promises nothing by itself:
-- proofs/Spelling.antt holds it to the spelling, both ways round.
use Rattle.std.specs.Prelude.{List, [], ◌∷◌, ℕ, eqb}
use Rattle.base.specs.Bytes.{bytes, byte}
use Rattle.tokens.specs.Parsing.{Parsed, found, misspelled, after, after_or, parse_word, parse_statement_number, parse_variable}
use Rattle.base.specs.Pick.{pick}
use Rattle.statement_reader.specs.Parsing.{parse_expression, parse_statement}
use Rattle.condition.specs.declared.Atom.{Atom}
use Rattle.condition.specs.declared.Atom.TheVariants.{True, False, Entry, Exit, Node, Stmt, Def, Use, Trans}

-- the value a, past the word
unfoldable pub parse_ended : {A : Type 0} → List ℕ → A → List ℕ → Parsed A
parse_ended w a l = after (parse_word w l) λ _ t. found a t

unfoldable pub parse_node : List ℕ → Parsed Atom
parse_node l = after (parse_word (bytes "node(") l) λ _ t. after (parse_statement_number t) λ n u. parse_ended (bytes ")") (Node n) u

unfoldable pub parse_stmt : List ℕ → Parsed Atom
parse_stmt l = after (parse_word (bytes "stmt(") l) λ _ t. after (parse_statement t) λ i u. parse_ended (bytes ")") (Stmt i) u

unfoldable pub parse_def : List ℕ → Parsed Atom
parse_def l = after (parse_word (bytes "def(") l) λ _ t. after (parse_variable t) λ x u. parse_ended (bytes ")") (Def x) u

unfoldable pub parse_use : List ℕ → Parsed Atom
parse_use l = after (parse_word (bytes "use(") l) λ _ t. after (parse_variable t) λ x u. parse_ended (bytes ")") (Use x) u

unfoldable pub parse_trans : List ℕ → Parsed Atom
parse_trans l = after (parse_word (bytes "trans(") l) λ _ t. after (parse_expression t) λ e u. parse_ended (bytes ")") (Trans e) u

-- two pairs of atoms have their first byte in common
unfoldable pub parse_true_or_trans : List ℕ → Parsed Atom
parse_true_or_trans l = after_or (parse_word (bytes "true") l) (λ _ t. found True t) (parse_trans l)

unfoldable pub parse_entry_or_exit : List ℕ → Parsed Atom
parse_entry_or_exit l = after_or (parse_word (bytes "entry") l) (λ _ t. found Entry t) (parse_ended (bytes "exit") Exit l)

-- the text's first byte c picks the reader
abbrev pub by_first : ℕ → List ℕ → Parsed Atom
by_first c l =
    pick (eqb c (byte "t")) (parse_true_or_trans l)
    (pick (eqb c (byte "f")) (parse_ended (bytes "false") False l)
    (pick (eqb c (byte "e")) (parse_entry_or_exit l)
    (pick (eqb c (byte "n")) (parse_node l)
    (pick (eqb c (byte "s")) (parse_stmt l)
    (pick (eqb c (byte "d")) (parse_def l)
    (pick (eqb c (byte "u")) (parse_use l) misspelled))))))

unfoldable pub parse_atom : List ℕ → Parsed Atom
parse_atom [] = misspelled
parse_atom (c ∷ l) = by_first c (c ∷ l)
