-- A proof device: what each reader of marks finds at the front of a text, the readers' common language. It promises nothing by itself:
-- proofs/Spelling.antt holds it to the spelling, both ways round.
use Rattle.std.specs.Prelude.{Bool, true, false, List, [], ◌∷◌, ℕ, eqb}
use Rattle.base.specs.Bytes.{byte}
use Rattle.base.specs.Pick.{pick}
use Rattle.language.specs.declared.Expression.{Expression}
use Rattle.tokens.specs.Parsing.{Parsed, found, misspelled, after, parse_word, parse_statement_number, parse_variable}
use Rattle.statement_reader.specs.Parsing.{parse_operand, parse_expression}
use Rattle.marks.specs.Marks.{mark_word, rm_word, rpl_word, cse_word, comma_word}
use Rattle.marks.specs.declared.Mark.{Mark}
use Rattle.marks.specs.declared.Mark.TheVariants.{Rm, Rpl, Cse}

-- the word w, a variable and `, `
unfoldable pub parse_front : List ℕ → List ℕ → Parsed ℕ
parse_front w l =
    after (parse_word w l) λ _ t.
    after (parse_variable t) λ x u.
    after (parse_word comma_word u) λ _ v.
    found x v

-- a mark's end: its `)` and its byte 10
abbrev pub end_word : List ℕ
end_word = byte ")" ∷ 10 ∷ []

-- the word w, a variable, `, `, what p reads, and the end: the mark that f makes of them
unfoldable pub parse_tail : {A : Type 0} → List ℕ → (List ℕ → Parsed A) → (ℕ → A → Mark) → List ℕ → Parsed Mark
parse_tail w p f l =
    after (parse_front w l) λ x t.
    after (p t) λ a u.
    after (parse_word end_word u) λ _ v.
    found (f x a) v

-- the mark of a variable and an expression: a `cse` or an `rm`
abbrev pub computed_mark : Bool → ℕ → ℕ → Expression → Mark
computed_mark true n x e = Cse n x e
computed_mark false n x e = Rm n x e

abbrev pub parse_computed : List ℕ → Bool → ℕ → List ℕ → Parsed Mark
parse_computed w b n l = parse_tail w parse_expression (computed_mark b n) l

abbrev pub parse_rpl : ℕ → List ℕ → Parsed Mark
parse_rpl n l = parse_tail rpl_word parse_operand (Rpl n) l

-- a mark on statement n by the second byte of its kind: `rm`, `rpl` or `cse`
abbrev pub by_second : ℕ → ℕ → List ℕ → Parsed Mark
by_second c n l = pick (eqb c (byte "m")) (parse_computed rm_word false n l) (pick (eqb c (byte "p")) (parse_rpl n l) (parse_computed cse_word true n l))

unfoldable pub parse_kind : ℕ → List ℕ → Parsed Mark
parse_kind n [] = misspelled
parse_kind n (a ∷ []) = misspelled
parse_kind n (a ∷ c ∷ l) = by_second c n (a ∷ c ∷ l)

-- a mark with its byte 10
unfoldable pub parse_mark_line : List ℕ → Parsed Mark
parse_mark_line l =
    after (parse_statement_number l) λ n t.
    after (parse_word mark_word t) λ _ u.
    parse_kind n u
