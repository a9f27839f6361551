-- A proof device: what each reader of operators finds at the front of a text. It promises nothing by itself: proofs/Spelling.antt holds it
-- to the spelling, both ways round.
use Rattle.std.specs.Prelude.{List, [], ◌∷◌, ℕ, eqb, get_or}
use Rattle.base.specs.Bytes.{bytes, byte}
use Rattle.tokens.specs.Parsing.{Parsed, found, misspelled, after, parse_word}
use Rattle.base.specs.Pick.{pick}
use Rattle.ctl.specs.Paths.{Quant, E, A, forward, backward}
use Rattle.condition.specs.Condition.{next, finally, globally, until, weak, Unary, negation, Binary, conjunction, disjunction, prefix, middle}
use Rattle.atom_reader.specs.Parsing.{parse_ended}
use Rattle.operator_reader.specs.declared.Bracket.{Bracket}
use Rattle.operator_reader.specs.declared.Bracket.TheVariants.{Round, Some, All}
use Rattle.operator_reader.specs.declared.Quantifier.{Quantifier}
use Rattle.operator_reader.specs.declared.Quantifier.TheVariants as quantifier

-- of the operators os, with words w, the one whose second byte is c, and then a space
unfoldable pub by_letter : {O : Type 0} → (O → List ℕ) → List O → ℕ → List ℕ → Parsed O
by_letter w [] c l = misspelled
by_letter w (o ∷ os) c l = pick (eqb c (get_or (w o) 1 0)) (parse_ended (bytes " ") o l) (by_letter w os c l)

unfoldable pub parse_letter : {O : Type 0} → (O → List ℕ) → List O → List ℕ → Parsed O
parse_letter w os [] = misspelled
parse_letter w os (c ∷ l) = by_letter w os c l

abbrev pub unaries : Quant → List Unary
unaries k =
    Unary.path k forward next ∷ Unary.path k forward finally ∷ Unary.path k forward globally
    ∷ Unary.path k backward next ∷ Unary.path k backward finally ∷ Unary.path k backward globally ∷ []

unfoldable pub parse_prefix : List ℕ → Parsed Unary
parse_prefix [] = misspelled
parse_prefix (c ∷ l) =
    pick (eqb c (byte "!")) (found negation l)
    (pick (eqb c (byte "E")) (parse_letter prefix (unaries E) l)
    (pick (eqb c (byte "A")) (parse_letter prefix (unaries A) l) misspelled))

abbrev pub binaries : Quant → List Binary
binaries k = Binary.path k forward until ∷ Binary.path k forward weak ∷ Binary.path k backward until ∷ Binary.path k backward weak ∷ []

-- the binary operators that the bracket opens, and what it is spelled and closed by
abbrev pub opened : Bracket → List Binary
opened Round = conjunction ∷ disjunction ∷ []
opened Some = binaries E
opened All = binaries A

abbrev pub opening_of : Bracket → List ℕ
opening_of Round = bytes "("
opening_of Some = bytes "E["
opening_of All = bytes "A["

abbrev pub closing_of : Bracket → List ℕ
closing_of Round = bytes ")"
closing_of Some = bytes "]"
closing_of All = bytes "]"

unfoldable pub parse_opening : List ℕ → Parsed Bracket
parse_opening [] = misspelled
parse_opening (c ∷ l) =
    pick (eqb c (byte "(")) (found Round l)
    (pick (eqb c (byte "E")) (parse_ended (bytes "[") Some l)
    (pick (eqb c (byte "A")) (parse_ended (bytes "[") All l) misspelled))

unfoldable pub parse_middle : Bracket → List ℕ → Parsed Binary
parse_middle b l = after (parse_word (bytes " ") l) λ _ t. parse_letter middle (opened b) t

-- operators by their codes, as the readers answer them
abbrev pub coded : {O : Type 0} → (O → ℕ) → Parsed O → Parsed ℕ
coded code (found o t) = found (code o) t
coded code misspelled = misspelled

-- the quantifier that the letter `E` or `A` spells
abbrev pub quant_of : Quantifier → Quant
quant_of quantifier.Some = E
quant_of quantifier.All = A

-- the codes of the operators with A are one more than those with E
abbrev pub all_of : Quant → ℕ
all_of E = 0
all_of A = 1
