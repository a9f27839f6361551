-- What the reader of a price finds at the front of a text: a proof device. proofs/Spelling.antt holds it to the spelling, both ways round.
use Rattle.std.specs.Prelude.{List, [], ◌∷◌, ℕ, leb}
use Rattle.tokens.specs.Parsing.{Parsed, found, after, where?, parse_word, parse_number}
use Rattle.pricing.specs.Prices.{most_price}

-- a price with its byte 10
unfoldable pub parse_price : List ℕ → Parsed ℕ
parse_price l =
    after (parse_number l) λ n t.
    where? (leb 1 n) (where? (leb n most_price) (after (parse_word (10 ∷ []) t) λ _ u. found n u))
