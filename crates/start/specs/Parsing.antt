-- What each reader of a start finds at the front of a text: a proof device. proofs/Values.antt holds it to the spelling, both ways round.
use Rattle.std.specs.Prelude.{List, ℕ, ◌+◌, eqb, leb, ltb}
use Rattle.base.specs.Bytes.{bytes}
use Rattle.base.specs.Pick.{pick}
use Rattle.tokens.specs.Parsing.{Parsed, found, misspelled, after, where?, either, parse_word, parse_number, parse_constant, parse_variable}
use Rattle.start.specs.Start.{fewest, most}
use Rattle.start.specs.declared.Entry.{Entry}
use Rattle.start.specs.declared.Entry.TheVariants.{Plain, Named}

-- number k by itself
unfoldable pub parse_number_of : ℕ → List ℕ → Parsed ℕ
parse_number_of k l = pick (eqb k 1) (parse_number l) (parse_constant l)

unfoldable pub parse_plain : ℕ → List ℕ → Parsed Entry
parse_plain k l = where? (ltb k most) (after (parse_number_of k l) λ v t. found (Plain v) t)

-- `i13 = 40`
unfoldable pub parse_named : ℕ → List ℕ → Parsed Entry
parse_named k l =
    where? (leb fewest k)
    (after (parse_variable l) λ x t.
    where? (leb k (2 + x))
    (after (parse_word (bytes " = ") t) λ _ u.
    after (parse_constant u) λ v w.
    found (Named x v) w))

-- a line without its byte 10
unfoldable pub parse_field : ℕ → List ℕ → Parsed Entry
parse_field k l = either (parse_plain k l) (parse_named k l)
