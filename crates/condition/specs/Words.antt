-- How the code holds a condition: one word for each part.
use Rattle.std.specs.Prelude.{◌≡◌, List, [], ◌∷◌, ◌++◌, ℕ, ◌+◌, ◌-◌, ◌*◌, ◌/◌, ◌%◌, length, take, drop, replicate}
use Rattle.ctl.specs.Paths.{E, A, forward, backward}
use Rattle.condition.specs.Condition.{next, finally, globally, until, weak, Unary, negation, Binary, conjunction, disjunction, Condition, atom, unary, binary, prefix, opening, middle, spell_condition, parts}
use Rattle.condition.specs.Texts.{most_parts}

-- operators as the code's numbers; 0 is an atom
abbrev pub unary_code : Unary → ℕ
unary_code negation = 1
unary_code (Unary.path E forward next) = 2
unary_code (Unary.path A forward next) = 3
unary_code (Unary.path E forward finally) = 4
unary_code (Unary.path A forward finally) = 5
unary_code (Unary.path E forward globally) = 6
unary_code (Unary.path A forward globally) = 7
unary_code (Unary.path E backward next) = 8
unary_code (Unary.path A backward next) = 9
unary_code (Unary.path E backward finally) = 10
unary_code (Unary.path A backward finally) = 11
unary_code (Unary.path E backward globally) = 12
unary_code (Unary.path A backward globally) = 13

abbrev pub binary_code : Binary → ℕ
binary_code conjunction = 14
binary_code disjunction = 15
binary_code (Binary.path E forward until) = 16
binary_code (Binary.path A forward until) = 17
binary_code (Binary.path E forward weak) = 18
binary_code (Binary.path A forward weak) = 19
binary_code (Binary.path E backward until) = 20
binary_code (Binary.path A backward until) = 21
binary_code (Binary.path E backward weak) = 22
binary_code (Binary.path A backward weak) = 23

-- one part as a word: its operator's code, the number of its left operand's part, and the places of its text's first byte and of the byte
-- after its last
abbrev pub word : ℕ → ℕ → ℕ → ℕ → ℕ
word code left start end = code + 256 * left + 16777216 * start + 1099511627776 * end

-- what a word holds
abbrev pub code_in : ℕ → ℕ
code_in w = w % 256

abbrev pub left_in : ℕ → ℕ
left_in w = w / 256 % 65536

abbrev pub start_in : ℕ → ℕ
start_in w = w / 16777216 % 65536

abbrev pub end_in : ℕ → ℕ
end_in w = w / 1099511627776

-- the words of a condition whose text begins at `at` and whose first part has the number n, in the order of its parts
unfoldable pub words : Condition → ℕ → ℕ → List ℕ
words (atom a) n at = word 0 0 at (at + length (spell_condition (atom a))) ∷ []
words (unary o p) n at =
    let end : ℕ = at + length (spell_condition (unary o p)) in
    words p n (at + length (prefix o)) ++ word (unary_code o) 0 at end ∷ []
words (binary o p q) n at =
    let k : ℕ = n + length (parts p) in
    let first : ℕ = at + length (opening o) in
    let second : ℕ = first + length (spell_condition p) + length (middle o) in
    let end : ℕ = at + length (spell_condition (binary o p q)) in
    words p n first ++ (words q k second ++ word (binary_code o) (k - 1) at end ∷ [])

-- the first m of the words ws are those of the condition c, from part 0 and byte 0 on, and the others are zeros
pub record Held (c : Condition) (m : ℕ) (ws : List ℕ) : Type 0 where
  pub counted : m ≡ length (parts c)
  pub kept : take m ws ≡ words c 0 0
  pub zeros : drop m ws ≡ replicate (most_parts - m) 0
  pub room : length ws ≡ most_parts
