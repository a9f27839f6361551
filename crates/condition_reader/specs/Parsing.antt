-- A proof device: what each reader of conditions finds at the front of a text, and what it stores. It promises nothing by itself:
-- proofs/Spelling.antt holds it to the spelling, both ways round.
use Rattle.std.specs.Prelude.{◌≡◌, List, [], ◌∷◌, Bool, ◌&&◌, ℕ, zero, suc, ◌+◌, ◌-◌, ◌≤◌, leb, length, drop, Option, Some, None}
use Rattle.std.proofs.lemmas.List.Edits.{sets}
use Rattle.base.specs.Bytes.{byte}
use Rattle.tokens.specs.Parsing.{Parsed, found, misspelled, after, after_or, parse_word}
use Rattle.base.specs.Pick.{pick}
use Rattle.condition.specs.Condition.{Condition, atom, unary, binary, parts}
use Rattle.condition.specs.Texts.{most_bytes, most_parts, Spells}
use Rattle.condition.specs.Words.{words}
use Rattle.atom_reader.specs.Parsing.{parse_atom}
use Rattle.operator_reader.specs.declared.Bracket.{Bracket}
use Rattle.operator_reader.specs.Parsing.{parse_prefix, closing_of, parse_opening, parse_middle}

unfoldable pub parse_leaf : List ℕ → Parsed Condition
parse_leaf l = after (parse_atom l) λ a t. found (atom a) t

-- each over the reader of conditions that it calls
unfoldable pub parse_unary : (List ℕ → Parsed Condition) → List ℕ → Parsed Condition
parse_unary r l =
    after (parse_prefix l) λ o t.
    after (r t) λ p u.
    found (unary o p) u

-- past the bracket
unfoldable pub parse_binary : Bracket → (List ℕ → Parsed Condition) → List ℕ → Parsed Condition
parse_binary b r l =
    after (r l) λ p t.
    after (parse_middle b t) λ o u.
    after (r u) λ q v.
    after (parse_word (closing_of b) v) λ _ x.
    found (binary o p q) x

-- a bracket, or a unary operator
unfoldable pub parse_bracketed : (List ℕ → Parsed Condition) → List ℕ → Parsed Condition
parse_bracketed r l = after_or (parse_opening l) (λ b t. parse_binary b r t) (parse_unary r l)

-- `a` to `z` begin an atom
abbrev pub small : ℕ → Bool
small c = leb (byte "a") c && leb c (byte "z")

abbrev pub by_head : (List ℕ → Parsed Condition) → List ℕ → Parsed Condition
by_head r [] = misspelled
by_head r (c ∷ l) = pick (small c) (parse_leaf (c ∷ l)) (parse_bracketed r (c ∷ l))

-- at most `fuel` conditions within one another
unfoldable pub parse_condition : ℕ → List ℕ → Parsed Condition
parse_condition zero l = misspelled
parse_condition (suc fuel) l = by_head (parse_condition fuel) l

-- what a reader of the condition at `at` leaves in the words o, from part n on
pub record Stored (c : Condition) (at : ℕ) (o : List ℕ) (n : ℕ) (q : List ℕ) (m : ℕ) : Type 0 where
  pub text : q ≡ sets o n (words c n at)
  pub counted : m ≡ n + length (parts c)

-- the answer, which is the number of parts so far and the position after the condition, and the words q that the reader leaves, say what p
-- finds at `at` of the text s
abbrev pub Tells : Parsed Condition → List ℕ → ℕ → List ℕ → ℕ → List ℕ → Option (ℕ × ℕ) → Type 0
Tells (found c t) s at o n q (Some r) = (t ≡ drop r.1 s) × Stored c at o n q r.0
Tells (found c t) s at o n q None = ⊥
Tells misspelled s at o n q (Some r) = ⊥
Tells misspelled s at o n q None = Unit

-- the answer tells what the reader of conditions finds at `at`, with every fuel that is enough; and what another reader finds that calls it
abbrev pub Reads : List ℕ → ℕ → List ℕ → ℕ → List ℕ → Option (ℕ × ℕ) → Type 0
Reads s at o n q r = (f : ℕ) → length s - at ≤ f → Tells (parse_condition f (drop at s)) s at o n q r

abbrev pub ReadsBy : ((List ℕ → Parsed Condition) → Parsed Condition) → List ℕ → ℕ → List ℕ → ℕ → List ℕ → Option (ℕ × ℕ) → Type 0
ReadsBy p s at o n q r = (f : ℕ) → length s - at ≤ f + 1 → Tells (p (parse_condition f)) s at o n q r

-- the answer, which is the number of parts, says which condition the whole text t spells
abbrev pub TellsWhole : List ℕ → List ℕ → List ℕ → Option ℕ → Type 0
TellsWhole t o q (Some m) = (c : Condition) × Spells t c × Stored c 0 o 0 q m
TellsWhole t o q None = (c : Condition) → Spells t c → ⊥

-- what the readers ask: a short text, no more parts than bytes so far, and room for the words
pub record Ready (s : List ℕ) (at : ℕ) (o : List ℕ) (n : ℕ) : Type 0 where
  pub short : length s ≤ most_bytes
  pub few : n ≤ at
  pub room : length o ≡ most_parts
