-- A proof device: parts told apart with no text of an operator, what a function that numbers the parts one by one may compare instead.
use Rattle.std.specs.Prelude.{◌≡◌, List, ℕ, ◌<◌, length}
use Rattle.condition.specs.Condition.{Condition, atom, unary, binary, spell_atom, ValidCondition}
use Rattle.condition.specs.Words.{unary_code, binary_code}
use Rattle.sharing.specs.Sharing.{Alike, part, number_of}

-- some condition of the list is spelled as c is
abbrev pub Known : List Condition → Condition → Type 0
Known ds c = number_of ds c < length ds

-- no two of the list are spelled alike
abbrev pub Distinct : List Condition → Type 0
Distinct ds = (i j : ℕ) → i < length ds → j < length ds → Alike (part ds i) (part ds j) → i ≡ j

-- an atom's text; or an operator's code and its operands' numbers, the one of a unary operator twice
pub data Key : Type 0 where
  text : List ℕ → Key
  operator : ℕ → ℕ → ℕ → Key

-- the key of c, its operands numbered by the list
abbrev pub key_of : List Condition → Condition → Key
key_of ds (atom a) = text (spell_atom a)
key_of ds (unary o p) = operator (unary_code o) (number_of ds p) (number_of ds p)
key_of ds (binary o p q) = operator (binary_code o) (number_of ds p) (number_of ds q)

-- X of each operand
abbrev pub Operands : (Condition → Type 0) → Condition → Type 0
Operands X (atom a) = Unit
Operands X (unary o p) = X p
Operands X (binary o p q) = X p × X q

-- c can be given its key
pub record Ready (ds : List Condition) (c : Condition) : Type 0 where
  pub valid : ValidCondition c
  pub operands : Operands (Known ds) c

-- no two of the list are alike, and each can be given its key
pub record Numbered (ds : List Condition) : Type 0 where
  pub distinct : Distinct ds
  pub ready : (i : ℕ) → i < length ds → Ready ds (part ds i)

-- p stands in the list before place k
abbrev pub Before : List Condition → ℕ → Condition → Type 0
Before ps k p = (j : ℕ) × (j < k) × (part ps j ≡ p)

-- each part is valid and comes after its operands
pub record Postfix (ps : List Condition) : Type 0 where
  pub valid : (k : ℕ) → k < length ps → ValidCondition (part ps k)
  pub earlier : (k : ℕ) → k < length ps → Operands (Before ps k) (part ps k)

-- each of the list comes after its operands
abbrev pub Ordered : List Condition → Type 0
Ordered ds = (k : ℕ) → k < length ds → Operands (λ p. number_of ds p < k) (part ds k)
