-- Proof devices: how the keys of parts are held and looked up. No sentence of a document stands here.
use Rattle.std.specs.Prelude.{◌≡◌, List, [], ◌∷◌, ℕ, zero, suc, ◌+◌, ◌-◌, ◌*◌, ◌%◌, ◌≤◌, ◌<◌, eqb, length, get_or, take, drop}
use Rattle.base.specs.Pick.{pick}
use Rattle.condition.specs.Words.{code_in, left_in, start_in, end_in}
use Rattle.sharing.specs.Sharing.{most_tables}
use Rattle.sharing.specs.Keys.{Key, text, operator}

-- the bytes of the text u from `start` to `end`
abbrev pub span : ℕ → ℕ → List ℕ → List ℕ
span start end u = take (end - start) (drop start u)

-- the key that an entry tells, a word as those of parts are: of an atom it has the places of its text in u, of an operator its operands'
-- numbers, the right one in place of a start
abbrev pub key_in : List ℕ → ℕ → Key
key_in u w = pick (eqb (code_in w) 0) (text (span (start_in w) (end_in w) u)) (operator (code_in w) (left_in w) (start_in w))

-- an entry's places lie in the text u, and an operator's has no more than its numbers
pub record Formed (u : List ℕ) (w : ℕ) : Type 0 where
  pub order : code_in w ≡ 0 → start_in w ≤ end_in w
  pub within : code_in w ≡ 0 → end_in w ≤ length u
  pub plain : (code_in w ≡ 0 → ⊥) → w < 1099511627776

-- keys are listed by this many hashes, the code's LISTS
abbrev pub lists : ℕ
lists = 256

-- the hash of a text after bytes that have the hash h
unfoldable pub hash_from : ℕ → List ℕ → ℕ
hash_from h [] = h
hash_from h (b ∷ l) = hash_from ((h * 31 + b) % 65536) l

abbrev pub hash_of : Key → ℕ
hash_of (text t) = hash_from 0 t % lists
hash_of (operator c l r) = (c * 7 + l * 37 + r * 86) % lists

-- the last of the first n numbers at which f is h, counted from 1, or 0
unfoldable pub latest : (ℕ → ℕ) → ℕ → ℕ → ℕ
latest f h zero = 0
latest f h (suc n) = pick (eqb (f n) h) (suc n) (latest f h n)

abbrev pub hash_at : List ℕ → List ℕ → ℕ → ℕ
hash_at u entries i = hash_of (key_in u (get_or entries i 0))

-- the first `count` entries are listed by their hashes: each list begins with its last entry, and a link leads to the one before
pub record Store (u entries links heads : List ℕ) (count : ℕ) : Type 0 where
  pub few : count ≤ most_tables
  pub many : length entries ≡ most_tables
  pub many_links : length links ≡ most_tables
  pub many_heads : length heads ≡ lists
  pub formed : (i : ℕ) → i < count → Formed u (get_or entries i 0)
  pub linked : (i : ℕ) → i < count → get_or links i 0 ≡ latest (hash_at u entries) (hash_at u entries i) i
  pub headed : (h : ℕ) → h < lists → get_or heads h 0 ≡ latest (hash_at u entries) h count

-- entry i has the key of w
pub record Keyed (u entries : List ℕ) (count w i : ℕ) : Type 0 where
  pub inside : i < count
  pub same : key_in u (get_or entries i 0) ≡ key_in u w

-- no entry has it
abbrev pub Unkeyed : List ℕ → List ℕ → ℕ → ℕ → Type 0
Unkeyed u entries count w = (i : ℕ) → i < count → key_in u (get_or entries i 0) ≡ key_in u w → ⊥
