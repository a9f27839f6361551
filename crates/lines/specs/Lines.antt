-- A text as lines, each ended by byte 10: over what a line holds, how that is spelled without the byte 10, and which of it is valid.
use Rattle.std.specs.Prelude.{◌≡◌, List, [], ◌∷◌, ◌++◌, ℕ, ◌≤◌, length, drop}

-- one line for each, each line ended by byte 10
unfoldable pub text : {A : Type 0} → (A → List ℕ) → List A → List ℕ
text spell [] = []
text spell (x ∷ xs) = spell x ++ 10 ∷ text spell xs

abbrev pub AllValid : {A : Type 0} → (A → Type 0) → List A → Type 0
AllValid Valid [] = Unit
AllValid Valid (x ∷ xs) = Valid x × AllValid Valid xs

module _ {A : Type 0} (spell : A → List ℕ) (Valid : A → Type 0) where
  -- the text t is the lines of the valid xs
  pub record Spells (t : List ℕ) (xs : List A) : Type 0 where
    pub lines : t ≡ text spell xs
    pub valid : AllValid Valid xs

  -- the valid x has the line of the text t that begins at `at` and ends, its byte 10 included, before k
  pub record LineOf (t : List ℕ) (at : ℕ) (x : A) (k : ℕ) : Type 0 where
    pub stands : drop at t ≡ spell x ++ 10 ∷ drop k t
    pub within : k ≤ length t
    pub valid : Valid x

  -- the text doesn't begin with the line of any valid x
  abbrev pub NoLine : List ℕ → Type 0
  NoLine t = (x : A) (rest : List ℕ) → Valid x → t ≡ spell x ++ 10 ∷ rest → ⊥
