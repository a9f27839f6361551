-- The driver's list: how it is spelled, and what its reader answers. Document 02, Wish 10: "A list, empty or with single spaces between, names
-- the variables that are his." "Turned away: 22 for a misspelled or repeated variable".
use Rattle.std.specs.Prelude.{◌≡◌, Bool, true, false, ◌||◌, List, [], ◌∷◌, ◌++◌, ℕ, eqb}
use Rattle.base.specs.Bytes.{byte}
use Rattle.lines.specs.Lines.{AllValid}
use Rattle.language.specs.Spelling.{spell_variable, ValidVariable}

abbrev pub driver_number : ℕ
driver_number = 22

-- the variables after the first, with a space before each
unfoldable pub spell_more : List ℕ → List ℕ
spell_more [] = []
spell_more (x ∷ xs) = byte " " ∷ (spell_variable x ++ spell_more xs)

unfoldable pub spell_names : List ℕ → List ℕ
unfolding spell_more
spell_names [] = []
spell_names (x ∷ xs) = spell_variable x ++ spell_more xs

-- x is one of them
abbrev pub among : List ℕ → ℕ → Bool
among [] x = false
among (v ∷ vs) x = eqb v x || among vs x

-- none of them was seen before, or stands there twice
abbrev pub Fresh : (ℕ → Bool) → List ℕ → Type 0
Fresh seen [] = Unit
Fresh seen (v ∷ vs) = (seen v ≡ false) × Fresh (λ x. seen x || eqb v x) vs

-- the text t names the variables vs
pub record Named (t vs : List ℕ) : Type 0 where
  pub text : t ≡ spell_names vs
  pub valid : AllValid ValidVariable vs
  pub once : Fresh (λ _. false) vs

-- the text t names no variables
abbrev pub Unnamed : List ℕ → Type 0
Unnamed t = (vs : List ℕ) → Named t vs → ⊥

-- each answer, and the set of variables beside it: none beside a refusal
abbrev pub DriverRead : List ℕ → Bool → (ℕ → Bool) → Type 0
DriverRead t true named = (vs : List ℕ) × Named t vs × ((x : ℕ) → named x ≡ among vs x)
DriverRead t false named = Unnamed t × ((x : ℕ) → named x ≡ false)

-- a proof device: the same before the set is emptied beside a refusal
abbrev pub NamesRead : List ℕ → Bool → (ℕ → Bool) → Type 0
NamesRead t true named = DriverRead t true named
NamesRead t false named = Unnamed t
