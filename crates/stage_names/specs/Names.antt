-- Names of stages: document 02, Wish 11.
use Rattle.std.specs.Prelude.{◌≡◌, List, ◌++◌, ℕ, ◌-◌, ◌≤◌, ◌<◌, length, get_or, replicate}
use Rattle.base.specs.Bytes.{byte}

-- "named by 1 to 8 lower-case letters"
abbrev pub name_bytes : ℕ
name_bytes = 8

abbrev pub Letter : ℕ → Type 0
Letter b = (byte "a" ≤ b) × (b ≤ byte "z")

pub record ValidName (n : List ℕ) : Type 0 where
  pub some : 1 ≤ length n
  pub few : length n ≤ name_bytes
  pub letters : (i : ℕ) → i < length n → Letter (get_or n i 0)

-- "23 for a wrong name"
abbrev pub name_number : ℕ
name_number = 23

-- "the name, filled up with zero bytes to 8"
abbrev pub filled : List ℕ → List ℕ
filled n = n ++ replicate (name_bytes - length n) 0

-- the bytes are a name so filled up
abbrev pub Named : List ℕ → Type 0
Named b = (n : List ℕ) × ValidName n × (b ≡ filled n)

-- a proof device: the first i bytes are letters
abbrev pub Letters : List ℕ → ℕ → Type 0
Letters b i = (j : ℕ) → j < i → Letter (get_or b j 0)
