-- Words of the papers as bytes.
use Rattle.std.specs.Prelude.{List, [], ◌∷◌, ℕ}
use Prim.Native.Char.{code}
use Prim.Native.String.{String}
use Prim.Native.String as string

-- the bytes of an ASCII text
abbrev pub bytes : String → List ℕ
bytes string.[] = []
bytes (string.◌∷◌ c s) = code c ∷ bytes s

-- the byte of an ASCII character, given as a text of that character alone: `byte "E"`
abbrev pub byte : String → ℕ
byte string.[] = 0
byte (string.◌∷◌ c s) = code c
