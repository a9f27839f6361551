-- What is told of a file's bytes. No contract can say which bytes the system hands over.
use Rattle.std.specs.Prelude.{◌≡◌, ◌⊎◌, List, ℕ, ◌<◌, T, length, drop, Option, None, Some, Result, Ok, Err}
use Rattle.std.specs.Int.Signed.{non_neg}
use Rattle.std.specs.Fd.{file_raw_fd}
use Rattle.io.specs.Counts.{IsPrefixLen}
use Rattle.std.specs.declared.fs.File.{File}
use Rattle.std.specs.declared.io.Error.{Error}
use Rattle.files.specs.declared.FileError.{FileError}
use Rattle.files.specs.declared.FileError.TheVariants.{Missing, Unread}

-- "files up to 65,535 bytes", and a byte by which a longer one is told
abbrev pub file_room : ℕ
file_room = 65536

-- pieces of what is printed are written from this many bytes
abbrev pub chunk_room : ℕ
chunk_room = 16384

-- an open file's descriptor isn't negative
abbrev pub Opens : Result File Error → Type 0
Opens (Ok f) = T (non_neg (file_raw_fd f))
Opens (Err e) = Unit

-- a whole file is shorter than the lent bytes
abbrev pub Ends : List ℕ → List ℕ → Result (Option ℕ) Error → Type 0
Ends o q (Ok (Some n)) = (n < length o) × (length q ≡ length o)
Ends o q (Ok None) = length q ≡ length o
Ends o q (Err e) = length q ≡ length o

-- the lent bytes beyond the room are kept
pub record Kept (o q : List ℕ) : Type 0 where
  pub size : length q ≡ length o
  pub beyond : drop file_room q ≡ drop file_room o

-- n bytes, no more than a file has, stand at the front of the lent ones; a file that can't be opened leaves them as they are
abbrev pub Reads : List ℕ → List ℕ → Result ℕ FileError → Type 0
Reads o q (Ok n) = (n < file_room) × IsPrefixLen n q × Kept o q
Reads o q (Err Missing) = q ≡ o
Reads o q (Err Unread) = Kept o q

-- the status stays, or becomes that of output that wasn't written
abbrev pub Settles : ℕ → ℕ → Type 0
Settles n r = (r ≡ n) ⊎ (r ≡ 3)
