-- Proof devices: what the functions that write bits of a list promise. No sentence of the documents stands here.
use Rattle.std.specs.Prelude.{◌≡◌, List, ℕ, ◌+◌, ◌*◌, ◌≤◌, ◌<◌, length, get_or}
use Rattle.base.specs.Pick.{pick}
use Rattle.language.specs.Spelling.{variables}
use Rattle.language.specs.declared.Statement.{Statement}
use Rattle.program.specs.Program.{row_words}
use Rattle.bits.specs.Row.{member, row_of}
use Rattle.atoms.specs.Facts.{fact_rows, placed}
use Rattle.listing.specs.Listing.{list_words, ones, ListOf}

-- the words behind a list are kept
pub record Beyond (old new : List ℕ) : Type 0 where
  pub same : length new ≡ length old
  pub past : (m : ℕ) → list_words ≤ m → get_or new m 0 ≡ get_or old m 0

-- the bits of the places are those of the fresh list, and all others are kept
pub record Merged (places fresh old new : List ℕ) : Type 0 where
  pub beyond : Beyond old new
  pub bits : (r j : ℕ) → r < fact_rows → placed new r j ≡ pick (member places j) (placed fresh r j) (placed old r j)

-- the list of P in the lent words, and the words behind it kept
pub record Made (P : List Statement) (old new : List ℕ) : Type 0 where
  pub beyond : Beyond old new
  pub listed : ListOf P new

-- the ones of every second set, from set k on
pub record OnesFrom (k : ℕ) (l counts : List ℕ) : Type 0 where
  pub size : length counts ≡ variables
  pub each : (v : ℕ) → v < variables → get_or counts v 0 ≡ ones (row_of row_words l (2 * v + k))
