-- Laws of what is told of files. Assumes nothing.
use Rattle.std.proofs.Common.{◌≡◌, sym, ◌∙◌, Some, Ok, List, ◌++◌, ℕ, ◌≤◌, length, take, drop}
use native.Mathlib.Omega.{arith}
use lib.Seq.{length-take-le, length_front, drop_at}
use Rattle.files.specs.Files.{file_room, Ends, Kept, Reads}

-- a file is read into the front of the lent bytes b, which ys then are
module _ (b ys : List ℕ) (room : file_room ≤ length b) where
  lent : length (take file_room b) ≡ file_room
  lent = length-take-le file_room b room

  pub kept : length ys ≡ length (take file_room b) → Kept b (ys ++ drop file_room b)
  kept l = record { size = length_front b ys file_room l; beyond = drop_at ys (drop file_room b) file_room (l ∙ lent) }

  pub ended-whole : {n : ℕ} → Ends (take file_room b) ys (Ok (Some n)) → Reads b (ys ++ drop file_room b) (Ok n)
  ended-whole {n = n} w =
      let k = kept w.1 in
      let l : n ≤ length (ys ++ drop file_room b) = omega (arith, w.0, lent, k.size) in
      (omega (arith, w.0, lent), (l, sym (length-take-le n (ys ++ drop file_room b) l)), k)
