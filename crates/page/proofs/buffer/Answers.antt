-- `buffer` meets its contract, by the law on the length of a repeated byte: to count so many would take too long. Assumes nothing.
use Prim.Native.Nat.{ℕ}
use lib.ListN.{length-replicate}
use Rattle.page.specs.Page.{page_room}
use Rattle.page.proofs.buffer.Goals as goal

pub returns : goal.returns
returns c = length-replicate {A = ℕ} page_room 0
