-- `escape` meets its contract. The invariant: the bytes so far are written, escaped. Assumes nothing.
use Prim.Native.Nat.{ℕ}
use mathlib.Core.List.{List}
use native.Mathlib.Omega.{arith}
use lib.ListN.{length, get_or}
use Rattle.page.specs.Page.{escape_byte, escape}
use Rattle.view.proofs.Texts.{upto-none, upto-room, upto-more, upto_all}
use Rattle.page.proofs.escape.Goals as goal

abbrev byte_of : List ℕ → ℕ → List ℕ
byte_of s i = escape_byte (get_or s i 0)

pub loop-b-init : goal.loop-b-init
loop-b-init c = upto-none _ _ _

pub escape_byte-to-requires : goal.escape_byte-to-requires
unfolding escape
escape_byte-to-requires c = upto-room (byte_of c.args.text.now) c.loop-b.invariant (length c.args.text.now) (omega arith) (omega (arith, c.requires))

pub loop-b-preserved : goal.loop-b-preserved
loop-b-preserved c = upto-more (byte_of c.args.text.now) c.loop-b.invariant c.escape_byte-to.ensures

pub returns : goal.returns
unfolding escape
returns c = upto_all (byte_of c.args.text.now) (length c.args.text.now) (omega arith) (omega arith) c.loop-b.invariant
