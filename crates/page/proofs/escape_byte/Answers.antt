-- `escape_byte` meets its contract: each arm writes what its byte is escaped to. Assumes nothing.
use borrow.Author.Tests.{ne_eqb}
use Rattle.base.specs.Bytes.{byte}
use Rattle.page.specs.Page.{escape_byte}
use Rattle.page.proofs.escape_byte.Goals as goal

pub word-requires : goal.word-requires
unfolding escape_byte
word-requires c = rw c.in-38.is at c.requires

pub word-requires-in-60 : goal.word-requires-in-60
unfolding escape_byte
word-requires-in-60 c = rw c.in-60.is at c.requires

pub word-requires-in-62 : goal.word-requires-in-62
unfolding escape_byte
word-requires-in-62 c = rw c.in-62.is at c.requires

pub byte-requires : goal.byte-requires
unfolding escape_byte
byte-requires c = let n = c.in_default.in_default-own.rest in rw (ne_eqb _ (byte "&") n.0.0.1, ne_eqb _ (byte "<") n.0.1, ne_eqb _ (byte ">") n.1) at c.requires

pub returns-in-38 : goal.returns-in-38
unfolding escape_byte
returns-in-38 c = rw c.in-38.is c.word.ensures

pub returns-in-60 : goal.returns-in-60
unfolding escape_byte
returns-in-60 c = rw c.in-60.is c.word-in-60.ensures

pub returns-in-62 : goal.returns-in-62
unfolding escape_byte
returns-in-62 c = rw c.in-62.is c.word-in-62.ensures

pub returns-in_default : goal.returns-in_default
unfolding escape_byte
returns-in_default c = let n = c.in_default.in_default-own.rest in rw (ne_eqb _ (byte "&") n.0.0.1, ne_eqb _ (byte "<") n.0.1, ne_eqb _ (byte ">") n.1) c.byte.ensures
