-- `write` meets its contract. Assumes nothing.
use mathlib.Core.Path.{refl}
use Rattle.slips.specs.Words.{slip_words}
use native.Mathlib.Omega.{arith}
use Rattle.slips.proofs.words.write.Goals as goal

pub word-requires : goal.word-requires
unfolding slip_words
word-requires c = rw c.in-ByteOrderMark.is at c.requires

pub word-requires-in-CarriageReturn : goal.word-requires-in-CarriageReturn
unfolding slip_words
word-requires-in-CarriageReturn c = rw c.in-CarriageReturn.is at c.requires

pub word-requires-in-Tab : goal.word-requires-in-Tab
unfolding slip_words
word-requires-in-Tab c = rw c.in-Tab.is at c.requires

pub word-requires-in-LineEnd : goal.word-requires-in-LineEnd
unfolding slip_words
word-requires-in-LineEnd c = rw c.in-LineEnd.is at c.requires

pub word-requires-in-Space : goal.word-requires-in-Space
unfolding slip_words
word-requires-in-Space c = rw c.in-Space.is at c.requires

pub word-requires-in-Brackets : goal.word-requires-in-Brackets
unfolding slip_words
word-requires-in-Brackets c = rw c.in-Brackets.is at c.requires

pub word-requires-in-Early : goal.word-requires-in-Early
unfolding slip_words
word-requires-in-Early c = rw c.in-Early.is at c.requires

pub outside-requires : goal.outside-requires
unfolding slip_words
outside-requires c = rw c.in-Variable.is at c.requires

pub outside-requires-in-Negative : goal.outside-requires-in-Negative
unfolding slip_words
outside-requires-in-Negative c = rw c.in-Negative.is at c.requires

pub outside-requires-in-Number : goal.outside-requires-in-Number
unfolding slip_words
outside-requires-in-Number c = rw c.in-Number.is at c.requires

pub wrong_target-requires : goal.wrong_target-requires
unfolding slip_words
wrong_target-requires c = rw c.in-Target.is at c.requires

pub returns-in-Nothing : goal.returns-in-Nothing
unfolding slip_words
returns-in-Nothing c = rw c.in-Nothing.is (record { text = refl; after = omega arith })

pub returns-in-ByteOrderMark : goal.returns-in-ByteOrderMark
unfolding slip_words
returns-in-ByteOrderMark c = rw c.in-ByteOrderMark.is c.word.ensures

pub returns-in-CarriageReturn : goal.returns-in-CarriageReturn
unfolding slip_words
returns-in-CarriageReturn c = rw c.in-CarriageReturn.is c.word-in-CarriageReturn.ensures

pub returns-in-Tab : goal.returns-in-Tab
unfolding slip_words
returns-in-Tab c = rw c.in-Tab.is c.word-in-Tab.ensures

pub returns-in-LineEnd : goal.returns-in-LineEnd
unfolding slip_words
returns-in-LineEnd c = rw c.in-LineEnd.is c.word-in-LineEnd.ensures

pub returns-in-Space : goal.returns-in-Space
unfolding slip_words
returns-in-Space c = rw c.in-Space.is c.word-in-Space.ensures

pub returns-in-Brackets : goal.returns-in-Brackets
unfolding slip_words
returns-in-Brackets c = rw c.in-Brackets.is c.word-in-Brackets.ensures

pub returns-in-Early : goal.returns-in-Early
unfolding slip_words
returns-in-Early c = rw c.in-Early.is c.word-in-Early.ensures

pub returns-in-Variable : goal.returns-in-Variable
unfolding slip_words
returns-in-Variable c = rw c.in-Variable.is c.outside.ensures

pub returns-in-Negative : goal.returns-in-Negative
unfolding slip_words
returns-in-Negative c = rw c.in-Negative.is c.outside-in-Negative.ensures

pub returns-in-Number : goal.returns-in-Number
unfolding slip_words
returns-in-Number c = rw c.in-Number.is c.outside-in-Number.ensures

pub returns-in-Target : goal.returns-in-Target
unfolding slip_words
returns-in-Target c = rw c.in-Target.is c.wrong_target.ensures
