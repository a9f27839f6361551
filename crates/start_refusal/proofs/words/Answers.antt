-- `words` meets its contract. Assumes nothing.
use native.Mathlib.Omega.{arith}
use borrow.Author.Rules.{rules}
use Rattle.language.proofs.Lengths.{number-most}
use Rattle.statement_writer.proofs.Puts.{put_then}
use Rattle.start_refusal.specs.StartRefusal.{start_words}
use Rattle.start_refusal.proofs.words.Goals as goal

pub number-k2-requires : goal.number-k2-requires
number-k2-requires c = omega (arith, number-most c.in-Line.n (search rules))

pub line_range-requires : goal.line_range-requires
line_range-requires c = omega (arith, number-most c.in-Line.n (search rules))

pub number-k2-requires-in-Unended : goal.number-k2-requires-in-Unended
number-k2-requires-in-Unended c = omega (arith, number-most c.in-Unended.n (search rules))

pub word-requires-in-Unended : goal.word-requires-in-Unended
word-requires-in-Unended c = omega (arith, number-most c.in-Unended.n (search rules))

pub returns-in-Few : goal.returns-in-Few
unfolding start_words
returns-in-Few c =
    rw c.in-Few.is (c.word.ensures, omega (arith, c.word.ensures.after))

pub returns-in-Many : goal.returns-in-Many
unfolding start_words
returns-in-Many c =
    rw c.in-Many.is (c.word-in-Many.ensures, omega (arith, c.word-in-Many.ensures.after))

pub returns-in-Line : goal.returns-in-Line
unfolding start_words
returns-in-Line c =
    rw c.in-Line.is (
      put_then c.word-k1.ensures (put_then c.number-k2.ensures c.line_range.ensures.0),
      omega (arith, c.word-k1.ensures.after, c.number-k2.ensures.after, c.line_range.ensures.1, number-most c.in-Line.n (search rules)),
    )

pub returns-in-Unended : goal.returns-in-Unended
unfolding start_words
returns-in-Unended c =
    rw c.in-Unended.is (
      put_then c.word-k1-in-Unended.ensures (put_then c.number-k2-in-Unended.ensures c.word-in-Unended.ensures),
      omega (arith, c.word-k1-in-Unended.ensures.after, c.number-k2-in-Unended.ensures.after, c.word-in-Unended.ensures.after, number-most c.in-Unended.n (search rules)),
    )
