-- `entry_of` meets its contract: the head has its parts, and what is behind it is an operand or a target. Assumes nothing.
use mathlib.Core.Path.{sym, ◌∙◌}
use Rattle.encoding.specs.Encoding.{statement_in}
use Rattle.encoding.proofs.Entries.{kind-high, packed-statement}
use Rattle.encoding.proofs.entry_of.Goals as goal

pub returns-in-Read : goal.returns-in-Read
returns-in-Read c = packed-statement _ c.pack.ensures ∙ sym c.in-Read.is

pub returns-in-Write : goal.returns-in-Write
returns-in-Write c = packed-statement _ c.pack-in-Write.ensures ∙ sym c.in-Write.is

pub returns-in-Skip : goal.returns-in-Skip
unfolding statement_in
returns-in-Skip c = sym c.in-Skip.is

pub returns-in-Branch : goal.returns-in-Branch
returns-in-Branch c = packed-statement _ c.pack-in-Branch.ensures ∙ sym c.in-Branch.is

pub returns-in-Single : goal.returns-in-Single
returns-in-Single c =
    packed-statement _ c.pack-in-Single.ensures ∙ rw (c.in-Assign.is, c.in-Single.is, c.is_constant.ensures, c.word_of.ensures)

pub returns-in-Binary : goal.returns-in-Binary
returns-in-Binary c =
    packed-statement _ c.pack-in-Binary.ensures
    ∙ kind-high _ _ _ _ _ _ c.kind_of.ensures.0
    ∙ rw (c.in-Assign.is, c.in-Binary.is, c.is_constant-in-Binary-2.ensures, c.is_constant-in-Binary.ensures, c.kind_of.ensures.2, c.word_of-in-Binary-2.ensures, c.word_of-in-Binary.ensures)
