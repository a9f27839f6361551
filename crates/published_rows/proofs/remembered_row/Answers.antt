-- `published_rows::remembered_row` meets its contract: the row of the slot where the key stands there, else the labelled one, and that is remembered. Assumes nothing.
use Rattle.published_rows.proofs.Memory.{remembers-more}
use Rattle.published_rows.specs.Memory.{key_of, Remembers}
use Rattle.atoms.specs.Facts.{used_in}
use Rattle.codes.specs.Codes.{statement_code, code_words}
use Rattle.base.proofs.Decides.{decided-true}
use native.Mathlib.Omega.{arith}
use mathlib.Core.Path.{◌≡◌, ap, ◌∙◌}
use Rattle.published_rows.proofs.remembered_row.Goals as goal
use Rattle.published_rows.proofs.remembered_row.Goals.{After-statement_code-key, Start}

-- what is remembered, of some program
remembered : (s : Start) → Remembers (used_in s.args.rows.now) s.requires.some_known.P s.args.keys.now s.args.memory.now
remembered s = s.requires.valid_mark.2 s.requires.some_known.P s.requires.some_known.known

-- the code is that of the mark's key
key : (c : After-statement_code-key) → c.statement_code-key.result ≡ statement_code (key_of c.args.m)
key c = c.statement_code-key.ensures ∙ ap statement_code c.key_of.ensures

pub slice_copy_out-result : goal.slice_copy_out-result
slice_copy_out-result c = omega (arith, c.slot_of-slot.ensures, (remembered (goal.at.slice_copy_out-result c).Start).many_rows)

pub returns-then-same_words : goal.returns-then-same_words
returns-then-same_words c =
    let i = c.requires.valid_mark in
    let same = decided-true _ c.if-same_words.true c.same_words.ensures in
    (λ P k. (i.2 P k).right _ c.slot_of-slot.ensures c.args.m i.1 (same ∙ ap code_words (key (goal.at.returns-then-same_words c).After-statement_code-key)), i.2)

pub bounds-keys-slot-2 : goal.bounds-keys-slot-2
bounds-keys-slot-2 c = omega (arith, c.slot_of-slot.ensures, (remembered (goal.at.bounds-keys-slot-2 c).Start).many_keys)

pub bounds-memory-slot : goal.bounds-memory-slot
bounds-memory-slot c = omega (arith, c.slot_of-slot.ensures, (remembered (goal.at.bounds-memory-slot c).Start).many_rows)

pub returns : goal.returns
returns c =
    let i = c.requires.valid_mark in
    (c.published_row-row.ensures, λ P k. remembers-more (i.2 P k) c.args.m i.1 _ (c.words_of-words.ensures ∙ ap code_words (key (goal.at.returns c).After-statement_code-key)) _ c.slot_of-slot.ensures _ (c.published_row-row.ensures P k))
