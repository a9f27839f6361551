-- `atoms::find` meets its contract: the invariant is the contract at place s. Assumes nothing.
use mathlib.Core.Path.{ap, ◌∙◌}
use Prim.Native.Nat.{◌<◌}
use native.Mathlib.Omega.{arith}
use lib.ListN.{length}
use Rattle.program.proofs.Held.{at_held}
use Rattle.program.specs.Reading.{statements}
use Rattle.codes.specs.Codes.{statement_code, code_words}
use Rattle.atoms.proofs.Found.{found_none, found-coded, found-uncoded, count-size, place-valid}
use Rattle.atoms.proofs.find.Goals.{then-s-codes, else-s-codes}
use Rattle.atoms.proofs.find.Goals as goal

pub loop-s-init : goal.loop-s-init
loop-s-init c = found_none _ _ _ c.requires.placeless

pub note-requires : goal.note-requires
note-requires c =
    (rw c.statement_of-i.ensures (place-valid c.args.p c.requires.held c.requires.well_formed _ c.loop-s-test.true), omega (arith, c.requires.held.few), c.loop-s.invariant.many)

pub loop-s-preserved : goal.loop-s-preserved
loop-s-preserved c =
    let p = c.args.p in
    let inside : c.loop-s.s < length (statements p) = omega (arith, count-size p c.requires.held) in
    let same = at_held p.entries p.count c.loop-s.s inside in
    let noted = rw c.statement_of-i.ensures at c.note.ensures in
    elim c.if-s-codes.branch [
      | then-s-codes w ↦ rw w.codes-is (found-coded _ _ _ same _ _ _ _ c.loop-s.invariant noted (omega (arith, c.loop-s.invariant.many_codes)) _
          (w.words_of.ensures ∙ ap code_words (w.statement_code.ensures ∙ ap statement_code c.statement_of-i.ensures)))
      | else-s-codes w ↦ rw w.codes-is (found-uncoded _ _ _ same _ _ _ _ c.loop-s.invariant noted (omega (arith, c.loop-s.invariant.many_codes)))
    ]
