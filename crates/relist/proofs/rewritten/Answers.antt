-- `relist::rewritten` meets its contract: the marks are judged and made as `judge` does. Assumes nothing.
use native.Mathlib.Omega.{arith}
use Rattle.atoms.proofs.Found.{placeless}
use Rattle.calls.proofs.Known.{known-program}
use Rattle.judge.proofs.Judges.{some-judged}
use Rattle.relist.proofs.Rounds.{own-text, round}
use Rattle.relist.proofs.rewritten.Goals as goal

pub find-requires : goal.find-requires
find-requires c = record { held = c.requires.held; well_formed = c.requires.well_formed; placeless = placeless c.blank-rows.ensures }

pub judge-requires : goal.judge-requires
judge-requires c =
    let known = known-program {flow = c.of.new.flow} (own-text c.requires.well_formed) c.requires.held c.find.ensures c.blank_codes-codes.ensures.many c.of.ensures (omega (arith, c.of.auto, c.blank-flow.ensures.size)) in
    record { held = (c.requires.held, known); some_taken = (c.requires.some_taken, omega (arith, c.verdict_buffer-verdicts.ensures)) }

pub rewrite-requires : goal.rewrite-requires
rewrite-requires c =
    let m = c.requires.some_taken in
    record { held = c.requires.held; some_judged = some-judged (own-text c.requires.well_formed) m.taken (c.judge.ensures m.ms m.taken).0 (omega (arith, c.verdict_buffer-verdicts.ensures)) }

pub returns : goal.returns
returns c = λ ms taken.
    round c.requires.held c.requires.well_formed taken (c.judge.ensures ms taken).0 (c.rewrite.ensures ms taken)
