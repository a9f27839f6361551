-- `at_line` meets its contract: judged as `judge` does it, and where the byte is 14 the path that the search finds. Assumes nothing.
use Rattle.why.proofs.Answers.{line-few, line-variable, own_uses, refusal, refusal-place, told-other, told-path}
use Rattle.table.specs.Known.{Known}
use Rattle.calls.proofs.Known.{known-program}
use Rattle.atoms.proofs.Rows.{facts-in}
use Rattle.atoms.proofs.Found.{placeless}
use Rattle.program.specs.Reading.{statements}
use native.Mathlib.Omega.{arith}
use mathlib.Core.Path.{sym, ◌∙◌}
use Rattle.why.proofs.at_line.Goals as goal
use Rattle.why.proofs.at_line.Goals.{After-of}

-- what is known of the program before its list is judged
program-known : (c : After-of) → Known (statements c.args.p) c.args.p.count c.find.new.rows c.find.new.codes c.of.new.flow
program-known c =
    known-program {flow = c.of.new.flow} c.requires.1.1 c.requires.0 c.find.ensures c.blank_codes-codes.ensures.many c.of.ensures (omega (arith, c.of.auto, c.blank-flow.ensures.size))

pub find-requires : goal.find-requires
find-requires c = record { held = c.requires.0; well_formed = c.requires.1.1.program; placeless = placeless c.blank-rows.ensures }

pub row-requires : goal.row-requires
row-requires c = let k = program-known (goal.at.row-requires c).After-of in record { valid_atom = (rw c.variable_of.ensures (line-variable c.requires.2), record { many = k.found.many; many_codes = k.found.many_codes }); n_le_most = (omega (arith, k.size, k.few), c.blank_row-own.ensures.size) }

pub judge-requires : goal.judge-requires
judge-requires c = let l = c.requires.2 in record { held = (c.requires.0, program-known (goal.at.judge-requires c).After-of); some_taken = (record { ms = l.ms; taken = l.taken }, omega (arith, c.verdict_buffer-verdicts.ensures)) }

pub bounds-verdicts-line : goal.bounds-verdicts-line
bounds-verdicts-line c = line-few c.requires.2

pub returns-then-verdict-from : goal.returns-then-verdict-from
returns-then-verdict-from c = λ t taken.
    let l = c.requires.2 in
    let v = (c.judge.ensures l.ms l.taken).0.judged c.args.line l.inside in
    let w = c.without_path.ensures in
    rw (w.0, w.1, w.2) (told-other c.requires.3 taken l v.0 v.1 _ v.2 (λ e. c.if-verdict-from.true (e ∙ sym c.from.ensures)))

pub path_of-shown-requires : goal.path_of-shown-requires
path_of-shown-requires c =
    let l = c.requires.2 in
    let k = program-known (goal.at.path_of-shown-requires c).After-of in
    let j = c.judge.ensures l.ms l.taken in
    let v = j.0.judged c.args.line l.inside in
    let byte = sym v.2 ∙ c.if-verdict-from.false ∙ c.from.ensures in
    let own = own_uses l (statements c.args.p) k _ _ c.variable_of.ensures (c.row.ensures _ k.size (facts-in k.found)) in
    (record { P = statements c.args.p; ms = l.ms; refused = refusal l (statements c.args.p) v.0 v.1 byte j.1 _ own; here = refusal-place l (statements c.args.p) v.0 v.1 byte k.few _ c.place_of-s.ensures.1 }, c.row.auto.out ∙ c.blank_row-own.ensures.size, omega (arith, c.requires.3, k.size, k.few))

pub overflow_cast-result : goal.overflow_cast-result
overflow_cast-result c = let k = program-known (goal.at.overflow_cast-result c).After-of in omega (arith, c.path_of-shown.ensures.1, k.size, k.few)

pub returns : goal.returns
returns c = λ t taken.
    let l = c.requires.2 in
    let k = program-known (goal.at.returns c).After-of in
    let j = c.judge.ensures l.ms l.taken in
    let v = j.0.judged c.args.line l.inside in
    let byte = sym v.2 ∙ c.if-verdict-from.false ∙ c.from.ensures in
    let own = own_uses l (statements c.args.p) k _ _ c.variable_of.ensures (c.row.ensures _ k.size (facts-in k.found)) in
    told-path c.requires.3 taken l v.0 v.1 _ v.2 (c.if-verdict-from.false ∙ c.from.ensures) (c.path_of-shown.ensures.0 _ _ (refusal l (statements c.args.p) v.0 v.1 byte j.1 _ own))
