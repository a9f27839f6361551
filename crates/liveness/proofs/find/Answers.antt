-- `find` meets its contract: the facts of the program that was read are found, and its graph is drawn, as for a table. Assumes nothing.
use mathlib.Core.Path.{ap, ◌∙◌}
use Prim.Native.Nat.{ℕ}
use native.Mathlib.Omega.{arith}
use lib.ListN.{length, length-replicate}
use Rattle.program.specs.Program.{Taken}
use Rattle.program.specs.Reading.{statements, Held}
use Rattle.program.proofs.Unique.{taken_refused}
use Rattle.table.proofs.By.{known_in}
use Rattle.atoms.proofs.Found.{placeless}
use Rattle.calls.proofs.Known.{known-program}
use Rattle.liveness.specs.Liveness.{live_words}
use Rattle.liveness.proofs.Rows.{all_live, of-text, of_none}
use Rattle.liveness.proofs.find.Goals as goal
use Rattle.liveness.proofs.find.Goals.{In-Ok}

pub returns-in_default : goal.returns-in_default
returns-in_default c =
    let f = rw c.in_default.is at c.read.ensures in
    of_none (λ P t. taken_refused _ t c.in_default.field-0 f) c.blank-live.ensures

-- the text that was read is taken
program-taken : (c : In-Ok) → Taken c.args.program.now (statements c.in-Ok.p) × Held c.in-Ok.p
program-taken c = rw c.in-Ok.is at c.read.ensures

pub find-requires : goal.find-requires
find-requires c =
    let p = program-taken (goal.at.find-requires c).In-Ok in
    record { held = p.1; well_formed = p.0.program; placeless = placeless c.blank-rows.ensures }

pub of-requires : goal.of-requires
of-requires c = let p = program-taken (goal.at.of-requires c).In-Ok in record { held = p.1; well_formed = p.0.program; flow_len = c.blank-flow.ensures.size }

pub fill-requires : goal.fill-requires
fill-requires c =
    let p = program-taken (goal.at.fill-requires c).In-Ok in
    let k = known-program {flow = c.of.new.flow} p.0 p.1 c.find.ensures c.blank_codes-codes.ensures.many c.of.ensures (omega (arith, c.of.auto.flow, c.blank-flow.ensures.size)) in
    record { some_known = record { P = _; known = known_in k }; live_len = ap length c.blank-live.ensures ∙ length-replicate {A = ℕ} live_words 0 }

pub returns : goal.returns
returns c =
    let p = program-taken (goal.at.returns c).In-Ok in
    let k = known-program {flow = c.of.new.flow} p.0 p.1 c.find.ensures c.blank_codes-codes.ensures.many c.of.ensures (omega (arith, c.of.auto.flow, c.blank-flow.ensures.size)) in
    let size = ap length c.blank-live.ensures ∙ length-replicate {A = ℕ} live_words 0 in
    of-text p.0 (all_live k (c.fill.auto.live ∙ size) (c.fill.ensures _ (known_in k)))
