-- What is known of a program that was read, its facts found and its graph drawn. Assumes nothing.
use mathlib.Core.Path.{◌≡◌}
use mathlib.Core.List.{List}
use Prim.Native.Nat.{ℕ}
use native.Mathlib.Omega.{arith}
use lib.ListN.{length}
use Rattle.program.specs.Program.{most, Taken}
use Rattle.program.specs.Reading.{statements, Held}
use Rattle.program.specs.declared.Program.{Program}
use Rattle.program.proofs.Held.{length-held}
use Rattle.flow.specs.FlowOf.{flow_entries, flow_at, FlowOf}
use Rattle.atoms.proofs.Found.{found-facts}
use Rattle.atoms.specs.Facts.{Found}
use Rattle.table.specs.Known.{Known}

pub known-program : {t : List ℕ} {p : Program} {rows : List ℕ} {room : ℕ} {codes : List (List ℕ)} {flow : List ℕ} → Taken t (statements p) → Held p → Found (statements p) rows room codes
    → room ≡ most → FlowOf (statements p) (flow_at flow) → length flow ≡ flow_entries → Known (statements p) p.count rows codes flow
known-program {p = p} t h f e g s = record {
  size = length-held p.entries p.count (omega (arith, h.room, h.few));
  few = t.program.counted.1;
  found = found-facts f e t.program.counted.1;
  flow_size = s;
  flows = g;
}
