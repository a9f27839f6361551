-- How long the columns of a report are. Assumes nothing.
use mathlib.Core.Path.{◌≡◌, ap, ◌∙◌}
use mathlib.Core.List.{List}
use Prim.Native.Nat.{ℕ, ◌≤◌}
use native.Mathlib.Omega.{arith}
use lib.ListN.{length}
use Rattle.program.specs.Program.{most}
use Rattle.pricing.proofs.Columns.{column-length}
use Rattle.price_list.specs.declared.PriceList.{PriceList}
use Rattle.priced.specs.Priced.{ReportListed}

pub listed-sizes : {ps t u : List ℕ} {l : PriceList} → ReportListed ps t u l → (l.count ≤ most) × (length l.before ≡ most) × (length l.after ≡ most)
listed-sizes r =
    let s = r.listed in
    (omega (arith, s.counted, r.program.program.counted.1), ap length s.before ∙ column-length _ _, ap length s.after ∙ column-length _ _)
