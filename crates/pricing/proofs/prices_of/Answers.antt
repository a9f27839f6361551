-- `prices_of` meets its contract. The invariant: the prices of the statements before place s are found. Assumes nothing.
use Rattle.std.proofs.Common.{◌≡◌, ◌≤◌, ◌+◌, ◌<◌, ℕ, List, sym, ◌∙◌, arith, length, take, set}
use mathlib.Core.List.{map}
use Rattle.program.specs.Program.{most}
use Rattle.encoding.specs.Encoding.{statement_in}
use Rattle.encoding.specs.declared.Entry.{Entry}
use Rattle.program.proofs.Held.{held, at_held, length-held}
use Rattle.pricing.specs.Prices.{price}
use Rattle.pricing.proofs.Columns.{begun, begun-none, begun_more, begun_all}
use Rattle.pricing.proofs.prices_of.Goals as goal

more : (ps : List ℕ) (es : List Entry) {n : ℕ} {found : List ℕ} {s v : ℕ} → length es ≡ most → n ≤ most → found ≡ begun ps (map statement_in (take n es)) s → s < n
    → v ≡ price ps (held es s) → set found s v ≡ begun ps (map statement_in (take n es)) (s + 1)
more ps es {n = n} {s = s} room few i h e =
    let inside : s < length (map statement_in (take n es)) = rw (length-held es n (omega (arith, room, few))) h in
    rw (i, e, ← at_held es n s inside) (begun_more ps (map statement_in (take n es)) s inside)

pub loop-s-init : goal.loop-s-init
loop-s-init c = sym (begun-none _ _)

pub loop-s-preserved : goal.loop-s-preserved
loop-s-preserved c = more _ _ c.requires.room c.requires.few c.loop-s.invariant c.loop-s-test.true (rw c.statement_of.ensures at c.price_of.ensures)

pub returns : goal.returns
returns c =
    let p = c.args.p in
    c.loop-s.invariant ∙ begun_all _ _ _ (rw (length-held p.entries p.count (omega (arith, c.requires.room, c.requires.few))) (omega arith))
