-- `list` meets its contract: both texts read as their programs, and their columns are summed. Assumes nothing.
use Rattle.language.specs.declared.Statement.{Statement}
use mathlib.Core.Path.{◌≡◌, ◌∙◌}
use mathlib.Core.List.{List}
use Prim.Native.Nat.{ℕ}
use native.Mathlib.Omega.{arith}
use mir.Syntax.{w32}
use mir.Val.{SFits}
use mir.Facts.{to_z-of_z}
use borrow.Author.Rules.{rules}
use lib.ListN.{length}
use Rattle.program.specs.Program.{most}
use Rattle.program.proofs.RoundTrip.{taken-unique}
use Rattle.pricing.specs.Prices.{column, most_price, Fair}
use Rattle.pricing.proofs.Columns.{column-length}
use Rattle.pricing.proofs.Fair.{column-most}
use Rattle.price_list.proofs.Lists.{sum-most, listed}
use Rattle.price_list.proofs.list.Goals as goal

pub read_taken-one-requires : goal.read_taken-one-requires
read_taken-one-requires c = let both = c.requires.both in record { P = both.P; taken = both.given }

pub read_taken-two-requires : goal.read_taken-two-requires
read_taken-two-requires c = let both = c.requires.both in record { P = both.Q; taken = both.new }

-- a column of fair prices can be summed
ready : (ps : List ℕ) (P : List Statement) {found : List ℕ} → found ≡ column ps P → Fair ps → Fair found × (length found ≡ most)
ready ps P e f = rw e (column-most most_price ps P f, column-length ps P)

pub total-cost-requires : goal.total-cost-requires
total-cost-requires c = let r = ready _ _ c.prices_of-before.ensures c.requires.fair in (r.0, c.read_taken-one.ensures.1.few, r.1)

pub total-rest-requires : goal.total-rest-requires
total-rest-requires c = let r = ready _ _ c.prices_of-after.ensures c.requires.fair in (r.0, c.read_taken-one.ensures.1.few, r.1)

pub less-requires : goal.less-requires
less-requires c =
    let few = c.read_taken-one.ensures.1.few in
    let n = c.read_taken-one.result.count in
    let one = sum-most most_price n c.prices_of-before.result (ready _ _ c.prices_of-before.ensures c.requires.fair).0 in
    let two = sum-most most_price n c.prices_of-after.result (ready _ _ c.prices_of-after.ensures c.requires.fair).0 in
    (omega (arith, few, c.total-cost.ensures, c.total-rest.ensures, one, two), omega (arith, few, c.total-cost.ensures, c.total-rest.ensures, one, two))

pub returns : goal.returns
returns c P Q t w =
    let both = c.requires.both in
    let same : length Q ≡ length P = rw (taken-unique w both.new, taken-unique t both.given) both.same in
    let fits : SFits w32 c.less.result = search rules in
    listed c.read_taken-one.result c.read_taken-two.result (c.read_taken-one.ensures.0 P t) (c.read_taken-two.ensures.0 Q w) c.read_taken-one.ensures.1 same c.prices_of-before.ensures c.prices_of-after.ensures
    c.total-cost.ensures c.total-rest.ensures (to_z-of_z {w = w32} fits ∙ c.less.ensures)
