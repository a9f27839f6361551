-- `less` meets its contract: words of the lower half stand for themselves. Assumes nothing.
use mathlib.Core.Path.{◌≡◌, ◌∙◌}
use lib.IntN.{◌-ℤ◌}
use mir.Syntax.{w32}
use mir.Val.{to_z, SFits}
use mir.Facts.{to_z-of_z}
use borrow.Author.Rules.{sfits_of}
use Rattle.price_list.specs.PriceList.{less}
use Rattle.price_list.proofs.Lists.{low_word, less-small}
use Rattle.price_list.proofs.less.Goals as goal
use Rattle.price_list.proofs.less.Goals.{Start}

small : (c : Start) → SFits w32 (to_z w32 c.args.a -ℤ to_z w32 c.args.b)
small c =
    let a = c.args.a in
    let b = c.args.b in
    let h : SFits w32 (less a b) = sfits_of (less-small 2147483648 a b c.requires.0 c.requires.1) in
    rw (low_word a c.requires.0, low_word b c.requires.1) h

pub returns : goal.returns
returns c =
    let a = c.args.a in
    let b = c.args.b in
    let words : to_z w32 a -ℤ to_z w32 b ≡ less a b = rw (low_word a c.requires.0, low_word b c.requires.1) in
    to_z-of_z {w = w32} (small (goal.at.returns c).Start) ∙ words
