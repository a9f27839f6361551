-- `in_line` meets its contract: each slip in its turn. Assumes nothing.
use Rattle.slips.specs.Slips.{line_slip}
use mathlib.Core.Path.{sym, ◌∙◌}
use Rattle.slips.proofs.in_line.Goals as goal

pub returns-then-marked : goal.returns-then-marked
unfolding line_slip
returns-then-marked c = rw (sym c.marked.ensures ∙ c.if-marked.true)

pub returns-then-some : goal.returns-then-some
unfolding line_slip
returns-then-some c =
    rw (
      sym c.marked.ensures ∙ c.if-marked.false,
      sym c.some.ensures ∙ c.if-some.true,
    )

pub returns-then-some-2 : goal.returns-then-some-2
unfolding line_slip
returns-then-some-2 c =
    rw (
      sym c.marked.ensures ∙ c.if-marked.false,
      sym c.some.ensures ∙ c.if-some.false,
      sym c.some-2.ensures ∙ c.if-some-2.true,
    )

pub returns-then-some-3 : goal.returns-then-some-3
unfolding line_slip
returns-then-some-3 c =
    rw (
      sym c.marked.ensures ∙ c.if-marked.false,
      sym c.some.ensures ∙ c.if-some.false,
      sym c.some-2.ensures ∙ c.if-some-2.false,
      sym c.some-3.ensures ∙ c.if-some-3.true,
    )

pub returns-then-some-4 : goal.returns-then-some-4
unfolding line_slip
returns-then-some-4 c =
    rw (
      sym c.marked.ensures ∙ c.if-marked.false,
      sym c.some.ensures ∙ c.if-some.false,
      sym c.some-2.ensures ∙ c.if-some-2.false,
      sym c.some-3.ensures ∙ c.if-some-3.false,
      sym c.some-4.ensures ∙ c.if-some-4.true,
    )

pub returns : goal.returns
unfolding line_slip
returns c =
    rw (
      sym c.marked.ensures ∙ c.if-marked.false,
      sym c.some.ensures ∙ c.if-some.false,
      sym c.some-2.ensures ∙ c.if-some-2.false,
      sym c.some-3.ensures ∙ c.if-some-3.false,
      sym c.some-4.ensures ∙ c.if-some-4.false,
    )
    c.first_outside.ensures
