-- `rule_of` meets its contract: at each code stands the operator of that code. Assumes nothing.
use mathlib.Core.Path.{◌≡◌, sym}
use Rattle.ctl.specs.Paths.{E, A, forward, backward}
use Rattle.condition.specs.Condition.{next, finally, globally, until, weak, Unary, negation, Binary, conjunction, disjunction}
use Rattle.table.specs.Rules.{Operation, one, two, code_of}
use Rattle.table.proofs.Rules.{operation_of, rule-of-code}
use Rattle.table.proofs.rule_of.Goals as goal
use Rattle.table.proofs.rule_of.Goals.{In_default}

pub returns-in-1 : goal.returns-in-1
unfolding operation_of
returns-in-1 c = rule-of-code _ 1 c.in-1.is

pub returns-in-2 : goal.returns-in-2
unfolding operation_of
returns-in-2 c = rule-of-code _ 2 c.in-2.is

pub returns-in-3 : goal.returns-in-3
unfolding operation_of
returns-in-3 c = rule-of-code _ 3 c.in-3.is

pub returns-in-4 : goal.returns-in-4
unfolding operation_of
returns-in-4 c = rule-of-code _ 4 c.in-4.is

pub returns-in-5 : goal.returns-in-5
unfolding operation_of
returns-in-5 c = rule-of-code _ 5 c.in-5.is

pub returns-in-6 : goal.returns-in-6
unfolding operation_of
returns-in-6 c = rule-of-code _ 6 c.in-6.is

pub returns-in-7 : goal.returns-in-7
unfolding operation_of
returns-in-7 c = rule-of-code _ 7 c.in-7.is

pub returns-in-8 : goal.returns-in-8
unfolding operation_of
returns-in-8 c = rule-of-code _ 8 c.in-8.is

pub returns-in-9 : goal.returns-in-9
unfolding operation_of
returns-in-9 c = rule-of-code _ 9 c.in-9.is

pub returns-in-10 : goal.returns-in-10
unfolding operation_of
returns-in-10 c = rule-of-code _ 10 c.in-10.is

pub returns-in-11 : goal.returns-in-11
unfolding operation_of
returns-in-11 c = rule-of-code _ 11 c.in-11.is

pub returns-in-12 : goal.returns-in-12
unfolding operation_of
returns-in-12 c = rule-of-code _ 12 c.in-12.is

pub returns-in-13 : goal.returns-in-13
unfolding operation_of
returns-in-13 c = rule-of-code _ 13 c.in-13.is

pub returns-in-14 : goal.returns-in-14
unfolding operation_of
returns-in-14 c = rule-of-code _ 14 c.in-14.is

pub returns-in-15 : goal.returns-in-15
unfolding operation_of
returns-in-15 c = rule-of-code _ 15 c.in-15.is

pub returns-in-16 : goal.returns-in-16
unfolding operation_of
returns-in-16 c = rule-of-code _ 16 c.in-16.is

pub returns-in-17 : goal.returns-in-17
unfolding operation_of
returns-in-17 c = rule-of-code _ 17 c.in-17.is

pub returns-in-18 : goal.returns-in-18
unfolding operation_of
returns-in-18 c = rule-of-code _ 18 c.in-18.is

pub returns-in-19 : goal.returns-in-19
unfolding operation_of
returns-in-19 c = rule-of-code _ 19 c.in-19.is

pub returns-in-20 : goal.returns-in-20
unfolding operation_of
returns-in-20 c = rule-of-code _ 20 c.in-20.is

pub returns-in-21 : goal.returns-in-21
unfolding operation_of
returns-in-21 c = rule-of-code _ 21 c.in-21.is

pub returns-in-22 : goal.returns-in-22
unfolding operation_of
returns-in-22 c = rule-of-code _ 22 c.in-22.is

pub returns-in-23 : goal.returns-in-23
unfolding operation_of
returns-in-23 c = rule-of-code _ 23 c.in-23.is

-- no operator has another code
other : (c : In_default) (x : Operation) → code_of x ≡ c.args.code → ⊥
other c (one negation) e = c.in_default.in_default-own.rest.0.0.0.0.0.0.0.0.0.0.0.0.0.0.0.0.0.0.0.0.0.0.1 (sym e)
other c (one (Unary.path E forward next)) e = c.in_default.in_default-own.rest.0.0.0.0.0.0.0.0.0.0.0.0.0.0.0.0.0.0.0.0.0.1 (sym e)
other c (one (Unary.path A forward next)) e = c.in_default.in_default-own.rest.0.0.0.0.0.0.0.0.0.0.0.0.0.0.0.0.0.0.0.0.1 (sym e)
other c (one (Unary.path E forward finally)) e = c.in_default.in_default-own.rest.0.0.0.0.0.0.0.0.0.0.0.0.0.0.0.0.0.0.0.1 (sym e)
other c (one (Unary.path A forward finally)) e = c.in_default.in_default-own.rest.0.0.0.0.0.0.0.0.0.0.0.0.0.0.0.0.0.0.1 (sym e)
other c (one (Unary.path E forward globally)) e = c.in_default.in_default-own.rest.0.0.0.0.0.0.0.0.0.0.0.0.0.0.0.0.0.1 (sym e)
other c (one (Unary.path A forward globally)) e = c.in_default.in_default-own.rest.0.0.0.0.0.0.0.0.0.0.0.0.0.0.0.0.1 (sym e)
other c (one (Unary.path E backward next)) e = c.in_default.in_default-own.rest.0.0.0.0.0.0.0.0.0.0.0.0.0.0.0.1 (sym e)
other c (one (Unary.path A backward next)) e = c.in_default.in_default-own.rest.0.0.0.0.0.0.0.0.0.0.0.0.0.0.1 (sym e)
other c (one (Unary.path E backward finally)) e = c.in_default.in_default-own.rest.0.0.0.0.0.0.0.0.0.0.0.0.0.1 (sym e)
other c (one (Unary.path A backward finally)) e = c.in_default.in_default-own.rest.0.0.0.0.0.0.0.0.0.0.0.0.1 (sym e)
other c (one (Unary.path E backward globally)) e = c.in_default.in_default-own.rest.0.0.0.0.0.0.0.0.0.0.0.1 (sym e)
other c (one (Unary.path A backward globally)) e = c.in_default.in_default-own.rest.0.0.0.0.0.0.0.0.0.0.1 (sym e)
other c (two conjunction) e = c.in_default.in_default-own.rest.0.0.0.0.0.0.0.0.0.1 (sym e)
other c (two disjunction) e = c.in_default.in_default-own.rest.0.0.0.0.0.0.0.0.1 (sym e)
other c (two (Binary.path E forward until)) e = c.in_default.in_default-own.rest.0.0.0.0.0.0.0.1 (sym e)
other c (two (Binary.path A forward until)) e = c.in_default.in_default-own.rest.0.0.0.0.0.0.1 (sym e)
other c (two (Binary.path E forward weak)) e = c.in_default.in_default-own.rest.0.0.0.0.0.1 (sym e)
other c (two (Binary.path A forward weak)) e = c.in_default.in_default-own.rest.0.0.0.0.1 (sym e)
other c (two (Binary.path E backward until)) e = c.in_default.in_default-own.rest.0.0.0.1 (sym e)
other c (two (Binary.path A backward until)) e = c.in_default.in_default-own.rest.0.0.1 (sym e)
other c (two (Binary.path E backward weak)) e = c.in_default.in_default-own.rest.0.1 (sym e)
other c (two (Binary.path A backward weak)) e = c.in_default.in_default-own.rest.1 (sym e)

pub returns-in_default : goal.returns-in_default
returns-in_default c = λ x e. absurd (other (goal.at.returns-in_default c).In_default x e)
