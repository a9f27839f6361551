-- `explain::part_at` meets its contract: one law of proofs/Parts.antt for each rule. Assumes nothing.
use Rattle.bits.proofs.Tables.{row-length}
use Rattle.explain.proofs.Parts.{at-atom, at_other, at-quiet, left-low, at-labelled, at-shown, tabled-own, tabled-ways, witness_small, differ-not}
use Rattle.table.specs.Table.{part_words}
use Rattle.graph.proofs.Walk.{beq_same, beq-differ}
use Rattle.bits.specs.Row.{member}
use Prim.Native.Nat.{◌-◌, ◌<◌}
use lib.ListN.{length, get_or}
use Rattle.table.specs.Fill.{left_of}
use native.Mathlib.Omega.{arith}
use mathlib.Core.Path.{refl, sym, ap, ◌∙◌}
use Rattle.explain.proofs.part_at.Goals as goal
use Rattle.explain.proofs.part_at.Goals.{Else-contains-all}

pub returns-then-code-eq0 : goal.returns-then-code-eq0
returns-then-code-eq0 c = λ P u d tb. (refl, at-atom P u d _ _ _ _ (tabled-own tb) _ _ c.below_negations-j.ensures c.requires.some_tabled.1 _ (omega (arith, tb.size, c.requires.some_tabled.2)) c.if-code-eq0.true, refl)

pub returns-then-contains-all : goal.returns-then-contains-all
returns-then-contains-all c =
    let f = rw c.in-Path.is at c.rule_of-rule.ensures in
    let e = ap (λ (x : _). member x c.args.s) (sym c.row_of-row.ensures) ∙ sym c.contains.ensures ∙ beq_same _ _ c.if-contains-all.true in
    λ P u d tb. (refl, at-quiet P u d _ _ _ _ (tabled-own tb) _ _ c.below_negations-j.ensures c.requires.some_tabled.1 _ (omega (arith, tb.size, c.requires.some_tabled.2)) _ _ _ f e, refl)

-- the left operand's part comes before
low : (c : Else-contains-all) → left_of (get_or c.args.words c.below_negations-j.result 0) c.below_negations-j.result < c.below_negations-j.result
low c =
    let z = c.requires.some_tabled.0 in
    let l : c.args.s < length z.P = omega (arith, z.tabled.size, c.requires.some_tabled.2) in
    left-low z.P z.u z.c _ _ _ _ (tabled-own z.tabled) _ _ c.below_negations-j.ensures c.requires.some_tabled.1 c.args.s l _ _ _ (rw c.in-Path.is at c.rule_of-rule.ensures) c.if-code-eq0.false

pub left_of-left-requires : goal.left_of-left-requires
left_of-left-requires c = omega (arith, low (goal.at.left_of-left-requires c).Else-contains-all)

pub row_of-p-requires : goal.row_of-p-requires
row_of-p-requires c = omega (arith, c.requires.parts_in_bounds.0, c.requires.some_tabled.1, c.left_of-left.ensures, c.below_negations-j.ensures.low, low (goal.at.row_of-p-requires c).Else-contains-all)

pub overflow_sub-j : goal.overflow_sub-j
overflow_sub-j c = omega (arith, low (goal.at.overflow_sub-j c).Else-contains-all)

pub path_for-trail-requires : goal.path_for-trail-requires
path_for-trail-requires c =
    let z = c.requires.some_tabled.0 in
    let b = z.tabled in
    let l : c.args.s < length z.P = omega (arith, b.size, c.requires.some_tabled.2) in
    let f = rw c.in-Path.is at c.rule_of-rule.ensures in
    let lower = low (goal.at.path_for-trail-requires c).Else-contains-all in
    let size = ap length c.row_of-row.ensures ∙ row-length part_words c.args.table.now c.below_negations-j.result (omega (arith, c.requires.parts_in_bounds.0, c.requires.some_tabled.1, c.below_negations-j.ensures.low)) in record {
      both_ways = (tabled-ways b, omega (arith, size, b.size, b.few), c.requires.parts_in_bounds.1);
      p_len = (
        ap length c.row_of-p.ensures ∙ row-length part_words c.args.table.now c.left_of-left.result (omega (arith, c.requires.parts_in_bounds.0, c.requires.some_tabled.1, c.below_negations-j.ensures.low, lower, c.left_of-left.ensures)),
        ap length c.row_of-q.ensures ∙ row-length part_words c.args.table.now (c.below_negations-j.result - 1) (omega (arith, c.requires.parts_in_bounds.0, c.requires.some_tabled.1, c.below_negations-j.ensures.low)),
        size,
      );
      s_lt_n = (
        c.requires.some_tabled.2,
        sym c.contains.ensures ∙ differ-not _ _ (beq-differ _ _ c.if-contains-all.false),
        rw (c.row_of-row.ensures, c.row_of-p.ensures, c.row_of-q.ensures, c.left_of-left.ensures, ← b.size) (at-labelled z.P z.u z.c _ _ _ _ (tabled-own b) _ _ c.below_negations-j.ensures c.requires.some_tabled.1 _ l _ _ _ f c.if-code-eq0.false),
      );
    }

pub overflow_cast-result : goal.overflow_cast-result
overflow_cast-result c = omega (arith, (witness_small (omega (arith, c.requires.some_tabled.0.tabled.size, c.requires.some_tabled.0.tabled.few)) c.path_for-trail.ensures).0)

pub overflow_cast-result-in-Path : goal.overflow_cast-result-in-Path
overflow_cast-result-in-Path c = omega (arith, (witness_small (omega (arith, c.requires.some_tabled.0.tabled.size, c.requires.some_tabled.0.tabled.few)) c.path_for-trail.ensures).1)

pub returns-in-Negation : goal.returns-in-Negation
returns-in-Negation c = λ P u d tb. (refl, at_other P u d _ _ _ _ (tabled-own tb) _ _ c.below_negations-j.ensures c.requires.some_tabled.1 _ (omega (arith, tb.size, c.requires.some_tabled.2)) _ (rw c.in-Negation.is at c.rule_of-rule.ensures) (λ x. x), refl)

pub returns-in-Conjunction : goal.returns-in-Conjunction
returns-in-Conjunction c = λ P u d tb. (refl, at_other P u d _ _ _ _ (tabled-own tb) _ _ c.below_negations-j.ensures c.requires.some_tabled.1 _ (omega (arith, tb.size, c.requires.some_tabled.2)) _ (rw c.in-Conjunction.is at c.rule_of-rule.ensures) (λ x. x), refl)

pub returns-in-Disjunction : goal.returns-in-Disjunction
returns-in-Disjunction c = λ P u d tb. (refl, at_other P u d _ _ _ _ (tabled-own tb) _ _ c.below_negations-j.ensures c.requires.some_tabled.1 _ (omega (arith, tb.size, c.requires.some_tabled.2)) _ (rw c.in-Disjunction.is at c.rule_of-rule.ensures) (λ x. x), refl)

pub returns-else-contains-all : goal.returns-else-contains-all
returns-else-contains-all c =
    let f = rw c.in-Path.is at c.rule_of-rule.ensures in
    λ P u d tb.
    at-shown P u d _ _ c.args.flow.now c.args.table.now (tabled-own tb) _ _ c.below_negations-j.ensures c.requires.some_tabled.1 _ (omega (arith, tb.size, c.requires.some_tabled.2)) _ _ _ f c.if-code-eq0.false _ _ _ _
    (rw (c.row_of-p.ensures, c.row_of-q.ensures, c.left_of-left.ensures, ← tb.size) at c.path_for-trail.ensures)

pub returns-in-Nothing : goal.returns-in-Nothing
returns-in-Nothing c = λ P u d tb. (refl, at_other P u d _ _ _ _ (tabled-own tb) _ _ c.below_negations-j.ensures c.requires.some_tabled.1 _ (omega (arith, tb.size, c.requires.some_tabled.2)) _ (rw c.in-Nothing.is at c.rule_of-rule.ensures) (λ x. x), refl)
