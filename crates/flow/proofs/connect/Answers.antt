-- `flow::connect` meets its contract. The invariant: the lists hold the steps of the places below k, in the direction that is meant, at
-- most two for each. Assumes nothing.
use mathlib.Core.Path.{sym, ◌∙◌}
use Prim.Native.Nat.{◌<◌}
use native.Mathlib.Omega.{arith}
use lib.Seq.{length-take-le, length_front}
use Rattle.flow.proofs.Edges.{space-room, cleared-heads, connected-none, connected-one, connected-two, connected-all}
use Rattle.flow.proofs.connect.Goals.{then-a-b, else-a-b}
use Rattle.flow.proofs.connect.Goals as goal

pub add-count-requires-then-a-b : goal.add-count-requires-then-a-b
add-count-requires-then-a-b c =
    let l = c.loop-k-test.true in
    let more = c.add-count.ensures _ c.requires.space.few (omega (arith, c.requires.inside.low)) (omega (arith, c.from-a.ensures, c.requires.inside.firsts c.loop-k.k l)) c.loop-k.invariant.1.lists in
    space-room c.requires.space.few (c.add-count.auto.edges ∙ c.loop-k.invariant.0) _ _ _ (omega (arith, c.loop-k.invariant.1.few, more.few, c.requires.inside.low)) (omega (arith, c.requires.inside.low)) (omega (arith, c.from-b.ensures, c.requires.inside.seconds c.loop-k.k l))

pub returns : goal.returns
returns c =
    connected-all c.args.first.now c.args.second.now c.args.turned _ c.loop-k.edges _ c.loop-k.k _ (omega arith) c.loop-k.invariant.1

pub loop-k-init : goal.loop-k-init
loop-k-init c = (
  length_front c.args.edges.now c.clear.new.head c.args.n c.clear.auto.head ∙ c.requires.space.size,
  connected-none c.args.first.now c.args.second.now c.args.turned _ _
      (rw (cleared-heads c.args.n c.clear.new.head c.args.edges.now c.requires.space.few (c.clear.auto.head ∙ sym ((sym (length-take-le _ _ ((let few = c.requires.space.few in omega (arith, c.requires.space.size)))))))) c.clear.ensures),
)

pub loop-k-preserved : goal.loop-k-preserved
loop-k-preserved c =
    let few = c.requires.space.few in
    let l = c.loop-k-test.true in
    let low : c.loop-k.k < c.args.n = omega (arith, c.requires.inside.low) in
    let once = c.add-count.ensures c.args.n few low (omega (arith, c.from-a.ensures, c.requires.inside.firsts c.loop-k.k l)) c.loop-k.invariant.1.lists in
    elim c.if-a-b.branch [
      | then-a-b w ↦
          let twice = w.add-count-then-a-b.ensures c.args.n few low (omega (arith, c.from-b.ensures, c.requires.inside.seconds c.loop-k.k l)) once.lists in
          rw (w.edges-is, w.count-is) (
            w.add-count-then-a-b.auto.edges ∙ c.add-count.auto.edges ∙ c.loop-k.invariant.0,
            connected-two c.args.first.now c.args.second.now c.args.turned _ _ _ _ c.from-a.ensures c.from-b.ensures c.loop-k.edges _ c.loop-k.invariant.1 _ _ once _ _ twice,
          )
      | else-a-b w ↦ rw (w.edges-is, w.count-is) (
        c.add-count.auto.edges ∙ c.loop-k.invariant.0,
        connected-one c.args.first.now c.args.second.now c.args.turned _ _ _ _ c.from-a.ensures c.from-b.ensures c.loop-k.edges _ c.loop-k.invariant.1 _ _ once w.if-a-b.false,
      )
    ]
