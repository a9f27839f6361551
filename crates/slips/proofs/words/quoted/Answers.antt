-- `quoted` meets its contract. Assumes nothing.
use Rattle.slips.specs.Words.{quoted}
use Rattle.slips.specs.Slips.{most_number}
use Rattle.statement_writer.proofs.Puts.{put_then, room, front}
use Rattle.language.specs.Spelling.{digits}
use Rattle.base.specs.Pick.{pick}
use Rattle.base.specs.Bytes.{bytes}
use lib.Dec.{eqb}
use Prim.Native.Nat.{ℕ}
use borrow.Author.Tests.{eq-eqb, ne_eqb}
use mathlib.Core.Bool.{true, false}
use mathlib.Core.List.{List, ◌++◌}
use Rattle.slips.proofs.words.quoted.Goals as goal

abbrev closed : ℕ → List ℕ
closed v = pick (eqb v most_number) (bytes "` or more") (bytes "`")

pub word-k1-requires : goal.word-k1-requires
unfolding quoted
word-k1-requires c = front (bytes ": `") (c.args.before.now ++ (digits c.args.v ++ closed c.args.v)) c.args.at _ c.requires

pub word-k2-requires : goal.word-k2-requires
unfolding quoted
word-k2-requires c =
    front c.args.before.now (digits c.args.v ++ closed c.args.v) _ _ (room (c.args.before.now ++ (digits c.args.v ++ closed c.args.v)) c.word-k1.ensures c.requires)

pub number-k3-requires : goal.number-k3-requires
unfolding quoted
number-k3-requires c =
    front (digits c.args.v) (closed c.args.v) _ _ (room (digits c.args.v ++ closed c.args.v) c.word-k2.ensures (room (c.args.before.now ++ (digits c.args.v ++ closed c.args.v)) c.word-k1.ensures c.requires))

pub word-requires : goal.word-requires
unfolding quoted
word-requires c =
    rw (eq-eqb c.args.v most_number c.if-v-eq-MOST_NUMBER.true) at (room (closed c.args.v) c.number-k3.ensures (room (digits c.args.v ++ closed c.args.v) c.word-k2.ensures (room (c.args.before.now ++ (digits c.args.v ++ closed c.args.v)) c.word-k1.ensures c.requires)))

pub returns-then-v-eq-MOST_NUMBER : goal.returns-then-v-eq-MOST_NUMBER
unfolding quoted
returns-then-v-eq-MOST_NUMBER c = rw (eq-eqb c.args.v most_number c.if-v-eq-MOST_NUMBER.true) (put_then c.word-k1.ensures (put_then c.word-k2.ensures (put_then c.number-k3.ensures c.word.ensures)))

pub word-requires-2 : goal.word-requires-2
unfolding quoted
word-requires-2 c =
    rw (ne_eqb c.args.v most_number c.if-v-eq-MOST_NUMBER.false) at (room (closed c.args.v) c.number-k3.ensures (room (digits c.args.v ++ closed c.args.v) c.word-k2.ensures (room (c.args.before.now ++ (digits c.args.v ++ closed c.args.v)) c.word-k1.ensures c.requires)))

pub returns : goal.returns
unfolding quoted
returns c = rw (ne_eqb c.args.v most_number c.if-v-eq-MOST_NUMBER.false) (put_then c.word-k1.ensures (put_then c.word-k2.ensures (put_then c.number-k3.ensures c.word-2.ensures)))
