-- `same_key` meets its contract. Assumes nothing.
use Rattle.keys.proofs.Told.{kinds-apart, operators-same, texts-same, texts-told}
use Rattle.keys.specs.Store.{key_in}
use Rattle.base.proofs.Decides.{decides-same, decides_eqb}
use lib.Dec.{eqb}
use mathlib.Core.Path.{ap}
use Rattle.keys.proofs.same_key.Goals as goal

pub returns-then-v-ne0 : goal.returns-then-v-ne0
returns-then-v-ne0 c =
    decides-same (eqb c.args.v c.args.w) (ap (key_in c.args.text.now)) (operators-same c.args.text.now c.args.v c.args.w c.requires.0 c.requires.1 c.if-v-ne0.true) (decides_eqb c.args.v c.args.w)

pub returns-then-w-ne0 : goal.returns-then-w-ne0
returns-then-w-ne0 c = kinds-apart c.args.text.now c.args.v c.args.w c.if-v-ne0.false c.if-w-ne0.true

pub same_bytes-requires : goal.same_bytes-requires
same_bytes-requires c =
    (c.requires.0.order c.if-v-ne0.false, c.requires.0.within c.if-v-ne0.false, c.requires.1.order c.if-w-ne0.false, c.requires.1.within c.if-w-ne0.false)

pub returns : goal.returns
returns c =
    decides-same c.same_bytes.result (texts-same c.args.text.now c.args.v c.args.w c.if-v-ne0.false c.if-w-ne0.false) (texts-told c.args.text.now c.args.v c.args.w c.if-v-ne0.false c.if-w-ne0.false) c.same_bytes.ensures
