-- `write` meets its contract: name, length and text are put one after another. Assumes nothing.
use Rattle.keep.proofs.Keeps.{put-stage}
use Rattle.keep.proofs.write.Goals as goal

pub returns : goal.returns
returns c =
    put-stage c.args.name.now c.fill-key.ensures c.word-at.ensures c.byte-low.ensures c.byte-high.ensures c.word.ensures
