use native.Mathlib.Omega.{arith}
use mathlib.Core.Path.{◌∙◌}
use Rattle.language.specs.declared.Expression.TheVariants.{Single}
use Rattle.statement_writer.proofs.Puts.{put_then, put-length}
use Rattle.published.proofs.Published.{copied-text, Lengths, lengths-most, sure-length}
use Rattle.published.proofs.write_copied.Goals as goal
use Rattle.published.proofs.write_copied.Goals.{Start}

-- the lengths of the parts, and of the front
lengths : (s : Start) → Lengths s.args.x (Single s.args.a)
lengths s = lengths-most s.args.x (Single s.args.a) s.requires.0 s.requires.1

pub word-k2-requires : goal.word-k2-requires
word-k2-requires c =
    omega (arith, c.write_sure-k1.ensures.after, put-length c.write_sure-k1.ensures, sure-length c.args.x (Single c.args.a), lengths (goal.at.word-k2-requires c).Start)

pub statement-k3-requires : goal.statement-k3-requires
statement-k3-requires c =
    omega (arith, c.write_sure-k1.ensures.after, put-length c.write_sure-k1.ensures, sure-length c.args.x (Single c.args.a), lengths (goal.at.statement-k3-requires c).Start)

pub word-requires : goal.word-requires
word-requires c =
    omega (arith, c.write_sure-k1.ensures.after, put-length c.write_sure-k1.ensures, sure-length c.args.x (Single c.args.a), lengths (goal.at.word-requires c).Start)

pub shape_of-out : goal.shape_of-out
shape_of-out c = put-length c.word.ensures ∙ put-length c.statement-k3.ensures ∙ put-length c.word-k2.ensures ∙ put-length c.write_sure-k1.ensures

pub returns : goal.returns
returns c =
    let w = put_then c.write_sure-k1.ensures (put_then c.word-k2.ensures (put_then c.statement-k3.ensures c.word.ensures)) in
    rw copied-text w
