use Rattle.std.proofs.Common.{refl}
use Rattle.condition_reader.proofs.Answers.{few-taken}
use Rattle.condition_reader.proofs.read.Goals as goal

pub returns : goal.returns
returns c = few-taken _ _ _ c.in-Some.parts c.in-Some.ensures c.if-text-gt-MOST_BYTES.false c.if-parts-gt-MOST_PARTS.false refl
