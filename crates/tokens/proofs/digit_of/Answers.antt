use Rattle.std.proofs.Common.{sym}
use Rattle.tokens.proofs.Steps.{digit-is, digit-none}
use Rattle.tokens.proofs.digit_of.Goals as goal

pub returns-then-is_ascii_digit : goal.returns-then-is_ascii_digit
returns-then-is_ascii_digit c = sym (digit-is _ (sym c.if-is_ascii_digit.ensures.value))

pub returns-else-is_ascii_digit : goal.returns-else-is_ascii_digit
returns-else-is_ascii_digit c = sym (digit-none _ (sym c.if-is_ascii_digit.ensures.value))
