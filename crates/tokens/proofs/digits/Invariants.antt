-- What `first` finds at the start, the number so far finds at the position.
use Rattle.std.proofs.Common.{◌≡◌, drop, ◌≤◌}
use Rattle.language.specs.Spelling.{largest}
use Rattle.tokens.specs.Parsing.{parse_digits}
use Rattle.tokens.proofs.digits.Given as goal

abbrev pub invariant-loop-k : goal.invariant-loop-k
invariant-loop-k l = (l.n ≤ largest) × (parse_digits l.first (drop l.at l.s) ≡ parse_digits l.n (drop l.k l.s))
