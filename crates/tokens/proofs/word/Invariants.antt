-- What the whole word finds at the start, the rest of the word finds at the position, which lies within the text once a byte was met.
use Rattle.std.proofs.Common.{◌≡◌, length, drop, ◌≤◌, ◌<◌}
use Rattle.tokens.specs.Parsing.{parse_word}
use Rattle.tokens.proofs.word.Given as goal

abbrev pub invariant-loop-c : goal.invariant-loop-c
invariant-loop-c l = (parse_word l.w (drop l.at l.s) ≡ parse_word (drop l.c-index l.w) (drop l.k l.s)) × (0 < l.c-index → l.k ≤ length l.s)
