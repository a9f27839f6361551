-- The words for a slip, behind those of the refusal. The figures of ranges in them are text.
use Rattle.std.specs.Prelude.{List, [], ◌∷◌, ◌++◌, ℕ, ◌+◌, eqb}
use Rattle.base.specs.Bytes.{bytes}
use Rattle.base.specs.Pick.{pick}
use Rattle.language.specs.Spelling.{digits}
use Rattle.slips.specs.Slips.{most_number}
use Rattle.slips.specs.declared.Slip.{Slip}
use Rattle.slips.specs.declared.Slip.TheVariants.{Nothing, ByteOrderMark, CarriageReturn, Tab, LineEnd, Space, Brackets, Early, Variable, Negative, Number, Target}

-- a number behind its sign or letter, quoted
unfoldable pub quoted : List ℕ → ℕ → List ℕ
quoted before v = bytes ": `" ++ (before ++ (digits v ++ pick (eqb v most_number) (bytes "` or more") (bytes "`")))

unfoldable pub slip_words : Slip → List ℕ
slip_words Nothing = []
slip_words ByteOrderMark = bytes ": a byte order mark"
slip_words CarriageReturn = bytes ": a carriage return"
slip_words Tab = bytes ": a tab"
slip_words LineEnd = bytes ": a line end"
slip_words Space = bytes ": a space too many"
slip_words Brackets = bytes ": superfluous brackets"
slip_words Early = bytes ": it ends too early"
slip_words (Variable v) = quoted (bytes "i") v ++ bytes " is outside i0 to i63"
slip_words (Negative v) = quoted (bytes "-") v ++ bytes " is outside -2147483648 to 2147483647"
slip_words (Number v) = quoted [] v ++ bytes " is outside 0 to 2147483647"
slip_words (Target v n) = quoted [] v ++ (bytes " is outside 2 to " ++ digits n)

-- the words for every slip have room in this many bytes
abbrev pub slip_room : ℕ
slip_room = 64
