-- What the check program prints, for every program and list of marks: document 01, "A program to check against".
use Rattle.std.specs.Prelude.{◌≡◌, ◌⊎◌, List, [], ◌∷◌, ◌++◌, ℕ, ◌+◌, ◌*◌, ◌≤◌, ◌<◌, length, get_or, drop}
use Rattle.base.specs.Bytes.{byte, bytes}
use Rattle.language.specs.Spelling.{digits}
use Rattle.language.specs.Room.{number_digits}
use Rattle.statement_writer.specs.Writing.{Put}
use Rattle.language.specs.declared.Statement.{Statement}
use Rattle.program.specs.Program.{text, Taken}
use Rattle.program.specs.Reading as program
use Rattle.program.specs.declared.Refusal as program-refusal
use Rattle.marks.specs.Marks.{names}
use Rattle.marks.specs.Reading as marks
use Rattle.marks.specs.declared.Mark.{Mark}
use Rattle.marks.specs.declared.Refusal as marks-refusal
use Rattle.rewriting.specs.Verdicts.{Verdicts, accepted_count, Rewritten}
use Rattle.judge.specs.Judge.{text_bytes}
use Rattle.pricing.specs.Prices.{ours}
use Rattle.price_text.specs.PriceText.{text_of_prices, price_text_room}
use Rattle.report.specs.declared.Reported.{Reported}
use Rattle.report.specs.declared.Reported.TheVariants.{Written, Refused, NoRoom}

abbrev pub refused_word : List ℕ
refused_word = bytes "refused "

abbrev pub marks_word : List ℕ
marks_word = bytes "marks "

abbrev pub accepted_word : List ℕ
accepted_word = bytes " accepted "

-- "one line, `refused`, a space and the number"
unfoldable pub refused_line : ℕ → List ℕ
refused_line n = refused_word ++ (digits n ++ 10 ∷ [])

-- "the counts": `marks 5 accepted 1`
unfoldable pub counts_line : ℕ → ℕ → List ℕ
counts_line m a = marks_word ++ (digits m ++ (accepted_word ++ (digits a ++ 10 ∷ [])))

-- "each mark's statement and verdict": `4 0`
unfoldable pub verdict_line : ℕ → ℕ → List ℕ
verdict_line n v = digits n ++ byte " " ∷ (digits v ++ 10 ∷ [])

unfoldable pub verdict_lines : List Mark → List ℕ → List ℕ
verdict_lines [] vs = []
verdict_lines (m ∷ ms) vs = verdict_line (names m) (get_or vs 0 0) ++ verdict_lines ms (drop 1 vs)

-- "It prints the counts, each mark's statement and verdict, then the new program"
unfoldable pub judged_text : List Mark → List ℕ → List Statement → List ℕ
judged_text ms vs Q = counts_line (length ms) (accepted_count ms vs) ++ (verdict_lines ms vs ++ text Q)

-- document 02: "The check program prints it after the new program", by our prices
unfoldable pub report_text : List Mark → List ℕ → List Statement → List Statement → List ℕ
report_text ms vs P Q = judged_text ms vs Q ++ text_of_prices ours P Q

-- "Order: .. 2 to 5, then .. 9 and 10": the number of the first that applies to the program text t and the marks text u
abbrev pub Refuses : List ℕ → List ℕ → ℕ → Type 0
Refuses t u n =
    ((r : program-refusal.Refusal) × program.Refused t r × (n ≡ program.number r))
    ⊎ ((P : List Statement) × Taken t P × (r : marks-refusal.Refusal) × marks.Refused u r × (n ≡ marks.number r))

-- "after a refused call its whole output is one line"
pub record PrintsRefusal (t u w : List ℕ) : Type 0 where
  pub n : ℕ
  pub refuses : Refuses t u n
  pub line : w ≡ refused_line n

-- the marks are judged on the program, and the accepted ones made
pub record PrintsReport (t u w : List ℕ) : Type 0 where
  pub P : List Statement
  pub ms : List Mark
  pub vs : List ℕ
  pub Q : List Statement
  pub program : Taken t P
  pub marks : marks.Taken u ms
  pub judged : Verdicts P ms vs
  pub rewritten : Rewritten P ms vs Q
  pub lines : w ≡ report_text ms vs P Q

-- w is what the check program prints for the program text t and the marks text u
abbrev pub Output : List ℕ → List ℕ → List ℕ → Type 0
Output t u w = PrintsRefusal t u w ⊎ PrintsReport t u w

-- the digits of the number of marks, and of a verdict or a refusal
abbrev pub count_digits : ℕ
count_digits = 4

abbrev pub verdict_digits : ℕ
verdict_digits = 2

-- room for a line as long as `marks 1024 accepted 1024`, and for one as long as `2147483647 14`
abbrev pub counts_room : ℕ
counts_room = 6 + (count_digits + (10 + (count_digits + 1)))

abbrev pub verdict_room : ℕ
verdict_room = number_digits + (1 + (verdict_digits + 1))

-- room for the counts, a line for each mark, and the new text; and for every output, the prices after them
abbrev pub judged_room : ℕ
judged_room = counts_room + (marks.most * verdict_room + text_bytes)

abbrev pub report_room : ℕ
report_room = judged_room + price_text_room

-- such an output stands at the front of the lent bytes o, all others are kept, and n is its length
pub record Printed (Says : List ℕ → Type 0) (o q : List ℕ) (n : ℕ) : Type 0 where
  pub room : report_room ≤ length o
  pub w : List ℕ
  pub says : Says w
  pub fits : length w ≤ length o
  pub written : Put o 0 w q n

-- too few bytes are kept as they are
abbrev pub Reports : List ℕ → List ℕ → List ℕ → List ℕ → Reported → Type 0
Reports t u o q (Written n) = Printed (PrintsReport t u) o q n
Reports t u o q (Refused n) = Printed (PrintsRefusal t u) o q n
Reports t u o q NoRoom = (length o < report_room) × (q ≡ o)
