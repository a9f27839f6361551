-- What the viewer prints, for every program text and condition text: the condition's parts, and the statements at which each is true.
use Rattle.std.specs.Prelude.{◌≡◌, Bool, true, false, ◌⊎◌, ◌↔◌, List, [], ◌∷◌, ◌++◌, ℕ, zero, suc, ◌+◌, ◌-◌, ◌*◌, ◌/◌, ◌%◌, ◌≤◌, ◌<◌, ltb, length, Result, Ok, Err}
use Rattle.base.specs.Pick.{pick}
use Rattle.base.specs.Bytes.{byte, bytes}
use Rattle.language.specs.Spelling.{digits, spell}
use Rattle.statement_writer.specs.Writing.{Put}
use Rattle.language.specs.declared.Statement.{Statement}
use Rattle.program.specs.Program.{Taken, at, most}
use Rattle.program.specs.Reading as program
use Rattle.program.specs.declared.Refusal as program-refusal
use Rattle.condition.specs.Condition.{Condition, parts, spell_condition}
use Rattle.truth.specs.Truth.{Sat}
use Rattle.condition.specs.Texts as condition
use Rattle.condition_reader.specs.Reading as condition-reading
use Rattle.condition_reader.specs.declared.Refusal as condition-refusal
use Rattle.table.specs.Table.{part_words, part_at}
use Rattle.table.specs.Summary.{Counts}
use Rattle.blame.specs.Blame.{Blames}
use Rattle.condition_blame.specs.Blame.{Blamed}
use Rattle.desk.specs.Columns.{number_columns, statement_columns, spaces, wide, padded}
use Rattle.desk.specs.Refusals.{refusal_text}
use Rattle.desk.specs.declared.Failure.{Failure}
use Rattle.desk.specs.declared.Failure.TheVariants.{Refused, NoRoom}

-- the texts f 0, f 1 .. of the first n, one after another
unfoldable pub up_to : ℕ → (ℕ → List ℕ) → List ℕ
up_to zero f = []
up_to (suc n) f = up_to n f ++ f n

-- the columns of a part's number
abbrev pub part_columns : ℕ
part_columns = 2

-- a part's number and its text
unfoldable pub part_line : ℕ → List ℕ → List ℕ
part_line k text = wide part_columns (k + 1) ++ (spaces 2 ++ (text ++ 10 ∷ []))

unfoldable pub part_lines : Condition → List ℕ
part_lines c = up_to (length (parts c)) (λ k. part_line k (spell_condition (part_at c k)))

-- one byte for each of n parts, that of the last, which is the whole condition, set off by two spaces
unfoldable pub columns : (ℕ → ℕ) → ℕ → List ℕ
columns f n = up_to (n - 1) (λ k. f k ∷ []) ++ (spaces 2 ++ f (n - 1) ∷ [])

abbrev pub tens : ℕ → ℕ
tens k = pick (ltb (k + 1) 10) (byte " ") (byte "0" + (k + 1) / 10)

abbrev pub units : ℕ → ℕ
units k = byte "0" + (k + 1) % 10

-- the marks of a row stand after its statement's number, text and the spaces between
abbrev pub margin : ℕ
margin = number_columns + (2 + (statement_columns + 2))

unfoldable pub head_row : (ℕ → ℕ) → ℕ → List ℕ
head_row f n = spaces margin ++ (columns f n ++ 10 ∷ [])

-- `*` where a part is true, `.` where it is false
abbrev pub mark : Bool → ℕ
mark true = byte "*"
mark false = byte "."

-- a statement's number, its text, and a mark for each of n parts: truth k s is part k's at place s
unfoldable pub row : (ℕ → ℕ → Bool) → ℕ → ℕ → Statement → List ℕ
row truth n s i =
    wide number_columns (s + 1) ++ (spaces 2 ++ (padded statement_columns (spell i) ++ (spaces 2 ++ (columns (λ k. mark (truth k s)) n ++ 10 ∷ []))))

unfoldable pub rows : (ℕ → ℕ → Bool) → ℕ → List Statement → List ℕ
rows truth n P = up_to (length P) (λ s. row truth n s (at P s))

unfoldable pub last_line : ℕ → ℕ → ℕ → List ℕ
last_line n satisfied first =
    bytes "parts " ++ (digits n ++ (bytes " satisfied " ++ (digits satisfied ++ (bytes " first " ++ (digits first ++ 10 ∷ [])))))

unfoldable pub view_text : List Statement → Condition → (ℕ → ℕ → Bool) → ℕ → ℕ → List ℕ
view_text P c truth satisfied first =
    let n : ℕ = length (parts c) in
    part_lines c ++ (head_row tens n ++ (head_row units n ++ (rows truth n P ++ last_line n satisfied first)))

-- "Order: .. 2 to 5, then 6 to 8": the number of the first refusal that applies to the program text t and the condition text u, and the
-- line of the program or the byte of the condition that it is about
abbrev pub Refuses : List ℕ → List ℕ → ℕ → ℕ → Type 0
Refuses t u n line =
    ((r : program-refusal.Refusal) × program.Refused t r × (n ≡ program.number r) × Blames t r line)
    ⊎ ((P : List Statement) × Taken t P × (r : condition-refusal.Refusal) × condition-reading.Refused u r × (n ≡ condition-reading.number r) × Blamed u line)

pub record PrintsRefusal (t u w : List ℕ) : Type 0 where
  pub n : ℕ
  pub line : ℕ
  pub refuses : Refuses t u n line
  pub text : w ≡ refusal_text n line

-- the marks are the truth of the condition's parts by its paths, and the counts those of the whole condition
pub record PrintsView (t u w : List ℕ) : Type 0 where
  pub P : List Statement
  pub c : Condition
  pub program : Taken t P
  pub condition : condition.Taken u c
  pub truth : ℕ → ℕ → Bool
  pub tells : (k : ℕ) → k < length (parts c) → (s : ℕ) → s < length P → (truth k s ≡ true) ↔ Sat P (part_at c k) s
  pub satisfied : ℕ
  pub first : ℕ
  pub whole : ℕ → Bool
  pub decides : (s : ℕ) → (whole s ≡ true) ↔ ((s < length P) × Sat P c s)
  pub counts : Counts whole (part_words * 64) satisfied first
  pub text : w ≡ view_text P c truth satisfied first

-- w is what the viewer prints for the program text t and the condition text u
abbrev pub Output : List ℕ → List ℕ → List ℕ → Type 0
Output t u w = PrintsRefusal t u w ⊎ PrintsView t u w

-- room for a part as long as a condition, for a row, and for the last line
abbrev pub part_room : ℕ
part_room = part_columns + (2 + (condition.most_bytes + 1))

abbrev pub row_room : ℕ
row_room = margin + condition.most_parts + 3

abbrev pub last_room : ℕ
last_room = 6 + (part_columns + (11 + (number_columns + (7 + (number_columns + 1)))))

-- room for every output: the parts, two rows of numbers, the rows of statements, and the last line
abbrev pub view_room : ℕ
view_room = condition.most_parts * part_room + ((most + 2) * row_room + last_room)

-- such an output stands at the front of the lent bytes o, all others are kept, and n is its length
pub record Printed (Says : List ℕ → Type 0) (o q : List ℕ) (n : ℕ) : Type 0 where
  pub room : view_room ≤ length o
  pub w : List ℕ
  pub says : Says w
  pub fits : length w ≤ length o
  pub written : Put o 0 w q n

-- too few bytes are kept as they are
abbrev pub Views : List ℕ → List ℕ → List ℕ → List ℕ → Result ℕ Failure → Type 0
Views t u o q (Ok n) = Printed (PrintsView t u) o q n
Views t u o q (Err (Refused n)) = Printed (PrintsRefusal t u) o q n
Views t u o q (Err NoRoom) = (length o < view_room) × (q ≡ o)
