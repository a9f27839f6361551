-- The view within a page of HTML.
use Rattle.std.specs.Prelude.{◌≡◌, List, [], ◌∷◌, ℕ, ◌*◌, ◌≤◌, ◌<◌, eqb, length, get_or, Result, Ok, Err}
use Rattle.base.specs.Bytes.{byte, bytes}
use Rattle.base.specs.Pick.{pick}
use Rattle.statement_writer.specs.Writing.{Put}
use Rattle.desk.specs.declared.Failure.{Failure}
use Rattle.desk.specs.declared.Failure.TheVariants.{Refused, NoRoom}
use Rattle.view.specs.View.{up_to, PrintsView, PrintsRefusal, view_room}

-- `&`, `<` and `>` as HTML asks for them in a text
unfoldable pub escape_byte : ℕ → List ℕ
escape_byte b = pick (eqb b (byte "&")) (bytes "&amp;") (pick (eqb b (byte "<")) (bytes "&lt;") (pick (eqb b (byte ">")) (bytes "&gt;") (b ∷ [])))

unfoldable pub escape : List ℕ → List ℕ
escape s = up_to (length s) (λ i. escape_byte (get_or s i 0))

-- no byte takes more than five
abbrev pub page_room : ℕ
page_room = view_room * 5

-- such an output, escaped, stands at the front of the lent bytes o, all others are kept, and n is its length
pub record PagePrinted (Says : List ℕ → Type 0) (o q : List ℕ) (n : ℕ) : Type 0 where
  pub room : page_room ≤ length o
  pub w : List ℕ
  pub says : Says w
  pub fits : length (escape w) ≤ length o
  pub written : Put o 0 (escape w) q n

-- what the viewer prints; too few bytes are kept as they are
abbrev pub Pages : List ℕ → List ℕ → List ℕ → List ℕ → Result ℕ Failure → Type 0
Pages t u o q (Ok n) = PagePrinted (PrintsView t u) o q n
Pages t u o q (Err (Refused n)) = PagePrinted (PrintsRefusal t u) o q n
Pages t u o q (Err NoRoom) = (length o < page_room) × (q ≡ o)
