-- What the check program prints of prices: document 02, Wish 7, "a line with number, price before and price after for each statement, single spaces between,
-- then each total on its own line".
use Rattle.std.specs.Prelude.{List, [], ◌∷◌, ◌++◌, ℕ, zero, suc, ◌+◌, ◌*◌, ℤ, length, get_or}
use Rattle.base.specs.Bytes.{byte}
use Rattle.language.specs.Spelling.{digits, signed_digits}
use Rattle.language.specs.Room.{number_digits, constant_room}
use Rattle.language.specs.declared.Statement.{Statement}
use Rattle.program.specs.Program.{most}
use Rattle.pricing.specs.Prices.{prices, total}
use Rattle.price_list.specs.PriceList.{less}

-- `4 3 3`
unfoldable pub price_line : ℕ → ℕ → ℕ → List ℕ
price_line n b a = digits n ++ byte " " ∷ (digits b ++ byte " " ∷ (digits a ++ 10 ∷ []))

-- the lines of the first n statements, whose prices before and after are bs and cs
unfoldable pub price_lines : ℕ → List ℕ → List ℕ → List ℕ
price_lines zero bs cs = []
price_lines (suc n) bs cs = price_lines n bs cs ++ price_line (n + 1) (get_or bs n 0) (get_or cs n 0)

-- `24`, `24` and `0`
unfoldable pub total_lines : ℕ → ℕ → ℤ → List ℕ
total_lines g r s = digits g ++ 10 ∷ (digits r ++ 10 ∷ (signed_digits s ++ 10 ∷ []))

-- what is printed of the program P and its rewritten one Q, by the table ps
unfoldable pub text_of_prices : List ℕ → List Statement → List Statement → List ℕ
text_of_prices ps P Q = price_lines (length P) (prices ps P) (prices ps Q) ++ total_lines (total ps P) (total ps Q) (less (total ps P) (total ps Q))

-- the digits of a statement's number, and of a price, ours or another of at most 65,535
abbrev pub place_digits : ℕ
place_digits = 4

abbrev pub price_digits : ℕ
price_digits = 5

-- room for a line as long as `1024 65535 65535`; for the lines of the totals, numbers of 32 bits; and for all of it
abbrev pub price_room : ℕ
price_room = place_digits + (1 + (price_digits + (1 + (price_digits + 1))))

abbrev pub totals_room : ℕ
totals_room = number_digits + (1 + (number_digits + (1 + (constant_room + 1))))

abbrev pub price_text_room : ℕ
price_text_room = most * price_room + totals_room
