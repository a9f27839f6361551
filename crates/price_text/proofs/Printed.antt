-- How long lines of prices are; and what is printed by columns is what is printed by the programs. Assumes nothing.
use mathlib.Core.Path.{◌≡◌, refl, sym, ap, ◌∙◌}
use mathlib.Core.List.{List, ◌++◌}
use Prim.Native.Nat.{ℕ, zero, suc, ◌+◌, ◌≤◌, ◌<◌}
use native.Mathlib.Omega.{arith}
use lib.ListN.{length, take, get_or, length-append}
use lib.Seq.{get_or-take}
use Rattle.language.specs.Spelling.{digits}
use Rattle.language.proofs.Lengths.{digits-length}
use Rattle.language.specs.declared.Statement.{Statement}
use Rattle.program.specs.Program.{most}
use Rattle.statement_writer.proofs.Series.{Parts}
use Rattle.pricing.specs.Prices.{column, prices, most_price, Fair}
use Rattle.pricing.proofs.Columns.{column-front}
use Rattle.price_list.specs.PriceList.{Lists}
use Rattle.price_list.specs.declared.PriceList.{PriceList}
use Rattle.price_text.specs.PriceText.{price_line, price_lines, total_lines, text_of_prices, place_digits, price_digits, price_room}

pub line-length : (n b a : ℕ) → length (price_line n b a) ≡ length (digits n) + (1 + (length (digits b) + (1 + (length (digits a) + 1))))
unfolding price_line
line-length n b a = simp length-append (omega arith)

-- a line of a statement's number and two prices
pub line-most : (n b a : ℕ) → n ≤ most → b ≤ most_price → a ≤ most_price → length (price_line n b a) ≤ price_room
line-most n b a x y z =
    omega (arith, line-length n b a, digits-length place_digits n (omega arith) (omega arith), digits-length price_digits b (omega arith) (omega arith), digits-length price_digits a (omega arith) (omega arith))

-- a line for each statement
pub line-parts : (m : ℕ) (bs cs : List ℕ) → m ≤ most → Fair bs → Fair cs
    → Parts (λ n. price_lines n bs cs) (λ n. price_line (n + 1) (get_or bs n 0) (get_or cs n 0)) m price_room
unfolding price_lines
line-parts m bs cs few b c = record { none = refl; more = λ n. refl; short = λ n h. line-most (n + 1) (get_or bs n 0) (get_or cs n 0) (omega arith) (b n) (c n) }

-- columns that agree on the first n entries print alike
lines-agree : (n : ℕ) (bs cs ds es : List ℕ) → ((k : ℕ) → k < n → get_or bs k 0 ≡ get_or ds k 0) → ((k : ℕ) → k < n → get_or cs k 0 ≡ get_or es k 0)
    → price_lines n bs cs ≡ price_lines n ds es
unfolding price_lines
lines-agree zero bs cs ds es f g = refl
lines-agree (suc n) bs cs ds es f g =
    rw (lines-agree n bs cs ds es (λ k h. f k (omega arith)) (λ k h. g k (omega arith)), f n (omega arith), g n (omega arith))

column-same : (ps : List ℕ) (P : List Statement) (n : ℕ) → length P ≡ n → n ≤ most → (k : ℕ) → k < n → get_or (column ps P) k 0 ≡ get_or (prices ps P) k 0
column-same ps P n e few k h = sym (get_or-take n (column ps P) k 0 h) ∙ ap (λ (l : List ℕ). get_or l k 0) (rw e at (column-front ps P (omega (arith, e, few))))

-- the columns' lines are those of the programs' prices
pub column-lines : (ps : List ℕ) (P Q : List Statement) → length P ≤ most → length Q ≡ length P
    → price_lines (length P) (column ps P) (column ps Q) ≡ price_lines (length P) (prices ps P) (prices ps Q)
column-lines ps P Q few same =
    lines-agree (length P) (column ps P) (column ps Q) (prices ps P) (prices ps Q) (column-same ps P (length P) refl few) (column-same ps Q (length P) same few)

-- what is written of a list is what is printed of its programs
pub list-text : {ps : List ℕ} {P Q : List Statement} {l : PriceList} → Lists ps P Q l → length P ≤ most → length Q ≡ length P
    → price_lines l.count l.before l.after ++ total_lines l.given l.rewritten l.saved ≡ text_of_prices ps P Q
unfolding text_of_prices
list-text {ps} {P} {Q} s few same = rw (s.counted, s.before, s.after, s.given, s.rewritten, s.saved, column-lines ps P Q few same)
