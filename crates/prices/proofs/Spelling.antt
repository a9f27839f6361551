-- Reading undoes spelling, and the other way round: the lines of a table of prices. Assumes nothing.
use mathlib.Core.Path.{◌≡◌, refl, ap, sym, ◌∙◌}
use mathlib.Core.List.{List, [], ◌∷◌, ◌++◌}
use Prim.Native.Nat.{ℕ, ◌≤◌}
use native.Mathlib.Omega.{arith}
use lib.Dec.{leb}
use lib.ListN.{length, drop}
use borrow.Author.Tests.{leb-true, le-leb}
use Rattle.lines.proofs.Texts.{Unambiguous}
use Rattle.tokens.specs.Parsing.{found, misspelled, after, where?, parse_word, digit_of, parse_number, parsed, parsed_end}
use Rattle.std.specs.Prelude.{Option, Some, None}
use Rattle.tokens.proofs.Numbers.{number-sound, number-complete}
use Rattle.tokens.proofs.Parse.{after-inv, where-inv, skip-sound}
use Rattle.pricing.specs.Prices.{most_price, ValidPrice}
use Rattle.prices.specs.Prices.{spell_price, PriceLineRead}
use Rattle.prices.specs.Parsing.{parse_price}

price-sound : (l : List ℕ) (v : ℕ) (rest : List ℕ) → parse_price l ≡ found v rest → (l ≡ spell_price v ++ 10 ∷ rest) × ValidPrice v
unfolding parse_price
price-sound l v rest e =
    after-inv (parse_number l) (λ n t. where? (leb 1 n) (where? (leb n most_price) (after (parse_word (10 ∷ []) t) λ _ u. found n u))) e λ n t p q.
    where-inv (leb 1 n) _ q λ low q₁.
    where-inv (leb n most_price) _ q₁ λ high q₂.
    after-inv (parse_word (10 ∷ []) t) (λ _ u. found n u) q₂ λ _ u r w.
    (let h = number-sound l n t p in
    let a : n ≡ v = cc in
    let b : u ≡ rest = cc in
    rw (← a, ← b, ← skip-sound (10 ∷ []) t r) (h.0, (leb-true 1 n low, leb-true n most_price high)))

pub price-complete : (v : ℕ) (rest : List ℕ) → ValidPrice v → parse_price (spell_price v ++ 10 ∷ rest) ≡ found v rest
unfolding parse_price parse_word digit_of
price-complete v rest h = rw (number-complete v (10 ∷ rest) (omega (arith, h.1)) refl, le-leb 1 v h.0, le-leb v most_price h.1)

-- a reader that finds what `parse_price` finds reads the line right
pub line-right : (s : List ℕ) (at : ℕ) (r : Option (ℕ × ℕ)) → parsed_end r ≤ length s → parsed s r ≡ parse_price (drop at s) → PriceLineRead s at r
line-right s at (Some r) b e = let l = price-sound (drop at s) r.0 (drop r.1 s) (sym e) in record { stands = l.0; within = b; valid = l.1 }
line-right s at None b e = λ v u w p.
    let f : misspelled ≡ found v u = e ∙ ap parse_price p ∙ price-complete v u w in
    let z : ◌≡◌ {A = ℕ} 0 1 = cc in
    omega arith

-- a line is that of one price only
pub prices-unambiguous : Unambiguous spell_price ValidPrice
prices-unambiguous = record {
  same = λ v w r s a b e.
      let f : found v r ≡ found w s = sym (price-complete v r a) ∙ ap parse_price e ∙ price-complete w s b in
      (cc, cc);
}
