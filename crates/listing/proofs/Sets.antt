-- The sets of a list, word by word: the list at the front of what is lent, and some places of all sets written. Assumes nothing.
use mathlib.Core.Path.{◌≡◌, refl, sym, ap, ap₂, ◌∙◌}
use mathlib.Core.Bool.{Bool, true, false, not, ◌&&◌, ◌||◌}
use mathlib.Core.List.{List, ◌++◌}
use Prim.Native.Nat.{ℕ, ◌+◌, ◌-◌, ◌*◌, ◌/◌, ◌%◌, ◌^◌, ◌≤◌, ◌<◌}
use native.Mathlib.Decide.{dec_lt}
use native.Mathlib.Nat.{mod-lt, zero-lt-suc}
use native.Mathlib.Omega.{arith}
use lib.Bits.{bit_and, bit_or, bit_xor}
use lib.ListN.{length, get_or, take, drop, get_or-append}
use lib.Seq.{get_or-drop, get_or-append-add, length-take-le, length_front, take_at}
use Rattle.base.specs.Pick.{pick}
use Rattle.program.specs.Program.{row_words}
use Rattle.bits.proofs.Rows.{member-beyond}
use Rattle.bits.proofs.Tables.{row_at, row-length}
use Rattle.bits.proofs.Words.{bit-or, bit-and, bit-and-not}
use Rattle.bits.specs.Row.{bit, member, row_of}
use Rattle.atoms.specs.Facts.{fact_rows, placed, Placeless}
use Rattle.listing.specs.Listing.{list_words}
use Rattle.listing.specs.Writing.{Beyond, Merged}

-- set r has room among the words of a list
pub set_room : (l : List ℕ) (r : ℕ) → r < fact_rows → list_words ≤ length l → row_words * r + row_words ≤ length l
set_room l r h room = omega arith

module _ (l : List ℕ) (r j : ℕ) where
  -- a place of a set is a bit of the list
  pub placed-bit : j / 64 < row_words → placed l r j ≡ bit (get_or l (row_words * r + j / 64) 0) (j % 64)
  unfolding member
  placed-bit h = ap (λ (x : ℕ). bit x (j % 64)) (row_at row_words l r (j / 64) h)

  pub placed-beyond : r < fact_rows → list_words ≤ length l → row_words * 64 ≤ j → placed l r j ≡ false
  placed-beyond h room k = member-beyond (row_of row_words l r) j (omega (arith, row-length row_words l r (set_room l r h room)))

-- sets of two lists whose words are the same, place by place
pub placed_same : (a b : List ℕ) → list_words ≤ length a → list_words ≤ length b → ((m : ℕ) → m < list_words → get_or a m 0 ≡ get_or b m 0)
    → (r j : ℕ) → r < fact_rows → placed a r j ≡ placed b r j
placed_same a b f g same r j h = go (dec_lt (j / 64) row_words)
  where
    go : Dec (j / 64 < row_words) → placed a r j ≡ placed b r j
    go (yes k) = placed-bit a r j k ∙ ap (λ (x : ℕ). bit x (j % 64)) (same (row_words * r + j / 64) (omega arith)) ∙ sym (placed-bit b r j k)
    go (no k) = placed-beyond a r j h f (omega arith) ∙ sym (placed-beyond b r j h g (omega arith))

-- ---- the list at the front of what is lent

module _ (mid front : List ℕ) (room : list_words ≤ length mid) (size : length front ≡ list_words) where
  abbrev whole : List ℕ
  whole = front ++ drop list_words mid

  whole-past : (i m : ℕ) → m ≡ list_words + i → get_or whole m 0 ≡ get_or mid m 0
  whole-past i m e =
      ap (λ (k : ℕ). get_or whole k 0) (e ∙ ap (λ (k : ℕ). k + i) (sym size)) ∙ get_or-append-add front (drop list_words mid) i 0
      ∙ get_or-drop list_words mid i 0 ∙ ap (λ (k : ℕ). get_or mid k 0) (sym e)

  pub front-beyond : Beyond mid whole
  front-beyond = record {
    same = length_front mid front list_words (size ∙ sym (length-take-le list_words mid room));
    past = λ m l. whole-past (m - list_words) m (omega arith);
  }

  pub placed-front : (r j : ℕ) → r < fact_rows → placed whole r j ≡ placed front r j
  placed-front =
      placed_same whole front (omega (arith, front-beyond.same)) (omega (arith, size))
      (λ m l. get_or-append front (drop list_words mid) 0 m (omega (arith, size)))

  pub front-size : length (take list_words whole) ≡ list_words
  front-size = ap length (take_at front (drop list_words mid) list_words size) ∙ size

  pub front-placeless : ((j : ℕ) → member front j ≡ false) → Placeless (take list_words whole)
  front-placeless none = record { many = front-size; none = λ j. ap (λ (l : List ℕ). member l j) (take_at front (drop list_words mid) list_words size) ∙ none j }

pub beyond-both : {a b c : List ℕ} → Beyond a b → Beyond b c → Beyond a c
beyond-both f g = record { same = g.same ∙ f.same; past = λ m l. g.past m l ∙ f.past m l }

-- ---- some places written, word by word

-- the word x, with the bits of the word y at those of w
abbrev pub merged : ℕ → ℕ → ℕ → ℕ
merged w y x = bit_or (bit_and x (bit_xor w (2 ^ 64 - 1))) (bit_and y w)

pick-bit : (m y x : Bool) → ((x && not m) || (y && m)) ≡ pick m y x
pick-bit true true true = refl
pick-bit true true false = refl
pick-bit true false true = refl
pick-bit true false false = refl
pick-bit false true true = refl
pick-bit false true false = refl
pick-bit false false true = refl
pick-bit false false false = refl

merged-bit : (w y x b : ℕ) → b < 64 → bit (merged w y x) b ≡ pick (bit w b) (bit y b) (bit x b)
merged-bit w y x b l =
    bit-or (bit_and x (bit_xor w (2 ^ 64 - 1))) (bit_and y w) b ∙ ap₂ ◌||◌ (bit-and-not x w b l) (bit-and y w b) ∙ pick-bit (bit w b) (bit y b) (bit x b)

-- the first m words are merged, and the others as they were
pub record MergedBelow (places fresh old new : List ℕ) (m : ℕ) : Type 0 where
  pub same : length new ≡ length old
  pub done : (i : ℕ) → i < m → get_or new i 0 ≡ merged (get_or places (i % row_words) 0) (get_or fresh i 0) (get_or old i 0)
  pub rest : (i : ℕ) → m ≤ i → get_or new i 0 ≡ get_or old i 0

module _ (places fresh old new : List ℕ) (m : ℕ) (o : MergedBelow places fresh old new m) where
  pub merged-all : length places ≡ row_words → length fresh ≡ list_words → list_words ≤ length old → m ≡ list_words → Merged places fresh old new
  unfolding member
  merged-all few size room e = record {
    beyond = record { same = o.same; past = λ i l. o.rest i (omega arith) };
    bits = λ r j h. go r j h (dec_lt (j / 64) row_words);
  }
    where
      go : (r j : ℕ) → r < fact_rows → Dec (j / 64 < row_words) → placed new r j ≡ pick (member places j) (placed fresh r j) (placed old r j)
      go r j h (yes k) =
          let i : ℕ = row_words * r + j / 64 in
          let w : i % row_words ≡ j / 64 = omega arith in
          placed-bit new r j k ∙ ap (λ (x : ℕ). bit x (j % 64)) (o.done i (omega arith) ∙ ap (λ (a : ℕ). merged (get_or places a 0) (get_or fresh i 0) (get_or old i 0)) w)
          ∙ merged-bit (get_or places (j / 64) 0) (get_or fresh i 0) (get_or old i 0) (j % 64) (mod-lt j (zero-lt-suc 63))
          ∙ ap₂ (pick (bit (get_or places (j / 64) 0) (j % 64))) (sym (placed-bit fresh r j k)) (sym (placed-bit old r j k))
      go r j h (no k) =
          placed-beyond new r j h (omega (arith, o.same)) (omega arith)
          ∙ sym (placed-beyond old r j h room (omega arith))
          ∙ ap (λ (b : Bool). pick b (placed fresh r j) (placed old r j)) (sym (member-beyond places j (omega (arith, few))))
