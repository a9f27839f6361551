-- Rows in as many words as their places need: the first words of a row, and a row with words behind it that have no place.
-- Assumes nothing.
use mathlib.Core.Path.{◌≡◌, sym, ap, ◌∙◌, fun_ext}
use mathlib.Core.List.{List, ◌++◌}
use mathlib.Core.Bool.{Bool, false}
use Prim.Native.Nat.{ℕ, ◌+◌, ◌-◌, ◌*◌, ◌/◌, ◌%◌, ◌≤◌, ◌<◌}
use native.Mathlib.Nat.{mod-lt, zero-lt-suc}
use native.Mathlib.Decide.{dec_lt}
use native.Mathlib.Omega.{arith}
use lib.ListN.{length, get_or, take, drop, length-take, length-drop, get_or-append}
use lib.Seq.{take_at, get_or-take, get_or-append-add}
use Rattle.bits.specs.Row.{bit, member}
use Rattle.bits.proofs.Rows.{word-member, member-beyond}

-- the first w words hold all places that the row has, where these lie below n and the words have room for n
pub front-member : (w n : ℕ) (row : List ℕ) → n ≤ w * 64 → ((s : ℕ) → n ≤ s → member row s ≡ false) → member (take w row) ≡ member row
unfolding member
front-member w n row room none = fun_ext (λ s. at s (dec_lt s (w * 64)))
  where
    at : (s : ℕ) → Dec (s < w * 64) → member (take w row) s ≡ member row s
    at s (yes l) = ap (λ (x : ℕ). bit x (s % 64)) (get_or-take w row (s / 64) 0 (omega arith))
    at s (no l) = member-beyond (take w row) s (simp length-take (omega arith)) ∙ sym (none s (omega arith))

-- words without a place may stand behind a row
pub behind-member : (row rest : List ℕ) → ((s : ℕ) → member rest s ≡ false) → member (row ++ rest) ≡ member row
unfolding member
behind-member row rest none = fun_ext (λ s. at s (dec_lt (s / 64) (length row)))
  where
    behind : (s i : ℕ) → s / 64 ≡ length row + i → member (row ++ rest) s ≡ false
    behind s i e =
        ap (λ (k : ℕ). bit (get_or (row ++ rest) k 0) (s % 64)) e ∙ ap (λ (x : ℕ). bit x (s % 64)) (get_or-append-add row rest i 0)
        ∙ sym (word-member rest i (s % 64) (mod-lt s (zero-lt-suc 63))) ∙ none (i * 64 + s % 64)

    at : (s : ℕ) → Dec (s / 64 < length row) → member (row ++ rest) s ≡ member row s
    at s (yes l) = ap (λ (x : ℕ). bit x (s % 64)) (get_or-append row rest 0 (s / 64) l)
    at s (no l) = behind s (s / 64 - length row) (omega arith) ∙ sym (member-beyond row s (omega arith))

-- the first w words became `front`, and all words behind them `rest`, which has no place
pub lent-member : (w : ℕ) (front back rest : List ℕ) → length front ≡ w → ((s : ℕ) → member rest s ≡ false)
    → member (take w (front ++ back) ++ (rest ++ drop (length (front ++ back) - w) (drop w (front ++ back)))) ≡ member front
lent-member w front back rest l none =
    ap (λ (row : List ℕ). member (row ++ (rest ++ past))) (take_at front back w l) ∙ behind-member front (rest ++ past) (λ s. ap (λ (f : ℕ → Bool). f s) (behind-member rest past nothing) ∙ none s)
  where
    past : List ℕ
    past = drop (length (front ++ back) - w) (drop w (front ++ back))

    nothing : (s : ℕ) → member past s ≡ false
    nothing s = member-beyond past s (simp length-drop (omega arith))
