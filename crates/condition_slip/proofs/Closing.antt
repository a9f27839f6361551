-- Whether a bracket holds a condition already, and what is told of a byte: once. Assumes nothing.
use mathlib.Core.Path.{◌≡◌, refl, sym, ◌∙◌}
use mathlib.Core.Bool.{◌&&◌, ◌||◌}
use mathlib.Core.List.{List, [], ◌∷◌}
use Prim.Native.Nat.{ℕ, zero, suc, ◌+◌, ◌-◌, ◌≤◌, ◌<◌}
use native.Mathlib.Omega.{arith}
use lib.Dec.{eqb, ltb}
use lib.ListN.{length, get_or, get_or-eq_default}
use Rattle.base.proofs.Bools.{last-or-below}
use Rattle.condition.specs.Condition.{Condition}
use Rattle.condition.specs.Texts.{most_bytes, Spells}
use Rattle.viable.specs.Begins.{stops, spelled}
use Rattle.condition_blame.specs.Blame.{Blamed, long, short}
use Rattle.slips.specs.Slips.{is_digit, marked, shows}
use Rattle.slips.specs.declared.Sign.TheVariants as sign
use Rattle.slips.specs.declared.Slip.{Slip}
use Rattle.slips.proofs.Rooms.{Told, either, spelled-told}
use Rattle.condition_slip.specs.ConditionSlip.{Holds, Closes, around, byte_slip, place_slip, slip_at, Shows}
use Rattle.condition_slip.specs.ConditionSlip as slip

-- the text at whose reading nothing stops is a condition
pub read_whole : {s : List ℕ} {n : ℕ} → length s ≤ most_bytes → Blamed s n → n ≡ 0 → (c : Condition) × Spells s c
read_whole h (long l e) z = absurd (omega arith)
read_whole h (short l (stops a)) z = absurd (omega (arith, a.byte))
read_whole h (short l (spelled c p e)) z = (c, p)

-- and no other
pub read-part : {s : List ℕ} {n : ℕ} → Blamed s n → (n ≡ 0 → ⊥) → (c : Condition) → Spells s c → ⊥
read-part (long l e) z c p = z e
read-part (short l (stops a)) z c p = a.misspelled c p
read-part (short l (spelled d q e)) z c p = z e

-- no place before k has the bracket
abbrev pub NoneBefore : List ℕ → ℕ → ℕ → Type 0
NoneBefore t end k = (j : ℕ) → j < k → Holds t end j → ⊥

pub none_more : {t : List ℕ} {end k : ℕ} → NoneBefore t end k → (Holds t end k → ⊥) → NoneBefore t end (k + 1)
none_more {t = t} {end = end} {k = k} f g j h = last-or-below k (λ j. Holds t end j → ⊥) g f j (omega arith)

pub none-closes : {t : List ℕ} {end k : ℕ} → NoneBefore t end k → end ≤ k → Closes t end → ⊥
none-closes f h a = f a.k (omega (arith, a.holds.before)) a.holds

-- no text has two slips at a byte
pub shown-once : {t : List ℕ} {n : ℕ} {s u : Slip} → Shows t n s → Shows t n u → s ≡ u
shown-once (slip.long h e) (slip.long k f) = e ∙ sym f
shown-once (slip.long h e) (slip.brackets k a f) = absurd (omega arith)
shown-once (slip.long h e) (slip.other k a f) = absurd (omega arith)
shown-once (slip.brackets h a e) (slip.long k f) = absurd (omega arith)
shown-once (slip.brackets h a e) (slip.brackets k b f) = e ∙ sym f
shown-once (slip.brackets h a e) (slip.other k b f) = absurd (b a)
shown-once (slip.other h a e) (slip.long k f) = absurd (omega arith)
shown-once (slip.other h a e) (slip.brackets k b f) = absurd (a b)
shown-once (slip.other h a e) (slip.other k b f) = e ∙ sym f

-- the words for what is shown have room
place-told : (t : List ℕ) (k : ℕ) → Told (place_slip t k)
unfolding place_slip byte_slip
place-told t k =
    let c : ℕ = get_or t k 0 in
    either (ltb k (length t)) _ _
    (either (is_digit c) _ _ (spelled-told 10 (k + 1) t)
    (either (eqb c 13) _ _ tt (either (eqb c 9) _ _ tt (either (eqb c 10) _ _ tt (either (shows sign.Space (around t k) c || shows sign.Space c (around t (k + 2))) _ _ tt tt)))))
    tt

at_told : (t : List ℕ) (n : ℕ) → Told (slip_at t n)
unfolding slip_at
at_told t n = either (eqb n 0) _ _ tt (either (eqb n 1 && marked t) _ _ tt (place-told t (n - 1)))

pub shown-told : {t : List ℕ} {n : ℕ} {s : Slip} → Shows t n s → Told s
shown-told (slip.long h e) = rw e tt
shown-told (slip.brackets h a e) = rw e tt
shown-told {t = t} {n = n} (slip.other h a e) = rw e (at_told t n)

-- the bytes of a text with a byte 10 before and behind it
same-within : (t : List ℕ) (k : ℕ) → k < length t → get_or t k 0 ≡ get_or t k 10
same-within [] k h = absurd (omega arith)
same-within (x ∷ t) zero h = refl
same-within (x ∷ t) (suc k) h = same-within t k (omega arith)

pub within-at : (t : List ℕ) (k : ℕ) → (k ≡ 0 → ⊥) → k ≤ length t → get_or t (k - 1) 0 ≡ around t k
within-at t zero h l = absurd (h refl)
within-at t (suc k) h l = let e : suc k - 1 ≡ k = omega arith in rw e (same-within t k (omega arith))

pub behind-at : (t : List ℕ) (k : ℕ) → length t < k → 10 ≡ around t k
behind-at t zero h = absurd (omega arith)
behind-at t (suc k) h = sym (get_or-eq_default t 10 {n = k} (omega arith))
