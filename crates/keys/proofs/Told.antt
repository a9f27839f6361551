-- What entries tell, when two tell one key, and the hash of a text byte after byte. Assumes nothing.
use mathlib.Core.Path.{◌≡◌, sym, ap, ◌∙◌}
use mathlib.Core.List.{List}
use Prim.Native.Nat.{ℕ, suc, ◌+◌, ◌-◌, ◌*◌, ◌%◌, ◌≤◌, ◌<◌}
use native.Mathlib.Decide.{ℕ_discrete}
use native.Mathlib.Numerals.{add-one}
use native.Mathlib.Omega.{arith}
use lib.ListN.{length, get_or, drop, length-drop}
use lib.Seq.{drop-cons, length-take-le}
use borrow.Author.Tests.{eq-eqb, ne_eqb}
use Rattle.condition.specs.Words.{word, code_in, left_in, start_in, end_in}
use Rattle.sharing.specs.Keys.{text, operator}
use Rattle.keys.specs.Store.{span, key_in, Formed, hash_from}

module _ (u : List ℕ) where
  pub span-length : (a b : ℕ) → b ≤ length u → length (span a b u) ≡ b - a
  span-length a b l = length-take-le (b - a) (drop a u) (rw (length-drop a u) (omega arith))

  -- one byte more of a hash
  pub hash-step : (h i end : ℕ) → i < end → end ≤ length u
      → hash_from h (span i end u) ≡ hash_from ((h * 31 + get_or u i 0) % 65536) (span (i + 1) end u)
  unfolding hash_from
  hash-step h i end l m =
      let e : end - i ≡ suc (end - suc i) = omega arith in
      rw (add-one i, e, drop-cons u i 0 (omega arith))

  -- ---- the keys of two entries

  pub key-text : (w : ℕ) → code_in w ≡ 0 → key_in u w ≡ text (span (start_in w) (end_in w) u)
  key-text w e = rw (eq-eqb (code_in w) 0 e)

  pub key-operator : (w : ℕ) → (code_in w ≡ 0 → ⊥) → key_in u w ≡ operator (code_in w) (left_in w) (start_in w)
  key-operator w n = rw (ne_eqb (code_in w) 0 n)

  pub kinds-apart : (v w : ℕ) → code_in v ≡ 0 → (code_in w ≡ 0 → ⊥) → key_in u v ≡ key_in u w → ⊥
  kinds-apart v w e n k = let z : ◌≡◌ {A = ℕ} 0 1 = cc (key-text v e, key-operator w n) in omega arith

  -- an operator's entry is made of its fields
  entry-fields : (w : ℕ) → w < 1099511627776 → w ≡ word (code_in w) (left_in w) (start_in w) 0
  entry-fields w l = omega arith

  pub operators-same : (v w : ℕ) → Formed u v → Formed u w → (code_in v ≡ 0 → ⊥) → key_in u v ≡ key_in u w → v ≡ w
  operators-same v w f g n k = go (ℕ_discrete (code_in w) 0)
    where
      go : Dec (code_in w ≡ 0) → v ≡ w
      go (yes e) = absurd (kinds-apart w v e n (sym k))
      go (no m) =
          let s : operator (code_in v) (left_in v) (start_in v) ≡ operator (code_in w) (left_in w) (start_in w) = sym (key-operator v n) ∙ k ∙ key-operator w m in
          let a : code_in v ≡ code_in w = cc in
          let b : left_in v ≡ left_in w = cc in
          let c : start_in v ≡ start_in w = cc in
          entry-fields v (f.plain n) ∙ rw (a, b, c) (sym (entry-fields w (g.plain m)))

  pub texts-same : (v w : ℕ) → code_in v ≡ 0 → code_in w ≡ 0 → span (start_in v) (end_in v) u ≡ span (start_in w) (end_in w) u → key_in u v ≡ key_in u w
  texts-same v w e f s = key-text v e ∙ ap text s ∙ sym (key-text w f)

  pub texts-told : (v w : ℕ) → code_in v ≡ 0 → code_in w ≡ 0 → key_in u v ≡ key_in u w → span (start_in v) (end_in v) u ≡ span (start_in w) (end_in w) u
  texts-told v w e f k =
      let s : text (span (start_in v) (end_in v) u) ≡ text (span (start_in w) (end_in w) u) = sym (key-text v e) ∙ k ∙ key-text w f in
      cc
