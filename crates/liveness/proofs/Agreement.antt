-- From the rows to the claim that live variables agree. Assumes nothing.
use mathlib.Core.Path.{◌≡◌, refl, sym, ◌∙◌}
use mathlib.Core.Bool.{Bool, true, false, not, ◌&&◌}
use mathlib.Core.Logic.{◌⊎◌, ◌↔◌, inl, inr}
use Rattle.std.specs.Bool.{IsTrue}
use Rattle.base.specs.Decides.{Decides}
use mathlib.Core.List.{List}
use Prim.Native.Nat.{ℕ, ◌≤◌, ◌<◌}
use native.Mathlib.Decide.{dec_lt}
use native.Mathlib.Omega.{arith}
use lib.Dec.{eqb}
use lib.ListN.{length, get_or, get_or-eq_default}
use borrow.Author.Tests.{eqb-true, eqb-false, eq-eqb}
use Rattle.base.proofs.Bools.{split, clash, and_left, and_right, and_both, not_of_false, false_of_not}
use Rattle.language.specs.Spelling.{variables}
use Rattle.language.specs.declared.Statement.{Statement}
use Rattle.bits.specs.Row.{member}
use Rattle.truth.specs.Truth.{Sat}
use Rattle.table.specs.Table.{row}
use Rattle.lockstep.specs.Rules.{live}
use Rattle.lockstep.specs.Lockstep.{Agree}
use Rattle.liveness.specs.Liveness.{LiveRows}

-- what the code tests of one variable
abbrev pub differing : List ℕ → ℕ → List ℕ → List ℕ → ℕ → Bool
differing ws s vs us x = not (eqb (get_or vs x 0) (get_or us x 0)) && member (row ws x) s

module _ {P : List Statement} {ws : List ℕ} (l : LiveRows P ws) {s : ℕ} (h : s < length P) (vs us : List ℕ) where
  -- a variable that the rows have and that differs
  pub some-differs : (x : ℕ) → x < variables → differing ws s vs us x ≡ true → Agree P s vs us → ⊥
  some-differs x b e agree =
      let differ = false_of_not (eqb (get_or vs x 0) (get_or us x 0)) (and_left _ (member (row ws x) s) e) in
      eqb-false _ _ differ (agree x (((l.rows x b).exact s h).0 (and_right (not (eqb (get_or vs x 0) (get_or us x 0))) _ e)))

  -- none differs; past the last variable both hold 0
  pub none-differs : length vs ≡ variables → length us ≡ variables → ((x : ℕ) → x < variables → differing ws s vs us x ≡ false) → Agree P s vs us
  none-differs m n f x sat = by (dec_lt x variables)
    where
      same : x < variables → (eqb (get_or vs x 0) (get_or us x 0) ≡ true) ⊎ (eqb (get_or vs x 0) (get_or us x 0) ≡ false) → get_or vs x 0 ≡ get_or us x 0
      same b (inl e) = eqb-true _ _ e
      same b (inr e) = clash (and_both _ _ (not_of_false _ e) (((l.rows x b).exact s h).1 sat)) (f x b)

      by : Dec (x < variables) → get_or vs x 0 ≡ get_or us x 0
      by (yes b) = same b (split (eqb (get_or vs x 0) (get_or us x 0)))
      by (no b) = get_or-eq_default vs 0 (omega arith) ∙ sym (get_or-eq_default us 0 (omega arith))

  -- a test that no live variable differs
  pub agreement : length vs ≡ variables → length us ≡ variables → (r : Bool) → IsTrue r ↔ ((x : ℕ) → x < variables → differing ws s vs us x ≡ false)
      → Decides r (Agree P s vs us)
  agreement m n true h = none-differs m n (h.0 refl)
  agreement m n false h = λ agree. clash (h.1 (λ x b. alike agree x b (split (differing ws s vs us x)))) refl
    where
      alike : Agree P s vs us → (x : ℕ) → x < variables → (differing ws s vs us x ≡ true) ⊎ (differing ws s vs us x ≡ false) → differing ws s vs us x ≡ false
      alike agree x b (inl e) = absurd (some-differs x b e agree)
      alike agree x b (inr e) = e
