-- What single steps say of the numbers is what the driver can force; only the places below n count. Assumes nothing.
use mathlib.Core.Path.{◌≡◌, refl, sym, ap, ◌∙◌}
use mathlib.Core.List.{List, ◌++◌}
use mathlib.Core.Bool.{Bool, not}
use mathlib.Core.Logic.{◌↔◌}
use Prim.Native.Nat.{ℕ, suc, ◌≤◌, ◌<◌}
use native.Mathlib.Decide.{dec_lt}
use native.Mathlib.Omega.{arith}
use lib.Dec.{eqb}
use lib.ListN.{length, get_or-append}
use Rattle.base.proofs.Bools.{clash}
use Rattle.ctl.specs.Paths.{So, Graph}
use Rattle.ctl.proofs.Paths.{path_inside}
use Rattle.games.specs.Games.{ForcesWithin, Avoids}
use Rattle.games.specs.Ranks.{Ranks}
use Rattle.games.proofs.Games.{forces, least, avoids}
use Rattle.forcing.specs.Numbers.{none, number_of, numbered, Told}
use Rattle.forcing.proofs.Steps.{numbered-some, numbered-none}

-- ---- in other words

-- numbers, and whose places they are, may be told otherwise of the places below n
module _ {n : ℕ} {step : ℕ → ℕ → Bool} (g : Graph n step) {mine mine' won won' : ℕ → Bool} {number number' : ℕ → ℕ} (em : (s : ℕ) → s < n → mine' s ≡ mine s) (ew : (s : ℕ) → s < n → won' s ≡ won s)
    (en : (s : ℕ) → s < n → number' s ≡ number s) where
  pub ranks-same : {q : ℕ → Bool} → Ranks n step mine q won number → Ranks n step mine' q won' number'
  ranks-same r = record {
    here = λ s l e. let a = r.here s l e in (ew s l ∙ a.0, en s l ∙ a.1);
    mine_on = λ s l v e m.
        let a = r.mine_on s l (sym (ew s l) ∙ v) e (sym (em s l) ∙ m) in
        let i = g.inside s a.0 l a.1 in
        (a.0, a.1, ew a.0 i ∙ a.2, en s l ∙ a.3 ∙ ap suc (sym (en a.0 i)));
    mine_least = λ s t l m e v.
        let i = g.inside s t l e in
        let a = r.mine_least s t l (sym (em s l) ∙ m) e (sym (ew t i) ∙ v) in
        (ew s l ∙ a.0, omega (arith, a.1, en s l, en t i));
    theirs_on = λ s t l v e m h.
        let i = g.inside s t l h in
        let a = r.theirs_on s t l (sym (ew s l) ∙ v) e (sym (em s l) ∙ m) h in
        (ew t i ∙ a.0, omega (arith, a.1, en s l, en t i));
    theirs_most = λ s l v e m.
        let a = r.theirs_most s l (sym (ew s l) ∙ v) e (sym (em s l) ∙ m) in
        (a.0, a.1, en s l ∙ a.2 ∙ ap suc (sym (en a.0 (g.inside s a.0 l a.1))));
    theirs_out = λ s l v m.
        let a = r.theirs_out s l (sym (ew s l) ∙ v) (sym (em s l) ∙ m) in
        (a.0, a.1, ew a.0 (g.inside s a.0 l a.1) ∙ a.2);
  }

-- numbers with more behind them
pub ranks-front : {n : ℕ} {step : ℕ → ℕ → Bool} → Graph n step → {mine q : ℕ → Bool} (numbers after : List ℕ) → length numbers ≡ n
    → Ranks n step mine q (numbered numbers) (number_of numbers) → Ranks n step mine q (numbered (numbers ++ after)) (number_of (numbers ++ after))
ranks-front {n = n} g numbers after e = ranks-same g (λ s l. refl) (λ s l. ap (λ (x : ℕ). not (eqb x none)) (same s l)) same
  where
    same : (s : ℕ) → s < n → number_of (numbers ++ after) s ≡ number_of numbers s
    same s l = get_or-append numbers after 0 s (omega (arith, e))

-- only the steps of the places below n count
module _ (n : ℕ) (step step' : ℕ → ℕ → Bool) (same : (s t : ℕ) → s < n → step' s t ≡ step s t) where
  pub ranks-steps : (mine q won : ℕ → Bool) (number : ℕ → ℕ) → Ranks n step mine q won number → Ranks n step' mine q won number
  ranks-steps mine q won number r = record {
    here = r.here;
    mine_on = λ s l v e m. let a = r.mine_on s l v e m in (a.0, same s a.0 l ∙ a.1, a.2, a.3);
    mine_least = λ s t l m e v. r.mine_least s t l m (sym (same s t l) ∙ e) v;
    theirs_on = λ s t l v e m h. r.theirs_on s t l v e m (sym (same s t l) ∙ h);
    theirs_most = λ s l v e m. let a = r.theirs_most s l v e m in (a.0, same s a.0 l ∙ a.1, a.2);
    theirs_out = λ s l v m. let a = r.theirs_out s l v m in (a.0, same s a.0 l ∙ a.1, a.2);
  }

-- what is to be brought about may be said otherwise of the places below n
module _ (n : ℕ) (step : ℕ → ℕ → Bool) (g : Graph n step) (mine : ℕ → Bool) (X Y : ℕ → Type 0) (s : ℕ) (l : s < n) where
  forces-map : ((t : ℕ) → t < n → X t → Y t) → (k : ℕ) → ForcesWithin n step mine X s k → ForcesWithin n step mine Y s k
  forces-map f k (σ, legal, w) = (σ, legal, λ π p h. let a = w π p h in (a.0, a.1, f (π a.0) (path_inside g s l π p a.0) a.2))

  avoids-map : ((t : ℕ) → t < n → Y t → X t) → Avoids n step mine X s → Avoids n step mine Y s
  avoids-map f (τ, legal, w) = (τ, legal, λ π p h i x. w π p h i (f (π i) (path_inside g s l π p i) x))

module _ (n : ℕ) (step : ℕ → ℕ → Bool) (g : Graph n step) (mine : ℕ → Bool) (X Y : ℕ → Type 0) (both : (t : ℕ) → t < n → X t ↔ Y t) (numbers : List ℕ) (s : ℕ) (l : s < n) where
  pub told-map : Told n step mine X numbers s → Told n step mine Y numbers s
  told-map w = record {
    enough = λ f. forces-map n step g mine X Y s l (λ t b. (both t b).0) (number_of numbers s) (w.enough f);
    least = λ k f. w.least k (forces-map n step g mine Y X s l (λ t b. (both t b).1) k f);
    never = λ e k f. w.never e k (forces-map n step g mine Y X s l (λ t b. (both t b).1) k f);
    avoided = λ e. avoids-map n step g mine X Y s l (λ t b. (both t b).1) (w.avoided e);
  }

-- ---- what is told

module _ (n : ℕ) (step : ℕ → ℕ → Bool) (mine q : ℕ → Bool) (g : Graph n step) where
  pub told : (numbers : List ℕ) → Ranks n step mine q (numbered numbers) (number_of numbers) → (s : ℕ) → s < n → Told n step mine (So q) numbers s
  told numbers r s l = record {
    enough = λ f. forces g mine q (numbered numbers) (number_of numbers) r s l (numbered-some numbers s f);
    least = λ k f. go k f (dec_lt k (number_of numbers s));
    never = λ e k. least g mine q (numbered numbers) (number_of numbers) r k s l (λ v. clash v (numbered-none numbers s e));
    avoided = λ e. avoids g mine q (numbered numbers) (number_of numbers) r s l (numbered-none numbers s e);
  }
    where
      go : (k : ℕ) → ForcesWithin n step mine (So q) s k → Dec (k < number_of numbers s) → number_of numbers s ≤ k
      go k f (yes b) = absurd (least g mine q (numbered numbers) (number_of numbers) r k s l (λ _. b) f)
      go k f (no b) = omega arith
