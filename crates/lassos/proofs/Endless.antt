-- Where some path has p W q and none has p U q, p holds, and a step leads to such a place again. Assumes nothing.
use mathlib.Core.Path.{◌≡◌, sym, ap, ◌∙◌}
use mathlib.Core.Bool.{Bool, true}
use mathlib.Core.Logic.{⊎_elim}
use Prim.Native.Nat.{ℕ, suc}
use native.Mathlib.Omega.{arith}
use Rattle.ctl.specs.Paths.{E, Paths, Until, Weak, So}
use Rattle.ctl.proofs.Paths.{path-first, path-tail}
use Rattle.ctl.proofs.Weak.{steady-of-weak, steady-until}

pub weak-on : (step : ℕ → ℕ → Bool) (p q : ℕ → Bool) (s : ℕ) → Paths E step s (Weak (So p) (So q)) → (Paths E step s (Until (So p) (So q)) → ⊥)
    → (p s ≡ true) × ((t : ℕ) × (step s t ≡ true) × Paths E step t (Weak (So p) (So q)))
weak-on step p q s (π, w, h) none = (ap p (sym w.0) ∙ always 0, (π 1, path-first step s π w, ((λ i. π (suc i)), path-tail step s π w, λ z. z.1 (λ i. always (suc i)))))
  where
    always : (i : ℕ) → p (π i) ≡ true
    always i =
        let st = steady-of-weak p q π h in
        ⊎_elim (λ x. x) (λ j. absurd (none (π, w, steady-until p q π st (suc j.0) j.0 (omega arith) j.2))) (st i)
