-- The lines of some steps and of those after them, and that a run which has ended has no further ones. Assumes nothing.
use mathlib.Core.Path.{◌≡◌, refl, ap, sym, ◌∙◌}
use mathlib.Core.List.{List, [], ◌++◌, append-nil, append_assoc}
use Prim.Native.Nat.{ℕ, zero, suc, ◌+◌, ◌-◌, ◌≤◌}
use native.Mathlib.Omega.{arith}
use Rattle.language.specs.declared.Statement.{Statement}
use Rattle.machine.specs.Machine.{Final, ended, after}
use Rattle.machine.proofs.Unique.{ended-stays}
use Rattle.trace.specs.Trace.{step_line, step_lines}

module _ (P : List Statement) (vs : List ℕ) (input : ℕ) where
  pub lines_then : (k n : ℕ) → step_lines P vs input 0 k ++ step_lines P vs input k n ≡ step_lines P vs input 0 (k + n)
  unfolding step_lines
  lines_then k zero = let e : k + 0 ≡ k = omega arith in rw (e, append-nil (step_lines P vs input 0 k))
  lines_then k (suc n) =
      let e : k + suc n ≡ suc (k + n) = omega arith in
      let z : 0 + (k + n) ≡ k + n = omega arith in
      rw (e, z) (sym (append_assoc (step_lines P vs input 0 k) (step_lines P vs input k n) (step_line P input (suc (k + n)) (after P vs input (k + n))))
      ∙ ap (λ (l : List ℕ). l ++ step_line P input (suc (k + n)) (after P vs input (k + n))) (lines_then k n))

  lines-over : (k n : ℕ) (v : Final) → after P vs input k ≡ ended v → step_lines P vs input k n ≡ []
  unfolding step_lines
  lines-over k zero v e = refl
  lines-over k (suc n) v e = rw (lines-over k n v e, ended-stays P vs input k v n e)

  -- the lines of the steps up to the end are those of all steps
  pub lines-whole : (k n : ℕ) (v : Final) → after P vs input k ≡ ended v → k ≤ n → step_lines P vs input 0 k ≡ step_lines P vs input 0 n
  lines-whole k n v e h =
      let f : k + (n - k) ≡ n = omega arith in
      let more : step_lines P vs input 0 k ++ [] ≡ step_lines P vs input 0 n = rw (lines-over k (n - k) v e, f) at (lines_then k (n - k)) in
      sym (append-nil (step_lines P vs input 0 k)) ∙ more
