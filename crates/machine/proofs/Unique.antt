-- A run's answer is determined: of one run under one budget two answers are the same, and so are the values beside them.
use mathlib.Core.Path.{◌≡◌, sym, ap, ap₂, ◌∙◌}
use mathlib.Core.List.{List}
use Prim.Native.Nat.{ℕ, zero, suc, ◌+◌, ◌-◌, ◌≤◌, ◌<◌}
use native.Mathlib.Decide.{dec_lt}
use native.Mathlib.Numerals.{unary_clauses}
use native.Mathlib.Omega.{arith}
use mir.Syntax.{w32}
use mir.Val.{to_z}
use Rattle.language.specs.declared.Statement.{Statement}
use Rattle.machine.specs.Machine.{Final, written, faulted, before, ended, after, step_from}
use Rattle.machine.specs.Ticks.{ticks}
use Rattle.machine.specs.Answer.{Ends, Answers}
use Rattle.machine.specs.declared.Answer.{Answer}
use Rattle.machine.specs.declared.Answer.TheVariants.{Ended, Fault, Spent}

module _ (P : List Statement) (vs : List ℕ) (input : ℕ) where
  -- "once ended it stays so"
  pub ended-stays : (k : ℕ) (v : Final) (m : ℕ) → after P vs input k ≡ ended v → after P vs input (k + m) ≡ ended v
  unfolding after
  ended-stays k v zero e = simp unary_clauses e
  ended-stays k v (suc m) e = simp unary_clauses (ap (step_from P input) (ended-stays k v m e))

  -- a run stands before a statement only before it has ended
  pub stands-before-end :
      (n k s : ℕ) (v : Final) (ws : List ℕ) → after P vs input n ≡ before s ws → after P vs input k ≡ ended v → n < k
  stands-before-end n k s v ws b e = go (dec_lt n k)
    where
      go : Dec (n < k) → n < k
      go (yes h) = h
      go (no h) =
          let f : k + (n - k) ≡ n = omega arith in
          let later : after P vs input n ≡ ended v = rw f at (ended-stays k v (n - k) e) in
          let z : ◌≡◌ {A = ℕ} 0 1 = cc in
          omega arith

  pub end-unique : (k j : ℕ) (v u : Final) → Ends P vs input k v → Ends P vs input j u → (k ≡ j) × (v ≡ u)
  end-unique k j v u a b =
      let x : a.steps < j = stands-before-end a.steps j a.last u a.left a.stands b.over in
      let y : b.steps < k = stands-before-end b.steps k b.last v b.left b.stands a.over in
      let same : k ≡ j = omega arith in
      let over : after P vs input j ≡ ended v = rw same at a.over in
      let e : ended v ≡ ended u = sym over ∙ b.over in
      (same, cc)

  -- within its budget a run that ended is not spent
  pub end-not-spent : (k : ℕ) (v : Final) (budget s : ℕ) (ws : List ℕ) → Ends P vs input k v → k ≤ budget → after P vs input budget ≡ before s ws → ⊥
  end-not-spent k v budget s ws a h b = omega (arith, stands-before-end budget k s v ws b a.over)

  pub answer-unique :
      (ps : List ℕ) (budget : ℕ) (a b : Answer) (ws us ks hs : List ℕ)
      → Answers ps P vs input budget a ws ks → Answers ps P vs input budget b us hs → (a ≡ b) × (ws ≡ us) × (ks ≡ hs)
  answer-unique ps budget (Ended x k t) (Ended y j u) ws us ks hs p q =
      let e = end-unique k j _ _ p.1 q.1 in
      let same : p.0 ≡ q.0 = cc in
      let value : x ≡ y = p.3 ∙ ap (to_z w32) same ∙ sym q.3 in
      let paid : t ≡ u = p.5 ∙ ap (ticks ps P vs input) e.0 ∙ sym q.5 in
      (cc (value, e.0, paid), p.4 ∙ sym q.4, cc)
  answer-unique ps budget (Ended x k t) (Fault n j u) ws us ks hs p q =
      let e : written p.0 ks ≡ faulted q.0 = (end-unique k j _ _ p.1 q.1).1 in
      absurd (let z : ◌≡◌ {A = ℕ} 0 1 = cc in omega arith)
  answer-unique ps budget (Fault n k t) (Ended y j u) ws us ks hs p q =
      let e : faulted p.0 ≡ written q.0 hs = (end-unique k j _ _ p.1 q.1).1 in
      absurd (let z : ◌≡◌ {A = ℕ} 0 1 = cc in omega arith)
  answer-unique ps budget (Fault n k t) (Fault m j u) ws us ks hs p q =
      let e = end-unique k j _ _ p.1 q.1 in
      let same : p.0 ≡ q.0 = cc in
      let f : n ≡ m = omega (arith, p.3, q.3, same) in
      let paid : t ≡ u = p.6 ∙ ap (ticks ps P vs input) e.0 ∙ sym q.6 in
      (cc (f, e.0, paid), p.4 ∙ sym q.4, p.5 ∙ sym q.5)
  answer-unique ps budget (Fault n k t) (Spent m u) ws us ks hs p q = absurd (end-not-spent k _ budget q.0 us p.1 p.2 q.2)
  answer-unique ps budget (Spent n t) (Fault m j u) ws us ks hs p q = absurd (end-not-spent j _ budget p.0 ws q.1 q.2 p.2)
  answer-unique ps budget (Ended x k t) (Spent m u) ws us ks hs p q = absurd (end-not-spent k _ budget q.0 us p.1 p.2 q.2)
  answer-unique ps budget (Spent n t) (Ended y j u) ws us ks hs p q = absurd (end-not-spent j _ budget p.0 ws q.1 q.2 p.2)
  answer-unique ps budget (Spent n t) (Spent m u) ws us ks hs p q =
      let e : before p.0 ws ≡ before q.0 us = sym p.2 ∙ q.2 in
      let s : p.0 ≡ q.0 = cc in
      let f : n ≡ m = omega (arith, p.1, q.1) in
      (ap₂ Spent f (p.4 ∙ sym q.4), cc, p.3 ∙ sym q.3)
