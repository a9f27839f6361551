-- A judge that computes: on every program, the verdict of each mark, and of each line of a list, by the uses that the list's accepted `cse`
-- lines widen. Assumes nothing.
use mathlib.Core.Path.{◌≡◌, refl, sym, subst, ap, ◌∙◌}
use mathlib.Core.List.{List, [], ◌∷◌, ◌++◌, append-nil, append_assoc}
use mathlib.Core.Bool.{Bool, true, false, ◌&&◌, ◌||◌}
use mathlib.Core.Logic.{◌⊎◌, inl, inr}
use Prim.Native.Nat.{ℕ, zero, suc, ◌≤◌, ◌<◌}
use native.Mathlib.Nat.{not-suc-le-zero, le_of_suc-le-suc}
use native.Mathlib.Omega.{arith}
use lib.Dec.{eqb, leb}
use lib.ListN.{length, get_or, take}
use borrow.Author.Tests.{eqb-true, eqb-false}
use Rattle.language.specs.declared.Operand.{Operand}
use Rattle.language.specs.declared.Operand.TheVariants.{Variable, Constant}
use Rattle.language.specs.declared.Operator.{Operator}
use Rattle.language.specs.declared.Operator.TheVariants.{Add, Subtract, Multiply, Less, Equal, Divide}
use Rattle.language.specs.declared.Expression.{Expression}
use Rattle.language.specs.declared.Expression.TheVariants.{Single, Binary}
use Rattle.language.specs.declared.Statement.{Statement}
use Rattle.language.specs.declared.Statement.TheVariants.{Read, Write, Assign, Branch, Skip}
use Rattle.program.specs.Program.{at, WellFormed}
use Rattle.base.specs.Decides.{Decides}
use Rattle.base.proofs.Decides.{decides, decides_eqb, decides-same}
use Rattle.base.proofs.Bools.{clash}
use Rattle.ctl.proofs.Least.{test}
use Rattle.truth.specs.Truth.{uses_of, SatBy}
use Rattle.marks.specs.declared.Mark.{Mark}
use Rattle.marks.specs.declared.Mark.TheVariants.{Rm, Rpl, Cse}
use Rattle.marks.specs.Marks.{names, mark_at}
use Rattle.lockstep.specs.Rules.{IsVariable, Takes, IsBinary, Fits, NotZero, Safe, Harmless, Droppable, published}
use Rattle.rewriting.specs.Verdicts.{number, Inside, Named, place, Judged, Reuses, Widened}
use Rattle.rewriting.specs.Verdicts as rewriting
use Rattle.rewriting.specs.declared.Verdict.{Verdict}
use Rattle.rewriting.specs.declared.Verdict.TheVariants.{Accepted, Missing, Repeated, Unfit, MayFault, Unmet}
use Rattle.rewriting.proofs.Accepted.{zero-accepted, accepted-zero}
use Rattle.cases.proofs.Atoms.{decides_or, decides_and, decides-leb, shows, shows-decides, DecidesUses, own_uses, own-decides, same_statement, statement-decides}
use Rattle.cases.proofs.Label.{label_by, labelled_by}

-- ---- the tests, in their order

abbrev inside : ℕ → ℕ → Bool
inside N n = leb 1 n && leb n N

inside-decides : (N n : ℕ) → Decides (inside N n) (Inside N n)
inside-decides N n = decides_and (1 ≤ n) (n ≤ N) (leb 1 n) (leb n N) (decides-leb 1 n) (decides-leb n N)

abbrev named : List Mark → ℕ → Bool
named [] n = false
named (m ∷ ms) n = eqb (names m) n || named ms n

named-decides : (ms : List Mark) (n : ℕ) → Decides (named ms n) (Named ms n)
named-decides [] n = λ h. h
named-decides (m ∷ ms) n =
    decides_or (names m ≡ n) (Named ms n) (eqb (names m) n) (named ms n) (decides_eqb (names m) n) (named-decides ms n)

abbrev is_variable : Operand → Bool
is_variable (Variable x) = true
is_variable (Constant n) = false

variable-decides : (a : Operand) → Decides (is_variable a) (IsVariable a)
variable-decides (Variable x) = tt
variable-decides (Constant n) = λ h. h

abbrev takes : Statement → Operand → Bool
takes (Read y) a = true
takes (Write y) a = is_variable a
takes (Assign y e) a = true
takes (Branch y n m) a = is_variable a
takes Skip a = true

takes-decides : (i : Statement) (a : Operand) → Decides (takes i a) (Takes i a)
takes-decides (Read y) a = tt
takes-decides (Write y) a = variable-decides a
takes-decides (Assign y e) a = tt
takes-decides (Branch y n m) a = variable-decides a
takes-decides Skip a = tt

abbrev is_binary : Expression → Bool
is_binary (Single a) = false
is_binary (Binary a o b) = true

binary-decides : (e : Expression) → Decides (is_binary e) (IsBinary e)
binary-decides (Single a) = λ h. h
binary-decides (Binary a o b) = tt

-- the variable to which a statement assigns
abbrev assigned : Statement → ℕ
assigned (Read y) = 0
assigned (Write y) = 0
assigned (Assign y e) = y
assigned (Branch y n m) = 0
assigned Skip = 0

abbrev assigns : Statement → Expression → Bool
assigns i e = same_statement i (Assign (assigned i) e)

assigns-decides : (i : Statement) (e : Expression) → Decides (assigns i e) ((z : ℕ) × (i ≡ Assign z e))
assigns-decides i e =
    decides-same (assigns i e) (λ h. (assigned i, h)) (λ h. h.1 ∙ ap (λ (y : ℕ). Assign y e) (sym (ap assigned h.1))) (statement-decides i (Assign (assigned i) e))

-- a mark fits a statement
unfoldable fits : Mark → Statement → Bool
fits (Rm n x e) i = same_statement i (Assign x e)
fits (Rpl n x a) i = shows i x && takes i a
fits (Cse n t e) i = assigns i e && is_binary e

fits-decides : (m : Mark) (i : Statement) → Decides (fits m i) (Fits m i)
unfolding fits
fits-decides (Rm n x e) i = statement-decides i (Assign x e)
fits-decides (Rpl n x a) i = decides_and _ _ (shows i x) (takes i a) (shows-decides i x) (takes-decides i a)
fits-decides (Cse n t e) i = decides_and _ _ (assigns i e) (is_binary e) (assigns-decides i e) (binary-decides e)

abbrev not_zero : Operand → Bool
not_zero (Variable x) = false
not_zero (Constant zero) = false
not_zero (Constant (suc n)) = true

not-zero-decides : (b : Operand) → Decides (not_zero b) (NotZero b)
not-zero-decides (Variable x) = λ h. h
not-zero-decides (Constant zero) = λ h. h refl
not-zero-decides (Constant (suc n)) = λ h. absurd (omega arith)

abbrev safe : Operator → Operand → Bool
safe Add b = true
safe Subtract b = true
safe Multiply b = true
safe Less b = true
safe Equal b = true
safe Divide b = not_zero b

safe-decides : (o : Operator) (b : Operand) → Decides (safe o b) (Safe o b)
safe-decides Add b = tt
safe-decides Subtract b = tt
safe-decides Multiply b = tt
safe-decides Less b = tt
safe-decides Equal b = tt
safe-decides Divide b = not-zero-decides b

abbrev harmless : Expression → Bool
harmless (Single a) = true
harmless (Binary a o b) = safe o b

harmless-decides : (e : Expression) → Decides (harmless e) (Harmless e)
harmless-decides (Single a) = tt
harmless-decides (Binary a o b) = safe-decides o b

abbrev droppable : Mark → Bool
droppable (Rm n x e) = harmless e
droppable (Rpl n x a) = true
droppable (Cse n t e) = true

droppable-decides : (m : Mark) → Decides (droppable m) (Droppable m)
droppable-decides (Rm n x e) = harmless-decides e
droppable-decides (Rpl n x a) = tt
droppable-decides (Cse n t e) = tt

-- the first test that tells against the mark names the verdict
abbrev verdict_by : Bool → Bool → Bool → Bool → Bool → Verdict
verdict_by false n f d c = Missing
verdict_by true true f d c = Repeated
verdict_by true false false d c = Unfit
verdict_by true false true false c = MayFault
verdict_by true false true true false = Unmet
verdict_by true false true true true = Accepted

judged-by : (U : ℕ → ℕ → Type 0) (P : List Statement) (earlier : List Mark) (m : Mark) (i n f d c : Bool) → Decides i (Inside (length P) (names m))
    → Decides n (Named earlier (names m)) → Decides f (Fits m (at P (place m))) → Decides d (Droppable m)
    → (Inside (length P) (names m) → Decides c (SatBy U P (published m) (place m))) → Judged U P earlier m (verdict_by i n f d c)
judged-by U P earlier m false n f d c i' n' f' d' c' = i'
judged-by U P earlier m true true f d c i' n' f' d' c' = (i', n')
judged-by U P earlier m true false false d c i' n' f' d' c' = (i', n', f')
judged-by U P earlier m true false true false c i' n' f' d' c' = (i', n', f', d')
judged-by U P earlier m true false true true false i' n' f' d' c' = (i', n', f', d', c' i')
judged-by U P earlier m true false true true true i' n' f' d' c' = (i', n', f', d', c' i')

module _ (P : List Statement) (w : WellFormed P) where
  module _ (used : ℕ → ℕ → Bool) where
    -- ---- one mark, where `used` tells which variable counts as used at which place

    unfoldable pub verdict : List Mark → Mark → Verdict
    unfolding label_by fits
    verdict earlier m =
        verdict_by (inside (length P) (names m)) (named earlier (names m)) (fits m (at P (place m))) (droppable m)
        (test (label_by P w used (published m)) (place m))

    -- ---- a list of marks

    -- the bytes of the marks ms that follow the earlier ones
    unfoldable verdicts_from : List Mark → List Mark → List ℕ
    unfolding verdict
    verdicts_from earlier [] = []
    verdicts_from earlier (m ∷ ms) = number (verdict earlier m) ∷ verdicts_from (earlier ++ m ∷ []) ms

    module _ (U : ℕ → ℕ → Type 0) (decided : DecidesUses used U) where
      -- the verdict that computes is the one that the mark gets
      pub judged-computed : (earlier : List Mark) (m : Mark) → Judged U P earlier m (verdict earlier m)
      unfolding verdict
      judged-computed earlier m =
          judged-by U P earlier m (inside (length P) (names m)) (named earlier (names m)) (fits m (at P (place m))) (droppable m)
          (test (label_by P w used (published m)) (place m)) (inside-decides (length P) (names m)) (named-decides earlier (names m))
          (fits-decides m (at P (place m))) (droppable-decides m)
          (λ i.
          let l = labelled_by P w used U decided (published m) (place m) (omega (arith, i.0, i.1)) in
          decides (test (label_by P w used (published m)) (place m)) l.0 (λ e x. clash (l.1 x) e))

      judged-from : (earlier ms : List Mark) (j : ℕ) → j < length ms
          → (v : Verdict) × Judged U P (earlier ++ take j ms) (mark_at ms j) v × (get_or (verdicts_from earlier ms) j 0 ≡ number v)
      unfolding verdicts_from
      judged-from earlier [] j l = absurd (not-suc-le-zero l)
      judged-from earlier (m ∷ ms) zero l = (
        verdict earlier m,
        subst (λ (l : List Mark). Judged U P l m (verdict earlier m)) (sym (append-nil earlier)) (judged-computed earlier m),
        refl,
      )
      judged-from earlier (m ∷ ms) (suc j) l =
          let r = judged-from (earlier ++ m ∷ []) ms j (le_of_suc-le-suc l) in
          (r.0, subst (λ (l : List Mark). Judged U P l (mark_at ms j) r.0) (append_assoc earlier (m ∷ []) (take j ms)) r.1, r.2)

  -- ---- the uses that the accepted `cse` lines widen

  -- by the program's own uses the mark gets byte 0
  unfoldable accepts : List Mark → Mark → Bool
  unfolding verdict
  accepts earlier m = eqb (number (verdict (own_uses P) earlier m)) 0

  accepts-decides : (earlier : List Mark) (m : Mark) → Decides (accepts earlier m) (Judged (uses_of P) P earlier m Accepted)
  unfolding accepts
  accepts-decides earlier m =
      let v = verdict (own_uses P) earlier m in
      let h = judged-computed (own_uses P) (uses_of P) (own-decides P) earlier m in
      decides (accepts earlier m) (λ e. zero-accepted (uses_of P) P earlier m v (eqb-true (number v) 0 e) h)
      (λ e a. eqb-false (number v) 0 e (accepted-zero (uses_of P) P earlier m v a h))

  unfoldable reuses : List Mark → Mark → ℕ → ℕ → Bool
  unfolding accepts
  reuses earlier (Rm n y e) x s = false
  reuses earlier (Rpl n y a) x s = false
  reuses earlier (Cse n t e) x s = eqb t x && (eqb (place (Cse n t e)) s && accepts earlier (Cse n t e))

  reuses-decides : (earlier : List Mark) (m : Mark) (x s : ℕ) → Decides (reuses earlier m x s) (Reuses P earlier m x s)
  unfolding reuses
  reuses-decides earlier (Rm n y e) x s = λ h. h
  reuses-decides earlier (Rpl n y a) x s = λ h. h
  reuses-decides earlier (Cse n t e) x s =
      let m = Cse n t e in
      decides-same (eqb t x && (eqb (place m) s && accepts earlier m)) (λ h. (h.0, h.1.0, h.1.1)) (λ h. (h.0, (h.1, h.2)))
      (decides_and _ _ (eqb t x) (eqb (place m) s && accepts earlier m) (decides_eqb t x)
      (decides_and _ _ (eqb (place m) s) (accepts earlier m) (decides_eqb (place m) s) (accepts-decides earlier m)))

  -- one of the marks ms that follow the earlier ones
  unfoldable reused_from : List Mark → List Mark → ℕ → ℕ → Bool
  unfolding reuses
  reused_from earlier [] x s = false
  reused_from earlier (m ∷ ms) x s = reuses earlier m x s || reused_from (earlier ++ m ∷ []) ms x s

  abbrev ReusedFrom : List Mark → List Mark → ℕ → ℕ → Type 0
  ReusedFrom earlier ms x s = (j : ℕ) × (j < length ms) × Reuses P (earlier ++ take j ms) (mark_at ms j) x s

  module _ (x s : ℕ) where
    first-or-later : (earlier : List Mark) (m : Mark) (ms : List Mark) → Reuses P earlier m x s ⊎ ReusedFrom (earlier ++ m ∷ []) ms x s → ReusedFrom earlier (m ∷ ms) x s
    first-or-later earlier m ms (inl h) = (zero, omega arith, subst (λ (l : List Mark). Reuses P l m x s) (sym (append-nil earlier)) h)
    first-or-later earlier m ms (inr (j, l, h)) =
        (suc j, omega arith, subst (λ (l : List Mark). Reuses P l (mark_at ms j) x s) (append_assoc earlier (m ∷ []) (take j ms)) h)

    later-or-first : (earlier : List Mark) (m : Mark) (ms : List Mark) → ReusedFrom earlier (m ∷ ms) x s → Reuses P earlier m x s ⊎ ReusedFrom (earlier ++ m ∷ []) ms x s
    later-or-first earlier m ms (zero, l, h) = inl (subst (λ (l : List Mark). Reuses P l m x s) (append-nil earlier) h)
    later-or-first earlier m ms (suc j, l, h) =
        inr (j, le_of_suc-le-suc l, subst (λ (l : List Mark). Reuses P l (mark_at ms j) x s) (sym (append_assoc earlier (m ∷ []) (take j ms))) h)

    reused-decides : (earlier ms : List Mark) → Decides (reused_from earlier ms x s) (ReusedFrom earlier ms x s)
    unfolding reused_from
    reused-decides earlier [] = λ h. not-suc-le-zero h.1
    reused-decides earlier (m ∷ ms) =
        decides-same (reuses earlier m x s || reused_from (earlier ++ m ∷ []) ms x s) (first-or-later earlier m ms) (later-or-first earlier m ms)
        (decides_or _ _ (reuses earlier m x s) (reused_from (earlier ++ m ∷ []) ms x s) (reuses-decides earlier m x s) (reused-decides (earlier ++ m ∷ []) ms))

  unfoldable widened : List Mark → ℕ → ℕ → Bool
  unfolding reused_from
  widened ms x s = own_uses P x s || reused_from [] ms x s

  widened-decides : (ms : List Mark) → DecidesUses (widened ms) (Widened P ms)
  unfolding widened
  widened-decides ms x s = decides_or _ _ (own_uses P x s) (reused_from [] ms x s) (own-decides P x s) (reused-decides x s [] ms)

  -- the bytes of a whole list
  unfoldable pub verdicts_of : List Mark → List ℕ
  unfolding widened verdicts_from
  verdicts_of ms = verdicts_from (widened ms) [] ms

  pub verdicts-computed : (ms : List Mark) → rewriting.Verdicts P ms (verdicts_of ms)
  unfolding verdicts_of
  verdicts-computed ms = judged-from (widened ms) (Widened P ms) (widened-decides ms) [] ms
