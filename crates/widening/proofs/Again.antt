-- Marks judged again line by line. Assumes nothing.
use mathlib.Core.Path.{◌≡◌, refl, sym, ◌∙◌, subst}
use mathlib.Core.Bool.{true, false}
use mathlib.Core.List.{List}
use mathlib.Core.Logic.{◌⊎◌, inl, inr, ⊎_elim}
use Prim.Native.Nat.{ℕ, ◌+◌, ◌≤◌, ◌<◌}
use native.Mathlib.Omega.{arith}
use borrow.Author.Count.{below_more}
use lib.ListN.{length, get_or, take, set}
use lib.Seq.{get_or-set_same, get_or-set_other}
use Rattle.language.specs.declared.Expression.{Expression}
use Rattle.language.specs.declared.Statement.{Statement}
use Rattle.program.specs.Program.{at}
use Rattle.base.proofs.Bools.{clash}
use Rattle.bits.specs.Row.{member}
use Rattle.truth.specs.Truth.{uses_of}
use Rattle.atoms.specs.Facts.{used_in}
use Rattle.table.specs.Known.{KnownBy}
use Rattle.table.proofs.By.{sat-by}
use Rattle.marks.specs.Reading.{Taken}
use Rattle.marks.specs.Marks.{names, mark_at}
use Rattle.marks.specs.declared.Mark.{Mark}
use Rattle.marks.specs.declared.Mark.TheVariants.{Rm, Rpl, Cse}
use Rattle.marks.proofs.Walk.{at-valid}
use Rattle.lockstep.specs.Rules.{Fits, Droppable, published}
use Rattle.published.proofs.Published.{published-taken}
use Rattle.published_rows.specs.Rows.{RowFor}
use Rattle.published_rows.specs.Memory.{Keyed}
use Rattle.rewriting.specs.Verdicts.{number, Inside, Named, place, Judged, VerdictsBy}
use Rattle.rewriting.specs.declared.Verdict.{Verdict}
use Rattle.rewriting.specs.declared.Verdict.TheVariants.{Accepted, Missing, Repeated, Unfit, MayFault, Unmet}
use Rattle.rewriting.proofs.Uses.{judged-same, rpl-judged, cse-judged}
use Rattle.verdicts.specs.Judging.{VerdictsOf}
use Rattle.widening.specs.Widening.{Open}

-- ---- one mark

-- an `rm` has a key
pub open-keyed : (m : Mark) (b : ℕ) → Open m b → Keyed m
open-keyed (Rm n x e) b o = tt
open-keyed (Rpl n x a) b o = absurd o
open-keyed (Cse n t e) b o = absurd o

module _ (U W : ℕ → ℕ → Type 0) (P : List Statement) (earlier : List Mark) where
  -- a verdict that isn't by an `rm`'s condition stays
  closed-judged : (n x : ℕ) (e : Expression) (v : Verdict) → ((number v ≡ 14) ⊎ (number v ≡ 0) → ⊥) → Judged U P earlier (Rm n x e) v → Judged W P earlier (Rm n x e) v
  closed-judged n x e Missing f h = h
  closed-judged n x e Repeated f h = h
  closed-judged n x e Unfit f h = h
  closed-judged n x e MayFault f h = h
  closed-judged n x e Unmet f h = absurd (f (inl refl))
  closed-judged n x e Accepted f h = absurd (f (inr refl))

  pub kept-judged : (m : Mark) (v : Verdict) → (Open m (number v) → ⊥) → Judged U P earlier m v → Judged W P earlier m v
  kept-judged (Rm n x e) v f h = closed-judged n x e v f h
  kept-judged (Rpl n x a) v f h = rpl-judged U W P earlier n x a v h
  kept-judged (Cse n t e) v f h = cse-judged U W P earlier n t e v h

  -- one that is has come to it
  came : (v : Verdict) (m : Mark) → (number v ≡ 14) ⊎ (number v ≡ 0) → Judged U P earlier m v
      → Inside (length P) (names m) × (Named earlier (names m) → ⊥) × Fits m (at P (place m)) × Droppable m
  came Accepted m o h = (h.0, h.1, h.2, h.3)
  came Unmet m o h = (h.0, h.1, h.2, h.3)
  came Missing m o h = absurd (⊎_elim (λ e. omega arith) (λ e. omega arith) o)
  came Repeated m o h = absurd (⊎_elim (λ e. omega arith) (λ e. omega arith) o)
  came Unfit m o h = absurd (⊎_elim (λ e. omega arith) (λ e. omega arith) o)
  came MayFault m o h = absurd (⊎_elim (λ e. omega arith) (λ e. omega arith) o)

  pub open-came : (m : Mark) (v : Verdict) → Open m (number v) → Judged U P earlier m v
      → Inside (length P) (names m) × (Named earlier (names m) → ⊥) × Fits m (at P (place m)) × Droppable m
  open-came (Rm n x e) v o h = came v (Rm n x e) o h
  open-came (Rpl n x a) v o h = absurd o
  open-came (Cse n t e) v o h = absurd o

  -- the row decides anew
  module _ (m : Mark) (v : Verdict) (o : Open m (number v)) (h : Judged U P earlier m v) (row : List ℕ) (r : RowFor W P m row) where
    low : place m < length P
    low = let i = open-came m v o h in omega (arith, i.0.0, i.0.1)

    pub again-accepted : member row (place m) ≡ true → Judged W P earlier m Accepted
    again-accepted t = let i = open-came m v o h in (i.0, i.1, i.2, i.3, (r.0.exact (place m) low).0 t)

    pub again-unmet : member row (place m) ≡ false → Judged W P earlier m Unmet
    again-unmet t = let i = open-came m v o h in (i.0, i.1, i.2, i.3, λ x. clash ((r.0.exact (place m) low).1 x) t)

-- ---- a list

pub record AgainSoFar (W : ℕ → ℕ → Type 0) (P : List Statement) (ms : List Mark) (old new : List ℕ) (j : ℕ) : Type 0 where
  pub judged : (i : ℕ) → i < j → (v : Verdict) × Judged W P (take i ms) (mark_at ms i) v × (get_or new i 0 ≡ number v)
  pub rest : (i : ℕ) → j ≤ i → get_or new i 0 ≡ get_or old i 0

pub again-none : {W : ℕ → ℕ → Type 0} {P : List Statement} {ms : List Mark} {old : List ℕ} → AgainSoFar W P ms old old 0
again-none = record { judged = λ i l. absurd (omega arith); rest = λ i l. refl }

pub again-more : {W : ℕ → ℕ → Type 0} {P : List Statement} {ms : List Mark} {old new : List ℕ} {j : ℕ} → AgainSoFar W P ms old new j → (b : ℕ)
    → (v : Verdict) × Judged W P (take j ms) (mark_at ms j) v × (b ≡ number v) → j < length new → AgainSoFar W P ms old (set new j b) (j + 1)
again-more {W = W} {P = P} {ms = ms} {new = new} {j = j} s b w h = record {
  judged = below_more (λ i. (v : Verdict) × Judged W P (take i ms) (mark_at ms i) v × (get_or (set new j b) i 0 ≡ number v)) j
      (λ i u. let q = s.judged i u in (q.0, q.1, get_or-set_other new j i b 0 (λ z. omega arith) ∙ q.2))
      (w.0, w.1, get_or-set_same new j b 0 h ∙ w.2);
  rest = λ i u. get_or-set_other new j i b 0 (λ z. omega arith) ∙ s.rest i (omega arith);
}

-- what is told of line j's mark by itself
pub again-line : {W : ℕ → ℕ → Type 0} {P : List Statement} {ms : List Mark} {old new : List ℕ} {j : ℕ} → AgainSoFar W P ms old new j → VerdictsBy (uses_of P) P ms old → j < length ms
    → (m : Mark) → m ≡ mark_at ms j → (r : ℕ)
    → ((earlier : List Mark) (v : Verdict) → Judged (uses_of P) P earlier m v → get_or new j 0 ≡ number v → (w : Verdict) × Judged W P earlier m w × (r ≡ number w))
    → (w : Verdict) × Judged W P (take j ms) (mark_at ms j) w × (r ≡ number w)
again-line {W = W} {P = P} {ms = ms} {j = j} s first l m is r f =
    let v = first j l in
    let w = f (take j ms) v.0 (subst (λ (o : Mark). Judged (uses_of P) P (take j ms) o v.0) (sym is) v.1) (s.rest j (omega arith) ∙ v.2) in
    (w.0, subst (λ (o : Mark). Judged W P (take j ms) o w.0) is w.1, w.2)

pub again-all : {W : ℕ → ℕ → Type 0} {P : List Statement} {ms : List Mark} {old new : List ℕ} {j : ℕ} → AgainSoFar W P ms old new j → j ≡ length ms → length new ≡ length old
    → VerdictsOf W P ms old new
again-all s e same = record { judged = λ i u. s.judged i (omega arith); same = same; past = λ i u. s.rest i (omega arith) }

-- ---- by whatever uses the facts are of

pub verdicts-by :
    {W : ℕ → ℕ → Type 0} {P : List Statement} {n : ℕ} {rows : List ℕ} {codes : List (List ℕ)} {flow : List ℕ} → KnownBy W P n rows codes flow
    → {t : List ℕ} {ms : List Mark} → Taken t ms → {old new : List ℕ} → VerdictsOf (used_in rows) P ms old new → VerdictsOf W P ms old new
verdicts-by {W = W} {P = P} {rows = rows} k {ms = ms} t v = record { judged = λ j l. by j l (v.judged j l); same = v.same; past = v.past }
  where
    by : {b : ℕ} (j : ℕ) → j < length ms → (v : Verdict) × Judged (used_in rows) P (take j ms) (mark_at ms j) v × (b ≡ number v)
        → (v : Verdict) × Judged W P (take j ms) (mark_at ms j) v × (b ≡ number v)
    by j l (v, h, e) =
        let m = mark_at ms j in
        let valid = (published-taken m (at-valid ms j _ t.spells.valid l)).spells.valid in
        (v, judged-same (used_in rows) W P (take j ms) m (λ i. sat-by k (published m) valid (place m) (omega (arith, i.0, i.1))) v h, e)
