-- Marks judged line by line: what is known after j lines. Assumes nothing.
use mathlib.Core.Path.{◌≡◌, refl, sym, ◌∙◌}
use mathlib.Core.Bool.{Bool, true, false, ◌||◌}
use mathlib.Core.List.{List, [], ◌∷◌, ◌++◌}
use mathlib.Core.Logic.{inl, inr, ⊎_elim, ◌↔◌}
use Prim.Native.Nat.{ℕ, ◌+◌, ◌≤◌, ◌<◌}
use native.Mathlib.Numerals.{add-one}
use native.Mathlib.Omega.{arith}
use borrow.Author.Count.{below_more}
use borrow.Author.Tests.{eqb-true, eq-eqb}
use lib.Dec.{eqb}
use lib.ListN.{length, get_or, take, set}
use lib.Seq.{take-suc, get_or-set_same, get_or-set_other}
use Rattle.language.specs.declared.Statement.{Statement}
use Rattle.bits.specs.Row.{member}
use Rattle.truth.specs.Truth.{uses_of}
use Rattle.base.specs.Decides.{Decides}
use Rattle.base.proofs.Decides.{decided-false}
use Rattle.base.proofs.Bools.{clash, or_case, or_left, or_right}
use Rattle.rewriting.proofs.Accepted.{accepted-zero}
use Rattle.marks.specs.Marks.{names, Spells, mark_at}
use Rattle.marks.specs.Reading.{MarkLineRead}
use Rattle.marks.specs.Reading as marks
use Rattle.marks.specs.declared.Mark.{Mark}
use Rattle.marks.specs.declared.Mark.TheVariants.{Rm, Rpl, Cse}
use Rattle.std.specs.Prelude.{Option, Some, None}
use Rattle.marks.proofs.Walk.{Begins, begins-first, line-mark, line-next, line-inside, line-found, text-line, text-done}
use Rattle.rewriting.specs.Verdicts.{number, Inside, Named, place, Judged, Reuses, Stands}
use Rattle.rewriting.specs.declared.Verdict.{Verdict}
use Rattle.rewriting.specs.declared.Verdict.TheVariants.{Accepted, Missing, Repeated, Unfit, MayFault, Unmet}
use Rattle.verdicts.specs.Judging.{NamedIn, Notes, Reusing, Reused, VerdictsOf}

-- the last of the marks names n, or one before
named-last : (ms : List Mark) (m : Mark) (n : ℕ) → Named (ms ++ m ∷ []) n ↔ Named (m ∷ ms) n
named-last [] m n = (λ h. h, λ h. h)
named-last (o ∷ ms) m n = (
  λ h. ⊎_elim (λ e. inr (inl e)) (λ k. ⊎_elim inl (λ i. inr (inr i)) ((named-last ms m n).0 k)) h,
  λ h. ⊎_elim (λ e. inr ((named-last ms m n).1 (inl e))) (λ k. ⊎_elim inl (λ i. inr ((named-last ms m n).1 (inr i))) k) h,
)

-- no line names a statement yet
pub named_none : {N : ℕ} {row : List ℕ} → ((s : ℕ) → member row s ≡ false) → NamedIn N row []
named_none f = record { exact = λ s l. (λ e. clash e (f s), λ h. absurd h) }

-- the row with one more place
pub named_more : (row new : List ℕ) (m : Mark) (N : ℕ) → 1 ≤ names m → ((s : ℕ) → member new s ≡ (member row s || eqb (place m) s)) → Notes N m row new
named_more row new m N low f earlier g = record { exact = λ s l. (there s l, back s l) }
  where
    there : (s : ℕ) → s < N → member new s ≡ true → Named (m ∷ earlier) (s + 1)
    there s l e =
        ⊎_elim (λ a. inr ((g.exact s l).0 a)) (λ a. let q = eqb-true (place m) s a in inl (omega arith))
        (or_case (member row s) (eqb (place m) s) (sym (f s) ∙ e))

    back : (s : ℕ) → s < N → Named (m ∷ earlier) (s + 1) → member new s ≡ true
    back s l h =
        f s ∙ ⊎_elim (λ a. or_right (member row s) (eqb (place m) s) (eq-eqb (place m) s (omega arith))) (λ a. or_left (member row s) (eqb (place m) s) ((g.exact s l).1 a)) h

-- the row as it was, where the mark names none of the N statements
pub named-same : (row : List ℕ) (m : Mark) (N : ℕ) → (Inside N (names m) → ⊥) → Notes N m row row
named-same row m N f earlier g = record { exact = λ s l. (λ e. inr ((g.exact s l).0 e), λ h. ⊎_elim (λ e. absurd (f (omega arith, omega arith))) (g.exact s l).1 h) }

-- each verdict but `Missing` is that of a mark whose statement the program has
judged-stands : (P : List Statement) (earlier : List Mark) (m : Mark) (v : Verdict) → Judged (uses_of P) P earlier m v → Stands v ↔ Inside (length P) (names m)
judged-stands P earlier m Accepted j = (λ _. j.0, λ _. tt)
judged-stands P earlier m Missing j = (λ h. absurd h, j)
judged-stands P earlier m Repeated j = (λ _. j.0, λ _. tt)
judged-stands P earlier m Unfit j = (λ _. j.0, λ _. tt)
judged-stands P earlier m MayFault j = (λ _. j.0, λ _. tt)
judged-stands P earlier m Unmet j = (λ _. j.0, λ _. tt)

pub record JudgedSoFar (P : List Statement) (t : List ℕ) (ms : List Mark) (old new row : List ℕ) (reused : Bool) (j at : ℕ) : Type 0 where
  pub begins : Begins t ms j at
  pub named : NamedIn (length P) row (take j ms)
  pub judged : (i : ℕ) → i < j → (v : Verdict) × Judged (uses_of P) P (take i ms) (mark_at ms i) v × (get_or new i 0 ≡ number v)
  pub past : (i : ℕ) → j ≤ i → get_or new i 0 ≡ get_or old i 0
  pub none : reused ≡ false → (i : ℕ) → i < j → (x s : ℕ) → Reuses P (take i ms) (mark_at ms i) x s → ⊥

pub judged-none : {P : List Statement} {t : List ℕ} {ms : List Mark} {old : List ℕ} (row : List ℕ) → Spells t ms → ((s : ℕ) → member row s ≡ false)
    → JudgedSoFar P t ms old old row false 0 0
judged-none row s f = record {
  begins = begins-first s;
  named = named_none f;
  judged = λ i l. absurd (omega arith);
  past = λ i l. refl;
  none = λ e i l. absurd (omega arith);
}

or-false-left : (a b : Bool) → (a || b) ≡ false → a ≡ false
or-false-left true b e = clash refl e
or-false-left false b e = refl

or-false-right : (a b : Bool) → (a || b) ≡ false → b ≡ false
or-false-right true b e = clash refl e
or-false-right false b e = e

-- an accepted `cse` has the verdict byte 0, and no other mark adds a use
not-reusing : (P : List Statement) (earlier : List Mark) (m : Mark) (v : Verdict) (b : ℕ) → b ≡ number v → Judged (uses_of P) P earlier m v → (Reusing m b → ⊥)
    → (x s : ℕ) → Reuses P earlier m x s → ⊥
not-reusing P earlier (Rm n y e) v b is h f x s r = r
not-reusing P earlier (Rpl n y a) v b is h f x s r = r
not-reusing P earlier (Cse n t e) v b is h f x s r = f (is ∙ accepted-zero (uses_of P) P earlier (Cse n t e) v r.2 h)

-- no line is found misspelled in a list that is taken, and each is one of at most `marks.most`
pub never-misspelled : {t : List ℕ} {ms : List Mark} {j at : ℕ} → Begins t ms j at → at < length t → {r : Option (Mark × ℕ)} → r ≡ None → MarkLineRead t at r → ⊥
never-misspelled b h is l = line-found b is l (text-line b h)

pub line-below : {t : List ℕ} {ms : List Mark} {j at : ℕ} → Begins t ms j at → marks.Taken t ms → {r : Option (Mark × ℕ)} {m : Mark} {k : ℕ}
    → r ≡ Some (m, k) → MarkLineRead t at r → j < marks.most
line-below b t is l = let h = line-inside b is l in let f = t.few in omega arith

module _ {P : List Statement} {t : List ℕ} {ms : List Mark} {old new row : List ℕ} {reused : Bool} {j at : ℕ} (s : JudgedSoFar P t ms old new row reused j at) where
  module _ {r : Option (Mark × ℕ)} {m : Mark} {k : ℕ} (is : r ≡ Some (m, k)) (l : MarkLineRead t at r) where
    mark-is : m ≡ mark_at ms j
    mark-is = line-mark s.begins is l _

    next-take : take (j + 1) ms ≡ take j ms ++ m ∷ []
    next-take = rw (add-one, mark-is) (take-suc ms j _ (line-inside s.begins is l))

    pub judged-more : (v : Verdict) (b : ℕ) → b ≡ number v → ((earlier : List Mark) → NamedIn (length P) row earlier → Judged (uses_of P) P earlier m v) → {row' : List ℕ}
        → (Stands v ↔ Inside (length P) (names m) → Notes (length P) m row row') → (r : Bool) → Decides r (Reusing m b) → j < length new
        → JudgedSoFar P t ms old (set new j b) row' (reused || r) (j + 1) k
    judged-more v b e f g r d h =
        let here = f (take j ms) s.named in
        let noted = g (judged-stands P (take j ms) m v here) (take j ms) s.named in
        record {
          begins = line-next s.begins is l;
          named = record {
            exact = λ i u.
                let last = named-last (take j ms) m (i + 1) in
                (λ a. rw next-take (last.1 ((noted.exact i u).0 a)), λ a. (noted.exact i u).1 (last.0 (rw next-take at a)));
          };
          judged = below_more (λ i. (w : Verdict) × Judged (uses_of P) P (take i ms) (mark_at ms i) w × (get_or (set new j b) i 0 ≡ number w)) j
              (λ i u. let q = s.judged i u in (q.0, q.1, get_or-set_other new j i b 0 (λ z. omega arith) ∙ q.2))
              (v, rw mark-is at here, get_or-set_same new j b 0 h ∙ e);
          past = λ i u. get_or-set_other new j i b 0 (λ z. omega arith) ∙ s.past i (omega arith);
          none = λ z. below_more (λ i. (x p : ℕ) → Reuses P (take i ms) (mark_at ms i) x p → ⊥) j (s.none (or-false-left reused r z))
              (rw mark-is at (not-reusing P (take j ms) m v b e here (decided-false r (or-false-right reused r z) d)));
        }

  pub judged-all : length t ≤ at → length new ≡ length old → VerdictsOf (uses_of P) P ms old new × Reused P ms reused
  judged-all h e =
      let n = text-done s.begins h in (
        record { judged = λ i u. s.judged i (omega arith); same = e; past = λ i u. s.past i (omega arith) },
        λ z x p. ⊎_elim (λ u. u) (λ r. absurd (s.none z r.0 (omega (arith, n, r.1)) x p r.2)),
      )
