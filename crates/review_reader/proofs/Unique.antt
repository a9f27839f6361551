-- A text is taken as one list of conditions only, gets one refusal only, and none where it is taken. Assumes nothing.
use mathlib.Core.Path.{◌≡◌, refl, sym, ap, ◌∙◌, subst}
use mathlib.Core.List.{List, [], ◌∷◌, ◌++◌}
use mathlib.Core.Logic.{⊎_elim}
use Prim.Native.Nat.{ℕ}
use native.Mathlib.Omega.{arith}
use lib.ListN.{length}
use Rattle.condition.specs.Condition.{Condition}
use Rattle.condition_reader.specs.Reading as condition-reading
use Rattle.condition_reader.specs.declared.Refusal as condition-refusal
use Rattle.condition_reader.specs.declared.Refusal.TheVariants.{Length, Misspelled, PartCount}
use Rattle.condition_reader.proofs.Unique as condition-unique
use Rattle.sharing.specs.Sharing.{firsts, parts_of}
use Rattle.review_reader.specs.Reading.{AllTaken, RestRefused, FirstFaulty, line, last, count_of_lines, Spelled, Refused, Taken}
use Rattle.review_reader.specs.declared.Refusal.{Refusal}
use Rattle.review_reader.specs.declared.Refusal.TheVariants.{LineCount, Line, TableCount}
use Rattle.review_reader.proofs.Splits.{split-unique}
use Rattle.review_reader.proofs.Taken.{all-unique, all-refused}

pub spelled-unique : {u : List ℕ} {cs ds : List Condition} → Spelled u cs → Spelled u ds → cs ≡ ds
spelled-unique {cs = cs} {ds = ds} a b =
    all-unique b.ls cs ds (subst (λ (ls : List (List ℕ)). AllTaken ls cs) (split-unique a.split b.split).0 a.taken) b.taken

-- the first faulty line is one line
rest-unique : (rest : List ℕ) (r s : condition-refusal.Refusal) → RestRefused rest r → RestRefused rest s → r ≡ s
rest-unique rest Length Length a b = refl
rest-unique rest Length Misspelled a b = absurd (omega arith)
rest-unique rest Misspelled Length a b = absurd (omega arith)
rest-unique rest Misspelled Misspelled a b = refl
rest-unique rest PartCount s a b = absurd a
rest-unique rest Length PartCount a b = absurd b
rest-unique rest Misspelled PartCount a b = absurd b

first-unique : (bs ds : List (List ℕ)) (l m : List ℕ) (es fs : List (List ℕ)) (cs gs : List Condition) (r s : condition-refusal.Refusal)
    → bs ++ l ∷ es ≡ ds ++ m ∷ fs → AllTaken bs cs → AllTaken ds gs → condition-reading.Refused l r → condition-reading.Refused m s → r ≡ s
first-unique [] [] l m es fs cs gs r s e a b f g = let h : l ≡ m = cc in condition-unique.refused-unique m r s (subst (λ (x : List ℕ). condition-reading.Refused x r) h f) g
first-unique [] (d ∷ ds) l m es fs cs [] r s e a b f g = absurd b
first-unique [] (d ∷ ds) l m es fs cs (c ∷ gs) r s e a b f g =
    let h : l ≡ d = cc in
    absurd (condition-unique.taken_refused b.0 r (subst (λ (x : List ℕ). condition-reading.Refused x r) h f))
first-unique (d ∷ bs) [] l m es fs [] gs r s e a b f g = absurd a
first-unique (d ∷ bs) [] l m es fs (c ∷ cs) gs r s e a b f g =
    let h : m ≡ d = cc in
    absurd (condition-unique.taken_refused a.0 s (subst (λ (x : List ℕ). condition-reading.Refused x s) h g))
first-unique (d ∷ bs) (x ∷ ds) l m es fs [] gs r s e a b f g = absurd a
first-unique (d ∷ bs) (x ∷ ds) l m es fs (c ∷ cs) [] r s e a b f g = absurd b
first-unique (d ∷ bs) (x ∷ ds) l m es fs (c ∷ cs) (y ∷ gs) r s e a b f g = let h : bs ++ l ∷ es ≡ ds ++ m ∷ fs = cc in first-unique bs ds l m es fs cs gs r s h a.1 b.1 f g

module _ {ls : List (List ℕ)} {rest : List ℕ} where
  -- of lines that are all taken, only what follows them is faulty
  pub faulty-rest : {r : condition-refusal.Refusal} → FirstFaulty ls rest r → (cs : List Condition) → AllTaken ls cs → RestRefused rest r
  faulty-rest {r} (line bs l es ds e b f) cs a = absurd (all-refused bs l es cs (subst (λ (x : List (List ℕ)). AllTaken x cs) e a) r f)
  faulty-rest (last ds b f) cs a = f

  pub faulty-unique : {r s : condition-refusal.Refusal} → FirstFaulty ls rest r → FirstFaulty ls rest s → r ≡ s
  faulty-unique {r} {s} (line bs l es cs e a f) (line ds m fs gs h b g) = first-unique bs ds l m es fs cs gs r s (sym e ∙ h) a b f g
  faulty-unique {r} {s} (line bs l es cs e a f) (last gs b g) = rest-unique rest r s (faulty-rest {r = r} (line bs l es cs e a f) gs b) g
  faulty-unique {r} {s} (last cs a f) (line ds m fs gs h b g) = rest-unique rest r s f (faulty-rest {r = s} (line ds m fs gs h b g) cs a)
  faulty-unique {r} {s} (last cs a f) (last gs b g) = rest-unique rest r s f g

no-rest : (r : condition-refusal.Refusal) → RestRefused [] r → ⊥
no-rest Length f = omega arith
no-rest Misspelled f = omega arith
no-rest PartCount f = f

module _ {u : List ℕ} {cs : List Condition} (s : Spelled u cs) where
  spelled_count : Refused u LineCount → ⊥
  spelled_count (ls, rest, p, f) =
      let e = split-unique p s.split in
      let n : count_of_lines ls rest ≡ length s.ls = rw (e.0, e.1) in
      ⊎_elim (λ z. omega (arith, s.countable)) (λ z. omega (arith, s.countable)) f

  spelled-line : (r : condition-refusal.Refusal) → Refused u (Line r) → ⊥
  spelled-line r (ls, rest, p, k, f) = let e = split-unique p s.split in no-rest r (faulty-rest (rw (e.0, e.1) at f) cs s.taken)

counts-apart : (u : List ℕ) (r : condition-refusal.Refusal) → Refused u LineCount → Refused u (Line r) → ⊥
counts-apart u r (ls, rest, p, f) (ms, left, q, k, g) =
    let e = split-unique p q in
    let n : count_of_lines ls rest ≡ count_of_lines ms left = rw (e.0, e.1) in
    ⊎_elim (λ z. omega arith) (λ z. omega arith) f

pub refused-unique : (u : List ℕ) (r s : Refusal) → Refused u r → Refused u s → r ≡ s
refused-unique u LineCount LineCount a b = refl
refused-unique u LineCount (Line s) a b = absurd (counts-apart u s a b)
refused-unique u LineCount TableCount a b = absurd (spelled_count b.1 a)
refused-unique u (Line r) LineCount a b = absurd (counts-apart u r b a)
refused-unique u (Line r) (Line s) (ls, rest, p, k, f) (ms, left, q, l, g) = let e = split-unique p q in ap Line (faulty-unique (rw (e.0, e.1) at f) g)
refused-unique u (Line r) TableCount a b = absurd (spelled-line b.1 r a)
refused-unique u TableCount LineCount a b = absurd (spelled_count a.1 b)
refused-unique u TableCount (Line s) a b = absurd (spelled-line a.1 s b)
refused-unique u TableCount TableCount a b = refl

pub taken_refused : {u : List ℕ} {cs : List Condition} → Taken u cs → (r : Refusal) → Refused u r → ⊥
taken_refused t LineCount f = spelled_count t.spelled f
taken_refused t (Line r) f = spelled-line t.spelled r f
taken_refused t TableCount f = omega (arith, t.few, ap (λ (ds : List Condition). length (firsts (parts_of ds))) (spelled-unique t.spelled f.1))
