-- A call of `force` has one answer, tells one thing of each statement, and leaves one table. Assumes nothing.
use mathlib.Core.Path.{◌≡◌, refl, sym, ap, ◌∙◌, subst}
use mathlib.Core.Bool.{Bool}
use mathlib.Core.List.{List, [], ◌∷◌}
use Prim.Native.Nat.{ℕ, ◌≤◌, ◌<◌}
use native.Mathlib.Decide.{dec_lt, ℕ_discrete}
use native.Mathlib.Omega.{arith}
use lib.ListN.{length, get_or}
use lib.Seq.{ext_get_or}
use Rattle.std.specs.Prelude.{Result, Ok, Err}
use Rattle.language.specs.declared.Statement.{Statement}
use Rattle.program.specs.Program.{at}
use Rattle.program.specs.declared.Refusal.TheVariants as program
use Rattle.condition_reader.specs.declared.Refusal as condition-refusal
use Rattle.condition_reader.specs.declared.Refusal.TheVariants as condition-reader
use Rattle.program.proofs.RoundTrip.{taken-unique}
use Rattle.condition.specs.Condition.{Condition}
use Rattle.truth.specs.Truth.{Sat}
use Rattle.condition_reader.proofs.Unique as condition-unique
use Rattle.calls.specs.Refusals.{number_of as call_number}
use Rattle.calls.specs.declared.Refusal.{Refusal}
use Rattle.calls.specs.declared.Refusal.TheVariants.{Room, Program, Text}
use Rattle.calls.proofs.Unique.{refuses-unique, refuses-not}
use Rattle.tabulate.specs.Tabulate.{table_words}
use Rattle.tabulate.specs.declared.Filled as tabulate
use Rattle.tabulate.proofs.Unique.{Words, tabulate-unique}
use Rattle.forcing.specs.Numbers.{none, number_of, Told}
use Rattle.driver_reader.specs.Names.{among}
use Rattle.driver_reader.proofs.Unique.{named-unique}
use Rattle.arms.specs.Arms.{his, arm_at}
use Rattle.arms.specs.Forced.{Forced}
use Rattle.force.specs.Force.{number, TextRefused, ForceRefused, Beside, Beyond, ForceFilled, ForceAnswers}
use Rattle.force.specs.declared.TextRefusal.{TextRefusal}
use Rattle.force.specs.declared.TextRefusal.TheVariants as text

-- a place has one number
number-unique : {n : ℕ} {step : ℕ → ℕ → Bool} {mine : ℕ → Bool} {X : ℕ → Type 0} (xs ys : List ℕ) (s : ℕ) → Told n step mine X xs s → Told n step mine X ys s → number_of xs s ≡ number_of ys s
number-unique xs ys s a b = go (ℕ_discrete (number_of xs s) none) (ℕ_discrete (number_of ys s) none)
  where
    go : Dec (number_of xs s ≡ none) → Dec (number_of ys s ≡ none) → number_of xs s ≡ number_of ys s
    go (yes e) (yes f) = e ∙ sym f
    go (yes e) (no f) = absurd (a.never e (number_of ys s) (b.enough f))
    go (no e) (yes f) = absurd (b.never f (number_of xs s) (a.enough e))
    go (no e) (no f) = omega (arith, a.least (number_of ys s) (b.enough f), b.least (number_of xs s) (a.enough e))

-- two that tell the numbers and arms of the first n statements alike, and keep the entries past them
module _ {before o q : Beside} {n : ℕ} (a : Beyond n before o) (b : Beyond n before q) where
  numbers-same : ((s : ℕ) → s < n → get_or o.numbers s 0 ≡ get_or q.numbers s 0) → o.numbers ≡ q.numbers
  numbers-same f = ext_get_or 0 o.numbers q.numbers (a.sizes.0 ∙ sym b.sizes.0) (λ s _. go s (dec_lt s n))
    where
      go : (s : ℕ) → Dec (s < n) → get_or o.numbers s 0 ≡ get_or q.numbers s 0
      go s (yes l) = f s l
      go s (no l) = (a.kept s (omega arith)).0 ∙ sym (b.kept s (omega arith)).0

  arms_same : ((s : ℕ) → s < n → get_or o.arms s 0 ≡ get_or q.arms s 0) → o.arms ≡ q.arms
  arms_same f = ext_get_or 0 o.arms q.arms (a.sizes.1 ∙ sym b.sizes.1) (λ s _. go s (dec_lt s n))
    where
      go : (s : ℕ) → Dec (s < n) → get_or o.arms s 0 ≡ get_or q.arms s 0
      go s (yes l) = f s l
      go s (no l) = (a.kept s (omega arith)).1 ∙ sym (b.kept s (omega arith)).1

-- the refusal that has a number
abbrev by_number : ℕ → Refusal TextRefusal
by_number n = get_or (Room ∷ Room ∷ Program program.Misspelled ∷ Program program.LineCount ∷ Program program.Placement ∷ Program program.Target
    ∷ Text (text.Condition condition-reader.Length) ∷ Text (text.Condition condition-reader.Misspelled) ∷ Text (text.Condition condition-reader.PartCount) ∷ []) n (Text text.Driver)

by_its_number : (r : Refusal TextRefusal) → by_number (call_number number r) ≡ r
by_its_number Room = refl
by_its_number (Program program.Misspelled) = refl
by_its_number (Program program.LineCount) = refl
by_its_number (Program program.Placement) = refl
by_its_number (Program program.Target) = refl
by_its_number (Text text.Driver) = refl
by_its_number (Text (text.Condition condition-reader.Length)) = refl
by_its_number (Text (text.Condition condition-reader.Misspelled)) = refl
by_its_number (Text (text.Condition condition-reader.PartCount)) = refl

beside_same : (xs ys vs ws : List ℕ) → xs ≡ ys → vs ≡ ws → ◌≡◌ {A = Beside} (record { numbers = xs; arms = vs }) (record { numbers = ys; arms = ws })
beside_same xs ys vs ws e f = rw (e, f)

forced-unique : {P : List Statement} {mine : ℕ → Bool} {X : ℕ → Type 0} {before : Beside} (o q : Beside) → Forced P mine X o.numbers o.arms → Forced P mine X q.numbers q.arms → Beyond (length P) before o → Beyond (length P) before q → o ≡ q
forced-unique {P = P} {mine = mine} o q x y a b =
    let e = numbers-same a b (λ s l. number-unique o.numbers q.numbers s (x.told s l) (y.told s l)) in
    let f = arms_same a b (λ s l. x.chosen s l ∙ ap (λ (xs : List ℕ). arm_at (at P s) (mine s) xs s) e ∙ sym (y.chosen s l)) in
    beside_same o.numbers q.numbers o.arms q.arms e f

-- the counts of a table stand in the answer of `force` too
abbrev told : Result tabulate.Filled (Refusal condition-refusal.Refusal) → Result tabulate.Filled (Refusal TextRefusal)
told (Ok f) = Ok f
told (Err r) = Err Room

-- what is told of the program P, the condition c and the variables vs
abbrev Of : Beside → Beside → List Statement → Condition → List ℕ → Type 0
Of before o P c vs = Forced P (his P (among vs)) (Sat P c) o.numbers o.arms × Beyond (length P) before o

module _ (t d u old : List ℕ) (before : Beside) where
  table-apart : length old < table_words → table_words ≤ length old → ⊥
  table-apart s e = omega arith

  text-unique : (r s : TextRefusal) → TextRefused d u r → TextRefused d u s → r ≡ s
  text-unique text.Driver text.Driver a b = refl
  text-unique text.Driver (text.Condition s) a b = absurd (a b.0.0 b.0.1)
  text-unique (text.Condition r) text.Driver a b = absurd (b a.0.0 a.0.1)
  text-unique (text.Condition r) (text.Condition s) a b = ap text.Condition (condition-unique.refused-unique u r s a.1 b.1)

  force-refused : (n m : ℕ) → ForceRefused t d u old n → ForceRefused t d u old m → n ≡ m
  force-refused = refuses-unique table-apart t (TextRefused d u) number text-unique

  module _ {m n k : ℕ} {new : List ℕ} {o : Beside} (f : ForceFilled t d u old new m n k before o) where
    text-taken : (r : TextRefusal) → TextRefused d u r → ⊥
    text-taken text.Driver a = a f.vs f.named
    text-taken (text.Condition r) a = condition-unique.taken_refused f.table.condition r a.1

    force-not : (i : ℕ) → ForceRefused t d u old i → ⊥
    force-not i r = refuses-not table-apart t (TextRefused d u) number i r f.table.room f.table.program text-taken

    force-filled : {i j l : ℕ} {other : List ℕ} {q : Beside} → ForceFilled t d u old other i j l before q → Words new → Words other → (◌≡◌ {A = Result tabulate.Filled (Refusal TextRefusal)} (Ok (record { parts = m; satisfied = n; first = k })) (Ok (record { parts = i; satisfied = j; first = l }))) × (new ≡ other) × (o ≡ q)
    force-filled {i = i} {j = j} {l = l} {other = other} {q = q} g w v =
        let same = tabulate-unique t u old (Ok (record { parts = m; satisfied = n; first = k })) (Ok (record { parts = i; satisfied = j; first = l })) new other w v f.table g.table in
        let ep = taken-unique g.table.program f.table.program in
        let ec = condition-unique.taken-unique g.table.condition f.table.condition in
        let ev = named-unique g.named f.named in
        let x : Of before q f.table.P f.table.c f.vs =
        subst (λ (vs : List ℕ). Of before q f.table.P f.table.c vs) ev
        (subst (λ (c : Condition). Of before q f.table.P c g.vs) ec (subst (λ (P : List Statement). Of before q P g.table.c g.vs) ep (g.forced, g.beyond))) in
        (ap told same.0, same.1, forced-unique o q f.forced x.0 f.beyond x.1)

  -- a call of `force` has one answer, tells one thing of each statement, and leaves one table
  pub force-unique : (a b : Result tabulate.Filled (Refusal TextRefusal)) (new other : List ℕ) (o q : Beside) → Words new → Words other
      → ForceAnswers t d u old new a before o → ForceAnswers t d u old other b before q → (a ≡ b) × (new ≡ other) × (o ≡ q)
  force-unique (Err r) (Err s) new other o q w v x y =
      let same = force-refused (call_number number r) (call_number number s) x.0 y.0 in
      (ap Err (sym (by_its_number r) ∙ ap by_number same ∙ by_its_number s), x.1 ∙ sym y.1, x.2 ∙ sym y.2)
  force-unique (Err r) (Ok g) new other o q w v x y = absurd (force-not y (call_number number r) x.0)
  force-unique (Ok f) (Err s) new other o q w v x y = absurd (force-not x (call_number number s) y.0)
  force-unique (Ok f) (Ok g) new other o q w v x y = force-filled x y w v
