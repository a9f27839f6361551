-- Lines that are taken as conditions. Assumes nothing.
use mathlib.Core.Path.{◌≡◌, refl, ap, ap₂}
use mathlib.Core.List.{List, [], ◌∷◌, ◌++◌}
use Prim.Native.Nat.{ℕ, zero, suc, ◌<◌}
use native.Mathlib.Omega.{arith}
use lib.ListN.{length, get_or}
use Rattle.lines.specs.Lines.{AllValid}
use Rattle.condition.specs.Condition.{Condition, ValidCondition}
use Rattle.condition.specs.Texts as condition
use Rattle.condition_reader.specs.Reading as condition-reading
use Rattle.condition_reader.specs.declared.Refusal.{Refusal}
use Rattle.condition_reader.proofs.Unique as condition-unique
use Rattle.sharing.specs.Sharing.{part}
use Rattle.review_reader.specs.Reading.{AllTaken}

pub taken_more : (ls : List (List ℕ)) (cs : List Condition) (l : List ℕ) (c : Condition) → AllTaken ls cs → condition.Taken l c → AllTaken (ls ++ l ∷ []) (cs ++ c ∷ [])
taken_more [] [] l c a t = (t, tt)
taken_more [] (d ∷ cs) l c a t = absurd a
taken_more (m ∷ ls) [] l c a t = absurd a
taken_more (m ∷ ls) (d ∷ cs) l c a t = (a.0, taken_more ls cs l c a.1 t)

pub taken-valid : (ls : List (List ℕ)) (cs : List Condition) → AllTaken ls cs → AllValid ValidCondition cs
taken-valid [] [] a = tt
taken-valid [] (d ∷ cs) a = absurd a
taken-valid (m ∷ ls) [] a = absurd a
taken-valid (m ∷ ls) (d ∷ cs) a = (a.0.spells.valid, taken-valid ls cs a.1)

pub taken-length : (ls : List (List ℕ)) (cs : List Condition) → AllTaken ls cs → length ls ≡ length cs
taken-length [] [] a = refl
taken-length [] (d ∷ cs) a = absurd a
taken-length (m ∷ ls) [] a = absurd a
taken-length (m ∷ ls) (d ∷ cs) a = ap (λ (n : ℕ). suc n) (taken-length ls cs a.1)

pub all-unique : (ls : List (List ℕ)) (cs ds : List Condition) → AllTaken ls cs → AllTaken ls ds → cs ≡ ds
all-unique [] [] [] a b = refl
all-unique [] [] (d ∷ ds) a b = absurd b
all-unique [] (c ∷ cs) ds a b = absurd a
all-unique (m ∷ ls) [] ds a b = absurd a
all-unique (m ∷ ls) (c ∷ cs) [] a b = absurd b
all-unique (m ∷ ls) (c ∷ cs) (d ∷ ds) a b = ap₂ ◌∷◌ (condition-unique.taken-unique a.0 b.0) (all-unique ls cs ds a.1 b.1)

-- no line among them is refused
pub all-refused : (bs : List (List ℕ)) (l : List ℕ) (es : List (List ℕ)) (cs : List Condition) → AllTaken (bs ++ l ∷ es) cs → (r : Refusal) → condition-reading.Refused l r → ⊥
all-refused [] l es [] a r f = a
all-refused [] l es (c ∷ cs) a r f = condition-unique.taken_refused a.0 r f
all-refused (b ∷ bs) l es [] a r f = a
all-refused (b ∷ bs) l es (c ∷ cs) a r f = all-refused bs l es cs a.1 r f

-- line j is taken as condition j
pub taken_at : (ls : List (List ℕ)) (cs : List Condition) (j : ℕ) → j < length cs → AllTaken ls cs → condition.Taken (get_or ls j []) (part cs j)
taken_at [] [] j l a = absurd (omega arith)
taken_at [] (c ∷ cs) j l a = absurd a
taken_at (m ∷ ls) [] j l a = absurd a
taken_at (m ∷ ls) (c ∷ cs) zero l a = a.0
taken_at (m ∷ ls) (c ∷ cs) (suc j) l a = taken_at ls cs j (omega arith) a.1
