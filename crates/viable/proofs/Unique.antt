-- One byte only is told of a text. Assumes nothing.
use mathlib.Core.Path.{◌≡◌, refl, ap, sym, ◌∙◌}
use mathlib.Core.Bool.{Bool, true, false}
use mathlib.Core.List.{List, ◌++◌, append_assoc}
use Prim.Native.Nat.{ℕ, ◌+◌, ◌≤◌, ◌<◌}
use native.Mathlib.Omega.{arith}
use lib.Dec.{ltb}
use lib.ListN.{take, drop, take-append-drop}
use lib.Seq.{take-take}
use borrow.Author.Tests.{ltb-true, ltb-false}
use Rattle.condition.specs.Condition.{spell_condition}
use Rattle.viable.specs.Begins.{Begins, StopsAt, ByteTold, stops, spelled}

-- what a beginning begins with is one
begins-front : (t : List ℕ) (k m : ℕ) → k ≤ m → Begins (take m t) → Begins (take k t)
begins-front t k m h b =
    let e : take m t ≡ take k t ++ drop k (take m t) = sym (take-append-drop k (take m t)) ∙ ap (λ (l : List ℕ). l ++ drop k (take m t)) (take-take k m t h) in
    record {
      condition = b.condition;
      rest = drop k (take m t) ++ b.rest;
      valid = b.valid;
      spelling = b.spelling ∙ ap (λ (l : List ℕ). l ++ b.rest) e ∙ append_assoc (take k t) (drop k (take m t)) b.rest;
    }

before : {t : List ℕ} {m n : ℕ} (a : StopsAt t m) (b : StopsAt t n) → a.read < b.read → ⊥
before {t} a b h = let w = b.within in a.stops (omega arith) (begins-front t (a.read + 1) b.read (omega arith) b.begins)

stops-unique : {t : List ℕ} {m n : ℕ} → StopsAt t m → StopsAt t n → m ≡ n
stops-unique a b = a.byte ∙ ap (λ (k : ℕ). k + 1) (go (ltb a.read b.read) refl (ltb b.read a.read) refl) ∙ sym b.byte
  where
    go : (p : Bool) → ltb a.read b.read ≡ p → (q : Bool) → ltb b.read a.read ≡ q → a.read ≡ b.read
    go true i q j = absurd (before a b (ltb-true a.read b.read i))
    go false i true j = absurd (before b a (ltb-true b.read a.read j))
    go false i false j = omega (arith, ltb-false a.read b.read i, ltb-false b.read a.read j)

pub byte-unique : {t : List ℕ} {m n : ℕ} → ByteTold t m → ByteTold t n → m ≡ n
byte-unique (stops a) (stops b) = stops-unique a b
byte-unique (stops a) (spelled c s e) = absurd (a.misspelled c s)
byte-unique (spelled c s e) (stops b) = absurd (b.misspelled c s)
byte-unique (spelled c s e) (spelled d r f) = e ∙ sym f
