-- Reading undoes spelling, and the other way round: operators. Assumes nothing.
use mathlib.Core.Path.{◌≡◌, refl}
use mathlib.Core.List.{List, [], ◌∷◌, ◌++◌}
use Prim.Native.Nat.{ℕ}
use native.Mathlib.Omega.{arith}
use lib.Dec.{eqb}
use lib.ListN.{get_or}
use borrow.Author.Tests.{eqb-true}
use Rattle.base.specs.Bytes.{bytes, byte}
use Rattle.tokens.specs.Parsing.{found, misspelled, parse_word}
use Rattle.tokens.proofs.Parse.{after-inv, skip-sound}
use Rattle.ctl.specs.Paths.{Quant, E, A, forward, backward}
use Rattle.condition.specs.Condition.{next, finally, globally, until, weak, Unary, negation, Binary, conjunction, disjunction, quant_letter, prefix, opening, middle, closing}
use Rattle.atom_reader.specs.Parsing.{parse_ended}
use Rattle.atom_reader.proofs.Spelling.{pick_inv, ended-sound}
use Rattle.operator_reader.specs.declared.Bracket.{Bracket}
use Rattle.operator_reader.specs.declared.Bracket.TheVariants.{Round, Some, All}
use Rattle.operator_reader.specs.Parsing.{by_letter, parse_letter, unaries, parse_prefix, opened, opening_of, closing_of, parse_opening, parse_middle}

-- what holds of each operator of a list
abbrev Each : {O : Type 0} → (O → Type 0) → List O → Type 0
Each P [] = Unit
Each P (o ∷ os) = P o × Each P os

letter-sound : {O : Type 0} (w : O → List ℕ) (P : O → Type 0) (os : List O) → Each P os → (l : List ℕ) (o : O) (u : List ℕ) → parse_letter w os l ≡ found o u
    → P o × (l ≡ get_or (w o) 1 0 ∷ byte " " ∷ u)
unfolding parse_letter by_letter
letter-sound w P os h [] o u e = let z : ◌≡◌ {A = ℕ} 0 1 = cc in absurd (omega arith)
letter-sound w P os h (c ∷ l) o u e = go os h e
  where
    go : (os : List _) → Each P os → by_letter w os c l ≡ found o u → P o × (c ∷ l ≡ get_or (w o) 1 0 ∷ byte " " ∷ u)
    go [] h e = let z : ◌≡◌ {A = ℕ} 0 1 = cc in absurd (omega arith)
    go (p ∷ os) h e =
        pick_inv (eqb c (get_or (w p) 1 0)) _ _ e
        (λ t f. let i = ended-sound (bytes " ") p l f in rw (← i.0) (h.0, rw (eqb-true c _ t, i.1)))
        (go os h.1)

-- the words of the unary operators with a path
abbrev PathPrefix : Quant → Unary → Type 0
PathPrefix k o = prefix o ≡ quant_letter k ∷ get_or (prefix o) 1 0 ∷ bytes " "

pub prefix-sound : (l : List ℕ) (o : Unary) (u : List ℕ) → parse_prefix l ≡ found o u → l ≡ prefix o ++ u
unfolding parse_prefix
prefix-sound [] o u e = let z : ◌≡◌ {A = ℕ} 0 1 = cc in absurd (omega arith)
prefix-sound (c ∷ l) o u e =
    pick_inv (eqb c (byte "!")) _ _ e (λ t f. let p : negation ≡ o = cc in let q : l ≡ u = cc in rw (← p, ← q, eqb-true c (byte "!") t)) λ e₁.
    pick_inv (eqb c (byte "E")) _ _ e₁ (λ t f. by E (refl, (refl, (refl, (refl, (refl, (refl, tt)))))) (eqb-true c (byte "E") t) f) λ e₂.
    pick_inv (eqb c (byte "A")) _ misspelled e₂ (λ t f. by A (refl, (refl, (refl, (refl, (refl, (refl, tt)))))) (eqb-true c (byte "A") t) f) λ f. let z : ◌≡◌ {A = ℕ} 0 1 = cc in absurd (omega arith)
  where
    by : (k : Quant) → Each (PathPrefix k) (unaries k) → c ≡ quant_letter k → parse_letter prefix (unaries k) l ≡ found o u → c ∷ l ≡ prefix o ++ u
    by k h t f = let i = letter-sound prefix (PathPrefix k) (unaries k) h l o u f in rw (i.0, t, i.1)

pub prefix-complete : (o : Unary) (u : List ℕ) → parse_prefix (prefix o ++ u) ≡ found o u
unfolding parse_prefix parse_letter by_letter parse_ended parse_word
prefix-complete negation u = refl
prefix-complete (Unary.path E forward next) u = refl
prefix-complete (Unary.path E forward finally) u = refl
prefix-complete (Unary.path E forward globally) u = refl
prefix-complete (Unary.path E backward next) u = refl
prefix-complete (Unary.path E backward finally) u = refl
prefix-complete (Unary.path E backward globally) u = refl
prefix-complete (Unary.path A forward next) u = refl
prefix-complete (Unary.path A forward finally) u = refl
prefix-complete (Unary.path A forward globally) u = refl
prefix-complete (Unary.path A backward next) u = refl
prefix-complete (Unary.path A backward finally) u = refl
prefix-complete (Unary.path A backward globally) u = refl

-- o is one of the operators that the bracket b opens, and is spelled with it
pub record Opened (b : Bracket) (o : Binary) : Type 0 where
  pub opens : opening o ≡ opening_of b
  pub joins : middle o ≡ byte " " ∷ get_or (middle o) 1 0 ∷ bytes " "
  pub closes : closing o ≡ closing_of b

abbrev pub bracket_of : Binary → Bracket
bracket_of conjunction = Round
bracket_of disjunction = Round
bracket_of (Binary.path E d o) = Some
bracket_of (Binary.path A d o) = All

pub opened-by : (o : Binary) → Opened (bracket_of o) o
opened-by conjunction = record { opens = refl; joins = refl; closes = refl }
opened-by disjunction = record { opens = refl; joins = refl; closes = refl }
opened-by (Binary.path E d o) = record { opens = refl; joins = refl; closes = refl }
opened-by (Binary.path A d o) = record { opens = refl; joins = refl; closes = refl }

all-opened : (b : Bracket) → Each (Opened b) (opened b)
all-opened Round = (opened-by conjunction, (opened-by disjunction, tt))
all-opened Some = (opened-by _, (opened-by _, (opened-by _, (opened-by _, tt))))
all-opened All = (opened-by _, (opened-by _, (opened-by _, (opened-by _, tt))))

pub opening-sound : (l : List ℕ) (b : Bracket) (u : List ℕ) → parse_opening l ≡ found b u → l ≡ opening_of b ++ u
unfolding parse_opening
opening-sound [] b u e = let z : ◌≡◌ {A = ℕ} 0 1 = cc in absurd (omega arith)
opening-sound (c ∷ l) b u e =
    pick_inv (eqb c (byte "(")) _ _ e (λ t f. let p : Round ≡ b = cc in let q : l ≡ u = cc in rw (← p, ← q, eqb-true c (byte "(") t)) λ e₁.
    pick_inv (eqb c (byte "E")) _ _ e₁ (λ t f. let i = ended-sound (bytes "[") Some l f in rw (← i.0, i.1, eqb-true c (byte "E") t)) λ e₂.
    pick_inv (eqb c (byte "A")) _ misspelled e₂ (λ t f. let i = ended-sound (bytes "[") All l f in rw (← i.0, i.1, eqb-true c (byte "A") t)) λ f.
    let z : ◌≡◌ {A = ℕ} 0 1 = cc in absurd (omega arith)

pub middle-sound : (b : Bracket) (l : List ℕ) (o : Binary) (u : List ℕ) → parse_middle b l ≡ found o u → (l ≡ middle o ++ u) × Opened b o
unfolding parse_middle
middle-sound b l o u h =
    after-inv (parse_word (bytes " ") l) _ h λ _ t e f.
    let i = letter-sound middle (Opened b) (opened b) (all-opened b) t o u f in
    (rw (i.0.joins, skip-sound (bytes " ") l e, i.1), i.0)

pub middle-complete : (o : Binary) (u : List ℕ) → parse_middle (bracket_of o) (middle o ++ u) ≡ found o u
unfolding parse_middle parse_letter by_letter parse_ended parse_word
middle-complete conjunction u = refl
middle-complete disjunction u = refl
middle-complete (Binary.path E forward until) u = refl
middle-complete (Binary.path E forward weak) u = refl
middle-complete (Binary.path E backward until) u = refl
middle-complete (Binary.path E backward weak) u = refl
middle-complete (Binary.path A forward until) u = refl
middle-complete (Binary.path A forward weak) u = refl
middle-complete (Binary.path A backward until) u = refl
middle-complete (Binary.path A backward weak) u = refl
