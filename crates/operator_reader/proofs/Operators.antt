-- The codes of the operators, as the readers answer them. Assumes nothing.
use mathlib.Core.Path.{◌≡◌, refl}
use mathlib.Core.List.{List, ◌∷◌}
use Prim.Native.Nat.{ℕ, ◌+◌}
use native.Mathlib.Omega.{arith}
use borrow.Author.Tests.{ne_eqb}
use Rattle.base.specs.Bytes.{bytes}
use Rattle.tokens.specs.Parsing.{Parsed, found, misspelled, after, parse_word}
use Rattle.ctl.specs.Paths.{Quant, E, A, Direction, forward, backward}
use Rattle.condition.specs.Condition.{PathUnary, next, finally, globally, PathBinary, until, weak, Unary, Binary, prefix, middle}
use Rattle.condition.specs.Words.{unary_code, binary_code}
use Rattle.atom_reader.specs.Parsing.{parse_ended}
use Rattle.operator_reader.specs.declared.Bracket.TheVariants.{Round}
use Rattle.operator_reader.specs.declared.Quantifier.{Quantifier}
use Rattle.operator_reader.specs.Parsing.{coded, quant_of, all_of, by_letter, parse_letter, unaries, binaries, opened, parse_prefix, parse_opening}

pub coded-ended : {O : Type 0} (code : O → ℕ) (o : O) (w l : List ℕ) → parse_ended w (code o) l ≡ coded code (parse_ended w o l)
unfolding parse_ended
coded-ended code o w l = go (parse_word w l)
  where
    go : (p : Parsed Unit) → after p (λ _ t. found (code o) t) ≡ coded code (after p (λ _ t. found o t))
    go (found _ t) = refl
    go misspelled = refl

pub coded-inv : {O C : Type 0} (code : O → ℕ) (p : Parsed O) (n : ℕ) (u : List ℕ) → coded code p ≡ found n u → ((o : O) → p ≡ found o u → code o ≡ n → C) → C
coded-inv code (found o t) n u e k = let q : t ≡ u = cc in k o (rw q) (cc)
coded-inv code misspelled n u e k = let z : ◌≡◌ {A = ℕ} 0 1 = cc in absurd (omega arith)

pub coded-not : {O : Type 0} (code : O → ℕ) (p : Parsed O) → coded code p ≡ misspelled → p ≡ misspelled
coded-not code (found o t) e = let z : ◌≡◌ {A = ℕ} 0 1 = cc in absurd (omega arith)
coded-not code misspelled e = refl

-- with A the code is one more than with E
unary-code : (k : Quant) (d : Direction) (o : PathUnary) → unary_code (Unary.path E d o) + all_of k ≡ unary_code (Unary.path k d o)
unary-code E forward next = refl
unary-code E forward finally = refl
unary-code E forward globally = refl
unary-code E backward next = refl
unary-code E backward finally = refl
unary-code E backward globally = refl
unary-code A forward next = refl
unary-code A forward finally = refl
unary-code A forward globally = refl
unary-code A backward next = refl
unary-code A backward finally = refl
unary-code A backward globally = refl

binary-code : (k : Quant) (d : Direction) (o : PathBinary) → binary_code (Binary.path E d o) + all_of k ≡ binary_code (Binary.path k d o)
binary-code E forward until = refl
binary-code E forward weak = refl
binary-code E backward until = refl
binary-code E backward weak = refl
binary-code A forward until = refl
binary-code A forward weak = refl
binary-code A backward until = refl
binary-code A backward weak = refl

module _ (k : Quant) (d : Direction) (all : ℕ) (l : List ℕ) (e : all ≡ all_of k) where
  pub unary-ended : (o : PathUnary) → parse_ended (bytes " ") (unary_code (Unary.path E d o) + all) l ≡ coded unary_code (parse_ended (bytes " ") (Unary.path k d o) l)
  unary-ended o = rw (e, unary-code k d o) (coded-ended unary_code (Unary.path k d o) (bytes " ") l)

  pub binary-ended : (o : PathBinary) → parse_ended (bytes " ") (binary_code (Binary.path E d o) + all) l ≡ coded binary_code (parse_ended (bytes " ") (Binary.path k d o) l)
  binary-ended o = rw (e, binary-code k d o) (coded-ended binary_code (Binary.path k d o) (bytes " ") l)

-- a byte that begins nothing that the reader looks for
module _ (c : ℕ) (l : List ℕ) where
  pub unary-other : (q : Quantifier) → (c ≡ 88 → ⊥) → (c ≡ 70 → ⊥) → (c ≡ 71 → ⊥) → (c ≡ 89 → ⊥) → (c ≡ 82 → ⊥) → (c ≡ 77 → ⊥) → misspelled ≡ coded unary_code (parse_letter prefix (unaries (quant_of q)) (c ∷ l))
  unfolding parse_letter by_letter
  unary-other q a b d e f g = rw (ne_eqb c 88 a, ne_eqb c 70 b, ne_eqb c 71 d, ne_eqb c 89 e, ne_eqb c 82 f, ne_eqb c 77 g)

  pub binary-other : (q : Quantifier) → (c ≡ 85 → ⊥) → (c ≡ 87 → ⊥) → (c ≡ 83 → ⊥) → (c ≡ 66 → ⊥) → misspelled ≡ coded binary_code (parse_letter middle (binaries (quant_of q)) (c ∷ l))
  unfolding parse_letter by_letter
  binary-other q a b d e = rw (ne_eqb c 85 a, ne_eqb c 87 b, ne_eqb c 83 d, ne_eqb c 66 e)

  pub connective-other : (c ≡ 38 → ⊥) → (c ≡ 124 → ⊥) → misspelled ≡ coded binary_code (parse_letter middle (opened Round) (c ∷ l))
  unfolding parse_letter by_letter
  connective-other a b = rw (ne_eqb c 38 a, ne_eqb c 124 b)

  pub prefix-other : (c ≡ 33 → ⊥) → (c ≡ 69 → ⊥) → (c ≡ 65 → ⊥) → misspelled ≡ coded unary_code (parse_prefix (c ∷ l))
  unfolding parse_prefix
  prefix-other a b d = rw (ne_eqb c 33 a, ne_eqb c 69 b, ne_eqb c 65 d)

  pub opening-other : (c ≡ 40 → ⊥) → (c ≡ 69 → ⊥) → (c ≡ 65 → ⊥) → misspelled ≡ parse_opening (c ∷ l)
  unfolding parse_opening
  opening-other a b d = rw (ne_eqb c 40 a, ne_eqb c 69 b, ne_eqb c 65 d)
