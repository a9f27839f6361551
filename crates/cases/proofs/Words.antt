-- A test that computes: whether words are word 0 of each part of the condition that a text spells, on a program. Assumes nothing.
use mathlib.Core.Path.{◌≡◌, refl, sym, ap, ◌∙◌}
use mathlib.Core.List.{List, [], ◌∷◌, append-nil}
use mathlib.Core.Bool.{Bool, true, false, ◌&&◌, beq}
use Prim.Native.Nat.{ℕ, zero, suc, ◌^◌, ◌<◌}
use native.Mathlib.Nat.{not-suc-le-zero, le_of_suc-le-suc}
use lib.Dec.{leb, ltb}
use lib.ListN.{length, get_or}
use borrow.Author.Tests.{ltb-true, leb-true, lt-ltb}
use Rattle.language.specs.declared.Statement.{Statement}
use Rattle.tokens.specs.Parsing.{Parsed, found, misspelled, parse_word, digit_of, parse_digits, parse_zero, parse_number, parse_negative, parse_constant, parse_variable}
use Rattle.statement_reader.specs.Parsing.{parse_operand, parse_operator, parse_expression, parse_read, parse_write, parse_skip, parse_assign, parse_branch, parse_assign_or_branch, by_first, parse_statement}
use Rattle.program.specs.Program.{WellFormed}
use Rattle.bits.specs.Row.{bit}
use Rattle.base.proofs.Bools.{clash, and_left, and_right, and_both}
use Rattle.ctl.proofs.Least.{every, every-at, test}
use Rattle.condition.specs.declared.Atom.TheVariants.{True}
use Rattle.condition.specs.Condition.{Condition, atom, spell_condition, parts}
use Rattle.condition.specs.Texts.{most_bytes, most_parts}
use Rattle.atom_reader.specs.Parsing.{parse_ended, parse_node, parse_stmt, parse_def, parse_use, parse_trans, parse_true_or_trans, parse_entry_or_exit, parse_atom}
use Rattle.operator_reader.specs.Parsing.{by_letter, parse_letter, parse_prefix, parse_opening, parse_middle}
use Rattle.condition_reader.specs.Parsing.{parse_leaf, parse_unary, parse_binary, parse_bracketed, parse_condition}
use Rattle.truth.specs.Truth.{Sat}
use Rattle.condition_reader.proofs.Spelling.{condition-sound}
use Rattle.cases.specs.Cases.{WordZero, Tabulates}
use Rattle.cases.proofs.Label.{label, labelled}

beq_same : (a b : Bool) → beq a b ≡ true → a ≡ b
beq_same true true e = refl
beq_same true false e = sym e
beq_same false true e = e
beq_same false false e = refl

module _ (P : List Statement) (w : WellFormed P) where
  -- bit b of word 0, by the set t of a part
  abbrev bit_of : List Bool → ℕ → Bool
  bit_of t b = ltb b (length P) && test t b

  unfoldable word : Condition → ℕ → Bool
  unfolding label every bit
  word p x = let t = label P w p in ltb x (2 ^ 64) && every 64 (λ b. beq (bit x b) (bit_of t b))

  word-right : (p : Condition) (x : ℕ) → word p x ≡ true → WordZero P p x
  unfolding word
  word-right p x e = record { word = ltb-true x (2 ^ 64) (and_left (ltb x (2 ^ 64)) (every 64 f) e); bits = λ b l. (there b l, back b l) }
    where
      t : List Bool
      t = label P w p

      f : ℕ → Bool
      f b = beq (bit x b) (bit_of t b)

      agree : (b : ℕ) → b < 64 → bit x b ≡ bit_of t b
      agree b l = beq_same (bit x b) (bit_of t b) (every-at 64 f (and_right (ltb x (2 ^ 64)) (every 64 f) e) b l)

      there : (b : ℕ) → b < 64 → bit x b ≡ true → (b < length P) × Sat P p b
      there b l h =
          let i : b < length P = ltb-true b (length P) (and_left (ltb b (length P)) (test t b) (sym (agree b l) ∙ h)) in
          (i, (labelled P w p b i).0 (and_right (ltb b (length P)) (test t b) (sym (agree b l) ∙ h)))

      back : (b : ℕ) → b < 64 → (b < length P) × Sat P p b → bit x b ≡ true
      back b l h = agree b l ∙ and_both (ltb b (length P)) (test t b) (lt-ltb b (length P) h.0) ((labelled P w p b h.0).1 h.1)

  unfoldable words : List Condition → List ℕ → Bool
  unfolding word
  words [] [] = true
  words [] (x ∷ xs) = false
  words (p ∷ ps) [] = false
  words (p ∷ ps) (x ∷ xs) = word p x && words ps xs

  words-counted : (ps : List Condition) (xs : List ℕ) → words ps xs ≡ true → length xs ≡ length ps
  unfolding words
  words-counted [] [] e = refl
  words-counted [] (x ∷ xs) e = clash e refl
  words-counted (p ∷ ps) [] e = clash e refl
  words-counted (p ∷ ps) (x ∷ xs) e = ap suc (words-counted ps xs (and_right (word p x) (words ps xs) e))

  words_right : (ps : List Condition) (xs : List ℕ) → words ps xs ≡ true → (k : ℕ) → k < length xs → WordZero P (get_or ps k (atom True)) (get_or xs k 0)
  unfolding words
  words_right [] [] e k l = absurd (not-suc-le-zero l)
  words_right [] (x ∷ xs) e k l = clash e refl
  words_right (p ∷ ps) [] e k l = clash e refl
  words_right (p ∷ ps) (x ∷ xs) e zero l = word-right p x (and_left (word p x) (words ps xs) e)
  words_right (p ∷ ps) (x ∷ xs) e (suc k) l = words_right ps xs (and_right (word p x) (words ps xs) e) k (le_of_suc-le-suc l)

  -- where r was read from the text t: it is a condition with nothing after it, is taken, and has these words
  unfoldable read_right : List ℕ → List ℕ → Parsed Condition → Bool
  unfolding words parts
  read_right t xs (found c []) = (leb (length t) most_bytes && leb (length (parts c)) most_parts) && words (parts c) xs
  read_right t xs (found c (b ∷ u)) = false
  read_right t xs misspelled = false

  unfoldable pub right : List ℕ → List ℕ → Bool
  unfolding read_right parse_condition parse_bracketed parse_binary parse_unary parse_leaf parse_opening parse_middle parse_prefix parse_letter by_letter parse_atom parse_true_or_trans parse_entry_or_exit parse_trans parse_use parse_def parse_stmt parse_node parse_ended parse_statement by_first parse_assign_or_branch parse_branch parse_assign parse_skip parse_write parse_read parse_expression parse_operator parse_operand parse_variable parse_constant parse_negative parse_number parse_zero parse_digits digit_of parse_word
  right t xs = read_right t xs (parse_condition (length t) t)

  pub right-tabulates : (t xs : List ℕ) → right t xs ≡ true → Tabulates P t xs
  unfolding right
  right-tabulates t xs = go (parse_condition (length t) t) refl
    where
      go : (r : Parsed Condition) → parse_condition (length t) t ≡ r → read_right t xs r ≡ true → Tabulates P t xs
      go (found c []) h e =
          let s = condition-sound (length t) t c [] h in
          let a = leb (length t) most_bytes in
          let b = leb (length (parts c)) most_parts in
          let f = and_left (a && b) (words (parts c) xs) e in
          let x = and_right (a && b) (words (parts c) xs) e in
          record {
            c = c;
            taken = record {
              short = leb-true (length t) most_bytes (and_left a b f);
              spells = record { spelling = s.0 ∙ append-nil (spell_condition c); valid = s.1 };
              few = leb-true (length (parts c)) most_parts (and_right a b f);
            };
            counted = words-counted (parts c) xs x;
            words = words_right (parts c) xs x;
          }
      go (found c (b ∷ u)) h e = clash e refl
      go misspelled h e = clash e refl
