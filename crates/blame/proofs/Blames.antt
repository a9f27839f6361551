-- From the line at which the reading stops to the line that a refusal is about. Assumes nothing.
use mathlib.Core.Path.{◌≡◌, refl, ap, sym, ◌∙◌}
use mathlib.Core.List.{List, [], ◌∷◌}
use Rattle.std.specs.Prelude.{Option, Some, None}
use Prim.Native.Nat.{ℕ, ◌+◌, ◌≤◌, ◌<◌}
use native.Mathlib.Omega.{arith}
use lib.ListN.{length, get_or, drop}
use borrow.Author.Count.{below_more}
use Rattle.lines.specs.Lines.{LineOf, NoLine}
use Rattle.lines.proofs.Texts.{spells-unique}
use Rattle.line_number.specs.First.{line_at}
use Rattle.line_number.proofs.First.{not-spelled}
use Rattle.lines.proofs.Walk.{Begins, text-done, line-inside, line-is}
use Rattle.lines.proofs.Reading.{SoFar, none_yet, one_more, begins-here}
use Rattle.language.specs.Spelling.{spell, Valid}
use Rattle.statement_reader.specs.Reading.{LineRead}
use Rattle.language.specs.declared.Statement.{Statement}
use Rattle.language.specs.declared.Statement.TheVariants.{Skip}
use Rattle.program.specs.declared.Refusal.{Refusal}
use Rattle.program.specs.declared.Refusal.TheVariants as refusal
use Rattle.program.specs.Program.{Spells, at, Taken}
use Rattle.program.specs.Reading.{Refused, number}
use Rattle.program.proofs.Texts.{statements-unambiguous}
use Rattle.program.proofs.Unique.{refused-unique, taken_refused}
use Rattle.blame.specs.Blame.{Rule, FirstBroken, NoneBroken, Blames, LineTold, misspelled, broken, none, NumberTold, Blamed, TextBlamed}

-- what the reader of a line told
pub line_of : {t : List ℕ} {at : ℕ} {r : Option (Statement × ℕ)} {s : Statement} {k : ℕ} → r ≡ Some (s, k) → LineRead t at r → LineOf spell Valid t at s k
line_of is l = rw is at l

pub no_line : (t : List ℕ) (at : ℕ) {r : Option (Statement × ℕ)} → r ≡ None → LineRead t at r → NoLine spell Valid (drop at t)
no_line t at is l = rw is at l

-- s lines are read up to the position; if the text has n, the statements of these are as the refusal asks
pub record Good (t : List ℕ) (r : Refusal) (n s p : ℕ) : Type 0 where
  pub so : SoFar spell Valid t s p
  pub good : (Q : List Statement) → Spells t Q → n ≡ length Q → (j : ℕ) → j < s → Rule r n j (at Q j)

pub good_none : (t : List ℕ) (r : Refusal) (n : ℕ) → Good t r n 0 0
good_none t r n = record { so = none_yet spell Valid t; good = λ Q q c j h. absurd (omega arith) }

module _ {t : List ℕ} {r : Refusal} {n s p : ℕ} (g : Good t r n s p) where
  -- line s of whatever the text spells begins at the position
  here : {Q : List Statement} → Spells t Q → Begins spell Valid t Q s p
  here q = begins-here g.so statements-unambiguous q

  next-is : {a : Option (Statement × ℕ)} {e : Statement} {k : ℕ} → LineRead t p a → a ≡ Some (e, k) → {Q : List Statement} → Spells t Q → e ≡ at Q s
  next-is l is q = line-is (here q) (line_of is l) statements-unambiguous Skip

  pub good_more : {a : Option (Statement × ℕ)} {e : Statement} {k : ℕ} → LineRead t p a → a ≡ Some (e, k) → Rule r n s e → Good t r n (s + 1) k
  good_more l is h =
      record {
        so = one_more g.so (line_of is l);
        good = λ Q q c. below_more (λ (j : ℕ). Rule r n j (at Q j)) s (g.good Q q c) (rw (next-is l is q) at h);
      }

  -- a text of n lines
  module _ (Q : List Statement) (q : Spells t Q) (counted : n ≡ length Q) where
    -- the lines are all, and each is as asked
    pub none-broken : length t ≤ p → NoneBroken (Rule r) t
    none-broken h = record { P = Q; spells = q; each = λ j l. rw counted at (g.good Q q counted j (omega (arith, text-done (here q) h))) }

    -- the statement of the next line isn't
    pub first-broken : {a : Option (Statement × ℕ)} {e : Statement} {k : ℕ} → LineRead t p a → a ≡ Some (e, k) → (Rule r n s e → ⊥) → {m : ℕ} → m ≡ line_at s → FirstBroken (Rule r) t m
    first-broken l is b il =
        record {
          P = Q;
          spells = q;
          s = s;
          inside = line-inside (here q) (line_of is l);
          broken = rw (next-is l is q, counted) at b;
          before = λ j h. rw counted at (g.good Q q counted j h);
          line = il;
        }

-- what each holds of a text's statements holds of those of any other reading of it
pub none_of : {C : ℕ → ℕ → Statement → Type 0} {t : List ℕ} → NoneBroken C t → (Q : List Statement) → Spells t Q → (j : ℕ) → j < length Q → C (length Q) j (at Q j)
none_of b Q q = rw (spells-unique statements-unambiguous b.spells q) at b.each

-- of a text that gets the refusal, the line told is the one that the refusal is about
pub blames : {t : List ℕ} {r : Refusal} {n : ℕ} → LineTold t r n → Refused t r → Blames t r n
blames {r = refusal.Misspelled} (misspelled m) f = m
blames {r = refusal.Misspelled} (broken b) f = absurd (b.broken tt)
blames {r = refusal.Misspelled} (none b e) f = absurd (f b.P b.spells)
blames {r = refusal.LineCount} (misspelled m) f = absurd (not-spelled statements-unambiguous m f.0 f.1)
blames {r = refusal.LineCount} (broken b) f = absurd (b.broken tt)
blames {r = refusal.LineCount} (none b e) f = e
blames {r = refusal.Placement} (misspelled m) f = absurd (not-spelled statements-unambiguous m f.0 f.1)
blames {r = refusal.Placement} (broken b) f = b
blames {r = refusal.Placement} (none b e) f = absurd (f.3 (none_of b f.0 f.1))
blames {r = refusal.Target} (misspelled m) f = absurd (not-spelled statements-unambiguous m f.0 f.1)
blames {r = refusal.Target} (broken b) f = b
blames {r = refusal.Target} (none b e) f = absurd (f.4 (none_of b f.0 f.1))

pub blamed : {t : List ℕ} {n line : ℕ} → NumberTold t n line → Blamed t n line
blamed w = record { about = λ r e f. blames (w.told r e) f; other = w.other }

-- the refusal with number n
abbrev named : ℕ → Refusal
named n = get_or (refusal.Misspelled ∷ refusal.Misspelled ∷ refusal.Misspelled ∷ refusal.LineCount ∷ refusal.Placement ∷ refusal.Target ∷ []) n refusal.Misspelled

named-number : (r : Refusal) → named (number r) ≡ r
named-number refusal.Misspelled = refl
named-number refusal.LineCount = refl
named-number refusal.Placement = refl
named-number refusal.Target = refl

-- a number is that of one refusal only
pub number-told : {t : List ℕ} (s : Refusal) {n line : ℕ} → n ≡ number s → LineTold t s line → NumberTold t n line
number-told s is w =
    record { told = λ r e. rw (sym (named-number r) ∙ ap named (sym e ∙ is) ∙ named-number s) w; other = λ f. absurd (f s is) }

pub no_number : {t : List ℕ} {n : ℕ} → (n ≡ 2 → ⊥) → (n ≡ 3 → ⊥) → (n ≡ 4 → ⊥) → (n ≡ 5 → ⊥) → NumberTold t n 0
no_number {t} {n} a b c d = record { told = λ r e. absurd (go r e); other = λ _. refl }
  where
    go : (r : Refusal) → n ≡ number r → ⊥
    go refusal.Misspelled e = a e
    go refusal.LineCount e = b e
    go refusal.Placement e = c e
    go refusal.Target e = d e

-- the reading of the text tells that it is taken, or which refusal it gets
pub read_taken : {t : List ℕ} {P : List Statement} → Taken t P → TextBlamed t 0
read_taken {t} k = record { about = λ r f. absurd (taken_refused t k r f); taken = λ P _. refl }

pub read-refused : {t : List ℕ} {s : Refusal} → Refused t s → {n : ℕ} → LineTold t s n → TextBlamed t n
read-refused {t} {s} f w =
    record { about = λ r g. rw (refused-unique t r s g f) (blames w f); taken = λ P k. absurd (taken_refused t k s f) }
