-- From the text of a variable's liveness to its row, and the rows of all variables. Assumes nothing.
use mathlib.Core.Path.{◌≡◌, refl, sym, ◌∙◌, subst}
use mathlib.Core.List.{List}
use Prim.Native.Nat.{ℕ, ◌+◌, ◌*◌, ◌≤◌, ◌<◌}
use native.Mathlib.Omega.{arith}
use lib.ListN.{length, replicate}
use Rattle.language.specs.Spelling.{variables, ValidVariable}
use Rattle.language.specs.declared.Statement.{Statement}
use Rattle.program.specs.Program as program
use Rattle.program.proofs.RoundTrip.{taken-unique}
use Rattle.bits.specs.Row.{member}
use Rattle.labelling.specs.Labels.{Labelled}
use Rattle.condition.specs.Condition.{spell_condition, ValidCondition, parts}
use Rattle.condition.specs.Texts.{Taken}
use Rattle.truth.specs.Truth.{SatBy}
use Rattle.atoms.specs.Facts.{used_in}
use Rattle.table.specs.Table.{part_words, row, Written}
use Rattle.table.specs.Known.{Known, KnownIn, SomeKnown}
use Rattle.table.proofs.Tables.{rows_more}
use Rattle.table.proofs.By.{labelled_by}
use Rattle.lockstep.specs.Rules.{live}
use Rattle.published.proofs.Published.{live-short}
use Rattle.published_rows.specs.Rows.{SmallTaken, RowOf}
use Rattle.liveness.specs.Liveness.{live_words, LiveAt, LiveRows, LiveIn}

-- the text of a variable's liveness is taken as it
pub live-taken : (x : ℕ) → ValidVariable x → (t : List ℕ) → t ≡ spell_condition (live x) → Taken t (live x)
unfolding parts
live-taken x v t e =
    let l = live-short x v in
    subst (λ (s : List ℕ). Taken s (live x)) (sym e) (record { short = omega arith; spells = record { spelling = refl; valid = (v, v) }; few = omega arith })

pub live_small : (x : ℕ) → ValidVariable x → (t : List ℕ) → t ≡ spell_condition (live x) → SmallTaken t
unfolding parts
live_small x v t e = record { c = live x; taken = live-taken x v t e; small = omega arith }

pub live-labelled : (x : ℕ) → ValidVariable x → (t : List ℕ) → t ≡ spell_condition (live x) → {U : ℕ → ℕ → Type 0} {P : List Statement} {r : List ℕ} → RowOf U P t r
    → Labelled (length P) (member r) (SatBy U P (live x))
live-labelled x v t e r = r.labelled (live x) (live-taken x v t e)

-- the rows of the variables before k are found
pub record SoFar (n : ℕ) (rows : List ℕ) (codes : List (List ℕ)) (flow ws : List ℕ) (k : ℕ) : Type 0 where
  pub within : k ≤ variables
  pub size : length ws ≡ live_words
  pub found : (P : List Statement) → KnownIn P n rows codes flow → (x : ℕ) → x < k → LiveAt (used_in rows) P ws x

module _ {n : ℕ} {rows : List ℕ} {codes : List (List ℕ)} {flow : List ℕ} where
  pub none_found : (ws : List ℕ) → length ws ≡ live_words → SoFar n rows codes flow ws 0
  none_found ws l = record { within = omega arith; size = l; found = λ P x k b. absurd (omega arith) }

  pub one_found : {ws new : List ℕ} {k : ℕ} → SoFar n rows codes flow ws k → k < variables → SomeKnown n rows codes flow
      → ((P : List Statement) → KnownIn P n rows codes flow → Written part_words ws new k (length P) (SatBy (used_in rows) P (live k))) → SoFar n rows codes flow new (k + 1)
  one_found {ws = ws} {new = new} {k = k} i l some w =
      record {
        within = omega arith;
        size = (w some.P some.known).kept.same ∙ i.size;
        found = λ P x. rows_more ws new k (w P x).kept (omega (arith, i.size)) (length P) (λ j. SatBy (used_in rows) P (live j)) (i.found P x) (w P x).labelled;
      }

-- by the program's own uses
pub all_live : {P : List Statement} {n : ℕ} {rows : List ℕ} {codes : List (List ℕ)} {flow ws : List ℕ} → Known P n rows codes flow → length ws ≡ live_words
    → ((x : ℕ) → x < variables → LiveAt (used_in rows) P ws x) → LiveRows P ws
all_live k l f = record { size = l; rows = λ x b. labelled_by k (live x) (b, b) (f x b) }

-- the text is taken, or it isn't
pub of-text : {t ws : List ℕ} {P : List Statement} → program.Taken t P → LiveRows P ws → LiveIn t ws
of-text {ws = ws} t l = record { taken = λ Q u. subst (λ (R : List Statement). LiveRows R ws) (taken-unique t u) l; refused = λ f. absurd (f _ t) }

pub of_none : {t ws : List ℕ} → ((P : List Statement) → program.Taken t P → ⊥) → ws ≡ replicate live_words 0 → LiveIn t ws
of_none f e = record { taken = λ P t. absurd (f P t); refused = λ g. e }
