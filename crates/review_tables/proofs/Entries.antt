-- From the rows of an entry's operands, or the atom that it tells, to the row of its part. Assumes nothing.
use mathlib.Core.Path.{◌≡◌, refl, sym, ap, ◌∙◌, subst}
use mathlib.Core.Bool.{false}
use mathlib.Core.List.{List, ◌++◌}
use mathlib.Core.Logic.{◌↔◌}
use Prim.Native.Nat.{ℕ, ◌-◌, ◌≤◌, ◌<◌}
use native.Mathlib.Omega.{arith}
use lib.ListN.{length, drop, take-append-drop}
use Rattle.language.specs.declared.Statement.{Statement}
use Rattle.tokens.specs.Parsing.{found}
use Rattle.bits.specs.Row.{member}
use Rattle.ctl.specs.Paths.{So}
use Rattle.flow.specs.Flow.{steps}
use Rattle.flow.specs.FlowOf.{flow_at}
use Rattle.condition.specs.Condition.{Condition, atom, unary, binary, spell_atom, ValidCondition}
use Rattle.condition.specs.Words.{unary_code, binary_code, code_in, left_in, start_in, end_in}
use Rattle.condition.specs.declared.Atom.{Atom}
use Rattle.truth.specs.Truth.{HoldsBy, SatBy}
use Rattle.atom_reader.specs.Parsing.{parse_atom}
use Rattle.atom_reader.proofs.Spelling.{atom-complete}
use Rattle.atoms.specs.Facts.{used_in, FactsIn}
use Rattle.table.specs.Table.{part_words, row, Written}
use Rattle.table.specs.Rules.{Operation, one, two, code_of, rule_of, SatRule, flow_steps}
use Rattle.table.proofs.Rules.{unary-rule, binary-rule}
use Rattle.table.proofs.Operands.{iff-of}
use Rattle.table.proofs.Parts.{rule-written}
use Rattle.sharing.specs.Sharing.{part, number_of}
use Rattle.sharing.specs.Keys.{Known, text, operator, key_of, Operands, Numbered}
use Rattle.sharing.proofs.Spellings.{alike-equal}
use Rattle.sharing.proofs.Firsts.{number-right}
use Rattle.keys.specs.Store.{span, key_in}
use Rattle.keys.proofs.Told.{key-text, key-operator}
use Rattle.review_tables.specs.Filling.{EntryReady}

-- the part with the number of p is p
number-own : (ds : List Condition) → Numbered ds → (p : Condition) → ValidCondition p → Known ds p → part ds (number_of ds p) ≡ p
number-own ds n p v l = alike-equal (part ds (number_of ds p)) p (n.ready (number_of ds p) l).valid v ((number-right ds p).found l)

-- the operator that an entry tells, and its operands' tables
pub record EntryOperands (U : ℕ → ℕ → Type 0) (P : List Statement) (ds : List Condition) (k w : ℕ) : Type 0 where
  pub operation : Operation
  pub coded : code_of operation ≡ code_in w
  pub left : left_in w < k
  pub right : start_in w < k
  pub sat : (s : ℕ) → SatRule (steps P) (rule_of operation) (SatBy U P (part ds (left_in w))) (SatBy U P (part ds (start_in w))) s ↔ SatBy U P (part ds k) s

module _ (U : ℕ → ℕ → Type 0) (P : List Statement) (u : List ℕ) (ds : List Condition) (k w : ℕ) (inside : k < length ds) (numbered : Numbered ds) where
  operands : (q : Condition) → part ds k ≡ q → key_in u w ≡ key_of ds q → ValidCondition q → Operands (λ p. number_of ds p < k) q → (code_in w ≡ 0 → ⊥) → EntryOperands U P ds k w
  unfolding SatBy
  operands (atom a) e key v o n = let z : ◌≡◌ {A = ℕ} 0 1 = cc (key-operator u w n) in absurd (omega arith)
  operands (unary f p) e key v o n =
      let t : operator (code_in w) (left_in w) (start_in w) ≡ operator (unary_code f) (number_of ds p) (number_of ds p) = sym (key-operator u w n) ∙ key in
      let a : code_in w ≡ unary_code f = cc in
      let b : left_in w ≡ number_of ds p = cc in
      let d : start_in w ≡ number_of ds p = cc in
      let own = number-own ds numbered p v (omega arith) in
      record { operation = one f; coded = sym a; left = omega arith; right = omega arith; sat = λ s. rw (b, d, e, own) (iff-of (unary-rule P f (SatBy U P p) s)) }
  operands (binary f p q) e key v o n =
      let t : operator (code_in w) (left_in w) (start_in w) ≡ operator (binary_code f) (number_of ds p) (number_of ds q) = sym (key-operator u w n) ∙ key in
      let a : code_in w ≡ binary_code f = cc in
      let b : left_in w ≡ number_of ds p = cc in
      let d : start_in w ≡ number_of ds q = cc in
      let own = number-own ds numbered p v.0 (omega (arith, o.0)) in
      let other = number-own ds numbered q v.1 (omega (arith, o.1)) in
      record {
        operation = two f;
        coded = sym a;
        left = omega (arith, o.0);
        right = omega (arith, o.1);
        sat = λ s. rw (b, d, e, own, other) (iff-of (binary-rule P f (SatBy U P p) (SatBy U P q) s));
      }

  -- an atom's entry tells where its text is
  atom-told : (q : Condition) → part ds k ≡ q → key_in u w ≡ key_of ds q → ValidCondition q → code_in w ≡ 0
      → (a : Atom) × (rest : List ℕ) × (part ds k ≡ atom a) × (parse_atom (drop (start_in w) u) ≡ found a rest)
  atom-told (atom a) e key v z =
      let t : text (span (start_in w) (end_in w) u) ≡ text (spell_atom a) = sym (key-text u w z) ∙ key in
      let s : span (start_in w) (end_in w) u ≡ spell_atom a = cc in
      let rest : List ℕ = drop (end_in w - start_in w) (drop (start_in w) u) in
      let f : drop (start_in w) u ≡ spell_atom a ++ rest = sym (take-append-drop (end_in w - start_in w) (drop (start_in w) u)) ∙ ap (λ (x : List ℕ). x ++ rest) s in
      (a, rest, e, ap parse_atom f ∙ atom-complete a rest v)
  atom-told (unary f p) e key v z = let y : ◌≡◌ {A = ℕ} 0 1 = cc (key-text u w z) in absurd (omega arith)
  atom-told (binary f p q) e key v z = let y : ◌≡◌ {A = ℕ} 0 1 = cc (key-text u w z) in absurd (omega arith)

module _ {P : List Statement} {n : ℕ} {rows : List ℕ} {codes : List (List ℕ)} {flow u : List ℕ} {ds : List Condition} {w : ℕ} {old : List ℕ} {k : ℕ}
    (r : EntryReady P n rows codes flow u ds w old k) where
  abbrev valid : ValidCondition (part ds k)
  valid = (r.numbered.ready k r.inside).valid

  module _ (code : code_in w ≡ 0 → ⊥) where
    pub entry-operands : EntryOperands (used_in rows) P ds k w
    entry-operands = operands (used_in rows) P u ds k w r.inside r.numbered (part ds k) refl r.key valid (r.ordered k r.inside) code

    pub left-clear : (s : ℕ) → length P ≤ s → member (row old (left_in w)) s ≡ false
    left-clear s l = (r.filled (left_in w) entry-operands.left).beyond s l

    pub right-clear : (s : ℕ) → length P ≤ s → member (row old (start_in w)) s ≡ false
    right-clear s l = (r.filled (start_in w) entry-operands.right).beyond s l

    pub operator-written : (new : List ℕ)
        → ((x : Operation) → code_of x ≡ code_in w → Written part_words old new k n (SatRule (flow_steps n (flow_at flow)) (rule_of x) (So (member (row old (left_in w)))) (So (member (row old (start_in w))))))
        → Written part_words old new k (length P) (SatBy (used_in rows) P (part ds k))
    operator-written new h =
        let o = entry-operands in
        rule-written r.known (λ j. SatBy (used_in rows) P (part ds j)) r.filled o.left o.right o.operation (SatBy (used_in rows) P (part ds k)) o.sat new (h o.operation o.coded)

  pub atom-written : (new : List ℕ) → code_in w ≡ 0
      → ((Q : List Statement) (a : Atom) (rest : List ℕ) → length Q ≡ n → FactsIn Q (length Q) rows codes → parse_atom (drop (start_in w) u) ≡ found a rest → Written part_words old new k n (HoldsBy (used_in rows) Q a))
      → Written part_words old new k (length P) (SatBy (used_in rows) P (part ds k))
  unfolding SatBy
  atom-written new code h =
      let (a, rest, e, f) = atom-told (used_in rows) P u ds k w r.inside r.numbered (part ds k) refl r.key valid code in
      rw e (subst (λ (m : ℕ). Written part_words old new k m (HoldsBy (used_in rows) P a)) (sym r.known.size) (h P a rest r.known.size r.known.found f))
