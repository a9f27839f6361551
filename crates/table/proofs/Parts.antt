-- A part that was filled is right. Assumes nothing.
use mathlib.Core.Path.{◌≡◌, refl, sym, subst}
use mathlib.Core.Bool.{false}
use mathlib.Core.List.{List}
use mathlib.Core.Logic.Iff
use mathlib.Core.Logic.{◌↔◌}
use Prim.Native.Nat.{ℕ, ◌-◌, ◌≤◌, ◌<◌}
use native.Mathlib.Omega.{arith}
use lib.ListN.{length, take, drop, length-drop}
use lib.Seq.{length-take-le, take_all}
use Rattle.language.specs.declared.Statement.{Statement}
use Rattle.tokens.specs.Parsing.{found}
use Rattle.bits.specs.Row.{member}
use Rattle.labelling.specs.Labels.{Labelled}
use Rattle.ctl.specs.Paths.{So}
use Rattle.graph.specs.Graphs.{entries, DirectionsAt}
use Rattle.flow.specs.Flow.{steps}
use Rattle.flow.specs.FlowOf.{flow_entries, flow_at}
use Rattle.atoms.specs.Facts.{used_in, FactsIn}
use Rattle.condition.specs.Condition.{Condition, atom, unary, binary}
use Rattle.condition.specs.Words.{code_in, start_in}
use Rattle.condition.proofs.Words.{unary-code, binary-code}
use Rattle.atom_reader.specs.Parsing.{parse_atom}
use Rattle.truth.specs.Truth.{HoldsBy, SatBy}
use Rattle.condition.specs.declared.Atom.{Atom}
use Rattle.table.specs.Table.{part_words, row, part_at, Written}
use Rattle.table.specs.Rules.{Operation, code_of, rule_of, SatRule, flow_steps, BothWays}
use Rattle.table.specs.Known.{KnownBy}
use Rattle.table.specs.Fill.{left_of, Tells, PartReady}
use Rattle.table.proofs.Operands.{rule-sat, Operands, operands}

written-map : {v : ℕ} {old new : List ℕ} {k n : ℕ} (X Y : ℕ → Type 0) → ((s : ℕ) → s < n → X s ↔ Y s) → Written v old new k n X → Written v old new k n Y
written-map X Y f w =
    record {
      kept = w.kept;
      labelled = record { exact = λ s l. Iff.trans (w.labelled.exact s l) (f s l); beyond = w.labelled.beyond };
    }

-- an operator's row, from the rows of its operands: Q j is the truth of part j, X that of part k
module _ {U : ℕ → ℕ → Type 0} {P : List Statement} {n : ℕ} {rows : List ℕ} {codes : List (List ℕ)} {flow : List ℕ} (x : KnownBy U P n rows codes flow) (Q : ℕ → ℕ → Type 0) {old : List ℕ} {k : ℕ}
    (filled : (j : ℕ) → j < k → Labelled (length P) (member (row old j)) (Q j)) {left right : ℕ} (l : left < k) (r : right < k)
    (o : Operation) (X : ℕ → Type 0) (sat : (s : ℕ) → SatRule (steps P) (rule_of o) (Q left) (Q right) s ↔ X s) where
  pub rule-written : (new : List ℕ)
      → Written part_words old new k n (SatRule (flow_steps n (flow_at flow)) (rule_of o) (So (member (row old left))) (So (member (row old right))))
      → Written part_words old new k (length P) X
  rule-written new h =
      written-map _ X
      (λ s b. Iff.trans (rule-sat P (flow_at flow) x.flows _ _ (Q left) (Q right) (λ u d. (filled left l).exact u d) (λ u d. (filled right r).exact u d) (rule_of o) s b) (sat s))
      (subst (λ (m : ℕ). Written part_words old new k m (SatRule (flow_steps m (flow_at flow)) (rule_of o) (So (member (row old left))) (So (member (row old right))))) (sym x.size) h)

module _ {P : List Statement} {n : ℕ} {rows : List ℕ} {codes : List (List ℕ)} {flow t : List ℕ} {c : Condition} {w : ℕ} {old : List ℕ} {k : ℕ} (r : PartReady P n rows codes flow t c w old k) where
  abbrev size : n ≡ length P
  size = sym r.known.size

  -- a part with an operator's code
  module _ (code : code_in w ≡ 0 → ⊥) where
    abbrev ops : Operands (used_in rows) P c k w
    ops = operands (used_in rows) P t c k w (part_at c k) refl r.tells code

    pub left-inside : left_of w k < k
    left-inside = ops.inside

    pub left-clear : (s : ℕ) → length P ≤ s → member (row old (left_of w k)) s ≡ false
    left-clear s l = (r.filled (left_of w k) ops.inside).beyond s l

    pub before-clear : (s : ℕ) → length P ≤ s → member (row old (k - 1)) s ≡ false
    before-clear s l = let i = ops.inside in (r.filled (k - 1) (omega arith)).beyond s l

    pub operator-written : (new : List ℕ) (left : ℕ) → left ≡ left_of w k
        → ((x : Operation) → code_of x ≡ code_in w → Written part_words old new k n (SatRule (flow_steps n (flow_at flow)) (rule_of x) (So (member (row old left))) (So (member (row old (k - 1))))))
        → Written part_words old new k (length P) (SatBy (used_in rows) P (part_at c k))
    operator-written new left is h =
        let i = ops.inside in
        rule-written r.known (λ j. SatBy (used_in rows) P (part_at c j)) r.filled i (omega arith) ops.operation (SatBy (used_in rows) P (part_at c k)) ops.sat new
        (subst (λ (j : ℕ). Written part_words old new k n (SatRule (flow_steps n (flow_at flow)) (rule_of ops.operation) (So (member (row old j))) (So (member (row old (k - 1)))))) is
        (h ops.operation ops.coded))

  -- a part with an atom's
  pub atom-written : (new : List ℕ) → code_in w ≡ 0
      → ((Q : List Statement) (a : Atom) (rest : List ℕ) → length Q ≡ n → FactsIn Q (length Q) rows codes → parse_atom (drop (start_in w) t) ≡ found a rest → Written part_words old new k n (HoldsBy (used_in rows) Q a))
      → Written part_words old new k (length P) (SatBy (used_in rows) P (part_at c k))
  unfolding SatBy
  atom-written new code h = go (part_at c k) refl r.tells
    where
      go : (q : Condition) → part_at c k ≡ q → Tells t c k w q → Written part_words old new k (length P) (SatBy (used_in rows) P (part_at c k))
      go (atom a) e d = rw e (subst (λ (m : ℕ). Written part_words old new k m (HoldsBy (used_in rows) P a)) size (h P a d.1 r.known.size r.known.found d.2))
      go (unary o p) e d = let b = unary-code o in absurd (omega arith)
      go (binary o p q) e d = let b = binary-code o in absurd (omega arith)

pub both_ways : {U : ℕ → ℕ → Type 0} {P : List Statement} {n : ℕ} {rows : List ℕ} {codes : List (List ℕ)} {flow : List ℕ} → KnownBy U P n rows codes flow → BothWays n flow
both_ways x = rw (← x.size) (record { size = x.flow_size; ahead = x.flows.forward; behind = x.flows.backward })

-- the parts of the numbers that are lent on
module _ (flow : List ℕ) (size : length flow ≡ flow_entries) where
  pub forward-size : length (take entries flow) ≡ entries
  forward-size = length-take-le entries flow (omega arith)

  backward-size : length (drop entries flow) ≡ entries
  backward-size = rw (length-drop entries flow) (omega arith)

  pub backward-part : take (length flow - entries) (drop entries flow) ≡ drop entries flow
  backward-part = take_all (length flow - entries) (drop entries flow) (omega (arith, backward-size))

module _ (n : ℕ) (flow : List ℕ) (b : BothWays n flow) where
  pub lent-ahead : DirectionsAt n (take entries flow) (take (length flow - entries) (drop entries flow))
  lent-ahead = rw (backward-part flow b.size) (record { steps_size = forward-size flow b.size; opposite_size = backward-size flow b.size; directions = b.ahead })

  pub lent-behind : DirectionsAt n (take (length flow - entries) (drop entries flow)) (take entries flow)
  lent-behind = rw (backward-part flow b.size) (record { steps_size = backward-size flow b.size; opposite_size = forward-size flow b.size; directions = b.behind })
