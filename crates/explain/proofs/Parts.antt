-- The part below the negations before it, and what its row and its operator's rule say of a path. Assumes nothing.
use mathlib.Core.Path.{◌≡◌, refl, sym, ap, ◌∙◌, subst}
use mathlib.Core.List.{List}
use mathlib.Core.Bool.{Bool, true, false, not}
use mathlib.Core.Logic.{◌↔◌}
use Prim.Native.Nat.{ℕ, zero, suc, ◌+◌, ◌-◌, ◌≤◌, ◌<◌}
use native.Mathlib.Omega.{arith}
use lib.ListN.{length, get_or}
use borrow.Author.Tests.{lt-ltb, le-ltb}
use Rattle.base.proofs.Bools.{clash}
use Rattle.language.specs.declared.Statement.{Statement}
use Rattle.bits.specs.Row.{member}
use Rattle.ctl.specs.Paths.{Quant, E, A, quant, Direction, forward, backward, So, Graph}
use Rattle.graph.specs.Graphs.{places}
use Rattle.flow.specs.Flow.{steps}
use Rattle.flow.specs.FlowOf.{flow_at, FlowOf}
use Rattle.condition.specs.Condition.{Unary, negation, Binary, conjunction, disjunction, Condition, atom, unary, binary, parts}
use Rattle.condition.specs.Words.{unary_code, binary_code, code_in, left_in}
use Rattle.condition.proofs.Words.{unary-code, binary-code}
use Rattle.labelling.specs.declared.Operator.{Operator}
use Rattle.labelling.specs.declared.Operator.TheVariants as op
use Rattle.labelling.specs.Labels.{Labelled}
use Rattle.truth.specs.Truth.{uses_of, Sat}
use Rattle.table.specs.Table.{row, part_at}
use Rattle.table.specs.Rules.{Operation, one, two, code_of, rule_of, is_all, is_back, direction, SatRule, flow_steps, BothWays}
use Rattle.table.specs.Fill.{left_of, Tells, HeldOf}
use Rattle.table.specs.declared.Rule.{Rule}
use Rattle.table.specs.declared.Rule.TheVariants as rule
use Rattle.table.proofs.Rules.{operation_of, operation-back}
use Rattle.table.proofs.Operands.{rule-sat, operands}
use Rattle.table.proofs.Tables.{word-tells}
use Rattle.lassos.specs.Lassos.{Rest, enough, Goes}
use Rattle.lassos.proofs.Dual.{evident-map, evident-steps}
use Rattle.walks.specs.Told.{rest_of}
use Rattle.witness.specs.Witness.{Witness}
use Rattle.explain.specs.Explain.{bare, Shows, Quiet, Silent}
use Rattle.explain.specs.Parts.{SomeWords, Looked, Tabled}

-- ---- codes

-- operators with the same code are the same
code-unique : (x y : Operation) → code_of x ≡ code_of y → x ≡ y
code-unique x y e = sym (operation-back x) ∙ ap operation_of e ∙ operation-back y

abbrev IsNegation : Operation → Type 0
IsNegation (one negation) = Unit
IsNegation (one (Unary.path k d o)) = ⊥
IsNegation (two o) = ⊥

-- the code 1 is that of a negation
one-negation : (x : Operation) → code_of x ≡ 1 → IsNegation x
one-negation x e = subst IsNegation (code-unique (one negation) x (sym e)) tt

-- ---- below the negations

module _ (u : List ℕ) (c : Condition) (j w : ℕ) where
  bare-next : (q : Condition) → Tells u c j w q → code_in w ≡ 1 → (0 < j) × (bare (part_at c (j - 1)) ≡ bare q)
  unfolding bare
  bare-next (atom a) h e = absurd (omega (arith, h.0))
  bare-next (unary negation p) h e = (h.1, ap bare h.2)
  bare-next (unary (Unary.path k d o) p) h e = absurd (one-negation (one (Unary.path k d o)) (sym h.0 ∙ e))
  bare-next (binary o p q) h e = absurd (omega (arith, h.0, (binary-code o).0))

  bare-last : (q : Condition) → Tells u c j w q → (code_in w ≡ 1 → ⊥) → q ≡ bare q
  unfolding bare
  bare-last (atom a) h n = refl
  bare-last (unary negation p) h n = absurd (n h.0)
  bare-last (unary (Unary.path k d o) p) h n = refl
  bare-last (binary o p q) h n = refl

module _ (m : ℕ) (ws : List ℕ) (k : ℕ) where
  -- on the way down from part k
  pub record Looking (j : ℕ) : Type 0 where
    pub low : j ≤ k
    pub bared : (u : List ℕ) (c : Condition) → HeldOf u c m ws → bare (part_at c j) ≡ bare (part_at c k)

  pub looking-first : Looking k
  looking-first = record { low = omega arith; bared = λ u c h. refl }

  module _ (j : ℕ) (w : Looking j) (l : k < m) where
    pub looking-next : SomeWords m ws → code_in (get_or ws j 0) ≡ 1 → (0 < j) × Looking (j - 1)
    looking-next s e =
        let f = bare-next s.u s.c j (get_or ws j 0) (part_at s.c j) (word-tells s.held j (omega (arith, w.low))) e in
        (f.0, record { low = omega (arith, w.low); bared = λ u c h. (bare-next u c j (get_or ws j 0) (part_at c j) (word-tells h j (omega (arith, w.low))) e).1 ∙ w.bared u c h })

    pub looking-last : (code_in (get_or ws j 0) ≡ 1 → ⊥) → Looked m ws k j
    looking-last n = record { low = w.low; bared = λ u c h. bare-last u c j (get_or ws j 0) (part_at c j) (word-tells h j (omega (arith, w.low))) n ∙ w.bared u c h }

-- ---- by the rule of the operator

quant-all : (k : Quant) → quant (is_all k) ≡ k
quant-all E = refl
quant-all A = refl

direction-back : (d : Direction) → direction (is_back d) ≡ d
direction-back forward = refl
direction-back backward = refl

abbrev IsPath : Rule → Type 0
IsPath rule.Negation = ⊥
IsPath rule.Conjunction = ⊥
IsPath rule.Disjunction = ⊥
IsPath (rule.Path o all back) = Unit
IsPath rule.Nothing = ⊥

-- the rule is that of every operator with the code
abbrev pub Ruled : ℕ → Rule → Type 0
Ruled code r = (x : Operation) → code_of x ≡ code → r ≡ rule_of x

module _ (P : List Statement) (u : List ℕ) (c : Condition) (j w s : ℕ) where
  -- the operands' parts of a unary operator, and of a binary one
  left_one : (o : Unary) → code_in w ≡ unary_code o → left_of w j ≡ j - 1
  left_one o e = rw (lt-ltb (code_in w) 14 (omega (arith, e, (unary-code o).1)))

  left-two : (o : Binary) → code_in w ≡ binary_code o → left_of w j ≡ left_in w
  left-two o e = rw (le-ltb (code_in w) 14 (omega (arith, e, (binary-code o).0)))

  module _ (old new : List ℕ) (m turn : ℕ) where
    -- what a rule of a path operator is shown, on the model's steps
    abbrev ShownBy : (ℕ → Type 0) → (ℕ → Type 0) → Rule → Type 0
    ShownBy X Y rule.Negation = ⊥
    ShownBy X Y rule.Conjunction = ⊥
    ShownBy X Y rule.Disjunction = ⊥
    ShownBy X Y (rule.Path o all back) = Witness (quant all) o (length P) (steps P (direction back)) X Y s old new m turn
    ShownBy X Y rule.Nothing = ⊥

    pub rule-shows : (q : Condition) → Tells u c j w q → (r : Rule) → Ruled (code_in w) r → (code_in w ≡ 0 → ⊥) → ShownBy (Sat P (part_at c (left_of w j))) (Sat P (part_at c (j - 1))) r → Shows P q s old new m turn
    rule-shows (atom a) h r f n v = absurd (n h.0)
    rule-shows (unary negation p) h r f n v = subst (ShownBy (Sat P (part_at c (left_of w j))) (Sat P (part_at c (j - 1)))) (f (one negation) (sym h.0)) v
    rule-shows (unary (Unary.path k d o) p) h r f n v =
        let e = f (one (Unary.path k d o)) (sym h.0) in
        rw (left_one (Unary.path k d o) h.0, h.2, quant-all k, direction-back d) at (subst (ShownBy (Sat P (part_at c (left_of w j))) (Sat P (part_at c (j - 1)))) e v)
    rule-shows (binary conjunction p q) h r f n v = subst (ShownBy (Sat P (part_at c (left_of w j))) (Sat P (part_at c (j - 1)))) (f (two conjunction) (sym h.0)) v
    rule-shows (binary disjunction p q) h r f n v = subst (ShownBy (Sat P (part_at c (left_of w j))) (Sat P (part_at c (j - 1)))) (f (two disjunction) (sym h.0)) v
    rule-shows (binary (Binary.path k d o) p q) h r f n v =
        let e = f (two (Binary.path k d o)) (sym h.0) in
        rw (left-two (Binary.path k d o) h.0, h.2, h.3, quant-all k, direction-back d) at (subst (ShownBy (Sat P (part_at c (left_of w j))) (Sat P (part_at c (j - 1)))) e v)

  -- an atom has no path, nor has what isn't a path operator's
  pub atom-silent : (q : Condition) → Tells u c j w q → code_in w ≡ 0 → Silent P q s
  atom-silent (atom a) h e = tt
  atom-silent (unary o p) h e = absurd (omega (arith, h.0, (unary-code o).0))
  atom-silent (binary o p q) h e = absurd (omega (arith, h.0, (binary-code o).0))

  pub rule-silent : (q : Condition) → Tells u c j w q → (r : Rule) → Ruled (code_in w) r → (IsPath r → ⊥) → Silent P q s
  rule-silent (atom a) h r f n = tt
  rule-silent (unary negation p) h r f n = tt
  rule-silent (unary (Unary.path k d o) p) h r f n = absurd (n (subst IsPath (sym (f (one (Unary.path k d o)) (sym h.0))) tt))
  rule-silent (binary conjunction p q) h r f n = tt
  rule-silent (binary disjunction p q) h r f n = tt
  rule-silent (binary (Binary.path k d o) p q) h r f n = absurd (n (subst IsPath (sym (f (two (Binary.path k d o)) (sym h.0))) tt))

  -- a path operator has none where its truth is the one that no path shows
  module _ (z : Bool) where
    abbrev Same : Rule → Type 0
    Same rule.Negation = ⊥
    Same rule.Conjunction = ⊥
    Same rule.Disjunction = ⊥
    Same (rule.Path o all back) = z ≡ all
    Same rule.Nothing = ⊥

    quiet : (k : Quant) (X : Type 0) → (z ≡ true) ↔ X → z ≡ is_all k → Quiet k X
    quiet E X f e = λ x. clash (f.1 x) e
    quiet A X f e = f.0 e

    pub path-silent : (q : Condition) → Tells u c j w q → (z ≡ true) ↔ Sat P q s → (r : Rule) → Ruled (code_in w) r → Same r → Silent P q s
    path-silent (atom a) h t r f e = tt
    path-silent (unary negation p) h t r f e = tt
    path-silent (unary (Unary.path k d o) p) h t r f e = quiet k (Sat P (unary (Unary.path k d o) p) s) t (subst Same (f (one (Unary.path k d o)) (sym h.0)) e)
    path-silent (binary conjunction p q) h t r f e = tt
    path-silent (binary disjunction p q) h t r f e = tt
    path-silent (binary (Binary.path k d o) p q) h t r f e = quiet k (Sat P (binary (Binary.path k d o) p q) s) t (subst Same (f (two (Binary.path k d o)) (sym h.0)) e)

-- ---- a path's length and turn

enough-small : (o : Operator) (n : ℕ) → n ≤ places → enough o n ≤ places
enough-small op.Next n l = omega arith
enough-small op.Finally n l = l
enough-small op.Globally n l = l
enough-small op.Until n l = l
enough-small op.Weak n l = l

pub witness_small : {k : Quant} {o : Operator} {n : ℕ} {step : ℕ → ℕ → Bool} {X Y : ℕ → Type 0} {s : ℕ} {old new : List ℕ} {m turn : ℕ} → n ≤ places → Witness k o n step X Y s old new m turn → (m ≤ places) × (turn ≤ places)
witness_small {o = o} {n = n} {step = step} {s = s} {m = m} {turn = turn} l w = (few, at turn w.evident.goes)
  where
    few : m ≤ places
    few = omega (arith, w.counted, w.evident.few, enough-small o n l)

    at : (t : ℕ) → Goes step s (rest_of t) w.ls → t ≤ places
    at zero g = omega arith
    at (suc t) g = omega (arith, g.within, few, w.counted)

-- ---- on the model's steps

module _ (P : List Statement) (flow : List ℕ) (flows : FlowOf P (flow_at flow)) (X Y X' Y' : ℕ → Type 0)
    (x : (t : ℕ) → t < length P → X t ↔ X' t) (y : (t : ℕ) → t < length P → Y t ↔ Y' t) (s : ℕ) (l : s < length P) (k : Quant) (o : Operator) (old new : List ℕ) (m turn : ℕ) where
  pub witness-model : (back : Bool) → Witness k o (length P) (flow_steps (length P) (flow_at flow) (direction back)) X Y s old new m turn → Witness k o (length P) (steps P (direction back)) X' Y' s old new m turn
  witness-model true w = record {
    ls = w.ls;
    counted = w.counted;
    evident = evident-steps flows.backward.graph _ flows.exact_backward s l k o X' Y' (rest_of turn) w.ls (evident-map flows.backward.graph s l k o X Y X' Y' x y (rest_of turn) w.ls w.evident);
    told = w.told;
  }
  witness-model false w = record {
    ls = w.ls;
    counted = w.counted;
    evident = evident-steps flows.forward.graph _ flows.exact_forward s l k o X' Y' (rest_of turn) w.ls (evident-map flows.forward.graph s l k o X Y X' Y' x y (rest_of turn) w.ls w.evident);
    told = w.told;
  }

-- ---- a part of a table

pub differ-not : (a b : Bool) → (a ≡ b → ⊥) → a ≡ not b
differ-not true true f = absurd (f refl)
differ-not true false f = refl
differ-not false true f = refl
differ-not false false f = absurd (f refl)

pub tabled-own : {P : List Statement} {u : List ℕ} {c : Condition} {m : ℕ} {ws : List ℕ} {n : ℕ} {flow table : List ℕ} → Tabled P u c m ws n flow table → Tabled P u c m ws (length P) flow table
tabled-own b = record { size = refl; few = b.few; held = b.held; flow_size = b.flow_size; flows = b.flows; old = b.old; filled = b.filled }

pub tabled-ways : {P : List Statement} {u : List ℕ} {c : Condition} {m : ℕ} {ws : List ℕ} {n : ℕ} {flow table : List ℕ} → Tabled P u c m ws n flow table → BothWays n flow
tabled-ways b = rw (← b.size) (record { size = b.flow_size; ahead = b.flows.forward; behind = b.flows.backward })

module _ (P : List Statement) (u : List ℕ) (c : Condition) (m : ℕ) (ws flow table : List ℕ) (b : Tabled P u c m ws (length P) flow table) (k j : ℕ) (look : Looked m ws k j) (within : k < m) (s : ℕ) (l : s < length P) where
  low : j < m
  low = omega (arith, look.low)

  tells : Tells u c j (get_or ws j 0) (part_at c j)
  tells = word-tells b.held j low

  is : part_at c j ≡ bare (part_at c k)
  is = look.bared u c b.held

  right : (i : ℕ) → i < m → Labelled (length P) (member (row table i)) (Sat P (part_at c i))
  right i h = b.filled.rows i (omega (arith, b.held.held.counted))

  pub at-atom : code_in (get_or ws j 0) ≡ 0 → Silent P (bare (part_at c k)) s
  at-atom e = subst (λ (q : Condition). Silent P q s) is (atom-silent P u c j (get_or ws j 0) s (part_at c j) tells e)

  module _ (r : Rule) (f : Ruled (code_in (get_or ws j 0)) r) where
    pub at_other : (IsPath r → ⊥) → Silent P (bare (part_at c k)) s
    at_other n = subst (λ (q : Condition). Silent P q s) is (rule-silent P u c j (get_or ws j 0) s (part_at c j) tells r f n)

  module _ (o : Operator) (all back : Bool) (f : Ruled (code_in (get_or ws j 0)) (rule.Path o all back)) where
    pub at-quiet : member (row table j) s ≡ all → Silent P (bare (part_at c k)) s
    at-quiet e = subst (λ (q : Condition). Silent P q s) is (path-silent P u c j (get_or ws j 0) s (member (row table j) s) (part_at c j) tells ((right j low).exact s l) (rule.Path o all back) f e)

    module _ (n : code_in (get_or ws j 0) ≡ 0 → ⊥) where
      abbrev left : ℕ
      left = left_of (get_or ws j 0) j

      pub left-low : left < j
      left-low = (operands (uses_of P) P u c j (get_or ws j 0) (part_at c j) refl tells n).inside

      of_left : (t : ℕ) → t < length P → So (member (row table left)) t ↔ Sat P (part_at c left) t
      of_left t h = (right left (omega (arith, left-low, low))).exact t h

      of-before : (t : ℕ) → t < length P → So (member (row table (j - 1))) t ↔ Sat P (part_at c (j - 1)) t
      of-before t h = (right (j - 1) (omega (arith, low))).exact t h

      pub at-labelled : Labelled (length P) (member (row table j)) (SatRule (flow_steps (length P) (flow_at flow)) (rule.Path o all back) (So (member (row table left))) (So (member (row table (j - 1)))))
      at-labelled =
          let w = operands (uses_of P) P u c j (get_or ws j 0) (part_at c j) refl tells n in
          let e = f w.operation w.coded in
          let z = right j low in
          record {
            exact = λ t h.
                let a = z.exact t h in
                let d = rule-sat P (flow_at flow) b.flows (So (member (row table left))) (So (member (row table (j - 1)))) (Sat P (part_at c left)) (Sat P (part_at c (j - 1))) of_left of-before (rule.Path o all back) t h in
                let g = rw (← e) at (w.sat t) in
                ((λ x. d.1 (g.1 (a.0 x))), λ x. a.1 (g.0 (d.0 x)));
            beyond = z.beyond;
          }

      pub at-shown : (old new : List ℕ) (x turn : ℕ) → Witness (quant all) o (length P) (flow_steps (length P) (flow_at flow) (direction back)) (So (member (row table left))) (So (member (row table (j - 1)))) s old new x turn
          → Shows P (bare (part_at c k)) s old new x turn
      at-shown old new x turn w =
          subst (λ (q : Condition). Shows P q s old new x turn) is
          (rule-shows P u c j (get_or ws j 0) s old new x turn (part_at c j) tells (rule.Path o all back) f n
          (witness-model P flow b.flows (So (member (row table left))) (So (member (row table (j - 1)))) (Sat P (part_at c left)) (Sat P (part_at c (j - 1))) of_left of-before s l (quant all) o old new x turn back w))
