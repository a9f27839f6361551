-- Under every budget the given and the changed program answer alike, and keep the same: what one run answers, the run beside it answers too, and of one run
-- two answers are the same. So it is of any two runs that are together, and runs that are together with one are so with each other. Assumes nothing.
use mathlib.Core.Path.{◌≡◌, refl, sym, ◌∙◌, ap, subst}
use mathlib.Core.List.{List}
use Prim.Native.Nat.{ℕ}
use native.Mathlib.Omega.{arith}
use lib.ListN.{length}
use Rattle.language.specs.Spelling.{variables}
use Rattle.language.specs.declared.Statement.{Statement}
use Rattle.program.specs.Program.{WellFormed}
use Rattle.machine.specs.Machine.{Final, State, before, ended, after}
use Rattle.machine.specs.Ticks.{ticks}
use Rattle.machine.specs.Answer.{Ends, Answers}
use Rattle.machine.specs.declared.Answer.{Answer}
use Rattle.machine.specs.declared.Answer.TheVariants.{Ended, Fault, Spent}
use Rattle.machine.proofs.Unique.{answer-unique}
use Rattle.lockstep.specs.Lockstep.{Changed, Together, Alike}
use Rattle.lockstep.proofs.Lockstep.{together}

stands-beside : (a b : State) (s : ℕ) (us : List ℕ) → Together a b → a ≡ before s us → (ws : List ℕ) × (b ≡ before s ws)
stands-beside (before t vs) (before r ws) s us h e = let same : t ≡ s = cc in (ws, ap (λ (q : ℕ). before q ws) (sym h.0 ∙ same))
stands-beside (before t vs) (ended v) s us h e = absurd h
stands-beside (ended v) (before r ws) s us h e = absurd h
stands-beside (ended v) (ended u) s us h e = absurd (let z : ◌≡◌ {A = ℕ} 0 1 = cc in omega arith)

pub ended-beside : (a b : State) (v : Final) → Together a b → a ≡ ended v → b ≡ ended v
ended-beside (before t vs) (before r ws) v h e = absurd (let z : ◌≡◌ {A = ℕ} 0 1 = cc in omega arith)
ended-beside (before t vs) (ended u) v h e = absurd h
ended-beside (ended u) (before r ws) v h e = absurd h
ended-beside (ended u) (ended r) v h e = cc

-- ---- of three runs

pub together-same : (a : State) → Together a a
together-same (before s vs) = (refl, tt)
together-same (ended v) = refl

pub together-then : (a b c : State) → Together a b → Together b c → Together a c
together-then (before s vs) b c h g =
    let there = stands-beside (before s vs) b s vs h refl in
    rw (stands-beside b c s there.0 g there.1).1 (refl, tt)
together-then (ended v) b c h g = rw (ended-beside b c v g (ended-beside (ended v) b v h refl)) refl

-- ---- what two runs answer

module _ (P Q : List Statement) (vs : List ℕ) (input : ℕ) (beside : (k : ℕ) → Together (after P vs input k) (after Q vs input k)) where
  ends-beside : (k : ℕ) (v : Final) → Ends P vs input k v → Ends Q vs input k v
  ends-beside k v e =
      let there = stands-beside (after P vs input e.steps) (after Q vs input e.steps) e.last e.left (beside e.steps) e.stands in
      record {
        last = e.last;
        left = there.0;
        steps = e.steps;
        counted = e.counted;
        stands = there.1;
        over = ended-beside (after P vs input k) (after Q vs input k) v (beside k) e.over;
      }

  -- what the run beside answers, with ticks of its own
  answers-beside :
      (ps : List ℕ) (budget : ℕ) (a : Answer) (ws ks : List ℕ) → Answers ps P vs input budget a ws ks
      → (b : Answer) × (us : List ℕ) × Answers ps Q vs input budget b us ks × Alike a b
  answers-beside ps budget (Ended x k t) ws ks (v, e, l, is, same, paid) =
      (Ended x k (ticks ps Q vs input k), vs, (v, ends-beside k _ e, l, is, refl, refl), (refl, refl))
  answers-beside ps budget (Fault n k t) ws ks (s, e, l, is, same, kept, paid) =
      (Fault n k (ticks ps Q vs input k), vs, (s, ends-beside k _ e, l, is, refl, kept, refl), (refl, refl))
  answers-beside ps budget (Spent n t) ws ks (s, is, stands, same, paid) =
      let there = stands-beside (after P vs input budget) (after Q vs input budget) s ws (beside budget) stands in
      (Spent n (ticks ps Q vs input budget), there.0, (s, is, there.1, same, refl), refl)

  pub answers-together :
      (ps : List ℕ) (budget : ℕ) (a b : Answer) (ws us ks hs : List ℕ) → Answers ps P vs input budget a ws ks → Answers ps Q vs input budget b us hs → Alike a b × (ks ≡ hs)
  answers-together ps budget a b ws us ks hs p q =
      let there = answers-beside ps budget a ws ks p in
      let one = answer-unique Q vs input ps budget there.0 b there.1 us ks hs there.2 q in
      (subst (Alike a) one.0 there.3, one.2)

pub answers-alike :
    {U : ℕ → ℕ → Type 0} {P Q : List Statement} → WellFormed P → Changed U P Q → (vs : List ℕ) → length vs ≡ variables → (input : ℕ) (ps : List ℕ) (budget : ℕ)
    (a b : Answer) (ws us ks hs : List ℕ) → Answers ps P vs input budget a ws ks → Answers ps Q vs input budget b us hs → Alike a b × (ks ≡ hs)
answers-alike {P = P} {Q = Q} w changed vs l input = answers-together P Q vs input (together w changed vs l input)
