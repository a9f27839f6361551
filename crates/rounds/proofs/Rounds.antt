-- The theorem of Wish 11: by induction on the calls. Assumes nothing.
use Rattle.std.specs.Prelude.{Result}
use mathlib.Core.Path.{◌≡◌, sym, ap, subst}
use mathlib.Core.Logic.{inl, inr}
use mathlib.Core.List.{List}
use Prim.Native.Nat.{ℕ, ◌*◌, ◌≤◌, ◌<◌}
use native.Mathlib.Decide.{ℕ_discrete}
use native.Mathlib.Omega.{arith}
use lib.ListN.{length}
use lib.Seq.{length-sets}
use Rattle.language.specs.Spelling.{variables}
use Rattle.language.specs.declared.Statement.{Statement}
use Rattle.program.specs.Program.{Taken}
use Rattle.program.proofs.RoundTrip.{taken-unique}
use Rattle.machine.specs.Machine.{after}
use Rattle.lockstep.specs.Lockstep.{Together}
use Rattle.lockstep.proofs.Answers.{together-same, together-then, answers-together}
use Rattle.run.specs.Run.{most_steps, RunAnswers}
use Rattle.execution.specs.declared.Outcome.{Outcome}
use Rattle.run.specs.declared.Refusal as run
use Rattle.pricing.specs.Prices.{in_force}
use Rattle.demand.specs.Demand.{RunsAlike, Demand3}
use Rattle.demand.proofs.Demand.{called-answers}
use Rattle.stages.specs.Stages.{stage_bytes, place_room, place, written, Stands, Holds}
use Rattle.stages.specs.Choice.{Chosen}
use Rattle.stages.proofs.Places.{stands-name}
use Rattle.keep.specs.Keep.{KeepFinished}
use Rattle.keep.proofs.Keeps.{finished-kept}
use Rattle.go_back.proofs.Unique.{held-returned}
use Rattle.rounds.specs.Rounds.{Reached, start, round, other, refused, Claim}

-- ---- the stage is as it was

-- a stage that is kept under another name takes no place of this one, and makes none stand before it
module _ {mem m p next n t : List ℕ} {k told : ℕ} (f : KeepFinished mem m p next told) (apart : m ≡ n → ⊥) (h : Holds mem k n t) where
  elsewhere : k ≡ f.k → ⊥
  elsewhere e = go f.chosen
    where
      go : Chosen mem m f.k → ⊥
      go (inl (u, g)) = apart (stands-name g.stands (rw e at h.stands))
      go (inr (new, first)) = first.empty n t (rw e at h)

  still-holds : Holds next k n t
  still-holds = record {
    inside = h.inside;
    stands = rw (finished-kept f k h.inside elsewhere) h.stands;
    first = λ j l u s. before j l u s (ℕ_discrete j f.k);
  }
    where
      before : (j : ℕ) → j < k → (u : List ℕ) → Stands (place next j) n u → Dec (j ≡ f.k) → ⊥
      before j l u s (yes e) = apart (stands-name f.holds.stands (rw e at s))
      before j l u s (no e) = h.first j l u (rw (finished-kept f j (let i = h.inside in omega arith) e) at s)

pub record Held (n t mem : List ℕ) : Type 0 where
  pub k : ℕ
  pub room : stage_bytes ≤ length mem
  pub holds : Holds mem k n t

still-held : {n t mem w : List ℕ} → Reached n t mem w → Held n t mem
still-held (start mem k room h) = record { k = k; room = room; holds = h }
still-held (round mem w u o q judged r j) = still-held r
still-held (other mem w m p next k r apart f) =
    let h = still-held r in
    record { k = h.k; room = omega (arith, h.room, ap length f.kept, length-sets mem (place_room * f.k) (written m p)); holds = still-holds f apart h.holds }
still-held (refused mem w m p next r reached a) = subst (Held _ _) (sym a.1) (still-held reached)

-- ---- the text that is reached is taken, and runs as the stage's

pub record Runs (t w : List ℕ) : Type 0 where
  pub P : List Statement
  pub Q : List Statement
  pub given : Taken t P
  pub taken : Taken w Q
  pub together : (vs : List ℕ) → length vs ≡ variables → (input k : ℕ) → Together (after P vs input k) (after Q vs input k)

-- one round more
runs_then : {t w u bs v : List ℕ} → Runs t w → Demand3 w u bs v → Runs t v
runs_then r d = record {
  P = r.P;
  Q = d.Q;
  given = r.given;
  taken = d.taken;
  together = λ vs l input k.
      let same : d.P ≡ r.Q = taken-unique d.given r.taken in
      together-then (after r.P vs input k) (after r.Q vs input k) (after d.Q vs input k) (r.together vs l input k)
      (subst (λ (X : List Statement). Together (after X vs input k) (after d.Q vs input k)) same (d.together vs l input k));
}

reached-runs : {n t mem w : List ℕ} → Reached n t mem w → Runs t w
reached-runs (start mem k room h) =
    let s = h.stands in
    record { P = s.P; Q = s.P; given = s.taken; taken = s.taken; together = λ vs l input i. together-same (after s.P vs input i) }
reached-runs (round mem w u o q judged r j) = runs_then (reached-runs r) j.demand
reached-runs (other mem w m p next k r apart f) = reached-runs r
reached-runs (refused mem w m p next r reached a) = reached-runs reached

-- ---- the claim

pub rounds : Claim
rounds n t mem w reached = record {
  P = r.P;
  Q = r.Q;
  returned = λ o q a room x. held-returned mem n o h.holds q a (h.room, room) x;
  given = r.given;
  taken = r.taken;
  together = r.together;
  alike = alike;
}
  where
    h : Held n t mem
    h = still-held reached

    r : Runs t w
    r = reached-runs reached

    alike :
        (ps vs : List ℕ) → length vs ≡ variables → (input budget : ℕ) → budget ≤ most_steps → (a b : Result Outcome run.Refusal)
        → RunAnswers ps t vs input budget a → RunAnswers ps w vs input budget b → RunsAlike a b
    alike ps vs l input budget allowed a b p q =
        let x = called-answers r.given ps vs input budget allowed a p in
        let y = called-answers r.taken ps vs input budget allowed b q in
        rw (x.1, y.1)
        (answers-together r.P r.Q vs input (r.together vs l input) (in_force ps) budget x.0.answer y.0.answer x.0.values y.0.values x.0.kept y.0.kept x.2 y.2)
