-- The theorem of Wish 9: the joined text is taken, runs as the road program does and then as the creeper program does, and `run` answers so.
-- Assumes nothing.
use Rattle.std.specs.Prelude.{Result, Ok}
use mathlib.Core.Path.{◌≡◌, refl, sym, ap, ◌∙◌, subst}
use mathlib.Core.List.{List}
use Prim.Native.Nat.{ℕ, ◌+◌, ◌-◌, ◌≤◌}
use native.Mathlib.Omega.{arith}
use lib.ListN.{length, get_or}
use mir.Syntax.{w32}
use mir.Val.{to_z}
use Rattle.language.specs.Kept.{kept_of}
use Rattle.language.specs.declared.Statement.{Statement}
use Rattle.program.specs.Program.{text, most, at, Taken}
use Rattle.program.proofs.RoundTrip.{taken-unique}
use Rattle.pricing.specs.Prices.{in_force}
use Rattle.machine.specs.Machine.{Final, written, faulted, before, after}
use Rattle.machine.specs.Ticks.{ticks}
use Rattle.machine.specs.Answer.{Ends, Answers}
use Rattle.machine.specs.declared.Answer.{Answer}
use Rattle.machine.specs.declared.Answer.TheVariants.{Ended, Fault, Spent}
use Rattle.machine.proofs.Unique.{end-unique}
use Rattle.run.specs.Run.{most_steps, RunFinished, RunAnswers}
use Rattle.execution.specs.declared.Outcome.{Outcome}
use Rattle.run.specs.declared.Refusal.{Refusal}
use Rattle.run.proofs.Unique.{run-unique}
use Rattle.joining.specs.Joining.{writes, joined}
use Rattle.joining.specs.Runs.{shift_end, shift, JoinedRuns}
use Rattle.joining.proofs.Runs.{joined-runs, last_written, onward}
use Rattle.joining.proofs.WellFormed.{joined-wellformed}
use Rattle.join.specs.Answers.{Goes, Unended, RoadEnds}
use Rattle.join.specs.Theorem.{JoinedTexts}

abbrev outcome : Answer → List ℕ → List ℕ → Outcome
outcome a ws ks = record { answer = a; values = ws; kept = ks }

-- a call of `run` with the text of a program answers what the program's run answers
module _ {t : List ℕ} {P : List Statement} (taken : Taken t P) (ps vs : List ℕ) (input budget : ℕ) where
  answered : (o : Outcome) → budget ≤ most_steps → Answers (in_force ps) P vs input budget o.answer o.values o.kept
      → (r : Result Outcome Refusal) → RunAnswers ps t vs input budget r → r ≡ Ok o
  answered o allowed h r g = run-unique ps t vs input budget r (Ok o) g (record { P = P; allowed = allowed; taken = taken; answers = h })

  answers_of : {a : Answer} {ws ks : List ℕ} → RunFinished ps t vs input budget a ws ks → Answers (in_force ps) P vs input budget a ws ks
  answers_of {a} {ws} {ks} f = subst (λ (Q : List Statement). Answers (in_force ps) Q vs input budget a ws ks) (taken-unique f.taken taken) f.answers

module _ {t u : List ℕ} {P Q : List Statement} (p : Taken t P) (q : Taken u Q) (few : length P + length Q ≤ most + 1) where
  abbrev J : List Statement
  J = joined P Q

  abbrev d : ℕ
  d = length P - 1

  pub joined-taken : Taken (text J) J
  joined-taken = record { lines = refl; program = joined-wellformed p.program q.program few }

  module _ (ps vs : List ℕ) (input : ℕ) where
    runs : JoinedRuns P Q J vs input
    runs = joined-runs P Q p.program q.program vs input

    -- ---- the road spent, or at a fault

    road-goes : (budget : ℕ) → budget ≤ most_steps → (a : Answer) (ws ks : List ℕ) → Answers (in_force ps) P vs input budget a ws ks → Unended a → Goes ps (text J) vs input budget 0 0 a ws ks
    road-goes budget allowed (Ended x k t) ws ks h n r g = absurd n
    road-goes budget allowed (Fault m k t) ws ks (s, e, within, is, same, kept, paid) n r g =
        let c : ℕ = ticks (in_force ps) J vs input k in
        let o = outcome (Fault m k c) ws ks in
        let there : m ≡ 0 + m = omega arith in
        let then : k ≡ 0 + k = omega arith in
        (o, answered joined-taken ps vs input budget o allowed (s, runs.road_faults k s e, within, is, same, kept, refl) r g, (c, cc (there, then)))
    road-goes budget allowed (Spent m t) ws ks (s, is, stands, same, paid) n r g =
        let c : ℕ = ticks (in_force ps) J vs input budget in
        let o = outcome (Spent m c) ws ks in
        let there : m ≡ 0 + m = omega arith in
        (o, answered joined-taken ps vs input budget o allowed (s, is, runs.road budget s ws stands, same, refl) r g, (c, cc there, refl))

    road : (budget : ℕ) (a : Answer) (ws ks : List ℕ) → RunFinished ps t vs input budget a ws ks → Unended a → Goes ps (text J) vs input budget 0 0 a ws ks
    road budget a ws ks f n = road-goes budget f.allowed a ws ks (answers_of p ps vs input budget f) n

    -- ---- the road at its end

    module _ (k v : ℕ) (ks : List ℕ) (e : Ends P vs input k (written v ks)) where
      ends-onward : (m : ℕ) (f : Final) → Ends Q e.left v m f → Ends J vs input (k - 1 + m) (shift_end d f)
      ends-onward m f c = let same : k - 1 + m ≡ k + m - 1 = omega (arith, e.counted) in rw same (runs.both_end k v ks e m f c)

      stands-onward : (m s : ℕ) (us : List ℕ) → after Q e.left v m ≡ before s us → after J vs input (k - 1 + m) ≡ before (d + s) us
      stands-onward m s us h =
          let same : k - 1 + m ≡ e.steps + m = omega (arith, e.counted) in
          rw same (onward P Q p.program q.program vs input k v ks e m ∙ ap (shift d) h)

      goes : (budget : ℕ) → k - 1 + budget ≤ most_steps → (a : Answer) (ws gs : List ℕ) → Answers (in_force ps) Q e.left v budget a ws gs
          → Goes ps (text J) vs input (k - 1 + budget) d (k - 1) a ws gs
      goes budget allowed (Ended x m t) ws gs (y, o, within, is, same, paid) r g =
          let c : ℕ = ticks (in_force ps) J vs input (k - 1 + m) in
          let b = outcome (Ended x (k - 1 + m) c) vs gs in
          let h : Answers (in_force ps) J vs input (k - 1 + budget) b.answer vs gs = (y, ends-onward m (written y gs) o, omega arith, is, refl, refl) in
          (b, answered joined-taken ps vs input (k - 1 + budget) b allowed h r g, (c, refl, refl))
      goes budget allowed (Fault n m t) ws gs (s, o, within, is, same, kept, paid) r g =
          let c : ℕ = ticks (in_force ps) J vs input (k - 1 + m) in
          let b = outcome (Fault (d + n) (k - 1 + m) c) vs (kept_of vs) in
          let h : Answers (in_force ps) J vs input (k - 1 + budget) b.answer vs (kept_of vs) = (d + s, ends-onward m (faulted s) o, omega arith, omega arith, refl, refl, refl) in
          (b, answered joined-taken ps vs input (k - 1 + budget) b allowed h r g, (c, refl))
      goes budget allowed (Spent n t) ws gs (s, is, stands, same, paid) r g =
          let c : ℕ = ticks (in_force ps) J vs input (k - 1 + budget) in
          let b = outcome (Spent (d + n) c) ws (kept_of vs) in
          let h : Answers (in_force ps) J vs input (k - 1 + budget) b.answer ws (kept_of vs) = (d + s, omega arith, stands-onward budget s ws stands, refl, refl) in
          (b, answered joined-taken ps vs input (k - 1 + budget) b allowed h r g, (c, refl, refl))

      -- the values told one step short of the end are those that the road left
      left-told : (a : Answer) (left hs : List ℕ) → Answers (in_force ps) P vs input (k - 1) a left hs → left ≡ e.left
      left-told (Ended x m t) left hs (y, c, within, is, same, paid) = absurd (omega (arith, (end-unique P vs input m k _ _ c e).0, e.counted))
      left-told (Fault n m t) left hs (s, c, within, is, same, kept, paid) = absurd (omega (arith, (end-unique P vs input m k _ _ c e).0, e.counted))
      left-told (Spent n t) left hs (s, is, stands, same, paid) =
          let one : k - 1 ≡ e.steps = omega (arith, e.counted) in
          let there : after P vs input e.steps ≡ before s left = rw one at stands in
          let z : before s left ≡ before e.last e.left = sym there ∙ e.stands in
          cc

    creeper : (k v : ℕ) (left : List ℕ) → RoadEnds ps t (writes (at P d)) vs input k v left → (budget : ℕ) → k - 1 + budget ≤ most_steps
        → (a : Answer) (ws gs : List ℕ) → RunFinished ps u left v budget a ws gs → Goes ps (text J) vs input (k - 1 + budget) d (k - 1) a ws gs
    creeper k v left ends budget allowed a ws gs f = go (answers_of p ps vs input ends.budget ends.ends)
      where
        go : Answers (in_force ps) P vs input ends.budget (Ended (to_z w32 v) k ends.paid) ends.values ends.kept → Goes ps (text J) vs input (k - 1 + budget) d (k - 1) a ws gs
        go (y, e, within, is, same, paid) =
            let l : left ≡ e.left = left-told k y ends.kept e ends.told left ends.beside (answers_of p ps vs input (k - 1) ends.short) in
            let n : v ≡ y = ends.value ∙ ap (λ (us : List ℕ). get_or us (writes (at P d)) 0) l ∙ sym (last_written P Q p.program q.program vs input k y ends.kept e).1 in
            let h : Answers (in_force ps) Q e.left y budget a ws gs = rw (l, n) at (answers_of q ps left v budget f) in
            goes k y ends.kept e budget allowed a ws gs h

  pub joined-texts : JoinedTexts t u (text J)
  joined-texts = record {
    P = P;
    Q = Q;
    road = p;
    creeper = q;
    taken = joined-taken;
    runs = joined-runs P Q p.program q.program;
    answers = λ ps vs input. record { road = road ps vs input; creeper = creeper ps vs input };
  }
