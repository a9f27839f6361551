-- The lines of steps, piece by piece. Assumes nothing.
use mathlib.Core.Path.{◌≡◌, refl, ap, sym, ◌∙◌}
use mathlib.Core.Logic.{◌⊎◌, inl, inr}
use mathlib.Core.List.{List, ◌++◌, append-nil, append_assoc}
use Prim.Native.Nat.{ℕ, zero, suc, ◌+◌, ◌-◌, ◌≤◌, ◌<◌}
use native.Mathlib.Omega.{arith}
use lib.ListN.{length, take}
use Rattle.language.specs.declared.Statement.{Statement}
use Rattle.statement_writer.proofs.Puts.{put_front}
use Rattle.program.specs.Program.{Taken}
use Rattle.program.specs.Reading.{statements, Held}
use Rattle.program.specs.declared.Program.{Program}
use Rattle.program.proofs.Held.{length-held}
use Rattle.program.proofs.RoundTrip.{taken-unique}
use Rattle.machine.specs.Machine.{Final, ended, after}
use Rattle.machine.proofs.Unique.{ended-stays}
use Rattle.rewriting.specs.Verdicts.{accepted_count}
use Rattle.heading.specs.Heading.{heading_text}
use Rattle.start.specs.Start.{StartTaken}
use Rattle.start.proofs.Unique.{start-unique}
use Rattle.comparison.specs.Lines.{both_lines}
use Rattle.comparison.specs.Stepping.{line_room, BothEnded, Compared, Stepped}
use Rattle.trace.specs.declared.Progress.{Progress}
use Rattle.comparison.specs.declared.Stop.{Stop}
use Rattle.comparison.specs.declared.Stop.TheVariants as stop
use Rattle.side_by_side.specs.SideBySide.{Runs, lines_text, StepsTold, AllTold, at_stage, stays, Prints}
use Rattle.side_by_side.specs.declared.Stage.TheVariants.{Steps, Closing, Refused}
use Rattle.side_by_side.specs.declared.Position.{Position}
use Rattle.side_by_side.specs.declared.Piece.{Piece}
use Rattle.side_by_side.proofs.Pieces.{none_kept, kept-within, handed-at, stays-prints, printed}

-- the lines of two runs
module _ (P Q : List Statement) (vs : List ℕ) (input : ℕ) where
  -- those of further steps follow those of the first
  lines-append : (k n : ℕ) → both_lines P Q vs input 0 k ++ both_lines P Q vs input k n ≡ both_lines P Q vs input 0 (k + n)
  unfolding both_lines
  lines-append k zero = let e : k + 0 ≡ k = omega arith in rw (e, append-nil)
  lines-append k (suc n) =
      let e : k + suc n ≡ suc (k + n) = omega arith in
      let z : 0 + (k + n) ≡ k + n = omega arith in
      rw (e, z, ← append_assoc, lines-append k n)

  -- after the end there is none
  lines-idle : (n d : ℕ) (v : Final) → after P vs input n ≡ ended v → both_lines P Q vs input 0 (n + d) ≡ both_lines P Q vs input 0 n
  unfolding both_lines
  lines-idle n zero v e = let f : n + 0 ≡ n = omega arith in rw f
  lines-idle n (suc d) v e =
      let f : n + suc d ≡ suc (n + d) = omega arith in
      let z : 0 + (n + d) ≡ n + d = omega arith in
      rw (f, z, ended-stays P vs input n v d e, append-nil) (lines-idle n d v e)

  all_lines : (n budget : ℕ) (v : Final) → n ≤ budget → after P vs input n ≡ ended v → both_lines P Q vs input 0 n ≡ both_lines P Q vs input 0 budget
  all_lines n budget v h e = let f : n + (budget - n) ≡ budget = omega arith in sym (rw f at (lines-idle n (budget - n) v e))

abbrev lines_of : {t m u x : List ℕ} → Runs t m u x → ℕ → List ℕ
lines_of r n = both_lines r.demand.P r.demand.Q r.values r.input 0 n

join : (c x y : List ℕ) {b z k : List ℕ} → b ≡ c ++ x → k ≡ y → x ++ y ≡ z → b ++ k ≡ c ++ z
join c x y e f g = rw (e, f, append_assoc, g)

stepped-of : {P Q R S : List Statement} {live : List ℕ} {i j b d k s : ℕ} {us zs o q vs ws : List ℕ} {r : Progress Stop} → R ≡ P → S ≡ Q → j ≡ i → d ≡ b
    → Stepped P Q live i b k s us zs o q vs ws r → Stepped R S live j d k s us zs o q vs ws r
stepped-of e f g h x = rw (e, f, g, h) x

-- a piece of lines, where P and Q are the programs that were read
module _ (t m u : List ℕ) (p : Position) (w : List ℕ) {o q : List ℕ} {P Q : List Statement} {input budget : ℕ} {values vs ws : List ℕ} {r : Progress Stop}
    (here : p.stage ≡ Steps) (start : StartTaken u input budget values) (one : Taken t P) (two : Taken (take p.bytes w) Q)
    (walk : Stepped P Q p.live input budget p.done p.at p.values p.others o q vs ws r) where
  module _ {b : List ℕ} (s : StepsTold t m u p w b) where
    same-budget : s.runs.budget ≡ budget
    same-budget = (start-unique s.runs.start start).1

    compared : Compared s.runs.demand.P s.runs.demand.Q s.runs.values s.runs.input s.runs.budget p.done o q vs ws r
    compared =
        let d = s.runs.demand in
        let e = start-unique s.runs.start start in
        (stepped-of (taken-unique d.given one) (taken-unique d.taken two) e.0 e.1 walk).compared d.together s.live s.runs.values s.runs.start.size s.stand

    -- live variables agree
    agrees : r.stop ≡ stop.Apart → ⊥
    agrees e = compared.differs e (s.runs.demand.traces s.runs.values s.runs.start.size s.runs.input r.done)

    lines-told : b ++ take r.bytes q ≡ lines_text s.runs r.done
    lines-told =
        let c = compared in
        let d = s.runs.demand in
        let v = s.runs.values in
        let i = s.runs.input in
        join (heading_text (length d.ms) (accepted_count d.ms s.runs.verdicts))
        (both_lines d.P d.Q v i 0 p.done) (both_lines d.P d.Q v i p.done c.n)
        s.text (put_front c.put (omega (arith, c.put.after, kept-within walk.kept)))
        (lines-append d.P d.Q v i p.done c.n ∙ ap (both_lines d.P d.Q v i 0) (sym c.counted))

    steps-told : r.stop ≡ stop.Paused
        → StepsTold t m u (record { stage = Steps; at = r.at; done = r.done; values = vs; others = ws; bytes = p.bytes; live = p.live }) w (b ++ take r.bytes q)
    steps-told e = record { within = s.within; runs = s.runs; done = compared.within s.done; stand = rw e at compared.left; live = s.live; text = lines-told }

    no-lines-left : (r.stop ≡ stop.Ended) ⊎ (budget ≤ r.done)
        → lines_of s.runs r.done ≡ lines_of s.runs s.runs.budget
    no-lines-left (inl e) =
        let x : BothEnded s.runs.demand.P s.runs.demand.Q s.runs.values s.runs.input r.done r.at vs ws = rw e at compared.left in
        all_lines s.runs.demand.P s.runs.demand.Q s.runs.values s.runs.input r.done s.runs.budget x.final (compared.within s.done) x.given
    no-lines-left (inr l) =
        let e : r.done ≡ s.runs.budget = omega (arith, same-budget, compared.within s.done) in
        ap (lines_of s.runs) e

    all_told : (r.stop ≡ stop.Ended) ⊎ (budget ≤ r.done) → AllTold t m u (b ++ take r.bytes q)
    all_told h = record { x = take p.bytes w; runs = s.runs; text = rw (← no-lines-left h) lines-told }

    falls : r.stop ≡ stop.Paused → r.done < budget → line_room ≤ length o → (p.done < r.done) × (r.done ≤ s.runs.budget)
    falls e l room =
        let c = compared in
        (c.further room agrees (omega (arith, same-budget, c.counted)), c.within s.done)

  pub more-steps : {z : Piece} → z ≡ record { bytes = r.bytes; next = record { stage = Steps; at = r.at; done = r.done; values = vs; others = ws; bytes = p.bytes; live = p.live } }
      → r.stop ≡ stop.Paused → r.done < budget → line_room ≤ length o → Prints t m u p w w o q z
  more-steps is e l room =
      rw is
      (printed t m u p w w (record { bytes = r.bytes; next = record { stage = Steps; at = r.at; done = r.done; values = vs; others = ws; bytes = p.bytes; live = p.live } })
      (take r.bytes q) walk.kept refl (none_kept w) (rw here (omega arith))
      (λ b h.
      let s : StepsTold t m u p w b = handed-at t m u p w b here h in
      (steps-told s e, rw here (omega (arith, (falls s e l room).0, (falls s e l room).1, s.runs.allowed)))))

  pub last-steps : {z : Piece} → z ≡ record { bytes = r.bytes; next = at_stage Closing } → (r.stop ≡ stop.Ended) ⊎ (budget ≤ r.done) → Prints t m u p w w o q z
  last-steps is e =
      rw is
      (printed t m u p w w (record { bytes = r.bytes; next = at_stage Closing }) (take r.bytes q) walk.kept refl (none_kept w) (rw here (omega arith))
      (λ b h. let s : StepsTold t m u p w b = handed-at t m u p w b here h in ((refl, all_told s e), rw here (omega arith))))

  pub never-apart : {z : Piece} → z ≡ record { bytes = r.bytes; next = at_stage Refused } → r.stop ≡ stop.Apart → Prints t m u p w w o q z
  never-apart is e =
      rw is
      (printed t m u p w w (record { bytes = r.bytes; next = at_stage Refused }) (take r.bytes q) walk.kept refl (none_kept w) (rw here (omega arith))
      (λ b h. absurd (agrees (handed-at t m u p w b here h) e)))

-- at which positions no lines are told
module _ (t m u : List ℕ) (p : Position) (w : List ℕ) {o : List ℕ} {z : Piece} (here : p.stage ≡ Steps) (is : z ≡ stays p) where
  pub never-steps : ((b : List ℕ) → StepsTold t m u p w b → ⊥) → Prints t m u p w w o o z
  never-steps f = stays-prints t m u p w o is (λ b h l. f b (handed-at t m u p w b here h))

-- both programs that were read have the same line count, and the place lies within
module _ {t m u : List ℕ} {p : Position} {w b : List ℕ} {P Q : List Statement} (s : StepsTold t m u p w b) (one : Taken t P) (two : Taken (take p.bytes w) Q) where
  pub same_count : length Q ≡ length P
  same_count = rw (taken-unique two s.runs.demand.taken, taken-unique one s.runs.demand.given) s.runs.demand.rewritten.same

  pub place_inside : p.at < length P
  place_inside = rw (taken-unique one s.runs.demand.given) s.stand.inside

pub count_of : {p : Program} → Held p → length (statements p) ≡ p.count
count_of {p = p} h = length-held p.entries p.count (omega (arith, h.room, h.few))
