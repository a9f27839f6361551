-- Steps of a run, one line after another. Assumes nothing.
use mathlib.Core.Path.{◌≡◌, refl, ap, sym, ◌∙◌}
use mathlib.Core.Logic.{◌⊎◌, inl, inr}
use mathlib.Core.List.{List, [], ◌++◌}
use Prim.Native.Nat.{ℕ, suc, max, ◌+◌, ◌≤◌, ◌<◌}
use native.Mathlib.Decide.{dec_lt}
use native.Mathlib.Omega.{arith}
use native.Mathlib.Numerals.{add-one}
use lib.ListN.{length}
use Rattle.statement_writer.specs.Writing.{Put}
use Rattle.language.specs.declared.Statement.{Statement}
use Rattle.statement_writer.proofs.Puts.{put_then, put-length}
use Rattle.program.specs.Program.{at, WellFormed}
use Rattle.program.specs.Reading.{statements}
use Rattle.program.specs.declared.Program.{Program}
use Rattle.program.proofs.Held.{held, at_held}
use Rattle.machine.specs.Machine.{Final, State, before, ended, perform, after}
use Rattle.machine.specs.Answer.{state_of}
use Rattle.machine.specs.declared.Next.{Next}
use Rattle.machine.specs.declared.Next.TheVariants.{Goto}
use Rattle.machine.proofs.Runs.{Stands, perform-inside, step_after, step-inside}
use Rattle.trace.specs.Trace.{assignment, assigned_in, line_text, step_line, step_lines}
use Rattle.trace.specs.Stepping.{line_room, Goes, Traced}
use Rattle.trace.specs.declared.Progress.{Progress}
use Rattle.trace.specs.declared.Stop.{Stop}
use Rattle.trace.specs.declared.Stop.TheVariants.{Paused, Ended}

-- where a loop over the steps from `done` to the budget is through
pub through : (done budget k : ℕ) → (budget < done → k ≡ done) → (done ≤ budget → k ≤ budget) → budget ≤ k → max done budget ≡ k
through done budget k over under h = by (dec_lt budget done)
  where
    by : Dec (budget < done) → max done budget ≡ k
    by (yes x) = omega (arith, over x)
    by (no x) = let y : done ≤ budget = omega arith in omega (arith, under y)

-- w is the lines of the steps after the first k, up to step j, and the run stands before place s
pub record SoFar (P : List Statement) (start : List ℕ) (input k j s : ℕ) (vs w : List ℕ) : Type 0 where
  pub n : ℕ
  pub counted : j ≡ k + n
  pub lines : w ≡ step_lines P start input k n
  pub stands : Stands P start input j s vs

-- the text w stands in q up to `to`, and is those lines for each run that reached the first state
pub record Going (p : Program) (input budget k s₀ : ℕ) (vs₀ o q vs : List ℕ) (s j to : ℕ) : Type 0 where
  pub w : List ℕ
  pub put : Put o 0 w q to
  pub inside : s < length (statements p)
  pub same : length q ≡ length o
  pub fits : to ≤ length o
  pub further : ((j ≡ k) × (to ≡ 0)) ⊎ (k < j)
  pub within : k ≤ budget → j ≤ budget
  pub told : (start : List ℕ) → after (statements p) start input k ≡ before s₀ vs₀ → SoFar (statements p) start input k j s vs w

pub not-gone : (p : Program) (input budget k s : ℕ) (vs o : List ℕ) → s < length (statements p) → Going p input budget k s vs o o vs s k 0
unfolding step_lines
not-gone p input budget k s vs o h =
    record {
      w = [];
      put = record { text = refl; after = refl };
      inside = h;
      same = refl;
      fits = omega arith;
      further = inl (refl, refl);
      within = λ l. l;
      told = λ start e. record { n = 0; counted = omega arith; lines = refl; stands = record { inside = h; state = e } };
    }

not-before : {j k to : ℕ} → ((j ≡ k) × (to ≡ 0)) ⊎ (k < j) → k ≤ j
not-before (inl x) = omega (arith, x.0)
not-before (inr x) = omega arith

-- one step more, where `told` is what `step` says of its answer and the values us that it leaves
module _ (p : Program) (input s : ℕ) (vs us : List ℕ) (next : Next) (told : state_of next us ≡ perform (held p.entries s) input s vs) where
  module _ {start : List ℕ} {k j : ℕ} {w : List ℕ} (i : SoFar (statements p) start input k j s vs w) where
    -- the line of the step tells what its state says was assigned
    line-more : (a : List ℕ) → assigned_in (held p.entries s) vs (state_of next us) ≡ a → w ++ line_text (j + 1) s (held p.entries s) a ≡ step_lines (statements p) start input k (i.n + 1)
    unfolding step_lines
    line-more a e =
        let P = statements p in
        let h = at_held p.entries p.count s i.stands.inside in
        let c : k + i.n ≡ j = sym i.counted in
        let line : step_line P input (j + 1) (before s vs) ≡ line_text (j + 1) s (held p.entries s) a = rw (h, ← told, e) in
        let more : step_line P input (suc (k + i.n)) (after P start input (k + i.n)) ≡ line_text (j + 1) s (held p.entries s) a =
        rw (c, i.stands.state, ← add-one j) line in
        rw (add-one i.n, more, i.lines)

    goes_on : (t : ℕ) → WellFormed (statements p) → next ≡ Goto t → SoFar (statements p) start input k (j + 1) t us (w ++ line_text (j + 1) s (held p.entries s) (assignment (held p.entries s) vs us))
    goes_on t well e =
        record {
          n = i.n + 1;
          counted = omega (arith, i.counted);
          lines = line-more (assignment (held p.entries s) vs us) (ap (λ (x : Next). assigned_in (held p.entries s) vs (state_of x us)) e);
          stands = step-inside p start input j s vs us next i.stands told t well e;
        }

    goes_over : (v : Final) (b : Progress Stop) → b.done ≡ j + 1 → b.at ≡ s → b.stop ≡ Ended → state_of next us ≡ ended v
        → Goes (statements p) start input k (w ++ line_text (j + 1) s (held p.entries s) []) vs b
    goes_over v b d a z e =
        record {
          n = i.n + 1;
          counted = omega (arith, d, i.counted);
          lines = line-more [] (ap (λ (x : State). assigned_in (held p.entries s) vs x) e);
          left = rw (z, d, a)
              (record {
                final = v;
                ends =
                    record {
                      last = s;
                      left = vs;
                      steps = j;
                      counted = add-one j;
                      stands = i.stands.state;
                      over = step_after p start input j s vs us next i.stands told ∙ e;
                    };
                place = refl;
                values = refl;
              });
        }

  pub goes-inside : (t : ℕ) → WellFormed (statements p) → s < length (statements p) → next ≡ Goto t → t < length (statements p)
  goes-inside t w h e =
      perform-inside (length (statements p)) s input t vs us (at (statements p) s) w.counted.0 (w.placed s h) (w.aimed s h)
      (rw (at_held p.entries p.count s h) (sym told ∙ ap (λ (x : Next). state_of x us) e))

  module _ {budget k s₀ j : ℕ} {vs₀ o q r : List ℕ} {to end : ℕ} (i : Going p input budget k s₀ vs₀ o q vs s j to) (h : j < budget)
      (room : to + line_room ≤ length o) (short : end ≤ to + line_room) where
    pub going_more : (t : ℕ) → WellFormed (statements p) → next ≡ Goto t
        → Put q to (line_text (j + 1) s (held p.entries s) (assignment (held p.entries s) vs us)) r end → Going p input budget k s₀ vs₀ o r us t (j + 1) end
    going_more t w e l =
        record {
          w = i.w ++ line_text (j + 1) s (held p.entries s) (assignment (held p.entries s) vs us);
          put = put_then i.put l;
          inside = goes-inside t w i.inside e;
          same = put-length l ∙ i.same;
          fits = omega arith;
          further = inr (omega (arith, not-before i.further));
          within = λ x. omega arith;
          told = λ start x. goes_on (i.told start x) t w e;
        }

    pub ends : (v : Final) (b : Progress Stop) → b.done ≡ j + 1 → b.bytes ≡ end → b.at ≡ s → b.stop ≡ Ended → state_of next us ≡ ended v
        → Put q to (line_text (j + 1) s (held p.entries s) []) r end → Traced (statements p) input budget k s₀ vs₀ o r vs b
    ends v b d y a z e l =
        let whole = put_then i.put l in
        record {
          w = i.w ++ line_text (j + 1) s (held p.entries s) [];
          put = rw y whole;
          fits = omega (arith, whole.after);
          goes = λ start x. goes_over (i.told start x) v b d a z e;
          within = λ x. omega (arith, d);
          stops = λ x. let g : Ended ≡ Paused = sym z ∙ x in cc;
          further = λ x g. omega (arith, d, not-before i.further);
        }

-- it stops where it stands
module _ {p : Program} {input budget k s₀ : ℕ} {vs₀ o q vs : List ℕ} {s j to : ℕ} (i : Going p input budget k s₀ vs₀ o q vs s j to) where
  pub stopped : (b : Progress Stop) → b.done ≡ j → b.bytes ≡ to → b.at ≡ s → b.stop ≡ Paused → (budget ≤ j) ⊎ (length o < to + line_room)
      → Traced (statements p) input budget k s₀ vs₀ o q vs b
  stopped b d y a z why =
      record {
        w = i.w;
        put = rw y i.put;
        fits = omega (arith, i.put.after, i.fits);
        goes = λ start e.
            let f = i.told start e in
            record { n = f.n; counted = d ∙ f.counted; lines = f.lines; left = rw (z, d, a) (f.stands.inside, f.stands.state) };
        within = λ w. rw d (i.within w);
        stops = λ x. rw (d, y) why;
        further = λ w g. rw d (go i.further why w g);
      }
    where
      go : ((j ≡ k) × (to ≡ 0)) ⊎ (k < j) → (budget ≤ j) ⊎ (length o < to + line_room) → line_room ≤ length o → k < budget → k < j
      go (inr x) why w g = x
      go (inl x) (inl y) w g = omega (arith, x.0)
      go (inl x) (inr y) w g = omega (arith, x.1)
