-- Steps of two runs, one line after another; by demand 3 they stand before the same statement. Assumes nothing.
use mathlib.Core.Path.{◌≡◌, refl, ap, sym, ◌∙◌}
use mathlib.Core.Logic.{◌⊎◌, inl, inr}
use mathlib.Core.List.{List}
use Prim.Native.Nat.{ℕ, suc, ◌+◌, ◌≤◌, ◌<◌}
use native.Mathlib.Omega.{arith}
use native.Mathlib.Numerals.{add-one}
use borrow.Author.Count.{below_more}
use lib.ListN.{length, take}
use Rattle.language.specs.Spelling.{variables}
use Rattle.statement_writer.specs.Writing.{Put}
use Rattle.language.specs.declared.Statement.{Statement}
use Rattle.statement_writer.proofs.Puts.{put_then, put_front, put-length}
use Rattle.program.specs.Program.{WellFormed}
use Rattle.program.specs.Reading.{statements}
use Rattle.program.specs.declared.Program.{Program}
use Rattle.program.proofs.Held.{held, at_held}
use Rattle.machine.specs.Machine.{Final, State, before, ended, perform, after}
use Rattle.machine.specs.Answer.{state_of}
use Rattle.machine.specs.declared.Next.{Next}
use Rattle.machine.specs.declared.Next.TheVariants.{Goto, Finish, Fault}
use Rattle.machine.proofs.Runs.{Stands, step_after, step-inside}
use Rattle.lockstep.specs.Lockstep.{Agree, Side, Together}
use Rattle.lockstep.proofs.Answers.{ended-beside}
use Rattle.trace.proofs.Walk.{goes-inside}
use Rattle.liveness.specs.Liveness.{LiveRows}
use Rattle.comparison.specs.Lines.{pair_line, both_line, both_lines, values_in}
use Rattle.comparison.specs.Stepping.{line_room, InStep, BothStand, Left, Compared, Stepped}
use Rattle.trace.specs.declared.Progress.{Progress}
use Rattle.comparison.specs.declared.Stop.{Stop}
use Rattle.comparison.specs.declared.Stop.TheVariants.{Paused, Ended, Apart}
use Rattle.comparison.proofs.Values.{values-kept}

-- where the second run's step leads, if both are together after it
together-goto : (t : ℕ) (b : Next) (us zs : List ℕ) → Together (before t us) (state_of b zs) → b ≡ Goto t
together-goto t (Goto u) us zs h = ap Goto (sym h.0)
together-goto t (Finish w) us zs h = absurd h
together-goto t (Fault w) us zs h = absurd h

-- the lines of the steps after the first k, up to step j, stand in r up to `to`, and both runs stand before place s
pub record SoFar (P Q : List Statement) (start : List ℕ) (input k j s : ℕ) (vs ws o r : List ℕ) (to : ℕ) : Type 0 where
  pub n : ℕ
  pub counted : j ≡ k + n
  pub put : Put o 0 (both_lines P Q start input k n) r to
  pub given : Stands P start input j s vs
  pub rewritten : Stands Q start input j s ws
  pub agreed : (i : ℕ) → i < n → Side (Agree P) (after P start input (k + i)) (after Q start input (k + i))

-- whatever the runs are, the bytes written are kept; the same of the lines, where both runs reached the first states
pub record Going (p q : Program) (live : List ℕ) (input budget k s₀ : ℕ) (vs₀ ws₀ o r vs ws : List ℕ) (s j to : ℕ) : Type 0 where
  pub inside : s < length (statements p)
  pub same : length r ≡ length o
  pub fits : to ≤ length o
  pub kept : Put o 0 (take to r) r to
  pub further : ((j ≡ k) × (to ≡ 0)) ⊎ (k < j)
  pub within : k ≤ budget → j ≤ budget
  pub told : InStep (statements p) (statements q) → LiveRows (statements p) live → (start : List ℕ) → length start ≡ variables
      → BothStand (statements p) (statements q) start input k s₀ vs₀ ws₀ → SoFar (statements p) (statements q) start input k j s vs ws o r to

pub not-gone : (p q : Program) (live : List ℕ) (input budget k s : ℕ) (vs ws o : List ℕ) → s < length (statements p) → length (statements q) ≡ length (statements p)
    → Going p q live input budget k s vs ws o o vs ws s k 0
unfolding both_lines
not-gone p q live input budget k s vs ws o h same =
    record {
      inside = h;
      same = refl;
      fits = omega arith;
      kept = record { text = refl; after = refl };
      further = inl (refl, refl);
      within = λ l. l;
      told = λ st rows start l b.
          record {
            n = 0;
            counted = omega arith;
            put = record { text = refl; after = refl };
            given = record { inside = h; state = b.given };
            rewritten = record { inside = omega arith; state = b.rewritten };
            agreed = λ i l. absurd (omega arith);
          };
    }

-- one text more behind those that are kept
pub kept_more : {o r e w : List ℕ} {to end : ℕ} → Put o 0 (take to r) r to → Put r to w e end → end ≤ length o → Put o 0 (take end e) e end
kept_more {o = o} {end = end} a b h = let c = put_then a b in rw (put_front c (omega (arith, c.after))) c

-- one step more of each, after a test of the live variables
module _ (p q : Program) (live : List ℕ) (input s : ℕ) (vs ws us zs : List ℕ) (next new : Next)
    (one : state_of next us ≡ perform (held p.entries s) input s vs) (two : state_of new zs ≡ perform (held q.entries s) input s ws)
    (a : WellFormed (statements p)) (b : WellFormed (statements q))
    (tested : LiveRows (statements p) live → length vs ≡ variables → length ws ≡ variables → Agree (statements p) s vs ws) where
  module _ {start : List ℕ} {k j : ℕ} {o r : List ℕ} {to : ℕ} (i : SoFar (statements p) (statements q) start input k j s vs ws o r to)
      (st : InStep (statements p) (statements q)) (rows : LiveRows (statements p) live) (l : length start ≡ variables) where
    given-after : after (statements p) start input (j + 1) ≡ state_of next us
    given-after = step_after p start input j s vs us next i.given one

    rewritten-after : after (statements q) start input (j + 1) ≡ state_of new zs
    rewritten-after = step_after q start input j s ws zs new i.rewritten two

    -- by demand 3 they lead the same way
    leads-together : Together (state_of next us) (state_of new zs)
    leads-together = rw (given-after, rewritten-after) at (st start l input (j + 1))

    -- before it they agree
    agreed-more : (m : ℕ) → m < i.n + 1 → Side (Agree (statements p)) (after (statements p) start input (k + m)) (after (statements q) start input (k + m))
    agreed-more =
        let P = statements p in
        let Q = statements q in
        let here : Side (Agree P) (after P start input j) (after Q start input j) =
        rw (i.given.state, i.rewritten.state) (refl, tested rows (values-kept l i.given) (values-kept l i.rewritten)) in
        below_more (λ m. Side (Agree P) (after P start input (k + m)) (after Q start input (k + m))) i.n i.agreed (rw i.counted at here)

    line-more : {e : List ℕ} {end : ℕ} (xs ys : List ℕ) → values_in (state_of next us) vs ≡ xs → values_in (state_of new zs) ws ≡ ys
        → Put r to (pair_line (j + 1) s (held p.entries s) (held q.entries s) xs ys) e end
        → Put o 0 (both_lines (statements p) (statements q) start input k (i.n + 1)) e end
    unfolding both_lines
    line-more {e = e} {end = end} xs ys f g w =
        let P = statements p in
        let Q = statements q in
        let h = at_held p.entries p.count s i.given.inside in
        let m = at_held q.entries q.count s i.rewritten.inside in
        let c : k + i.n ≡ j = sym i.counted in
        let line : both_line P Q input (j + 1) (before s vs) (before s ws) ≡ pair_line (j + 1) s (held p.entries s) (held q.entries s) xs ys =
        rw (h, m, ← one, ← two, f, g) in
        let more : Put r to (both_line P Q input (suc (k + i.n)) (after P start input (k + i.n)) (after Q start input (k + i.n))) e end =
        rw (c, i.given.state, i.rewritten.state, ← add-one j, line) w in
        rw add-one (put_then i.put more)

    goes_on : {e : List ℕ} {end : ℕ} (t : ℕ) → next ≡ Goto t → Put r to (pair_line (j + 1) s (held p.entries s) (held q.entries s) us zs) e end
        → SoFar (statements p) (statements q) start input k (j + 1) t us zs o e end
    goes_on t f w =
        let g : new ≡ Goto t = together-goto t new us zs (rw f at leads-together) in
        record {
          n = i.n + 1;
          counted = omega (arith, i.counted);
          put = line-more us zs (ap (λ (x : Next). values_in (state_of x us) vs) f) (ap (λ (x : Next). values_in (state_of x zs) ws) g) w;
          given = step-inside p start input j s vs us next i.given one t a f;
          rewritten = step-inside q start input j s ws zs new i.rewritten two t b g;
          agreed = agreed-more;
        }

    ends : {budget end : ℕ} {e : List ℕ} (v : Final) (d : Progress Stop) → d.done ≡ j + 1 → d.bytes ≡ end → d.at ≡ s → d.stop ≡ Ended → state_of next us ≡ ended v
        → j < budget → Put r to (pair_line (j + 1) s (held p.entries s) (held q.entries s) vs ws) e end
        → Compared (statements p) (statements q) start input budget k o e vs ws d
    ends v d done bytes at over f h w =
        let g : state_of new zs ≡ ended v = ended-beside (state_of next us) (state_of new zs) v leads-together f in
        record {
          n = i.n + 1;
          counted = omega (arith, done, i.counted);
          put = rw bytes (line-more vs ws (ap (λ (x : State). values_in x vs) f) (ap (λ (x : State). values_in x ws) g) w);
          left = rw (over, done, at)
              (record {
                steps = j;
                counted = add-one j;
                last = record { inside = i.given.inside; given = i.given.state; rewritten = i.rewritten.state };
                final = v;
                given = given-after ∙ f;
                rewritten = rewritten-after ∙ g;
              });
          agreed = agreed-more;
          within = λ x. omega arith;
          differs = λ e g. let z : Ended ≡ Apart = sym over ∙ e in cc;
          stops = λ e. let z : Ended ≡ Paused = sym over ∙ e in cc;
          further = λ x y g. omega (arith, i.counted);
        }

  module _ {budget k s₀ j : ℕ} {vs₀ ws₀ o r : List ℕ} {to : ℕ} (i : Going p q live input budget k s₀ vs₀ ws₀ o r vs ws s j to) (h : j < budget) where
    pub going_more : {e : List ℕ} {end : ℕ} (t : ℕ) → next ≡ Goto t → to + line_room ≤ length o → end ≤ to + line_room
        → Put r to (pair_line (j + 1) s (held p.entries s) (held q.entries s) us zs) e end → Going p q live input budget k s₀ vs₀ ws₀ o e us zs t (j + 1) end
    going_more t f room short w =
        record {
          inside = goes-inside p input s vs us next one t a i.inside f;
          same = put-length w ∙ i.same;
          fits = omega arith;
          kept = kept_more i.kept w (omega arith);
          further = inr (omega (arith, later i.further));
          within = λ x. omega arith;
          told = λ st rows start l x. goes_on (i.told st rows start l x) st rows l t f w;
        }
      where
        later : ((j ≡ k) × (to ≡ 0)) ⊎ (k < j) → k ≤ j
        later (inl x) = omega (arith, x.0)
        later (inr x) = omega arith

    pub ended-step : {e : List ℕ} {end : ℕ} (v : Final) (d : Progress Stop) → d.done ≡ j + 1 → d.bytes ≡ end → d.at ≡ s → d.stop ≡ Ended → state_of next us ≡ ended v
        → end ≤ length o → Put r to (pair_line (j + 1) s (held p.entries s) (held q.entries s) vs ws) e end
        → Stepped (statements p) (statements q) live input budget k s₀ vs₀ ws₀ o e vs ws d
    ended-step v d done bytes at over f fits w =
        record {
          kept = rw bytes (kept_more i.kept w fits);
          compared = λ st rows start l x. ends (i.told st rows start l x) st rows l v d done bytes at over f h w;
        }

-- runs that stop without an end stand before a statement
stands : {P Q : List Statement} {start vs ws : List ℕ} {input : ℕ} (d : Progress Stop) → (d.stop ≡ Paused) ⊎ (d.stop ≡ Apart)
    → BothStand P Q start input d.done d.at vs ws → Left P Q start input d.done d.stop d.at vs ws
stands d (inl e) b = rw e b
stands d (inr e) b = rw e b

-- they stop where they stand, and where a live variable differs
module _ {p q : Program} {live : List ℕ} {input budget k s₀ : ℕ} {vs₀ ws₀ o r vs ws : List ℕ} {s j to : ℕ} (i : Going p q live input budget k s₀ vs₀ ws₀ o r vs ws s j to) where
  pub stopped : (d : Progress Stop) → d.done ≡ j → d.bytes ≡ to → d.at ≡ s → (d.stop ≡ Paused) ⊎ (d.stop ≡ Apart) → ((d.stop ≡ Apart → ⊥) → (budget ≤ j) ⊎ (length o < to + line_room))
      → (d.stop ≡ Apart → LiveRows (statements p) live → length vs ≡ variables → length ws ≡ variables → Agree (statements p) s vs ws → ⊥)
      → Stepped (statements p) (statements q) live input budget k s₀ vs₀ ws₀ o r vs ws d
  stopped d done bytes at not why apart = record {
    kept = rw bytes i.kept;
    compared = λ st rows start l x.
        let f = i.told st rows start l x in
        record {
          n = f.n;
          counted = done ∙ f.counted;
          put = rw bytes f.put;
          left = stands d not (rw (done, at) (record { inside = i.inside; given = f.given.state; rewritten = f.rewritten.state }));
          agreed = f.agreed;
          within = λ w. rw done (i.within w);
          differs = λ e g.
              apart e rows (values-kept l f.given) (values-kept l f.rewritten) (rw (done, f.given.state, f.rewritten.state) at g).1;
          stops = λ e. rw (done, bytes) (why (λ g. let z : Paused ≡ Apart = sym e ∙ g in cc));
          further = λ w y g. rw done (go i.further (why y) w g);
        };
  }
    where
      go : ((j ≡ k) × (to ≡ 0)) ⊎ (k < j) → (budget ≤ j) ⊎ (length o < to + line_room) → line_room ≤ length o → k < budget → k < j
      go (inr x) why w g = x
      go (inl x) (inl y) w g = omega (arith, x.0)
      go (inl x) (inr y) w g = omega (arith, x.1)
