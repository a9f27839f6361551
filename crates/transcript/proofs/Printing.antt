-- What each piece adds to the text that was handed out before it. Assumes nothing.
use mathlib.Core.Path.{◌≡◌, refl, ap, sym, subst, ◌∙◌}
use mathlib.Core.Logic.{◌⊎◌, inl, inr}
use mathlib.Core.List.{List, [], ◌++◌, append-nil, append_assoc}
use mathlib.Core.Bool.{Bool, true, false, ◌&&◌}
use Prim.Native.Nat.{ℕ, ◌+◌, ◌-◌, ◌≤◌, ◌<◌}
use native.Mathlib.Omega.{arith}
use lib.Dec.{ltb}
use lib.ListN.{length}
use borrow.Author.Tests.{ltb-true, ltb-false}
use Rattle.statement_writer.specs.Writing.{Put}
use Rattle.statement_writer.proofs.Puts.{put-within, put-length}
use Rattle.language.specs.declared.Statement.{Statement}
use Rattle.program.specs.Reading.{Held, statements}
use Rattle.program.specs.declared.Program.{Program}
use Rattle.program.proofs.Held.{length-held}
use Rattle.machine.proofs.Runs.{stands-first}
use Rattle.run.specs.Run.{most_steps}
use Rattle.trace.specs.Trace.{column_heads, step_lines}
use Rattle.trace.specs.Stepping.{Left, Traced}
use Rattle.trace.specs.declared.Progress.{Progress}
use Rattle.trace.specs.declared.Stop.{Stop}
use Rattle.trace.specs.declared.Stop.TheVariants as stop
use Rattle.trace.proofs.Lines.{lines_then, lines-whole}
use Rattle.trace.proofs.Room.{heads-length}
use Rattle.outcome.specs.Outcome.{Runs, Result, Refusal}
use Rattle.transcript.specs.Transcript.{trace_lines, Lines, HandedAt, Handed, is_over, at_stage, pieces, left, transcript_room, Moves, Rest, Hands}
use Rattle.transcript.specs.Pieces.{RunRead, stage_after, ToldAt, Tells}
use Rattle.transcript.specs.declared.Stage.{Stage}
use Rattle.transcript.specs.declared.Stage.TheVariants.{Begin, Steps, Outcome, Ended, Refused}
use Rattle.transcript.specs.declared.Position.{Position}
use Rattle.transcript.specs.declared.Piece.{Piece}
use Rattle.transcript.specs.declared.Run.{Run}
use Rattle.outcome.proofs.Unique.{runs-unique, runs-refused, result-runs}

clash : false ≡ true → ⊥
clash e = let z : ◌≡◌ {A = ℕ} 0 1 = cc in omega arith

pub held-length : {p : Program} → Held p → length (statements p) ≡ p.count
held-length {p = p} h = length-held p.entries p.count (omega (arith, h.room, h.few))

-- b may come before the outcome: it is the lines of all steps, and nothing before a refusal
pub record Ready (t u : List ℕ) (trace : Bool) (b : List ℕ) : Type 0 where
  pub result : {w : List ℕ} (r : Result t u w) → b ≡ trace_lines trace r.run.finished.P r.values r.input r.budget
  pub refusal : {w : List ℕ} → Refusal t u w → b ≡ []

-- nothing comes before it without a trace, or where there is no run
pub ready-plain : (t u b : List ℕ) → b ≡ [] → Ready t u false b
ready-plain t u b e = record { result = λ r. e; refusal = λ f. e }

pub ready_refused : (t u b : List ℕ) → ((P : List Statement) (vs : List ℕ) (input budget : ℕ) → Runs t u P vs input budget → ⊥) → b ≡ [] → Ready t u true b
ready_refused t u b none e =
    record { result = λ r. absurd (none r.run.finished.P r.values r.input r.budget (result-runs r)); refusal = λ f. e }

ready-lines : {t u : List ℕ} {P : List Statement} {vs : List ℕ} {input budget : ℕ} {trace : Bool} (b : List ℕ) → Runs t u P vs input budget → trace ≡ true
    → b ≡ column_heads ++ step_lines P vs input 0 budget → Ready t u trace b
ready-lines b a e lines =
    record {
      result = λ r. let same = runs-unique (result-runs r) a in lines ∙ rw (e, same.0, same.1, same.2, same.3);
      refusal = λ f. absurd (runs-refused a f);
    }

-- the lines of all steps of a run that ended
pub ready-over : {t u : List ℕ} {trace : Bool} {k s : ℕ} {ws b : List ℕ} → (trace ≡ true) × Lines t u stop.Ended k s ws b → Ready t u trace b
ready-over {k = k} {b = b} (e, l) =
    let o = l.left in
    ready-lines b l.runs e (l.lines ∙ ap (λ (x : List ℕ). column_heads ++ x) (lines-whole l.P l.values l.input k l.budget o.final o.ends.over l.within))

-- and of one whose budget is spent
pub ready-spent : {t u : List ℕ} {trace : Bool} {k s : ℕ} {ws b : List ℕ} (h : (trace ≡ true) × Lines t u stop.Paused k s ws b) → h.1.budget ≤ k → Ready t u trace b
ready-spent {k = k} {b = b} (e, l) spent =
    let same : k ≡ l.budget = omega (arith, l.within) in
    ready-lines b l.runs e (l.lines ∙ ap (λ (n : ℕ). column_heads ++ step_lines l.P l.values l.input 0 n) same)

module _ {t u : List ℕ} {trace : Bool} (p : Position) (b : List ℕ) (h : HandedAt Steps t u trace p b) where
  -- lines of steps come of a run that isn't refused
  pub ready-none : ((P : List Statement) (vs : List ℕ) (input budget : ℕ) → Runs t u P vs input budget → ⊥) → Ready t u trace b
  ready-none none = absurd (none h.1.P h.1.values h.1.input h.1.budget h.1.runs)

  -- and where it has no further step, they are those of all its steps
  pub ready-done : {run : Run} → Runs t u (statements run.program) run.values run.input run.budget × Held run.program
      → (run.program.count ≤ p.at) ⊎ (run.budget ≤ p.done) → Ready t u trace b
  ready-done {run} r past = go past
    where
      same : (h.1.P ≡ statements run.program) × (h.1.values ≡ run.values) × (h.1.input ≡ run.input) × (h.1.budget ≡ run.budget)
      same = runs-unique h.1.runs r.0

      go : (run.program.count ≤ p.at) ⊎ (run.budget ≤ p.done) → Ready t u trace b
      go (inl x) = absurd (omega (arith, x, held-length r.1, h.1.left.0, ap length same.0))
      go (inr x) = ready-spent h (omega (arith, x, same.3))

moves-on : (p : Position) (r : Piece) → is_over p.stage ≡ false → left r.next < left p → Moves (is_over p.stage) p r
moves-on p r g h = subst (λ (b : Bool). Moves b p r) (sym g) h

going-left : (s : Stage) (k : ℕ) → is_over s ≡ false → 0 < pieces s k
going-left Begin k g = omega arith
going-left Steps k g = omega arith
going-left Outcome k g = omega arith
going-left Ended k g = absurd (clash (sym g))
going-left Refused k g = absurd (clash (sym g))

-- the outcome after what may come before it
module _ {t u : List ℕ} {trace : Bool} {p : Position} {o q : List ℕ} {r : Piece} (s : Stage) (e : p.stage ≡ s) (g : is_over s ≡ false) (room : transcript_room ≤ length o)
    (ready : (b : List ℕ) → HandedAt s t u trace p b → Ready t u trace b) where
  pub told-hands : Tells t u p o q r → Hands t u trace p o q r
  told-hands x = go x.stage x.next x.told
    where
      handed : (b : List ℕ) → Handed t u trace p b → Ready t u trace b
      handed b h = ready b (subst (λ (x : Stage). HandedAt x t u trace p b) e h)

      moved : left r.next ≡ 0 → Moves (is_over p.stage) p r
      moved z =
          let l : left p ≡ pieces s p.done = ap (λ (x : Stage). pieces x p.done) e in
          moves-on p r (ap is_over e ∙ g) (omega (arith, going-left s p.done g))

      go : (n : Stage) → r.next ≡ at_stage n p → ToldAt n t u o q r.bytes → Hands t u trace p o q r
      go Begin n y = absurd y
      go Steps n y = absurd y
      go Outcome n y = absurd y
      go Ended n y =
          record {
            w = y.w;
            put = y.put;
            fits = y.fits;
            reached = λ b h. rw n (record { w = y.w; result = y.told; text = ap (λ (l : List ℕ). l ++ y.w) ((handed b h).result y.told) });
            moves = λ l. moved (rw n);
            stays = λ l. absurd (omega arith);
            rest = rw n refl;
          }
      go Refused n y =
          record {
            w = y.w;
            put = y.put;
            fits = y.fits;
            reached = λ b h. rw (n, (handed b h).refusal y.told) y.told;
            moves = λ l. moved (rw n);
            stays = λ l. absurd (omega arith);
            rest = rw n refl;
          }

-- the run before its first statement, after the line over the columns
pub begin-hands : {t u o q : List ℕ} {p : Position} {P : List Statement} {vs : List ℕ} {input budget n : ℕ} → p.stage ≡ Begin → Runs t u P vs input budget
    → transcript_room ≤ length o → Put o 0 column_heads q n → Hands t u true p o q (record { bytes = n; next = record { stage = Steps; at = 0; done = 0; values = vs } })
unfolding step_lines
begin-hands {p = p} {P = P} {vs = vs} {input = input} {budget = budget} e a room put =
    let first = stands-first P vs input a.taken.program in
    record {
      w = column_heads;
      put = put;
      fits = omega (arith, heads-length);
      reached = λ b h.
          let none : b ≡ [] = rw e at h in (
            refl,
            record {
              P = P;
              values = vs;
              input = input;
              budget = budget;
              runs = a;
              within = omega arith;
              lines = rw none (sym (append-nil column_heads));
              left = (first.inside, first.state);
            },
          );
      moves = λ l. moves-on p _ (ap is_over e) (let z : left p ≡ 3 + most_steps = ap (λ (s : Stage). pieces s p.done) e in omega arith);
      stays = λ l. absurd (omega arith);
      rest = tt;
    }

-- what is handed out without a piece
pub nothing-hands : (t u o : List ℕ) (trace : Bool) (p : Position) (r : Piece) → r ≡ record { bytes = 0; next = p }
    → (length o < transcript_room) ⊎ (is_over p.stage ≡ true) → Hands t u trace p o o r
nothing-hands t u o trace p r e why =
    rw e
    (record {
      w = [];
      put = record { text = refl; after = refl };
      fits = omega arith;
      reached = λ b h. rw (append-nil b) h;
      moves = λ l. moved why l;
      stays = λ l. (refl, refl);
      rest = rested p.stage refl;
    })
  where
    moved : (length o < transcript_room) ⊎ (is_over p.stage ≡ true) → transcript_room ≤ length o → Moves (is_over p.stage) p (record { bytes = 0; next = p })
    moved (inl x) l = absurd (omega arith)
    moved (inr x) l = subst (λ (b : Bool). Moves b p (record { bytes = 0; next = p })) (sym x) (refl, refl)

    rested : (s : Stage) → p.stage ≡ s → Rest s p p
    rested Begin is = tt
    rested Steps is = tt
    rested Outcome is = tt
    rested Ended is = rw is
    rested Refused is = rw is

-- lines that were handed out are of the run that the texts ask for
lines_of : {t u : List ℕ} {e : Stop} {k s : ℕ} {ws b : List ℕ} {P : List Statement} {vs : List ℕ} {input budget : ℕ} (l : Lines t u e k s ws b) → Runs t u P vs input budget
    → (b ≡ column_heads ++ step_lines P vs input 0 k) × Left P vs input k e s ws
lines_of {e = e} {k = k} {s = s} {ws = ws} {b = b} {P = P} {vs = vs} {input = input} l a =
    let same = runs-unique l.runs a in
    go l.P l.values l.input l.lines l.left same.0 same.1 same.2
  where
    go : (Q : List Statement) (us : List ℕ) (j : ℕ) → b ≡ column_heads ++ step_lines Q us j 0 k → Left Q us j k e s ws → Q ≡ P → us ≡ vs → j ≡ input
        → (b ≡ column_heads ++ step_lines P vs input 0 k) × Left P vs input k e s ws
    go Q us j x y f g h = rw (← f, ← g, ← h) (x, y)

-- lines of further steps of a run that isn't refused
module _ {t u o q us : List ℕ} (trace : Bool) {P : List Statement} {vs : List ℕ} {input budget : ℕ} (a : Runs t u P vs input budget) (p : Position) (is : p.stage ≡ Steps)
    (room : transcript_room ≤ length o) (more : p.done < budget) (g : Progress Stop) (x : Traced P input budget p.done p.at p.values o q us g) where
  lines_more : (b : List ℕ) → Lines t u stop.Paused p.done p.at p.values b → Lines t u g.stop g.done g.at us (b ++ x.w)
  lines_more b l =
      let old = lines_of l a in
      let y = x.goes vs old.1.1 in
      record {
        P = P;
        values = vs;
        input = input;
        budget = budget;
        runs = a;
        within = x.within (omega arith);
        lines = rw (old.0, y.lines, y.counted)
            (append_assoc column_heads (step_lines P vs input 0 p.done) (step_lines P vs input p.done y.n)
            ∙ ap (λ (l : List ℕ). column_heads ++ l) (lines_then P vs input p.done y.n));
        left = y.left;
      }

  lines-moves : (e : Stop) → g.stop ≡ e → pieces (stage_after e) g.done < 2 + (most_steps - p.done)
  lines-moves stop.Ended e = omega arith
  lines-moves stop.Paused e = omega (arith, x.further (omega arith) more, a.allowed)

  lines-handed : (e : Stop) → g.stop ≡ e → trace ≡ true → (b : List ℕ) → Lines t u e g.done g.at us b
      → HandedAt (stage_after e) t u trace (record { stage = stage_after e; at = g.at; done = g.done; values = us }) b
  lines-handed stop.Ended e traced b l = (traced, l)
  lines-handed stop.Paused e traced b l = (traced, l)

  lines_rest : (e : Stop) (n : Position) → Rest (stage_after e) p n
  lines_rest stop.Ended n = tt
  lines_rest stop.Paused n = tt

  pub lines-hand : Hands t u trace p o q (record { bytes = g.bytes; next = record { stage = stage_after g.stop; at = g.at; done = g.done; values = us } })
  lines-hand =
      record {
        w = x.w;
        put = x.put;
        fits = x.fits;
        reached = λ b h.
            let l : (trace ≡ true) × Lines t u stop.Paused p.done p.at p.values b = subst (λ (s : Stage). HandedAt s t u trace p b) is h in
            lines-handed g.stop refl l.0 (b ++ x.w) (lines_more b l.1);
        moves = λ l.
            let z : left p ≡ 2 + (most_steps - p.done) = ap (λ (s : Stage). pieces s p.done) is in
            moves-on p _ (ap is_over is) (omega (arith, lines-moves g.stop refl));
        stays = λ l. absurd (omega arith);
        rest = lines_rest g.stop (record { stage = stage_after g.stop; at = g.at; done = g.done; values = us });
      }

-- what a caller's loop asks: the piece lies within the lent bytes, and before the end one that has room leaves fewer
module _ {t u o q : List ℕ} {trace : Bool} {p : Position} {r : Piece} (h : Hands t u trace p o q r) where
  pub hands-length : length q ≡ length o
  hands-length = put-length h.put

  pub hands-within : r.bytes ≤ length q
  hands-within = put-within h.put h.fits

  pub hands-fewer : transcript_room ≤ length o → is_over p.stage ≡ false → left r.next < left p
  hands-fewer room g = subst (λ (b : Bool). Moves b p r) g (h.moves room)
