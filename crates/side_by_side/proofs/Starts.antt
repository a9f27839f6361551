-- The first piece: a refusal, or the counts of the marks. Assumes nothing.
use mathlib.Core.Path.{◌≡◌, refl, ap, ◌∙◌}
use mathlib.Core.Bool.{Bool, true, false}
use mathlib.Core.List.{List, append-nil}
use Prim.Native.Nat.{ℕ, ◌≤◌, ◌<◌}
use native.Mathlib.Omega.{arith}
use lib.ListN.{length}
use Rattle.statement_writer.specs.Writing.{Put}
use Rattle.statement_writer.proofs.Puts.{put_front}
use Rattle.program.proofs.Lengths.{text-fits}
use Rattle.machine.proofs.Runs.{stands-first}
use Rattle.marks.proofs.Lists.{taken-unique}
use Rattle.rewriting.specs.Verdicts.{accepted_count}
use Rattle.judge.specs.Judge.{Lent, JudgeFinished}
use Rattle.priced.proofs.Reports.{new-within}
use Rattle.desk.specs.Refusals.{refusal_text}
use Rattle.start_refusal.specs.StartRefusal.{start_text}
use Rattle.std.specs.Prelude.{Ok, Err}
use Rattle.start.specs.Start.{StartTaken, StartWrong}
use Rattle.start.specs.declared.Wrong.{Wrong}
use Rattle.start.proofs.Unique.{taken_wrong}
use Rattle.liveness.specs.Liveness.{LiveIn}
use Rattle.comparison.specs.Lines.{both_lines}
use Rattle.heading.specs.Heading.{heading_text, HeadRefused, HeadJudged}
use Rattle.side_by_side.specs.SideBySide.{at_stage, HandedAt, ahead_at, stays, Kept, Prints}
use Rattle.side_by_side.specs.declared.Stage.{Stage}
use Rattle.side_by_side.specs.declared.Stage.TheVariants.{Begin, Steps, Closing, Ended, Refused}
use Rattle.side_by_side.specs.declared.Position.{Position}
use Rattle.side_by_side.specs.declared.Piece.{Piece}
use Rattle.side_by_side.proofs.Pieces.{piece-put, none_kept, handed-at, stays-prints, printed}

abbrev begins : Stage → Bool
begins Begin = true
begins Steps = false
begins Closing = false
begins Ended = false
begins Refused = false

-- a start that is wrong
module _ (t m u : List ℕ) (p : Position) (w : List ℕ) (a : Wrong) (read : StartWrong u a) where
  -- no run stands anywhere
  not_taken : {i j : ℕ} {vs : List ℕ} → StartTaken u i j vs → ⊥
  not_taken s = taken_wrong s a read

  never : (s : Stage) → begins s ≡ false → (b : List ℕ) → HandedAt t m u s p w b → 0 < ahead_at s p.done → ⊥
  never Begin n b h l = let z : ◌≡◌ {A = ℕ} 0 1 = cc in omega arith
  never Steps n b h l = not_taken h.runs.start
  never Closing n b h l = not_taken h.1.runs.start
  never Ended n b h l = omega arith
  never Refused n b h l = omega arith

  pub stays-refused : {o : List ℕ} {r : Piece} (s : Stage) → p.stage ≡ s → begins s ≡ false → r ≡ stays p → Prints t m u p w w o o r
  stays-refused {o = o} s e n is = stays-prints t m u p w o is (λ b h l. never s n b (handed-at t m u p w b e h) (rw e at l))

  pub refused-start : {o q : List ℕ} {r : Piece} {n : ℕ} → p.stage ≡ Begin → r ≡ record { bytes = n; next = at_stage Refused }
      → Put o 0 (start_text a) q n → n ≤ length o → Prints t m u p w w o q r
  refused-start {o = o} {n = n} e is put within =
      let fits : length (start_text a) ≤ length o = omega (arith, put.after) in
      rw is
      (printed t m u p w w (record { bytes = n; next = at_stage Refused }) (start_text a) (piece-put put fits) (put_front put fits) (none_kept w) (rw e (omega arith))
      (λ b h.
      let g : HandedAt t m u Begin p w b = handed-at t m u p w b e h in
      ((refl, record { answer = Err a; read = read; refuses = rw g.1 refl }), rw e (omega arith))))

-- the heading
module _ (t m u : List ℕ) {w v o q : List ℕ} {n input budget : ℕ} {values : List ℕ} (start : StartTaken u input budget values) where
  pub refused-heading : {r : Piece} → r ≡ record { bytes = n; next = at_stage Refused } → HeadRefused t m budget o q n → v ≡ w → Prints t m u (at_stage Begin) w v o q r
  refused-heading is h e =
      rw (is, e)
      (printed t m u (at_stage Begin) w w (record { bytes = n; next = at_stage Refused }) (refusal_text h.n h.line)
      (piece-put h.put h.fits) (put_front h.put h.fits) (none_kept w) (omega arith)
      (λ b g. (
        (
          refl,
          record {
            answer = Ok (record { input = input; budget = budget; values = values });
            read = start;
            refuses = record { n = h.n; line = h.line; refused = h.refused; blamed = h.blamed; text = rw g.1 };
          },
        ),
        omega arith,
      )))

-- what judging leaves in the lent bytes
pub judged-kept : {t m : List ℕ} {lent left : Lent} {count accepted bytes : ℕ} → JudgeFinished t m lent left count accepted bytes → Kept lent.new left.new
judged-kept {left = left} {bytes = bytes} f =
    let d = f.demand.taken in
    record {
      n = bytes;
      few = omega (arith, f.written.after, ap length (put_front f.written f.fits), ap length d.lines, text-fits d.program);
      put = piece-put f.written f.fits;
    }

-- both runs stand before the first statement
abbrev pub first_step : List ℕ → ℕ → List ℕ → Position
first_step values bytes live = record { stage = Steps; at = 0; done = 0; values = values; others = values; bytes = bytes; live = live }

module _ (t m u : List ℕ) {w v o q : List ℕ} {n bytes input budget : ℕ} {values : List ℕ} (start : StartTaken u input budget values)
    (h : HeadJudged t m budget w v o q n bytes) {live : List ℕ} (found : LiveIn t live) where
  abbrev marked : List ℕ
  marked = heading_text (length h.judged.demand.ms) (accepted_count h.judged.demand.ms h.left.verdicts)

  counts-told : heading_text h.count h.accepted ≡ marked
  counts-told =
      let f = h.judged in
      let e = taken-unique f.marks f.demand.listed in
      rw (f.counted, f.taken, e)

  judged-prints : Prints t m u (at_stage Begin) h.lent.new h.left.new o q (record { bytes = n; next = first_step values bytes live })
  unfolding both_lines
  judged-prints =
      let f = h.judged in
      let d = f.demand in
      let x = stands-first d.P values input d.given.program in
      let y = stands-first d.Q values input d.taken.program in
      printed t m u (at_stage Begin) h.lent.new h.left.new (record { bytes = n; next = first_step values bytes live }) marked
      (piece-put h.put h.fits) (put_front h.put h.fits ∙ counts-told) (judged-kept f) (omega arith)
      (λ b g. (
        record {
          within = new-within f;
          runs = record { input = input; budget = budget; values = values; start = start; allowed = h.allowed; verdicts = h.left.verdicts; demand = d };
          done = omega arith;
          stand = record { inside = x.inside; given = x.state; rewritten = y.state };
          live = found.taken d.P d.given;
          text = rw (g.1, append-nil marked);
        },
        omega arith,
      ))

  pub judged-heading : {r : Piece} → r ≡ record { bytes = n; next = first_step values bytes live } → Prints t m u (at_stage Begin) w v o q r
  judged-heading is = rw (is, ← h.before, ← h.after) judged-prints
