-- The outcomes. Assumes nothing.
use mathlib.Core.Path.{◌≡◌, refl, ap, sym, ◌∙◌}
use mathlib.Core.Logic.{inl, inr, ⊎_elim, ◌↔◌}
use mathlib.Core.List.{List, ◌++◌}
use Prim.Native.Nat.{ℕ, ◌<◌}
use native.Mathlib.Omega.{arith}
use lib.ListN.{length, get_or, take}
use Rattle.language.specs.Spelling.{variables}
use Rattle.language.specs.declared.Statement.{Statement}
use Rattle.statement_writer.proofs.Puts.{put_front}
use Rattle.program.specs.Program.{text}
use Rattle.program.proofs.RoundTrip.{taken-unique}
use Rattle.program.proofs.Unique.{taken_refused}
use Rattle.marks.specs.declared.Mark.{Mark}
use Rattle.marks.proofs.Lists as marks
use Rattle.marks.specs.Marks.{mark_at}
use Rattle.rewriting.specs.Verdicts.{Judged, Widened, Rewritten}
use Rattle.rewriting.specs.declared.Verdict.TheVariants.{Accepted}
use Rattle.rewriting.proofs.Accepted.{rewritten-unique}
use Rattle.run.specs.Run.{most_steps}
use Rattle.judge.specs.Judge.{Room, Lent, JudgeRefused, JudgeFinished}
use Rattle.demand.specs.Demand.{Demand3}
use Rattle.start.specs.Start.{StartTaken}
use Rattle.start.proofs.Unique.{start-unique}
use Rattle.closing.specs.Closing.{closing_text, TraceAlike, Closes}
use Rattle.side_by_side.specs.SideBySide.{AllTold, Comparison, at_stage, HandedAt, stays, Prints}
use Rattle.side_by_side.specs.declared.Stage.TheVariants.{Closing, Ended}
use Rattle.side_by_side.specs.declared.Position.{Position}
use Rattle.side_by_side.specs.declared.Piece.{Piece}
use Rattle.side_by_side.proofs.Pieces.{piece-put, handed-at, stays-prints, printed}
use Rattle.side_by_side.proofs.Starts.{judged-kept}

-- which marks are accepted leaves one rewritten program only
abbrev AcceptedBy : List Statement → List Mark → List ℕ → Type 0
AcceptedBy P ms vs = (j : ℕ) → j < length ms → (get_or vs j 0 ≡ 0) ↔ Judged (Widened P ms) P (take j ms) (mark_at ms j) Accepted

made-unique : {P Q R : List Statement} {ms : List Mark} {vs us : List ℕ} → AcceptedBy P ms vs → AcceptedBy P ms us → Rewritten P ms vs Q → Rewritten P ms us R → Q ≡ R
made-unique a b q r =
    rewritten-unique q
    (record {
      same = r.same;
      made = λ j h. r.made j (h.0, (b j h.0).1 ((a j h.0).0 h.1));
      kept = λ s l none. r.kept s l (λ j h e. none j (h.0, (a j h.0).1 ((b j h.0).0 h.1)) e);
    })

-- so a program and a list have one new text
demand-text : {t m vs us x y : List ℕ} → Demand3 t m vs x → Demand3 t m us y → x ≡ y
demand-text {us = us} d e =
    let p = taken-unique d.given e.given in
    let k = marks.taken-unique d.listed e.listed in
    let accepted : AcceptedBy d.P d.ms us = rw (p, k) e.accepted in
    let rewritten : Rewritten d.P d.ms us e.Q = rw (p, k) e.rewritten in
    d.taken.lines ∙ ap text (made-unique d.accepted accepted d.rewritten rewritten) ∙ sym e.taken.lines

-- what demand 3 says of the steps from one start
pub trace-alike : {t m vs x : List ℕ} → Demand3 t m vs x → (values : List ℕ) → length values ≡ variables → (input : ℕ) → TraceAlike t x values input
trace-alike d values l input P Q one two k = rw (taken-unique one d.given, taken-unique two d.taken) (d.traces values l input k)

module _ (t m u : List ℕ) (p : Position) {input budget : ℕ} {values : List ℕ} (here : p.stage ≡ Closing) (start : StartTaken u input budget values) where
  -- both outcomes, of the new text that was run side by side
  compares : {o q : List ℕ} {lent left : Lent} {count accepted bytes n : ℕ} {b : List ℕ} → AllTold t m u b
      → JudgeFinished t m lent left count accepted bytes → (c : Closes t (take bytes left.new) values input budget o q n)
      → Comparison t m u (b ++ closing_text c.given c.rewritten c.ks)
  compares a f c =
      let s = start-unique a.runs.start start in
      let x = demand-text a.runs.demand f.demand in
      record {
        x = a.x;
        runs = a.runs;
        given = c.given;
        rewritten = c.rewritten;
        us = c.us;
        ws = c.ws;
        ks = c.ks;
        one = rw (s.0, s.1, s.2) c.one;
        two = rw (x, s.0, s.1, s.2) c.two;
        alike = c.alike;
        traces = a.runs.demand.traces a.runs.values a.runs.start.size a.runs.input;
        text = ap (λ (k : List ℕ). k ++ closing_text c.given c.rewritten c.ks) a.text;
      }

  pub closes : {o q : List ℕ} {lent left : Lent} {count accepted bytes n : ℕ} {z : Piece} → z ≡ record { bytes = n; next = at_stage Ended } → JudgeFinished t m lent left count accepted bytes
      → Closes t (take bytes left.new) values input budget o q n → Prints t m u p lent.new left.new o q z
  closes {lent = lent} {left = left} {n = n} is f c =
      rw is
      (printed t m u p lent.new left.new (record { bytes = n; next = at_stage Ended }) (closing_text c.given c.rewritten c.ks)
      (piece-put c.put c.fits) (put_front c.put c.fits) (judged-kept f) (rw here (omega arith))
      (λ b h. let g : HandedAt t m u Closing p lent.new b = handed-at t m u p lent.new b here h in ((refl, compares g.1 f c), rw here (omega arith))))

  -- the marks were judged under an allowed budget
  pub never-over : {z : Piece} (w o : List ℕ) → z ≡ stays p → most_steps < budget → Prints t m u p w w o o z
  never-over w o is l =
      stays-prints t m u p w o is
      (λ b h k.
      let g : HandedAt t m u Closing p w b = handed-at t m u p w b here h in
      omega (arith, (start-unique g.1.runs.start start).1, g.1.runs.allowed))

  judge-takes : {b : List ℕ} (vs w : List ℕ) {k : ℕ} → AllTold t m u b → Room vs w → JudgeRefused t m vs w k → ⊥
  judge-takes vs w a r (inl h) = ⊎_elim (λ l. omega (arith, l, r.0)) (λ l. omega (arith, l, r.1)) h.0
  judge-takes vs w a r (inr (inl h)) = taken_refused t a.runs.demand.given h.1 h.2
  judge-takes vs w a r (inr (inr h)) = marks.taken_refused a.runs.demand.listed h.3 h.4

  pub never-refused : {lent left : Lent} {z : Piece} {k : ℕ} (o : List ℕ) → z ≡ stays p → Room lent.verdicts lent.new → JudgeRefused t m lent.verdicts lent.new k → left ≡ lent
      → Prints t m u p lent.new left.new o o z
  never-refused {lent = lent} o is r f e =
      rw e
      (stays-prints t m u p lent.new o is (λ b h k. let g : HandedAt t m u Closing p lent.new b = handed-at t m u p lent.new b here h in judge-takes lent.verdicts lent.new g.1 r f))
