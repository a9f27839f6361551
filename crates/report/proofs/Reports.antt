-- From what `judge` answers to what is printed. Assumes nothing.
use mathlib.Core.Path.{◌≡◌, refl, ap}
use mathlib.Core.Logic.{inl, inr, ⊎_elim}
use mathlib.Core.List.{List, ◌++◌}
use Prim.Native.Nat.{ℕ, ◌+◌, ◌^◌, ◌≤◌, ◌<◌}
use native.Mathlib.Omega.{arith}
use lib.ListN.{length, take}
use Rattle.statement_writer.specs.Writing.{Put}
use Rattle.language.proofs.Lengths.{digits-length}
use Rattle.language.specs.declared.Statement.{Statement}
use Rattle.program.specs.Program.{most, text}
use Rattle.program.specs.Program as program-spec
use Rattle.program.specs.Reading as program
use Rattle.program.specs.declared.Refusal as program-refusal
use Rattle.program.specs.declared.Refusal.TheVariants.{Misspelled, LineCount, Placement, Target}
use Rattle.program.proofs.Lengths.{text-fits}
use Rattle.marks.specs.Reading as marks
use Rattle.marks.specs.Reading.{Taken}
use Rattle.marks.specs.declared.Mark.{Mark}
use Rattle.marks.specs.declared.Refusal as marks-refusal
use Rattle.marks.specs.declared.Refusal.TheVariants as of-marks
use Rattle.statement_writer.proofs.Puts.{put_front, put-within, put_then, put-length}
use Rattle.judge.specs.Judge.{text_bytes, Room, Lent, JudgeRefused, JudgeFinished, JudgeAnswers}
use Rattle.judge.specs.declared.Judged.{Judged}
use Rattle.calls.specs.Refusals.{number_of}
use Rattle.calls.specs.declared.Refusal.{Refusal}
use Rattle.std.specs.Prelude.{Result, Ok, Err}
use Rattle.pricing.specs.Prices.{ours, most_price, Fair}
use Rattle.pricing.proofs.Fair.{column-most, ours-fair}
use Rattle.priced.proofs.Reports.{new-taken}
use Rattle.price_list.specs.PriceList.{Lists}
use Rattle.price_list.specs.declared.PriceList.{PriceList}
use Rattle.price_text.specs.PriceText.{price_lines, total_lines, text_of_prices, price_text_room}
use Rattle.price_text.proofs.Printed.{list-text}
use Rattle.report.specs.Report.{refused_line, counts_line, verdict_lines, judged_text, report_text, Refuses, PrintsReport, PrintsRefusal, verdict_digits, judged_room, report_room, Printed, Reports}
use Rattle.report.specs.declared.Reported.{Reported}
use Rattle.report.specs.declared.Reported.TheVariants as reported
use Rattle.report.specs.declared.Reported.TheVariants.{Written}
use Rattle.report.specs.Writing.{ReportFits}
use Rattle.report.proofs.Lines.{refused-length}
use Rattle.report.proofs.Room.{judged-most}

-- with room lent, 1 does not apply
refused-refuses : {t u : List ℕ} (vs w : List ℕ) {n : ℕ} → Room vs w → JudgeRefused t u vs w n → Refuses t u n
refused-refuses vs w r (inl h) = ⊎_elim (λ l. absurd (omega arith)) (λ l. absurd (omega arith)) h.0
refused-refuses vs w r (inr (inl h)) = inl (h.1, h.2, h.3)
refused-refuses vs w r (inr (inr h)) = inr (h.1, h.2, h.3, h.4, h.5)

-- what each of the two answers says
module _ (t u : List ℕ) (o q : Lent) {r : Result Judged (Refusal marks-refusal.Refusal)} (a : JudgeAnswers t u o q r) where
  pub answer-refused : {f : Refusal marks-refusal.Refusal} {n : ℕ} → r ≡ Err f → n ≡ number_of marks.number f → Room o.verdicts o.new → Refuses t u n
  answer-refused is e h = rw e (refused-refuses o.verdicts o.new h (rw is at a).0)

  pub answer-finished : {j : Judged} → r ≡ Ok j → JudgeFinished t u o q j.marks j.accepted j.bytes
  answer-finished is = rw is at a

program-number : (r : program-refusal.Refusal) → program.number r < 10 ^ verdict_digits
program-number Misspelled = omega arith
program-number LineCount = omega arith
program-number Placement = omega arith
program-number Target = omega arith

marks-number : (r : marks-refusal.Refusal) → marks.number r < 10 ^ verdict_digits
marks-number of-marks.Misspelled = omega arith
marks-number of-marks.LineCount = omega arith

refuses-number : {t u : List ℕ} {n : ℕ} → Refuses t u n → n < 10 ^ verdict_digits
refuses-number (inl h) = rw h.2 (program-number h.0)
refuses-number (inr h) = rw h.4 (marks-number h.2)

pub refused-room : {t u : List ℕ} {n : ℕ} → Refuses t u n → length (refused_line n) ≤ report_room
refused-room {n = n} h = omega (arith, refused-length n, digits-length verdict_digits n (omega arith) (refuses-number h))

pub refused-printed : {t u o p : List ℕ} {n k : ℕ} → Refuses t u n → report_room ≤ length o → Put o 0 (refused_line n) p k → Printed (PrintsRefusal t u) o p k
refused-printed {n = n} h room put =
    record {
      room = room;
      w = refused_line n;
      says = record { n = n; refuses = h; line = refl };
      fits = omega (arith, refused-room h);
      written = put;
    }

module _ {t u : List ℕ} {o q : Lent} {count accepted bytes : ℕ} (f : JudgeFinished t u o q count accepted bytes) where
  new-text : take bytes q.new ≡ text f.Q
  new-text = put_front f.written f.fits

  text-short : length (text f.Q) ≤ text_bytes
  text-short = let d = f.demand.taken in omega (arith, ap length new-text, ap length d.lines, text-fits d.program)

  abbrev judged : List ℕ
  judged = counts_line count accepted ++ (verdict_lines f.ms q.verdicts ++ take bytes q.new)

  judged-text : judged ≡ judged_text f.ms q.verdicts f.Q
  unfolding judged_text
  judged-text = rw (f.counted, f.taken, new-text)

  judged-short : length judged ≤ judged_room
  judged-short = rw judged-text (judged-most f.P f.ms q.verdicts f.Q f.marks f.judged text-short)

  pub report-fits : (n : ℕ) → report_room ≤ n → ReportFits u q.verdicts (take bytes q.new) count accepted n
  report-fits n h =
      record {
        ms = f.ms;
        taken = f.marks;
        judged = omega (arith, f.marks.few, f.room.0, f.same);
        fits = omega (arith, judged-short);
      }

  -- the list of the texts is that of the two programs, and can be printed
  pub made_list : {l : PriceList} → ((P Q : List Statement) → program-spec.Taken t P → program-spec.Taken (take bytes q.new) Q → Lists ours P Q l) → Lists ours f.P f.Q l
  made_list h = h f.P f.Q f.program (new-taken f)

  pub list-ready : {l : PriceList} → Lists ours f.P f.Q l → (l.count ≤ most) × Fair l.before × Fair l.after
  list-ready s =
      (omega (arith, s.counted, f.program.program.counted.1), rw s.before (column-most most_price ours f.P ours-fair), rw s.after (column-most most_price ours f.Q ours-fair))

  -- after the counts, the verdicts and the new text in l
  module _ {l p : List ℕ} {k : ℕ} (room : report_room ≤ length l)
      (put : (ms : List Mark) → Taken u ms → Put l 0 (counts_line count accepted ++ (verdict_lines ms q.verdicts ++ take bytes q.new)) p k) where
    -- there is room for the prices
    pub prices-room : k + price_text_room ≤ length p
    prices-room = let a = put f.ms f.marks in omega (arith, a.after, put-length a, judged-short, room)

    pub finished-printed : {list : PriceList} {r : List ℕ} {n : ℕ} → Lists ours f.P f.Q list
        → Put p k (price_lines list.count list.before list.after ++ total_lines list.given list.rewritten list.saved) r n → n ≤ k + price_text_room
        → Printed (PrintsReport t u) l r n
    unfolding report_text
    finished-printed listed prices short =
        let after = rw (list-text listed f.program.program.counted.1 f.rewritten.same) at prices in
        let a = put f.ms f.marks in
        let all = put_then a after in
        record {
          room = room;
          w = judged ++ text_of_prices ours f.P f.Q;
          says =
              record {
                P = f.P;
                ms = f.ms;
                vs = q.verdicts;
                Q = f.Q;
                program = f.program;
                marks = f.marks;
                judged = f.judged;
                rewritten = f.rewritten;
                lines = rw judged-text;
              };
          fits = omega (arith, all.after, short, a.after, judged-short, room);
          written = all;
        }

-- an output's end lies within the lent bytes
module _ (t u o q : List ℕ) {r : Reported} {n : ℕ} (h : Reports t u o q r) where
  pub report-within : r ≡ Written n → n ≤ length q
  report-within is = let p : Printed (PrintsReport t u) o q n = rw is at h in put-within p.written p.fits

  pub refusal-within : r ≡ reported.Refused n → n ≤ length q
  refusal-within is = let p : Printed (PrintsRefusal t u) o q n = rw is at h in put-within p.written p.fits
