-- A check program that computes: for every program and list of marks, what is printed. Assumes nothing.
use mathlib.Core.Path.{◌≡◌, sym, ap, ◌∙◌}
use mathlib.Core.List.{List, []}
use Prim.Native.Nat.{ℕ}
use lib.ListN.{length}
use Rattle.lines.specs.Lines as lines
use Rattle.language.specs.declared.Statement.{Statement}
use Rattle.language.specs.Spelling.{digits_by, signed_digits, digits, spell_variable, spell_operand, spell_expression, spell}
use Rattle.tokens.specs.Parsing.{Parsed, found, after}
use Rattle.tokens.proofs.Parse.{after-inv}
use Rattle.program.specs.Program.{WellFormed, Taken}
use Rattle.bits.specs.Row.{count_below}
use Rattle.marks.specs.declared.Mark.{Mark}
use Rattle.marks.specs.Reading.{most}
use Rattle.report.specs.Report.{counts_line, verdict_line, verdict_lines, judged_text, report_text, PrintsReport}
use Rattle.price_text.specs.PriceText.{price_line, price_lines, total_lines, text_of_prices}
use Rattle.cases.proofs.Marks.{parse_marks, marks-taken}
use Rattle.cases.proofs.Verdicts.{verdicts_of, verdicts-computed}
use Rattle.cases.proofs.Made.{made, made-rewritten}

module _ (P : List Statement) (w : WellFormed P) where
  -- what is printed for the marks
  unfoldable pub reported : List Mark → List ℕ
  unfolding verdicts_of made count_below report_text judged_text counts_line verdict_lines verdict_line text_of_prices price_lines price_line total_lines lines.text spell spell_expression spell_operand spell_variable signed_digits digits digits_by
  reported ms = let vs = verdicts_of P w ms in report_text ms vs P (made P ms vs (length ms))

  -- for the marks that the text u begins with, and what follows them
  unfoldable pub printed : List ℕ → Parsed (List ℕ)
  unfolding reported parse_marks
  printed u = after (parse_marks most u) λ ms v. found (reported ms) v

pub printed-report : (t : List ℕ) (P : List Statement) (a : Taken t P) (u o : List ℕ) → printed P a.program u ≡ found o [] → PrintsReport t u o
unfolding printed reported
printed-report t P a u o h =
    after-inv (parse_marks most u) _ h λ ms v e f.
    let none : v ≡ [] = cc in
    let same : reported P a.program ms ≡ o = cc in
    let vs = verdicts_of P a.program ms in
    let judged = verdicts-computed P a.program ms in
    record {
      P = P;
      ms = ms;
      vs = vs;
      Q = made P ms vs (length ms);
      program = a;
      marks = marks-taken u ms (e ∙ ap (found ms) none);
      judged = judged;
      rewritten = made-rewritten P ms vs judged;
      lines = sym same;
    }
