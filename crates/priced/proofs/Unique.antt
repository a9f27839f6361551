-- A report has one answer: one list, or one refusal. Assumes nothing.
use mathlib.Core.Path.{◌≡◌, sym, ap, ◌∙◌}
use mathlib.Core.List.{List}
use Prim.Native.Nat.{ℕ}
use Rattle.language.specs.declared.Statement.{Statement}
use Rattle.program.proofs.RoundTrip.{taken-unique}
use Rattle.marks.specs.Reading as marks
use Rattle.marks.proofs.Lists as marks-lists
use Rattle.rewriting.specs.Verdicts.{Verdicts, Rewritten}
use Rattle.rewriting.proofs.Unique.{rewritten-agree}
use Rattle.calls.proofs.Unique.{refuses-unique, refuses-not, same-refusal}
use Rattle.pricing.specs.Prices.{in_force}
use Rattle.price_list.specs.PriceList.{Lists}
use Rattle.price_list.specs.declared.PriceList.{PriceList}
use Rattle.priced.specs.Priced.{ReportRefused, ReportListed, ReportAnswers}
use Rattle.std.specs.Prelude.{Result, Ok, Err}
use Rattle.marks.specs.declared.Refusal as marks-refusal
use Rattle.calls.specs.declared.Refusal.{Refusal}

-- two programs have one list
lists-unique : {ps : List ℕ} {P Q : List Statement} {l m : PriceList} → Lists ps P Q l → Lists ps P Q m → l ≡ m
lists-unique a b =
    λ x. record {
      count = (a.counted ∙ sym b.counted) x;
      given = (a.given ∙ sym b.given) x;
      rewritten = (a.rewritten ∙ sym b.rewritten) x;
      saved = (a.saved ∙ sym b.saved) x;
      before = (a.before ∙ sym b.before) x;
      after = (a.after ∙ sym b.after) x;
    }

module _ (ps t u : List ℕ) where
  listed-unique : {l m : PriceList} → ReportListed ps t u l → ReportListed ps t u m → l ≡ m
  listed-unique {m = m} a b =
      let p = taken-unique b.program a.program in
      let k = marks-lists.taken-unique b.marks a.marks in
      let judged : Verdicts a.P a.ms b.vs = rw (← p, ← k) b.judged in
      let made : Rewritten a.P a.ms b.vs b.Q = rw (← p, ← k) b.rewritten in
      let q = rewritten-agree a.P a.ms a.vs b.vs a.judged judged a.rewritten made in
      let other : Lists (in_force ps) a.P a.Q m = rw (← p, q) b.listed in
      lists-unique a.listed other

  report-refused : (n m : ℕ) → ReportRefused t u n → ReportRefused t u m → n ≡ m
  report-refused = refuses-unique (λ s e. s) t (marks.Refused u) marks.number (marks-lists.refused-unique u)

  report-not : (n : ℕ) {l : PriceList} → ReportRefused t u n → ReportListed ps t u l → ⊥
  report-not n r f = refuses-not (λ s e. s) t (marks.Refused u) marks.number n r tt f.program (marks-lists.taken_refused f.marks)

  pub report-unique : (a b : Result PriceList (Refusal marks-refusal.Refusal)) → ReportAnswers ps t u a → ReportAnswers ps t u b → a ≡ b
  report-unique (Err r) (Err s) x y = ap Err (same-refusal marks.number marks-lists.same-number marks-lists.numbers-above r s (report-refused _ _ x y))
  report-unique (Err r) (Ok m) x y = absurd (report-not _ x y)
  report-unique (Ok l) (Err s) x y = absurd (report-not _ y x)
  report-unique (Ok l) (Ok m) x y = ap Ok (listed-unique x y)
