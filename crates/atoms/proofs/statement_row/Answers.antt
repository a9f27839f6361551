-- `atoms::statement_row` meets its contract: the invariant is the contract at place s. Assumes nothing.
use Rattle.atoms.proofs.Rows.{statement-iff}
use Rattle.labelling.proofs.Labels.{label-skip, label-join}
use Rattle.program.specs.Program.{at}
use native.Mathlib.Omega.{arith}
use mathlib.Core.Path.{◌≡◌, ◌∙◌}
use Rattle.atoms.proofs.statement_row.Goals.{then-same_words, else-same_words}
use Rattle.atoms.proofs.statement_row.Goals as goal

pub loop-s-preserved : goal.loop-s-preserved
loop-s-preserved c =
    elim c.if-same_words.branch [
      | then-same_words w ↦ rw w.out-is (
        w.insert.auto.row ∙ c.loop-s.invariant.0,
        λ P rows i e f.
            let x = statement-iff P c.args.n rows c.args.codes.now f c.loop-s.s c.loop-s-test.true i _ e c.same_words.result c.same_words.ensures in
            label-join (λ t. at P t ≡ i) _ _ (c.loop-s.invariant.1 P rows i e f) (x.0 w.if-same_words.true) _ w.insert.ensures,
      )
      | else-same_words w ↦ rw w.out-is (
        c.loop-s.invariant.0,
        λ P rows i e f.
            let x = statement-iff P c.args.n rows c.args.codes.now f c.loop-s.s c.loop-s-test.true i _ e c.same_words.result c.same_words.ensures in
            label-skip (λ t. at P t ≡ i) _ _ (c.loop-s.invariant.1 P rows i e f) c.same_words.result x w.if-same_words.false,
      )
    ]

pub returns : goal.returns
returns c = λ P rows f.
    let e : c.loop-s.s ≡ c.args.n = omega arith in
    rw e at (c.loop-s.invariant.1 P rows c.args.i c.statement_code-c.ensures f)
