-- `export` meets its contract: the answer of `report`, told case by case. Assumes nothing.
use mathlib.Core.Path.{refl}
use mir.Syntax.{w32}
use mir.Val.{SFits}
use mir.Facts.{to_z-of_z}
use borrow.Author.Rules.{rules}
use Rattle.priced.specs.Priced.{ReportListed}
use Rattle.host_report.proofs.Sizes.{listed-sizes}
use Rattle.host_report.proofs.export.Goals as goal
use Rattle.host_report.proofs.export.Goals.{In-Ok}

-- the answer is a report
listed : (c : In-Ok)
    → ReportListed c.args.prices.now c.args.program.now c.args.marks.now c.in-Ok.list
listed c = rw c.in-Ok.is at c.report.ensures

pub copy-requires : goal.copy-requires
copy-requires c = let s = listed-sizes (listed (goal.at.copy-requires c).In-Ok) in (s.0, s.1)

pub copy-requires-in-Ok : goal.copy-requires-in-Ok
copy-requires-in-Ok c = let s = listed-sizes (listed (goal.at.copy-requires-in-Ok c).In-Ok) in (s.0, s.2)

pub returns-in-Err : goal.returns-in-Err
returns-in-Err c = record { answer = c.report.result; answers = c.report.ensures; returned = rw c.in-Err.is (c.number.ensures, refl) }

pub returns-in-Ok : goal.returns-in-Ok
returns-in-Ok c =
    let fits : SFits w32 c.in-Ok.list.saved = search rules in
    record {
      answer = c.report.result;
      answers = c.report.ensures;
      returned = rw c.in-Ok.is (refl, rw (c.copy.ensures, c.copy-in-Ok.ensures, to_z-of_z {w = w32} fits));
    }
