use Rattle.std.proofs.Common.{rules}
use Rattle.tokens.proofs.Steps.{at-end}
use Rattle.atom_reader.proofs.Spelling.{atom-first, atom-other}
use Rattle.atom_reader.specs.Parsing.{parse_atom}
use Rattle.atom_reader.proofs.atom.Goals as goal

pub returns-in_err-get-clause-result_value : goal.returns-in_err-get-clause-result_value
unfolding parse_atom
returns-in_err-get-clause-result_value c = rw (c.from_residual.ensures, at-end _ _ c.in_err-get.ensures.lookup.3)

pub returns-in-116-clause-result_value : goal.returns-in-116-clause-result_value
returns-in-116-clause-result_value c =
    let h = c.in_ok-get.ensures.lookup.3 in rw (atom-first _ _ h.0, ← h.1 0, c.in-116.is) c.true_or_trans.ensures.result_value

pub returns-in-102-clause-result_value : goal.returns-in-102-clause-result_value
returns-in-102-clause-result_value c =
    let h = c.in_ok-get.ensures.lookup.3 in rw (atom-first _ _ h.0, ← h.1 0, c.in-102.is) c.ended.ensures.result_value

pub returns-in-101-clause-result_value : goal.returns-in-101-clause-result_value
returns-in-101-clause-result_value c =
    let h = c.in_ok-get.ensures.lookup.3 in rw (atom-first _ _ h.0, ← h.1 0, c.in-101.is) c.entry_or_exit.ensures.result_value

pub returns-in-110-clause-result_value : goal.returns-in-110-clause-result_value
returns-in-110-clause-result_value c =
    let h = c.in_ok-get.ensures.lookup.3 in rw (atom-first _ _ h.0, ← h.1 0, c.in-110.is) c.node.ensures.result_value

pub returns-in-115-clause-result_value : goal.returns-in-115-clause-result_value
returns-in-115-clause-result_value c =
    let h = c.in_ok-get.ensures.lookup.3 in rw (atom-first _ _ h.0, ← h.1 0, c.in-115.is) c.stmt.ensures.result_value

pub returns-in-100-clause-result_value : goal.returns-in-100-clause-result_value
returns-in-100-clause-result_value c =
    let h = c.in_ok-get.ensures.lookup.3 in rw (atom-first _ _ h.0, ← h.1 0, c.in-100.is) c.def.ensures.result_value

pub returns-in-117-clause-result_value : goal.returns-in-117-clause-result_value
returns-in-117-clause-result_value c =
    let h = c.in_ok-get.ensures.lookup.3 in rw (atom-first _ _ h.0, ← h.1 0, c.in-117.is) c.used.ensures.result_value

pub returns-in_default-clause-result_value : goal.returns-in_default-clause-result_value
returns-in_default-clause-result_value c = let h = c.in_ok-get.ensures.lookup.3 in rw (atom-first _ _ h.0, ← h.1 0) (search (rules, atom-other))
