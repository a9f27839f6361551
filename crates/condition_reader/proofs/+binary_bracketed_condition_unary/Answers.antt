-- `condition`, `bracketed`, `unary` and `binary` meet their contracts: at each return the readers that were called say what the list
-- parser finds. Assumes nothing.
use mathlib.Core.Path.{◌≡◌, sym}
use mathlib.Core.Bool.{true, false}
use Prim.Native.Nat.{ℕ, ◌≤◌, ◌<◌}
use native.Mathlib.Omega.{arith}
use borrow.Author.Tests.{le-leb, lt-leb}
use lib.ListN.{length, drop, get_or}
use Rattle.base.specs.Bytes.{byte}
use Rattle.condition_reader.specs.Parsing.{parse_leaf, parse_bracketed, small}
use Rattle.operator_reader.proofs.Spelling.{opening-sound}
use Rattle.condition_reader.proofs.Readers as laws
use Rattle.condition_reader.proofs.+binary_bracketed_condition_unary.Goals as goal
use Rattle.condition_reader.proofs.+binary_bracketed_condition_unary.Goals.{condition-in_default-via-then-branch-lt97, condition-in_default-via-else-branch-lt97+else-branch-lt123}

small-in : (x : ℕ) → 97 ≤ x → x ≤ 122 → small x ≡ true
small-in x h l = rw (le-leb (byte "a") x h, le-leb x (byte "z") l)

small-below : (x : ℕ) → x < 97 → small x ≡ false
small-below x h = rw (lt-leb (byte "a") x h)

small-above : (x : ℕ) → 97 ≤ x → 122 < x → small x ≡ false
small-above x h l = rw (le-leb (byte "a") x h, lt-leb x (byte "z") l)

pub binary-condition-requires : goal.binary-condition-requires
binary-condition-requires t c =
    let a = c.args in
    let g = laws.first-beyond a.s.now a.at a.first a.bracket a.out.now a.n c.requires.s_value in
    (omega arith, laws.first-ready a.s.now a.at a.first a.bracket a.out.now a.n c.requires.s_value c.requires.ready)

pub binary-returns-in_err-m-clause-reads_by : goal.binary-returns-in_err-m-clause-reads_by
binary-returns-in_err-m-clause-reads_by t c =
    let a = c.args in
    rw c.from_residual.ensures
    (laws.first-not a.s.now a.at a.first a.bracket a.out.now a.n c.requires.s_value c.condition.new.out c.in_err-m.ensures.reads)

pub binary-returns-in_err-code-clause-reads_by : goal.binary-returns-in_err-code-clause-reads_by
binary-returns-in_err-code-clause-reads_by t c =
    let a = c.args in
    let k = c.in_ok-m in
    rw c.from_residual-in_err-code.ensures
    (laws.middle-not a.s.now a.at a.first a.bracket a.out.now a.n c.requires.s_value k.k k.m c.condition.new.out k.ensures.reads (sym c.in_err-code.ensures.result_value))

pub binary-condition-requires-2 : goal.binary-condition-requires-2
binary-condition-requires-2 t c =
    let a = c.args in
    let k = c.in_ok-m in
    let x = c.in_ok-code in
    let g = laws.second-beyond a.s.now a.at a.first a.bracket a.out.now a.n c.requires.s_value k.k k.m c.condition.new.out k.ensures.reads x.code x.second (sym x.ensures.result_value) in
    (omega (arith, c.requires.at_in_bounds), laws.second-ready a.s.now a.at a.first a.bracket a.out.now a.n c.requires.s_value k.k k.m c.condition.new.out k.ensures.reads x.code x.second (sym x.ensures.result_value) c.requires.ready)

pub binary-returns-in_err-m1-clause-reads_by : goal.binary-returns-in_err-m1-clause-reads_by
binary-returns-in_err-m1-clause-reads_by t c =
    let a = c.args in
    let k = c.in_ok-m in
    let x = c.in_ok-code in
    rw c.from_residual-in_err-m1.ensures
    (laws.second-not a.s.now a.at a.first a.bracket a.out.now a.n c.requires.s_value k.k k.m c.condition.new.out k.ensures.reads x.code x.second (sym x.ensures.result_value)
    c.condition-2.new.out c.in_err-m1.ensures.reads)

pub binary-returns-in_err-next-clause-reads_by : goal.binary-returns-in_err-next-clause-reads_by
binary-returns-in_err-next-clause-reads_by t c =
    let a = c.args in
    let k = c.in_ok-m in
    let x = c.in_ok-code in
    let l = c.in_ok-m1 in
    rw c.from_residual-in_err-next.ensures
    (laws.closing-not a.s.now a.at a.first a.bracket a.out.now a.n c.requires.s_value k.k k.m c.condition.new.out k.ensures.reads x.code x.second (sym x.ensures.result_value)
    l.k1 l.m1 c.condition-2.new.out l.ensures.reads (sym c.in_err-next.ensures.result_value))

pub binary-overflow_sub-m : goal.binary-overflow_sub-m
binary-overflow_sub-m t c =
    let a = c.args in
    let k = c.in_ok-m in
    let x = c.in_ok-code in
    let l = c.in_ok-m1 in
    let r = laws.both-fit a.s.now a.at a.first a.bracket a.out.now a.n c.requires.s_value k.k k.m c.condition.new.out k.ensures.reads x.code x.second (sym x.ensures.result_value)
    l.k1 l.m1 c.condition-2.new.out l.ensures.reads c.requires.ready in
    r.some

pub binary-push-requires-clause-left_le_most_bytes : goal.binary-push-requires-clause-left_le_most_bytes
binary-push-requires-clause-left_le_most_bytes t c =
    let a = c.args in
    let k = c.in_ok-m in
    let x = c.in_ok-code in
    let l = c.in_ok-m1 in
    let r = laws.both-fit a.s.now a.at a.first a.bracket a.out.now a.n c.requires.s_value k.k k.m c.condition.new.out k.ensures.reads x.code x.second (sym x.ensures.result_value)
    l.k1 l.m1 c.condition-2.new.out l.ensures.reads c.requires.ready in
    (r.left, omega (arith, c.requires.at_in_bounds, c.requires.ready.short), omega (arith, c.in_ok-next.ensures.result_in_bounds, c.requires.ready.short))

pub binary-overflow_add-result : goal.binary-overflow_add-result
binary-overflow_add-result t c =
    let a = c.args in
    let k = c.in_ok-m in
    let x = c.in_ok-code in
    let l = c.in_ok-m1 in
    let r = laws.both-fit a.s.now a.at a.first a.bracket a.out.now a.n c.requires.s_value k.k k.m c.condition.new.out k.ensures.reads x.code x.second (sym x.ensures.result_value)
    l.k1 l.m1 c.condition-2.new.out l.ensures.reads c.requires.ready in
    omega (arith, r.fits)

pub binary-returns-clause-reads_by : goal.binary-returns-clause-reads_by
binary-returns-clause-reads_by t c =
    let a = c.args in
    let k = c.in_ok-m in
    let x = c.in_ok-code in
    let l = c.in_ok-m1 in
    let w : c.in_ok-next.next ≤ length a.s.now = omega (arith, c.in_ok-next.ensures.result_in_bounds) in
    laws.binary-found a.s.now a.at a.first a.bracket a.out.now a.n c.requires.s_value k.k k.m c.condition.new.out k.ensures.reads x.code x.second (sym x.ensures.result_value)
    l.k1 l.m1 c.condition-2.new.out l.ensures.reads c.push.new.out c.in_ok-next.next (sym c.in_ok-next.ensures.result_value) w c.push.ensures

pub bracketed-binary-requires : goal.bracketed-binary-requires
bracketed-binary-requires t c =
    (omega arith, (c.requires.ready, (c.requires.at_in_bounds, opening-sound _ _ _ (sym c.in-Some.ensures.result_value))))

pub bracketed-returns-in-Some-clause-reads_by : goal.bracketed-returns-in-Some-clause-reads_by
bracketed-returns-in-Some-clause-reads_by t c =
    let a = c.args in
    let b = c.in-Some in
    laws.by-bracket a.s.now a.at a.out.now a.n c.binary.new.out c.binary.result b.bracket b.first (sym b.ensures.result_value) c.binary.ensures.reads_by

pub bracketed-returns-in-None-clause-reads_by : goal.bracketed-returns-in-None-clause-reads_by
bracketed-returns-in-None-clause-reads_by t c =
    let a = c.args in
    laws.by-unary a.s.now a.at a.out.now a.n c.unary.new.out c.unary.result (sym c.in-None.ensures.result_value) c.unary.ensures.reads_by

pub condition-returns-in_err-get-clause-reads : goal.condition-returns-in_err-get-clause-reads
condition-returns-in_err-get-clause-reads t c = let a = c.args in rw c.from_residual.ensures (laws.none_left a.s.now a.at a.out.now a.n a.out.now c.in_err-get.ensures.lookup.3)

pub condition-returns-in-97-to-122-clause-reads : goal.condition-returns-in-97-to-122-clause-reads
condition-returns-in-97-to-122-clause-reads t c =
    let a = c.args in
    let h = c.in_ok-get.ensures.lookup.3 in
    laws.headed a.s.now a.at a.out.now a.n c.leaf.new.out c.leaf.result (λ _. parse_leaf (drop a.at a.s.now)) h.0
    (laws.head-leaf a.s.now a.at h.0 (small-in (get_or a.s.now a.at 0) (omega (arith, h.1 0)) (omega (arith, h.1 0)))) (λ f l. c.leaf.ensures.tells)

pub condition-returns-in_default-clause-reads : goal.condition-returns-in_default-clause-reads
condition-returns-in_default-clause-reads t c =
    let a = c.args in
    let h = c.in_ok-get.ensures.lookup.3 in
    let other : small (get_or a.s.now a.at 0) ≡ false = elim c.in_default.branch [ condition-in_default-via-then-branch-lt97 w ↦ small-below (get_or a.s.now a.at 0) (omega (arith, h.1 0)) | condition-in_default-via-else-branch-lt97+else-branch-lt123 w ↦ small-above (get_or a.s.now a.at 0) (omega (arith, h.1 0)) (omega (arith, h.1 0)) ] in
    laws.headed a.s.now a.at a.out.now a.n c.bracketed.new.out c.bracketed.result (λ p. parse_bracketed p (drop a.at a.s.now)) h.0
    (laws.head-bracketed a.s.now a.at h.0 other) c.bracketed.ensures.reads_by

pub unary-returns-in_err-code-clause-reads_by : goal.unary-returns-in_err-code-clause-reads_by
unary-returns-in_err-code-clause-reads_by t c =
    let a = c.args in
    rw c.from_residual.ensures
    (laws.unary-not a.s.now a.at a.out.now a.n a.out.now (sym c.in_err-code.ensures.result_value))

pub unary-condition-requires : goal.unary-condition-requires
unary-condition-requires t c =
    let a = c.args in
    let x = c.in_ok-code in
    let g = laws.prefix-beyond a.s.now a.at a.out.now a.n x.code x.k (sym x.ensures.result_value) in
    (omega (arith, c.requires.at_in_bounds), laws.operand-ready a.s.now a.at a.out.now a.n x.code x.k (sym x.ensures.result_value) c.requires.ready)

pub unary-returns-in_err-m-clause-reads_by : goal.unary-returns-in_err-m-clause-reads_by
unary-returns-in_err-m-clause-reads_by t c =
    let a = c.args in
    let x = c.in_ok-code in
    rw c.from_residual-in_err-m.ensures
    (laws.operand-not a.s.now a.at a.out.now a.n x.code x.k (sym x.ensures.result_value) c.condition.new.out c.in_err-m.ensures.reads)

pub unary-overflow_add-result : goal.unary-overflow_add-result
unary-overflow_add-result t c =
    let a = c.args in
    let x = c.in_ok-code in
    let k = c.in_ok-m in
    omega (arith, laws.operand-fits a.s.now a.at a.out.now a.n x.code x.k (sym x.ensures.result_value) c.requires.ready c.condition.new.out k.next k.m k.ensures.reads)

pub unary-returns-clause-reads_by : goal.unary-returns-clause-reads_by
unary-returns-clause-reads_by t c =
    let a = c.args in
    let x = c.in_ok-code in
    let k = c.in_ok-m in
    let w : k.next ≤ length a.s.now = omega (arith, k.ensures.result_in_bounds) in
    laws.unary-found a.s.now a.at a.out.now a.n x.code x.k (sym x.ensures.result_value) c.condition.new.out c.push.new.out k.next k.m k.ensures.reads w c.push.ensures
