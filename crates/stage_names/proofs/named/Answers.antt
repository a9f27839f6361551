-- `named` meets its contract. Assumes nothing.
use mathlib.Core.Path.{◌≡◌, sym, ◌∙◌}
use Prim.Native.Nat.{◌+◌, ◌-◌}
use native.Mathlib.Omega.{arith}
use Rattle.base.proofs.Decides.{decides-same}
use Rattle.stage_names.proofs.Names.{bytes-named, named-letters, named-zero, behind, behind-length}
use Rattle.stage_names.proofs.named.Goals as goal

-- no letter stands at the front
pub returns-then-n-eq0 : goal.returns-then-n-eq0
returns-then-n-eq0 c (n, v, is) =
    omega (arith, named-letters v is _ c.letters-n.ensures.0 c.letters-n.ensures.1 c.letters-n.ensures.2, v.some, c.if-n-eq0.true)

pub returns : goal.returns
returns c =
    let s = c.args.s.now in
    let n = c.letters-n.result in
    let size = behind-length s n c.letters-n.ensures.0 in
    decides-same c.zeros.result
    (λ z. bytes-named s c.requires n (omega (arith, c.if-n-eq0.false)) (omega (arith, c.letters-n.ensures.0, c.requires)) c.letters-n.ensures.1
    (λ j h k. let e : n + (j - n) ≡ j = omega arith in rw e at (sym (behind s n (j - n) (omega (arith, c.requires))) ∙ z (j - n) (omega (arith, size, c.requires)))))
    (λ (m, v, is) i h. behind s n i (omega (arith, size)) ∙ named-zero v is (n + i) (omega (arith, named-letters v is n c.letters-n.ensures.0 c.letters-n.ensures.1 c.letters-n.ensures.2)))
    c.zeros.ensures
