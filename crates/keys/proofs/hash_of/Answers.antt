-- `hash_of` meets its contract. Assumes nothing.
use Rattle.keys.proofs.Told.{key-text, key-operator}
use Rattle.keys.specs.Store.{lists, hash_of}
use native.Mathlib.Omega.{arith}
use Prim.Native.Nat.{ℕ, ◌%◌}
use mathlib.Core.Path.{sym, ap, ◌∙◌}
use Rattle.keys.proofs.hash_of.Goals as goal

pub hash_text-h-requires : goal.hash_text-h-requires
hash_text-h-requires c = (c.requires.order c.if-code-eq0.true, c.requires.within c.if-code-eq0.true)

pub returns-then-code-eq0 : goal.returns-then-code-eq0
returns-then-code-eq0 c = (omega arith, ap (λ (x : ℕ). x % lists) c.hash_text-h.ensures ∙ ap hash_of (sym (key-text c.args.text.now c.args.w c.if-code-eq0.true)))

pub returns : goal.returns
returns c = (omega arith, ap hash_of (sym (key-operator c.args.text.now c.args.w c.if-code-eq0.false)))
