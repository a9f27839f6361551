-- `write` meets its contract. The invariant: the lines before place s are written. Assumes nothing.
use Rattle.language.specs.declared.Statement.TheVariants.{Skip}
use Prim.Native.Nat.{ℕ, ◌+◌, ◌≤◌, ◌<◌}
use mathlib.Core.Path.{◌≡◌, refl, ap, ◌∙◌}
use mathlib.Core.List.{List, [], ◌∷◌, ◌++◌}
use native.Mathlib.Omega.{arith}
use borrow.Author.Rules.{rules}
use lib.ListN.{length, take}
use lib.Seq.{take_all, length-sets}
use Rattle.lines.specs.Lines as lines
use Rattle.lines.proofs.Texts.{text-more, text-take}
use Rattle.language.specs.Spelling.{spell}
use Rattle.statement_writer.proofs.Puts.{put_then, room}
use Rattle.encoding.specs.declared.Entry.{Entry}
use Rattle.program.specs.Program.{text}
use Rattle.program.proofs.Held.{held, length-held, at_held}
use Rattle.program.proofs.write.Invariants.{listed, Inv}
use Rattle.program.proofs.write.Goals as goal

pub loop-s-init : goal.loop-s-init
unfolding lines.text
loop-s-init c =
    record { room = c.requires.held.room; few = c.requires.held.few; fits = c.requires.p_in_bounds; within = omega arith; put = record { text = refl; after = refl } }

pub offset_bounds-p-s : goal.offset_bounds-p-s
offset_bounds-p-s c = search rules

pub bounds-p-s : goal.bounds-p-s
bounds-p-s c = search rules

pub shape_of-out : goal.shape_of-out
shape_of-out c = ap length c.loop-s.invariant.put.text ∙ simp length-sets

-- the line at place s, which follows the lines before it and has room
module _ {o : List ℕ} {es : List Entry} {n : ℕ} {q : List ℕ} {k s : ℕ} (i : Inv o es n q k s) (h : s < n) where
  abbrev line : List ℕ
  line = spell (held es s) ++ 10 ∷ []

  line-text : text (take (s + 1) (listed es n)) ≡ text (take s (listed es n)) ++ line
  line-text =
      let l : n ≤ length es = omega arith in
      let k : s < length (listed es n) = rw (length-held es n l) h in
      text-more spell (listed es n) Skip s k ∙ rw (at_held es n s k)

  line_room : k + length line ≤ length q
  line_room =
      let t = text-take spell (listed es n) (s + 1) in
      let f : 0 + length (text (take s (listed es n)) ++ line) ≤ length o = rw (← line-text) (omega arith) in
      room line i.put f

pub line-at-requires : goal.line-at-requires
line-at-requires c = rw c.statement_of-t.ensures (line_room c.loop-s.invariant c.loop-s-test.true)

pub loop-s-preserved : goal.loop-s-preserved
loop-s-preserved c =
    record { room = c.loop-s.invariant.room; few = c.loop-s.invariant.few; fits = c.loop-s.invariant.fits; within = omega arith; put = rw (line-text c.loop-s.invariant c.loop-s-test.true) (put_then c.loop-s.invariant.put (rw c.statement_of-t.ensures at c.line-at.ensures)) }

pub returns : goal.returns
returns c =
    let n = c.args.p.count in
    let es = c.args.p.entries in
    let l : length (listed es n) ≡ n = length-held es n (omega arith) in
    rw (take_all c.loop-s.s (listed es n) (omega arith)) at c.loop-s.invariant.put
