-- The joined program's text as it is written: the lines up to a place stand, and the next follows. Assumes nothing.
use mathlib.Core.Path.{◌≡◌, refl, sym, ap, ◌∙◌}
use mathlib.Core.List.{List, [], ◌∷◌, ◌++◌}
use Prim.Native.Nat.{ℕ, zero, suc, ◌+◌, ◌-◌, ◌≤◌, ◌<◌}
use native.Mathlib.Omega.{arith}
use lib.ListN.{length, take}
use lib.Seq.{take_all}
use Rattle.lines.specs.Lines as lines
use Rattle.lines.proofs.Texts.{text-more, text-take}
use Rattle.language.specs.Spelling.{spell}
use Rattle.language.specs.declared.Operand.TheVariants.{Variable}
use Rattle.language.specs.declared.Expression.TheVariants.{Single}
use Rattle.language.specs.declared.Statement.{Statement}
use Rattle.language.specs.declared.Statement.TheVariants.{Assign, Skip}
use Rattle.statement_writer.specs.Writing.{Put}
use Rattle.statement_writer.proofs.Puts.{put_then, put-length, room}
use Rattle.encoding.specs.declared.Entry.{Entry}
use Rattle.program.specs.declared.Program.{Program}
use Rattle.program.specs.Program.{at, text, most, Targets, WellFormed}
use Rattle.program.specs.Reading.{statements, Held}
use Rattle.program.proofs.Held.{held, at_held, held-targets, length-held}
use Rattle.joining.specs.Joining.{moved, writes, reads, seam, joined}
use Rattle.joining.proofs.Statements.{joined_length, at-road, at-seam, at-creeper}

-- the lines of J up to place s stand at the front of q, which was o, and the next is to stand at k
pub record Written (J : List Statement) (o q : List ℕ) (k s : ℕ) : Type 0 where
  pub fits : length (text J) ≤ length o
  pub put : Put o 0 (text (take s J)) q k

pub written_none : {J : List Statement} {o : List ℕ} → length (text J) ≤ length o → Written J o o 0 0
unfolding lines.text
written_none h = record { fits = h; put = record { text = refl; after = refl } }

pub written-length : {J : List Statement} {o q : List ℕ} {k s : ℕ} → Written J o q k s → length q ≡ length o
written-length w = put-length w.put

-- the line at place s follows
module _ {J : List Statement} {o q : List ℕ} {k s : ℕ} (w : Written J o q k s) (h : s < length J) (i : Statement) (is : i ≡ at J s) where
  abbrev line : List ℕ
  line = spell i ++ 10 ∷ []

  line-text : text (take (s + 1) J) ≡ text (take s J) ++ line
  line-text = text-more spell J Skip s h ∙ rw is

  pub line_room : k + length line ≤ length q
  line_room =
      let t = text-take spell J (s + 1) in
      let f : 0 + length (text (take s J) ++ line) ≤ length o = rw (← line-text) (omega (arith, t, w.fits)) in
      room line w.put f

  pub written-more : {p : List ℕ} {r : ℕ} → Put q k line p r → Written J o p r (s + 1)
  written-more b = record { fits = w.fits; put = rw line-text (put_then w.put b) }

pub written_all : {J : List Statement} {o q : List ℕ} {k s : ℕ} → Written J o q k s → length J ≤ s → Put o 0 (text J) q k
written_all {J = J} {s = s} w h = rw (take_all s J h) at w.put

-- ---- the creeper's lines

-- J has the creeper's statements but the first, moved, behind place d
abbrev pub Lines : List Statement → List Entry → ℕ → ℕ → Type 0
Lines J fs size d = (j : ℕ) → 1 ≤ j → j < size → (moved d (held fs j) ≡ at J (d + j)) × (d + j < length J)

-- the creeper's lines up to place j follow what stood before, whatever that was: the road is no part of it
pub record Behind (fs : List Entry) (size d : ℕ) (o : List ℕ) (n : ℕ) (q : List ℕ) (k j : ℕ) : Type 0 where
  pub begun : 1 ≤ j
  pub within : j ≤ size
  pub same : length q ≡ length o
  pub further : (J : List Statement) (first : List ℕ) → Lines J fs size d → Written J first o n (d + 1) → Written J first q k (d + j)

pub behind-none : {fs : List Entry} {size d : ℕ} {o : List ℕ} {n : ℕ} → 1 ≤ size → Behind fs size d o n o n 1
behind-none h = record { begun = omega arith; within = h; same = refl; further = λ J first l w. w }

pub behind_more : {fs : List Entry} {size d : ℕ} {o : List ℕ} {n : ℕ} {q : List ℕ} {k j : ℕ} → Behind fs size d o n q k j → j < size → (i : Statement) → i ≡ moved d (held fs j)
    → {p : List ℕ} {r : ℕ} → Put q k (spell i ++ 10 ∷ []) p r → Behind fs size d o n p r (j + 1)
behind_more {d = d} {j = j} b h i is put =
    let e : d + j + 1 ≡ d + (j + 1) = omega arith in
    record {
      begun = omega arith;
      within = omega arith;
      same = put-length put ∙ b.same;
      further = λ J first l w. rw e at (written-more (b.further J first l w) (l j b.begun h).1 i (is ∙ (l j b.begun h).0) put);
    }

-- ---- the code's two values

pub held-size : {p : Program} → Held p → length (statements p) ≡ p.count
held-size {p} h = length-held p.entries p.count (omega (arith, h.room, h.few))

-- the statements of the code's two values, as they stand in the joined program
module _ {road creeper : Program} (h : Held road) (w : WellFormed (statements road)) (g : Held creeper) (x : WellFormed (statements creeper)) where
  abbrev P : List Statement
  P = statements road

  abbrev Q : List Statement
  Q = statements creeper

  pub size : length (joined P Q) ≡ road.count - 1 + creeper.count
  size = omega (arith, joined_length P Q w.counted x.counted, held-size h, held-size g)

  pub creeper-targets : (k : ℕ) → k < creeper.count → Targets most (held creeper.entries k)
  creeper-targets k l = held-targets creeper.entries creeper.count k (omega (arith, held-size g)) x

  pub road-line : (s : ℕ) → s < road.count - 1 → held road.entries s ≡ at (joined P Q) s
  road-line s l = sym (at-road P Q w.counted x.counted s (omega (arith, held-size h)) ∙ at_held road.entries road.count s (omega (arith, held-size h)))

  module _ {d : ℕ} (is : d ≡ road.count - 1) where
    last : d ≡ length P - 1
    last = omega (arith, is, held-size h)

    pub seam-line : (a b : ℕ) → a ≡ writes (held road.entries d) → b ≡ reads (held creeper.entries 0) → Assign b (Single (Variable a)) ≡ at (joined P Q) d
    seam-line a b wrote begins =
        let p : at P d ≡ held road.entries d = at_held road.entries road.count d (omega (arith, last, w.counted.0)) in
        let q : at Q 0 ≡ held creeper.entries 0 = at_held creeper.entries creeper.count 0 (omega (arith, x.counted.0)) in
        let made : Assign b (Single (Variable a)) ≡ seam P Q = rw (← last, p, q, wrote, begins) in
        made ∙ sym (at-seam P Q w.counted x.counted) ∙ ap (at (joined P Q)) (sym last)

    pub creeper-lines : Lines (joined P Q) creeper.entries creeper.count d
    creeper-lines zero b l = absurd (omega arith)
    creeper-lines (suc j) b l =
        let q : at Q (suc j) ≡ held creeper.entries (suc j) = at_held creeper.entries creeper.count (suc j) (omega (arith, held-size g)) in
        let there : at (joined P Q) (d + suc j) ≡ moved d (at Q (suc j)) = rw last (at-creeper P Q w.counted x.counted j) in
        (sym (there ∙ ap (moved d) q), omega (arith, size, is))
