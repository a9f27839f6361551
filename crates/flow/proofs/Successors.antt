-- The successors of each statement: of one, as they are listed from the first on, and where they lie. Assumes nothing.
use mathlib.Core.Path.{◌≡◌, refl, sym, ◌∙◌}
use mathlib.Core.List.{List, map}
use mathlib.Core.Bool.{true, false, ◌||◌, or_self, or-false}
use Prim.Native.Nat.{ℕ, ◌+◌, ◌≤◌, ◌<◌}
use native.Mathlib.Omega.{arith}
use lib.ListN.{length, take, get_or, set, length-set}
use lib.Seq.{get_or-set_same, get_or-set_other}
use lib.Dec.{eqb}
use borrow.Author.Count.{below_more}
use borrow.Author.Tests.{eq-eqb}
use Rattle.language.specs.declared.Statement.{Statement}
use Rattle.base.proofs.Bools.{or_left, or_right}
use Rattle.encoding.specs.declared.Entry.{Entry}
use Rattle.program.specs.declared.Program.{Program}
use Rattle.program.specs.Program.{at, most, WellFormed}
use Rattle.program.specs.Reading.{statements, Held}
use Rattle.encoding.specs.Encoding.{statement_in}
use Rattle.program.proofs.Held.{held, at_held, length-held}
use Rattle.graph.specs.Graphs.{places}
use Rattle.flow.specs.Edges.{Follow, goes, Successors, Inside}
use Rattle.flow.proofs.Model.{forward-inside}

-- ---- of one statement

pub follow-only : (s t a b : ℕ) → (a ≡ s) × (b ≡ s) → (eqb a t || eqb b t) ≡ eqb s t
follow-only s t a b e = rw (e.0, e.1) (or_self (eqb s t))

pub follow-next : (s t a b : ℕ) → (a ≡ s) × (b ≡ s) → (eqb a t || eqb b t) ≡ (eqb s t || false)
follow-next s t a b e = follow-only s t a b e ∙ sym (or-false (eqb s t))

-- ---- from the first on

-- a graph has a place for each statement of a program; `graph` stands below `program`, so its figure is one of its own
pub graph-room : (n : ℕ) → n ≤ most → n ≤ places
graph-room n h = omega arith

pub count_fits : (p : Program) → Held p → p.count ≤ length p.entries
count_fits p h = omega (arith, h.room, h.few)

pub statements-size : (p : Program) → Held p → length (statements p) ≡ p.count
statements-size p h = length-held p.entries p.count (count_fits p h)

-- `first` and `second`, as long as at the start, hold the successors of the statements before place s
pub record Listed (es : List Entry) (n : ℕ) (first₀ second₀ first second : List ℕ) (s : ℕ) : Type 0 where
  pub first_size : length first ≡ length first₀
  pub second_size : length second ≡ length second₀
  pub follow : (j : ℕ) → j < s → Follow (at (map statement_in (take n es)) j) j (get_or first j 0) (get_or second j 0)

module _ (p : Program) (h : Held p) (first₀ second₀ : List ℕ) (first_room : length first₀ ≡ places) (second_room : length second₀ ≡ places)
    (first second : List ℕ) (s : ℕ) (l : Listed p.entries p.count first₀ second₀ first second s) where
  abbrev es : List Entry
  es = p.entries

  abbrev n : ℕ
  n = p.count

  fits : n ≤ length es
  fits = count_fits p h

  pub listed_more : (a b : ℕ) → s < n → Follow (held es s) s a b → Listed es n first₀ second₀ (set first s a) (set second s b) (s + 1)
  listed_more a b low f = record {
    first_size = length-set first s a ∙ l.first_size;
    second_size = length-set second s b ∙ l.second_size;
    follow = below_more _ s earlier here;
  }
    where
      earlier : (j : ℕ) → j < s → Follow (at (map statement_in (take n es)) j) j (get_or (set first s a) j 0) (get_or (set second s b) j 0)
      earlier j k = rw (get_or-set_other first s j a 0 (omega arith), get_or-set_other second s j b 0 (omega arith)) (l.follow j k)

      here : Follow (at (map statement_in (take n es)) s) s (get_or (set first s a) s 0) (get_or (set second s b) s 0)
      here =
          rw (
            get_or-set_same first s a 0 (omega (arith, l.first_size, graph-room n h.few)),
            get_or-set_same second s b 0 (omega (arith, l.second_size, graph-room n h.few)),
            at_held es n s (rw (length-held es n fits) low),
          )
          f

  pub listed-all : n ≤ s → Successors (statements p) first second
  listed-all past = record {
    first_room = rw (length-held es n fits) (omega (arith, l.first_size, graph-room n h.few));
    second_room = rw (length-held es n fits) (omega (arith, l.second_size, graph-room n h.few));
    exact = λ j t k. l.follow j (omega (arith, length-held es n fits)) t;
  }

-- ---- where they lie

pub successors-inside : (P : List Statement) (first second : List ℕ) → WellFormed P → Successors P first second → Inside first second (length P) (length P)
successors-inside P first second w f = record {
  low = omega arith;
  first_room = f.first_room;
  second_room = f.second_room;
  firsts = λ s l. to_step s (get_or first s 0) l (or_left (eqb (get_or first s 0) (get_or first s 0)) (eqb (get_or second s 0) (get_or first s 0)) (eq-eqb (get_or first s 0) (get_or first s 0) refl));
  seconds = λ s l. to_step s (get_or second s 0) l (or_right (eqb (get_or first s 0) (get_or second s 0)) (eqb (get_or second s 0) (get_or second s 0)) (eq-eqb (get_or second s 0) (get_or second s 0) refl));
}
  where
    to_step : (s t : ℕ) → s < length P → goes first second s t ≡ true → t < length P
    to_step s t l e = forward-inside P w s t l (sym (f.exact s t l) ∙ e)
