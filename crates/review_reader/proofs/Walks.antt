-- The loop over the lines: what is known before each, and what is told at the end. Assumes nothing.
use mathlib.Core.Path.{◌≡◌, refl, sym, ap, ◌∙◌}
use mathlib.Core.List.{List, [], ◌∷◌, ◌++◌, append-nil}
use mathlib.Core.Logic.{inl, inr}
use Prim.Native.Nat.{ℕ, ◌+◌, ◌-◌, ◌*◌, ◌≤◌, ◌<◌}
use native.Mathlib.Decide.{dec_lt}
use native.Mathlib.Omega.{arith}
use borrow.Author.Count.{below_more}
use lib.ListN.{length, get_or, set, drop, length-append, length-drop, length-set}
use lib.Seq.{get_or-append_seam, get_or-set_same, get_or-set_other}
use Rattle.bits.specs.Row.{Zeros}
use Rattle.lines.specs.Lines.{text}
use Rattle.lines.proofs.Reading.{SoFar, none_yet, one_more}
use Rattle.condition.specs.Condition.{Condition, atom, parts}
use Rattle.condition.specs.declared.Atom.TheVariants.{True}
use Rattle.condition.specs.Texts as condition
use Rattle.condition.specs.Words as words
use Rattle.condition_reader.specs.Reading as condition-reading
use Rattle.condition_reader.specs.declared.Refusal as condition-refusal
use Rattle.sharing.specs.Sharing.{most_lines, most_tables, part, number_of, firsts_after, firsts, parts_of}
use Rattle.sharing.proofs.Firsts.{part_stays, number-kept}
use Rattle.sharing.proofs.Lines.{lines-append, lines-postfix, line_known}
use Rattle.keys.specs.Store.{span, lists}
use Rattle.keys.proofs.Lists.{store-none}
use Rattle.keys.proofs.Told.{span-length}
use Rattle.numbering.specs.Numbering.{Sharing, Line, LineNumbered}
use Rattle.numbering.specs.declared.LineNumber.{LineNumber}
use Rattle.numbering.proofs.Steps.{firsts-over}
use Rattle.review_reader.specs.Reading.{itself, Unbroken, count_of_lines, AllTaken, FirstFaulty, line, last, Spelled, Refused}
use Rattle.review_reader.specs.declared.Refusal.TheVariants as refusal
use Rattle.review_reader.specs.Walking.{EndsAt, Counted, RestTold, LinesOf, TablesOf, Held}
use Rattle.review_reader.proofs.Splits.{split-unique, line_of, split-whole, split_rest, position, line-left, line-here}
use Rattle.review_reader.proofs.Taken.{taken_more, taken-valid, taken-length}

-- ---- the number of lines

module _ {u : List ℕ} {n : ℕ} (c : Counted u n) where
  pub none-refused : n < 1 → Refused u refusal.LineCount
  none-refused l = (c.ls, c.rest, c.split, inl (omega (arith, c.counted)))

  pub many-refused : most_lines < n → Refused u refusal.LineCount
  many-refused l = (c.ls, c.rest, c.split, inr (omega (arith, c.counted)))

pub counted-whole : {u : List ℕ} {n at : ℕ} → SoFar itself Unbroken u n at → length u ≤ at → Counted u n
counted-whole so l = record { ls = so.read; rest = []; split = split-whole so l; counted = so.counted }

pub counted-rest : {u : List ℕ} {n at end : ℕ} → SoFar itself Unbroken u n at → EndsAt u at end → length u ≤ end → at < length u → Counted u (n + 1)
counted-rest {u} {n} {at} so x l m = record { ls = so.read; rest = drop at u; split = split_rest so x l; counted = go (drop at u) (length-drop at u) }
  where
    go : (r : List ℕ) → length r ≡ length u - at → n + 1 ≡ count_of_lines so.read r
    go [] e = absurd (omega arith)
    go (b ∷ r) e = omega (arith, so.counted)

-- ---- line after line

-- the j lines before the position are taken and their parts numbered
pub record Walk (u : List ℕ) (j at count : ℕ) (entries links heads numbers counts : List ℕ) : Type 0 where
  pub so : SoFar itself Unbroken u j at
  pub cs : List Condition
  pub taken : AllTaken so.read cs
  pub near : at ≤ j * (condition.most_bytes + 1)
  pub sharing : Sharing u (parts_of cs) entries links heads count
  pub lines_of : LinesOf cs numbers counts
  pub tables_of : count ≤ most_tables → TablesOf cs numbers
  pub many : length entries ≡ most_tables
  pub many_links : length links ≡ most_tables
  pub many_heads : length heads ≡ lists

pub walk_none : {u entries links heads numbers counts : List ℕ} → Zeros most_tables entries → Zeros most_tables links → Zeros lists heads → Zeros most_lines numbers → Zeros most_lines counts
    → Walk u 0 0 0 entries links heads numbers counts
unfolding none_yet parts_of firsts_after
walk_none {u} e l h n c = record {
  so = none_yet itself Unbroken u;
  cs = [];
  taken = tt;
  near = omega arith;
  sharing = record {
    store = λ _. store-none e l h;
    shares = λ _. record { postfix = lines-postfix [] tt; counted = refl; keys = λ i b. absurd (omega arith) };
    over = λ b. absurd (omega arith);
  };
  lines_of = record { room = n.size; room_counts = c.size; sizes = λ i b. absurd (omega arith); past = λ i _. n.zero i; past_counts = λ i _. c.zero i };
  tables_of = λ _ i b. absurd (omega arith);
  many = e.size;
  many_links = l.size;
  many_heads = h.size;
}

-- the conditions with one more
parts_more : (cs : List Condition) (c : Condition) → parts_of (cs ++ c ∷ []) ≡ parts_of cs ++ parts c
unfolding parts_of
parts_more cs c = lines-append cs (c ∷ []) ∙ ap (λ (x : List Condition). parts_of cs ++ x) (append-nil (parts c))

module _ (cs : List Condition) (c : Condition) (numbers counts : List ℕ) (t m : ℕ) (j : ℕ) (is : j ≡ length cs) (l : j < most_lines) where
  more-length : length (cs ++ c ∷ []) ≡ j + 1
  more-length = length-append cs (c ∷ []) ∙ omega arith

  here : part (cs ++ c ∷ []) j ≡ c
  here = rw is (get_or-append_seam cs c [] (atom True))

  lines_more : LinesOf cs numbers counts → m ≡ length (parts c) → LinesOf (cs ++ c ∷ []) (set numbers j t) (set counts j m)
  lines_more o e = record {
    room = length-set numbers j t ∙ o.room;
    room_counts = length-set counts j m ∙ o.room_counts;
    sizes =
        rw more-length (below_more (λ i. get_or (set counts j m) i 0 ≡ length (parts (part (cs ++ c ∷ []) i))) j
        (λ i b. get_or-set_other counts j i m 0 (λ z. omega arith) ∙ o.sizes i (omega arith) ∙ ap (λ (d : Condition). length (parts d)) (sym (part_stays cs (c ∷ []) i (omega arith))))
        (get_or-set_same counts j m 0 (omega (arith, o.room_counts)) ∙ e ∙ ap (λ (d : Condition). length (parts d)) (sym here)));
    past = λ i b. get_or-set_other numbers j i t 0 (λ z. omega (arith, more-length)) ∙ o.past i (omega (arith, more-length));
    past_counts = λ i b. get_or-set_other counts j i m 0 (λ z. omega (arith, more-length)) ∙ o.past_counts i (omega (arith, more-length));
  }

  tables_more : length numbers ≡ most_lines → TablesOf cs numbers → t ≡ number_of (firsts (parts_of cs ++ parts c)) c → TablesOf (cs ++ c ∷ []) (set numbers j t)
  tables_more room o e =
      rw (more-length, parts_more cs c) (below_more (λ i. get_or (set numbers j t) i 0 ≡ number_of (firsts (parts_of cs ++ parts c)) (part (cs ++ c ∷ []) i)) j
      (λ i b.
      let d : i < length cs = omega arith in
      get_or-set_other numbers j i t 0 (λ z. omega arith) ∙ o i d ∙ sym (number-kept (parts_of cs) (parts c) (part cs i) (line_known cs i d))
      ∙ ap (number_of (firsts (parts_of cs ++ parts c))) (sym (part_stays cs (c ∷ []) i d)))
      (get_or-set_same numbers j t 0 (omega arith) ∙ e ∙ ap (number_of (firsts (parts_of cs ++ parts c))) (sym here)))

module _ {u : List ℕ} {j at count : ℕ} {entries links heads numbers counts : List ℕ} (w : Walk u j at count entries links heads numbers counts)
    {end : ℕ} (x : EndsAt u at end) (inside : end < length u) (few : j < most_lines) where
  abbrev l : List ℕ
  l = span at end u

  -- the line is taken as the condition c
  module _ {c : Condition} {m : ℕ} {ws : List ℕ} (t : condition.Taken l c) (h : words.Held c m ws) where
    pub walk_end : end < 65536
    walk_end = omega (arith, span-length u at end x.within, x.from, w.near, t.short)

    pub walk-line : Line u at m ws (parts_of w.cs) c
    walk-line =
        let short = t.short in
        record {
          front = text itself w.so.read;
          line = l;
          rest = 10 ∷ drop (end + 1) u;
          text = w.so.front ∙ ap (λ (y : List ℕ). text itself w.so.read ++ y) (line_of x inside).stands;
          starts = sym (position w.so);
          near = omega (arith, w.near);
          held = record { taken = t; held = h };
          postfix = rw (parts_more w.cs c) at (lines-postfix (w.cs ++ c ∷ []) (taken-valid (w.so.read ++ l ∷ []) (w.cs ++ c ∷ []) (taken_more w.so.read w.cs l c w.taken t)));
        }

    pub walk_more : {entries' links' heads' : List ℕ} (r : LineNumber) → LineNumbered u (parts_of w.cs) c entries' links' heads' r
        → length entries' ≡ length entries → length links' ≡ length links → length heads' ≡ length heads
        → Walk u (j + 1) (end + 1) r.count entries' links' heads' (set numbers j r.table) (set counts j m)
    unfolding one_more
    walk_more r n e f g =
        let is : j ≡ length w.cs = w.so.counted ∙ taken-length w.so.read w.cs w.taken in
        let size : length l ≡ end - at = span-length u at end x.within in
        let from = x.from in
        record {
          so = one_more w.so (line_of x inside);
          cs = w.cs ++ c ∷ [];
          taken = taken_more w.so.read w.cs l c w.taken t;
          near = omega (arith, w.near, t.short);
          sharing = rw (parts_more w.cs c) n.sharing;
          lines_of = lines_more w.cs c numbers counts r.table m j is few w.lines_of h.counted;
          tables_of = λ b. tables_more w.cs c numbers counts r.table m j is few w.lines_of.room (earlier b) (n.table b);
          many = e ∙ w.many;
          many_links = f ∙ w.many_links;
          many_heads = g ∙ w.many_heads;
        }
      where
        -- there were no more before
        earlier : r.count ≤ most_tables → TablesOf w.cs numbers
        earlier b = w.tables_of (go (dec_lt most_tables count))
          where
            go : Dec (most_tables < count) → count ≤ most_tables
            go (yes d) = absurd (omega (arith, firsts-over (parts_of w.cs) (parts c) (w.sharing.over d), (n.sharing.shares b).counted))
            go (no d) = omega arith

  module _ {n : ℕ} (k : Counted u n) (some : 0 < n) (most : n ≤ most_lines) where
    -- the line is refused
    pub walk_refused : (r : condition-refusal.Refusal) → condition-reading.Refused l r → Refused u (refusal.Line r)
    walk_refused r f =
        let q = line-here w.so k.split (line_of x inside) in
        (k.ls, k.rest, k.split, (omega (arith, k.counted), omega (arith, k.counted)), line w.so.read l q.0 w.cs q.1 w.taken f)

-- what is left is a line without its byte 10
module _ {u : List ℕ} {j at count : ℕ} {entries links heads numbers counts : List ℕ} (w : Walk u j at count entries links heads numbers counts)
    {n : ℕ} (k : Counted u n) (some : 0 < n) (most : n ≤ most_lines) where
  pub walk-few : at < length u → j < most_lines
  walk-few l = omega (arith, line-left w.so k.split l, k.counted)

  pub walk-rest : {end : ℕ} → EndsAt u at end → length u ≤ end → at < length u → (r : condition-refusal.Refusal) → RestTold (end - at) r → Refused u (refusal.Line r)
  walk-rest {end} x l m r f =
      let within = x.within in
      let s = split_rest w.so x l in
      let e = split-unique s k.split in
      let faulty : FirstFaulty w.so.read (drop at u) r = last w.cs w.taken (f (drop at u) (length-drop at u ∙ omega arith) (omega arith)) in
      (k.ls, k.rest, k.split, (omega (arith, k.counted), omega (arith, k.counted)), rw (e.0, e.1) at faulty)

  -- all lines are read
  module _ (done : length u ≤ at) where
    line-total : n ≡ length w.so.read
    line-total = let e = split-unique k.split (split-whole w.so done) in k.counted ∙ rw (e.0, e.1)

    spelled : Spelled u w.cs
    spelled = let e = line-total in record { ls = w.so.read; split = split-whole w.so done; countable = (omega arith, omega arith); taken = w.taken }

    pub walk-lines : j ≤ most_lines
    walk-lines = omega (arith, line-total, w.so.counted)

    pub walk-over : most_tables < count → Refused u refusal.TableCount
    walk-over o = (w.cs, spelled, w.sharing.over o)

    pub walk-held : count ≤ most_tables → Held u w.cs count j entries numbers counts
    walk-held b = record {
      taken = record { spelled = spelled; few = omega (arith, (w.sharing.shares b).counted) };
      counted = w.so.counted ∙ taken-length w.so.read w.cs w.taken;
      shares = w.sharing.shares b;
      lines_of = w.lines_of;
      tables_of = w.tables_of b;
    }
