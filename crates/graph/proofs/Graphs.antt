-- Edges in lent numbers: how long their lists are, and one edge more. Assumes nothing.
use mathlib.Core.Path.{◌≡◌, refl, sym, ap, ◌∙◌}
use mathlib.Core.List.{List}
use Prim.Native.Nat.{ℕ, ◌+◌, ◌≤◌, ◌<◌}
use native.Mathlib.Omega.{arith}
use lib.ListN.{length, get_or, set, take, drop, length-drop}
use lib.Seq.{length-take-le, take-set-lt, take-set-le, drop-set-lt, drop-set-add, get_or-take}
use Rattle.graph.specs.Graphs.{places, edges, entries, edges_at, head_of, ListsAt, Room, Added}
use Rattle.graph.proofs.Lists.{lists-more, step-more}

module _ (ws : List ℕ) (size : length ws ≡ entries) where
  pub head_size : length (edges_at ws).head ≡ places
  head_size = length-take-le places ws (omega arith)

  pub heads-size : (n : ℕ) → n ≤ places → length (head_of n (edges_at ws)) ≡ n
  heads-size n few = length-take-le n (edges_at ws).head (omega (arith, head_size))

  pub heads-at : (n s : ℕ) → n ≤ places → s < n → get_or (head_of n (edges_at ws)) s 0 ≡ get_or ws s 0
  heads-at n s few l = get_or-take n (edges_at ws).head s 0 l ∙ get_or-take places ws s 0 (omega arith)

  pub link-size : length (edges_at ws).link ≡ edges
  link-size = length-take-le edges (drop places ws) (rw (length-drop places ws) (omega arith))

  pub to-size : length (edges_at ws).to ≡ edges
  to-size = length-take-le edges (drop (places + edges) ws) (rw (length-drop (places + edges) ws) (omega arith))

module _ (ws : List ℕ) (count s t : ℕ) (r : Room ws count s t) where
  abbrev linked : List ℕ
  linked = set ws (places + count) (get_or ws s 0)

  abbrev aimed : List ℕ
  aimed = set linked (places + edges + count) t

  abbrev new : List ℕ
  new = set aimed s (count + 1)

  new-links : take edges (drop places new) ≡ set (take edges (drop places ws)) count (get_or ws s 0)
  new-links =
      let at : places + edges + count ≡ places + (edges + count) = omega arith in
      ap (take edges)
      (drop-set-lt places aimed s (count + 1) r.source ∙ ap (λ (i : ℕ). drop places (set linked i t)) at ∙ drop-set-add places linked (edges + count) t)
      ∙ take-set-le edges (drop places linked) (edges + count) t (omega arith)
      ∙ ap (take edges) (drop-set-add places ws count (get_or ws s 0)) ∙ take-set-lt edges (drop places ws) count (get_or ws s 0) r.more

  new-targets : take edges (drop (places + edges) new) ≡ set (take edges (drop (places + edges) ws)) count t
  new-targets =
      ap (take edges)
      (drop-set-lt (places + edges) aimed s (count + 1) (omega (arith, r.source)) ∙ drop-set-add (places + edges) linked count t
      ∙ ap (λ (l : List ℕ). set l count t) (drop-set-lt (places + edges) ws (places + count) (get_or ws s 0) (omega (arith, r.more))))
      ∙ take-set-lt edges (drop (places + edges) ws) count t r.more

  module _ (n : ℕ) (few : n ≤ places) (source : s < n) (target : t < n) where
    new-heads : take n (take places new) ≡ set (take n (take places ws)) s (count + 1)
    new-heads =
        ap (take n)
        (take-set-lt places aimed s (count + 1) r.source
        ∙ ap (λ (l : List ℕ). set l s (count + 1)) (take-set-le places linked (places + edges + count) t (omega arith) ∙ take-set-le places ws (places + count) (get_or ws s 0) (omega arith)))
        ∙ take-set-lt n (take places ws) s (count + 1) source

    pub added : ListsAt n ws count → Added n ws new count s t (count + 1)
    added g =
        let source' : s < length (head_of n (edges_at ws)) = rw (heads-size ws r.size n few) source in
        let target' : t < length (head_of n (edges_at ws)) = rw (heads-size ws r.size n few) target in
        let link_room : count < length (edges_at ws).link = rw (link-size ws r.size) r.more in
        let to_room : count < length (edges_at ws).to = rw (to-size ws r.size) r.more in
        record {
          more = refl;
          lists = rw (new-heads, new-links, new-targets, sym (heads-at ws r.size n s few source)) (lists-more _ _ _ count s t g link_room to_room source' target');
          steps = λ a b. rw (new-heads, new-links, new-targets, sym (heads-at ws r.size n s few source)) (step-more _ _ _ count s t g link_room to_room source' target' a b);
        }
