-- A way that leaves its place is a step and a way from there on, so the nearest successor begins a shortest one. Assumes nothing.
use mathlib.Core.Path.{◌≡◌, refl, sym, ◌∙◌}
use mathlib.Core.List.{List, [], ◌∷◌}
use mathlib.Core.Bool.{Bool, true}
use Prim.Native.Nat.{ℕ, zero, suc, ◌+◌, ◌≤◌, ◌<◌}
use native.Mathlib.Omega.{arith}
use lib.ListN.{length, get_or, set, length-set}
use lib.Seq.{get_or-set_same, get_or-set_other}
use Rattle.base.proofs.Bools.{clash}
use Rattle.ctl.specs.Paths.{So, Graph}
use Rattle.labelling.specs.declared.Operator.TheVariants as op
use Rattle.forcing.specs.Numbers.{none, number_of, numbered}
use Rattle.forcing.proofs.Steps.{numbered-some, numbered-none}
use Rattle.lassos.specs.Lassos.{place, last, any, Way, Reaches}
use Rattle.lassos.specs.Distances.{Distances}
use Rattle.lassos.proofs.Ways.{way-inside}
use Rattle.lassos.proofs.Sound.{bears-some}
use Rattle.lassos.proofs.Shortest.{way-cons, shortest, number-iff, number-below}
use Rattle.walks.specs.Told.{Told}
use Rattle.walks.specs.Walks.{Nearest, Numbered, SomeNumbered, Walked}
use Rattle.departures.specs.Departures.{Departs, Left}

-- ---- a step, and a way from there on

pub record Onward (step : ℕ → ℕ → Bool) (X Y : ℕ → Type 0) (s : ℕ) (ls : List ℕ) : Type 0 where
  pub t : ℕ
  pub ks : List ℕ
  pub goes : step s t ≡ true
  pub way : Way step t ks
  pub reaches : Reaches X Y ks
  pub size : length ls ≡ suc (length ks)

module _ (step : ℕ → ℕ → Bool) (X Y : ℕ → Type 0) (s : ℕ) where
  pub departs-onward : (ls : List ℕ) → Departs step X Y s ls → Onward step X Y s ls
  departs-onward [] d = absurd (omega (arith, d.leaves))
  departs-onward (a ∷ []) d = absurd (omega (arith, d.leaves))
  departs-onward (a ∷ b ∷ ls) d =
      let e : last (a ∷ b ∷ ls) ≡ suc (last (b ∷ ls)) = omega arith in
      record {
        t = b;
        ks = b ∷ ls;
        goes = rw d.way.starts at (d.way.steps 0 (omega arith));
        way = record { some = omega arith; starts = refl; steps = λ i l. d.way.steps (suc i) (omega arith) };
        reaches = (rw e at d.ends, λ i l. d.between (suc i) (omega arith) (omega (arith, e)));
        size = refl;
      }

  pub onward-departs : (t : ℕ) (ks : List ℕ) → step s t ≡ true → Way step t ks → Reaches X Y ks → Departs step X Y s (s ∷ ks)
  onward-departs t ks h w (y, x) =
      let e : last (s ∷ ks) ≡ suc (last ks) = omega (arith, w.some) in
      record { way = way-cons step s t ks h w; leaves = omega (arith, w.some); ends = rw e y; between = passes e }
    where
      passes : last (s ∷ ks) ≡ suc (last ks) → (i : ℕ) → 0 < i → i < last (s ∷ ks) → X (place (s ∷ ks) i)
      passes e zero b l = absurd (omega arith)
      passes e (suc i) b l = x i (omega (arith, e))

-- the same steps below n, and what is said of places there in other words
pub departs-same : {n : ℕ} {step step' : ℕ → ℕ → Bool} {X X' Y Y' : ℕ → Type 0} → Graph n step → (s : ℕ) → s < n → ((t u : ℕ) → t < n → step t u ≡ step' t u)
    → ((t : ℕ) → t < n → X t → X' t) → ((t : ℕ) → t < n → Y t → Y' t) → {ls : List ℕ} → Departs step X Y s ls → Departs step' X' Y' s ls
departs-same g s low same x y {ls} d =
    let inside = way-inside g s low ls d.way in
    record {
      way = record { some = d.way.some; starts = d.way.starts; steps = λ i l. sym (same (place ls i) (place ls (suc i)) (inside i (omega arith))) ∙ d.way.steps i l };
      leaves = d.leaves;
      ends = y (place ls (last ls)) (inside (last ls) (omega (arith, d.leaves))) d.ends;
      between = λ i b l. x (place ls i) (inside i (omega arith)) (d.between i b l);
    }

-- the word of s is put before the way from the successor on
told-cons : (s : ℕ) (ks old new : List ℕ) → 0 < length old → Told 1 ks (set old 0 (s + 1)) new → Told 0 (s ∷ ks) old new
told-cons s ks old new room t = record { same = t.same ∙ length-set old 0 (s + 1); words = words; before = λ i l. absurd (omega arith); past = past }
  where
    words : (i : ℕ) → i < length (s ∷ ks) → get_or new (0 + i) 0 ≡ suc (place (s ∷ ks) i)
    words zero l = t.before 0 (omega arith) ∙ get_or-set_same old 0 (s + 1) 0 room ∙ omega arith
    words (suc i) l = let e : 0 + suc i ≡ 1 + i = omega arith in rw e (t.words i (omega arith))

    past : (i : ℕ) → 0 + length (s ∷ ks) ≤ i → get_or new i 0 ≡ get_or old i 0
    past i l = t.past i (omega arith) ∙ get_or-set_other old 0 i (s + 1) 0 (λ e. omega arith)

module _ {n : ℕ} {step : ℕ → ℕ → Bool} (g : Graph n step) (p q : ℕ → Bool) (s : ℕ) (low : s < n) (numbers : List ℕ) (small : (t : ℕ) → number_of numbers t ≤ none)
    (d : Distances n step p q (numbered numbers) (number_of numbers)) (some : ((ls : List ℕ) → Departs step (So p) (So q) s ls → ⊥) → ⊥) (u : ℕ) (near : Nearest step numbers s u) where
  inside : (t : ℕ) → step s t ≡ true → t < n
  inside t h = g.inside s t low h

  -- the nearest successor has a number: if it had none, no successor would have one, and there would be no way
  has : number_of numbers u ≡ none → ⊥
  has out = some λ ls v.
      let o = departs-onward step (So p) (So q) s ls v in
      let far : number_of numbers o.t ≡ none = omega (arith, near.least o.t o.goes, small o.t) in
      let reached = bears-some g o.t (inside o.t o.goes) op.Until (So p) (So q) any o.ks o.way o.reaches in
      clash ((number-iff g p q (numbered numbers) (number_of numbers) d o.t (inside o.t o.goes)).1 reached) (numbered-none numbers o.t far)

  is-numbered : Numbered n step p q numbers u
  is-numbered = record { inside = inside u near.goes; has = numbered-some numbers u has; small = small; distances = d }

  pub leave-numbered : SomeNumbered n step numbers u
  leave-numbered = record { p = p; q = q; numbered = is-numbered }

  -- no number is as large as n, so the way fits
  pub leave-few : (old new : List ℕ) (end : ℕ) → Walked n step numbers u 1 old new end → end ≤ n + 1
  leave-few old new end w = omega (arith, w.ends, w.size, number-below g p q (numbered numbers) (number_of numbers) d u is-numbered.inside is-numbered.has)

  pub leave-left : (old new : List ℕ) (end : ℕ) → 0 < length old → Walked n step numbers u 1 (set old 0 (s + 1)) new end → Left step (So p) (So q) s old new end
  leave-left old new end room w = record {
    ls = s ∷ w.ls;
    counted = omega (arith, w.ends);
    departs = onward-departs step (So p) (So q) s u w.ls near.goes w.way (w.reaches p q is-numbered);
    shortest = λ ks v b.
        let o = departs-onward step (So p) (So q) s ks b in
        let f = shortest g p q (numbered numbers) (number_of numbers) d o.t (inside o.t o.goes) w.ls (omega (arith, w.size, near.least o.t o.goes)) o.ks o.way o.reaches in
        omega (arith, f, o.size);
    told = told-cons s w.ls old new room w.told;
  }
