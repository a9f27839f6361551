-- The loop over a text's bytes: what is read so far, and what its end tells. Assumes nothing.
use mathlib.Core.Path.{◌≡◌, refl, ap, sym, ◌∙◌}
use mathlib.Core.List.{List, [], ◌∷◌}
use Prim.Native.Nat.{ℕ, ◌+◌, ◌-◌, ◌*◌, ◌^◌, ◌≤◌, ◌<◌}
use native.Mathlib.Omega.{arith}
use native.Mathlib.Numerals.{add-one}
use lib.ListN.{length, get_or, take, drop, set, length-set, drop_of_length-le}
use lib.Seq.{take-suc, take_all}
use Rattle.condition.specs.Texts.{most_bytes}
use Rattle.viable.specs.Begins.{ByteTold, stops, spelled}
use Rattle.viable.specs.Grammar.{Reached, at, nowhere, step, steps, start}
use Rattle.viable.proofs.Complete.{steps-append}
use Rattle.viable.proofs.Stops.{reached-spells, stops_at, stops-after}
use Rattle.condition_blame.specs.Search.{growth, room, reached_in, Near}
use Rattle.condition_blame.specs.declared.State.{State}
use Rattle.std.proofs.Common.{Option, None, Some}
use Rattle.condition_blame.proofs.Search.{at_byte, put_on}

-- the first k bytes of the text t are read, and the items of q from the top on are expected
pub record Going (t q : List ℕ) (s : State) (k : ℕ) : Type 0 where
  pub reached : steps start (take k t) ≡ at s.bound s.value (drop s.top q)
  pub within : k ≤ length t
  pub space : growth * (length t - k) ≤ s.top
  pub upto : s.top ≤ length q
  pub sized : length q ≡ room
  pub bounded : s.bound ≤ 2 ^ 32
  pub valued : s.value ≤ 2 ^ 32

pub going-none : (t q : List ℕ) → length t ≤ most_bytes → length q ≡ room → Going t (set q (room - 1) 67) (record { top = room - 1; bound = 0; value = 0 }) 0
unfolding steps
going-none t q h e =
    record {
      reached = ap (at 0 0) (sym (put_on q room 67 (omega arith) (omega arith) ∙ ap (λ (l : List ℕ). 67 ∷ l) (drop_of_length-le q {i = room} (omega arith))));
      within = omega arith;
      space = omega arith;
      upto = omega (arith, length-set q (room - 1) 67);
      sized = length-set q (room - 1) 67 ∙ e;
      bounded = omega arith;
      valued = omega arith;
    }

module _ {t q : List ℕ} {s : State} {k : ℕ} (g : Going t q s k) where
  module _ (h : k < length t) where
    pub going-room : growth ≤ s.top
    going-room = omega (arith, g.space)

    read_more : {r : Reached} → r ≡ step s.bound s.value (drop s.top q) (get_or t k 0) → steps start (take (k + 1) t) ≡ r
    unfolding steps
    read_more e = rw (add-one, take-suc t k 0 h, steps-append start (take k t) (get_or t k 0 ∷ []), g.reached) (sym e)

    pub going_more : (p : List ℕ) (n : State) {r : Option State} → r ≡ Some n → reached_in p r ≡ step s.bound s.value (drop s.top q) (get_or t k 0) → Near growth s.top (length q) r → length p ≡ length q
        → Going t p n (k + 1)
    going_more p n {r} is e near l =
        let a : Near growth s.top (length q) (Some n) = rw is at near in
        let x = a.0 in
        let y = a.1 in
        record {
          reached = read_more (rw is at e);
          within = omega arith;
          space = omega (arith, g.space);
          upto = omega arith;
          sized = l ∙ g.sized;
          bounded = a.2;
          valued = a.3;
        }

    pub going-stops : (p : List ℕ) {r : Option State} → r ≡ None → reached_in p r ≡ step s.bound s.value (drop s.top q) (get_or t k 0) → ByteTold t (k + 1)
    going-stops p {r} is e =
        let f : nowhere ≡ step s.bound s.value (drop s.top q) (get_or t k 0) = rw is at e in
        stops (stops_at t k s.bound s.value (drop s.top q) h g.reached (sym f))

  module _ (h : length t ≤ k) where
    read_whole : steps start t ≡ at s.bound s.value (drop s.top q)
    read_whole = ap (steps start) (sym (take_all k t h)) ∙ g.reached

    pub going-ends : s.top < room → ByteTold t (length t + 1)
    going-ends l =
        let z = g.sized in
        let e = read_whole ∙ ap (at s.bound s.value) (at_byte q s.top (omega arith)) in
        stops (stops-after t s.bound s.value (get_or q s.top 0) (drop (s.top + 1) q) e)

    pub going-spelled : room ≤ s.top → ByteTold t 0
    going-spelled l =
        let z = g.sized in
        let e = read_whole ∙ ap (at s.bound s.value) (drop_of_length-le q {i = s.top} (omega arith)) in
        let c = reached-spells t s.bound s.value e in
        spelled c.0 c.1 refl
