-- Proof devices: what the functions that walk along the steps of a graph establish. No sentence of the documents stands here.
use Rattle.std.specs.Prelude.{◌≡◌, List, Bool, true, false, ℕ, suc, ◌+◌, ◌≤◌, ◌<◌, length}
use Rattle.ctl.specs.Paths.{So}
use Rattle.forcing.specs.Numbers.{none, number_of, numbered}
use Rattle.lassos.specs.Lassos.{Way, Lasso, Each, Reaches}
use Rattle.lassos.specs.Distances.{Distances}
use Rattle.walks.specs.Told.{Told}
use Rattle.walks.specs.declared.Trail.{Trail}

-- r is a successor of s, and none has a smaller number
pub record Nearest (step : ℕ → ℕ → Bool) (numbers : List ℕ) (s r : ℕ) : Type 0 where
  pub goes : step s r ≡ true
  pub least : (t : ℕ) → step s t ≡ true → number_of numbers r ≤ number_of numbers t

-- the numbers are distances to q through p, and s has one
pub record Numbered (n : ℕ) (step : ℕ → ℕ → Bool) (p q : ℕ → Bool) (numbers : List ℕ) (s : ℕ) : Type 0 where
  pub inside : s < n
  pub has : numbered numbers s ≡ true
  pub small : (t : ℕ) → number_of numbers t ≤ none
  pub distances : Distances n step p q (numbered numbers) (number_of numbers)

pub record SomeNumbered (n : ℕ) (step : ℕ → ℕ → Bool) (numbers : List ℕ) (s : ℕ) : Type 0 where
  pub p : ℕ → Bool
  pub q : ℕ → Bool
  pub numbered : Numbered n step p q numbers s

-- a way from s by falling numbers stands from the word `at` on, and ends before the word `end`
pub record Walked (n : ℕ) (step : ℕ → ℕ → Bool) (numbers : List ℕ) (s at : ℕ) (old new : List ℕ) (end : ℕ) : Type 0 where
  pub ls : List ℕ
  pub size : length ls ≡ suc (number_of numbers s)
  pub ends : end ≡ at + length ls
  pub way : Way step s ls
  pub told : Told at ls old new
  pub reaches : (p q : ℕ → Bool) → Numbered n step p q numbers s → Reaches (So p) (So q) ls

-- a set of places of x, with s among them: from each of them a step leads to a place that is not to be avoided, and all such steps stay in it
pub record Endless (n : ℕ) (step : ℕ → ℕ → Bool) (x avoid : ℕ → Bool) (s : ℕ) : Type 0 where
  pub keep : ℕ → Bool
  pub inside : s < n
  pub start : keep s ≡ true
  pub holds : (t : ℕ) → t < n → keep t ≡ true → x t ≡ true
  pub onward : (t : ℕ) → t < n → keep t ≡ true → (u : ℕ) × (step t u ≡ true) × (avoid u ≡ false)
  pub stays : (t u : ℕ) → t < n → keep t ≡ true → step t u ≡ true → avoid u ≡ false → keep u ≡ true

pub record SomeEndless (n : ℕ) (step : ℕ → ℕ → Bool) (avoid : ℕ → Bool) (s : ℕ) : Type 0 where
  pub x : ℕ → Bool
  pub endless : Endless n step x avoid s

-- a lasso from s stands from the first word on
pub record Circled (n : ℕ) (step : ℕ → ℕ → Bool) (avoid : ℕ → Bool) (s : ℕ) (old new : List ℕ) (r : Trail) : Type 0 where
  pub ls : List ℕ
  pub counted : r.length ≡ length ls
  pub few : length ls ≤ n
  pub t : ℕ
  pub turn : r.turn ≡ suc t
  pub lasso : Lasso step s ls t
  pub told : Told 0 ls old new
  pub each : (x : ℕ → Bool) → Endless n step x avoid s → Each (So x) ls
