-- From the lists of edges to the steps of the program, and from the places at which he picks to his variables. Assumes nothing.
use mathlib.Core.Path.{◌≡◌, refl, sym, ap, ◌∙◌}
use mathlib.Core.List.{List}
use mathlib.Core.Bool.{Bool}
use mathlib.Core.Logic.{◌↔◌}
use Prim.Native.Nat.{ℕ, ◌-◌, ◌≤◌, ◌<◌}
use native.Mathlib.Omega.{arith}
use lib.ListN.{length, take, drop, length-drop}
use lib.Seq.{length-take-le, take_all}
use Rattle.language.specs.declared.Statement.{Statement}
use Rattle.program.specs.Program.{at}
use Rattle.ctl.specs.Paths.{So, Graph, forward}
use Rattle.ctl.proofs.Paths.{path_inside, graph_same}
use Rattle.graph.specs.Graphs.{entries, edges_at, step_of, DirectionsAt}
use Rattle.flow.specs.Flow.{steps}
use Rattle.flow.specs.FlowOf.{flow_entries, flow_at, FlowOf}
use Rattle.games.specs.Ranks.{Ranks}
use Rattle.forcing.specs.Numbers.{none, number_of, numbered}
use Rattle.forcing.proofs.Told.{told, told-map, ranks-same, ranks-steps}
use Rattle.arms.specs.Arms.{his, arm_at, ArmsOf, Strategies}
use Rattle.arms.specs.Forced.{Forced}
use Rattle.arms.proofs.Strategies.{strategies}

module _ (P : List Statement) (n : ℕ) (is : length P ≡ n) (flow : List ℕ) (size : length flow ≡ flow_entries) (f : FlowOf P (flow_at flow)) where
  backward-size : length (drop entries flow) ≡ entries
  backward-size = rw (length-drop entries flow) (omega arith)

  backward-part : take (length flow - entries) (drop entries flow) ≡ drop entries flow
  backward-part = take_all (length flow - entries) (drop entries flow) (omega (arith, backward-size))

  -- both directions, as they are lent on
  pub lent-directions : DirectionsAt n (take entries flow) (take (length flow - entries) (drop entries flow))
  lent-directions = rw backward-part (record { steps_size = length-take-le entries flow (omega arith); opposite_size = backward-size; directions = rw is at f.forward })

  -- the steps that stand in the lent numbers
  abbrev listed : ℕ → ℕ → ℕ → Bool
  listed m = step_of m (edges_at (take entries flow))

  pub forced-of : (mine q named : ℕ → Bool) (numbers arms : List ℕ) → ((s : ℕ) → s < n → mine s ≡ his P named s)
      → Ranks n (listed n) mine q (numbered numbers) (number_of numbers) → ((s : ℕ) → number_of numbers s ≤ none) → ArmsOf P mine numbers arms
      → Forced P (his P named) (So q) numbers arms
  forced-of mine q named numbers arms own r small chosen = record {
    told = told (length P) (steps P forward) (his P named) q graph numbers ranks;
    chosen = armed;
    strategies = strategies (length P) (steps P forward) (his P named) q numbers graph ranks small P refl (λ s t l. refl) arms armed;
  }
    where
      same : (s t : ℕ) → s < length P → listed (length P) s t ≡ steps P forward s t
      same = f.exact_forward

      graph : Graph (length P) (steps P forward)
      graph = graph_same f.forward.graph (steps P forward) same

      lists : Ranks (length P) (listed (length P)) mine q (numbered numbers) (number_of numbers)
      lists = rw is r

      ranks : Ranks (length P) (steps P forward) (his P named) q (numbered numbers) (number_of numbers)
      ranks =
          ranks-same graph (λ s l. sym (own s (omega (arith, is)))) (λ s l. refl) (λ s l. refl)
          (ranks-steps (length P) (listed (length P)) (steps P forward) (λ s t l. sym (same s t l)) mine q (numbered numbers) (number_of numbers) lists)

      armed : ArmsOf P (his P named) numbers arms
      armed s l = chosen s l ∙ ap (λ (o : Bool). arm_at (at P s) o numbers s) (own s (omega (arith, is)))

-- what is to be brought about may be said otherwise of the program's places
module _ {P : List Statement} {mine : ℕ → Bool} {X Y : ℕ → Type 0} (g : Graph (length P) (steps P forward)) (both : (t : ℕ) → t < length P → X t ↔ Y t) {numbers arms : List ℕ} where
  strategies-map : (s : ℕ) → s < length P → Strategies P (steps P forward) mine X numbers arms s → Strategies P (steps P forward) mine Y numbers arms s
  strategies-map s l w = record {
    his_arms = λ f π p k. let a = w.his_arms f π p k in (a.0, a.1, (both (π a.0) (path_inside g s l π p a.0)).0 a.2);
    unit_arms = λ e π p k i x. w.unit_arms e π p k i ((both (π i) (path_inside g s l π p i)).1 x);
  }

  pub forced-map : Forced P mine X numbers arms → Forced P mine Y numbers arms
  forced-map f = record {
    told = λ s l. told-map (length P) (steps P forward) g mine X Y both numbers s l (f.told s l);
    chosen = f.chosen;
    strategies = λ s l. strategies-map s l (f.strategies s l);
  }
