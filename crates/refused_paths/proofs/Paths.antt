-- From the rows of a search, and the way that it finds, to the path of a refused mark. Assumes nothing.
use mathlib.Core.Path.{◌≡◌, refl, sym, ◌∙◌}
use mathlib.Core.Logic.{◌↔◌, inl, inr}
use mathlib.Core.List.{List}
use Prim.Native.Nat.{ℕ, suc, ◌+◌, ◌-◌, ◌<◌}
use native.Mathlib.Omega.{arith}
use lib.ListN.{length, get_or}
use Rattle.language.specs.declared.Statement.{Statement}
use Rattle.bits.specs.Row.{member}
use Rattle.ctl.specs.Paths.{Graph, So, Direction, forward, backward}
use Rattle.flow.specs.Flow.{steps}
use Rattle.flow.specs.FlowOf.{flow_at}
use Rattle.atoms.specs.Facts.{used_in}
use Rattle.atoms.proofs.Rows.{facts-in}
use Rattle.table.specs.Rules.{direction, flow_steps, BothWays}
use Rattle.lassos.specs.Lassos.{place, last}
use Rattle.lassos.proofs.Ways.{way-inside}
use Rattle.departures.specs.Departures.{Departs, Left}
use Rattle.departures.proofs.Departures.{departs-same}
use Rattle.marks.specs.declared.Mark.{Mark}
use Rattle.marks.specs.declared.Mark.TheVariants.{Rm, Rpl, Cse}
use Rattle.rewriting.specs.Verdicts as verdicts
use Rattle.rewriting.specs.Verdicts.{Widened}
use Rattle.refused_marks.specs.RefusedMarks.{direction_of, Passes, UsedBy, Culprit, PathOf}
use Rattle.refused_marks.specs.Ends.{Ends}
use Rattle.refused_marks.proofs.Culprits.{culprit-ends}
use Rattle.refused_marks.proofs.Conditions.{unmet-some}
use Rattle.refused_paths.specs.Searching.{goes_back, FactsAt, Room, Searches, Refused}

module _ {P : List Statement} {ms : List Mark} {m : Mark} {n : ℕ} {rows : List ℕ} {codes : List (List ℕ)} {flow own : List ℕ} (r : Refused P ms m n rows codes flow own) where
  abbrev U : ℕ → ℕ → Type 0
  U = Widened P ms

  pub refused-facts : FactsAt P n rows codes
  refused-facts = record { size = r.known.size; facts = facts-in r.known.found }

  pub refused-room : Room n rows codes
  refused-room = record { few = omega (arith, r.known.size, r.known.few); sized = record { many = r.known.found.many; many_codes = r.known.found.many_codes } }

  pub refused-ways : BothWays n flow
  refused-ways = rw (← r.known.size) (record { size = r.known.flow_size; ahead = r.known.flows.forward; behind = r.known.flows.backward })

  -- ---- the graph's steps and the model's

  flow-graph : (d : Direction) → Graph n (flow_steps n (flow_at flow) d)
  flow-graph forward = rw (← r.known.size) r.known.flows.forward.graph
  flow-graph backward = rw (← r.known.size) r.known.flows.backward.graph

  same-steps : (d : Direction) (s t : ℕ) → s < n → flow_steps n (flow_at flow) d s t ≡ steps P d s t
  same-steps forward s t l = rw (← r.known.size) (r.known.flows.exact_forward s t (omega (arith, r.known.size)))
  same-steps backward s t l = rw (← r.known.size) (r.known.flows.exact_backward s t (omega (arith, r.known.size)))

  model-graph : (d : Direction) → Graph (length P) (steps P d)
  model-graph d = record {
    inside = λ s t l e. let h = (flow-graph d).inside s t (omega (arith, r.known.size)) (same-steps d s t (omega (arith, r.known.size)) ∙ e) in omega (arith, r.known.size);
    onward = λ s l. let o = (flow-graph d).onward s (omega (arith, r.known.size)) in (o.0, sym (same-steps d s o.0 (omega (arith, r.known.size))) ∙ o.1);
  }

  turned : (d : Mark) → direction (goes_back d) ≡ direction_of d
  turned (Rm n x e) = refl
  turned (Rpl n x a) = refl
  turned (Cse n x e) = refl

  -- ---- the uses that the rows have, and the widened ones

  ends_by : (d : Mark) → d ≡ m → (t : ℕ) → t < n → Ends (used_in rows) P d t ↔ Ends U P d t
  ends_by (Rm k x e) is t l = (r.known.found.used x (rw (← is) at r.valid).1).exact t (omega (arith, r.known.size))
  ends_by (Rpl k x a) is t l = (λ h. h, λ h. h)
  ends_by (Cse k x e) is t l = (λ h. h, λ h. h)

  culprit-by : (d : Mark) → d ≡ m → (t c : ℕ) → t < n → Culprit (used_in rows) P d t c → Culprit U P d t c
  culprit-by (Rm k x e) is t c l h = used h
    where
      used : UsedBy (used_in rows) P x t c → UsedBy U P x t c
      used (inl u) = inl u
      used (inr (two, no-use, u)) = inr (two, no-use, (ends_by (Rm k x e) is t l).0 u)
  culprit-by (Rpl k x a) is t c l h = h
  culprit-by (Cse k x e) is t c l h = h

  -- ---- the search

  module _ {through goal : List ℕ} (w : Searches P m n rows through goal) where
    abbrev Searched : List ℕ → Type 0
    Searched = Departs (flow_steps n (flow_at flow) (direction (goes_back m))) (So (member through)) (So (member goal)) (verdicts.place m)

    to-search : {ks : List ℕ} → Departs (steps P (direction_of m)) (Passes P m) (Ends U P m) (verdicts.place m) ks → Searched ks
    to-search d = rw (turned m) (departs-same (model-graph (direction_of m)) (verdicts.place m) (omega (arith, r.known.size, r.inside))
        (λ s t l. sym (same-steps (direction_of m) s t (omega (arith, r.known.size))))
        (λ t l x. (w.passes.exact t (omega (arith, r.known.size))).1 x)
        (λ t l y. (w.ends.exact t (omega (arith, r.known.size))).1 ((ends_by m refl t (omega (arith, r.known.size))).1 y)) d)

    pub search-some : ((ls : List ℕ) → Searched ls → ⊥) → ⊥
    search-some none = unmet-some U P (λ d. model-graph (direction_of d)) (verdicts.place m) (omega (arith, r.known.size, r.inside)) m r.unmet (λ ls d. none ls (to-search d))

    module _ {old new : List ℕ} {k : ℕ} (f : Left (flow_steps n (flow_at flow) (direction (goes_back m))) (So (member through)) (So (member goal)) (verdicts.place m) old new k) where
      abbrev end : ℕ
      end = place f.ls (last f.ls)

      pub end-inside : end < n
      end-inside = way-inside (flow-graph (direction (goes_back m))) (verdicts.place m) r.inside f.ls f.departs.way (last f.ls) (omega (arith, f.departs.leaves))

      pub end_word : get_or new (k - 1) 0 ≡ suc end
      end_word = let e : k - 1 ≡ 0 + last f.ls = omega (arith, f.counted) in rw e (f.told.words (last f.ls) (omega (arith, f.departs.leaves)))

      end-reached : Ends (used_in rows) P m end
      end-reached = (w.ends.exact end end-inside).0 f.departs.ends

      pub path-found : (t c : ℕ) → t ≡ end → (Ends (used_in rows) P m t → Culprit (used_in rows) P m t c) → PathOf U P m old new k c
      path-found t c is h = record {
        ls = f.ls;
        counted = f.counted;
        shown = record { way = model.way; leaves = model.leaves; ends = culprit-by m refl end c end-inside ((rw is at h) end-reached); between = model.between };
        shortest = λ d ks b. let v = to-search (departs-same (model-graph (direction_of m)) (verdicts.place m) (omega (arith, r.known.size, r.inside)) (λ s u l. refl) (λ s l x. x) (λ s l y. culprit-ends U P (λ x u. inl) m s d y) b) in f.shortest ks v.way v;
        told = f.told;
      }
        where
          model : Departs (steps P (direction_of m)) (Passes P m) (Ends U P m) (verdicts.place m) f.ls
          model = departs-same (flow-graph (direction_of m)) (verdicts.place m) r.inside (same-steps (direction_of m)) (λ s l x. (w.passes.exact s l).0 x)
              (λ s l y. (ends_by m refl s l).0 ((w.ends.exact s l).0 y)) (rw (turned m) at f.departs)
