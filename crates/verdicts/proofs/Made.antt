-- Accepted marks made line by line: what is known after j lines. Assumes nothing.
use mathlib.Core.Path.{◌≡◌, refl, sym, ap, ◌∙◌, subst}
use mathlib.Core.List.{List, [], ◌∷◌, map}
use mathlib.Core.Logic.{inl, inr}
use Prim.Native.Nat.{ℕ, zero, suc, ◌+◌, ◌-◌, ◌≤◌, ◌<◌}
use native.Mathlib.Omega.{arith}
use borrow.Author.Count.{below_more}
use borrow.Author.Tests.{eq-eqb, ne_eqb}
use lib.Dec.{eqb}
use lib.ListN.{length, get_or, take, set}
use lib.Seq.{get_or-set_same, get_or-set_other}
use Rattle.language.specs.declared.Statement.{Statement}
use Rattle.program.specs.Program.{most}
use Rattle.program.specs.Program as program
use Rattle.program.specs.Reading.{statements, Held}
use Rattle.encoding.specs.Encoding.{statement_in}
use Rattle.encoding.specs.declared.Entry.{Entry}
use Rattle.program.specs.declared.Program.{Program}
use Rattle.program.proofs.Held.{zeros, held, at_held, length-held}
use Rattle.bits.specs.Row.{count_below}
use Rattle.bits.proofs.Counts.{count-le, count-one, count_none}
use Rattle.marks.specs.Marks.{names, Spells, mark_at}
use Rattle.marks.specs.Reading.{MarkLineRead, Taken}
use Rattle.marks.specs.declared.Mark.{Mark}
use Rattle.std.specs.Prelude.{Option, Some, None}
use Rattle.marks.proofs.Walk.{Begins, begins-first, line-mark, line-next, line-inside, text-done}
use Rattle.lockstep.specs.Rules.{makes}
use Rattle.rewriting.specs.Verdicts.{Named, place, Judged, Widened, Verdicts, accepted_count, Rewritten}
use Rattle.rewriting.specs.declared.Verdict.TheVariants.{Accepted}
use Rattle.rewriting.proofs.Accepted.{accepted-judged}
use Rattle.marks.proofs.Lists.{taken-unique}
use Rattle.verdicts.specs.Judging.{SomeJudged}

-- a line before j names what it names
pub named-earlier : (ms : List Mark) (i j : ℕ) → i < j → i < length ms → Named (take j ms) (names (mark_at ms i))
named-earlier [] i j h l = absurd (omega arith)
named-earlier (m ∷ ms) i zero h l = absurd (omega arith)
named-earlier (m ∷ ms) zero (suc j) h l = inl refl
named-earlier (m ∷ ms) (suc i) (suc j) h l = inr (named-earlier ms i j (omega arith) (omega arith))

pub record InsideOf (P : List Statement) (m : Mark) : Type 0 where
  pub low : 1 ≤ names m
  pub high : names m ≤ length P

pub record MadeSoFar (given es : List Entry) (t : List ℕ) (ms : List Mark) (vs : List ℕ) (accepted j at : ℕ) : Type 0 where
  pub begins : Begins t ms j at
  pub made : (i : ℕ) → i < j → get_or vs i 0 ≡ 0 → held es (place (mark_at ms i)) ≡ makes (mark_at ms i) (held given (place (mark_at ms i)))
  pub kept : (s : ℕ) → ((i : ℕ) → i < j → get_or vs i 0 ≡ 0 → place (mark_at ms i) ≡ s → ⊥) → held es s ≡ held given s
  pub counted : accepted ≡ count_below (λ i. eqb (get_or vs i 0) 0) j

pub made_none : {given : List Entry} {t : List ℕ} {ms : List Mark} {vs : List ℕ} → Spells t ms → MadeSoFar given given t ms vs 0 0 0
unfolding count_below
made_none s = record { begins = begins-first s; made = λ i l. absurd (omega arith); kept = λ s f. refl; counted = refl }

module _ {given es : List Entry} {t : List ℕ} {ms : List Mark} {vs : List ℕ} {accepted j at : ℕ} (s : MadeSoFar given es t ms vs accepted j at) where
  module _ {r : Option (Mark × ℕ)} {m : Mark} {k : ℕ} (is : r ≡ Some (m, k)) (l : MarkLineRead t at r) where
    mark-is : m ≡ mark_at ms j
    mark-is = line-mark s.begins is l _

    -- a refused mark is not made
    pub made-less : (get_or vs j 0 ≡ 0 → ⊥) → MadeSoFar given es t ms vs accepted (j + 1) k
    made-less f = record {
      begins = line-next s.begins is l;
      made = below_more (λ i. get_or vs i 0 ≡ 0 → held es (place (mark_at ms i)) ≡ makes (mark_at ms i) (held given (place (mark_at ms i)))) j s.made (λ e. absurd (f e));
      kept = λ u g. s.kept u (λ i h e p. g i (omega arith) e p);
      counted = s.counted ∙ sym (count_none (λ i. eqb (get_or vs i 0) 0) j (ne_eqb (get_or vs j 0) 0 f));
    }

    module _ (P : List Statement) (judged : Verdicts P ms vs) (few : length P ≤ length es) (e : get_or vs j 0 ≡ 0) where
      here : Judged (Widened P ms) P (take j ms) (mark_at ms j) Accepted
      here = accepted-judged P ms vs judged j (line-inside s.begins is l, e)

      -- the statement that it names is one of the program's
      low : 1 ≤ names m
      low = rw mark-is here.0.0

      high : place m < length P
      high = let a = low in let b : names m ≤ length P = rw mark-is here.0.1 in omega arith

      pub accepted-inside : InsideOf P m
      accepted-inside = record { low = low; high = let a = low in let b = high in omega arith }

      -- no accepted mark before names it
      apart : (i : ℕ) → i < j → get_or vs i 0 ≡ 0 → place (mark_at ms i) ≡ place m → ⊥
      apart i h z p =
          let b = line-inside s.begins is l in
          let a : 1 ≤ names (mark_at ms i) = (accepted-judged P ms vs judged i (omega arith, z)).0.0 in
          let c = low in
          let same : names (mark_at ms i) ≡ names m = omega arith in
          here.1 (rw (← mark-is) (rw same at (named-earlier ms i j h (omega arith))))

      made-here : (f : Entry) → statement_in f ≡ makes m (held given (place m)) → MadeSoFar given (set es (place m) f) t ms vs (accepted + 1) (j + 1) k
      made-here f holds = record {
        begins = line-next s.begins is l;
        made = below_more (λ i. get_or vs i 0 ≡ 0 → held new (place (mark_at ms i)) ≡ makes (mark_at ms i) (held given (place (mark_at ms i)))) j
            (λ i h z. other (place (mark_at ms i)) (apart i h z) ∙ s.made i h z)
            (λ z. rw (← mark-is) same_place);
        kept = λ u g. other u (λ p. g j (omega arith) e (ap place (sym mark-is) ∙ sym p)) ∙ s.kept u (λ i h z p. g i (omega arith) z p);
        counted = let c = s.counted in rw (count-one (λ i. eqb (get_or vs i 0) 0) j (eq-eqb (get_or vs j 0) 0 e)) (ap (λ (n : ℕ). n + 1) c);
      }
        where
          new : List Entry
          new = set es (place m) f

          other : (u : ℕ) → (u ≡ place m → ⊥) → held new u ≡ held es u
          other u d = ap statement_in (get_or-set_other es (place m) u f zeros d)

          same_place : held new (place m) ≡ makes m (held given (place m))
          same_place = let h = high in ap statement_in (get_or-set_same es (place m) f zeros (omega arith)) ∙ holds

      pub made_more : (n : ℕ) → n ≡ names m → (f : Entry) → statement_in f ≡ makes m (held given (n - 1)) → MadeSoFar given (set es (n - 1) f) t ms vs (accepted + 1) (j + 1) k
      made_more n q f z = rw q (made-here f (rw q at z))

  pub accepted-few : accepted ≤ j
  accepted-few = omega (arith, s.counted, count-le (λ i. eqb (get_or vs i 0) 0) j)

pub held-few : {p : Program} → Held p → length (statements p) ≤ most
held-few {p = p} h = omega (arith, length-held p.entries p.count (omega (arith, h.room, h.few)), h.few)

-- the verdicts are those of every list that the text is taken as
pub verdicts-same : {P : List Statement} {t vs : List ℕ} {ms : List Mark} → SomeJudged P t vs → Taken t ms → Verdicts P ms vs
verdicts-same {P = P} {vs = vs} j t = subst (λ (l : List Mark). Verdicts P l vs) (taken-unique j.taken t) j.judged

-- after the last line the program is rewritten
module _ (p : Program) (h : Held p) (es : List Entry) {t : List ℕ} {ms : List Mark} {vs : List ℕ} {accepted j at : ℕ} (s : MadeSoFar p.entries es t ms vs accepted j at)
    (over : length t ≤ at) (room : length es ≡ most) (judged : Verdicts (statements p) ms vs) where
  q : Program
  q = record { entries = es; count = p.count }

  ended : j ≡ length ms
  ended = text-done s.begins over

  counted : length (statements p) ≡ p.count
  counted = length-held p.entries p.count (omega (arith, h.room, h.few))

  counted-q : length (map statement_in (take p.count es)) ≡ p.count
  counted-q = length-held es p.count (omega (arith, h.few))

  at_p : (u : ℕ) → u < p.count → program.at (statements p) u ≡ held p.entries u
  at_p u l = at_held p.entries p.count u (omega (arith, counted))

  at-q : (u : ℕ) → u < p.count → program.at (map statement_in (take p.count es)) u ≡ held es u
  at-q u l = at_held es p.count u (omega (arith, counted-q))

  pub made_all : Rewritten (statements p) ms vs (map statement_in (take p.count es))
  made_all = record {
    same = counted-q ∙ sym counted;
    made = λ i a.
        let d = accepted-judged (statements p) ms vs judged i a in
        let l : place (mark_at ms i) < p.count = omega (arith, d.0.0, d.0.1, counted) in
        at-q (place (mark_at ms i)) l ∙ s.made i (omega (arith, a.0, ended)) a.1 ∙ ap (makes (mark_at ms i)) (sym (at_p (place (mark_at ms i)) l));
    kept = λ u l f.
        let k : u < p.count = omega (arith, counted) in
        at-q u k ∙ s.kept u (λ i b z e. f i (omega (arith, ended), z) e) ∙ sym (at_p u k);
  }

  pub counted-all : accepted ≡ accepted_count ms vs
  counted-all = s.counted ∙ ap (count_below (λ i. eqb (get_or vs i 0) 0)) ended
