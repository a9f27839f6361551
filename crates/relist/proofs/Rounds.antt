-- The program with the accepted marks made is one that can be listed, and what `relist` promises of it. Assumes nothing.
use mathlib.Core.Path.{◌≡◌, refl, sym, ◌∙◌}
use mathlib.Core.Bool.{Bool, false}
use mathlib.Core.List.{List}
use Prim.Native.Nat.{ℕ, ◌≤◌, ◌<◌}
use native.Mathlib.Decide.{dec_lt}
use native.Mathlib.Omega.{arith}
use lib.Dec.{eqb}
use lib.ListN.{length, get_or, get_or-eq_default}
use borrow.Author.Tests.{eq-eqb}
use Rattle.base.proofs.Bools.{clash}
use Rattle.language.specs.declared.Statement.TheVariants.{Skip}
use Rattle.language.specs.declared.Statement.{Statement}
use Rattle.program.specs.Program.{at, text, Taken, WellFormed}
use Rattle.program.specs.Reading.{statements, Held}
use Rattle.program.specs.declared.Program.{Program}
use Rattle.bits.proofs.Counts.{count_less}
use Rattle.atoms.proofs.Found.{count-size}
use Rattle.listing.proofs.Relisted.{list-updated}
use Rattle.listing.specs.Listing.{list_words, SetUpdated, Updated, Counted}
use Rattle.marks.specs.Reading as marks
use Rattle.marks.specs.declared.Mark.{Mark}
use Rattle.lockstep.proofs.Changed.{changed-wellformed}
use Rattle.rewriting.proofs.Rewritten.{rewritten-changed}
use Rattle.rewriting.specs.Verdicts.{Widened, Accepts}
use Rattle.verdicts.specs.Judging.{VerdictsOf, RewritingOf}
use Rattle.verdicts.specs.declared.Rewriting.{Rewriting}
use Rattle.relist.specs.Relist.{RelistMade}
use Rattle.relist.specs.Rounds.{Round}

-- a program is taken by its own text
pub own-text : {P : List Statement} → WellFormed P → Taken (text P) P
own-text w = record { lines = refl; program = w }

pub round : {p : Program} {u : List ℕ} {ms : List Mark} {old vs : List ℕ} {r : Rewriting} → Held p → WellFormed (statements p) → marks.Taken u ms
    → VerdictsOf (Widened (statements p) ms) (statements p) ms old vs → RewritingOf (statements p) ms vs r → Round p ms r
round {p = p} {vs = vs} {r = r} h w m j q = record {
  vs = vs;
  judged = j.judged;
  rewritten = q.rewritten;
  counted = q.counted;
  held = q.held;
  program = changed-wellformed w (rewritten-changed (statements p) _ vs j.judged (statements r.program) m.spells.valid q.rewritten);
  same = sym (count-size r.program q.held) ∙ q.rewritten.same ∙ count-size p h;
}

-- where none is accepted the program is as it was, and the list with it
module _ {p : Program} {ms : List Mark} {r : Rewriting} (round : Round p ms r) (none : r.accepted ≡ 0) where
  refused : (j : ℕ) → Accepts ms round.vs j → ⊥
  refused j a =
      let byte : ℕ → Bool = λ k. eqb (get_or round.vs k 0) 0 in
      let more = count_less (λ k. false) byte (length ms) (λ k l e. clash e refl) j a.0 refl (eq-eqb (get_or round.vs j 0) 0 a.1) in
      omega (arith, more, none, round.counted)

  stays : (s : ℕ) → at (statements r.program) s ≡ at (statements p) s
  stays s = go (dec_lt s (length (statements p)))
    where
      go : Dec (s < length (statements p)) → at (statements r.program) s ≡ at (statements p) s
      go (yes l) = round.rewritten.kept s l (λ j a e. refused j a)
      go (no l) =
          get_or-eq_default (statements r.program) Skip (omega (arith, round.rewritten.same))
          ∙ sym (get_or-eq_default (statements p) Skip (omega arith))

  set-stays : (Has : Statement → Type 0) (row : List ℕ) → SetUpdated (statements p) (statements r.program) Has row row
  set-stays Has row = record { changed = λ s d. absurd (d (stays s)); kept = λ s e. refl }

  pub unchanged : (l : List ℕ) → Updated (statements p) (statements r.program) l l
  unchanged l = record { same = refl; defined = λ v h. set-stays _ _; used = λ v h. set-stays _ _; past = λ m h. refl }

pub relisted-as : {t u old new defined used : List ℕ} {p : Program} {r : Rewriting} {ms : List Mark} → list_words ≤ length old → Taken t (statements p) → marks.Taken u ms
    → Round p ms r → Updated (statements p) (statements r.program) old new → Counted new defined used → RelistMade t u old new defined used
relisted-as {p = p} {r = made} {ms = ms} room t m r u c = record {
  P = statements p;
  ms = ms;
  vs = r.vs;
  Q = statements made.program;
  room = room;
  program = t;
  marks = m;
  judged = r.judged;
  rewritten = r.rewritten;
  updated = u;
  afresh = λ l. list-updated (statements p) (statements made.program) r.rewritten.same l u;
  counted = c;
}
