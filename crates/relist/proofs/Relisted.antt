-- "a list that was the given program's then equals it": where the lent list was the given program's, it is now the new program's, word for
-- word, so it is the one that `list` makes of the new text that `judge` writes. Assumes nothing.
use mathlib.Core.Path.{◌≡◌, refl}
use mathlib.Core.List.{List}
use Prim.Native.Nat.{ℕ, ◌≤◌, ◌<◌}
use lib.ListN.{length, get_or, take}
use Rattle.language.specs.declared.Statement.{Statement}
use Rattle.statement_writer.proofs.Puts.{put_front}
use Rattle.program.proofs.RoundTrip.{taken-unique}
use Rattle.program.specs.Program.{Taken}
use Rattle.listing.proofs.Counts.{counted-unique, counted_same}
use Rattle.listing.proofs.Relisted.{Words, list-updated, lists_agree}
use Rattle.listing.specs.Listing.{list_words, ListOf, Updated}
use Rattle.std.specs.Prelude.{Result, Ok, Err}
use Rattle.listing.specs.declared.Ones.{Ones}
use Rattle.list.specs.declared.Refusal.{Refusal}
use Rattle.marks.proofs.Lists as marks-unique
use Rattle.marks.specs.declared.Mark.{Mark}
use Rattle.lockstep.proofs.Changed.{changed-wellformed}
use Rattle.rewriting.proofs.Rewritten.{rewritten-changed}
use Rattle.rewriting.proofs.Unique.{rewritten-agree}
use Rattle.rewriting.specs.Verdicts.{Verdicts, Rewritten}
use Rattle.judge.specs.Judge.{Lent, JudgeFinished}
use Rattle.list.proofs.Unique.{never-refused}
use Rattle.list.specs.List.{ListMade, ListAnswers}
use Rattle.relist.specs.Relist.{RelistMade}

-- the theorem, of a program and the one with the accepted marks made
pub relisted : {P Q : List Statement} {ms : List Mark} {vs old new fresh : List ℕ} → ListOf P old → Rewritten P ms vs Q → Updated P Q old new → Words new
    → ListOf Q fresh → Words fresh → ListOf Q new × ((m : ℕ) → m < list_words → get_or new m 0 ≡ get_or fresh m 0)
relisted {P = P} {Q = Q} l r u w f x = let now = list-updated P Q r.same l u in (now, lists_agree w x now f)

-- the same of the calls: `relist` of the given text and marks, and `list` of the new text that `judge` wrote for them
module _ {t u : List ℕ} {o q : Lent} {marks accepted bytes : ℕ} (j : JudgeFinished t u o q marks accepted bytes) {old new d c : List ℕ}
    (r : RelistMade t u old new d c) (given : ListOf r.P old) where
  same-given : r.P ≡ j.P
  same-given = taken-unique r.program j.program

  same-marks : r.ms ≡ j.ms
  same-marks = marks-unique.taken-unique r.marks j.marks

  -- the marks are judged as `judge` does, so the new programs are one
  pub same-rewritten : r.Q ≡ j.Q
  same-rewritten =
      let judged : Verdicts j.P j.ms r.vs = rw (← same-given, ← same-marks) r.judged in
      let rewritten : Rewritten j.P j.ms r.vs r.Q = rw (← same-given, ← same-marks) r.rewritten in
      rewritten-agree j.P j.ms r.vs q.verdicts judged j.judged rewritten j.rewritten

  new-taken : Taken (take bytes q.new) j.Q
  new-taken = record {
    lines = put_front j.written j.fits;
    program = changed-wellformed j.program.program (rewritten-changed j.P j.ms q.verdicts j.judged j.Q j.marks.spells.valid j.rewritten);
  }

  module _ {old' new' e v : List ℕ} (f : ListMade (take bytes q.new) old' new' e v) (w : Words new) (x : Words new') where
    same-words : (m : ℕ) → m < list_words → get_or new m 0 ≡ get_or new' m 0
    same-words =
        let fresh : ListOf r.Q new' = rw (same-rewritten, ← taken-unique f.program new-taken) f.made in
        (relisted given r.rewritten r.updated w fresh x).1

    same-counts : (d ≡ e) × (c ≡ v)
    same-counts = counted-unique r.counted (counted_same (r.afresh given).room f.made.room same-words f.counted)

  -- `list`, lent enough words, is not refused, and leaves the same words and tells the same counts
  pub relisted-as-list : (a : Result Ones Refusal) (old' new' : List ℕ) → list_words ≤ length old' → Words new → Words new' → ListAnswers (take bytes q.new) old' new' a
      → (f : Ones) × (a ≡ Ok f) × ((m : ℕ) → m < list_words → get_or new m 0 ≡ get_or new' m 0) × (d ≡ f.defined) × (c ≡ f.used)
  relisted-as-list (Err n) old' new' room w x h = absurd (never-refused (take bytes q.new) old' h.0 room new-taken)
  relisted-as-list (Ok f) old' new' room w x h = let s = same-counts h w x in (f, refl, same-words h w x, s.0, s.1)
