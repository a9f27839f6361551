-- Proof devices: what the contracts of the functions that judge a mark say. No sentence of document 01 stands here.
use Rattle.std.specs.Prelude.{◌≡◌, Bool, true, false, List, ◌∷◌, ◌↔◌, ℕ, ◌+◌, ◌≤◌, ◌<◌, length, get_or}
use Rattle.language.specs.declared.Statement.{Statement}
use Rattle.program.specs.Program.{at}
use Rattle.program.specs.Reading.{statements, Held}
use Rattle.bits.specs.Row.{member}
use Rattle.marks.specs.Marks.{names}
use Rattle.marks.specs.declared.Mark.{Mark}
use Rattle.marks.specs.declared.Mark.TheVariants.{Rm, Rpl, Cse}
use Rattle.truth.specs.Truth.{uses_of}
use Rattle.marks.specs.Reading as marks
use Rattle.rewriting.specs.Verdicts.{Inside, Named, place, Judged, Widened, VerdictsBy, Verdicts, accepted_count, Rewritten}
use Rattle.rewriting.specs.declared.Verdict.{Verdict}
use Rattle.verdicts.specs.declared.Rewriting.{Rewriting}

-- the row has the places of the statements that the marks name, of n statements
pub record NamedIn (n : ℕ) (row : List ℕ) (ms : List Mark) : Type 0 where
  pub exact : (s : ℕ) → s < n → (member row s ≡ true) ↔ Named ms (s + 1)

-- v is the verdict of the mark m by the program's own uses, whose statement is i, where the row has the places that the earlier marks name
abbrev pub JudgedBy : List Statement → Mark → Statement → List ℕ → Verdict → Type 0
JudgedBy P m i row v =
    (earlier : List Mark) → (Inside (length P) (names m) → at P (place m) ≡ i) → NamedIn (length P) row earlier → Judged (uses_of P) P earlier m v

-- the row has the place of the mark m beside those of the earlier ones
abbrev pub Notes : ℕ → Mark → List ℕ → List ℕ → Type 0
Notes n m old new = (earlier : List Mark) → NamedIn n old earlier → NamedIn n new (m ∷ earlier)

-- the mark with the verdict byte b is an accepted `cse`
abbrev pub Reusing : Mark → ℕ → Type 0
Reusing (Rm n x e) b = ⊥
Reusing (Rpl n x a) b = ⊥
Reusing (Cse n t e) b = b ≡ 0

-- whether some `cse` is accepted: where none is, the widened uses are the program's own
abbrev pub Reused : List Statement → List Mark → Bool → Type 0
Reused P ms r = r ≡ false → (x s : ℕ) → Widened P ms x s → uses_of P x s

-- the text is taken as a list of marks
pub record SomeTaken (t : List ℕ) : Type 0 where
  pub ms : List Mark
  pub taken : marks.Taken t ms

-- the verdicts of the marks, where variables count as used as U says, stand in their bytes, and all bytes beyond are kept
pub record VerdictsOf (U : ℕ → ℕ → Type 0) (P : List Statement) (ms : List Mark) (old new : List ℕ) : Type 0 where
  pub judged : VerdictsBy U P ms new
  pub same : length new ≡ length old
  pub past : (j : ℕ) → length ms ≤ j → get_or new j 0 ≡ get_or old j 0

-- the bytes vs are verdicts of the marks that the text lists
pub record SomeJudged (P : List Statement) (t vs : List ℕ) : Type 0 where
  pub ms : List Mark
  pub taken : marks.Taken t ms
  pub judged : Verdicts P ms vs
  pub room : marks.most ≤ length vs

-- the accepted marks of ms are made, and counted
pub record RewritingOf (P : List Statement) (ms : List Mark) (vs : List ℕ) (r : Rewriting) : Type 0 where
  pub held : Held r.program
  pub rewritten : Rewritten P ms vs (statements r.program)
  pub counted : r.accepted ≡ accepted_count ms vs
