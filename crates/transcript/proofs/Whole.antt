-- The pieces handed out up to the end are all that is printed, and that is one text only. Assumes nothing.
use mathlib.Core.Path.{◌≡◌, refl, sym, subst, ◌∙◌}
use mathlib.Core.Logic.{inl, inr}
use mathlib.Core.List.{List, [], ◌++◌}
use mathlib.Core.Bool.{Bool}
use Prim.Native.Nat.{ℕ}
use lib.ListN.{take}
use Rattle.statement_writer.proofs.Puts.{put_front}
use Rattle.outcome.proofs.Unique.{runs-unique, runs-refused, result-runs, result-unique, refusal-unique}
use Rattle.transcript.specs.Transcript.{Whole, Output, HandedAt, Handed, beginning, Hands}
use Rattle.transcript.specs.declared.Stage.{Stage}
use Rattle.transcript.specs.declared.Stage.TheVariants.{Ended, Refused}
use Rattle.transcript.specs.declared.Position.{Position}
use Rattle.transcript.specs.declared.Piece.{Piece}

-- b is the pieces that calls one after another, from the first position up to p, leave at the front of the lent bytes
pub data Pieces (t u : List ℕ) (trace : Bool) : Position → List ℕ → Type 0 where
  none : Pieces t u trace beginning []
  more : {p : Position} {b o q : List ℕ} {r : Piece} → Pieces t u trace p b → Hands t u trace p o q r → Pieces t u trace r.next (b ++ take r.bytes q)

module _ {t u : List ℕ} {trace : Bool} where
  handed : {p : Position} {b : List ℕ} → Pieces t u trace p b → Handed t u trace p b
  handed none = refl
  handed (more {b = b} x h) = rw (put_front h.put h.fits) (h.reached b (handed x))

  -- at the end they are a whole output
  pub result-whole : {p : Position} {b : List ℕ} → Pieces t u trace p b → p.stage ≡ Ended → Output t u trace b
  result-whole {p = p} {b = b} x e = inl (subst (λ (s : Stage). HandedAt s t u trace p b) e (handed x))

  pub refusal-whole : {p : Position} {b : List ℕ} → Pieces t u trace p b → p.stage ≡ Refused → Output t u trace b
  refusal-whole {p = p} {b = b} x e = inr (subst (λ (s : Stage). HandedAt s t u trace p b) e (handed x))

  whole_unique : {b c : List ℕ} → Whole t u trace b → Whole t u trace c → b ≡ c
  whole_unique a b =
      let s = runs-unique (result-runs a.result) (result-runs b.result) in
      a.text ∙ rw (s.0, s.1, s.2, s.3, result-unique a.result b.result) (sym b.text)

  -- all that is printed for a program text and a start text is one text only
  pub output-unique : {b c : List ℕ} → Output t u trace b → Output t u trace c → b ≡ c
  output-unique (inl a) (inl b) = whole_unique a b
  output-unique (inl a) (inr b) = absurd (runs-refused (result-runs a.result) b)
  output-unique (inr a) (inl b) = absurd (runs-refused (result-runs b.result) a)
  output-unique (inr a) (inr b) = refusal-unique t u a b
