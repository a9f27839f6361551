-- Lists that agree on the kept variables keep the same. Assumes nothing.
use mathlib.Core.Path.{◌≡◌, sym, ◌∙◌}
use mathlib.Core.List.{List}
use Prim.Native.Nat.{ℕ, ◌+◌, ◌≤◌, ◌<◌}
use native.Mathlib.Omega.{arith}
use lib.ListN.{length, get_or, take, drop, length-take, length-drop}
use lib.Seq.{ext_get_or, get_or-take, get_or-drop}
use Rattle.language.specs.Spelling.{variables}
use Rattle.language.specs.Kept.{first_kept, kept_count, Kept, kept_of}

kept-length : (vs : List ℕ) → length vs ≡ variables → length (kept_of vs) ≡ kept_count
kept-length vs l = simp (length-take, length-drop) (omega arith)

kept_at : (vs : List ℕ) (i : ℕ) → i < kept_count → get_or (kept_of vs) i 0 ≡ get_or vs (first_kept + i) 0
kept_at vs i l = get_or-take kept_count (drop first_kept vs) i 0 l ∙ get_or-drop first_kept vs i 0

pub kept-agree : (vs ws : List ℕ) → length vs ≡ variables → length ws ≡ variables → ((x : ℕ) → Kept x → get_or vs x 0 ≡ get_or ws x 0) → kept_of vs ≡ kept_of ws
kept-agree vs ws l m h =
    ext_get_or 0 (kept_of vs) (kept_of ws) (kept-length vs l ∙ sym (kept-length ws m))
    (λ i b. let c : i < kept_count = omega (arith, kept-length vs l) in kept_at vs i c ∙ h (first_kept + i) (omega arith, omega arith) ∙ sym (kept_at ws i c))
