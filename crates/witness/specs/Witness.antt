-- Evidence for a path operator at a place, as it stands in lent words. Place s is statement s + 1.
use Rattle.std.specs.Prelude.{◌≡◌, List, Bool, ℕ, length}
use Rattle.ctl.specs.Paths.{Quant}
use Rattle.labelling.specs.declared.Operator.{Operator}
use Rattle.lassos.specs.Lassos.{Evident}
use Rattle.walks.specs.Told.{Told, rest_of}

-- the first m words tell a list that is evidence from s: it bears E of the operator out, or speaks against A of it. `turn` says how the path
-- goes on: 0 by any steps that exist, else from the word, counted from 1, to whose statement the last steps back
pub record Witness (k : Quant) (o : Operator) (n : ℕ) (step : ℕ → ℕ → Bool) (X Y : ℕ → Type 0) (s : ℕ) (old new : List ℕ) (m turn : ℕ) : Type 0 where
  pub ls : List ℕ
  pub counted : m ≡ length ls
  pub evident : Evident k o n step X Y s (rest_of turn) ls
  pub told : Told 0 ls old new
