-- `path_of` meets its contract: the way that the search finds is the path, and its last word tells the place of the culprit. Assumes nothing.
use Rattle.refused_paths.proofs.Paths.{refused-facts, refused-room, refused-ways, search-some, end-inside, end_word, path-found}
use native.Mathlib.Omega.{arith}
use mathlib.Core.Path.{◌∙◌}
use Rattle.refused_paths.proofs.path_of.Goals as goal

pub rows_for-requires : goal.rows_for-requires
rows_for-requires c = let r = c.requires.0.refused in record { valid_mark = (r.valid, refused-room r); through_len = (c.blank_row-through.ensures.size, c.blank_row-goal.ensures.size) }

pub search-length-requires : goal.search-length-requires
search-length-requires c =
    let r = c.requires.0.refused in
    record { both_ways = (refused-ways r, (refused-room r).few, c.rows_for.auto.through ∙ c.blank_row-through.ensures.size, c.rows_for.auto.goal ∙ c.blank_row-goal.ensures.size, c.requires.2); s_lt_n = (omega (arith, r.inside, c.requires.0.here), rw (c.goes_back.ensures, c.requires.0.here) (search-some r (c.rows_for.ensures _ (refused-facts r)))) }

pub overflow_sub-t-2 : goal.overflow_sub-t-2
overflow_sub-t-2 c =
    let r = c.requires.0.refused in
    omega (arith, end_word r (c.rows_for.ensures _ (refused-facts r)) (rw (c.goes_back.ensures, c.requires.0.here) at c.search-length.ensures.0))

pub overflow_cast-t : goal.overflow_cast-t
overflow_cast-t c =
    let r = c.requires.0.refused in
    let w = c.rows_for.ensures _ (refused-facts r) in
    let f = rw (c.goes_back.ensures, c.requires.0.here) at c.search-length.ensures.0 in
    omega (arith, end_word r w f, end-inside r w f, (refused-room r).few)

pub culprit_for-requires : goal.culprit_for-requires
culprit_for-requires c =
    let r = c.requires.0.refused in
    let w = c.rows_for.ensures _ (refused-facts r) in
    let f = rw (c.goes_back.ensures, c.requires.0.here) at c.search-length.ensures.0 in
    (r.valid, refused-room r, c.requires.1, omega (arith, end_word r w f, end-inside r w f))

pub returns : goal.returns
returns c = (
  λ P ms r.
      let w = c.rows_for.ensures P (refused-facts r) in
      let f = rw (c.goes_back.ensures, c.requires.0.here) at c.search-length.ensures.0 in
      path-found r w f _ _ (omega (arith, end_word r w f)) (c.culprit_for.ensures P (refused-facts r) r.uses),
  c.search-length.ensures.1,
)
