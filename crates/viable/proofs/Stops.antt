-- A text that is read so far begins some spelling, and one that isn't begins none: where the reading stops. Assumes nothing.
use mathlib.Core.Path.{◌≡◌, refl, ap, sym, ◌∙◌}
use mathlib.Core.List.{List, [], ◌∷◌, ◌++◌, append_assoc, append-nil}
use mathlib.Core.Bool.{Bool, true, false, ◌&&◌}
use mathlib.Core.Logic.{◌⊎◌, inl, inr}
use Prim.Native.Nat.{ℕ, suc, ◌+◌, ◌-◌, ◌*◌, ◌≤◌, ◌<◌}
use native.Mathlib.Omega.{arith}
use native.Mathlib.Numerals.{add-one}
use lib.Dec.{eqb, leb, ltb}
use lib.ListN.{length, get_or, take, drop, take-append-drop}
use lib.Seq.{take-suc, take_all}
use borrow.Author.Tests.{eqb-true, leb-true, ltb-true}
use Rattle.base.specs.Bytes.{bytes, byte}
use Rattle.base.specs.Pick.{pick}
use Rattle.base.proofs.Bools.{and_left, and_right}
use Rattle.language.specs.Spelling.{digits}
use Rattle.language.proofs.Digits.{digits_more}
use Rattle.condition.specs.Condition.{Condition, spell_condition, ValidCondition}
use Rattle.condition.specs.Texts.{Spells}
use Rattle.viable.specs.Begins.{Begins, StopsAt}
use Rattle.viable.specs.Grammar.{rows, Expansion, word, none, rule_in, nonzero, class_of, capital, expand, bound_of, Reached, at, nowhere, more, opened, expanded, by_top, step, steps, start}
use Rattle.viable.proofs.Complete.{steps-append, steps-nowhere, spelling-read, spells-read}
use Rattle.viable.proofs.Languages.{Then, OfCondition, Of, Words, some_words, words_append}
use Rattle.viable.proofs.Rows.{More, MoreOf, RightBy, Right, row-right}

abbrev Done : List ℕ → Type 0
Done u = u ≡ []

-- the texts that may follow
abbrev Left : ℕ → ℕ → List ℕ → List ℕ → Type 0
Left b n st v = Then (MoreOf b n) (Words st Done) v

-- what `at` holds
abbrev bound_in : Reached → ℕ
bound_in (at b n st) = b
bound_in nowhere = 0

abbrev value_in : Reached → ℕ
value_in (at b n st) = n
value_in nowhere = 0

abbrev stack_in : Reached → List ℕ
stack_in (at b n st) = st
stack_in nowhere = []

same_left : {b n d m : ℕ} {st su : List ℕ} → at b n st ≡ at d m su → (v : List ℕ) → Left d m su v → Left b n st v
same_left e v l = rw (ap bound_in e, ap value_in e, ap stack_in e) l

nowhere-at : {C : Type 0} {b n : ℕ} {st : List ℕ} → nowhere ≡ at b n st → C
nowhere-at e = let z : ◌≡◌ {A = ℕ} 0 1 = cc in absurd (omega arith)

-- no number stands open
closed : (ds : List ℕ) → MoreOf 0 0 ds → ds ≡ []
closed ds (inl e) = e
closed ds (inr m) = absurd (omega (arith, m.below))

-- one digit more
module _ (b n c : ℕ) (h : more b n c ≡ true) where
  abbrev digit : Bool
  digit = leb 48 c && leb c 57

  abbrev within : Bool
  within = ltb 0 n && ltb (n * 10 + (c - 48)) b

  pub low : 48 ≤ c
  unfolding more
  low = leb-true 48 c (and_left (leb 48 c) (leb c 57) (and_left digit within h))

  pub high : c ≤ 57
  unfolding more
  high = leb-true c 57 (and_right (leb 48 c) (leb c 57) (and_left digit within h))

  positive : 0 < n
  unfolding more
  positive = ltb-true 0 n (and_left (ltb 0 n) (ltb (n * 10 + (c - 48)) b) (and_right digit within h))

  pub inside : n * 10 + (c - 48) < b
  unfolding more
  inside = ltb-true (n * 10 + (c - 48)) b (and_right (ltb 0 n) (ltb (n * 10 + (c - 48)) b) (and_right digit within h))

  longer : digits (n * 10 + (c - 48)) ≡ digits n ++ c ∷ []
  longer =
      let l = low in
      let u = high in
      let e : 48 + (c - 48) ≡ c = omega arith in
      rw e at (digits_more n (c - 48) positive (omega arith))

  more-digits : (ds : List ℕ) → MoreOf b (n * 10 + (c - 48)) ds → More b n (c ∷ ds)
  more-digits ds (inl e) = record { whole = n * 10 + (c - 48); below = inside; spelled = longer ∙ rw e }
  more-digits ds (inr m) = record { whole = m.whole; below = m.below; spelled = m.spelled ∙ rw (longer, append_assoc) }

  more-sound : (st v : List ℕ) → Left b (n * 10 + (c - 48)) st v → Left b n st (c ∷ v)
  more-sound st v l = record { front = c ∷ l.front; rest = l.rest; text = ap (λ (x : List ℕ). c ∷ x) l.text; is = inr (more-digits l.front l.is); follows = l.follows }

-- a row
module _ (i c : ℕ) (st w : List ℕ) (found : expand i c ≡ word w) (v : List ℕ) where
  first-sound : nonzero c ≡ true → Left (bound_of i) (c - 48) (w ++ st) v → Then (Of i) (Words st Done) (c ∷ v)
  unfolding expand
  first-sound z l =
      let low = leb-true 49 c (and_left (leb 49 c) (leb c 57) z) in
      let high = leb-true c 57 (and_right (leb 49 c) (leb c 57) z) in
      let e : 48 + (c - 48) ≡ c = omega arith in
      let f : rule_in rows i 49 ≡ word w = rw z at found in
      let r = row-right (Words st Done) i 49 w f (c - 48) l.front (omega arith) (omega arith) l.is l.rest (words_append w st Done l.rest l.follows) in
      rw l.text (rw e at r)

  other : nonzero c ≡ false → eqb c 49 ≡ false
  other z = go (eqb c 49) refl
    where
      go : (a : Bool) → eqb c 49 ≡ a → a ≡ false
      go true e = let k : true ≡ false = rw (eqb-true c 49 e) at z in k
      go false e = refl

  byte-sound : nonzero c ≡ false → Left 0 0 (w ++ st) v → Then (Of i) (Words st Done) (c ∷ v)
  unfolding expand
  byte-sound z l =
      let f : rule_in rows i c ≡ word w = rw z at found in
      let r : RightBy false (Words st Done) i c w = rw (other z) at (row-right (Words st Done) i c w f) in
      let e : v ≡ l.rest = l.text ∙ rw (closed l.front l.is) in
      rw e (r l.rest (words_append w st Done l.rest l.follows))

  row-sound : {b n : ℕ} {su : List ℕ} → opened i c (w ++ st) ≡ at b n su → Left b n su v → Then (Of i) (Words st Done) (c ∷ v)
  row-sound {b} {n} {su} e l = go (nonzero c) refl e
    where
      go : (a : Bool) → nonzero c ≡ a → pick a (at (bound_of i) (c - 48) (w ++ st)) (at 0 0 (w ++ st)) ≡ at b n su → Then (Of i) (Words st Done) (c ∷ v)
      go true z f = first-sound z (same_left f v l)
      go false z f = byte-sound z (same_left f v l)

-- an item that is a byte
literal-sound : (i c : ℕ) (st v : List ℕ) → capital i ≡ false → i ≡ c → Left 0 0 st v → Then (Of i) (Words st Done) (c ∷ v)
literal-sound i c st v z e k =
    record { front = i ∷ []; rest = k.rest; text = rw e (ap (λ (x : List ℕ). c ∷ x) (k.text ∙ rw (closed k.front k.is))); is = rw z refl; follows = k.follows }

top_sound : (st : List ℕ) (c : ℕ) (v : List ℕ) {b n : ℕ} {su : List ℕ} → by_top st c ≡ at b n su → Left b n su v → Words st Done (c ∷ v)
top_sound [] c v e l = nowhere-at e
top_sound (i ∷ st) c v {b} {n} {su} e l = go (capital i) refl e
  where
    by_row : (x : Expansion) → expand i c ≡ x → expanded x i c st ≡ at b n su → Then (Of i) (Words st Done) (c ∷ v)
    by_row (word w) f g = row-sound i c st w f v g l
    by_row none f g = nowhere-at g

    by_byte : capital i ≡ false → (a : Bool) → eqb i c ≡ a → pick a (at 0 0 st) nowhere ≡ at b n su → Then (Of i) (Words st Done) (c ∷ v)
    by_byte z true f g = literal-sound i c st v z (eqb-true i c f) (same_left g v l)
    by_byte z false f g = nowhere-at g

    go : (a : Bool) → capital i ≡ a → pick a (expanded (expand i c) i c st) (pick (eqb i c) (at 0 0 st) nowhere) ≡ at b n su → Then (Of i) (Words st Done) (c ∷ v)
    go true z f = by_row (expand i c) refl f
    go false z f = by_byte z (eqb i c) refl f

step-sound : (b n : ℕ) (st : List ℕ) (c : ℕ) (v : List ℕ) {d m : ℕ} {su : List ℕ} → step b n st c ≡ at d m su → Left d m su v → Left b n st (c ∷ v)
unfolding step
step-sound b n st c v {d} {m} {su} e l = go (more b n c) refl e
  where
    go : (a : Bool) → more b n c ≡ a → pick a (at b (n * 10 + (c - 48)) st) (by_top st c) ≡ at d m su → Left b n st (c ∷ v)
    go true z f = more-sound b n c z st v (same_left f v l)
    go false z f = record { front = []; rest = c ∷ v; text = refl; is = inl refl; follows = top_sound st c v f l }

steps-sound : (t : List ℕ) (b n : ℕ) (st : List ℕ) (v : List ℕ) {d m : ℕ} {su : List ℕ} → steps (at b n st) t ≡ at d m su → Left d m su v → Left b n st (t ++ v)
unfolding steps
steps-sound [] b n st v e l = same_left e v l
steps-sound (c ∷ t) b n st v {d} {m} {su} e l = go (step b n st c) refl e (λ b₁ n₁ s₁ f. steps-sound t b₁ n₁ s₁ v f l)
  where
    go : (r : Reached) → step b n st c ≡ r → steps r t ≡ at d m su → ((b₁ n₁ : ℕ) (s₁ : List ℕ) → steps (at b₁ n₁ s₁) t ≡ at d m su → Left b₁ n₁ s₁ (t ++ v)) → Left b n st (c ∷ (t ++ v))
    go (at b₁ n₁ s₁) z f ih = step-sound b n st c (t ++ v) z (ih b₁ n₁ s₁ f)
    go nowhere z f ih = nowhere-at (sym (steps-nowhere t) ∙ f)

-- what the whole expects at its start is a condition
condition-left : (v : List ℕ) → Left 0 0 (bytes "C") v → (c : Condition) × (spell_condition c ≡ v) × ValidCondition c
condition-left v l =
    let o = l.follows in
    let p = o.is in
    let e : v ≡ spell_condition p.value = l.text ∙ rw (closed l.front l.is, o.text, o.follows, p.is) (append-nil (spell_condition p.value)) in
    (p.value, sym e, p.good)

module _ (t : List ℕ) {b n : ℕ} {st : List ℕ} (reached : steps start t ≡ at b n st) where
  -- whatever may follow ends a condition
  left-ends : (v : List ℕ) → Words st Done v → (c : Condition) × (spell_condition c ≡ t ++ v) × ValidCondition c
  left-ends v a = condition-left (t ++ v) (steps-sound t 0 0 (bytes "C") v reached (record { front = []; rest = v; text = refl; is = inl refl; follows = a }))

  pub reached-begins : Begins t
  reached-begins =
      let s = some_words st in
      let c = left-ends s.0 s.1 in
      record { condition = c.0; rest = s.0; valid = c.2; spelling = c.1 }

pub reached-spells : (t : List ℕ) (b n : ℕ) → steps start t ≡ at b n [] → (c : Condition) × Spells t c
reached-spells t b n e = let c = left-ends t e [] refl in (c.0, record { spelling = sym (append-nil t) ∙ sym c.1; valid = c.2 })

pub nowhere-begins : (t : List ℕ) → steps start t ≡ nowhere → Begins t → ⊥
nowhere-begins t e g =
    nowhere-at (sym (steps-nowhere g.rest) ∙ ap (λ (r : Reached). steps r g.rest) (sym e) ∙ sym (steps-append start t g.rest) ∙ ap (steps start) (sym g.spelling)
    ∙ spelling-read g.condition g.valid)

-- something is expected yet
pub expects : (t : List ℕ) (b n i : ℕ) (st : List ℕ) → steps start t ≡ at b n (i ∷ st) → (c : Condition) → Spells t c → ⊥
expects t b n i st e c s = let k : i ∷ st ≡ [] = ap stack_in (sym e ∙ spells-read s) in absurd (omega (arith, ap length k))

-- a beginning of a spelling
spells-begins : {t : List ℕ} {c : Condition} (k : ℕ) → Spells t c → Begins (take k t)
spells-begins {t} {c} k s = record { condition = c; rest = drop k t; valid = s.valid; spelling = sym s.spelling ∙ sym (take-append-drop k t) }

past : (t : List ℕ) (k b n : ℕ) (st : List ℕ) → k < length t → steps start (take k t) ≡ at b n st → step b n st (get_or t k 0) ≡ nowhere → steps start (take (k + 1) t) ≡ nowhere
unfolding steps
past t k b n st h e f = rw (add-one, take-suc t k 0 h, steps-append start (take k t) (get_or t k 0 ∷ []), e) f

-- the reading stops at a byte of the text, or at its end
pub stops_at : (t : List ℕ) (k b n : ℕ) (st : List ℕ) → k < length t → steps start (take k t) ≡ at b n st → step b n st (get_or t k 0) ≡ nowhere → StopsAt t (k + 1)
stops_at t k b n st h e f =
    let z = nowhere-begins (take (k + 1) t) (past t k b n st h e f) in
    record {
      read = k;
      byte = refl;
      within = omega arith;
      begins = reached-begins (take k t) e;
      stops = λ _. z;
      misspelled = λ c s. z (spells-begins (k + 1) s);
    }

pub stops-after : (t : List ℕ) (b n i : ℕ) (st : List ℕ) → steps start t ≡ at b n (i ∷ st) → StopsAt t (length t + 1)
stops-after t b n i st e =
    record {
      read = length t;
      byte = refl;
      within = omega arith;
      begins = rw (take_all (length t) t (omega arith)) (reached-begins t e);
      stops = λ h. absurd (omega arith);
      misspelled = expects t b n i st e;
    }
