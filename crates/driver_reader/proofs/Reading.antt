-- The list read name by name: what was read and what is left make the whole, and nothing else does. Assumes nothing.
use mathlib.Core.Path.{◌≡◌, refl, sym, ap, ◌∙◌}
use mathlib.Core.Bool.{Bool, true, false, ◌||◌, or-false, or_assoc}
use mathlib.Core.List.{List, [], ◌∷◌, ◌++◌}
use Prim.Native.Nat.{ℕ, ◌+◌, ◌≤◌, ◌<◌}
use native.Mathlib.Omega.{arith}
use lib.Dec.{eqb}
use lib.ListN.{length, get_or, drop, length-drop, length-append}
use Rattle.base.proofs.Bools.{clash}
use Rattle.lines.specs.Lines.{AllValid}
use Rattle.language.specs.Spelling.{spell_variable, ValidVariable}
use Rattle.tokens.specs.Parsing.{found, misspelled, digit_of, parse_variable}
use Rattle.tokens.proofs.Steps.{at-end, at_byte}
use Rattle.tokens.proofs.Numbers.{NoDigit, variable-complete, variable-sound}
use Rattle.driver_reader.specs.Names.{spell_more, spell_names, among, Fresh, Named, Unnamed}

pub fresh-same : (f g : ℕ → Bool) → ((x : ℕ) → f x ≡ g x) → (vs : List ℕ) → Fresh f vs → Fresh g vs
fresh-same f g e [] h = tt
fresh-same f g e (v ∷ vs) h = (sym (e v) ∙ h.0, fresh-same (λ x. f x || eqb v x) (λ x. g x || eqb v x) (λ x. ap (λ (b : Bool). b || eqb v x) (e x)) vs h.1)

-- no digit follows a name
pub more-ends : (vs : List ℕ) → NoDigit (spell_more vs)
unfolding spell_more digit_of
more-ends [] = tt
more-ends (v ∷ vs) = refl

-- the text t is the names z and zs, none of which was seen
pub record Tail (t : List ℕ) (seen : ℕ → Bool) (z : ℕ) (zs : List ℕ) : Type 0 where
  pub text : t ≡ spell_variable z ++ spell_more zs
  pub valid : ValidVariable z × AllValid ValidVariable zs
  pub fresh : (seen z ≡ false) × Fresh (λ x. seen x || eqb z x) zs

-- a name begins at the position: what stands from there on, after those seen, makes the whole
pub record Reading (s : List ℕ) (at : ℕ) (seen : ℕ → Bool) : Type 0 where
  pub there : (vs : List ℕ) → Named s vs → (z : ℕ) × (zs : List ℕ) × Tail (drop at s) seen z zs
  pub back : (z : ℕ) (zs : List ℕ) → Tail (drop at s) seen z zs → (vs : List ℕ) × Named s vs × ((x : ℕ) → among vs x ≡ (seen x || among (z ∷ zs) x))

module _ (s : List ℕ) where
  pub empty-named : length s ≡ 0 → (seen : ℕ → Bool) → ((x : ℕ) → seen x ≡ false) → (vs : List ℕ) × Named s vs × ((x : ℕ) → seen x ≡ among vs x)
  unfolding spell_names
  empty-named e seen none = ([], record { text = at-end s 0 (omega arith); valid = tt; once = tt }, none)

  pub reading-first : 0 < length s → (seen : ℕ → Bool) → ((x : ℕ) → seen x ≡ false) → Reading s 0 seen
  unfolding spell_names
  reading-first some seen none = record { there = there; back = back }
    where
      there : (vs : List ℕ) → Named s vs → (z : ℕ) × (zs : List ℕ) × Tail s seen z zs
      there [] n = absurd (omega (arith, ap length n.text))
      there (v ∷ vs) n = (v, vs, record { text = n.text; valid = n.valid; fresh = fresh-same (λ _. false) seen (λ x. sym (none x)) (v ∷ vs) n.once })

      back : (z : ℕ) (zs : List ℕ) → Tail s seen z zs → (vs : List ℕ) × Named s vs × ((x : ℕ) → among vs x ≡ (seen x || among (z ∷ zs) x))
      back z zs t = (
        z ∷ zs,
        record { text = t.text; valid = t.valid; once = fresh-same seen (λ _. false) none (z ∷ zs) t.fresh },
        λ x. sym (ap (λ (b : Bool). b || among (z ∷ zs) x) (none x)),
      )

  module _ (at : ℕ) (seen : ℕ → Bool) (w : Reading s at seen) where
    pub reading-end : length s ≤ at → Unnamed s
    unfolding spell_variable
    reading-end past vs n = let t = w.there vs n in absurd (omega (arith, ap length (sym (at-end s at past) ∙ t.2.text)))

    pub reading-misspelled : misspelled ≡ parse_variable (drop at s) → Unnamed s
    reading-misspelled e vs n =
        let t = w.there vs n in
        let c : parse_variable (drop at s) ≡ found t.0 (spell_more t.1) = ap parse_variable t.2.text ∙ variable-complete t.0 (spell_more t.1) t.2.valid.0 (more-ends t.1) in
        let z : ◌≡◌ {A = ℕ} 0 1 = cc (e, c) in
        absurd (omega arith)

    -- the name x stands there, and ends before k
    module _ (x k : ℕ) (e : found x (drop k s) ≡ parse_variable (drop at s)) where
      stands : (drop at s ≡ spell_variable x ++ drop k s) × ValidVariable x
      stands = variable-sound (drop at s) x (drop k s) (sym e)

      agree : (z : ℕ) (zs : List ℕ) → Tail (drop at s) seen z zs → (z ≡ x) × (spell_more zs ≡ drop k s)
      agree z zs t =
          let c : found z (spell_more zs) ≡ found x (drop k s) = sym (variable-complete z (spell_more zs) t.valid.0 (more-ends zs)) ∙ ap parse_variable (sym t.text) ∙ sym e in
          (cc c, cc c)

      pub name-valid : ValidVariable x
      name-valid = stands.1

      pub name-further : at ≤ length s → k ≤ length s → at < k
      unfolding spell_variable
      name-further l m =
          let a = length-drop at s in
          let b = length-drop k s in
          let c = ap length stands.0 ∙ length-append (spell_variable x) (drop k s) in
          omega (arith, a, b, c)

      pub name-repeated : seen x ≡ true → Unnamed s
      name-repeated h vs n =
          let t = w.there vs n in
          clash h (ap seen (sym (agree t.0 t.1 t.2).0) ∙ t.2.fresh.0)

      module _ (off : seen x ≡ false) (seen' : ℕ → Bool) (add : (y : ℕ) → seen' y ≡ (seen y || eqb x y)) where
        pub name-last : length s ≤ k → (vs : List ℕ) × Named s vs × ((y : ℕ) → seen' y ≡ among vs y)
        unfolding spell_more
        name-last past =
            let b = w.back x [] (record { text = stands.0 ∙ ap (λ (r : List ℕ). spell_variable x ++ r) (at-end s k past); valid = (stands.1, tt); fresh = (off, tt) }) in
            (b.0, b.1, λ y. add y ∙ ap (λ (c : Bool). seen y || c) (sym (or-false (eqb x y))) ∙ sym (b.2 y))

        module _ (more : k < length s) where
          rest : drop k s ≡ get_or s k 0 ∷ drop (k + 1) s
          rest = at_byte s k more

          -- a space, and the names after it
          spaced : (zs : List ℕ) → spell_more zs ≡ drop k s → (y : ℕ) × (ys : List ℕ) × (zs ≡ y ∷ ys) × (get_or s k 0 ≡ 32) × (drop (k + 1) s ≡ spell_variable y ++ spell_more ys)
          unfolding spell_more
          spaced [] f = let z : ◌≡◌ {A = ℕ} 0 1 = cc (f, rest) in absurd (omega arith)
          spaced (y ∷ ys) f = (y, ys, refl, cc (f, rest), cc (f, rest))

          pub name-unspaced : (get_or s k 0 ≡ 32 → ⊥) → Unnamed s
          name-unspaced h vs n = let t = w.there vs n in h (spaced t.1 (agree t.0 t.1 t.2).1).3

          pub name-next : get_or s k 0 ≡ 32 → Reading s (k + 1) seen'
          unfolding spell_more
          name-next space = record { there = there; back = back }
            where
              left : (z : ℕ) (zs : List ℕ) → z ≡ x → (y : ℕ) (ys : List ℕ) → zs ≡ y ∷ ys → drop (k + 1) s ≡ spell_variable y ++ spell_more ys → Tail (drop at s) seen z zs → Tail (drop (k + 1) s) seen' y ys
              left z zs ez y ys ezs text t =
                  let v = rw ezs at t.valid.1 in
                  let f = rw ezs at t.fresh.1 in
                  record { text = text; valid = v; fresh = fresh-same (λ u. seen u || eqb z u) seen' (λ u. ap (λ (a : ℕ). seen u || eqb a u) ez ∙ sym (add u)) (y ∷ ys) f }

              there : (vs : List ℕ) → Named s vs → (z : ℕ) × (zs : List ℕ) × Tail (drop (k + 1) s) seen' z zs
              there vs n =
                  let t = w.there vs n in
                  let a = agree t.0 t.1 t.2 in
                  let r = spaced t.1 a.1 in
                  (r.0, r.1, left t.0 t.1 a.0 r.0 r.1 r.2 r.4 t.2)

              back : (z : ℕ) (zs : List ℕ) → Tail (drop (k + 1) s) seen' z zs → (vs : List ℕ) × Named s vs × ((u : ℕ) → among vs u ≡ (seen' u || among (z ∷ zs) u))
              back z zs t =
                  let b = w.back x (z ∷ zs) (record {
                    text = stands.0 ∙ ap (λ (r : List ℕ). spell_variable x ++ r) (rest ∙ cc (space, t.text));
                    valid = (stands.1, t.valid);
                    fresh = (off, fresh-same seen' (λ u. seen u || eqb x u) add (z ∷ zs) t.fresh);
                  }) in
                  (b.0, b.1, λ u. b.2 u ∙ sym (or_assoc (seen u) (eqb x u) (among (z ∷ zs) u)) ∙ ap (λ (c : Bool). c || among (z ∷ zs) u) (sym (add u)))
