-- Uses added line by line: what is known after j lines. Assumes nothing.
use mathlib.Core.Path.{◌≡◌, refl, sym, ◌∙◌, subst}
use mathlib.Core.List.{List}
use mathlib.Core.Logic.{◌↔◌, inl, inr, ⊎_elim}
use Prim.Native.Nat.{ℕ, ◌+◌, ◌<◌}
use native.Mathlib.Omega.{arith}
use borrow.Author.Count.{below_more}
use lib.Dec.{eqb}
use lib.ListN.{length, get_or, take}
use Rattle.std.specs.Prelude.{Some, None}
use Rattle.language.specs.declared.Operand.{Operand}
use Rattle.language.specs.declared.Expression.{Expression}
use Rattle.language.specs.declared.Statement.{Statement}
use Rattle.truth.specs.Truth.{uses_of}
use Rattle.atoms.specs.Facts.{used_row, Also, Marked}
use Rattle.atoms.proofs.Found.{facts-also, facts-same}
use Rattle.program.specs.Program.{most}
use Rattle.table.specs.Known.{KnownBy, Known}
use Rattle.language.specs.Spelling.{ValidVariable}
use Rattle.marks.specs.Marks.{ValidMark, names, mark_at}
use Rattle.marks.specs.declared.Mark.{Mark}
use Rattle.marks.specs.declared.Mark.TheVariants.{Rm, Rpl, Cse}
use Rattle.rewriting.specs.Verdicts.{Inside, place, Judged, Reuses, Widened, VerdictsBy}
use Rattle.rewriting.specs.declared.Verdict.TheVariants.{Accepted}
use Rattle.rewriting.proofs.Accepted.{zero-accepted, accepted-zero}
use Rattle.widening.specs.Widening.{Adds, WidenedBelow}

-- ---- what line j adds to the uses

module _ (P : List Statement) (ms : List Mark) (j : ℕ) where
  -- a use of t at place p
  module _ (t p : ℕ) (there : Reuses P (take j ms) (mark_at ms j) t p) (only : (x s : ℕ) → Reuses P (take j ms) (mark_at ms j) x s → (x ≡ t) × (s ≡ p)) where
    also-more : (x s : ℕ) → Also (WidenedBelow P ms j) t p x s ↔ WidenedBelow P ms (j + 1) x s
    also-more x s = (to, from)
      where
        to : Also (WidenedBelow P ms j) t p x s → WidenedBelow P ms (j + 1) x s
        to (inl (inl u)) = inl u
        to (inl (inr (i, l, r))) = inr (i, omega arith, r)
        to (inr (a, b)) =
            inr (j, omega arith, subst (λ (y : ℕ). Reuses P (take j ms) (mark_at ms j) y s) (sym a) (subst (λ (q : ℕ). Reuses P (take j ms) (mark_at ms j) t q) (sym b) there))

        from : WidenedBelow P ms (j + 1) x s → Also (WidenedBelow P ms j) t p x s
        from (inl u) = inl (inl u)
        from (inr (i, l, r)) =
            below_more (λ i. Reuses P (take i ms) (mark_at ms i) x s → Also (WidenedBelow P ms j) t p x s) j (λ i h q. inl (inr (i, h, q))) (λ q. inr (only x s q)) i l r

  -- nothing
  module _ (none : (x s : ℕ) → Reuses P (take j ms) (mark_at ms j) x s → ⊥) where
    none-back : (x s : ℕ) → WidenedBelow P ms (j + 1) x s → WidenedBelow P ms j x s
    none-back x s (inl u) = inl u
    none-back x s (inr (i, l, r)) =
        below_more (λ i. Reuses P (take i ms) (mark_at ms i) x s → WidenedBelow P ms j x s) j (λ i h q. inr (i, h, q)) (λ q. absurd (none x s q)) i l r

    none_more : (x s : ℕ) → WidenedBelow P ms j x s ↔ WidenedBelow P ms (j + 1) x s
    none_more x s = (⊎_elim inl (λ r. inr (r.0, omega (arith, r.1), r.2)), none-back x s)

-- the mark is no `cse`
pub rm-adds : (m : Mark) (b n x : ℕ) (e : Expression) → m ≡ Rm n x e → Adds m b None
rm-adds m b n x e is n' t e' q z = let y : ◌≡◌ {A = ℕ} 0 1 = cc in omega arith

pub rpl-adds : (m : Mark) (b n x : ℕ) (a : Operand) → m ≡ Rpl n x a → Adds m b None
rpl-adds m b n x a is n' t e' q z = let y : ◌≡◌ {A = ℕ} 0 1 = cc in omega arith

-- a `cse` whose verdict byte isn't 0 adds no use, and no other mark does
nothing-added : (P : List Statement) (earlier : List Mark) (m : Mark) (b : ℕ) → Adds m b None → (Judged (uses_of P) P earlier m Accepted → b ≡ 0)
    → (x s : ℕ) → Reuses P earlier m x s → ⊥
nothing-added P earlier (Rm n y e) b f g x s r = r
nothing-added P earlier (Rpl n y a) b f g x s r = r
nothing-added P earlier (Cse n t e) b f g x s r = f n t e refl (g r.2)

-- its variable is one
pub added-valid : (m : Mark) (b t : ℕ) → Adds m b (Some t) → ValidMark m → ValidVariable t
added-valid m b t (n, e, is, z) v = (subst ValidMark is v).1

-- ---- after j lines

pub added_none : {P : List Statement} {n : ℕ} {rows : List ℕ} {codes : List (List ℕ)} {flow : List ℕ} (ms : List Mark) → Known P n rows codes flow
    → KnownBy (WidenedBelow P ms 0) P n rows codes flow
added_none {P = P} ms k =
    record { size = k.size; few = k.few; found = facts-same (λ x s v b. (inl, none x s)) k.found; flow_size = k.flow_size; flows = k.flows }
  where
    none : (x s : ℕ) → WidenedBelow P ms 0 x s → uses_of P x s
    none x s (inl u) = u
    none x s (inr (i, l, r)) = absurd (omega (arith, l))

module _ {P : List Statement} {n : ℕ} {codes : List (List ℕ)} {flow : List ℕ} {ms : List Mark} {rows : List ℕ} {j : ℕ}
    (k : KnownBy (WidenedBelow P ms j) P n rows codes flow) (l : j < length ms) (vs : List ℕ) (judged : VerdictsBy (uses_of P) P ms vs) (m : Mark) (is : m ≡ mark_at ms j) where
  byte-accepted : get_or vs j 0 ≡ 0 → Judged (uses_of P) P (take j ms) (mark_at ms j) Accepted
  byte-accepted e = let v = judged j l in zero-accepted (uses_of P) P (take j ms) (mark_at ms j) v.0 (sym v.2 ∙ e) v.1

  accepted-byte : Judged (uses_of P) P (take j ms) (mark_at ms j) Accepted → get_or vs j 0 ≡ 0
  accepted-byte h = let v = judged j l in v.2 ∙ accepted-zero (uses_of P) P (take j ms) (mark_at ms j) v.0 h v.1

  pub added-nothing : Adds m (get_or vs j 0) None → KnownBy (WidenedBelow P ms (j + 1)) P n rows codes flow
  added-nothing f =
      let none : (x p : ℕ) → Reuses P (take j ms) (mark_at ms j) x p → ⊥ = nothing-added P (take j ms) (mark_at ms j) (get_or vs j 0) (subst (λ (o : Mark). Adds o (get_or vs j 0) None) is f) accepted-byte in
      record { size = k.size; few = k.few; found = facts-same (λ x p v b. none_more P ms j none x p) k.found; flow_size = k.flow_size; flows = k.flows }

  pub added-use : (t q : ℕ) → Adds m (get_or vs j 0) (Some t) → (Inside most (names m) → q ≡ place m) → {new : List ℕ} → Marked rows new (eqb (used_row t)) q
      → KnownBy (WidenedBelow P ms (j + 1)) P n new codes flow
  added-use t q (a, e, cse, byte) at {new} marked =
      let accepted = byte-accepted byte in
      let inside : Inside most (names (mark_at ms j)) = (accepted.0.0, omega (arith, accepted.0.1, k.few)) in
      let here : q ≡ place (mark_at ms j) = subst (λ (o : Mark). q ≡ place o) is (at (subst (λ (o : Mark). Inside most (names o)) (sym is) inside)) in
      let mark : mark_at ms j ≡ Cse a t e = sym is ∙ cse in
      let there : Reuses P (take j ms) (mark_at ms j) t q = subst (λ (o : Mark). Reuses P (take j ms) o t q) (sym mark) (refl, sym (here ∙ rw mark), rw mark at accepted) in
      let only : (x p : ℕ) → Reuses P (take j ms) (mark_at ms j) x p → (x ≡ t) × (p ≡ q) =
      λ x p r. let u = subst (λ (o : Mark). Reuses P (take j ms) o x p) mark r in (sym u.0, sym u.1 ∙ sym (here ∙ rw mark)) in
      record {
        size = k.size;
        few = k.few;
        found = facts-same (λ x p v b. also-more P ms j t q there only x p) (facts-also k.found t q (omega (arith, here, accepted.0.0, accepted.0.1)) marked);
        flow_size = k.flow_size;
        flows = k.flows;
      }

pub added-all : {P : List Statement} {n : ℕ} {codes : List (List ℕ)} {flow : List ℕ} (ms : List Mark) {rows : List ℕ} {j : ℕ}
    → KnownBy (WidenedBelow P ms j) P n rows codes flow → j ≡ length ms → KnownBy (Widened P ms) P n rows codes flow
added-all {P = P} {n = n} {codes = codes} {flow = flow} ms {rows = rows} s e = subst (λ (i : ℕ). KnownBy (WidenedBelow P ms i) P n rows codes flow) e s

-- where no `cse` is accepted, what is known by the program's own uses is known by the widened ones
pub none-widened : {P : List Statement} {n : ℕ} {rows : List ℕ} {codes : List (List ℕ)} {flow : List ℕ} (ms : List Mark) → Known P n rows codes flow
    → ((x s : ℕ) → Widened P ms x s → uses_of P x s) → KnownBy (Widened P ms) P n rows codes flow
none-widened ms k none =
    record { size = k.size; few = k.few; found = facts-same (λ x s v b. (inl, none x s)) k.found; flow_size = k.flow_size; flows = k.flows }
