-- `constant` meets its contract: `-` where the number is below zero, then the digits of its magnitude. Assumes nothing.
use Rattle.std.proofs.Common.{[], ◌∷◌, ◌++◌, ◌≡◌, ◌^◌, ◌<◌, Bool, ℕ, ℤ, pos, negsuc, refl, ap, true, false, arith, length, w32, to_z, of_z, ltb-true}
use Rattle.std.proofs.lemmas.Int.{of_z-to_z}
use lib.IntN.{nat_abs}
use lib.Signed.{lt_z}
use lib.ListN.{length-append}
use Rattle.language.specs.Spelling.{digits, sign_mark, signed_digits, spell_constant}
use Rattle.statement_writer.specs.Writing.{Put}
use Rattle.statement_writer.proofs.Puts.{put_then, room}
use Rattle.statement_writer.proofs.constant.Goals as goal
use Rattle.statement_writer.proofs.constant.Goals.{then-v-lt0, else-v-lt0, Joined-v-lt0}

marked : (z : ℤ) → lt_z z (pos 0) ≡ true → sign_mark z ≡ 45 ∷ []
marked (pos n) e = absurd (omega (arith, ltb-true n 0 e))
marked (negsuc n) e = refl

unmarked : (z : ℤ) → lt_z z (pos 0) ≡ false → sign_mark z ≡ []
unmarked (pos n) e = refl
unmarked (negsuc n) e = absurd (let z : ◌≡◌ {A = Bool} true false = e in let y : ◌≡◌ {A = ℕ} 0 1 = cc in omega arith)

spelled : (n : ℕ) (v : ℤ) → n < 2 ^ 32 → v ≡ to_z w32 n → spell_constant n ≡ sign_mark (to_z w32 (of_z w32 v)) ++ digits (nat_abs (to_z w32 (of_z w32 v)))
unfolding signed_digits
spelled n v f e = rw (e, of_z-to_z w32 n f)

pub byte-k-requires : goal.byte-k-requires
byte-k-requires c =
    omega (arith, c.requires, ap length (spelled c.args.n c.cast_signed-v.result c.ranges.n.fits c.cast_signed-v.ensures), ap length (marked (to_z w32 (of_z w32 c.cast_signed-v.result)) c.if-v-lt0.true), length-append (sign_mark (to_z w32 (of_z w32 c.cast_signed-v.result))) (digits (nat_abs (to_z w32 (of_z w32 c.cast_signed-v.result)))))

begun : (c : Joined-v-lt0) → Put c.args.out.now c.args.at (sign_mark (to_z w32 (of_z w32 c.cast_signed-v.result))) c.if-v-lt0.out c.if-v-lt0.k
begun c = elim c.if-v-lt0.branch [
  | then-v-lt0 w ↦ rw (w.out-is, w.k-is, marked _ w.if-v-lt0.true) w.byte-k.ensures
  | else-v-lt0 w ↦ rw (w.out-is, w.k-is, unmarked _ w.if-v-lt0.false) (record { text = refl; after = omega arith })
]

pub number-requires : goal.number-requires
number-requires c =
    rw c.unsigned_abs.ensures.value (room _ (begun (goal.at.number-requires c).Joined-v-lt0) (rw (spelled c.args.n c.cast_signed-v.result c.ranges.n.fits c.cast_signed-v.ensures) at c.requires))

pub returns : goal.returns
returns c =
    rw (spelled c.args.n c.cast_signed-v.result c.ranges.n.fits c.cast_signed-v.ensures, ← c.unsigned_abs.ensures.value) (put_then (begun (goal.at.returns c).Joined-v-lt0) c.number.ensures)
