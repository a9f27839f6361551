-- What a run answers, as a line.
use Rattle.std.specs.Prelude.{List, [], ◌∷◌, ◌++◌, ℕ, zero, suc, ◌+◌, ◌*◌, get_or}
use Rattle.language.specs.Spelling.{digits, signed_digits, spell_constant}
use Rattle.language.specs.Kept.{kept_count}
use Rattle.language.specs.Room.{number_digits, constant_room}
use Rattle.machine.specs.declared.Answer.{Answer}
use Rattle.machine.specs.declared.Answer.TheVariants.{Ended, Fault, Spent}
use Rattle.base.specs.Bytes.{bytes}

-- ` 5 7 0 0 0 0 0 -1`: the first n of the values, each after a space
unfoldable pub spaced_values : ℕ → List ℕ → List ℕ
spaced_values zero ks = []
spaced_values (suc n) ks = spaced_values n ks ++ (32 ∷ spell_constant (get_or ks n 0))

-- ` ticks 36`
unfoldable pub ticks_text : ℕ → List ℕ
ticks_text t = bytes " ticks " ++ digits t

-- ` steps 12 ticks 36`
unfoldable pub steps_text : ℕ → ℕ → List ℕ
steps_text k t = bytes " steps " ++ (digits k ++ ticks_text t)

-- `spent at 4 ticks 32`
unfoldable pub spent_line : ℕ → ℕ → List ℕ
spent_line n t = bytes "spent at " ++ (digits n ++ (ticks_text t ++ 10 ∷ []))

-- `fault at 2 steps 2 ticks 28`
unfoldable pub fault_line : ℕ → ℕ → ℕ → List ℕ
fault_line n k t = bytes "fault at " ++ (digits n ++ (steps_text k t ++ 10 ∷ []))

-- `ended 9 steps 12 ticks 36 kept 5 7 0 0 0 0 0 -1` or one of those above; ks are the kept values beside the answer
unfoldable pub line_of_answer : Answer → List ℕ → List ℕ
line_of_answer (Ended v k t) ks =
    bytes "ended " ++ (signed_digits v ++ (steps_text k t ++ (bytes " kept" ++ (spaced_values kept_count ks ++ 10 ∷ []))))
line_of_answer (Fault n k t) ks = fault_line n k t
line_of_answer (Spent n t) ks = spent_line n t

-- room for a value after a space; for the ticks, a number of 64 bits; for the steps with them; for a line as long as `ended -2147483648 steps 4294967295 kept`
-- with the ticks and eight values; and for one as long as `spent at 4294967295` with the ticks
abbrev pub spaced_room : ℕ
spaced_room = 1 + constant_room

abbrev pub long_digits : ℕ
long_digits = 20

abbrev pub ticks_room : ℕ
ticks_room = 7 + long_digits

abbrev pub steps_room : ℕ
steps_room = 7 + (number_digits + ticks_room)

abbrev pub answer_room : ℕ
answer_room = 6 + (constant_room + (steps_room + (5 + (kept_count * spaced_room + 1))))

abbrev pub spent_room : ℕ
spent_room = 9 + (number_digits + (ticks_room + 1))

abbrev pub fault_room : ℕ
fault_room = 9 + (number_digits + (steps_room + 1))

abbrev pub room_of_line : Answer → ℕ
room_of_line (Ended v k t) = answer_room
room_of_line (Fault n k t) = fault_room
room_of_line (Spent n t) = spent_room
