-- Proof devices: the front that two published conditions share, the room for a published condition's text and for that of a variable's
-- liveness, the code's PUBLISHED_ROOM and LIVE_ROOM, and the most parts that one has. No sentence of document 01 stands here.
use Rattle.std.specs.Prelude.{List, ◌++◌, ℕ, ◌+◌}
use Rattle.base.specs.Bytes.{bytes}
use Rattle.language.specs.Spelling.{spell_variable, spell_expression}
use Rattle.language.specs.Room.{variable_room}
use Rattle.language.specs.declared.Expression.{Expression}

-- `AY A[((!def(X) & trans(E)) & !entry) B `
abbrev pub sure_text : ℕ → Expression → List ℕ
sure_text x e = bytes "AY A[((!def(" ++ (spell_variable x ++ (bytes ") & trans(" ++ (spell_expression e ++ bytes ")) & !entry) B ")))

abbrev pub published_room : ℕ
published_room = 160

-- `E[!def(X) U use(X)]`
abbrev pub live_room : ℕ
live_room = 7 + (variable_room + (8 + (variable_room + 2)))

-- those of `AY A[((!def(T) & trans(E)) & !entry) B (stmt(T := E) & trans(E))]`
abbrev pub published_most : ℕ
published_most = 12
