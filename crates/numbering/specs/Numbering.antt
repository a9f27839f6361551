-- Proof devices: how the parts of a line get their numbers. No sentence of a document stands here.
use Rattle.std.specs.Prelude.{◌≡◌, List, ◌++◌, ℕ, ◌+◌, ◌-◌, ◌≤◌, ◌<◌, eqb, length, get_or, take}
use Rattle.base.specs.Pick.{pick}
use Rattle.condition.specs.Condition.{Condition, parts}
use Rattle.condition.specs.Texts.{most_parts}
use Rattle.condition.specs.Words.{word, code_in, start_in, end_in}
use Rattle.table.specs.Fill.{left_of, HeldOf}
use Rattle.sharing.specs.Sharing.{most_tables, part, number_of, firsts}
use Rattle.sharing.specs.Keys.{key_of, Postfix}
use Rattle.keys.specs.Store.{key_in, Store}
use Rattle.numbering.specs.declared.LineNumber.{LineNumber}

-- the entry of part k of a line that begins at `base`: w is the part's word, and ns are the numbers of the parts before it
abbrev pub entry_of : ℕ → ℕ → List ℕ → ℕ → ℕ
entry_of w base ns k =
    pick (eqb (code_in w) 0) (word 0 0 (base + start_in w) (base + end_in w)) (word (code_in w) (get_or ns (left_of w k) 0) (get_or ns (k - 1) 0) 0)

-- what entry_of asks of the word of part k, where there are numbers of k parts at least
pub record Usable (w base k : ℕ) (ns : List ℕ) : Type 0 where
  pub near : base + end_in w < 65536
  pub later : (code_in w ≡ 0 → ⊥) → (left_of w k < k) × (k ≤ length ns)
  pub order : start_in w ≤ end_in w
  pub small : (i : ℕ) → i < k → get_or ns i 0 < 65536

-- the entries tell the keys of the first occurrences among the parts ps
pub record Shares (u : List ℕ) (ps : List Condition) (entries : List ℕ) (count : ℕ) : Type 0 where
  pub postfix : Postfix ps
  pub counted : count ≡ length (firsts ps)
  pub keys : (i : ℕ) → i < count → key_in u (get_or entries i 0) ≡ key_of (firsts ps) (part (firsts ps) i)

-- the same, or that there are too many
pub record Sharing (u : List ℕ) (ps : List Condition) (entries links heads : List ℕ) (count : ℕ) : Type 0 where
  pub store : count ≤ most_tables → Store u entries links heads count
  pub shares : count ≤ most_tables → Shares u ps entries count
  pub over : most_tables < count → most_tables < length (firsts ps)

-- the line of the condition c, with m parts and the words ws, begins at `base` of the text u; ps are the parts of the lines before
pub record Line (u : List ℕ) (base m : ℕ) (ws : List ℕ) (ps : List Condition) (c : Condition) : Type 0 where
  pub front : List ℕ
  pub line : List ℕ
  pub rest : List ℕ
  pub text : u ≡ front ++ (line ++ rest)
  pub starts : base ≡ length front
  pub near : base + length line < 65536
  pub held : HeldOf line c m ws
  pub postfix : Postfix (ps ++ parts c)

pub record SomeLine (u : List ℕ) (base m : ℕ) (ws entries links heads : List ℕ) (count : ℕ) : Type 0 where
  pub ps : List Condition
  pub c : Condition
  pub line : Line u base m ws ps c
  pub sharing : Sharing u ps entries links heads count

-- the first k parts of the line are numbered
pub record SoFar (u : List ℕ) (ps : List Condition) (c : Condition) (ns entries links heads : List ℕ) (count k : ℕ) : Type 0 where
  pub within : k ≤ length (parts c)
  pub room : length ns ≡ most_parts
  pub store : Store u entries links heads count
  pub shares : Shares u (ps ++ take k (parts c)) entries count
  pub numbers : (i : ℕ) → i < k → get_or ns i 0 ≡ number_of (firsts (ps ++ take k (parts c))) (part (parts c) i)

-- the whole line is numbered
pub record LineNumbered (u : List ℕ) (ps : List Condition) (c : Condition) (entries links heads : List ℕ) (r : LineNumber) : Type 0 where
  pub sharing : Sharing u (ps ++ parts c) entries links heads r.count
  pub table : r.count ≤ most_tables → r.table ≡ number_of (firsts (ps ++ parts c)) c
