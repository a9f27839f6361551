-- The prices of a program and of its rewritten one, statement by statement, and their totals: document 02, Wish 7.
use Rattle.std.specs.Prelude.{◌≡◌, List, ℕ, length, ℤ, pos, ◌-ℤ◌}
use Rattle.language.specs.declared.Statement.{Statement}
use Rattle.program.specs.Program.{Taken}
use Rattle.pricing.specs.Prices.{column, total}
use Rattle.price_list.specs.declared.PriceList.{PriceList}

-- "given less rewritten, signed"
abbrev pub less : ℕ → ℕ → ℤ
less a b = pos a -ℤ pos b

-- "each statement's price before and after, then three totals: given, rewritten, and given less rewritten, signed": of P and Q, by the table ps
pub record Lists (ps : List ℕ) (P Q : List Statement) (l : PriceList) : Type 0 where
  pub counted : l.count ≡ length P
  pub before : l.before ≡ column ps P
  pub after : l.after ≡ column ps Q
  pub given : l.given ≡ total ps P
  pub rewritten : l.rewritten ≡ total ps Q
  pub saved : l.saved ≡ less (total ps P) (total ps Q)

-- both texts are taken as programs, of as many statements
pub record Both (t w : List ℕ) : Type 0 where
  pub P : List Statement
  pub Q : List Statement
  pub given : Taken t P
  pub new : Taken w Q
  pub same : length Q ≡ length P

-- the text is taken as some program
pub record SomeProgram (t : List ℕ) : Type 0 where
  pub P : List Statement
  pub taken : Taken t P
