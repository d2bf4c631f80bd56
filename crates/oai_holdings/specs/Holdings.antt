-- What a repository holds: its items and its sets. OAI-PMH 2.0, sections 2.2 to 2.6, as this repository sees them.
use Rattle.std.specs.Prelude.{ℕ, List, []}
use Rattle.oai_item.specs.Item.{ItemState}

-- a set: its setSpec and its setName
abbrev pub NamedSet : Type 0
NamedSet = List ℕ × List ℕ

-- what deposits change: the items, in the order of their datestamps and then of their identifiers, and the sets, in
-- order of addition
pub record Holdings : Type 0 where
  pub items : List ItemState
  pub sets : List NamedSet

-- no item and no set
abbrev pub no_holdings : Holdings
no_holdings = record { items = []; sets = [] }
