-- What a caller of a store does to the store, over any store that satisfies the contract of `Versions`.
use Rattle.std.specs.Prelude.{◌≡◌, Result}
use Rattle.oai_item.specs.declared.faults.Fault.{Fault}
use Rattle.oai_catalogue.specs.Store.{Spends}
use Rattle.oai_catalogue.specs.declared.versions.Versions.{Ghosts}

-- it reads, and changes no list
pub record OnlyReads {V A : Type 0} (g : Ghosts V) (result : Result A Fault) (old new : V) : Type 0 where
  pub same : g.lists new ≡ g.lists old
  pub store : Spends g.room g.failures g.honest 0 result old new
