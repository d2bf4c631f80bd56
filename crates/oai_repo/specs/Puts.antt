-- What a put leaves, beside the deposit of the same. This repository's own.
use Rattle.std.specs.Prelude.{◌≡◌, ℕ, List}
use Rattle.oai_item.specs.Items.{item_named}
use Rattle.oai_holdings.specs.Changes.{undated}
use Rattle.oai_repo.specs.State.{RepoState}

-- the states have the same clock, sets and open lists, and under each identifier the same item, but for its datestamp
pub record AreAlikeButForStamps (one other : RepoState) : Type 0 where
  pub clock : one.clock ≡ other.clock
  pub open_lists : one.open_lists ≡ other.open_lists
  pub sets : one.holdings.sets ≡ other.holdings.sets
  pub items : (identifier : List ℕ) → undated (item_named identifier one.holdings.items) ≡ undated (item_named identifier other.holdings.items)
