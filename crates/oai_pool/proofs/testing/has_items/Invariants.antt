use Rattle.std.proofs.Common.{◌≡◌, ◌-◌}
use Rattle.oai_pool.specs.Kinds.{has_items, spells_items}
use Rattle.oai_pool.proofs.testing.has_items.Given as goal

-- what is left of the page decides
abbrev pub invariant-entries : goal.invariant-entries
invariant-entries l = spells_items (l.end - l.counter) l.rest ≡ has_items l.page
