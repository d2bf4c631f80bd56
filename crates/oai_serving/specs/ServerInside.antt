-- What contracts see of the fields of a `Server`, and its invariant.
use Rattle.std.specs.Prelude.{◌≤◌}
use Rattle.slab.specs.Slab.{slab_len}
use Rattle.oai_serving.specs.Rounds.{World}
use Rattle.oai_serving.specs.declared.servers.Server.TheInside.{Inside}
use Rattle.oai_serving.specs.declared.tables.TheConstants.{MAX_LINKS}

abbrev pub world_in : {S H : Type 0} → Inside S H → World S H
world_in s = record { handler = s.handler; links = s.links; last = s.last }

-- at most as many links are open as may be
abbrev pub IsServer : {S H : Type 0} → Inside S H → Type 0
IsServer s = slab_len s.links ≤ MAX_LINKS
