use Rattle.std.proofs.Common.{◌≡◌, List, length}
use Rattle.std.specs.Vec.Iter.{into_iter_items, into_iter_len}
use Rattle.oai_settings.specs.declared.settings.Settings.{Settings}
use Rattle.oai_config.proofs.NamedLemmas.{IsSoFar}
use Rattle.oai_config.proofs.causes.each_named.Given as goal

-- some settings were taken, and the others are left
abbrev pub invariant-loop-settings : goal.invariant-loop-settings
invariant-loop-settings l =
    (taken : List Settings) × IsSoFar l.fn.found l.lowest l.entries.items l.fn.repositories taken (into_iter_items l.settings-iterator)
    × (into_iter_len l.settings-iterator ≡ length (into_iter_items l.settings-iterator))
