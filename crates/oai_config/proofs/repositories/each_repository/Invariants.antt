use Rattle.std.proofs.Common.{◌≡◌, map, drop}
use Rattle.serde_json.specs.View.{view}
use Rattle.oai_names.specs.Optional.{each_of}
use Rattle.oai_config.specs.Shapes.{settings_of}
use Rattle.oai_json.proofs.ReadingLemmas.{with_front}
use Rattle.oai_config.proofs.repositories.each_repository.Given as goal

abbrev pub invariant-loop-value : goal.invariant-loop-value
invariant-loop-value l =
    with_front l.repositories.items (each_of (settings_of l.forms l.base) (map view (drop l.value-index l.values))) ≡ each_of (settings_of l.forms l.base) (map view l.values)
