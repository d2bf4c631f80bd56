use Rattle.std.proofs.Common.{◌≡◌, map, drop}
use Rattle.serde_json.specs.View.{view}
use Rattle.oai_names.specs.Optional.{each_of}
use Rattle.oai_config.specs.Shapes.{format_in}
use Rattle.oai_json.proofs.ReadingLemmas.{with_front}
use Rattle.oai_config.proofs.formats.each_format.Given as goal

abbrev pub invariant-loop-value : goal.invariant-loop-value
invariant-loop-value l =
    with_front l.formats.items (each_of (format_in l.forms) (map view (drop l.value-index l.values))) ≡ each_of (format_in l.forms) (map view l.values)
