use Rattle.std.proofs.Common.{◌≡◌, map, drop}
use Rattle.serde_json.specs.Find.{as_str}
use Rattle.serde_json.specs.View.{view}
use Rattle.oai_names.specs.Optional.{each_of}
use Rattle.oai_json.proofs.ReadingLemmas.{with_front}
use Rattle.oai_config.proofs.members.texts_in.Given as goal

abbrev pub invariant-loop-value : goal.invariant-loop-value
invariant-loop-value l =
    with_front l.texts.items (each_of as_str (map view (drop l.value-index l.values))) ≡ each_of as_str (map view l.values)
