use Rattle.std.proofs.Common.{◌≡◌, map, drop}
use Rattle.serde_json.specs.View.{view}
use Rattle.oai_names.specs.Optional.{each_of}
use Rattle.oai_keys.specs.Reading.{ring_in}
use Rattle.oai_json.proofs.ReadingLemmas.{with_front}
use Rattle.oai_keys.proofs.readings.each_ring.Given as goal

abbrev pub invariant-loop-value : goal.invariant-loop-value
invariant-loop-value l =
    with_front l.rings.items (each_of ring_in (map view (drop l.value-index l.values))) ≡ each_of ring_in (map view l.values)
