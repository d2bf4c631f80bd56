use Rattle.std.proofs.Common.{◌≡◌, map, drop}
use Rattle.serde_json.specs.View.{view}
use Rattle.oai_names.specs.Optional.{each_of}
use Rattle.oai_keys.specs.Reading.{digest_in}
use Rattle.oai_json.proofs.ReadingLemmas.{with_front}
use Rattle.oai_keys.proofs.readings.each_digest.Given as goal

abbrev pub invariant-loop-value : goal.invariant-loop-value
invariant-loop-value l =
    with_front l.digests.items (each_of digest_in (map view (drop l.value-index l.values))) ≡ each_of digest_in (map view l.values)
