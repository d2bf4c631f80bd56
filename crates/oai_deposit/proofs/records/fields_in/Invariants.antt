use Rattle.std.proofs.Common.{◌≡◌, map, drop}
use Rattle.serde_json.specs.View.{view}
use Rattle.oai_names.specs.Optional.{each_of}
use Rattle.oai_deposit.specs.Lines.{field_of}
use Rattle.oai_json.proofs.ReadingLemmas.{with_front}
use Rattle.oai_deposit.proofs.records.fields_in.Given as goal

abbrev pub invariant-loop-value : goal.invariant-loop-value
invariant-loop-value l = with_front l.fields.items (each_of field_of (map view (drop l.value-index l.values))) ≡ each_of field_of (map view l.values)
