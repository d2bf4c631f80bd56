use Rattle.std.proofs.Common.{◌≡◌, map}
use Rattle.oai_names.specs.Optional.{each_of}
use Rattle.oai_deposit.specs.Lines.{record_of}
use Rattle.oai_json.proofs.JsonLemmas.{seen}
use Rattle.oai_json.proofs.ReadingLemmas.{with_front}
use Rattle.oai_deposit.proofs.records.records_in.Given as goal

abbrev pub invariant-loop-prefix : goal.invariant-loop-prefix
invariant-loop-prefix l =
    with_front l.records.items (each_of (record_of l.forms) (map seen l.prefix-iterator)) ≡ each_of (record_of l.forms) (map seen l.members.entries)
