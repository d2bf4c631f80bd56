use Rattle.std.proofs.Common.{◌≡◌, map}
use Rattle.oai_names.specs.Optional.{each_of}
use Rattle.oai_config.specs.Shapes.{set_description_of}
use Rattle.oai_json.proofs.JsonLemmas.{seen}
use Rattle.oai_json.proofs.ReadingLemmas.{with_front}
use Rattle.oai_config.proofs.repositories.set_descriptions_in.Given as goal

-- the lists of the members so far were read, and the others are left
abbrev pub invariant-loop-spec : goal.invariant-loop-spec
invariant-loop-spec l =
    with_front l.lists (each_of set_description_of (map seen l.spec-iterator)) ≡ each_of set_description_of (map seen l.members.entries)
