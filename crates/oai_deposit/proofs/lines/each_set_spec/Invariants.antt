use Rattle.std.proofs.Common.{◌≡◌, map, drop}
use Rattle.oai_names.specs.Optional.{each_of, tested}
use Rattle.oai_names.specs.Sets.{may_be_set_spec}
use Rattle.oai_json.proofs.ReadingLemmas.{with_front}
use Rattle.oai_deposit.proofs.lines.each_set_spec.Given as goal

abbrev pub invariant-loop-text : goal.invariant-loop-text
invariant-loop-text l =
    with_front l.specs.items (each_of (tested may_be_set_spec) (map (λ text. text.now) (drop l.text-index l.texts))) ≡ each_of (tested may_be_set_spec) (map (λ text. text.now) l.texts)
