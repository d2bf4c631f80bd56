use Rattle.std.proofs.Common.{◌≡◌, is_some, map}
use Rattle.oai_names.specs.Optional.{each_of}
use Rattle.oai_json.proofs.JsonLemmas.{seen}
use Rattle.oai_deposit.specs.Lines.{about_of}
use Rattle.oai_deposit.proofs.about_texts.are_text_lists.Given as goal

abbrev pub invariant-loop-texts : goal.invariant-loop-texts
invariant-loop-texts l =
    is_some (each_of about_of (map seen l.texts-iterator)) ≡ is_some (each_of about_of (map seen l.members.entries))
