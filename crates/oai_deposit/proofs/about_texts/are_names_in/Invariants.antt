use Rattle.std.proofs.Common.{◌≡◌, is_some, string_bytes}
use Rattle.std.specs.List.{list_all}
use Rattle.serde_json.specs.Find.{get}
use Rattle.serde_json.specs.View.{view}
use Rattle.oai_deposit.proofs.about_texts.are_names_in.Given as goal

abbrev pub invariant-loop-name : goal.invariant-loop-name
invariant-loop-name l =
    list_all (λ m. is_some (get (string_bytes m.0) (view l.object))) l.name-iterator ≡ list_all (λ m. is_some (get (string_bytes m.0) (view l.object))) l.members.entries
