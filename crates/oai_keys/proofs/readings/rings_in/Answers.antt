use Rattle.std.proofs.Common.{◌∙◌, ap}
use Rattle.std.specs.Prelude.{option_map}
use Rattle.serde_json.specs.View.{view}
use Rattle.oai_keys.proofs.ReadingLemmas.{rings_of_value}
use Rattle.oai_keys.proofs.readings.rings_in.Goals as goal

pub returns-in-Some : goal.returns-in-Some
returns-in-Some c =
    rings_of_value c.args.text.now _ c.rings_of.result (c.in_ok-value.ensures.ok ∙ ap (option_map view) c.in-Some.is) c.rings_of.ensures
