use Rattle.std.proofs.Common.{◌∙◌, ap}
use Rattle.std.specs.Prelude.{option_map}
use Rattle.serde_json.specs.View.{view}
use Rattle.oai_config.proofs.TextLemmas.{told_of_value}
use Rattle.oai_config.proofs.host_settings.told_in.Goals as goal

pub returns-in-Some : goal.returns-in-Some
returns-in-Some c =
    told_of_value c.args.forms c.args.text.now _ c.told_of.result (c.in_ok-value.ensures.ok ∙ ap (option_map view) c.in-Some.is) c.told_of.ensures
