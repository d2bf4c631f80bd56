use Rattle.std.proofs.Common.{◌∙◌, ap}
use Rattle.std.specs.Prelude.{option_map}
use Rattle.serde_json.specs.View.{view}
use Rattle.oai_json.proofs.JsonLemmas.{json_in-Some}
use Rattle.oai_deposit.proofs.LineLemmas.{line_gives, no_json}
use Rattle.oai_deposit.proofs.lines.read_any.Goals as goal

pub returns-in-Some : goal.returns-in-Some
returns-in-Some c =
    let reads = c.in_ok-value.ensures.ok ∙ ap (option_map view) c.in-Some.is in
    line_gives c.args.forms c.args.line.now _ _ c.read_value.result (json_in-Some c.args.line.now _ c.requires reads) c.read_value.ensures

pub returns-in-None : goal.returns-in-None
returns-in-None c = no_json c.args.forms c.args.line.now (c.in_ok-value.ensures.ok ∙ ap (option_map view) c.in-None.is)
