use Rattle.std.specs.Prelude.{option_map}
use Rattle.serde_json.specs.View.{view}
use Rattle.oai_json.proofs.JsonLemmas.{in_bytes, json_in-None, taken_for}
use Rattle.oai_json.proofs.values.read_json.Goals as goal

pub returns-in_default-clause-ok : goal.returns-in_default-clause-ok
returns-in_default-clause-ok c = json_in-None c.args.text.now (λ text. absurd (c.in_default.ensures.cases.0 text))

pub returns-clause-ok : goal.returns-clause-ok
returns-clause-ok c =
    in_bytes (option_map view) c.args.text.now c.in-Ok.text.now c.read_json_text.result c.in-Ok.ensures.cases.0 c.in-Ok.ensures.cases.1 c.read_json_text.ensures.ok

pub returns-clause-err : goal.returns-clause-err
returns-clause-err c =
    taken_for c.args.text.now c.in-Ok.text.now c.read_json_text.result c.in-Ok.ensures.cases.0 c.in-Ok.ensures.cases.1 c.read_json_text.ensures.err
