use Rattle.std.proofs.Common.{sym, ◌∙◌}
use Rattle.serde_json.specs.View.{view}
use Rattle.oai_config.proofs.FormatLemmas.{format_in-read}
use Rattle.oai_config.proofs.formats.read_format.Goals as goal

pub returns : goal.returns
returns c =
    let other = sym c.is_without_fields.ensures ∙ c.if-is_without_fields.false in
    let listed = sym c.has_members.ensures ∙ c.if-not-has_members.false in
    rw (format_in-read c.args.forms (view c.args.value.now) c.in_ok-fields.fields other listed c.in_ok-fields.ensures) c.format_from-2.ensures
