use Rattle.std.proofs.Common.{◌∙◌, ap}
use Rattle.std.specs.List.{list_any}
use Rattle.oai_bytes.specs.Parts as spec
use Rattle.oai_cli.proofs.SpaceLemmas.{any_after_first}
use Rattle.oai_cli.proofs.input.spaces.has_two_spaces.Goals as goal

pub returns : goal.returns
returns c = c.has_space.ensures ∙ ap (list_any spec.is_separator) c.split_at_space.ensures.back ∙ any_after_first spec.is_separator c.args.text.now
