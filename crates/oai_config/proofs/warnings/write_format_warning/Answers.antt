-- The name of the repository, the prefix of the format, and the line.
use Rattle.oai_answers.proofs.Appending.{◌⨾◌}
use Rattle.oai_config.specs.Warnings.{format_warning}
use Rattle.oai_config.proofs.warnings.write_format_warning.Goals as goal

pub returns : goal.returns
unfolding format_warning
returns c = c.in_ok-put_named.ensures ⨾ c.in_ok-put_named-2.ensures ⨾ c.in_ok-put_line.ensures
