-- The name of the repository, and the line.
use Rattle.oai_answers.proofs.Appending.{◌⨾◌}
use Rattle.oai_config.specs.Warnings.{warning}
use Rattle.oai_config.proofs.warnings.write_warning.Goals as goal

pub returns : goal.returns
unfolding warning
returns c = c.in_ok-put_named.ensures ⨾ c.in_ok-put_line.ensures
