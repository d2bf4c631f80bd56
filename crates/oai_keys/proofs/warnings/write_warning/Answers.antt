-- The front, the name of the repository, and what is behind it.
use Rattle.oai_answers.proofs.Appending.{◌⨾◌}
use Rattle.oai_keys.specs.Warnings.{open_warning}
use Rattle.oai_keys.proofs.warnings.write_warning.Goals as goal

pub returns : goal.returns
unfolding open_warning
returns c = c.in_ok-put.ensures ⨾ c.in_ok-put-2.ensures ⨾ c.in_ok-put-3.ensures
