-- the pieces in order
use Rattle.oai_answers.specs.Documents.{token_element}
use Rattle.oai_answers.proofs.Appending.{◌⨾◌}
use Rattle.oai_answers.proofs.tokens.write_last.Goals as goal

pub returns : goal.returns
unfolding token_element
returns c = c.in_ok-put.ensures ⨾ c.in_ok-write_extent.ensures ⨾ c.in_ok-put_tag_end.ensures ⨾ c.in_ok-end.ensures
