-- the start tag, the headers and the token, the end tag
use Rattle.oai_answers.specs.Documents.{identifiers_element}
use Rattle.oai_answers.specs.Markup.{element}
use Rattle.oai_answers.proofs.Appending.{◌⨾◌}
use Rattle.oai_answers.proofs.lists.write_list_identifiers.Goals as goal

pub returns : goal.returns
unfolding identifiers_element element
returns c = c.in_ok-start.ensures ⨾ (c.in_ok-write_headers.ensures ⨾ c.in_ok-write_token.ensures) ⨾ c.in_ok-end.ensures
