-- the pieces in order
use Rattle.oai_answers.specs.Documents.{format_element}
use Rattle.oai_answers.specs.Markup.{element}
use Rattle.oai_answers.proofs.Appending.{◌⨾◌}
use Rattle.oai_answers.proofs.formats.write_format.Goals as goal

pub returns : goal.returns
unfolding format_element element
returns c =
    let prefix = rw c.as_str.ensures.text at c.in_ok-text_element.ensures in
    let schema = rw c.as_str-2.ensures at c.in_ok-text_element-2.ensures in
    let namespace = rw c.as_str-3.ensures at c.in_ok-text_element-3.ensures in
    c.in_ok-start.ensures ⨾ (prefix ⨾ schema ⨾ namespace) ⨾ c.in_ok-end.ensures
