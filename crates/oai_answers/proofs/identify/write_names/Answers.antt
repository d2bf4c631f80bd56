use Rattle.oai_answers.proofs.Appending.{◌⨾◌}
use Rattle.oai_answers.proofs.identify.write_names.Goals as goal

pub returns : goal.returns
returns c =
    c.in_ok-text_element.ensures ⨾ c.in_ok-text_element-2.ensures ⨾ c.in_ok-plain_element.ensures ⨾ c.in_ok-text_elements.ensures
