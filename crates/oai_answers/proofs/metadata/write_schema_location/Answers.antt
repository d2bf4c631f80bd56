-- the pieces in order
use Rattle.oai_answers.specs.Documents.{schema_location}
use Rattle.oai_answers.specs.Markup.{spelled_attribute}
use Rattle.oai_answers.proofs.Appending.{◌⨾◌}
use Rattle.oai_answers.proofs.metadata.write_schema_location.Goals as goal

pub returns : goal.returns
unfolding schema_location spelled_attribute
returns c =
    let namespace = rw c.as_str.ensures at c.in_ok-put_value.ensures in
    let schema = rw c.as_str-2.ensures at c.in_ok-put_value-2.ensures in
    c.in_ok-start_attribute.ensures ⨾ (namespace ⨾ c.in_ok-put.ensures ⨾ schema) ⨾ c.in_ok-put_value_end.ensures
