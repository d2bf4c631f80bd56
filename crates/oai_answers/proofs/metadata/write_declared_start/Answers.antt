-- the pieces in order
use Rattle.oai_answers.specs.Documents.{declared_start}
use Rattle.oai_answers.proofs.Appending.{◌⨾◌}
use Rattle.oai_answers.proofs.metadata.write_declared_start.Goals as goal

pub returns : goal.returns
unfolding declared_start
returns c =
    let root = rw c.as_str.ensures at c.in_ok-put-2.ensures in
    let namespace = rw c.as_str-2.ensures at c.in_ok-attribute.ensures in
    c.in_ok-put.ensures ⨾ root ⨾ namespace ⨾ c.in_ok-attribute-2.ensures ⨾ c.in_ok-write_schema_location.ensures
    ⨾ c.in_ok-put_tag_end.ensures
