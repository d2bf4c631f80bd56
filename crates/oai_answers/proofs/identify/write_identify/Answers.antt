-- The start tag, the elements in order, the end tag.
use Rattle.std.specs.Prelude.{codes}
use Rattle.oai_time.specs.TimeTexts.{datestamp_text}
use Rattle.oai_answers.specs.Documents.{deleted_text, granularity_text, identify_element}
use Rattle.oai_answers.specs.Markup.{element, plain}
use Rattle.oai_answers.proofs.Appending.{◌⨾◌, before_three}
use Rattle.oai_answers.proofs.identify.write_identify.Goals as goal

pub returns : goal.returns
unfolding identify_element element
returns c =
    let d = c.args.identity.now in
    let earliest = element (codes "earliestDatestamp") (datestamp_text d.granularity d.earliest) in
    let deleted = element (codes "deletedRecord") (plain (deleted_text d.deleted)) in
    let granularity = element (codes "granularity") (plain (granularity_text d.granularity)) in
    c.in_ok-start.ensures
    ⨾ (before_three earliest deleted granularity c.in_ok-write_names.ensures c.in_ok-write_rules.ensures
    ⨾ c.in_ok-containers.ensures)
    ⨾ c.in_ok-end.ensures
