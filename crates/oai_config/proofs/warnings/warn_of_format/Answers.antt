-- The schema, the namespace, and the root.
use Rattle.oai_answers.proofs.Appending.{◌⨾◌}
use Rattle.oai_config.specs.Warnings.{format_warnings}
use Rattle.oai_config.proofs.warnings.warn_of_format.Goals as goal

pub returns : goal.returns
unfolding format_warnings
returns c =
    let schema = rw c.as_str.ensures at (rw c.is_url-passes.ensures at c.in_ok-warn_of.ensures) in
    let root = rw c.as_str-2.ensures at (rw c.is_xml_name-passes.ensures at c.in_ok-warn_of-2.ensures) in
    schema ⨾ c.in_ok-warn_of_namespace.ensures ⨾ root
