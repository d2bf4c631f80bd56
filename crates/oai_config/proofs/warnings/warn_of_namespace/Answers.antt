-- Whether it is a URI, and whether it is free.
use Rattle.oai_answers.proofs.Appending.{◌⨾◌}
use Rattle.oai_config.specs.Warnings.{namespace_warnings}
use Rattle.oai_config.proofs.warnings.warn_of_namespace.Goals as goal

pub returns : goal.returns
unfolding namespace_warnings
returns c =
    let uri = rw c.as_str.ensures at (rw c.may_be_identifier-passes.ensures at c.in_ok-warn_of.ensures) in
    let free = rw c.as_str-2.ensures at (rw c.is_free-passes.ensures at c.in_ok-warn_of-2.ensures) in
    uri ⨾ free
