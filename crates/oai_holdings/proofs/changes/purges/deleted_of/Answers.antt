-- What the test keeps of the items.
use Rattle.std.proofs.Common.{◌∙◌, ap, rules}
use Rattle.std.specs.Prelude.{filter}
use Rattle.std.proofs.lemmas.Fn.{filter_same}
use Rattle.oai_holdings.specs.Purges.{is_deleted}
use Rattle.oai_holdings.proofs.changes.purges.deleted_of.Goals as goal

pub returns : goal.returns
returns c =
    filter_same _ is_deleted _ (λ x b f' k. search rules) _ _ c.retain.ensures.filtered ∙ ap (filter is_deleted) c.into_vec-items.ensures
