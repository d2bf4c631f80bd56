-- What the test keeps of the items.
use Rattle.std.proofs.Common.{◌∙◌, ap, rules}
use Rattle.std.specs.Prelude.{filter}
use Rattle.std.proofs.lemmas.Fn.{filter_same}
use Rattle.oai_holdings.specs.Missing.{is_up_to, items_up_to}
use Rattle.oai_holdings.proofs.differences.up_to.Goals as goal

pub returns : goal.returns
unfolding items_up_to
returns c =
    filter_same _ (is_up_to c.args.next.now) _ (λ x b f' k. search rules) _ _ c.retain.ensures.filtered ∙ ap (filter (is_up_to c.args.next.now)) c.into_vec-items.ensures
