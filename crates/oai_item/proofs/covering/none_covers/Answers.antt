use Rattle.std.proofs.Common.{◌∙◌, ℕ, List}
use Rattle.std.proofs.lemmas.Result.{IfOk-weaker}
use Rattle.oai_item.specs.Reductions.{are_fresh}
use Rattle.oai_item.proofs.NewNames.{new_is_apart}
use Rattle.oai_item.proofs.covering.none_covers.Goals as goal

pub returns : goal.returns
returns c =
    let sets : List (List ℕ) = c.args.sets.now in
    IfOk-weaker c.are_new.result _ _ (λ new is. is ∙ (λ k. are_fresh (λ q. c.in_ok-names.ensures q k) sets) ∙ new_is_apart sets) c.are_new.ensures
