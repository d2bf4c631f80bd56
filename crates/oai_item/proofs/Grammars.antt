-- The setSpecs of an item are of their grammar, and not too long.
use Rattle.std.proofs.Common.{◌≡◌, ◌∙◌, ℕ, Bool, true, List, [], ◌∷◌, ◌++◌, refl}
use Rattle.std.proofs.lemmas.Bool.{and_from}
use Rattle.std.proofs.lemmas.List.Folds.{list_all-append}
use Rattle.oai_names.specs.Sets.{may_be_set_spec}
use Rattle.oai_item.specs.Item.{are_set_specs}
use Rattle.oai_item.specs.Reductions.{flagged}
use Rattle.oai_item.proofs.Flagged.{all-flagged}

pub are_set_specs-push : (sets : List (List ℕ)) (set : List ℕ) → are_set_specs sets ≡ true → may_be_set_spec set ≡ true → are_set_specs (sets ++ set ∷ []) ≡ true
unfolding are_set_specs
are_set_specs-push sets set names name =
    list_all-append may_be_set_spec sets (set ∷ []) ∙ and_from _ _ names (and_from _ _ name refl)

-- so are those of them that stay
pub are_set_specs-flagged : (flags : List Bool) (sets : List (List ℕ)) → are_set_specs sets ≡ true → are_set_specs (flagged flags sets) ≡ true
unfolding are_set_specs
are_set_specs-flagged flags sets names = all-flagged may_be_set_spec flags sets names
