-- A configuration that keeps its rules has elements alone in its containers.
use Rattle.std.proofs.Common.{◌≡◌, ◌∙◌, ℕ, Bool, true, List, [], ◌∷◌, map, Option, Some, refl, ap}
use Rattle.std.specs.Prelude.{filter, find}
use Rattle.std.specs.List.{list_all}
use Rattle.std.specs.Str.{bytes_eq}
use Rattle.std.proofs.lemmas.Bool.{and_from, and_parts, cond_both}
use Rattle.oai_names.proofs.Lists.{all-filter, all-filter_same, filter_all}
use Rattle.oai_xml.specs.Documents.{is_canonical}
use Rattle.oai_xml.specs.Named.{NamedList, are_canonical, elements_named, elements_of}
use Rattle.oai_answers.specs.Answers.{described_sets}
use Rattle.oai_answers.specs.Seen.{has_elements}
use Rattle.oai_holdings.specs.Holdings.{NamedSet}
use Rattle.oai_repo.specs.Answers.{elements_alone}
use Rattle.oai_settings.specs.Config.{IsConfig, RepositoryConfig}

pub described : (config : RepositoryConfig) → IsConfig config → filter is_canonical config.descriptions ≡ config.descriptions
described config rules = filter_all is_canonical config.descriptions rules.containing

-- and so has each of the lists of its sets
alone : (lists : List NamedList) → list_all are_canonical lists ≡ true → map elements_alone lists ≡ lists
alone [] all = refl
alone (list ∷ lists) all =
    let parts = and_parts (are_canonical list) (list_all are_canonical lists) all in
    ap (λ (w : List (List ℕ)). (list.0, w) ∷ map elements_alone lists) (filter_all is_canonical list.1 parts.0) ∙ ap (λ (w : List NamedList). list ∷ w) (alone lists parts.1)

pub all_alone : (config : RepositoryConfig) → IsConfig config → map elements_alone config.set_descriptions ≡ config.set_descriptions
all_alone config rules = alone config.set_descriptions rules.set_containing

-- what passes each of the lists passes the found one
pub found_pass : (passes : List ℕ → Bool) (lists : List NamedList) (spec : List ℕ) → list_all (λ (list : NamedList). list_all passes list.1) lists ≡ true
    → list_all passes (elements_named lists spec) ≡ true
unfolding elements_named
found_pass passes [] spec all = refl
found_pass passes (list ∷ lists) spec all =
    let parts = and_parts (list_all passes list.1) (list_all (λ (list : NamedList). list_all passes list.1) lists) all in
    cond_both (bytes_eq list.0 spec) (Some list) (find (λ (list : NamedList). bytes_eq list.0 spec) lists) (λ (found : Option NamedList). list_all passes (elements_of found) ≡ true)
    (λ _. parts.0) (λ _. found_pass passes lists spec parts.1)

-- also of the elements alone
pub found_alone : (passes : List ℕ → Bool) (lists : List NamedList) (spec : List ℕ) → list_all (λ (list : NamedList). list_all passes list.1) lists ≡ true
    → list_all passes (elements_named (map elements_alone lists) spec) ≡ true
found_alone passes lists spec all = found_pass passes (map elements_alone lists) spec (alone_pass lists all)
  where
    alone_pass : (lists : List NamedList) → list_all (λ (list : NamedList). list_all passes list.1) lists ≡ true → list_all (λ (list : NamedList). list_all passes list.1) (map elements_alone lists) ≡ true
    alone_pass [] all = refl
    alone_pass (list ∷ lists) all =
        let parts = and_parts (list_all passes list.1) (list_all (λ (list : NamedList). list_all passes list.1) lists) all in
        and_from _ _ (all-filter passes is_canonical list.1 parts.0) (alone_pass lists parts.1)

-- what is found among elements alone are elements
found_elements : (lists : List NamedList) (spec : List ℕ) → list_all is_canonical (elements_named (map elements_alone lists) spec) ≡ true
found_elements lists spec = found_pass is_canonical (map elements_alone lists) spec (elements lists)
  where
    elements : (lists : List NamedList) → list_all are_canonical (map elements_alone lists) ≡ true
    elements [] = refl
    elements (list ∷ lists) = and_from _ _ (all-filter_same is_canonical list.1) (elements lists)

pub all_elements : (lists : List NamedList) (sets : List NamedSet) → list_all has_elements (described_sets (map elements_alone lists) sets) ≡ true
all_elements lists [] = refl
all_elements lists (set ∷ sets) = and_from _ _ (found_elements lists set.0) (all_elements lists sets)
