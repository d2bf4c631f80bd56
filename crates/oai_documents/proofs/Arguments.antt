-- The request's tag: its arguments are attributes of different names, whichever of them were given.
use Rattle.std.proofs.Common.{◌≡◌, ◌∙◌, ◌≤◌, ℕ, Bool, true, false, not, cond, List, [], ◌∷◌, ◌++◌, length, codes, Option, None, Some, refl, ap, arith}
use Rattle.std.specs.Prelude.{nat_le}
use Rattle.std.specs.List.{list_all}
use Rattle.std.specs.Option.{is_some}
use Rattle.std.proofs.lemmas.Bool.{and_parts}
use Rattle.std.proofs.lemmas.Bool.Decides.{nat_tests}
use Rattle.oai_answers.specs.Answers.{Attributes}
use Rattle.oai_xml.specs.QNames.{prefix_of}
use Rattle.oai_xml.specs.Trees.{Attribute}
use Rattle.oai_xml.specs.Namespaces.{Scope, are_alike, are_unlike, is_declaring}
use Rattle.oai_xml.specs.Whole.{names_of}
use Rattle.oai_xml.specs.declared.limits.TheConstants.{MAX_ATTRIBUTES}
use Rattle.oai_documents.specs.DocumentTrees.{argument_attribute, arguments}
use Rattle.oai_documents.proofs.Scopes.{oai_scope}
use Rattle.oai_documents.proofs.Tags.{IsPlainTag, both, is_plain_name}

-- those names of a list for which there is a true
abbrev pub chosen : List Bool → List (List ℕ) → List (List ℕ)
chosen [] names = []
chosen (b ∷ bs) [] = []
chosen (b ∷ bs) (name ∷ names) = cond b (name ∷ chosen bs names) (chosen bs names)

pub all_chosen : (p : List ℕ → Bool) (bs : List Bool) (names : List (List ℕ)) → list_all p names ≡ true → list_all p (chosen bs names) ≡ true
all_chosen p [] names all = refl
all_chosen p (b ∷ bs) [] all = refl
all_chosen p (true ∷ bs) (name ∷ names) all = let parts = and_parts (p name) (list_all p names) all in both parts.0 (all_chosen p bs names parts.1)
all_chosen p (false ∷ bs) (name ∷ names) all = all_chosen p bs names (and_parts (p name) (list_all p names) all).1

unlike_chosen : (scope : Scope) (bs : List Bool) (names : List (List ℕ)) → are_unlike scope names ≡ true → are_unlike scope (chosen bs names) ≡ true
unfolding are_unlike
unlike_chosen scope [] names all = refl
unlike_chosen scope (b ∷ bs) [] all = refl
unlike_chosen scope (true ∷ bs) (name ∷ names) all =
    let parts = and_parts (list_all (λ (other : List ℕ). not (are_alike scope name other)) names) (are_unlike scope names) all in
    both (all_chosen (λ other. not (are_alike scope name other)) bs names parts.0) (unlike_chosen scope bs names parts.1)
unlike_chosen scope (false ∷ bs) (name ∷ names) all =
    unlike_chosen scope bs names (and_parts (list_all (λ (other : List ℕ). not (are_alike scope name other)) names) (are_unlike scope names) all).1

fewer_chosen : (bs : List Bool) (names : List (List ℕ)) → length (chosen bs names) ≤ length names
fewer_chosen [] names = omega arith
fewer_chosen (b ∷ bs) [] = omega arith
fewer_chosen (true ∷ bs) (name ∷ names) = let others = fewer_chosen bs names in omega (arith, others)
fewer_chosen (false ∷ bs) (name ∷ names) = let others = fewer_chosen bs names in omega (arith, others)

-- ---- the arguments

given_more : (name : List ℕ) (value : Option (List ℕ)) (rest : List Attribute) (bs : List Bool) (names : List (List ℕ)) → names_of rest ≡ chosen bs names
    → names_of (argument_attribute name value ++ rest) ≡ chosen (is_some value ∷ bs) (name ∷ names)
given_more name None rest bs names is = is
given_more name (Some value) rest bs names is = ap (λ (w : List (List ℕ)). name ∷ w) is

given_last : (name : List ℕ) (value : Option (List ℕ)) → names_of (argument_attribute name value) ≡ chosen (is_some value ∷ []) (name ∷ [])
given_last name None = refl
given_last name (Some value) = refl

abbrev pub argument_names : List (List ℕ)
argument_names = codes "verb" ∷ codes "identifier" ∷ codes "metadataPrefix" ∷ codes "from" ∷ codes "until" ∷ codes "set" ∷ codes "resumptionToken" ∷ []

abbrev pub are_given : Attributes → List Bool
are_given a = is_some a.verb ∷ is_some a.identifier ∷ is_some a.prefix ∷ is_some a.from ∷ is_some a.until ∷ is_some a.set ∷ is_some a.token ∷ []

pub names_given : (a : Attributes) → names_of (arguments a) ≡ chosen (are_given a) argument_names
unfolding arguments
names_given a =
    let token = given_last (codes "resumptionToken") a.token in
    let set = given_more (codes "set") a.set _ (is_some a.token ∷ []) (codes "resumptionToken" ∷ []) token in
    let until = given_more (codes "until") a.until _ (is_some a.set ∷ is_some a.token ∷ []) (codes "set" ∷ codes "resumptionToken" ∷ []) set in
    let from = given_more (codes "from") a.from _ (is_some a.until ∷ is_some a.set ∷ is_some a.token ∷ []) (codes "until" ∷ codes "set" ∷ codes "resumptionToken" ∷ []) until in
    let prefix = given_more (codes "metadataPrefix") a.prefix _ (is_some a.from ∷ is_some a.until ∷ is_some a.set ∷ is_some a.token ∷ []) (codes "from" ∷ codes "until" ∷ codes "set" ∷ codes "resumptionToken" ∷ []) from in
    let identifier = given_more (codes "identifier") a.identifier _ (is_some a.prefix ∷ is_some a.from ∷ is_some a.until ∷ is_some a.set ∷ is_some a.token ∷ []) (codes "metadataPrefix" ∷ codes "from" ∷ codes "until" ∷ codes "set" ∷ codes "resumptionToken" ∷ []) prefix in
    given_more (codes "verb") a.verb _ (is_some a.identifier ∷ is_some a.prefix ∷ is_some a.from ∷ is_some a.until ∷ is_some a.set ∷ is_some a.token ∷ []) (codes "identifier" ∷ codes "metadataPrefix" ∷ codes "from" ∷ codes "until" ∷ codes "set" ∷ codes "resumptionToken" ∷ []) identifier

plain_arguments : list_all is_plain_name argument_names ≡ true
unfolding is_declaring prefix_of
plain_arguments = refl

unlike_arguments : are_unlike oai_scope argument_names ≡ true
unfolding are_unlike are_alike
unlike_arguments = refl

few_arguments : (bs : List Bool) → nat_le (length (chosen bs argument_names)) MAX_ATTRIBUTES ≡ true
few_arguments bs = few (length (chosen bs argument_names)) (fewer_chosen bs argument_names)
  where
    few : (n : ℕ) → n ≤ 7 → nat_le n 64 ≡ true
    few n is = grind (arith, nat_tests)

pub request_tag : (a : Attributes) → IsPlainTag oai_scope (codes "request") (arguments a)
request_tag a =
    let are = names_given a in record {
      named = refl;
      plain = ap (list_all is_plain_name) are ∙ all_chosen is_plain_name (are_given a) argument_names plain_arguments;
      unlike = ap (are_unlike oai_scope) are ∙ unlike_chosen oai_scope (are_given a) argument_names unlike_arguments;
      few = ap (λ (w : List (List ℕ)). nat_le (length w) MAX_ATTRIBUTES) are ∙ few_arguments (are_given a);
    }
