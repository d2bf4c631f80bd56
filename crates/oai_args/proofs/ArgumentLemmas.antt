-- What one more pair at the end does to the arguments.
use Rattle.std.proofs.Common.{◌≡◌, ◌≢◌, ◌∙◌, ℕ, Bool, not, ◌&&◌, List, [], ◌∷◌, ◌++◌, map, codes, refl, sym, ap, append_assoc}
use Rattle.std.specs.Prelude.{bytes_eq}
use Rattle.std.proofs.lemmas.List.{map-append}
use Rattle.std.proofs.lemmas.List.Elements.{filter-append}
use Rattle.std.proofs.lemmas.List.Folds.{list_all-append}
use Rattle.oai_names.specs.Characters.{is_xml_text}
use Rattle.oai_names.specs.Names.{is_among}
use Rattle.oai_args.specs.Arguments.{known_keys, occurrence_of, given, is_never, verb_once, arguments_in}
use Rattle.oai_args.specs.Pairs.{Pair, decoded_pair, decoded_pairs, values_of, has_only_keys, has_xml_values}
use Rattle.oai_args.specs.declared.arguments.Arguments.{Arguments}
use Rattle.oai_args.specs.Steps.{given_with, verb_with, is_verb_given_with, arguments_with}

given_with-occurrence_of : (front rest : List (List ℕ)) → given_with (occurrence_of front) rest ≡ occurrence_of (front ++ rest)
unfolding given_with
given_with-occurrence_of [] [] = refl
given_with-occurrence_of [] (value ∷ []) = refl
given_with-occurrence_of [] (value ∷ other ∷ values) = refl
given_with-occurrence_of (first ∷ []) [] = refl
given_with-occurrence_of (first ∷ []) (value ∷ values) = refl
given_with-occurrence_of (first ∷ second ∷ front) [] = refl
given_with-occurrence_of (first ∷ second ∷ front) (value ∷ values) = refl

verb_with-occurrence_of : (front rest : List (List ℕ)) → verb_with (not (is_never (occurrence_of front))) (verb_once (occurrence_of front)) rest ≡ verb_once (occurrence_of (front ++ rest))
unfolding verb_with
verb_with-occurrence_of [] [] = refl
verb_with-occurrence_of [] (name ∷ []) = refl
verb_with-occurrence_of [] (name ∷ other ∷ names) = refl
verb_with-occurrence_of (first ∷ []) [] = refl
verb_with-occurrence_of (first ∷ []) (name ∷ names) = refl
verb_with-occurrence_of (first ∷ second ∷ front) [] = refl
verb_with-occurrence_of (first ∷ second ∷ front) (name ∷ names) = refl

is_verb_given_with-occurrence_of : (front rest : List (List ℕ)) → is_verb_given_with (not (is_never (occurrence_of front))) rest ≡ not (is_never (occurrence_of (front ++ rest)))
unfolding is_verb_given_with
is_verb_given_with-occurrence_of [] [] = refl
is_verb_given_with-occurrence_of [] (name ∷ []) = refl
is_verb_given_with-occurrence_of [] (name ∷ other ∷ names) = refl
is_verb_given_with-occurrence_of (first ∷ []) [] = refl
is_verb_given_with-occurrence_of (first ∷ []) (name ∷ names) = refl
is_verb_given_with-occurrence_of (first ∷ second ∷ front) [] = refl
is_verb_given_with-occurrence_of (first ∷ second ∷ front) (name ∷ names) = refl

values_of-append : (key : List ℕ) (front rest : List Pair) → values_of key (front ++ rest) ≡ values_of key front ++ values_of key rest
unfolding values_of
values_of-append key front rest =
    let test : Pair → Bool = λ pair. bytes_eq pair.0 key in
    let value : Pair → List ℕ = λ pair. pair.1 in
    rw (filter-append test front rest) (map-append value _ _)

given_with-append : (key : List ℕ) (front rest : List Pair) → given_with (given key front) (values_of key rest) ≡ given key (front ++ rest)
unfolding given
given_with-append key front rest =
    given_with-occurrence_of (values_of key front) (values_of key rest) ∙ ap occurrence_of (sym (values_of-append key front rest))

verb_with-append : (key : List ℕ) (front rest : List Pair) → verb_with (not (is_never (given key front))) (verb_once (given key front)) (values_of key rest) ≡ verb_once (given key (front ++ rest))
unfolding given
verb_with-append key front rest =
    verb_with-occurrence_of (values_of key front) (values_of key rest) ∙ ap (λ (values : List (List ℕ)). verb_once (occurrence_of values)) (sym (values_of-append key front rest))

is_verb_given_with-append : (key : List ℕ) (front rest : List Pair) → is_verb_given_with (not (is_never (given key front))) (values_of key rest) ≡ not (is_never (given key (front ++ rest)))
unfolding given
is_verb_given_with-append key front rest =
    is_verb_given_with-occurrence_of (values_of key front) (values_of key rest) ∙ ap (λ (values : List (List ℕ)). not (is_never (occurrence_of values))) (sym (values_of-append key front rest))

known-append : (keys : List (List ℕ)) (front rest : List Pair) → (has_only_keys keys front && has_only_keys keys rest) ≡ has_only_keys keys (front ++ rest)
unfolding has_only_keys
known-append keys front rest = sym (list_all-append (λ (pair : Pair). is_among keys pair.0) front rest)

xml-append : (front rest : List Pair) → (has_xml_values front && has_xml_values rest) ≡ has_xml_values (front ++ rest)
unfolding has_xml_values
xml-append front rest = sym (list_all-append (λ (pair : Pair). is_xml_text pair.1) front rest)

pub arguments_with-append : (front : List Pair) (pair : Pair) → arguments_with (arguments_in front) (pair ∷ []) ≡ arguments_in (front ++ pair ∷ [])
unfolding arguments_with arguments_in
arguments_with-append front pair =
    let rest : List Pair = pair ∷ [] in
    rw (verb_with-append (codes "verb") front rest, is_verb_given_with-append (codes "verb") front rest, given_with-append (codes "identifier") front rest, given_with-append (codes "metadataPrefix") front rest, given_with-append (codes "from") front rest, given_with-append (codes "until") front rest, given_with-append (codes "set") front rest, given_with-append (codes "resumptionToken") front rest, known-append known_keys front rest, xml-append front rest) refl

-- a pair was read, and the arguments are those of one pair more
pub read_on : (query : List ℕ) (front left rest : List Pair) (pair : Pair) (old new : Arguments)
    → decoded_pairs query ≡ front ++ map decoded_pair left → old ≡ arguments_in front → left ≡ pair ∷ rest
    → new ≡ arguments_with old (decoded_pair pair ∷ [])
    → (x : List Pair) × (decoded_pairs query ≡ x ++ map decoded_pair rest) × (new ≡ arguments_in x)
read_on query front left rest pair old new all so_far taken added = (
  front ++ decoded_pair pair ∷ [],
  rw (all, taken) (sym (append_assoc front (decoded_pair pair ∷ []) (map decoded_pair rest))),
  rw (added, so_far) (arguments_with-append front (decoded_pair pair)),
)

not_empty : (front : List Pair) (pair : Pair) (rest : List Pair) → front ++ pair ∷ rest ≡ [] → ⊥
not_empty [] pair rest e = cc
not_empty (first ∷ front) pair rest e = cc

-- where a pair is left, there are pairs
pub some_pairs : (query : List ℕ) (front left rest : List Pair) (pair : Pair)
    → decoded_pairs query ≡ front ++ map decoded_pair left → left ≡ pair ∷ rest → decoded_pairs query ≢ []
some_pairs query front left rest pair all taken none =
    not_empty front (decoded_pair pair) (map decoded_pair rest) (rw taken at (sym all ∙ none))
