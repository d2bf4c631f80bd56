-- Elements and attributes can be cut off what follows.
use Rattle.std.proofs.Common.{◌≡◌, ◌∙◌, ℕ, Bool, true, not, List, ◌++◌, map, codes, refl, ap}
use Rattle.std.specs.List.{flat_map, list_all}
use Rattle.std.proofs.lemmas.List.{append_assoc}
use Rattle.oai_names.proofs.Cuts.{Cuts, Next, any, anything, at, begins, begins_own, behind, closed, each, seen_as, without}
use Rattle.oai_names.proofs.EscapeCuts.{text_cut}
use Rattle.oai_xml.specs.Documents.{is_canonical}
use Rattle.oai_xml.proofs.CanonicalLemmas.{element_tested, elements_cut as elements_end}
use Rattle.oai_answers.specs.MetadataTrees.{element_tree}
use Rattle.oai_answers.specs.Markup.{attribute_start, container, element, end_tag, plain, spelled_attribute, start_tag, text_element}

-- ---- elements and attributes

-- an end tag begins with `</`
pub tag_closes : (name rest : List ℕ) → begins (codes "</") (end_tag name ++ rest) ≡ true
unfolding end_tag plain
tag_closes name rest = refl

pub tag_at : (name rest : List ℕ) → at 60 (end_tag name ++ rest) ≡ true
unfolding end_tag plain
tag_at name rest = refl

pub element_cut : {A B : Type 0} {near : Next} {good : A → Bool} {content : A → List ℕ} {see : A → B} (name : List ℕ) → Cuts near good content see
    → ((rest : List ℕ) → near (end_tag name ++ rest) ≡ true) → Cuts anything good (λ a. element name (content a)) see
unfolding element
element_cut name c follows = closed (λ _. end_tag name) (behind (start_tag name) c) (λ a rest _ _. follows rest)

pub text_element_cut : (name : List ℕ) → Cuts anything any (text_element name) (λ text. text)
unfolding text_element
text_element_cut name = element_cut name text_cut (tag_at name)

pub attribute_cut : {A B : Type 0} {good : A → Bool} {value : A → List ℕ} {see : A → B} (name : List ℕ) → Cuts (at 34) good value see
    → Cuts anything good (λ a. spelled_attribute name (value a)) see
unfolding spelled_attribute plain
attribute_cut name c = closed (λ _. codes "\"") (behind (attribute_start name) c) (λ a rest _ _. refl)

-- ---- a list of elements, up to what is none of them

-- an element begins with its start tag
pub begins_element : (name content rest : List ℕ) → begins (start_tag name) (element name content ++ rest) ≡ true
unfolding element
begins_element name content rest =
    ap (begins (start_tag name)) (append_assoc (start_tag name ++ content) (end_tag name) rest ∙ append_assoc (start_tag name) content (end_tag name ++ rest)) ∙ begins_own (start_tag name) (content ++ (end_tag name ++ rest))

pub elements_cut : {A B : Type 0} {good : A → Bool} {see : A → B} (name : List ℕ) (content write : A → List ℕ) → ((a : A) → write a ≡ element name (content a))
    → Cuts anything good write see → Cuts (without (start_tag name)) (list_all good) (flat_map write) (map see)
elements_cut name content write is c =
    each c (record {
      goes_on = λ a rest _. ap not (ap (λ w. begins (start_tag name) (w ++ rest)) (is a) ∙ begins_element name (content a) rest);
      near_more = λ a rest _. refl;
      near_end = λ rest _. refl;
    })

-- ---- containers of elements

-- an element in canonical text shows where it ends
element_text_cut : Cuts anything is_canonical plain (λ text. text)
unfolding plain
element_text_cut = record {
  cut = λ a b rest more ga gb na nb same. elements_end a b rest more (element_tested a ga) (element_tested b gb) same;
}

pub container_cut : (name : List ℕ) → Cuts anything is_canonical (container name) element_tree
unfolding container
container_cut name = seen_as element_tree (element_cut name element_text_cut (λ rest. refl))

-- those of a name, up to what is none of them
pub containers_cut : (name : List ℕ) → Cuts (without (start_tag name)) (list_all is_canonical) (flat_map (container name)) (map element_tree)
unfolding container
containers_cut name = elements_cut name plain (container name) (λ text. refl) (container_cut name)
