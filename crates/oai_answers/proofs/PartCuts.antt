-- The parts of a document can be cut off what follows, in the order in which they are defined: the request, errors, Identify, formats and sets.
use Rattle.std.proofs.Common.{◌≡◌, ◌∙◌, ℕ, ℤ, ◌+◌, Bool, true, false, eqb, cond, List, [], ◌∷◌, ◌++◌, get_or, map, codes, Option, None, Some, refl, sym, ap, arith}
use Rattle.std.specs.Prelude.{nat_lt}
use Rattle.std.specs.List.{flat_map, list_all}
use Rattle.std.proofs.lemmas.Bool.{true≢false}
use Rattle.std.proofs.lemmas.Bool.Decides.{nat_tests}
use Rattle.oai_names.specs.Escapes.{escaped_text}
use Rattle.oai_names.proofs.Cuts.{Cuts, Next, any, anything, at, behind, both, closed, lacks, of_part, pair, seen_as, seen_same, text_before, where_good, where_next, without, all_any, map_same}
use Rattle.oai_names.proofs.EscapeCuts.{text_cut, value_cut}
use Rattle.oai_time.specs.TimeTexts.{datestamp_text, second_text}
use Rattle.oai_time.specs.declared.granularity.Granularity.{Granularity}
use Rattle.oai_time.specs.declared.granularity.Granularity.TheVariants.{Day, Second}
use Rattle.oai_item.specs.declared.formats.Format.{Format}
use Rattle.oai_xml.specs.Documents.{is_canonical}
use Rattle.oai_answers.specs.Answers.{Attributes, DescribedSet, Description, Document, arguments_told}
use Rattle.oai_answers.specs.Documents.{attributes, code_of, deleted_text, error_element, format_element, formats_element, given_attribute, granularity_text, identify_element, message_of, request_element, set_element, sets_element}
use Rattle.oai_answers.specs.Markup.{attribute, attribute_start, container, element, end_tag, plain, spelled_attribute, start_tag, text_element}
use Rattle.oai_answers.specs.Seen.{has_elements, identity_seen, offer_seen, set_seen}
use Rattle.oai_answers.specs.declared.errors.ErrorCode.{ErrorCode}
use Rattle.oai_answers.specs.declared.errors.ErrorCode.TheVariants.{BadVerb, BadArgument, BadResumptionToken, CannotDisseminateFormat, IdDoesNotExist, NoRecordsMatch, NoMetadataFormats, NoSetHierarchy}
use Rattle.oai_item.specs.declared.deleted_record.DeletedRecord.{DeletedRecord}
use Rattle.oai_item.specs.declared.deleted_record.DeletedRecord.TheVariants.{No, Transient, Persistent}
use Rattle.oai_answers.proofs.Printed.{angle_is, datestamp_lacks, second_lacks}
use Rattle.oai_answers.proofs.Spelled.{attribute_cut, containers_cut, element_cut, elements_cut, tag_at, text_element_cut}

-- ---- the request

-- which argument follows, by the first letter of its name: the earlier, the higher; 0 where none does
abbrev pub letter_rank : ℕ → ℕ
letter_rank y =
    cond (eqb y 118) 7
    (cond (eqb y 105) 6
    (cond (eqb y 109) 5
    (cond (eqb y 102) 4
    (cond (eqb y 117) 3
    (cond (eqb y 115) 2
    (cond (eqb y 114) 1 0))))))

abbrev pub rank_at : List ℕ → ℕ
rank_at [] = 0
rank_at (x ∷ []) = 0
rank_at (x ∷ y ∷ rest) = cond (eqb x 32) (letter_rank y) 0

-- only later arguments follow
abbrev pub later : ℕ → Next
later k rest = nat_lt (rank_at rest) k

-- an attribute of the name has the rank
abbrev IsRanked : List ℕ → ℕ → Type 0
IsRanked name k = (text rest : List ℕ) → rank_at (attribute name text ++ rest) ≡ k

never_below : (k : ℕ) → nat_lt k k ≡ false
never_below k = grind (arith, nat_tests)

pub value_attribute_cut : (name : List ℕ) → Cuts anything any (attribute name) (λ text. text)
unfolding attribute
value_attribute_cut name = attribute_cut name value_cut

given_cut : (name : List ℕ) (k : ℕ) → IsRanked name k → Cuts (later k) any (given_attribute name) (λ value. value)
given_cut name k ranked = record { cut = given_twice }
  where
    absent : (text rest more : List ℕ) → later k rest ≡ true → rest ≡ attribute name text ++ more → ⊥
    absent text rest more after same = true≢false (sym after ∙ ap (λ bytes. later k bytes) same ∙ ap (λ n. nat_lt n k) (ranked text more) ∙ never_below k)

    given_twice : (a b : Option (List ℕ)) (rest more : List ℕ) → any a ≡ true → any b ≡ true → later k rest ≡ true → later k more ≡ true
        → given_attribute name a ++ rest ≡ given_attribute name b ++ more → (a ≡ b) × (rest ≡ more)
    given_twice None None rest more ga gb na nb same = (refl, same)
    given_twice None (Some text) rest more ga gb na nb same = absurd (absent text rest more na same)
    given_twice (Some text) None rest more ga gb na nb same = absurd (absent text more rest nb (sym same))
    given_twice (Some text) (Some other) rest more ga gb na nb same =
        let done = (value_attribute_cut name).cut text other rest more refl refl refl refl same in (ap (λ t. Some t) done.0, done.1)

-- what follows an argument that may be there
given_later : (name : List ℕ) (k : ℕ) → IsRanked name k → (value : Option (List ℕ)) (rest : List ℕ) → later k rest ≡ true → later (k + 1) (given_attribute name value ++ rest) ≡ true
given_later name k ranked None rest after = one_more (rank_at rest) after
  where
    one_more : (n : ℕ) → nat_lt n k ≡ true → nat_lt n (k + 1) ≡ true
    one_more n h = grind (arith, nat_tests)
given_later name k ranked (Some text) rest after = ap (λ n. nat_lt n (k + 1)) (ranked text rest) ∙ below k
  where
    below : (n : ℕ) → nat_lt n (n + 1) ≡ true
    below n = grind (arith, nat_tests)

verb_ranked : IsRanked (codes "verb") 7
unfolding attribute spelled_attribute attribute_start plain
verb_ranked text rest = refl

identifier_ranked : IsRanked (codes "identifier") 6
unfolding attribute spelled_attribute attribute_start plain
identifier_ranked text rest = refl

prefix_ranked : IsRanked (codes "metadataPrefix") 5
unfolding attribute spelled_attribute attribute_start plain
prefix_ranked text rest = refl

from_ranked : IsRanked (codes "from") 4
unfolding attribute spelled_attribute attribute_start plain
from_ranked text rest = refl

until_ranked : IsRanked (codes "until") 3
unfolding attribute spelled_attribute attribute_start plain
until_ranked text rest = refl

set_ranked : IsRanked (codes "set") 2
unfolding attribute spelled_attribute attribute_start plain
set_ranked text rest = refl

token_ranked : IsRanked (codes "resumptionToken") 1
unfolding attribute spelled_attribute attribute_start plain
token_ranked text rest = refl

-- an argument of those that are told
argument_cut : (name : List ℕ) (k : ℕ) → IsRanked name k → (part : Attributes → Option (List ℕ)) → Cuts (later k) any (λ asked. given_attribute name (part asked)) part
argument_cut name k ranked part = of_part part (given_cut name k ranked)

nothing_ranked : (rest : List ℕ) → at 62 rest ≡ true → later 1 rest ≡ true
nothing_ranked [] ends = cc
nothing_ranked (x ∷ []) ends = refl
nothing_ranked (x ∷ y ∷ rest) ends = ap (λ n. nat_lt n 1) (by_byte (eqb x 32) (apart x ends))
  where
    apart : (x : ℕ) → eqb x 62 ≡ true → eqb x 32 ≡ false
    apart x h = grind (arith, nat_tests)

    by_byte : (b : Bool) → b ≡ false → cond b (letter_rank y) 0 ≡ 0
    by_byte true h = cc
    by_byte false h = refl

pub attributes_cut : Cuts (at 62) any attributes (λ asked. asked)
unfolding attributes
attributes_cut =
    let one = argument_cut (codes "verb") 7 verb_ranked (λ asked. asked.verb) in
    let two = both one (argument_cut (codes "identifier") 6 identifier_ranked (λ asked. asked.identifier)) (λ asked rest _. given_later (codes "identifier") 6 identifier_ranked asked.identifier rest) in
    let three = both two (argument_cut (codes "metadataPrefix") 5 prefix_ranked (λ asked. asked.prefix)) (λ asked rest _. given_later (codes "metadataPrefix") 5 prefix_ranked asked.prefix rest) in
    let four = both three (argument_cut (codes "from") 4 from_ranked (λ asked. asked.from)) (λ asked rest _. given_later (codes "from") 4 from_ranked asked.from rest) in
    let five = both four (argument_cut (codes "until") 3 until_ranked (λ asked. asked.until)) (λ asked rest _. given_later (codes "until") 3 until_ranked asked.until rest) in
    let six = both five (argument_cut (codes "set") 2 set_ranked (λ asked. asked.set)) (λ asked rest _. given_later (codes "set") 2 set_ranked asked.set rest) in
    let seven = both six (argument_cut (codes "resumptionToken") 1 token_ranked (λ asked. asked.token)) (λ asked rest _. given_later (codes "resumptionToken") 1 token_ranked asked.token rest) in
    where_next nothing_ranked (seen_as (λ p. record { verb = p.0.0.0.0.0.0; identifier = p.0.0.0.0.0.1; prefix = p.0.0.0.0.1; from = p.0.0.0.1; until = p.0.0.1; set = p.0.1; token = p.1 }) seven)

pub request_cut : Cuts anything any request_element (λ (d : Document). pair (arguments_told d.answer d.asked) d.base)
unfolding request_element plain
request_cut =
    let arguments = of_part (λ (d : Document). arguments_told d.answer d.asked) attributes_cut in
    let start = closed {next = anything} (λ _. codes ">") (behind (codes "<request") arguments) (λ d rest _ _. refl) in
    let base = of_part (λ (d : Document). d.base) text_cut in
    closed (λ _. end_tag (codes "request")) (both start base (λ d rest _ _. refl)) (λ d rest _ _. tag_at (codes "request") rest)

-- ---- errors

abbrev code_from : List ℕ → ErrorCode
code_from text =
    cond (eqb (get_or text 0 0) 98)
    (cond (eqb (get_or text 3 0) 86) BadVerb (cond (eqb (get_or text 3 0) 65) BadArgument BadResumptionToken))
    (cond (eqb (get_or text 0 0) 99) CannotDisseminateFormat
    (cond (eqb (get_or text 0 0) 105) IdDoesNotExist
    (cond (eqb (get_or text 2 0) 82) NoRecordsMatch (cond (eqb (get_or text 2 0) 77) NoMetadataFormats NoSetHierarchy))))

code_back : (code : ErrorCode) → code_from (code_of code) ≡ code
code_back BadVerb = refl
code_back BadArgument = refl
code_back BadResumptionToken = refl
code_back CannotDisseminateFormat = refl
code_back IdDoesNotExist = refl
code_back NoRecordsMatch = refl
code_back NoMetadataFormats = refl
code_back NoSetHierarchy = refl

code_lacks : (code : ErrorCode) → lacks 34 (code_of code) ≡ true
code_lacks BadVerb = refl
code_lacks BadArgument = refl
code_lacks BadResumptionToken = refl
code_lacks CannotDisseminateFormat = refl
code_lacks IdDoesNotExist = refl
code_lacks NoRecordsMatch = refl
code_lacks NoMetadataFormats = refl
code_lacks NoSetHierarchy = refl

code_cut : Cuts (at 34) any code_of (λ code. code)
code_cut = seen_same code_back (seen_as code_from (where_good (λ code _. code_lacks code) (of_part code_of (text_before 34))))

pub error_cut : Cuts anything any error_element (λ code. code)
unfolding error_element plain
error_cut =
    let start = closed {next = anything} (λ _. codes ">") (behind (codes "<error") (attribute_cut (codes "code") code_cut)) (λ code rest _ _. refl) in
    closed (λ _. end_tag (codes "error")) (closed {next = anything} message_of start (λ code rest _ _. refl)) (λ code rest _ _. refl)

-- ---- Identify

abbrev deleted_from : List ℕ → DeletedRecord
deleted_from text = cond (eqb (get_or text 0 0) 110) No (cond (eqb (get_or text 0 0) 116) Transient Persistent)

deleted_back : (deleted : DeletedRecord) → deleted_from (deleted_text deleted) ≡ deleted
deleted_back No = refl
deleted_back Transient = refl
deleted_back Persistent = refl

deleted_lacks : (deleted : DeletedRecord) → lacks 60 (deleted_text deleted) ≡ true
deleted_lacks No = refl
deleted_lacks Transient = refl
deleted_lacks Persistent = refl

deleted_cut : Cuts (at 60) any deleted_text (λ deleted. deleted)
deleted_cut = seen_same deleted_back (seen_as deleted_from (where_good (λ deleted _. deleted_lacks deleted) (of_part deleted_text (text_before 60))))

abbrev granularity_from : List ℕ → Granularity
granularity_from text = cond (eqb (get_or text 10 0) 84) Second Day

granularity_back : (granularity : Granularity) → granularity_from (granularity_text granularity) ≡ granularity
granularity_back Day = refl
granularity_back Second = refl

granularity_lacks : (granularity : Granularity) → lacks 60 (granularity_text granularity) ≡ true
granularity_lacks Day = refl
granularity_lacks Second = refl

granularity_cut : Cuts (at 60) any granularity_text (λ granularity. granularity)
granularity_cut = seen_same granularity_back (seen_as granularity_from (where_good (λ granularity _. granularity_lacks granularity) (of_part granularity_text (text_before 60))))

-- a datestamp
pub datestamp_cut : Cuts (at 60) any (λ (p : Granularity × ℤ). datestamp_text p.0 p.1) (λ p. datestamp_text p.0 p.1)
datestamp_cut = where_good (λ p _. datestamp_lacks 60 angle_is p.0 p.1) (of_part (λ (p : Granularity × ℤ). datestamp_text p.0 p.1) (text_before 60))

pub second_cut : Cuts (at 60) any second_text second_text
second_cut = where_good (λ seconds _. second_lacks 60 angle_is seconds) (of_part second_text (text_before 60))

-- a list of elements of texts
pub texts_cut : (name : List ℕ) → Cuts (without (start_tag name)) any (flat_map (text_element name)) (λ texts. texts)
unfolding text_element
texts_cut name = seen_same map_same (where_good (λ texts _. all_any texts) (elements_cut name escaped_text (text_element name) (λ text. refl) (text_element_cut name)))

abbrev Identity : Type 0
Identity = List ℕ × Description

abbrev pub is_described : Identity → Bool
is_described p = list_all is_canonical p.1.descriptions

pub identify_cut : Cuts anything is_described (λ (p : Identity). identify_element p.0 p.1) (λ p. identity_seen p.0 p.1)
unfolding identify_element element start_tag end_tag plain
identify_cut =
    let name = of_part (λ (p : Identity). p.1.name) (text_element_cut (codes "repositoryName")) in
    let base = both name (of_part (λ (p : Identity). p.0) (text_element_cut (codes "baseURL"))) (λ p rest _ _. refl) in
    let version = closed {next = anything} (λ _. element (codes "protocolVersion") (codes "2.0")) base (λ p rest _ _. refl) in
    let addresses = both version (of_part (λ (p : Identity). p.1.addresses) (texts_cut (codes "adminEmail"))) (λ p rest _ _. refl) in
    let earliest = both addresses (element_cut (codes "earliestDatestamp") (of_part (λ (p : Identity). pair p.1.granularity p.1.earliest) datestamp_cut) (tag_at (codes "earliestDatestamp"))) (λ p rest _ _. refl) in
    let deleted = both earliest (element_cut (codes "deletedRecord") (of_part (λ (p : Identity). p.1.deleted) deleted_cut) (tag_at (codes "deletedRecord"))) (λ p rest _ _. refl) in
    let granularity = both deleted (element_cut (codes "granularity") (of_part (λ (p : Identity). p.1.granularity) granularity_cut) (tag_at (codes "granularity"))) (λ p rest _ _. refl) in
    let descriptions = both (where_good (λ p _. refl) granularity) (of_part (λ (p : Identity). p.1.descriptions) (containers_cut (codes "description"))) (λ p rest _ _. refl) in
    seen_as (λ s. record { name = s.0.0.0.0.0.0; base = s.0.0.0.0.0.1; addresses = s.0.0.0.0.1; earliest = s.0.0.0.1; deleted = s.0.0.1; granularity = s.0.1; descriptions = s.1 })
    (element_cut (codes "Identify") descriptions (λ rest. refl))

-- ---- formats

pub format_cut : Cuts anything any format_element offer_seen
unfolding format_element
format_cut =
    let prefix = of_part (λ (f : Format). f.prefix) (text_element_cut (codes "metadataPrefix")) in
    let schema = both prefix (of_part (λ (f : Format). f.schema) (text_element_cut (codes "schema"))) (λ f rest _ _. refl) in
    let namespace = both schema (of_part (λ (f : Format). f.namespace) (text_element_cut (codes "metadataNamespace"))) (λ f rest _ _. refl) in
    seen_as (λ s. record { prefix = s.0.0; schema = s.0.1; namespace = s.1 }) (element_cut (codes "metadataFormat") namespace (λ rest. refl))

pub formats_cut : Cuts anything any formats_element (map offer_seen)
unfolding formats_element format_element element start_tag end_tag plain
formats_cut =
    let content : Format → List ℕ = λ f. text_element (codes "metadataPrefix") f.prefix ++ text_element (codes "schema") f.schema ++ text_element (codes "metadataNamespace") f.namespace in
    element_cut (codes "ListMetadataFormats") (where_good (λ formats _. all_any formats) (elements_cut (codes "metadataFormat") content format_element (λ f. refl) format_cut)) (λ rest. refl)

-- ---- sets

pub set_cut : Cuts anything has_elements set_element set_seen
unfolding set_element element start_tag end_tag plain
set_cut =
    let spec = of_part (λ (s : DescribedSet). s.spec) (text_element_cut (codes "setSpec")) in
    let name = both spec (of_part (λ (s : DescribedSet). s.name) (text_element_cut (codes "setName"))) (λ s rest _ _. refl) in
    let descriptions = both (where_good (λ s _. refl) name) (of_part (λ (s : DescribedSet). s.descriptions) (containers_cut (codes "setDescription"))) (λ s rest _ _. refl) in
    seen_as (λ s. record { spec = s.0.0; name = s.0.1; descriptions = s.1 }) (element_cut (codes "set") descriptions (λ rest. refl))

pub sets_cut : Cuts anything (list_all has_elements) sets_element (map set_seen)
unfolding sets_element set_element element start_tag end_tag plain
sets_cut =
    let content : DescribedSet → List ℕ = λ s.
    text_element (codes "setSpec") s.spec ++ text_element (codes "setName") s.name ++ flat_map (container (codes "setDescription")) s.descriptions in
    element_cut (codes "ListSets") (elements_cut (codes "set") content set_element (λ s. refl) set_cut) (λ rest. refl)
