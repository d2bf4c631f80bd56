-- Records, lists and tokens can be cut off what follows, and so can answers: the bytes of a document determine what is seen of it.
use Rattle.std.proofs.Common.{◌≡◌, ◌∙◌, ℕ, ℤ, pos, Bool, true, false, not, ◌&&◌, eqb, cond, suc, zero, List, [], ◌∷◌, ◌++◌, get_or, map, codes, Option, None, Some, refl, ap, arith}
use Rattle.std.specs.Fmt.{decimal}
use Rattle.std.specs.List.{flat_map, list_all}
use Rattle.std.proofs.lemmas.Bool.{and_parts, eqb-true}
use Rattle.oai_names.proofs.Cuts.{Cuts, Next, all-map, any, anything, begins, behind, both, by_kind, closed, constant, each, flat_map-map, map-map, of_part, pair, seen_as, text_before, where_good, where_next, where_same, without, all_any}
use Rattle.oai_names.proofs.EscapeCuts.{text_cut}
use Rattle.oai_time.specs.TimeTexts.{datestamp_text, second_text}
use Rattle.oai_time.specs.declared.granularity.Granularity.TheVariants.{Day}
use Rattle.oai_item.specs.Item.{ItemState, fields_in}
use Rattle.oai_item.specs.declared.formats.Format.{Format}
use Rattle.oai_xml.specs.Documents.{is_canonical}
use Rattle.oai_xml.specs.Trees.{Tree}
use Rattle.oai_answers.specs.Answers.{Continuation, DescribedSet, Description, Dissemination, Document, Page, VerbAnswer, completes, fails, gives_record, identifies, lists_formats, lists_headers, lists_records, lists_sets, remains, whole}
use Rattle.oai_answers.specs.Documents.{answer_element, behind_header, document, error_element, extent_attributes, formats_element, identify_element, sets_element, get_record_element, head, header_element, header_start, identifiers_element, record_content, record_element, records_element, token_element}
use Rattle.oai_answers.specs.Markup.{attribute_start, element, end_tag, plain, spelled_attribute, start_tag, text_element}
use Rattle.oai_answers.specs.Seen.{about_seen, answer_seen, document_seen, empty_token, has_elements, header_seen, identity_seen, metadata_seen, no_token, offer_seen, record_seen, seen_error, seen_formats, seen_headers, seen_identity, seen_record, seen_records, seen_sets, seen_token, set_seen, token_seen}
use Rattle.oai_answers.specs.declared.errors.ErrorCode.{ErrorCode}
use Rattle.oai_answers.specs.declared.errors.ErrorCode.TheVariants.{BadVerb}
use Rattle.oai_item.specs.declared.deleted_record.DeletedRecord.TheVariants.{No}
use Rattle.oai_answers.specs.declared.tokens.Extent.{Extent}
use Rattle.oai_answers.proofs.PartCuts.{error_cut, formats_cut, identify_cut, is_described, request_cut, second_cut, sets_cut}
use Rattle.oai_answers.proofs.Printed.{decimal_lacks, quote_is, second_lacks}
use Rattle.oai_answers.proofs.RecordCuts.{Content, Dated, content_cut, content_seen, freely, header_cut, is_plain_content}
use Rattle.oai_answers.proofs.Spelled.{attribute_cut, element_cut, elements_cut, tag_at, tag_closes}

-- ---- records

-- an end tag follows
abbrev pub closes : Next
closes = begins (codes "</")

-- the format and the fields of an item's record in it
abbrev content_of : Dissemination → Content
content_of d = pair d.format (fields_in d.format.prefix d.item.formats)

abbrev pub is_plain_record : Dissemination → Bool
is_plain_record d = is_plain_content (content_of d)

-- where an end tag follows, the second byte is its slash
slash_at : (rest : List ℕ) → closes rest ≡ true → eqb (get_or rest 1 0) 109 ≡ false
slash_at [] h = cc
slash_at (x ∷ []) h = absurd (no_second x h)
  where
    no_second : (x : ℕ) → closes (x ∷ []) ≡ true → ⊥
    no_second x h = by_test (eqb x 60) h
      where
        by_test : (b : Bool) → (b && false) ≡ true → ⊥
        by_test true h = cc
        by_test false h = cc
slash_at (x ∷ y ∷ rest) h =
    let second = and_parts (eqb x 60) (eqb y 47 && true) h in
    apart y (eqb-true y 47 (and_parts (eqb y 47) true second.1).0)
  where
    apart : (y : ℕ) → y ≡ 47 → eqb y 109 ≡ false
    apart y is = ap (λ n. eqb n 109) is

-- an end tag begins no record, no header and no container
no_start : (x : ℕ) (word rest : List ℕ) → eqb 47 x ≡ false → closes rest ≡ true → without (60 ∷ x ∷ word) rest ≡ true
no_start x word [] apart h = cc
no_start x word (a ∷ []) apart h = absurd (no_second (eqb a 60) h)
  where
    no_second : (b : Bool) → (b && false) ≡ true → ⊥
    no_second true h = cc
    no_second false h = cc
no_start x word (a ∷ b ∷ rest) apart h =
    let second = and_parts (eqb a 60) (eqb b 47 && true) h in
    by_tests (eqb a 60) (ap (λ n. eqb n x) (eqb-true b 47 (and_parts (eqb b 47) true second.1).0) ∙ apart)
  where
    by_tests : (first : Bool) → eqb b x ≡ false → not (first && (eqb b x && begins word rest)) ≡ true
    by_tests true is = ap (λ t. not (t && begins word rest)) is
    by_tests false is = refl

as_live : Bool → ℕ
as_live b = cond b 1 0

part_told : (d : Dissemination) (rest : List ℕ) → closes rest ≡ true → as_live (eqb (get_or (behind_header d.format d.item ++ rest) 1 0) 109) ≡ as_live d.item.live
unfolding behind_header record_content element start_tag plain
part_told d rest ends = by_test d.item.live
  where
    by_test : (b : Bool) → as_live (eqb (get_or (cond b (record_content d.format (fields_in d.format.prefix d.item.formats)) [] ++ rest) 1 0) 109) ≡ as_live b
    by_test true = refl
    by_test false = ap as_live (slash_at rest ends)

-- what is seen behind a header
abbrev Behind : Type 0
Behind = Option Tree × List Tree

abbrev some_seen : Tree × List Tree → Behind
some_seen seen = pair (Some seen.0) seen.1

abbrev live_seen : Dissemination → Behind
live_seen d = some_seen (content_seen (content_of d))

live_cut : Cuts closes is_plain_record (λ (d : Dissemination). record_content d.format (fields_in d.format.prefix d.item.formats)) live_seen
unfolding start_tag plain
live_cut = seen_as some_seen (where_next (λ rest ends. no_start 97 (codes "bout>") rest refl ends) (of_part content_of content_cut))

abbrev nothing_seen : Behind
nothing_seen = pair None []

dead_cut : Cuts closes is_plain_record (λ (d : Dissemination). []) (λ d. nothing_seen)
dead_cut = seen_as (λ _. nothing_seen) (constant [])

abbrev behind_seen : Dissemination → Behind
behind_seen d = pair (metadata_seen d.format d.item) (about_seen d.format d.item)

part_of_kind : (k : ℕ) → Cuts closes (λ d. is_plain_record d && eqb (as_live d.item.live) k) (λ (d : Dissemination). behind_header d.format d.item) behind_seen
unfolding behind_header as_live
part_of_kind zero = where_same dead_cut (λ d h. let parts = and_parts (is_plain_record d) (eqb (as_live d.item.live) 0) h in by_test d d.item.live parts.0 parts.1)
  where
    by_test : (d : Dissemination) (b : Bool) → is_plain_record d ≡ true → eqb (as_live b) 0 ≡ true
        → (is_plain_record d ≡ true) × (cond b (record_content d.format (fields_in d.format.prefix d.item.formats)) [] ≡ [])
        × (nothing_seen ≡ pair (cond b (live_seen d).0 None) (cond b (live_seen d).1 []))
    by_test d true good kind = cc
    by_test d false good kind = (good, refl, refl)
part_of_kind (suc k) = where_same live_cut (λ d h. let parts = and_parts (is_plain_record d) (eqb (as_live d.item.live) (suc k)) h in by_test d d.item.live parts.0 parts.1)
  where
    by_test : (d : Dissemination) (b : Bool) → is_plain_record d ≡ true → eqb (as_live b) (suc k) ≡ true
        → (is_plain_record d ≡ true)
        × (cond b (record_content d.format (fields_in d.format.prefix d.item.formats)) [] ≡ record_content d.format (fields_in d.format.prefix d.item.formats))
        × (live_seen d ≡ pair (cond b (live_seen d).0 None) (cond b (live_seen d).1 []))
    by_test d true good kind = (good, refl, refl)
    by_test d false good kind = absurd (omega (arith, eqb-true 0 (suc k) kind))

part_cut : Cuts closes is_plain_record (λ (d : Dissemination). behind_header d.format d.item) behind_seen
part_cut = by_kind (λ d. as_live d.item.live) (λ bytes. as_live (eqb (get_or bytes 1 0) 109)) (λ d rest _ ends. part_told d rest ends) part_of_kind

pub record_cut : Cuts anything is_plain_record (λ (d : Dissemination). record_element d.granularity d.format d.item) (λ d. record_seen d.granularity d.format d.item)
unfolding record_element
record_cut =
    let header = freely (of_part (λ (d : Dissemination). pair d.granularity d.item) header_cut) in
    seen_as (λ s. record { header = s.0; metadata = s.1.0; about = s.1.1 }) (element_cut (codes "record") (both header part_cut (λ d rest _ _. refl)) (tag_closes (codes "record")))

-- ---- tokens

extent_cut : Cuts anything any extent_attributes (λ (e : Extent). pair (decimal e.size) (decimal e.cursor))
unfolding extent_attributes
extent_cut =
    let size = attribute_cut (codes "completeListSize") (where_good (λ e _. decimal_lacks 34 quote_is e.size) (of_part (λ (e : Extent). decimal e.size) (text_before 34))) in
    let cursor = attribute_cut (codes "cursor") (where_good (λ e _. decimal_lacks 34 quote_is e.cursor) (of_part (λ (e : Extent). decimal e.cursor) (text_before 34))) in
    both size cursor (λ e rest _ _. refl)

-- the parts of a token that is there
abbrev Left : Type 0
Left = ℤ × Extent × List ℕ

left_cut : Cuts closes any (λ (l : Left). token_element (remains l.0 l.1 l.2)) (λ l. seen_token l.2 (second_text l.0) (decimal l.1.size) (decimal l.1.cursor))
unfolding token_element end_tag plain
left_cut =
    let expires = behind (codes "<resumptionToken") (attribute_cut (codes "expirationDate") (where_good (λ (l : Left) _. second_lacks 34 quote_is l.0) (of_part (λ (l : Left). second_text l.0) (text_before 34)))) in
    let extent = both expires (of_part (λ (l : Left). l.1) extent_cut) (λ l rest _ _. refl) in
    let start = closed {next = anything} (λ _. codes ">") extent (λ l rest _ _. refl) in
    let token = both start (of_part (λ (l : Left). l.2) text_cut) (λ l rest _ _. refl) in
    seen_as (λ s. seen_token s.1 s.0.0 s.0.1.0 s.0.1.1) (closed (λ _. end_tag (codes "resumptionToken")) token (λ l rest _ _. refl))

last_cut : Cuts closes any (λ (e : Extent). token_element (completes e)) (λ e. empty_token (decimal e.size) (decimal e.cursor))
unfolding token_element plain
last_cut =
    let start = closed {next = anything} (λ _. codes ">") (behind (codes "<resumptionToken") extent_cut) (λ e rest _ _. refl) in
    seen_as (λ s. empty_token s.0 s.1) (closed (λ _. end_tag (codes "resumptionToken")) start (λ e rest _ _. refl))

-- which token it is
abbrev token_kind : Continuation → ℕ
token_kind whole = 0
token_kind (remains expires extent token) = 1
token_kind (completes extent) = 2

abbrev tell_token : List ℕ → ℕ
tell_token bytes = cond (eqb (get_or bytes 1 0) 114) (cond (eqb (get_or bytes 17 0) 101) 1 2) 0

slash_then : (rest : List ℕ) → closes rest ≡ true → eqb (get_or rest 1 0) 114 ≡ false
slash_then [] h = cc
slash_then (x ∷ []) h = absurd (no_second (eqb x 60) h)
  where
    no_second : (b : Bool) → (b && false) ≡ true → ⊥
    no_second true h = cc
    no_second false h = cc
slash_then (x ∷ y ∷ rest) h =
    let second = and_parts (eqb x 60) (eqb y 47 && true) h in
    apart y (eqb-true y 47 (and_parts (eqb y 47) true second.1).0)
  where
    apart : (y : ℕ) → y ≡ 47 → eqb y 114 ≡ false
    apart y is = ap (λ n. eqb n 114) is

token_told : (c : Continuation) (rest : List ℕ) → closes rest ≡ true → tell_token (token_element c ++ rest) ≡ token_kind c
unfolding token_element extent_attributes spelled_attribute attribute_start plain
token_told whole rest ends = ap (λ b. cond b (cond (eqb (get_or rest 17 0) 101) 1 2) 0) (slash_then rest ends)
token_told (remains expires extent token) rest ends = refl
token_told (completes extent) rest ends = refl

abbrev left_in : Continuation → Left
left_in (remains expires extent token) = (expires, extent, token)
left_in (completes extent) = (pos 0, extent, [])
left_in whole = (pos 0, record { size = 0; cursor = 0 }, [])

token_of_kind : (k : ℕ) → Cuts closes (λ c. any c && eqb (token_kind c) k) token_element token_seen
unfolding token_element
token_of_kind zero = where_same (seen_as (λ _. no_token) (constant [])) by_kind_0
  where
    by_kind_0 : (c : Continuation) → eqb (token_kind c) 0 ≡ true → (any c ≡ true) × (token_element c ≡ []) × (no_token ≡ token_seen c)
    by_kind_0 whole h = (refl, refl, refl)
    by_kind_0 (remains expires extent token) h = cc
    by_kind_0 (completes extent) h = cc
token_of_kind (suc zero) = where_same (of_part left_in left_cut) by_kind_1
  where
    by_kind_1 : (c : Continuation) → eqb (token_kind c) 1 ≡ true → (any (left_in c) ≡ true) × (token_element c ≡ token_element (remains (left_in c).0 (left_in c).1 (left_in c).2))
        × (seen_token (left_in c).2 (second_text (left_in c).0) (decimal (left_in c).1.size) (decimal (left_in c).1.cursor) ≡ token_seen c)
    by_kind_1 whole h = cc
    by_kind_1 (remains expires extent token) h = (refl, refl, refl)
    by_kind_1 (completes extent) h = cc
token_of_kind (suc (suc k)) = where_same (of_part (λ c. (left_in c).1) last_cut) by_kind_2
  where
    by_kind_2 : (c : Continuation) → eqb (token_kind c) (suc (suc k)) ≡ true → (any (left_in c).1 ≡ true) × (token_element c ≡ token_element (completes (left_in c).1))
        × (empty_token (decimal (left_in c).1.size) (decimal (left_in c).1.cursor) ≡ token_seen c)
    by_kind_2 whole h = absurd (omega (arith, eqb-true 0 (suc (suc k)) h))
    by_kind_2 (remains expires extent token) h = absurd (omega (arith, eqb-true 1 (suc (suc k)) h))
    by_kind_2 (completes extent) h = (refl, refl, refl)

pub token_cut : Cuts closes any token_element token_seen
token_cut = by_kind token_kind tell_token (λ c rest _ ends. token_told c rest ends) token_of_kind

-- ---- lists

header_follows : (c : Continuation) (rest : List ℕ) → closes rest ≡ true → without (codes "<header") (token_element c ++ rest) ≡ true
unfolding token_element plain
header_follows whole rest ends = no_start 104 (codes "eader") rest refl ends
header_follows (remains expires extent token) rest ends = refl
header_follows (completes extent) rest ends = refl

record_follows : (c : Continuation) (rest : List ℕ) → closes rest ≡ true → without (start_tag (codes "record")) (token_element c ++ rest) ≡ true
unfolding token_element start_tag plain
record_follows whole rest ends = no_start 114 (codes "ecord>") rest refl ends
record_follows (remains expires extent token) rest ends = refl
record_follows (completes extent) rest ends = refl

header_goes_on : (p : Dated) (rest : List ℕ) → without (codes "<header") (header_element p.0 p.1 ++ rest) ≡ false
unfolding header_element plain
header_goes_on p rest = by_test p.1.live
  where
    by_test : (live : Bool)
        → without (codes "<header") (header_start live ++ text_element (codes "identifier") p.1.identifier ++ element (codes "datestamp") (datestamp_text p.0 p.1.stamp) ++ flat_map (text_element (codes "setSpec")) p.1.sets ++ end_tag (codes "header") ++ rest) ≡ false
    by_test true = refl
    by_test false = refl

headers_cut : Cuts (without (codes "<header")) any (λ (page : Page). flat_map (header_element page.granularity) page.items) (λ page. map (header_seen page.granularity) page.items)
headers_cut =
    let all : Cuts (without (codes "<header")) (list_all any) (flat_map (λ (p : Dated). header_element p.0 p.1)) (map (λ (p : Dated). header_seen p.0 p.1)) =
    each header_cut (record { goes_on = λ p rest _. header_goes_on p rest; near_more = λ p rest _. refl; near_end = λ rest _. refl })
    in
    where_same (of_part (λ (page : Page). map (pair page.granularity) page.items) all)
    (λ page _. (
      all_any (map (pair page.granularity) page.items),
      flat_map-map (pair page.granularity) (λ (p : Dated). header_element p.0 p.1) page.items,
      map-map (pair page.granularity) (λ (p : Dated). header_seen p.0 p.1) page.items,
    ))

-- the records of a page in a format
abbrev Told : Type 0
Told = Format × Page

abbrev told_record : Told → ItemState → Dissemination
told_record t item = record { item = item; granularity = t.1.granularity; format = t.0 }

abbrev pub are_plain_records : Told → Bool
are_plain_records t = list_all (λ (item : ItemState). is_plain_record (told_record t item)) t.1.items

records_cut : Cuts (without (start_tag (codes "record"))) are_plain_records (λ (t : Told). flat_map (record_element t.1.granularity t.0) t.1.items)
    (λ t. map (record_seen t.1.granularity t.0) t.1.items)
unfolding record_element
records_cut =
    let write : Dissemination → List ℕ = λ d. record_element d.granularity d.format d.item in
    let content : Dissemination → List ℕ = λ d. header_element d.granularity d.item ++ behind_header d.format d.item in
    let all = elements_cut (codes "record") content write (λ d. refl) record_cut in
    where_same (of_part (λ (t : Told). map (told_record t) t.1.items) all)
    (λ t good. (
      all-map (told_record t) is_plain_record t.1.items ∙ good,
      flat_map-map (told_record t) write t.1.items,
      map-map (told_record t) (λ (d : Dissemination). record_seen d.granularity d.format d.item) t.1.items,
    ))

identifiers_cut : Cuts anything any identifiers_element (λ (page : Page). pair (map (header_seen page.granularity) page.items) (token_seen page.continuation))
unfolding identifiers_element
identifiers_cut =
    element_cut (codes "ListIdentifiers") (both headers_cut (of_part (λ (page : Page). page.continuation) token_cut) (λ page rest _ ends. header_follows page.continuation rest ends)) (tag_closes (codes "ListIdentifiers"))

told_records_cut : Cuts anything are_plain_records (λ (t : Told). records_element t.0 t.1) (λ t. pair (map (record_seen t.1.granularity t.0) t.1.items) (token_seen t.1.continuation))
unfolding records_element
told_records_cut =
    element_cut (codes "ListRecords") (both records_cut (freely (of_part (λ (t : Told). t.1.continuation) token_cut)) (λ t rest _ ends. record_follows t.1.continuation rest ends)) (tag_closes (codes "ListRecords"))

-- ---- answers

-- an answer beside the base URL
abbrev pub Based : Type 0
Based = List ℕ × VerbAnswer

-- which answer it is
abbrev answer_kind : VerbAnswer → ℕ
answer_kind (fails code) = 0
answer_kind (identifies d) = 1
answer_kind (lists_formats formats) = 2
answer_kind (lists_sets sets) = 3
answer_kind (gives_record d) = 4
answer_kind (lists_headers page) = 5
answer_kind (lists_records format page) = 6

-- what is asked of the records of an answer, and of what describes a repository
abbrev pub is_plain_answer : VerbAnswer → Bool
is_plain_answer (fails code) = true
is_plain_answer (identifies d) = list_all is_canonical d.descriptions
is_plain_answer (lists_formats formats) = true
is_plain_answer (lists_sets sets) = list_all has_elements sets
is_plain_answer (gives_record d) = is_plain_record d
is_plain_answer (lists_headers page) = true
is_plain_answer (lists_records format page) = are_plain_records (pair format page)

-- told by the second byte, and among lists by the sixth
abbrev tell_answer : List ℕ → ℕ
tell_answer bytes =
    cond (eqb (get_or bytes 1 0) 101) 0
    (cond (eqb (get_or bytes 1 0) 73) 1
    (cond (eqb (get_or bytes 1 0) 71) 4
    (cond (eqb (get_or bytes 5 0) 77) 2
    (cond (eqb (get_or bytes 5 0) 83) 3
    (cond (eqb (get_or bytes 5 0) 73) 5 6)))))

answer_told : (p : Based) (rest : List ℕ) → tell_answer (answer_element p.0 p.1 ++ rest) ≡ answer_kind p.1
unfolding error_element identify_element formats_element sets_element get_record_element identifiers_element records_element element start_tag plain
answer_told (base, fails code) rest = refl
answer_told (base, identifies d) rest = refl
answer_told (base, lists_formats formats) rest = refl
answer_told (base, lists_sets sets) rest = refl
answer_told (base, gives_record d) rest = refl
answer_told (base, lists_headers page) rest = refl
answer_told (base, lists_records format page) rest = refl

-- the parts of an answer of a kind; of another kind, anything
abbrev no_format : Format
no_format = record { prefix = []; schema = []; namespace = []; root = []; fields = [] }

abbrev no_item : ItemState
no_item = record { identifier = []; stamp = pos 0; live = false; sets = []; formats = [] }

abbrev no_page : Page
no_page = record { items = []; granularity = Day; continuation = whole }

abbrev no_description : Description
no_description = record { name = []; addresses = []; earliest = pos 0; deleted = No; granularity = Day; descriptions = [] }

abbrev code_in : Based → ErrorCode
code_in (base, fails code) = code
code_in (base, identifies d) = BadVerb
code_in (base, lists_formats formats) = BadVerb
code_in (base, lists_sets sets) = BadVerb
code_in (base, gives_record d) = BadVerb
code_in (base, lists_headers page) = BadVerb
code_in (base, lists_records format page) = BadVerb

abbrev identity_in : Based → List ℕ × Description
identity_in (base, fails code) = pair base no_description
identity_in (base, identifies d) = pair base d
identity_in (base, lists_formats formats) = pair base no_description
identity_in (base, lists_sets sets) = pair base no_description
identity_in (base, gives_record d) = pair base no_description
identity_in (base, lists_headers page) = pair base no_description
identity_in (base, lists_records format page) = pair base no_description

abbrev formats_in : Based → List Format
formats_in (base, fails code) = []
formats_in (base, identifies d) = []
formats_in (base, lists_formats formats) = formats
formats_in (base, lists_sets sets) = []
formats_in (base, gives_record d) = []
formats_in (base, lists_headers page) = []
formats_in (base, lists_records format page) = []

abbrev sets_in : Based → List DescribedSet
sets_in (base, fails code) = []
sets_in (base, identifies d) = []
sets_in (base, lists_formats formats) = []
sets_in (base, lists_sets sets) = sets
sets_in (base, gives_record d) = []
sets_in (base, lists_headers page) = []
sets_in (base, lists_records format page) = []

abbrev dissemination_in : Based → Dissemination
dissemination_in (base, fails code) = record { item = no_item; granularity = Day; format = no_format }
dissemination_in (base, identifies d) = record { item = no_item; granularity = Day; format = no_format }
dissemination_in (base, lists_formats formats) = record { item = no_item; granularity = Day; format = no_format }
dissemination_in (base, lists_sets sets) = record { item = no_item; granularity = Day; format = no_format }
dissemination_in (base, gives_record d) = d
dissemination_in (base, lists_headers page) = record { item = no_item; granularity = Day; format = no_format }
dissemination_in (base, lists_records format page) = record { item = no_item; granularity = Day; format = no_format }

abbrev page_in : Based → Page
page_in (base, fails code) = no_page
page_in (base, identifies d) = no_page
page_in (base, lists_formats formats) = no_page
page_in (base, lists_sets sets) = no_page
page_in (base, gives_record d) = no_page
page_in (base, lists_headers page) = page
page_in (base, lists_records format page) = no_page

abbrev told_in : Based → Told
told_in (base, fails code) = pair no_format no_page
told_in (base, identifies d) = pair no_format no_page
told_in (base, lists_formats formats) = pair no_format no_page
told_in (base, lists_sets sets) = pair no_format no_page
told_in (base, gives_record d) = pair no_format no_page
told_in (base, lists_headers page) = pair no_format no_page
told_in (base, lists_records format page) = pair format page

is_kind_0 : (p : Based) → is_plain_answer p.1 ≡ true → eqb (answer_kind p.1) 0 ≡ true
    → (any (code_in p) ≡ true) × (answer_element p.0 p.1 ≡ error_element (code_in p))
    × (seen_error (code_in p) ≡ answer_seen p.0 p.1)
is_kind_0 (base, fails code) good h = (refl, refl, refl)
is_kind_0 (base, identifies d) good h = cc
is_kind_0 (base, lists_formats formats) good h = cc
is_kind_0 (base, lists_sets sets) good h = cc
is_kind_0 (base, gives_record d) good h = cc
is_kind_0 (base, lists_headers page) good h = cc
is_kind_0 (base, lists_records format page) good h = cc

is_kind_1 : (p : Based) → is_plain_answer p.1 ≡ true → eqb (answer_kind p.1) 1 ≡ true
    → (is_described (identity_in p) ≡ true) × (answer_element p.0 p.1 ≡ identify_element (identity_in p).0 (identity_in p).1)
    × (seen_identity (identity_seen (identity_in p).0 (identity_in p).1) ≡ answer_seen p.0 p.1)
is_kind_1 (base, fails code) good h = cc
is_kind_1 (base, identifies d) good h = (good, refl, refl)
is_kind_1 (base, lists_formats formats) good h = cc
is_kind_1 (base, lists_sets sets) good h = cc
is_kind_1 (base, gives_record d) good h = cc
is_kind_1 (base, lists_headers page) good h = cc
is_kind_1 (base, lists_records format page) good h = cc

is_kind_2 : (p : Based) → is_plain_answer p.1 ≡ true → eqb (answer_kind p.1) 2 ≡ true
    → (any (formats_in p) ≡ true) × (answer_element p.0 p.1 ≡ formats_element (formats_in p))
    × (seen_formats (map offer_seen (formats_in p)) ≡ answer_seen p.0 p.1)
is_kind_2 (base, fails code) good h = cc
is_kind_2 (base, identifies d) good h = cc
is_kind_2 (base, lists_formats formats) good h = (refl, refl, refl)
is_kind_2 (base, lists_sets sets) good h = cc
is_kind_2 (base, gives_record d) good h = cc
is_kind_2 (base, lists_headers page) good h = cc
is_kind_2 (base, lists_records format page) good h = cc

is_kind_3 : (p : Based) → is_plain_answer p.1 ≡ true → eqb (answer_kind p.1) 3 ≡ true
    → (list_all has_elements (sets_in p) ≡ true) × (answer_element p.0 p.1 ≡ sets_element (sets_in p))
    × (seen_sets (map set_seen (sets_in p)) ≡ answer_seen p.0 p.1)
is_kind_3 (base, fails code) good h = cc
is_kind_3 (base, identifies d) good h = cc
is_kind_3 (base, lists_formats formats) good h = cc
is_kind_3 (base, lists_sets sets) good h = (good, refl, refl)
is_kind_3 (base, gives_record d) good h = cc
is_kind_3 (base, lists_headers page) good h = cc
is_kind_3 (base, lists_records format page) good h = cc

is_kind_4 : (p : Based) → is_plain_answer p.1 ≡ true → eqb (answer_kind p.1) 4 ≡ true
    → (is_plain_record (dissemination_in p) ≡ true) × (answer_element p.0 p.1 ≡ get_record_element (dissemination_in p))
    × (seen_record (record_seen (dissemination_in p).granularity (dissemination_in p).format (dissemination_in p).item) ≡ answer_seen p.0 p.1)
is_kind_4 (base, fails code) good h = cc
is_kind_4 (base, identifies d) good h = cc
is_kind_4 (base, lists_formats formats) good h = cc
is_kind_4 (base, lists_sets sets) good h = cc
is_kind_4 (base, gives_record d) good h = (good, refl, refl)
is_kind_4 (base, lists_headers page) good h = cc
is_kind_4 (base, lists_records format page) good h = cc

is_kind_5 : (p : Based) → is_plain_answer p.1 ≡ true → eqb (answer_kind p.1) 5 ≡ true
    → (any (page_in p) ≡ true) × (answer_element p.0 p.1 ≡ identifiers_element (page_in p))
    × (seen_headers (map (header_seen (page_in p).granularity) (page_in p).items) (token_seen (page_in p).continuation) ≡ answer_seen p.0 p.1)
is_kind_5 (base, fails code) good h = cc
is_kind_5 (base, identifies d) good h = cc
is_kind_5 (base, lists_formats formats) good h = cc
is_kind_5 (base, lists_sets sets) good h = cc
is_kind_5 (base, gives_record d) good h = cc
is_kind_5 (base, lists_headers page) good h = (refl, refl, refl)
is_kind_5 (base, lists_records format page) good h = cc

is_kind_6 : (k : ℕ) (p : Based) → is_plain_answer p.1 ≡ true → eqb (answer_kind p.1) (suc (suc (suc (suc (suc (suc k)))))) ≡ true
    → (are_plain_records (told_in p) ≡ true) × (answer_element p.0 p.1 ≡ records_element (told_in p).0 (told_in p).1)
    × (seen_records (map (record_seen (told_in p).1.granularity (told_in p).0) (told_in p).1.items) (token_seen (told_in p).1.continuation) ≡ answer_seen p.0 p.1)
is_kind_6 k (base, fails code) good h = absurd (omega (arith, eqb-true 0 (suc (suc (suc (suc (suc (suc k)))))) h))
is_kind_6 k (base, identifies d) good h = absurd (omega (arith, eqb-true 1 (suc (suc (suc (suc (suc (suc k)))))) h))
is_kind_6 k (base, lists_formats formats) good h = absurd (omega (arith, eqb-true 2 (suc (suc (suc (suc (suc (suc k)))))) h))
is_kind_6 k (base, lists_sets sets) good h = absurd (omega (arith, eqb-true 3 (suc (suc (suc (suc (suc (suc k)))))) h))
is_kind_6 k (base, gives_record d) good h = absurd (omega (arith, eqb-true 4 (suc (suc (suc (suc (suc (suc k)))))) h))
is_kind_6 k (base, lists_headers page) good h = absurd (omega (arith, eqb-true 5 (suc (suc (suc (suc (suc (suc k)))))) h))
is_kind_6 k (base, lists_records format page) good h = (good, refl, refl)

get_record_cut : Cuts anything is_plain_record get_record_element (λ (d : Dissemination). record_seen d.granularity d.format d.item)
unfolding get_record_element
get_record_cut = element_cut (codes "GetRecord") record_cut (λ rest. refl)

of_kind : (p : Based) (k : ℕ) → (is_plain_answer p.1 && eqb (answer_kind p.1) k) ≡ true → (is_plain_answer p.1 ≡ true) × (eqb (answer_kind p.1) k ≡ true)
of_kind p k h = and_parts (is_plain_answer p.1) (eqb (answer_kind p.1) k) h

answer_of_kind : (k : ℕ) → Cuts anything (λ (p : Based). is_plain_answer p.1 && eqb (answer_kind p.1) k) (λ p. answer_element p.0 p.1) (λ p. answer_seen p.0 p.1)
answer_of_kind zero = where_same (of_part code_in (seen_as seen_error error_cut)) (λ p h. let parts = of_kind p 0 h in is_kind_0 p parts.0 parts.1)
answer_of_kind (suc zero) = where_same (of_part identity_in (seen_as seen_identity identify_cut)) (λ p h. let parts = of_kind p 1 h in is_kind_1 p parts.0 parts.1)
answer_of_kind (suc (suc zero)) = where_same (of_part formats_in (seen_as seen_formats formats_cut)) (λ p h. let parts = of_kind p 2 h in is_kind_2 p parts.0 parts.1)
answer_of_kind (suc (suc (suc zero))) = where_same (of_part sets_in (seen_as seen_sets sets_cut)) (λ p h. let parts = of_kind p 3 h in is_kind_3 p parts.0 parts.1)
answer_of_kind (suc (suc (suc (suc zero)))) = where_same (of_part dissemination_in (seen_as seen_record get_record_cut)) (λ p h. let parts = of_kind p 4 h in is_kind_4 p parts.0 parts.1)
answer_of_kind (suc (suc (suc (suc (suc zero))))) = where_same (of_part page_in (seen_as (λ s. seen_headers s.0 s.1) identifiers_cut)) (λ p h. let parts = of_kind p 5 h in is_kind_5 p parts.0 parts.1)
answer_of_kind (suc (suc (suc (suc (suc (suc k)))))) = where_same (of_part told_in (seen_as (λ s. seen_records s.0 s.1) told_records_cut)) (λ p h. let parts = of_kind p (suc (suc (suc (suc (suc (suc k)))))) h in is_kind_6 k p parts.0 parts.1)

answer_cut : Cuts anything (λ (p : Based). is_plain_answer p.1) (λ p. answer_element p.0 p.1) (λ p. answer_seen p.0 p.1)
answer_cut = by_kind (λ (p : Based). answer_kind p.1) tell_answer (λ p rest _ _. answer_told p rest) answer_of_kind

-- ---- documents

pub document_cut : Cuts anything (λ (d : Document). is_plain_answer d.answer) document document_seen
unfolding document plain
document_cut =
    let date = behind head (element_cut (codes "responseDate") (of_part (λ (d : Document). d.date) second_cut) (tag_at (codes "responseDate"))) in
    let request = both date request_cut (λ d rest _ _. refl) in
    let answer = both (freely request) (of_part (λ (d : Document). pair d.base d.answer) answer_cut) (λ d rest _ _. refl) in
    seen_as (λ s. record { date = s.0.0; base = s.0.1.1; arguments = s.0.1.0; answer = s.1 }) (closed (λ _. codes "</OAI-PMH>\n") answer (λ d rest _ _. refl))
