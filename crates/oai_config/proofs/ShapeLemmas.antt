-- What a value tells is what it is written as: the law of the shape.
use Rattle.std.proofs.Common.{◌≡◌, ◌+◌, inl, inr, Result, Ok, Err, length, ℕ, Bool, eqb, true, false, cond, Option, Some, None, List, [], ◌∷◌, codes, refl, sym, ap, subst, is_some, map, ◌∙◌}
use Rattle.std.proofs.lemmas.Bool.{and_from}
use Rattle.std.proofs.lemmas.Bool.Decides.{Decides-eqb}
use Rattle.serde_json.specs.Data.{Data, array, boolean, null, number, object, string}
use Rattle.serde_json.specs.Find.{as_str, get}
use Rattle.std.specs.List.{AllZip}
use Rattle.std.specs.Result.{result_ok}
use Rattle.oai_xml.specs.Documents.{canonical, canonical_in}
use Rattle.oai_item.specs.ShortTexts.{is_short_text}
use Rattle.oai_item.specs.declared.forms.Forms.{Forms}
use Rattle.oai_item.specs.declared.forms.Forms.TheVariants.{Fields, Elements}
use Rattle.oai_json.specs.Json.{array_of, elements_of, members_in, has_members, has_members_and, names_there, number_at, size, text_at, texts_at}
use Rattle.oai_settings.specs.declared.settings.FormatSettings.{FormatSettings}
use Rattle.oai_settings.specs.declared.settings.Settings.{Settings}
use Rattle.oai_config.specs.declared.host_settings.HostSettings.{HostSettings}
use Rattle.oai_names.specs.Optional.{◌>>=◌, each_of, tested}
use Rattle.oai_config.specs.Shapes.{canonical_of, set_description_of, set_descriptions_at, set_descriptions_of, format_members, element_members, format_in, fields_at, fields_told, deleted_at, granularity_at, canonical_at, descriptions_at, formats_at, further_members, is_repository, repository_members, settings_of, base_at, repositories_at, host_members, told_of, format_from, settings_from, told_from}
use Rattle.oai_config.specs.Written.{HasText, HasTexts, HasNumber, HasList, HasFields, HasElements, HasDescriptions, IsElementList, HasSetDescriptions, IsFormat, IsRepository, IsHost, ConfigShapeLaw}
use Rattle.oai_json.proofs.MemberLemmas.{of_size, of_size_and, of_another_size}
use Rattle.oai_json.proofs.MemberLemmas.{number_again, number_takes, text_again, text_takes, texts_are, texts_take}
use Rattle.oai_json.proofs.ReaderLemmas.{list, texts}
use Rattle.oai_xml.specs.Named.{NamedList}
use Rattle.oai_json.proofs.ReadingLemmas.{Some-injective, bind-Some}
use Rattle.oai_config.proofs.MemberLemmas.{IsUndone, list_again, list_takes}
use Rattle.oai_config.proofs.WordLemmas.{deleted_again, deleted_takes, granularity_again, granularity_takes}
use Rattle.oai_config.proofs.SettingsLemmas.{settings_of-Some}

tested_is : {A : Type 0} (b : Bool) (x y : A) → cond b (Some x) None ≡ Some y → (b ≡ true) × (x ≡ y)
tested_is true x y is = (refl, Some-injective x y is)
tested_is false x y is = absurd cc

-- what is read of a value that passed a test
passed : {A : Type 0} (passes : Data → Bool) (read : Data → Option A) (d : Data) (x : A) → (tested passes d >>= read) ≡ Some x → (passes d ≡ true) × (read d ≡ Some x)
passed passes read d x is =
    let p = bind-Some (tested passes d) read x is in
    let q = tested_is (passes d) d p.0 p.1 in
    (q.0, ap read q.1 ∙ p.2)

is_there : (o : Option Data) (e : Data) → o ≡ Some e → is_some o ≡ true
is_there o e is = ap (λ o. is_some o) is

number_there : (name : List ℕ) (n : Option ℕ) (d : Data) → HasNumber name n d → is_some (get name d) ≡ true
number_there name n d is = is_there (get name d) (number is.0) is.1

same_size : (d : Data) (n : ℕ) → size d ≡ n → eqb (size d) n ≡ true
same_size d n is = (Decides-eqb (size d) n).1 is

-- ---- a format

-- what is read of a format beside how many members it has
record HasParts (told : Option (List (List ℕ))) (f : FormatSettings) (d : Data) : Type 0 where
  pub prefix : HasText (codes "prefix") f.prefix d
  pub schema : HasText (codes "schema") f.schema d
  pub namespace : HasText (codes "namespace") f.namespace d
  pub root : HasText (codes "root") f.root d
  pub fields : told ≡ Some f.fields

format_parts : (d : Data) (told : Option (List (List ℕ))) (f : FormatSettings) → format_from d told ≡ Some f → HasParts told f d
format_parts d told f is =
    let prefix = bind-Some (text_at (codes "prefix") d) _ f is in
    let schema = bind-Some (text_at (codes "schema") d) _ f prefix.2 in
    let namespace = bind-Some (text_at (codes "namespace") d) _ f schema.2 in
    let root = bind-Some (text_at (codes "root") d) _ f namespace.2 in
    let fields = bind-Some told _ f root.2 in
    subst (λ (f : FormatSettings). HasParts told f d) (Some-injective (record { prefix = prefix.0; schema = schema.0; namespace = namespace.0; root = root.0; fields = fields.0 }) f fields.2) (record {
      prefix = text_takes _ d prefix.0 prefix.1;
      schema = text_takes _ d schema.0 schema.1;
      namespace = text_takes _ d namespace.0 namespace.1;
      root = text_takes _ d root.0 root.1;
      fields = fields.1;
    })

-- fields that are told are told as they are
same_told : (forms : Forms) (texts fields : List (List ℕ)) → fields_told forms texts ≡ Some fields → Some texts ≡ Some fields
same_told Fields texts fields is = is
same_told Elements [] fields is = absurd cc
same_told Elements (text ∷ texts) fields is = is

-- and are not none, where records may be elements
none_told : (texts : List (List ℕ)) → fields_told Elements texts ≡ Some [] → ⊥
none_told [] is = absurd cc
none_told (text ∷ texts) is = absurd cc

fields_take : (forms : Forms) (d : Data) (fields : List (List ℕ)) → size d ≡ 5 → fields_at forms d ≡ Some fields → HasFields forms fields d
unfolding fields_at
fields_take Fields d fields five is =
    let p = bind-Some (texts_at (codes "fields") d) (fields_told Fields) fields is in
    (texts_take (codes "fields") d fields (p.1 ∙ same_told Fields p.0 fields p.2), five)
fields_take Elements d [] five is =
    let p = bind-Some (texts_at (codes "fields") d) (fields_told Elements) [] is in
    absurd (none_told p.0 p.2)
fields_take Elements d (field ∷ fields) five is =
    let p = bind-Some (texts_at (codes "fields") d) (fields_told Elements) (field ∷ fields) is in
    (texts_take (codes "fields") d (field ∷ fields) (p.1 ∙ same_told Elements p.0 (field ∷ fields) p.2), five)

-- of a format with the member
listed_takes : (forms : Forms) (d : Data) (f : FormatSettings) → (tested (has_members format_members) d >>= λ d. format_from d (fields_at forms d)) ≡ Some f → IsFormat forms f d
listed_takes forms d f is =
    let p = passed (has_members format_members) (λ d. format_from d (fields_at forms d)) d f is in
    let parts = format_parts d (fields_at forms d) f p.1 in record {
      prefix = parts.prefix;
      schema = parts.schema;
      namespace = parts.namespace;
      root = parts.root;
      fields = fields_take forms d f.fields (of_size format_members d p.0) parts.fields;
    }

-- and of one without it
no_fields_held : (d : Data) (fields : List (List ℕ)) → size d ≡ 4 → Some [] ≡ Some fields → HasFields Elements fields d
no_fields_held d [] four is = four
no_fields_held d (field ∷ fields) four is = absurd cc

whole_takes : (d : Data) (f : FormatSettings) → has_members element_members d ≡ true → format_from d (Some []) ≡ Some f → IsFormat Elements f d
whole_takes d f whole is =
    let parts = format_parts d (Some []) f is in record {
      prefix = parts.prefix;
      schema = parts.schema;
      namespace = parts.namespace;
      root = parts.root;
      fields = no_fields_held d f.fields (of_size element_members d whole) parts.fields;
    }

either_takes : (d : Data) (f : FormatSettings) (whole : Bool) → has_members element_members d ≡ whole
    → cond whole (format_from d (Some [])) (tested (has_members format_members) d >>= λ d. format_from d (fields_at Elements d)) ≡ Some f → IsFormat Elements f d
either_takes d f true whole is = whole_takes d f whole is
either_takes d f false whole is = listed_takes Elements d f is

format_takes : (forms : Forms) (d : Data) (f : FormatSettings) → format_in forms d ≡ Some f → IsFormat forms f d
unfolding format_in
format_takes Fields d f is = listed_takes Fields d f is
format_takes Elements d f is = either_takes d f (has_members element_members d) refl is

are_listed : (d : Data) (forms : Forms) (f : FormatSettings) → IsFormat forms f d → HasTexts (codes "fields") f.fields d → size d ≡ 5 → has_members format_members d ≡ true
unfolding has_members
are_listed d forms f is told five =
    and_from _ _ (same_size d 5 five)
    (and_from _ _ (is_there _ _ is.prefix)
    (and_from _ _ (is_there _ _ is.schema)
    (and_from _ _ (is_there _ _ is.namespace)
    (and_from _ _ (is_there _ _ is.root)
    (and_from _ _ (is_there _ _ told) refl)))))

are_whole : (d : Data) (forms : Forms) (f : FormatSettings) → IsFormat forms f d → size d ≡ 4 → has_members element_members d ≡ true
unfolding has_members
are_whole d forms f is four =
    and_from _ _ (same_size d 4 four)
    (and_from _ _ (is_there _ _ is.prefix)
    (and_from _ _ (is_there _ _ is.schema)
    (and_from _ _ (is_there _ _ is.namespace)
    (and_from _ _ (is_there _ _ is.root) refl))))

-- the format of texts that are there
from_again : (d : Data) (forms : Forms) (f : FormatSettings) (told : Option (List (List ℕ))) → IsFormat forms f d → told ≡ Some f.fields → format_from d told ≡ Some f
from_again d forms f told is fields =
    rw (text_again (codes "prefix") d f.prefix is.prefix, text_again (codes "schema") d f.schema is.schema, text_again (codes "namespace") d f.namespace is.namespace, text_again (codes "root") d f.root is.root, fields) refl

-- the fields that are told are those, where they may be
told_again : (forms : Forms) (d : Data) (fields : List (List ℕ)) → HasTexts (codes "fields") fields d → fields_told forms fields ≡ Some fields → fields_at forms d ≡ Some fields
unfolding fields_at
told_again forms d fields is told = ap (λ o. o >>= fields_told forms) (texts_are (codes "fields") d fields is) ∙ told

listed_again : (forms : Forms) (d : Data) (f : FormatSettings) → IsFormat forms f d → HasTexts (codes "fields") f.fields d → size d ≡ 5 → fields_told forms f.fields ≡ Some f.fields
    → (tested (has_members format_members) d >>= λ d. format_from d (fields_at forms d)) ≡ Some f
listed_again forms d f is texts five told =
    ap (λ b. cond b (Some d) None >>= λ d. format_from d (fields_at forms d)) (are_listed d forms f is texts five)
    ∙ from_again d forms f (fields_at forms d) is (told_again forms d f.fields texts told)

again_Elements : (d : Data) (f : FormatSettings) (fields : List (List ℕ)) → f.fields ≡ fields → IsFormat Elements f d → HasFields Elements fields d → format_in Elements d ≡ Some f
unfolding format_in
again_Elements d f [] none is held = rw (are_whole d Elements f is held) (from_again d Elements f (Some []) is (ap (λ fields. Some fields) (sym none)))
again_Elements d f (field ∷ fields) some is held =
    rw (of_another_size element_members d 5 held.1 refl)
    (listed_again Elements d f is (subst (λ fields. HasTexts (codes "fields") fields d) (sym some) held.0) held.1 (ap (fields_told Elements) some ∙ ap (λ fields. Some fields) (sym some)))

format_again : (forms : Forms) (d : Data) (f : FormatSettings) → IsFormat forms f d → format_in forms d ≡ Some f
unfolding format_in
format_again Fields d f is = listed_again Fields d f is is.fields.0 is.fields.1 refl
format_again Elements d f is = again_Elements d f f.fields refl is is.fields

one_format : (forms : Forms) → IsUndone (format_in forms) (IsFormat forms)
one_format forms = record { takes = format_takes forms; again = format_again forms }

-- ---- a repository

formats_take : (forms : Forms) (d : Data) (fs : List FormatSettings) → formats_at forms d ≡ Some fs → HasList (codes "formats") (IsFormat forms) fs d
unfolding formats_at
formats_take forms d fs is = list_takes (format_in forms) (IsFormat forms) (one_format forms) (codes "formats") d fs is

formats_again : (forms : Forms) (d : Data) (fs : List FormatSettings) → HasList (codes "formats") (IsFormat forms) fs d → formats_at forms d ≡ Some fs
unfolding formats_at
formats_again forms d fs is = list_again (format_in forms) (IsFormat forms) (one_format forms) (codes "formats") d fs is

-- elements that are read of texts are theirs
each_element : (texts elements : List (List ℕ)) → each_of canonical_in texts ≡ Some elements → AllZip (λ text element. canonical text ≡ Ok element) texts elements
each_element [] [] is = tt
each_element [] (e ∷ elements) is = absurd cc
each_element (text ∷ others) elements is =
    let p = bind-Some (canonical_in text) (λ y. each_of canonical_in others >>= λ ys. Some (y ∷ ys)) elements is in
    let q = bind-Some (each_of canonical_in others) (λ ys. Some (p.0 ∷ ys)) elements p.2 in
    subst (λ zs. AllZip (λ text element. canonical text ≡ Ok element) (text ∷ others) zs) (Some-injective (p.0 ∷ q.0) elements q.2) (ok_is (canonical text) p.0 p.1, each_element others q.0 q.1)
  where
    ok_is : (r : Result (List ℕ) ℕ) (e : List ℕ) → result_ok r ≡ Some e → r ≡ Ok e
    ok_is (Ok x) e is = ap (λ (e : List ℕ). Ok e) (Some-injective x e is)
    ok_is (Err offset) e is = absurd cc

elements_again : (texts elements : List (List ℕ)) → AllZip (λ text element. canonical text ≡ Ok element) texts elements → each_of canonical_in texts ≡ Some elements
elements_again [] [] are = refl
elements_again [] (e ∷ elements) are = absurd are
elements_again (text ∷ others) [] are = absurd are
elements_again (text ∷ others) (e ∷ elements) are =
    ap (λ r. r >>= λ y. each_of canonical_in others >>= λ ys. Some (y ∷ ys)) (ap result_ok are.0) ∙ ap (λ r. r >>= λ ys. Some (e ∷ ys)) (elements_again others elements are.1)

canonical_takes : (name : List ℕ) (d : Data) (es : List (List ℕ)) → canonical_at name d ≡ Some es → HasElements name es d
unfolding canonical_at
canonical_takes name d es is =
    let p = bind-Some (texts_at name d) (each_of canonical_in) es is in
    (p.0, texts_take name d p.0 p.1, each_element p.0 es p.2)

canonical_again : (name : List ℕ) (d : Data) (es : List (List ℕ)) → HasElements name es d → canonical_at name d ≡ Some es
unfolding canonical_at
canonical_again name d es is = ap (λ o. o >>= each_of canonical_in) (texts_are name d is.0 is.1) ∙ elements_again is.0 es is.2

-- the member `description`, which may be missing
descriptions_take : (forms : Forms) (d : Data) (es : List (List ℕ)) → descriptions_at forms d ≡ Some es → HasDescriptions forms es d
unfolding descriptions_at
descriptions_take Fields d es is = sym (Some-injective [] es is)
descriptions_take Elements d es is = by_member (get (codes "description") d) refl is
  where
    by_member : (o : Option Data) → get (codes "description") d ≡ o → cond (is_some o) (canonical_at (codes "description") d) (Some []) ≡ Some es → HasDescriptions Elements es d
    by_member None none same = inl (sym (Some-injective [] es same), none)
    by_member (Some m) some same = inr (canonical_takes (codes "description") d es same)

descriptions_again : (forms : Forms) (d : Data) (es : List (List ℕ)) → HasDescriptions forms es d → descriptions_at forms d ≡ Some es
unfolding descriptions_at
descriptions_again Fields d es is = ap (λ (es : List (List ℕ)). Some es) (sym is)
descriptions_again Elements d es (inl is) = rw is.1 (ap (λ (es : List (List ℕ)). Some es) (sym is.0))
descriptions_again Elements d es (inr is) = rw is.1 (canonical_again (codes "description") d es is)

-- a list of the texts of elements, as a value
list_takes_elements : (d : Data) (es : List (List ℕ)) → canonical_of d ≡ Some es → IsElementList es d
unfolding canonical_of
list_takes_elements d es is =
    let p = bind-Some (elements_of d >>= each_of as_str) (each_of canonical_in) es is in
    let q = bind-Some (elements_of d) (each_of as_str) p.0 p.1 in
    (p.0, list.takes d q.0 q.1 ∙ ap array_of (texts.takes q.0 p.0 q.2), each_element p.0 es p.2)

list_again_elements : (d : Data) (es : List (List ℕ)) → IsElementList es d → canonical_of d ≡ Some es
unfolding canonical_of
list_again_elements d es is =
    ap (λ d. elements_of d >>= each_of as_str >>= each_of canonical_in) is.1
    ∙ ap (λ o. o >>= each_of as_str >>= each_of canonical_in) (list.again (map string is.0))
    ∙ ap (λ o. o >>= each_of canonical_in) (texts.again is.0) ∙ elements_again is.0 es is.2

IsDescribed : NamedList → List ℕ × Data → Type 0
IsDescribed list m = (list.0 ≡ m.0) × IsElementList list.1 m.1

members_take : (ms : List (List ℕ × Data)) (lists : List NamedList) → each_of set_description_of ms ≡ Some lists → AllZip IsDescribed lists ms
unfolding set_description_of IsDescribed
members_take [] [] is = tt
members_take [] (list ∷ lists) is = absurd cc
members_take (m ∷ ms) lists is =
    let p = bind-Some (set_description_of m) (λ y. each_of set_description_of ms >>= λ ys. Some (y ∷ ys)) lists is in
    let q = bind-Some (each_of set_description_of ms) (λ ys. Some (p.0 ∷ ys)) lists p.2 in
    let e = bind-Some (canonical_of m.1) (λ elements. Some (m.0, elements)) p.0 p.1 in
    let same = Some-injective (m.0, e.0) p.0 e.2 in
    subst (λ zs. AllZip IsDescribed zs (m ∷ ms)) (Some-injective (p.0 ∷ q.0) lists q.2)
    (subst (λ (list : NamedList). IsDescribed list m) same (refl, list_takes_elements m.1 e.0 e.1), members_take ms q.0 q.1)

members_again : (ms : List (List ℕ × Data)) (lists : List NamedList) → AllZip IsDescribed lists ms → each_of set_description_of ms ≡ Some lists
unfolding set_description_of IsDescribed
members_again [] [] are = refl
members_again [] (list ∷ lists) are = absurd are
members_again (m ∷ ms) [] are = absurd are
members_again (m ∷ ms) (list ∷ lists) are =
    rw (list_again_elements m.1 list.1 are.0.1, members_again ms lists are.1, ← are.0.0) refl

members_are : (d : Data) (lists : List NamedList) (o : Option Data) → get (codes "sets") d ≡ o → cond (is_some o) (o >>= set_descriptions_of) (Some []) ≡ Some lists
    → HasSetDescriptions Elements lists d
unfolding set_descriptions_of IsDescribed
members_are d lists None none same = inl (sym (Some-injective [] lists same), none)
members_are d lists (Some (object ms)) some same = inr (ms, some, members_take (members_in ms) lists same)
members_are d lists (Some null) some same = absurd cc
members_are d lists (Some (boolean b)) some same = absurd cc
members_are d lists (Some (number n)) some same = absurd cc
members_are d lists (Some (string t)) some same = absurd cc
members_are d lists (Some (array ds)) some same = absurd cc

sets_take : (forms : Forms) (d : Data) (lists : List NamedList) → set_descriptions_at forms d ≡ Some lists → HasSetDescriptions forms lists d
unfolding set_descriptions_at
sets_take Fields d lists is = sym (Some-injective [] lists is)
sets_take Elements d lists is = members_are d lists (get (codes "sets") d) refl is

sets_again : (forms : Forms) (d : Data) (lists : List NamedList) → HasSetDescriptions forms lists d → set_descriptions_at forms d ≡ Some lists
unfolding set_descriptions_at set_descriptions_of IsDescribed
sets_again Fields d lists is = ap (λ (w : List NamedList). Some w) (sym is)
sets_again Elements d lists (inl is) = rw is.1 (ap (λ (w : List NamedList). Some w) (sym is.0))
sets_again Elements d lists (inr is) = rw is.1 (members_again (members_in is.0) lists is.2)

repository_parts : (forms : Forms) (base : List ℕ) (d : Data) (s : Settings) → size d ≡ 11 + length (names_there (further_members forms) d) → settings_from forms base d ≡ Some s → IsRepository forms base s d
repository_parts forms base d s sized is =
    let name = bind-Some (text_at (codes "name") d) _ s is in
    let repository_name = bind-Some (text_at (codes "repositoryName") d) _ s name.2 in
    let addresses = bind-Some (texts_at (codes "adminEmail") d) _ s repository_name.2 in
    let earliest = bind-Some (text_at (codes "earliestDatestamp") d) _ s addresses.2 in
    let deleted = bind-Some (deleted_at d) _ s earliest.2 in
    let granularity = bind-Some (granularity_at d) _ s deleted.2 in
    let chunk = bind-Some (number_at (codes "chunk") d) _ s granularity.2 in
    let lifetime = bind-Some (number_at (codes "lifetime") d) _ s chunk.2 in
    let lists = bind-Some (number_at (codes "lists") d) _ s lifetime.2 in
    let items = bind-Some (number_at (codes "items") d) _ s lists.2 in
    let formats = bind-Some (formats_at forms d) _ s items.2 in
    let descriptions = bind-Some (descriptions_at forms d) _ s formats.2 in
    let set_descriptions = bind-Some (set_descriptions_at forms d) _ s descriptions.2 in
    let made : Settings = record {
      base = base;
      name = name.0;
      repository_name = repository_name.0;
      addresses = addresses.0;
      earliest = earliest.0;
      deleted = deleted.0;
      granularity = granularity.0;
      chunk = chunk.0;
      lifetime = lifetime.0;
      lists = lists.0;
      items = items.0;
      formats = formats.0;
      forms = forms;
      descriptions = descriptions.0;
      set_descriptions = set_descriptions.0;
    } in
    subst (λ (s : Settings). IsRepository forms base s d) {x = made} (Some-injective made s set_descriptions.2) (record {
      formed = refl;
      below = refl;
      name = text_takes _ d name.0 name.1;
      repository_name = text_takes _ d repository_name.0 repository_name.1;
      addresses = texts_take _ d addresses.0 addresses.1;
      earliest = text_takes _ d earliest.0 earliest.1;
      deleted = deleted_takes d deleted.0 deleted.1;
      granularity = granularity_takes d granularity.0 granularity.1;
      chunk = number_takes _ d chunk.0 chunk.1;
      lifetime = number_takes _ d lifetime.0 lifetime.1;
      lists = number_takes _ d lists.0 lists.1;
      items = number_takes _ d items.0 items.1;
      formats = formats_take forms d formats.0 formats.1;
      descriptions = descriptions_take forms d descriptions.0 descriptions.1;
      set_descriptions = sets_take forms d set_descriptions.0 set_descriptions.1;
      no_other = sized;
    })

repository_takes : (forms : Forms) (base : List ℕ) (d : Data) (s : Settings) → settings_of forms base d ≡ Some s → IsRepository forms base s d
unfolding settings_of
repository_takes forms base d s is =
    let p = passed (is_repository forms) (settings_from forms base) d s is in
    repository_parts forms base d s (of_size_and repository_members (further_members forms) d p.0) p.1

are_repository : (forms : Forms) (base : List ℕ) (d : Data) (s : Settings) → IsRepository forms base s d → is_repository forms d ≡ true
unfolding has_members_and
are_repository forms base d s is =
    and_from _ _ (same_size d (11 + length (names_there (further_members forms) d)) is.no_other)
    (and_from _ _ (is_there _ _ is.name)
    (and_from _ _ (is_there _ _ is.repository_name)
    (and_from _ _ (is_there _ _ is.addresses)
    (and_from _ _ (is_there _ _ is.earliest)
    (and_from _ _ (is_there _ _ is.deleted)
    (and_from _ _ (is_there _ _ is.granularity)
    (and_from _ _ (number_there (codes "chunk") s.chunk d is.chunk)
    (and_from _ _ (number_there (codes "lifetime") s.lifetime d is.lifetime)
    (and_from _ _ (number_there (codes "lists") s.lists d is.lists)
    (and_from _ _ (number_there (codes "items") s.items d is.items)
    (and_from _ _ (is_there _ _ is.formats.1) refl)))))))))))

repository_again : (forms : Forms) (base : List ℕ) (d : Data) (s : Settings) → IsRepository forms base s d → settings_of forms base d ≡ Some s
repository_again forms base d s is =
    ap (λ b. settings_of forms b d) (sym is.below)
    ∙ ap (λ forms. settings_of forms s.base d) (sym is.formed)
    ∙ settings_of-Some s d (ap (λ forms. is_repository forms d) is.formed ∙ are_repository forms base d s is)
    (text_again _ d s.name is.name)
    (text_again _ d s.repository_name is.repository_name)
    (texts_are _ d s.addresses is.addresses)
    (text_again _ d s.earliest is.earliest)
    (deleted_again d s.deleted is.deleted)
    (granularity_again d s.granularity is.granularity)
    (number_again _ d s.chunk is.chunk)
    (number_again _ d s.lifetime is.lifetime)
    (number_again _ d s.lists is.lists)
    (number_again _ d s.items is.items)
    (ap (λ forms. formats_at forms d) is.formed ∙ formats_again forms d s.formats is.formats)
    (ap (λ forms. descriptions_at forms d) is.formed ∙ descriptions_again forms d s.descriptions is.descriptions)
    (ap (λ forms. set_descriptions_at forms d) is.formed ∙ sets_again forms d s.set_descriptions is.set_descriptions)

one_repository : (forms : Forms) (base : List ℕ) → IsUndone (settings_of forms base) (IsRepository forms base)
one_repository forms base = record { takes = repository_takes forms base; again = repository_again forms base }

-- ---- the host

base_takes : (d : Data) (base : List ℕ) → base_at d ≡ Some base → HasText (codes "base") base d × (is_short_text base ≡ true)
unfolding base_at
base_takes d base is =
    let p = bind-Some (text_at (codes "base") d) (tested is_short_text) base is in
    let q = tested_is (is_short_text p.0) p.0 base p.2 in
    (text_takes (codes "base") d p.0 p.1 ∙ ap (λ t. Some (string t)) q.1, ap is_short_text (sym q.1) ∙ q.0)

base_again : (d : Data) (base : List ℕ) → HasText (codes "base") base d → is_short_text base ≡ true → base_at d ≡ Some base
unfolding base_at
base_again d base is short =
    ap (λ o. o >>= tested is_short_text) (text_again (codes "base") d base is) ∙ ap (λ b. cond b (Some base) None) short

repositories_take : (forms : Forms) (base : List ℕ) (d : Data) (ss : List Settings) → repositories_at forms base d ≡ Some ss → HasList (codes "repositories") (IsRepository forms base) ss d
unfolding repositories_at
repositories_take forms base d ss is = list_takes (settings_of forms base) (IsRepository forms base) (one_repository forms base) (codes "repositories") d ss is

repositories_again : (forms : Forms) (base : List ℕ) (d : Data) (ss : List Settings) → HasList (codes "repositories") (IsRepository forms base) ss d → repositories_at forms base d ≡ Some ss
unfolding repositories_at
repositories_again forms base d ss is = list_again (settings_of forms base) (IsRepository forms base) (one_repository forms base) (codes "repositories") d ss is

host_parts : (forms : Forms) (d : Data) (told : HostSettings) → size d ≡ 3 → told_from forms d ≡ Some told → (base : List ℕ) × IsHost forms base told d
host_parts forms d told three is =
    let base = bind-Some (base_at d) _ told is in
    let cache = bind-Some (number_at (codes "cache") d) _ told base.2 in
    let repositories = bind-Some (repositories_at forms base.0 d) _ told cache.2 in
    let based = base_takes d base.0 base.1 in
    let made : HostSettings = record { cache = cache.0; repositories = repositories.0 } in (
      base.0,
      subst (λ (t : HostSettings). IsHost forms base.0 t d) (Some-injective made told repositories.2) (record {
        based = based.0;
        short = based.1;
        cache = number_takes _ d cache.0 cache.1;
        repositories = repositories_take forms base.0 d repositories.0 repositories.1;
        no_other = three;
      }),
    )

host_takes : (forms : Forms) (d : Data) (told : HostSettings) → told_of forms d ≡ Some told → (base : List ℕ) × IsHost forms base told d
unfolding told_of
host_takes forms d told is =
    let p = passed (has_members host_members) (told_from forms) d told is in
    host_parts forms d told (of_size host_members d p.0) p.1

are_host : (forms : Forms) (base : List ℕ) (d : Data) (told : HostSettings) → IsHost forms base told d → has_members host_members d ≡ true
unfolding has_members
are_host forms base d told is =
    and_from _ _ (same_size d 3 is.no_other)
    (and_from _ _ (is_there _ _ is.based)
    (and_from _ _ (number_there (codes "cache") told.cache d is.cache)
    (and_from _ _ (is_there _ _ is.repositories.1) refl)))

host_again : (forms : Forms) (d : Data) (told : HostSettings) (base : List ℕ) → IsHost forms base told d → told_of forms d ≡ Some told
unfolding told_of
host_again forms d told base is =
    rw (are_host forms base d told is, base_again d base is.based is.short, number_again (codes "cache") d told.cache is.cache, repositories_again forms base d told.repositories is.repositories) refl

pub shape_law_holds : ConfigShapeLaw
shape_law_holds forms d told = (host_takes forms d told, λ is. host_again forms d told is.0 is.1)
