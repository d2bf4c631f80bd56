-- The settings of the JSON object of a configuration, if its members are of their kinds (RFC 8259, sections 3 to 7).
-- The members are this repository's own.
use Rattle.std.specs.Prelude.{ℕ, Bool, true, false, ◌&&◌, if◌then◌else◌, List, [], ◌∷◌, codes, Option, Some, None, is_some}
use Rattle.std.specs.List.{find}
use Rattle.std.specs.Str.{bytes_eq}
use Rattle.serde_json.specs.Data.{Data}
use Rattle.serde_json.specs.Find.{as_object, as_str, get}
use Rattle.oai_time.specs.declared.granularity.Granularity.{Granularity}
use Rattle.oai_time.specs.declared.granularity.Granularity.TheVariants.{Day, Second}
use Rattle.oai_item.specs.ShortTexts.{is_short_text}
use Rattle.oai_item.specs.declared.forms.Forms.{Forms}
use Rattle.oai_item.specs.declared.forms.Forms.TheVariants.{Fields, Elements}
use Rattle.oai_item.specs.declared.deleted_record.DeletedRecord.{DeletedRecord}
use Rattle.oai_item.specs.declared.deleted_record.DeletedRecord.TheVariants.{No, Transient, Persistent}
use Rattle.oai_xml.specs.Documents.{canonical_in}
use Rattle.oai_xml.specs.Named.{NamedList}
use Rattle.oai_answers.specs.Documents.{deleted_text}
use Rattle.oai_json.specs.Json.{elements_at, elements_of, members_in, has_members, has_members_and, json_in, number_at, text_at, texts_at}
use Rattle.oai_settings.specs.declared.settings.FormatSettings.{FormatSettings}
use Rattle.oai_settings.specs.declared.settings.Settings.{Settings}
use Rattle.oai_config.specs.declared.host_settings.HostSettings.{HostSettings}
use Rattle.oai_names.specs.Optional.{◌>>=◌, each_of, tested}

-- ---- a format

-- the members of a format
abbrev pub format_members : List (List ℕ)
format_members = codes "prefix" ∷ codes "schema" ∷ codes "namespace" ∷ codes "root" ∷ codes "fields" ∷ []

-- those of a format without fields, whose records are elements
abbrev pub element_members : List (List ℕ)
element_members = codes "prefix" ∷ codes "schema" ∷ codes "namespace" ∷ codes "root" ∷ []

-- the settings of a format, from these members, and its fields
abbrev pub format_from : Data → Option (List (List ℕ)) → Option FormatSettings
format_from d told = do
  prefix ← text_at (codes "prefix") d
  schema ← text_at (codes "schema") d
  namespace ← text_at (codes "namespace") d
  root ← text_at (codes "root") d
  fields ← told
  Some (record { prefix = prefix; schema = schema; namespace = namespace; root = root; fields = fields })

-- records may be elements
abbrev pub takes_elements : Forms → Bool
takes_elements Fields = false
takes_elements Elements = true

-- a format without fields is written without the member, where it may be: so it is written in one way
abbrev pub fields_told : Forms → List (List ℕ) → Option (List (List ℕ))
fields_told Fields fields = Some fields
fields_told Elements [] = None
fields_told Elements (field ∷ fields) = Some (field ∷ fields)

unfoldable pub fields_at : Forms → Data → Option (List (List ℕ))
fields_at forms d = texts_at (codes "fields") d >>= fields_told forms

-- {"prefix":TEXT,"schema":TEXT,"namespace":TEXT,"root":TEXT,"fields":[TEXT,..]}, and no other member; where records may be elements `fields`
-- may be missing, and is not empty
unfoldable pub format_in : Forms → Data → Option FormatSettings
format_in forms d =
    if takes_elements forms && has_members element_members d then format_from d (Some [])
    else (tested (has_members format_members) d >>= λ d. format_from d (fields_at forms d))

-- ---- a repository

-- the policy on deleted records, by its word in an answer to Identify (OAI-PMH 2.0, sections 2.5.1 and 4.2)
unfoldable pub deleted_of : List ℕ → Option DeletedRecord
deleted_of text = find (λ (deleted : DeletedRecord). bytes_eq text (deleted_text deleted)) (No ∷ Transient ∷ Persistent ∷ [])

-- the policy on deleted records, from the member `deletedRecord`
unfoldable pub deleted_at : Data → Option DeletedRecord
deleted_at d = text_at (codes "deletedRecord") d >>= deleted_of

-- the word for the granularity of the datestamps: this repository's own, and not what OAI-PMH 2.0, section 2.7.1,
-- writes
abbrev pub granularity_word : Granularity → List ℕ
granularity_word Day = codes "days"
granularity_word Second = codes "seconds"

-- the granularity, by that word
unfoldable pub granularity_of : List ℕ → Option Granularity
granularity_of text = find (λ (granularity : Granularity). bytes_eq text (granularity_word granularity)) (Day ∷ Second ∷ [])

-- the granularity, from the member `granularity`
unfoldable pub granularity_at : Data → Option Granularity
granularity_at d = text_at (codes "granularity") d >>= granularity_of

-- the formats, from the member `formats`
unfoldable pub formats_at : Forms → Data → Option (List FormatSettings)
formats_at forms d = elements_at (codes "formats") d >>= each_of (format_in forms)

-- the members of a repository
abbrev pub repository_members : List (List ℕ)
repository_members =
    codes "name" ∷ codes "repositoryName" ∷ codes "adminEmail" ∷ codes "earliestDatestamp" ∷ codes "deletedRecord"
    ∷ codes "granularity" ∷ codes "chunk" ∷ codes "lifetime" ∷ codes "lists" ∷ codes "items" ∷ codes "formats" ∷ []

-- those that may be missing, and stand only where records may be elements
abbrev pub further_members : Forms → List (List ℕ)
further_members Fields = []
further_members Elements = codes "description" ∷ codes "sets" ∷ []

-- the canonical texts of the elements that a list of texts spells (XML 1.0, section 2.1), each of them
unfoldable pub canonical_at : List ℕ → Data → Option (List (List ℕ))
canonical_at name d = texts_at name d >>= each_of canonical_in

-- those that describe the repository, from the member `description`: none where it is missing (OAI-PMH 2.0, section 4.2)
unfoldable pub descriptions_at : Forms → Data → Option (List (List ℕ))
descriptions_at Fields d = Some []
descriptions_at Elements d = if is_some (get (codes "description") d) then canonical_at (codes "description") d else Some []

-- those that describe a set, from a member of `sets`: its setSpec, and a list of texts (OAI-PMH 2.0, section 4.6)
unfoldable pub canonical_of : Data → Option (List (List ℕ))
canonical_of d = elements_of d >>= each_of as_str >>= each_of canonical_in

unfoldable pub set_description_of : List ℕ × Data → Option NamedList
set_description_of m = canonical_of m.1 >>= λ elements. Some (m.0, elements)

unfoldable pub set_descriptions_of : Data → Option (List NamedList)
set_descriptions_of d = as_object d >>= λ ms. each_of set_description_of (members_in ms)

-- those of all sets, from the member `sets`, an object: none where it is missing
unfoldable pub set_descriptions_at : Forms → Data → Option (List NamedList)
set_descriptions_at Fields d = Some []
set_descriptions_at Elements d = if is_some (get (codes "sets") d) then get (codes "sets") d >>= set_descriptions_of else Some []

-- the settings of a repository below the base, from these members
abbrev pub settings_from : Forms → List ℕ → Data → Option Settings
settings_from forms base d = do
  name ← text_at (codes "name") d
  repository_name ← text_at (codes "repositoryName") d
  addresses ← texts_at (codes "adminEmail") d
  earliest ← text_at (codes "earliestDatestamp") d
  deleted ← deleted_at d
  granularity ← granularity_at d
  chunk ← number_at (codes "chunk") d
  lifetime ← number_at (codes "lifetime") d
  lists ← number_at (codes "lists") d
  items ← number_at (codes "items") d
  formats ← formats_at forms d
  descriptions ← descriptions_at forms d
  set_descriptions ← set_descriptions_at forms d
  Some (record {
    base = base;
    name = name;
    repository_name = repository_name;
    addresses = addresses;
    earliest = earliest;
    deleted = deleted;
    granularity = granularity;
    chunk = chunk;
    lifetime = lifetime;
    lists = lists;
    items = items;
    formats = formats;
    forms = forms;
    descriptions = descriptions;
    set_descriptions = set_descriptions;
  })

-- the object has exactly the members of a repository
abbrev pub is_repository : Forms → Data → Bool
is_repository forms d = has_members_and repository_members (further_members forms) d

-- the object with exactly these members
unfoldable pub settings_of : Forms → List ℕ → Data → Option Settings
settings_of forms base d = tested (is_repository forms) d >>= settings_from forms base

-- ---- the host

-- the base of all base URLs: 1 to 512 bytes, of characters that a document may hold (XML 1.0, section 2.2)
unfoldable pub base_at : Data → Option (List ℕ)
base_at d = text_at (codes "base") d >>= tested is_short_text

-- the repositories below the base
unfoldable pub repositories_at : Forms → List ℕ → Data → Option (List Settings)
repositories_at forms base d = elements_at (codes "repositories") d >>= each_of (settings_of forms base)

-- the members of a configuration
abbrev pub host_members : List (List ℕ)
host_members = codes "base" ∷ codes "cache" ∷ codes "repositories" ∷ []

-- the settings of a host, from these members
abbrev pub told_from : Forms → Data → Option HostSettings
told_from forms d = do
  base ← base_at d
  cache ← number_at (codes "cache") d
  repositories ← repositories_at forms base d
  Some (record { cache = cache; repositories = repositories })

-- {"base":TEXT,"cache":NUMBER,"repositories":[REPOSITORY,..]}, and no other member
unfoldable pub told_of : Forms → Data → Option HostSettings
told_of forms d = tested (has_members host_members) d >>= told_from forms

-- ---- the text

-- the settings in the text, where records have these forms, if it is JSON with the shape
unfoldable pub told_in : Forms → List ℕ → Option HostSettings
told_in forms text = json_in text >>= told_of forms
