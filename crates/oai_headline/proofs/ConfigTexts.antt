-- The texts of a configuration that satisfies its rules are legal, if they are UTF-8.
use Rattle.std.proofs.Common.{◌≡◌, ◌∙◌, ℕ, suc, true, ◌&&◌, not, eqb, List, [], ◌∷◌, length, codes, None, Some, refl, ap, arith}
use Rattle.std.specs.Prelude.{nat_le}
use Rattle.std.specs.Int.{is_in_range}
use Rattle.std.specs.List.{All, AllByRecursion, list_all, list_any}
use Rattle.std.proofs.lemmas.Bool.{and_parts}
use Rattle.oai_names.specs.Names.{is_prefix, is_prefix_byte, may_be_prefix}
use Rattle.oai_names.specs.declared.limits.TheConstants.{MAX_PREFIX_BYTES}
use Rattle.oai_names.proofs.Lists.{all-weaker}
use Rattle.oai_item.specs.Formats.{AreRepositoryFormats, dublin_core}
use Rattle.oai_item.specs.Rules.{are_names, are_uris, has_few_fields, has_repeat, is_allowed, is_space, is_uri}
use Rattle.oai_item.specs.ShortTexts.{is_short_text}
use Rattle.oai_item.specs.declared.formats.Format.{Format}
use Rattle.std.proofs.lemmas.Str.{is_utf8-from_IsUtf8}
use Rattle.oai_xml.specs.Documents.{is_canonical}
use Rattle.oai_xml.proofs.CanonicalLemmas.{element_tested}
use Rattle.oai_xml.specs.Named.{NamedList, are_canonical}
use Rattle.oai_xml.specs.LegalTexts.{is_legal_text}
use Rattle.oai_xml.proofs.LegalSpellings.{is_plain}
use Rattle.oai_settings.specs.Config.{IsConfig, RepositoryConfig, is_described}
use Rattle.oai_documents.specs.Texts.{is_legal_config, is_legal_format}
use Rattle.oai_documents.proofs.LegalCommands.{prefix_plain, short_characters}
use Rattle.oai_documents.proofs.LegalTrees.{plain_text}
use Rattle.oai_documents.proofs.Tags.{both}
use Rattle.oai_headline.specs.XmlAnswers.{HasUtf8Texts, IsUtf8Text}

-- what is true of each is true of the first, and of each behind it
each : {A : Type 0} (P : A → Type 0) (xs : List A) → All P xs → AllByRecursion P xs
each P [] h = tt
each P (x ∷ xs) h = (h 0 x (omega arith), each P xs (λ k d within. h (suc k) d (omega (arith, within))))

texts_legal : (texts : List (List ℕ)) → AllByRecursion IsUtf8Text texts → list_all is_short_text texts ≡ true → list_all is_legal_text texts ≡ true
texts_legal [] utf8 short = refl
texts_legal (text ∷ texts) utf8 short =
    let parts = and_parts (is_short_text text) (list_all is_short_text texts) short in both (both utf8.0 (short_characters text parts.0)) (texts_legal texts utf8.1 parts.1)

-- ---- formats

prefix_legal : (prefix : List ℕ) → may_be_prefix prefix ≡ true → is_legal_text prefix ≡ true
unfolding is_prefix
prefix_legal prefix is =
    let syntax_of = and_parts (is_prefix prefix) (nat_le (length prefix) MAX_PREFIX_BYTES) is in
    let bytes = and_parts (not (eqb (length prefix) 0)) (list_all is_prefix_byte prefix) syntax_of.0 in
    plain_text prefix (all-weaker is_prefix_byte is_plain prefix_plain prefix bytes.1)

uri_legal : (text : List ℕ) → IsUtf8Text text → is_uri text ≡ true → is_legal_text text ≡ true
unfolding is_uri
uri_legal text utf8 is = both utf8 (short_characters text (and_parts (is_short_text text) (not (list_any is_space text)) is).0)

allowed_legal : (format : Format) → HasUtf8Texts format → is_allowed format ≡ true → is_legal_format format ≡ true
unfolding is_allowed
allowed_legal format utf8 is =
    let repeats = and_parts (are_names format && are_uris format && has_few_fields format) (not (has_repeat format.fields)) is in
    let fields = and_parts (are_names format && are_uris format) (has_few_fields format) repeats.0 in
    let uris = and_parts (are_names format) (are_uris format) fields.0 in
    let two = and_parts (is_uri format.schema) (is_uri format.namespace) uris.1 in
    both (both (prefix_legal format.prefix utf8.prefix) (uri_legal format.schema utf8.schema two.0)) (uri_legal format.namespace utf8.namespace two.1)

all_allowed : (formats : List Format) → AllByRecursion HasUtf8Texts formats → list_all is_allowed formats ≡ true → list_all is_legal_format formats ≡ true
all_allowed [] utf8 all = refl
all_allowed (format ∷ formats) utf8 all =
    let parts = and_parts (is_allowed format) (list_all is_allowed formats) all in both (allowed_legal format utf8.0 parts.0) (all_allowed formats utf8.1 parts.1)

dublin_core_legal : is_legal_format dublin_core ≡ true
unfolding dublin_core
dublin_core_legal =
    both (both (plain_text (codes "oai_dc") refl) (plain_text (codes "http://www.openarchives.org/OAI/2.0/oai_dc.xsd") refl)) (plain_text (codes "http://www.openarchives.org/OAI/2.0/oai_dc/") refl)

formats_legal : (formats : List Format) → AllByRecursion HasUtf8Texts formats → AreRepositoryFormats formats → list_all is_legal_format formats ≡ true
formats_legal [] utf8 rules = let first : None ≡ Some dublin_core = rules.first in cc
formats_legal (x ∷ formats) utf8 rules =
    let first : Some x ≡ Some dublin_core = rules.first in
    let same : x ≡ dublin_core = cc in
    both (ap is_legal_format same ∙ dublin_core_legal) (all_allowed formats utf8.1 rules.declared)

-- ---- a configuration

-- an element in canonical text is a legal one
canonical_legal : (text : List ℕ) → is_canonical text ≡ true → is_legal_text text ≡ true
canonical_legal text is = let e = element_tested text is in both (is_utf8-from_IsUtf8 text e.1.utf8) e.1.characters

pub config_legal : (config : RepositoryConfig) → IsConfig config → AreRepositoryFormats config.formats → IsUtf8Text config.base → IsUtf8Text config.repository_name → All IsUtf8Text config.addresses
    → All HasUtf8Texts config.formats → is_legal_config config ≡ true
unfolding is_described
config_legal config rules formats base name addresses its =
    let outer = and_parts (is_short_text config.repository_name && is_in_range 1 16 (length config.addresses)) (list_all is_short_text config.addresses) rules.described in
    let inner = and_parts (is_short_text config.repository_name) (is_in_range 1 16 (length config.addresses)) outer.0 in
    both (both (both (both (both (both base rules.based) (both name (short_characters config.repository_name inner.0))) (texts_legal config.addresses (each IsUtf8Text config.addresses addresses) outer.1))
    (formats_legal config.formats (each HasUtf8Texts config.formats its) formats))
    (all-weaker is_canonical is_legal_text canonical_legal config.descriptions rules.containing))
    (all-weaker are_canonical (λ (list : NamedList). list_all is_legal_text list.1) (λ list is. all-weaker is_canonical is_legal_text canonical_legal list.1 is) config.set_descriptions rules.set_containing)
