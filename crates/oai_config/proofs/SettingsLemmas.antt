-- The settings of a repository, once its parts or its members were read.
use Rattle.std.proofs.Common.{◌≡◌, ℕ, true, List, Option, Some, None, refl, ◌∙◌}
use Rattle.std.specs.Prelude.{codes}
use Rattle.serde_json.specs.Data.{Data}
use Rattle.oai_time.specs.declared.granularity.Granularity.{Granularity}
use Rattle.oai_item.specs.declared.forms.Forms.{Forms}
use Rattle.oai_item.specs.declared.deleted_record.DeletedRecord.{DeletedRecord}
use Rattle.oai_names.specs.Optional.{◌>>=◌}
use Rattle.oai_json.specs.Json.{number_at, text_at, texts_at}
use Rattle.oai_settings.specs.declared.settings.FormatSettings.{FormatSettings}
use Rattle.oai_settings.specs.declared.settings.Settings.{Settings}
use Rattle.oai_xml.specs.Named.{NamedList}
use Rattle.oai_config.specs.declared.repositories.Described.{Described}
use Rattle.oai_config.specs.declared.repositories.Rules.{Rules}
use Rattle.oai_config.specs.declared.repositories.Texts.{Texts}
use Rattle.oai_config.specs.ReadingWork.{described_from, rules_from, settings_with, texts_from}
use Rattle.oai_config.specs.Shapes.{set_descriptions_at, deleted_at, granularity_at, descriptions_at, formats_at, is_repository, settings_of}
use Rattle.oai_config.proofs.PartLemmas.{of_four, first_left_out, second_left_out, third_left_out, fourth_left_out, none_left_out}

-- the settings of these members, one after the other
abbrev from_members : Forms → List ℕ → Option (List ℕ) → Option (List ℕ) → Option (List (List ℕ)) → Option (List ℕ) → Option DeletedRecord → Option Granularity
    → Option (Option ℕ) → Option (Option ℕ) → Option (Option ℕ) → Option (Option ℕ) → Option (List FormatSettings) → Option (List (List ℕ)) → Option (List NamedList) → Option Settings
from_members forms base n r a e d g c t l i f b s = do
  name ← n
  repository_name ← r
  addresses ← a
  earliest ← e
  deleted ← d
  granularity ← g
  chunk ← c
  lifetime ← t
  lists ← l
  items ← i
  formats ← f
  descriptions ← b
  set_descriptions ← s
  Some (record {
    base = base;
    name = name;
    repository_name = repository_name;
    addresses = addresses;
    earliest = earliest;
    deleted = deleted;
    granularity = granularity;
    chunk = chunk;
    lifetime = lifetime;
    lists = lists;
    items = items;
    formats = formats;
    forms = forms;
    descriptions = descriptions;
    set_descriptions = set_descriptions;
  })

abbrev texts_in : Option (List ℕ) → Option (List ℕ) → Option (List (List ℕ)) → Option (List ℕ) → Option Texts
texts_in n r a e = do
  name ← n
  repository_name ← r
  addresses ← a
  earliest ← e
  Some (record { name = name; repository_name = repository_name; addresses = addresses; earliest = earliest })

abbrev rules_in : Option DeletedRecord → Option Granularity → Option (Option ℕ) → Option (Option ℕ) → Option (Option ℕ) → Option (Option ℕ) → Option Rules
rules_in d g c t l i = do
  deleted ← d
  granularity ← g
  chunk ← c
  lifetime ← t
  lists ← l
  items ← i
  Some (record { deleted = deleted; granularity = granularity; chunk = chunk; lifetime = lifetime; lists = lists; items = items })

abbrev described_in : Option (List (List ℕ)) → Option (List NamedList) → Option Described
described_in b s = do
  descriptions ← b
  set_descriptions ← s
  Some (record { descriptions = descriptions; set_descriptions = set_descriptions })

in_parts : (forms : Forms) (base : List ℕ) (n r : Option (List ℕ)) (a : Option (List (List ℕ))) (e : Option (List ℕ)) (d : Option DeletedRecord) (g : Option Granularity)
    (c t l i : Option (Option ℕ)) (f : Option (List FormatSettings)) (b : Option (List (List ℕ))) (s : Option (List NamedList))
    → from_members forms base n r a e d g c t l i f b s ≡ of_four (settings_with forms base) (texts_in n r a e) (rules_in d g c t l i) f (described_in b s)
in_parts forms base None r a e d g c t l i f b s = refl
in_parts forms base (Some n) None a e d g c t l i f b s = refl
in_parts forms base (Some n) (Some r) None e d g c t l i f b s = refl
in_parts forms base (Some n) (Some r) (Some a) None d g c t l i f b s = refl
in_parts forms base (Some n) (Some r) (Some a) (Some e) None g c t l i f b s = refl
in_parts forms base (Some n) (Some r) (Some a) (Some e) (Some d) None c t l i f b s = refl
in_parts forms base (Some n) (Some r) (Some a) (Some e) (Some d) (Some g) None t l i f b s = refl
in_parts forms base (Some n) (Some r) (Some a) (Some e) (Some d) (Some g) (Some c) None l i f b s = refl
in_parts forms base (Some n) (Some r) (Some a) (Some e) (Some d) (Some g) (Some c) (Some t) None i f b s = refl
in_parts forms base (Some n) (Some r) (Some a) (Some e) (Some d) (Some g) (Some c) (Some t) (Some l) None f b s = refl
in_parts forms base (Some n) (Some r) (Some a) (Some e) (Some d) (Some g) (Some c) (Some t) (Some l) (Some i) None b s = refl
in_parts forms base (Some n) (Some r) (Some a) (Some e) (Some d) (Some g) (Some c) (Some t) (Some l) (Some i) (Some f) None s = refl
in_parts forms base (Some n) (Some r) (Some a) (Some e) (Some d) (Some g) (Some c) (Some t) (Some l) (Some i) (Some f) (Some b) None = refl
in_parts forms base (Some n) (Some r) (Some a) (Some e) (Some d) (Some g) (Some c) (Some t) (Some l) (Some i) (Some f) (Some b) (Some s) = refl

-- the settings of an object of the members are made of its parts
pub settings_of-parts : (forms : Forms) (base : List ℕ) (d : Data) → is_repository forms d ≡ true
    → settings_of forms base d ≡ of_four (settings_with forms base) (texts_from d) (rules_from d) (formats_at forms d) (described_from forms d)
unfolding settings_of texts_from rules_from described_from
settings_of-parts forms base d whole =
    rw whole (in_parts forms base (text_at (codes "name") d) (text_at (codes "repositoryName") d) (texts_at (codes "adminEmail") d) (text_at (codes "earliestDatestamp") d) (deleted_at d) (granularity_at d)
    (number_at (codes "chunk") d) (number_at (codes "lifetime") d) (number_at (codes "lists") d) (number_at (codes "items") d) (formats_at forms d) (descriptions_at forms d) (set_descriptions_at forms d))

pub no_texts : (forms : Forms) (base : List ℕ) (d : Data) → is_repository forms d ≡ true → texts_from d ≡ None → settings_of forms base d ≡ None
no_texts forms base d whole none = settings_of-parts forms base d whole ∙ first_left_out (settings_with forms base) (rules_from d) (formats_at forms d) (described_from forms d) _ none

pub no_rules : (forms : Forms) (base : List ℕ) (d : Data) → is_repository forms d ≡ true → rules_from d ≡ None → settings_of forms base d ≡ None
no_rules forms base d whole none = settings_of-parts forms base d whole ∙ second_left_out (settings_with forms base) (texts_from d) (formats_at forms d) (described_from forms d) _ none

pub no_formats : (forms : Forms) (base : List ℕ) (d : Data) → is_repository forms d ≡ true → formats_at forms d ≡ None → settings_of forms base d ≡ None
no_formats forms base d whole none = settings_of-parts forms base d whole ∙ third_left_out (settings_with forms base) (texts_from d) (rules_from d) (described_from forms d) _ none

pub no_descriptions : (forms : Forms) (base : List ℕ) (d : Data) → is_repository forms d ≡ true → described_from forms d ≡ None → settings_of forms base d ≡ None
no_descriptions forms base d whole none =
    settings_of-parts forms base d whole ∙ fourth_left_out (settings_with forms base) (texts_from d) (rules_from d) (formats_at forms d) _ none

pub settings_of-whole : (forms : Forms) (base : List ℕ) (d : Data) (texts : Texts) (rules : Rules) (formats : List FormatSettings) (described : Described) → is_repository forms d ≡ true
    → texts_from d ≡ Some texts → rules_from d ≡ Some rules → formats_at forms d ≡ Some formats → described_from forms d ≡ Some described
    → settings_of forms base d ≡ Some (settings_with forms base texts rules formats described)
settings_of-whole forms base d texts rules formats described whole one other third last =
    settings_of-parts forms base d whole ∙ none_left_out (settings_with forms base) _ _ _ _ texts rules formats described one other third last

-- once each member was read
pub settings_of-Some : (s : Settings) (d : Data) → is_repository s.forms d ≡ true
    → text_at (codes "name") d ≡ Some s.name
    → text_at (codes "repositoryName") d ≡ Some s.repository_name
    → texts_at (codes "adminEmail") d ≡ Some s.addresses
    → text_at (codes "earliestDatestamp") d ≡ Some s.earliest
    → deleted_at d ≡ Some s.deleted
    → granularity_at d ≡ Some s.granularity
    → number_at (codes "chunk") d ≡ Some s.chunk
    → number_at (codes "lifetime") d ≡ Some s.lifetime
    → number_at (codes "lists") d ≡ Some s.lists
    → number_at (codes "items") d ≡ Some s.items
    → formats_at s.forms d ≡ Some s.formats
    → descriptions_at s.forms d ≡ Some s.descriptions
    → set_descriptions_at s.forms d ≡ Some s.set_descriptions
    → settings_of s.forms s.base d ≡ Some s
unfolding settings_of
settings_of-Some s d whole name repository_name addresses earliest deleted granularity chunk lifetime lists items formats descriptions set_descriptions =
    rw (whole, name, repository_name, addresses, earliest, deleted, granularity, chunk, lifetime, lists, items, formats, descriptions, set_descriptions) refl
