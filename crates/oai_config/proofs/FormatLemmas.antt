-- The settings of a format, once its parts were read.
use Rattle.std.proofs.Common.{◌≡◌, ◌&&◌, ℕ, true, false, List, [], Option, Some, None, refl, ap, ◌∙◌}
use Rattle.std.specs.Prelude.{codes}
use Rattle.serde_json.specs.Data.{Data}
use Rattle.oai_names.specs.Optional.{◌>>=◌}
use Rattle.oai_item.specs.declared.forms.Forms.{Forms}
use Rattle.oai_json.specs.Json.{has_members, text_at}
use Rattle.oai_settings.specs.declared.settings.FormatSettings.{FormatSettings}
use Rattle.oai_config.specs.ReadingWork.{two_texts}
use Rattle.oai_config.specs.Shapes.{element_members, fields_at, format_from, format_members, format_in, takes_elements}
use Rattle.oai_config.proofs.PartLemmas.{of_three, first_missing, second_missing, none_missing}

-- the settings of these texts
abbrev pub format_with : List ℕ × List ℕ → List ℕ × List ℕ → List (List ℕ) → FormatSettings
format_with first second fields = record { prefix = first.0; schema = first.1; namespace = second.0; root = second.1; fields = fields }

abbrev two : Option (List ℕ) → Option (List ℕ) → Option (List ℕ × List ℕ)
two first second = do
  one ← first
  other ← second
  Some (one, other)

none_of : (p s n r : Option (List ℕ))
    → (p >>= λ prefix. s >>= λ schema. n >>= λ namespace. r >>= λ root. None >>= λ fields.
    Some (format_with (prefix, schema) (namespace, root) fields))
    ≡ None
none_of None s n r = refl
none_of (Some p) None n r = refl
none_of (Some p) (Some s) None r = refl
none_of (Some p) (Some s) (Some n) None = refl
none_of (Some p) (Some s) (Some n) (Some r) = refl

in_parts : (p s n r : Option (List ℕ)) (f : Option (List (List ℕ)))
    → (p >>= λ prefix. s >>= λ schema. n >>= λ namespace. r >>= λ root. f >>= λ fields.
    Some (format_with (prefix, schema) (namespace, root) fields))
    ≡ of_three format_with (two p s) (two n r) f
in_parts None s n r f = refl
in_parts (Some p) None n r f = refl
in_parts (Some p) (Some s) None r f = refl
in_parts (Some p) (Some s) (Some n) None f = refl
in_parts (Some p) (Some s) (Some n) (Some r) f = refl

-- the settings of an object are made of its parts and of the fields
pub format_from-parts : (d : Data) (fields : List (List ℕ))
    → format_from d (Some fields) ≡ of_three format_with (two_texts (codes "prefix") (codes "schema") d) (two_texts (codes "namespace") (codes "root") d) (Some fields)
format_from-parts d fields =
    in_parts (text_at (codes "prefix") d) (text_at (codes "schema") d) (text_at (codes "namespace") d) (text_at (codes "root") d) (Some fields)

pub no_first : (d : Data) (fields : List (List ℕ)) → two_texts (codes "prefix") (codes "schema") d ≡ None → format_from d (Some fields) ≡ None
no_first d fields none =
    format_from-parts d fields ∙ first_missing format_with (two_texts (codes "namespace") (codes "root") d) (Some fields) _ none

pub no_second : (d : Data) (fields : List (List ℕ)) → two_texts (codes "namespace") (codes "root") d ≡ None → format_from d (Some fields) ≡ None
no_second d fields none =
    format_from-parts d fields ∙ second_missing format_with (two_texts (codes "prefix") (codes "schema") d) (Some fields) _ none

pub format_from-Some : (d : Data) (first second : List ℕ × List ℕ) (fields : List (List ℕ))
    → two_texts (codes "prefix") (codes "schema") d ≡ Some first → two_texts (codes "namespace") (codes "root") d ≡ Some second
    → format_from d (Some fields) ≡ Some (format_with first second fields)
format_from-Some d first second fields one other =
    format_from-parts d fields ∙ none_missing format_with _ _ _ first second fields one other refl

-- ---- the fields

-- nothing is made of a format whose fields are missing
pub no_fields : (d : Data) → format_from d None ≡ None
no_fields d = none_of (text_at (codes "prefix") d) (text_at (codes "schema") d) (text_at (codes "namespace") d) (text_at (codes "root") d)

-- ---- the format

-- of an object of the members of a format without fields
pub format_in-whole : (forms : Forms) (d : Data) → (takes_elements forms && has_members element_members d) ≡ true → format_in forms d ≡ format_from d (Some [])
unfolding format_in
format_in-whole forms d whole = rw whole refl

-- of any other
pub format_in-listed : (forms : Forms) (d : Data) → (takes_elements forms && has_members element_members d) ≡ false → has_members format_members d ≡ true
    → format_in forms d ≡ format_from d (fields_at forms d)
unfolding format_in
format_in-listed forms d other listed = rw (other, listed) refl

pub format_in-other : (forms : Forms) (d : Data) → (takes_elements forms && has_members element_members d) ≡ false → has_members format_members d ≡ false
    → format_in forms d ≡ None
unfolding format_in
format_in-other forms d other unlisted = rw (other, unlisted) refl

pub format_in-unread : (forms : Forms) (d : Data) → (takes_elements forms && has_members element_members d) ≡ false → has_members format_members d ≡ true
    → fields_at forms d ≡ None → format_in forms d ≡ None
format_in-unread forms d other listed none = format_in-listed forms d other listed ∙ ap (format_from d) none ∙ no_fields d

pub format_in-read : (forms : Forms) (d : Data) (fields : List (List ℕ)) → (takes_elements forms && has_members element_members d) ≡ false → has_members format_members d ≡ true
    → fields_at forms d ≡ Some fields → format_in forms d ≡ format_from d (Some fields)
format_in-read forms d fields other listed some = format_in-listed forms d other listed ∙ ap (format_from d) some
