-- What contracts see of the fields of a record while it is written: this repository's own.
use Rattle.std.specs.Prelude.{List, [], ◌∷◌, Option, None, Some}
use Rattle.std.specs.List.{before_first}
use Rattle.oai_item.specs.Elements.{from_nameless, is_nameless}
use Rattle.oai_item.specs.declared.fields.Field.{Field}
use Rattle.oai_item.specs.declared.walks.FieldTexts.{FieldTexts}

-- the field of these texts
abbrev pub field_told : FieldTexts → Field
field_told texts = record { name = texts.name.now; text = texts.text.now }

-- the fields that are the record itself, and those about it: of the first field, if there is one, and the others
abbrev pub content_from : Option FieldTexts → List Field → List Field
content_from None others = []
content_from (Some first) others = field_told first ∷ before_first is_nameless others

abbrev pub about_from : Option FieldTexts → List Field → List Field
about_from None others = others
about_from (Some first) others = from_nameless others
