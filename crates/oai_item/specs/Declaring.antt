-- Declaring a metadata format beside others. OAI-PMH 2.0, section 3.4.
use Rattle.std.specs.Prelude.{◌≡◌, Bool, true, false, ◌&&◌, not, if◌then◌else◌, nat_lt, List, [], ◌∷◌, ◌++◌, length, is_some, Option, Some, None, Result, Ok, Err}
use Rattle.oai_item.specs.Formats.{format_named}
use Rattle.oai_item.specs.Rules.{are_names, are_uris, has_few_fields, has_repeat}
use Rattle.oai_item.specs.declared.formats.Format.{Format}
use Rattle.oai_item.specs.declared.formats.FormatFault.{FormatFault}
use Rattle.oai_item.specs.declared.formats.FormatFault.TheVariants.{Duplicate, BadName, BadUri, FieldTwice, TooMany, NoMemory}

-- there is room for one more format, of at most 64, and it has at most 256 fields
abbrev pub has_room : List Format → Format → Bool
has_room formats format = nat_lt (length formats) 64 && has_few_fields format

-- why the format may not be added to these: the first cause that applies
unfoldable pub declare_fault : List Format → Format → Option FormatFault
declare_fault formats format =
    if is_some (format_named format.prefix formats) then Some Duplicate
    else (if not (are_names format) then Some BadName
    else (if not (are_uris format) then Some BadUri
    else (if has_repeat format.fields then Some FieldTwice
    else (if not (has_room formats format) then Some TooMany
    else None))))

-- what is tested of the format without allocation: its prefix is new, and its names and URIs satisfy the rules
abbrev pub HasGoodTexts : List Format → Format → Type 0
HasGoodTexts formats format =
    (is_some (format_named format.prefix formats) ≡ false)
    × (are_names format ≡ true) × (are_uris format ≡ true)

-- the result of declaring the format, with the formats before and after: it is the last one, or nothing changed. Out of
-- memory is possible once its texts are good
abbrev pub IsDeclaring : List Format → Format → Result (Unit {0}) FormatFault → List Format → Type 0
IsDeclaring old format (Ok _) new = (declare_fault old format ≡ None) × (new ≡ old ++ format ∷ [])
IsDeclaring old format (Err NoMemory) new = HasGoodTexts old format × (new ≡ old)
IsDeclaring old format (Err fault) new = (declare_fault old format ≡ Some fault) × (new ≡ old)

-- the result of testing a format; out of memory is possible once its texts are good
abbrev pub IsCheck : List Format → Format → Result (Unit {0}) FormatFault → Type 0
IsCheck formats format (Ok _) = declare_fault formats format ≡ None
IsCheck formats format (Err NoMemory) = HasGoodTexts formats format
IsCheck formats format (Err fault) = declare_fault formats format ≡ Some fault
