-- Declaring keeps what is true of the formats of a repository.
use Rattle.std.proofs.Common.{◌≡◌, ◌<◌, ◌∙◌, ap, sym, subst, ℕ, Bool, true, false, cond, ◌||◌, List, [], ◌∷◌, ◌++◌, length, length-append, refl, Option, Some, None, Result, Ok, Err, map, arith, is_some, not, if◌then◌else◌, nat_lt, slice_get, drop}
use Rattle.std.specs.List.{list_all, list_any}
use Rattle.std.specs.Prelude.{OnOk}
use Rattle.std.specs.Str.{bytes_eq}
use Rattle.std.proofs.lemmas.Bool.{and_from, and_parts, ltb-true, not_from_false, or_from}
use Rattle.std.proofs.lemmas.Cmp.{nat_list_eq_equiv}
use Rattle.std.proofs.lemmas.List.{map-append}
use Rattle.std.proofs.lemmas.List.Folds.{list_all-append}
use Rattle.oai_names.specs.Names.{may_be_prefix}
use Rattle.oai_item.specs.Formats.{AreFormats, AreRepositoryFormats, are_formats_prefixed, dublin_core, format_named}
use Rattle.oai_item.specs.Rules.{are_names, are_uris, has_few_fields, has_repeat, is_allowed}
use Rattle.oai_item.specs.Declaring.{HasGoodTexts, IsDeclaring, declare_fault, has_room}
use Rattle.oai_item.specs.declared.formats.Format.{Format}
use Rattle.oai_item.specs.declared.formats.FormatFault.{FormatFault}
use Rattle.oai_item.specs.declared.formats.FormatFault.TheVariants.{Duplicate, BadName, BadUri, FieldTwice, TooMany, NoMemory}
use Rattle.oai_item.proofs.Repeats.{has_repeat-push}

-- the prefixes of the formats
abbrev prefixes : List Format → List (List ℕ)
prefixes formats = map (λ format. format.prefix) formats

prefixes-push : (formats : List Format) (format : Format) → prefixes (formats ++ format ∷ []) ≡ prefixes formats ++ format.prefix ∷ []
prefixes-push formats format = map-append (λ (f : Format). f.prefix) formats (format ∷ [])

is_some-cond : (b : Bool) (format : Format) (later : Option Format) → is_some (cond b (Some format) later) ≡ (b || is_some later)
is_some-cond true format later = refl
is_some-cond false format later = refl

-- a format is found exactly where its prefix is among the prefixes
is_some-format_named : (prefix : List ℕ) (formats : List Format) → is_some (format_named prefix formats) ≡ list_any (bytes_eq prefix) (prefixes formats)
unfolding format_named
is_some-format_named prefix [] = refl
is_some-format_named prefix (first ∷ formats) =
    is_some-cond (bytes_eq first.prefix prefix) first (format_named prefix formats)
    ∙ rw (nat_list_eq_equiv.symm first.prefix prefix, is_some-format_named prefix formats) refl

first_kept : (old more : List Format) (format : Format) → slice_get old 0 ≡ Some format → slice_get (old ++ more) 0 ≡ Some format
first_kept [] more format h = cc
first_kept (first ∷ old) more format h = h

-- the causes in their order, over the tests alone: with none, the prefix is new, the names and the URIs are such, no field
-- stands twice and there is room
none_left : (named names uris twice room : Bool) → (if named then Some Duplicate else (if not names then Some BadName else (if not uris then Some BadUri else (if twice then Some FieldTwice else (if not room then Some TooMany else None))))) ≡ None → (named ≡ false) × (names ≡ true) × (uris ≡ true) × (twice ≡ false) × (room ≡ true)
none_left true names uris twice room h = cc
none_left false false uris twice room h = cc
none_left false true false twice room h = cc
none_left false true true true room h = cc
none_left false true true false false h = cc
none_left false true true false true h = (refl, refl, refl, refl, refl)

admitted : (old : List Format) (format : Format) → declare_fault old format ≡ None → (is_some (format_named format.prefix old) ≡ false) × (are_names format ≡ true) × (are_uris format ≡ true) × (has_repeat format.fields ≡ false) × (has_room old format ≡ true)
unfolding declare_fault
admitted old format h = none_left (is_some (format_named format.prefix old)) (are_names format) (are_uris format) (has_repeat format.fields) (has_room old format) h

-- a format that may be declared has good texts
pub good_texts : (old : List Format) (format : Format) → declare_fault old format ≡ None → HasGoodTexts old format
good_texts old format none = let fits = admitted old format none in (fits.0, fits.1, fits.2)

is_allowed-from : (old : List Format) (format : Format) → declare_fault old format ≡ None → is_allowed format ≡ true
unfolding is_allowed
is_allowed-from old format none =
    let fits = admitted old format none in
    let fields : has_few_fields format ≡ true = (and_parts (nat_lt (length old) 64) (has_few_fields format) fits.4).1 in
    and_from _ _ (and_from _ _ (and_from _ _ fits.1 fits.2) fields) (not_from_false _ fits.3)

-- one more format that keeps the rules, after the first
allowed_kept : (old : List Format) (format : Format) → slice_get old 0 ≡ Some dublin_core → list_all is_allowed (drop 1 old) ≡ true → is_allowed format ≡ true → list_all is_allowed (drop 1 (old ++ format ∷ [])) ≡ true
allowed_kept [] format first kept allowed = cc
allowed_kept (dc ∷ old) format first kept allowed = list_all-append is_allowed old (format ∷ []) ∙ and_from _ _ kept (and_from _ _ allowed refl)

AreRepositoryFormats-push : (old : List Format) (format : Format) → AreRepositoryFormats old → declare_fault old format ≡ None → AreRepositoryFormats (old ++ format ∷ [])
AreRepositoryFormats-push old format valid none =
    let fits = admitted old format none in
    record {
      first = first_kept old (format ∷ []) dublin_core valid.first;
      declared = allowed_kept old format valid.first valid.declared (is_allowed-from old format none);
      apart = ap has_repeat (prefixes-push old format) ∙ has_repeat-push (prefixes old) format.prefix ∙ or_from _ _ (sym (is_some-format_named format.prefix old) ∙ fits.0) valid.apart;
      few = let below : length old < 64 = ltb-true (length old) 64 (and_parts (nat_lt (length old) 64) (has_few_fields format) fits.4).0 in simp length-append (omega arith);
    }

prefixed-push : (old : List Format) (format : Format) → are_formats_prefixed old ≡ true → may_be_prefix format.prefix ≡ true → are_formats_prefixed (old ++ format ∷ []) ≡ true
unfolding are_formats_prefixed
prefixed-push old format valid new =
    let test : Format → Bool = λ f. may_be_prefix f.prefix in
    list_all-append test old (format ∷ []) ∙ and_from _ _ valid (and_from _ _ new refl)

-- declaring keeps what is true of the formats
AreRepositoryFormats-declared : (old : List Format) (format : Format) (result : Result (Unit {0}) FormatFault) (new : List Format) → AreRepositoryFormats old → IsDeclaring old format result new → AreRepositoryFormats new
AreRepositoryFormats-declared old format (Ok _) new valid declaring = subst AreRepositoryFormats (sym declaring.1) (AreRepositoryFormats-push old format valid declaring.0)
AreRepositoryFormats-declared old format (Err Duplicate) new valid declaring = subst AreRepositoryFormats (sym declaring.1) valid
AreRepositoryFormats-declared old format (Err BadName) new valid declaring = subst AreRepositoryFormats (sym declaring.1) valid
AreRepositoryFormats-declared old format (Err BadUri) new valid declaring = subst AreRepositoryFormats (sym declaring.1) valid
AreRepositoryFormats-declared old format (Err FieldTwice) new valid declaring = subst AreRepositoryFormats (sym declaring.1) valid
AreRepositoryFormats-declared old format (Err TooMany) new valid declaring = subst AreRepositoryFormats (sym declaring.1) valid
AreRepositoryFormats-declared old format (Err NoMemory) new valid declaring = subst AreRepositoryFormats (sym declaring.1) valid

prefixed-declared : (old : List Format) (format : Format) (result : Result (Unit {0}) FormatFault) (new : List Format) → are_formats_prefixed old ≡ true → IsDeclaring old format result new → OnOk result (may_be_prefix format.prefix ≡ true) → are_formats_prefixed new ≡ true
prefixed-declared old format (Ok _) new valid declaring prefix = ap are_formats_prefixed declaring.1 ∙ prefixed-push old format valid prefix
prefixed-declared old format (Err Duplicate) new valid declaring prefix = ap are_formats_prefixed declaring.1 ∙ valid
prefixed-declared old format (Err BadName) new valid declaring prefix = ap are_formats_prefixed declaring.1 ∙ valid
prefixed-declared old format (Err BadUri) new valid declaring prefix = ap are_formats_prefixed declaring.1 ∙ valid
prefixed-declared old format (Err FieldTwice) new valid declaring prefix = ap are_formats_prefixed declaring.1 ∙ valid
prefixed-declared old format (Err TooMany) new valid declaring prefix = ap are_formats_prefixed declaring.1 ∙ valid
prefixed-declared old format (Err NoMemory) new valid declaring prefix = ap are_formats_prefixed declaring.1 ∙ valid

-- .. and of their prefixes
pub AreFormats-declared : (old : List Format) (format : Format) (result : Result (Unit {0}) FormatFault) (new : List Format) → AreFormats old → IsDeclaring old format result new → OnOk result (may_be_prefix format.prefix ≡ true) → AreFormats new
AreFormats-declared old format result new valid declaring prefix = record {
  repository = AreRepositoryFormats-declared old format result new valid.repository declaring;
  prefixed = prefixed-declared old format result new valid.prefixed declaring prefix;
}
