-- Looking a format up by its prefix, and what is known of the prefixes.
use Rattle.std.proofs.Common.{◌≡◌, ℕ, Bool, true, false, cond, List, [], ◌∷◌, Option, Some, is_some, refl, ap, sym, ◌∙◌}
use Rattle.std.specs.List.{list_all}
use Rattle.std.specs.Option.{IfSome}
use Rattle.std.specs.Str.{bytes_eq}
use Rattle.std.proofs.lemmas.Bool.{and_from, and_parts}
use Rattle.std.proofs.lemmas.Slice.Eq.{bytes_eq-Decides}
use Rattle.oai_names.specs.Names.{is_prefix, may_be_prefix}
use Rattle.oai_item.specs.Formats.{are_formats_prefixed, dublin_core, format_named}
use Rattle.oai_item.specs.Item.{Metadata, are_prefixed}
use Rattle.oai_item.specs.Known.{has_format}
use Rattle.oai_item.specs.declared.formats.Format.{Format}

-- the format has that prefix
abbrev HasPrefix : List ℕ → Format → Type 0
HasPrefix prefix format = format.prefix ≡ prefix

first_or_later : (test : Bool) (format : Format) (later : Option Format) (prefix : List ℕ) → (test ≡ true → HasPrefix prefix format) → IfSome later (HasPrefix prefix) → IfSome (cond test (Some format) later) (HasPrefix prefix)
first_or_later true format later prefix first rest = first refl
first_or_later false format later prefix first rest = rest

-- what is found has the prefix that was looked for
pub format_named-prefix : (prefix : List ℕ) (formats : List Format) → IfSome (format_named prefix formats) (λ format. format.prefix ≡ prefix)
unfolding format_named
format_named-prefix prefix [] = tt
format_named-prefix prefix (format ∷ formats) =
    first_or_later (bytes_eq format.prefix prefix) format (format_named prefix formats) prefix ((bytes_eq-Decides format.prefix prefix).0) (format_named-prefix prefix formats)

-- that of oai_dc is valid
pub prefixed_dc : are_formats_prefixed (dublin_core ∷ []) ≡ true
unfolding are_formats_prefixed dublin_core is_prefix
prefixed_dc = refl

here_or_later : (test : Bool) (format : Format) (later : Option Format) (prefix : List ℕ) → (test ≡ true → HasPrefix prefix format) → may_be_prefix format.prefix ≡ true → (is_some later ≡ true → may_be_prefix prefix ≡ true) → is_some (cond test (Some format) later) ≡ true → may_be_prefix prefix ≡ true
here_or_later true format later prefix first valid rest found = ap may_be_prefix (sym (first refl)) ∙ valid
here_or_later false format later prefix first valid rest found = rest found

-- a prefix under which a format is found is valid
found_prefix : (prefix : List ℕ) (formats : List Format) → are_formats_prefixed formats ≡ true → is_some (format_named prefix formats) ≡ true → may_be_prefix prefix ≡ true
unfolding format_named are_formats_prefixed
found_prefix prefix [] valid found = cc
found_prefix prefix (format ∷ formats) valid found =
    let parts = and_parts (may_be_prefix format.prefix) (are_formats_prefixed formats) valid in
    here_or_later (bytes_eq format.prefix prefix) format (format_named prefix formats) prefix ((bytes_eq-Decides format.prefix prefix).0) parts.0 (found_prefix prefix formats parts.1) found

-- records in the formats have valid prefixes
pub prefixed_in : (formats : List Format) (records : List Metadata) → are_formats_prefixed formats ≡ true → list_all (has_format formats) records ≡ true → are_prefixed records ≡ true
unfolding are_prefixed
prefixed_in formats [] valid known = refl
prefixed_in formats (record_ ∷ records) valid known =
    let parts = and_parts (has_format formats record_) (list_all (has_format formats) records) known in
    and_from _ _ (found_prefix record_.0 formats valid parts.0) (prefixed_in formats records valid parts.1)
