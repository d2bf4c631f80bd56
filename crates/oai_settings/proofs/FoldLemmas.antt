-- Declaring the described formats one after the other, and that it comes to the rules of all of them.
use Rattle.std.proofs.Common.{◌≡◌, ◌≤◌, ◌+◌, ℕ, Bool, true, false, List, [], ◌∷◌, ◌++◌, length, length-append, refl, sym, ◌∙◌, ap, append_assoc, arith, suc, Option, Some, None, map, inl, inr, is_some, is_none, not, if◌then◌else◌, nat_lt, nat_le}
use Rattle.std.specs.Prelude.{◌&&◌, ◌||◌}
use Rattle.std.specs.List.{list_all, list_any}
use Rattle.std.specs.Str.{bytes_eq}
use Rattle.std.proofs.lemmas.Bool.{false≢true, or_cases, or_from, or_left, or_right}
use Rattle.std.proofs.lemmas.Bool.Decides.{nat_tests}
use Rattle.std.proofs.lemmas.Cmp.{nat_list_eq_equiv}
use Rattle.std.proofs.lemmas.List.Folds.{list_any-append}
use Rattle.std.proofs.lemmas.List.{map-append, append-nil}
use Rattle.oai_names.specs.Names.{is_among, may_be_prefix}
use Rattle.oai_item.specs.Formats.{dublin_core, format_named}
use Rattle.oai_item.specs.Declaring.{declare_fault}
use Rattle.oai_item.specs.Rules.{are_names, are_uris, has_few_fields, has_repeat, is_allowed}
use Rattle.oai_item.specs.declared.formats.Format.{Format}
use Rattle.oai_item.specs.declared.formats.FormatFault.TheVariants.{Duplicate, BadName, BadUri, FieldTwice, TooMany}
use Rattle.oai_item.proofs.Repeats.{has_repeat-push}
use Rattle.oai_settings.specs.Settings.{are_formats, format_of, is_good_format, prefixes_of}
use Rattle.oai_settings.specs.SettingsWork.{IsSettingsRefused}
use Rattle.oai_settings.specs.declared.settings.ConfigFault.{ConfigFault}
use Rattle.oai_settings.specs.declared.settings.ConfigFault.TheVariants as fault
use Rattle.oai_settings.specs.declared.settings.FormatSettings.{FormatSettings}

-- ---- one format after the other

-- the described format may stand beside these
abbrev pub may_stand : List Format → FormatSettings → Bool
may_stand formats s = may_be_prefix s.prefix && is_none (declare_fault formats (format_of s))

-- each described format may stand beside these and those described before it
unfoldable pub may_all_stand : List Format → List FormatSettings → Bool
may_all_stand formats [] = true
may_all_stand formats (s ∷ settings) = may_stand formats s && may_all_stand (formats ++ format_of s ∷ []) settings

-- ---- it comes to the rules of all

abbrev prefixes : List Format → List (List ℕ)
prefixes formats = map (λ format. format.prefix) formats

prefixes-push : (formats : List Format) (format : Format) → prefixes (formats ++ format ∷ []) ≡ prefixes formats ++ format.prefix ∷ []
prefixes-push formats format = map-append (λ (f : Format). f.prefix) formats (format ∷ [])

is_some-if : (b : Bool) (format : Format) (later : Option Format) → is_some (if b then Some format else later) ≡ (b || is_some later)
is_some-if true format later = refl
is_some-if false format later = refl

is_some-format_named : (prefix : List ℕ) (formats : List Format) → is_some (format_named prefix formats) ≡ list_any (bytes_eq prefix) (prefixes formats)
unfolding format_named
is_some-format_named prefix [] = refl
is_some-format_named prefix (first ∷ formats) =
    is_some-if (bytes_eq first.prefix prefix) first (format_named prefix formats)
    ∙ rw (nat_list_eq_equiv.symm first.prefix prefix, is_some-format_named prefix formats) refl

-- the causes in their order, over the tests alone
no_cause : (named names uris twice below fields : Bool) → is_none (if named then Some Duplicate else (if not names then Some BadName else (if not uris then Some BadUri else (if twice then Some FieldTwice else (if not (below && fields) then Some TooMany else None))))) ≡ (not named && ((((names && uris) && fields) && not twice) && below))
no_cause true names uris twice below fields = refl
no_cause false false uris twice below fields = refl
no_cause false true false twice below fields = refl
no_cause false true true true below false = refl
no_cause false true true true below true = refl
no_cause false true true false false false = refl
no_cause false true true false false true = refl
no_cause false true true false true false = refl
no_cause false true true false true true = refl

-- a format may be declared just where its prefix is new, it keeps the rules, and there is room
may_declare : (formats : List Format) (format : Format) → is_none (declare_fault formats format) ≡ (not (list_any (bytes_eq format.prefix) (prefixes formats)) && (is_allowed format && nat_lt (length formats) 64))
unfolding declare_fault is_allowed
may_declare formats format =
    no_cause (is_some (format_named format.prefix formats)) (are_names format) (are_uris format) (has_repeat format.fields) (nat_lt (length formats) 64) (has_few_fields format)
    ∙ ap (λ (b : Bool). not b && (is_allowed format && nat_lt (length formats) 64)) (is_some-format_named format.prefix formats)

-- one format and those behind it, over the tests alone
step : (prefix among allowed room good repeat few rest : Bool) → (among ≡ true → repeat ≡ true) → (room ≡ false → few ≡ false) → (among ≡ false → room ≡ true → rest ≡ ((good && not repeat) && few)) → ((prefix && (not among && (allowed && room))) && rest) ≡ ((((prefix && allowed) && good) && not repeat) && few)
step false among allowed room good repeat few rest repeats full others = refl
step true true false room good repeat few rest repeats full others = refl
step true false false room good repeat few rest repeats full others = refl
step true true true room true repeat few rest repeats full others = rw (repeats refl) refl
step true true true room false repeat few rest repeats full others = refl
step true false true false true true few rest repeats full others = refl
step true false true false true false few rest repeats full others = sym (full refl)
step true false true false false repeat few rest repeats full others = refl
step true false true true good repeat few rest repeats full others = others refl refl

-- a prefix that stands already repeats
repeats : (old : List (List ℕ)) (prefix : List ℕ) (more : List (List ℕ)) → list_any (bytes_eq prefix) old ≡ true → has_repeat (old ++ prefix ∷ more) ≡ true
repeats [] prefix more among = absurd (false≢true among)
repeats (first ∷ old) prefix more among =
    elim (or_cases (bytes_eq prefix first) (list_any (bytes_eq prefix) old) among) [
      | inl here ↦ or_left _ _ (list_any-append (bytes_eq first) old (prefix ∷ more) ∙ or_right _ _ (or_left _ _ (nat_list_eq_equiv.symm first prefix ∙ here)))
      | inr later ↦ or_right _ _ (repeats old prefix more later)
    ]

full : (n k : ℕ) → nat_lt n 64 ≡ false → nat_le (n + suc k) 64 ≡ false
full n k h = grind (arith, nat_tests)

few_more : (n k : ℕ) → nat_le ((n + 1) + k) 64 ≡ nat_le (n + suc k) 64
few_more n k = ap (λ (x : ℕ). nat_le x 64) (omega arith)

-- all that are described, beside these
abbrev stand_beside : List Format → List FormatSettings → Bool
stand_beside formats settings =
    (list_all is_good_format settings && not (has_repeat (prefixes formats ++ prefixes_of settings))) && nat_le (length formats + length settings) 64

-- the end of a list of lists, one more of which went to the front
prefixes-more : (formats : List Format) (s : FormatSettings) (more : List (List ℕ)) → prefixes (formats ++ format_of s ∷ []) ++ more ≡ prefixes formats ++ s.prefix ∷ more
prefixes-more formats s more =
    ap (λ (ps : List (List ℕ)). ps ++ more) (prefixes-push formats (format_of s)) ∙ append_assoc (prefixes formats) (s.prefix ∷ []) more

still_apart : (formats : List Format) (s : FormatSettings) → has_repeat (prefixes formats) ≡ false → list_any (bytes_eq s.prefix) (prefixes formats) ≡ false → has_repeat (prefixes (formats ++ format_of s ∷ [])) ≡ false
still_apart formats s apart new =
    ap has_repeat (prefixes-push formats (format_of s)) ∙ has_repeat-push (prefixes formats) s.prefix ∙ or_from _ _ new apart

length-more : (formats : List Format) (format : Format) → length (formats ++ format ∷ []) ≡ length formats + 1
length-more formats format = length-append formats (format ∷ [])

below : (n : ℕ) → nat_lt n 64 ≡ true → n + 1 ≤ 64
below n h = grind (arith, nat_tests)

within : (n : ℕ) → n ≤ 64 → nat_le (n + 0) 64 ≡ true
within n h = grind (arith, nat_tests)

may_all_stand-is : (formats : List Format) (settings : List FormatSettings) → has_repeat (prefixes formats) ≡ false → length formats ≤ 64 → may_all_stand formats settings ≡ stand_beside formats settings
unfolding may_all_stand
may_all_stand-is formats [] apart few =
    let alone : has_repeat (prefixes formats ++ []) ≡ false = ap has_repeat (append-nil (prefixes formats)) ∙ apart in
    rw (alone, within (length formats) few) refl
may_all_stand-is formats (s ∷ settings) apart few =
    let old = prefixes formats in
    let more = prefixes_of settings in
    let others : list_any (bytes_eq s.prefix) old ≡ false → nat_lt (length formats) 64 ≡ true → may_all_stand (formats ++ format_of s ∷ []) settings ≡ ((list_all is_good_format settings && not (has_repeat (old ++ s.prefix ∷ more))) && nat_le (length formats + (suc (length settings))) 64) =
    λ new room.
    may_all_stand-is (formats ++ format_of s ∷ []) settings (still_apart formats s apart new) (rw (length-more formats (format_of s)) (below (length formats) room))
    ∙ ap (λ (ps : List (List ℕ)). (list_all is_good_format settings && not (has_repeat ps)) && nat_le (length (formats ++ format_of s ∷ []) + length settings) 64) (prefixes-more formats s more)
    ∙ ap (λ (n : ℕ). (list_all is_good_format settings && not (has_repeat (old ++ s.prefix ∷ more))) && nat_le (n + length settings) 64) (length-more formats (format_of s))
    ∙ ap (λ (b : Bool). (list_all is_good_format settings && not (has_repeat (old ++ s.prefix ∷ more))) && b) (few_more (length formats) (length settings)) in
    ap (λ (b : Bool). (may_be_prefix s.prefix && b) && may_all_stand (formats ++ format_of s ∷ []) settings) (may_declare formats (format_of s))
    ∙ step (may_be_prefix s.prefix) (list_any (bytes_eq s.prefix) old) (is_allowed (format_of s)) (nat_lt (length formats) 64) (list_all is_good_format settings) (has_repeat (old ++ s.prefix ∷ more)) (nat_le (length formats + (suc (length settings))) 64) (may_all_stand (formats ++ format_of s ∷ []) settings) (repeats old s.prefix more) (full (length formats) (length settings)) others

not_or : (good among repeat few : Bool) → ((good && not (among || repeat)) && few) ≡ ((good && (not among && not repeat)) && few)
not_or good true repeat few = refl
not_or good false repeat few = refl

one_fewer : (n : ℕ) → nat_le (1 + n) 64 ≡ nat_le n 63
one_fewer n = grind (arith, nat_tests)

-- declared one after the other beside oai_dc, they all stand just where they keep the rules of all
pub may_all_stand-all : (settings : List FormatSettings) → may_all_stand (dublin_core ∷ []) settings ≡ are_formats settings
unfolding are_formats
may_all_stand-all settings =
    let prefixes = prefixes_of settings in
    may_all_stand-is (dublin_core ∷ []) settings refl (omega arith)
    ∙ ap (λ (few : Bool). (list_all is_good_format settings && not (has_repeat (dublin_core.prefix ∷ prefixes))) && few) (one_fewer (length settings))
    ∙ not_or (list_all is_good_format settings) (is_among prefixes dublin_core.prefix) (has_repeat prefixes) (nat_le (length settings) 63)

-- ---- the next of those that are left

-- it was declared: the answer to all is that to the others
pub may_all_stand-more : (formats new : List Format) (s : FormatSettings) (left rest : List FormatSettings) → left ≡ s ∷ rest → may_stand formats s ≡ true → new ≡ formats ++ format_of s ∷ [] → may_all_stand new rest ≡ may_all_stand formats left
unfolding may_all_stand
may_all_stand-more formats new s left rest is stands made =
    sym (ap (may_all_stand formats) is ∙ ap (λ (b : Bool). b && may_all_stand (formats ++ format_of s ∷ []) rest) stands ∙ ap (λ (all : List Format). may_all_stand all rest) (sym made))

-- it may not be declared: neither may all
pub may_all_stand-not : (formats : List Format) (s : FormatSettings) (left rest : List FormatSettings) → left ≡ s ∷ rest → may_stand formats s ≡ false → may_all_stand formats left ≡ false
unfolding may_all_stand
may_all_stand-not formats s left rest is stands =
    ap (may_all_stand formats) is ∙ ap (λ (b : Bool). b && may_all_stand (formats ++ format_of s ∷ []) rest) stands

-- none is left
pub may_all_stand-none : (formats : List Format) → may_all_stand formats [] ≡ true
unfolding may_all_stand
may_all_stand-none formats = refl

-- the formats with those that are left, after one more
pub formats_of-more : (formats new : List Format) (s : FormatSettings) (left rest : List FormatSettings) → left ≡ s ∷ rest → new ≡ formats ++ format_of s ∷ [] → new ++ map format_of rest ≡ formats ++ map format_of left
formats_of-more formats new s left rest is made =
    ap (λ (all : List Format). all ++ map format_of rest) made ∙ append_assoc formats (format_of s ∷ []) (map format_of rest) ∙ ap (λ (those : List FormatSettings). formats ++ map format_of those) (sym is)

-- what a fault says of one format, it says of all
pub IsSettingsRefused-of_all : (fault : ConfigFault) (good bad all_bad : Type 0) → (bad → all_bad) → IsSettingsRefused fault good bad → IsSettingsRefused fault (Unit {0}) all_bad
IsSettingsRefused-of_all fault.NoMemory good bad all_bad so refused = tt
IsSettingsRefused-of_all fault.BadShape good bad all_bad so refused = (refused.0, so refused.1)
IsSettingsRefused-of_all fault.BadName good bad all_bad so refused = (refused.0, so refused.1)
IsSettingsRefused-of_all fault.BadFormat good bad all_bad so refused = (refused.0, so refused.1)
IsSettingsRefused-of_all fault.BadDate good bad all_bad so refused = (refused.0, so refused.1)
IsSettingsRefused-of_all fault.BadNumber good bad all_bad so refused = (refused.0, so refused.1)
