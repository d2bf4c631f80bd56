-- What no item can pass: a format or a set that the repository lacks selects nothing.
use Rattle.std.proofs.Common.{◌≡◌, ◌∙◌, ℕ, Bool, true, false, ◌&&◌, List, [], ◌∷◌, length, take, drop, codes, Option, None, Some, is_some, refl, sym, ap, arith}
use Rattle.std.specs.Prelude.{filter, find}
use Rattle.std.specs.List.{list_all}
use Rattle.std.specs.Str.{bytes_eq}
use Rattle.std.proofs.lemmas.Bool.{and_parts, and_right, cond-false, false_from_ne_true, true≢false}
use Rattle.std.proofs.lemmas.List.{take_all}
use Rattle.std.proofs.lemmas.Slice.Eq.{bytes_eq-Decides}
use Rattle.oai_names.specs.Sets.{HasSetsAbove, covers, has_set}
use Rattle.oai_names.proofs.Covering.{covers-Decides}
use Rattle.oai_item.specs.Formats.{format_named}
use Rattle.oai_item.specs.Item.{ItemState, Metadata, has_record, record_named}
use Rattle.oai_item.specs.Known.{has_format}
use Rattle.oai_item.specs.Membership.{is_in}
use Rattle.oai_item.specs.Selection.{Filter, is_in_given, passes, selected}
use Rattle.oai_repo.specs.Answers.{filter_of}
use Rattle.oai_settings.specs.Config.{RepositoryConfig}
use Rattle.oai_holdings.specs.Kept.{AreKept, is_well_kept}
use Rattle.oai_holdings.specs.Holdings.{Holdings, NamedSet}

-- what fails a test that all have to pass is not selected
none_selected : (asked : Filter) (p : ItemState → Bool) → ((item : ItemState) → p item ≡ true → passes asked item ≡ false)
    → (items : List ItemState) → list_all p items ≡ true → selected asked items ≡ []
unfolding selected
none_selected asked p fails [] h = refl
none_selected asked p fails (x ∷ items) h =
    let parts = and_parts (p x) (list_all p items) h in
    cond-false (passes asked x) (x ∷ filter (passes asked) items) (filter (passes asked) items) (fails x parts.0) ∙ none_selected asked p fails items parts.1

-- an item has no record in a format that the repository lacks
no_record : (config : RepositoryConfig) (prefix : List ℕ) (records : List Metadata) → format_named prefix config.formats ≡ None → list_all (has_format config.formats) records ≡ true
    → has_record prefix records ≡ false
unfolding record_named
no_record config prefix [] lacks known = refl
no_record config prefix (r ∷ records) lacks known =
    let parts = and_parts (has_format config.formats r) (list_all (has_format config.formats) records) known in
    ap is_some (cond-false (bytes_eq r.0 prefix) (Some r) (find (λ (m : Metadata). bytes_eq m.0 prefix) records)
    (false_from_ne_true (bytes_eq r.0 prefix) (λ same. true≢false (sym parts.0 ∙ ap (λ (p : List ℕ). is_some (format_named p config.formats)) ((bytes_eq-Decides r.0 prefix).0 same) ∙ ap is_some lacks))))
    ∙ no_record config prefix records lacks parts.1

well_formats : (config : RepositoryConfig) (sets : List NamedSet) (item : ItemState) → is_well_kept config sets item ≡ true → list_all (has_format config.formats) item.formats ≡ true
well_formats config sets item h =
    let size = and_parts _ _ h in
    let in_sets = and_parts _ (list_all (has_set sets) item.sets) size.0 in
    let fields = and_parts _ _ in_sets.0 in
    (and_parts (has_record (codes "oai_dc") item.formats) (list_all (has_format config.formats) item.formats) fields.0).1

well_sets : (config : RepositoryConfig) (sets : List NamedSet) (item : ItemState) → is_well_kept config sets item ≡ true → list_all (has_set sets) item.sets ≡ true
well_sets config sets item h =
    let size = and_parts _ _ h in
    (and_parts _ (list_all (has_set sets) item.sets) size.0).1

first_fails : (a b c d : Bool) → a ≡ false → (a && b && c && d) ≡ false
first_fails a b c d h = rw h refl

-- a format that the repository lacks selects nothing
pub unknown_format : (config : RepositoryConfig) (holdings : Holdings) (prefix : List ℕ) (from until set : Option (List ℕ)) → AreKept config holdings
    → format_named prefix config.formats ≡ None → selected (filter_of prefix from until set) holdings.items ≡ []
unknown_format config holdings prefix from until set kept lacks =
    none_selected (filter_of prefix from until set) (is_well_kept config holdings.sets)
    (λ item well. first_fails (has_record prefix item.formats) _ _ _ (no_record config prefix item.formats lacks (well_formats config holdings.sets item well)))
    holdings.items kept.well

-- an item in sets that are there is in no set that is not there
in_none : (sets : List NamedSet) (set : List ℕ) (specs : List (List ℕ)) → HasSetsAbove sets → has_set sets set ≡ false → list_all (has_set sets) specs ≡ true → is_in set specs ≡ false
unfolding is_in
in_none sets set [] above lacks there = refl
in_none sets set (spec ∷ specs) above lacks there =
    let parts = and_parts (has_set sets spec) (list_all (has_set sets) specs) there in
    let apart : covers set spec ≡ false = false_from_ne_true (covers set spec) (λ lies. true≢false (sym (above set spec parts.0 ((covers-Decides set spec).0 lies)) ∙ lacks)) in
    rw apart (in_none sets set specs above lacks parts.1)

-- a set that the repository lacks selects nothing
pub unknown_set : (config : RepositoryConfig) (holdings : Holdings) (prefix : List ℕ) (from until : Option (List ℕ)) (set : List ℕ) → AreKept config holdings
    → HasSetsAbove holdings.sets → has_set holdings.sets set ≡ false → selected (filter_of prefix from until (Some set)) holdings.items ≡ []
unknown_set config holdings prefix from until set kept above lacks =
    none_selected (filter_of prefix from until (Some set)) (is_well_kept config holdings.sets)
    (λ item well. and_right _ (is_in_given (Some set) item.sets) (in_none holdings.sets set item.sets above lacks (well_sets config holdings.sets item well)))
    holdings.items kept.well

-- all that is selected, from the first on
pub whole_part : (items : List ItemState) → take (length items) (drop 0 items) ≡ items
whole_part items = take_all (length items) items (omega arith)
