-- The prefixes of which each of some items has a record.
use Rattle.std.proofs.Common.{◌≡◌, ◌∙◌, ◌+◌, ◌<◌, ◌≤◌, ℕ, Bool, true, false, ◌&&◌, List, [], ◌∷◌, ◌++◌, Option, Some, is_some, length, take, drop, get_or, refl, ap, arith}
use Rattle.std.specs.Prelude.{filter, find, map}
use Rattle.std.specs.List.{list_all}
use Rattle.std.specs.Str.{bytes_eq}
use Rattle.std.proofs.Math.Bool.{and-true}
use Rattle.std.proofs.lemmas.Bool.{and_from, cond-true, cond_both}
use Rattle.std.proofs.lemmas.List.{drop-append-le, drop_at, length-take-le, take_more}
use Rattle.std.proofs.lemmas.List.Folds.{list_all-append}
use Rattle.std.proofs.lemmas.Slice.Eq.{bytes_eq-Decides}
use Rattle.oai_names.proofs.Lists.{all-filter, all-filter_same, all-weaker}
use Rattle.oai_item.specs.Item.{ItemState, Metadata, has_record, record_named}
use Rattle.oai_places.specs.Pages.{between}
use Rattle.oai_places.specs.Places.{have_records}

-- ---- the prefixes of an item's own records

has_first : (format : Metadata) (formats : List Metadata) → has_record format.0 (format ∷ formats) ≡ true
unfolding record_named
has_first format formats =
    ap is_some (cond-true (bytes_eq format.0 format.0) (Some format) (find (λ (other : Metadata). bytes_eq other.0 format.0) formats) ((bytes_eq-Decides format.0 format.0).1 refl))

has_later : (format : Metadata) (formats : List Metadata) (prefix : List ℕ) → has_record prefix formats ≡ true → has_record prefix (format ∷ formats) ≡ true
unfolding record_named
has_later format formats prefix h =
    cond_both (bytes_eq format.0 prefix) (Some format) (find (λ (other : Metadata). bytes_eq other.0 prefix) formats) (λ (found : Option Metadata). is_some found ≡ true) (λ _. refl) (λ _. h)

own : (formats : List Metadata) → list_all (λ prefix. has_record prefix formats) (map (λ (format : Metadata). format.0) formats) ≡ true
own [] = refl
own (format ∷ formats) =
    and_from (has_record format.0 (format ∷ formats)) (list_all (λ prefix. has_record prefix (format ∷ formats)) (map (λ (other : Metadata). other.0) formats)) (has_first format formats)
    (all-weaker (λ (prefix : List ℕ). has_record prefix formats) (λ prefix. has_record prefix (format ∷ formats)) (has_later format formats) (map (λ (other : Metadata). other.0) formats) (own formats))

-- an item has a record of each of its own
pub own_records : (prefixes : List (List ℕ)) (item : ItemState) (items : List ItemState) → prefixes ≡ map (λ (format : Metadata). format.0) item.formats → items ≡ item ∷ [] → have_records prefixes items ≡ true
unfolding have_records
own_records prefixes item items p e =
    ap (λ (xs : List ItemState). list_all (λ (other : ItemState). list_all (λ prefix. has_record prefix other.formats) prefixes) xs) e
    ∙ and_from (list_all (λ prefix. has_record prefix item.formats) prefixes) true (ap (list_all (λ (prefix : List ℕ). has_record prefix item.formats)) p ∙ own item.formats) refl

-- ---- one item more

pub common_records : (prefixes kept : List (List ℕ)) (items more : List ItemState) (item : ItemState) → have_records prefixes items ≡ true → kept ≡ filter (λ prefix. has_record prefix item.formats) prefixes
    → more ≡ items ++ item ∷ [] → have_records kept more ≡ true
unfolding have_records
common_records prefixes kept items more item h k e =
    let has : ItemState → List ℕ → Bool = λ other prefix. has_record prefix other.formats in
    let left : List (List ℕ) = filter (has item) prefixes in
    let all : ItemState → Bool = λ other. list_all (has other) left in
    let front : list_all all items ≡ true =
    all-weaker (λ (other : ItemState). list_all (has other) prefixes) all (λ other g. all-filter (has other) (has item) prefixes g) items h
    in
    (λ i. list_all (λ (other : ItemState). list_all (has other) (k i)) (e i)) ∙ list_all-append all items (item ∷ [])
    ∙ and_from (list_all all items) (list_all all (item ∷ [])) front (and_from (all item) true (all-filter_same (has item) prefixes) refl)

-- no item lacks a record; and one item more has a record of each, or one before it had none of one
pub no_items : (prefixes : List (List ℕ)) → have_records prefixes [] ≡ true
unfolding have_records
no_items prefixes = refl

has_each : List (List ℕ) → ItemState → Bool
has_each prefixes item = list_all (λ prefix. has_record prefix item.formats) prefixes

joined_records : (prefixes : List (List ℕ)) (items more : List ItemState) (item : ItemState) → more ≡ items ++ item ∷ []
    → have_records prefixes more ≡ (have_records prefixes items && (has_each prefixes item && true))
unfolding have_records has_each
joined_records prefixes items more item e = ap (list_all (has_each prefixes)) e ∙ list_all-append (has_each prefixes) items (item ∷ [])

pub all_records : (prefixes : List (List ℕ)) (items more : List ItemState) (item : ItemState) → have_records prefixes items ≡ true → more ≡ items ++ item ∷ []
    → have_records prefixes more ≡ list_all (λ prefix. has_record prefix item.formats) prefixes
unfolding has_each
all_records prefixes items more item h e =
    joined_records prefixes items more item e ∙ ap (λ b. b && (has_each prefixes item && true)) h ∙ and-true (has_each prefixes item)

pub lacks_records : (prefixes : List (List ℕ)) (items more : List ItemState) (item : ItemState) → have_records prefixes items ≡ false → more ≡ items ++ item ∷ [] → have_records prefixes more ≡ false
lacks_records prefixes items more item h e = joined_records prefixes items more item e ∙ ap (λ b. b && (has_each prefixes item && true)) h

pub between_one : (items : List ItemState) (at : ℕ) (d : ItemState) → at < length items → between at (at + 1) items ≡ get_or items at d ∷ []
unfolding between
between_one items at d within =
    ap (drop at) (take_more items at d within) ∙ drop_at (take at items) (get_or items at d ∷ []) at (length-take-le at items (omega (arith, within)))

pub between_more : (items : List ItemState) (from at : ℕ) (d : ItemState) → from ≤ at → at < length items → between from (at + 1) items ≡ between from at items ++ get_or items at d ∷ []
unfolding between
between_more items from at d order within =
    ap (drop from) (take_more items at d within) ∙ drop-append-le from (take at items) (get_or items at d ∷ []) (omega (arith, order, within, length-take-le at items (omega (arith, within))))
