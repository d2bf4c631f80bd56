-- Items that are picked from those bytes of a page within which the items of a set stand.
use Rattle.std.proofs.Common.{◌≡◌, ◌∙◌, ◌+◌, ◌-◌, ◌≤◌, ℕ, ℤ, Bool, List, [], ◌++◌, Option, None, Some, Result, Ok, Err, unwrap_or, length, take, drop, get_or, refl, sym, ap, subst, arith, append_assoc}
use Rattle.std.specs.Prelude.{filter, option_map, replicate}
use Rattle.std.specs.Option.{option_flatten}
use Rattle.std.proofs.lemmas.List.{drop-drop, drop_at, take-append-drop, take-take, take_at}
use Rattle.std.proofs.lemmas.Option.{same_Some}
use Rattle.oai_device.specs.Device.{range_of}
use Rattle.oai_item.specs.Item.{ItemState}
use Rattle.oai_item.specs.Membership.{is_in}
use Rattle.oai_item.specs.Selection.{Filter, is_in_given}
use Rattle.oai_item.specs.declared.decodings.DecodeFault.{DecodeFault}
use Rattle.oai_item.specs.declared.decodings.DecodeFault.TheVariants.{Damaged, NoMemory}
use Rattle.oai_sums.specs.Sums.{SetTotal, count_in_set, span_in}
use Rattle.oai_sums.specs.declared.spans.Span.{Span}
use Rattle.oai_places.specs.Entries.{ending_by}
use Rattle.oai_places.specs.Pages.{AreStorable, IsPage, between, entries_of, size_of}
use Rattle.oai_places.specs.Parts.{IsPartTaken}
use Rattle.oai_places.specs.Picking.{IsPickable, IsPicking}
use Rattle.oai_places.specs.Places.{AreSetCounts, IsSoundPlace, Pages, PlaceState, is_wanted, items_at, span_at}
use Rattle.oai_places.specs.declared.sizes.TheConstants.{MAX_ENTRY_BYTES}
use Rattle.oai_places.proofs.EntryLemmas.{entries_of-append, size_is, size_of-between, storable-between}
use Rattle.oai_places.proofs.PartLemmas.{fewer, taken_both, taken_past}
use Rattle.oai_places.proofs.ReadLemmas.{page_read}
use Rattle.oai_places.proofs.ReadPlaces.{page_of_one}
use Rattle.oai_places.proofs.ShortLemmas.{fit_parts}
use Rattle.oai_places.proofs.SpanLemmas.{StandBetween, by_places}
use Rattle.oai_places.proofs.WantedLemmas.{given_from}

-- ---- where the items of a set stand

-- a set is asked for, and its items stand within the span, from the one place up to the other
pub record HasSpan (asked : Option (List ℕ)) (items : List ItemState) (span : Span) : Type 0 where
  pub set : List ℕ
  pub given : asked ≡ Some set
  pub stands : StandBetween set items span (ending_by span.from items) (ending_by span.to items)

pub span_known : (place : PlaceState) (asked : Option (List ℕ)) (span : Span) (items : List ItemState) → AreSetCounts place.sets items → size_of items ≤ MAX_ENTRY_BYTES → span_at place asked ≡ Some span → HasSpan asked items span
span_known place None span items sets fits known = let no : None ≡ Some span = known in absurd cc
span_known place (Some set) span items sets fits known = by_totals place.sets refl where
  told : Option (List SetTotal) → Option Span
  told totals = option_flatten (option_map (span_in set) totals)

  by_totals : (totals : Option (List SetTotal)) → place.sets ≡ totals → HasSpan (Some set) items span
  by_totals None is = let no : None ≡ Some span = ap told (sym is) ∙ known in absurd cc
  by_totals (Some totals) is = record {
    set = set;
    given = refl;
    stands = by_places set items span ((sets totals is).spans fits set span (ap told (sym is) ∙ known));
  }

-- ---- what is taken of them is taken of all

-- where none of the items is in the set that is asked for, none is wanted
none_wanted : (asked : Filter) (stamp : ℤ) (identifier set : List ℕ) (items : List ItemState) → asked.set ≡ Some set → count_in_set set items ≡ 0 → length (filter (is_wanted asked stamp identifier) items) ≡ 0
unfolding count_in_set
none_wanted asked stamp identifier set items given none =
    let few = fewer (is_wanted asked stamp identifier) (λ (x : ItemState). is_in set x.sets)
    (λ x wanted. ap (λ (s : Option (List ℕ)). is_in_given s x.sets) (sym given) ∙ given_from asked stamp identifier x wanted) items in
    omega (arith, none, few)

-- items of which none passes
taken_none : (p : ItemState → Bool) (most : ℕ) (part : List ItemState) (skip : ℕ) (items : List ItemState) → length (filter p items) ≡ 0 → IsPartTaken p most part part skip skip items
taken_none p most part skip items none =
    let same : skip - length (filter p items) ≡ skip = omega (arith, none) in
    subst (λ (left : ℕ). IsPartTaken p most part part skip left items) same (taken_past p most part skip items (omega (arith, none)))

-- the items are those before, within and behind a span
span_parts : (first end : ℕ) (items : List ItemState) → first ≤ end → take first items ++ (between first end items ++ drop end items) ≡ items
unfolding between
span_parts first end items order =
    ap (λ front. front ++ (drop first (take end items) ++ drop end items)) (sym (take-take first end items order))
    ∙ sym (append_assoc (take first (take end items)) (drop first (take end items)) (drop end items))
    ∙ ap (λ front. front ++ drop end items) (take-append-drop first (take end items))
    ∙ take-append-drop end items

taken_within : (p : ItemState → Bool) (most : ℕ) (old new : List ItemState) (skip left : ℕ) (items : List ItemState) (first end : ℕ) → first ≤ end
    → length (filter p (take first items)) ≡ 0 → length (filter p (drop end items)) ≡ 0 → IsPartTaken p most old new skip left (between first end items) → IsPartTaken p most old new skip left items
taken_within p most old new skip left items first end order before behind taken =
    subst (λ (xs : List ItemState). IsPartTaken p most old new skip left xs) (span_parts first end items order)
    (taken_both p most old old new skip skip left (take first items) (between first end items ++ drop end items) (taken_none p most old skip (take first items) before)
    (taken_both p most old new new skip left left (between first end items) (drop end items) taken (taken_none p most new left (drop end items) behind)))

-- ---- the bytes of the span

span_bytes : (bytes : List ℕ) (items : List ItemState) (first end from to : ℕ) → IsPage bytes items → first ≤ end → from ≡ size_of (take first items) → to ≡ size_of (take end items)
    → take (to - from) (drop (4 + from) bytes) ≡ entries_of (between first end items)
span_bytes bytes items first end from to page order starts ends =
    let front : List ℕ = entries_of (take first items) in
    let within : List ℕ = entries_of (between first end items) in
    let back : List ℕ = entries_of (drop end items) in
    let zeros : List ℕ = replicate (length bytes - 4 - size_of items) 0 in
    let parts : entries_of items ≡ front ++ (within ++ back) =
    ap entries_of (sym (span_parts first end items order)) ∙ entries_of-append (take first items) (between first end items ++ drop end items)
    ∙ ap (λ bs. front ++ bs) (entries_of-append (between first end items) (drop end items))
    in
    let all : drop 4 bytes ≡ front ++ (within ++ (back ++ zeros)) =
    (page_read bytes items page).1 ∙ ap (λ bs. bs ++ zeros) parts ∙ append_assoc front (within ++ back) zeros ∙ ap (λ bs. front ++ bs) (append_assoc within back zeros)
    in
    let before : length front ≡ from = size_is front (take first items) refl ∙ sym starts in
    let long : length within ≡ to - from = omega (arith, size_is within (between first end items) refl, size_of-between items first end order, starts, ends) in
    let there : drop (4 + from) bytes ≡ within ++ (back ++ zeros) = sym (drop-drop from 4 bytes) ∙ ap (drop from) all ∙ drop_at front (within ++ (back ++ zeros)) from before in
    ap (take (to - from)) there ∙ take_at within (back ++ zeros) (to - from) long

-- the items whose entries the span has
abbrev pub stretch : Span → List ItemState → List ItemState
stretch span items = between (ending_by span.from items) (ending_by span.to items) items

-- what was read of the page of a place that has one
span_read : (pages : Pages) (p : PlaceState) (numbers bytes : List ℕ) (asked : Option (List ℕ)) (span : Span) → numbers ≡ p.pages → length p.pages ≤ 1 → IsSoundPlace pages p → HasSpan asked (items_at pages p) span
    → range_of (4 + span.from) (span.to - span.from) (pages (get_or numbers 0 0)) ≡ Some bytes → bytes ≡ entries_of (stretch span (items_at pages p))
span_read pages p numbers bytes asked span same one sound h read = by_page (pages (get_or numbers 0 0)) refl where
  by_page : (page : Option (List ℕ)) → pages (get_or numbers 0 0) ≡ page → bytes ≡ entries_of (stretch span (items_at pages p))
  by_page None is = let no : None ≡ Some bytes = ap (range_of (4 + span.from) (span.to - span.from)) (sym is) ∙ read in absurd cc
  by_page (Some page) is =
      let own : IsPage page (items_at pages p) = page_of_one pages p numbers page same one sound (ap (λ (o : Option (List ℕ)). unwrap_or o []) (sym is)) in
      sym (same_Some _ _ (ap (range_of (4 + span.from) (span.to - span.from)) (sym is) ∙ read))
      ∙ span_bytes page (items_at pages p) (ending_by span.from (items_at pages p)) (ending_by span.to (items_at pages p)) span.from span.to own h.stands.order h.stands.from h.stands.to

-- ---- what is picked of these bytes is what is picked of the items of the place

pub span_picked : (pages : Pages) (p : PlaceState) (numbers read entries : List ℕ) (asked : Filter) (stamp : ℤ) (identifier : List ℕ) (span : Span) (most : ℕ) (old new : List ItemState) (skip : ℕ) (result : Result ℕ DecodeFault)
    → numbers ≡ p.pages → IsSoundPlace pages p → IsPickable p asked.set span → range_of (4 + span.from) (span.to - span.from) (pages (get_or numbers 0 0)) ≡ Some read → entries ≡ read
    → ((items : List ItemState) → AreStorable items → entries ≡ entries_of items → IsPicking (is_wanted asked stamp identifier) most old new skip items result)
    → IsPicking (is_wanted asked stamp identifier) most old new skip (items_at pages p) result
span_picked pages p numbers read entries asked stamp identifier span most old new skip result same sound h part whole picked =
    of_all result (picked within (storable-between first end items sound.page.fit.storable) (whole ∙ span_read pages p numbers read asked.set span same h.one sound known part)) where
      items : List ItemState
      items = items_at pages p

      first : ℕ
      first = ending_by span.from items

      end : ℕ
      end = ending_by span.to items

      known : HasSpan asked.set items span
      known = span_known p asked.set span items sound.sets (fit_parts items (sound.many.one h.one)).0 h.known

      within : List ItemState
      within = stretch span items

      of_all : (result : Result ℕ DecodeFault) → IsPicking (is_wanted asked stamp identifier) most old new skip within result → IsPicking (is_wanted asked stamp identifier) most old new skip items result
      of_all (Ok left) taken =
          taken_within (is_wanted asked stamp identifier) most old new skip left items first end known.stands.order
          (none_wanted asked stamp identifier known.set (take first items) known.given known.stands.before)
          (none_wanted asked stamp identifier known.set (drop end items) known.given known.stands.behind) taken
      of_all (Err Damaged) damaged = damaged
      of_all (Err NoMemory) refused = tt
