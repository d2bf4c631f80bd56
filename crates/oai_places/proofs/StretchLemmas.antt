-- Places that are counted, or of which the items are taken, several at once.
use Rattle.std.proofs.Common.{◌≡◌, ◌∙◌, ◌+◌, ◌-◌, ◌*◌, ◌<◌, ◌≤◌, ℕ, ℤ, Bool, List, [], ◌++◌, length, take, drop, get_or, sym, ap, subst, arith, append-nil, length-append, inl, inr}
use Rattle.std.specs.Prelude.{filter}
use Rattle.std.proofs.lemmas.Bool.{cases_lt}
use Rattle.std.proofs.lemmas.List.{drop-drop, drop_more, take-append-drop}
use Rattle.std.proofs.lemmas.List.Elements.{filter-append}
use Rattle.oai_item.specs.Item.{ItemState}
use Rattle.oai_item.specs.Selection.{Filter}
use Rattle.oai_places.specs.Directory.{IsDirectory}
use Rattle.oai_places.specs.Parts.{IsPartTaken}
use Rattle.oai_places.specs.Places.{Pages, PlaceState, is_wanted, items_at, items_on}
use Rattle.oai_places.specs.Searches.{StartsAt}
use Rattle.oai_places.specs.Sums.{IsStretch}
use Rattle.oai_places.proofs.GroupLemmas.{stretch_counted}
use Rattle.oai_places.proofs.PartLemmas.{taken_past}
use Rattle.oai_places.proofs.PlaceLemmas.{items_on-append, items_on-cons, items_on-nil}

-- the items of one place
pub one_place : (pages : Pages) (places : List PlaceState) (at : ℕ) (d : PlaceState) → at < length places → items_on pages (take 1 (drop at places)) ≡ items_at pages (get_or places at d)
one_place pages places at d within =
    ap (λ ps. items_on pages (take 1 ps)) (drop_more places at d within) ∙ items_on-cons pages (get_or places at d) []
    ∙ ap (λ xs. items_at pages (get_or places at d) ++ xs) (items_on-nil pages) ∙ append-nil (items_at pages (get_or places at d))

-- the items of some places, and of those behind
items_parts : (pages : Pages) (places : List PlaceState) (at len : ℕ) → items_on pages (take len (drop at places)) ++ items_on pages (drop (at + len) places) ≡ items_on pages (drop at places)
items_parts pages places at len =
    ap (λ ps. items_on pages (take len (drop at places)) ++ items_on pages ps) (sym (drop-drop len at places))
    ∙ sym (ap (items_on pages) (sym (take-append-drop len (drop at places))) ∙ items_on-append pages (take len (drop at places)) (drop len (drop at places)))

pub counting_on : (p : ItemState → Bool) (pages now : Pages) (places : List PlaceState) (at len total n whole : ℕ) → now ≡ pages
    → total + length (filter p (items_on pages (drop at places))) ≡ whole → n ≡ length (filter p (items_on now (take len (drop at places))))
    → (total + n) + length (filter p (items_on pages (drop (at + len) places))) ≡ whole
counting_on p pages now places at len total n whole same h counted =
    let own : List ItemState = items_on pages (take len (drop at places)) in
    let rest : List ItemState = items_on pages (drop (at + len) places) in
    let here : n ≡ length (filter p own) = counted ∙ ap (λ (g : Pages). length (filter p (items_on g (take len (drop at places))))) same in
    omega (arith, h, here, ap (λ xs. length (filter p xs)) (items_parts pages places at len), ap length (filter-append p own rest), length-append (filter p own) (filter p rest))

pub taking_on : (p : ItemState → Bool) (pages now : Pages) (places : List PlaceState) (at len most skip left : ℕ) (old new whole : List ItemState) → now ≡ pages
    → old ++ take (most - length old) (drop skip (filter p (items_on pages (drop at places)))) ≡ whole → IsPartTaken p most old new skip left (items_on now (take len (drop at places)))
    → new ++ take (most - length new) (drop left (filter p (items_on pages (drop (at + len) places)))) ≡ whole
taking_on p pages now places at len most skip left old new whole same h taken =
    let rest : List ItemState = items_on pages (drop (at + len) places) in
    let joined : items_on now (take len (drop at places)) ++ rest ≡ items_on pages (drop at places) =
    ap (λ (g : Pages). items_on g (take len (drop at places)) ++ rest) same ∙ items_parts pages places at len in
    taken rest ∙ ap (λ zs. old ++ take (most - length old) (drop skip (filter p zs))) joined ∙ h

-- places that are passed over
pub stretch_number : (pages : Pages) (places : List PlaceState) (asked : Filter) (stamp : ℤ) (identifier : List ℕ) (at len n : ℕ) → IsDirectory pages places → IsStretch places asked stamp identifier at len n
    → n ≡ length (filter (is_wanted asked stamp identifier) (items_on pages (take len (drop at places))))
stretch_number pages places asked stamp identifier at len n h stretch = (stretch_counted pages places asked stamp identifier at len n h stretch.within stretch.known).0

pub stretch_few : (pages : Pages) (places : List PlaceState) (asked : Filter) (stamp : ℤ) (identifier : List ℕ) (at len n : ℕ) → IsDirectory pages places → IsStretch places asked stamp identifier at len n
    → n ≤ 4_294_967_295 * len
stretch_few pages places asked stamp identifier at len n h stretch = omega (arith, (stretch_counted pages places asked stamp identifier at len n h stretch.within stretch.known).1)

-- where so many are to be skipped, all of them are
pub stretch_past : (pages : Pages) (places : List PlaceState) (asked : Filter) (stamp : ℤ) (identifier : List ℕ) (at len n most : ℕ) (part : List ItemState) (skip : ℕ) → IsDirectory pages places
    → n ≤ skip → IsStretch places asked stamp identifier at len n → IsPartTaken (is_wanted asked stamp identifier) most part part skip (skip - n) (items_on pages (take len (drop at places)))
stretch_past pages places asked stamp identifier at len n most part skip h past stretch =
    let wanted = is_wanted asked stamp identifier in
    let own : List ItemState = items_on pages (take len (drop at places)) in
    let is = stretch_number pages places asked stamp identifier at len n h stretch in
    subst (λ (m : ℕ). IsPartTaken wanted most part part skip (skip - m) own) (sym is) (taken_past wanted most part skip own (omega (arith, is, past)))

-- a search does not begin behind the last place
pub starts_within : (places : List PlaceState) (asked : Filter) (stamp : ℤ) (identifier : List ℕ) (at : ℕ) → StartsAt places asked stamp identifier at → at ≤ length places
starts_within places asked stamp identifier at starts =
    elim (cases_lt 0 (length places)) [
      | inl some ↦ omega (arith, starts.within some)
      | inr none ↦ omega (arith, starts.first (omega (arith, none)))
    ]
