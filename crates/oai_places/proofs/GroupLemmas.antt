-- Groups of places: what is known of their sum is known of each place, and so of its items.
use Rattle.std.proofs.Common.{◌≡◌, ◌∙◌, ◌+◌, ◌*◌, ◌<◌, ◌≤◌, ◌<ℤ◌, ◌≤ℤ◌, ◌⊎◌, inl, inr, ⊎_elim, ℕ, ℤ, suc, zero, Bool, true, false, ◌&&◌, List, [], ◌∷◌, ◌++◌, length, take, drop, get_or, Option, None, Some, unwrap_or, refl, sym, ap, subst, arith, length-append}
use Rattle.std.specs.Prelude.{filter, int_le, is_some, option_map, sum_by}
use Rattle.std.specs.List.{AllByRecursion, list_all}
use Rattle.std.specs.Ordering.{int_cmp, is_gt, nat_cmp, ordering_then}
use Rattle.std.specs.declared.cmp.Ordering.{Ordering}
use Rattle.std.specs.declared.cmp.Ordering.TheVariants.{Greater}
use Rattle.std.specs.Cmp.{int_cmp_is}
use Rattle.std.specs.Cmp.Lexicographic.{slice_cmp}
use Rattle.std.specs.Str.{bytes_eq}
use lib.Signed.{le_z}
use Rattle.std.proofs.lemmas.Bool.{and_parts, false≢true, or_cases}
use Rattle.std.proofs.lemmas.Int.{ints}
use Rattle.std.proofs.lemmas.List.{drop-drop, drop_more}
use Rattle.std.proofs.lemmas.List.Elements.{filter-append}
use Rattle.std.proofs.lemmas.List.Sums.{sum_by-cons}
use Rattle.std.proofs.lemmas.Slice.Eq.{bytes_eq-Decides}
use Rattle.oai_names.proofs.Lists.{all-weaker}
use Rattle.oai_names.specs.Names.{is_among}
use Rattle.oai_item.specs.Item.{ItemState}
use Rattle.oai_item.specs.Selection.{Filter}
use Rattle.oai_sums.specs.Sums.{SetTotal, counted_in}
use Rattle.oai_places.specs.Directory.{IsDirectory}
use Rattle.oai_places.specs.Parts.{EndsBy, IsInside}
use Rattle.oai_places.specs.Places.{Pages, PlaceState, first_cmp, is_wanted, items_at, items_on, known_in}
use Rattle.oai_places.specs.Sums.{AreKnown, IsStretch, AreTotals, IsSum, IsSumInside, SumState, counted_at, have_prefixes, known_in_sum}
use Rattle.oai_places.specs.declared.sizes.TheConstants.{MAX_ENTRY_BYTES}
use Rattle.oai_places.proofs.DirectoryLemmas.{no_place}
use Rattle.oai_places.proofs.InsidePlaces.{known_counted, known_few}
use Rattle.oai_places.proofs.PlaceLemmas.{items_on-cons, items_on-nil}

-- ---- numbers of each place

-- how many items of the place are known to be in the set, where one is given
abbrev number_at : Option (List ℕ) → PlaceState → ℕ
number_at set place = unwrap_or (known_in place set) 0

abbrev is_known : Option (List ℕ) → PlaceState → Bool
is_known set place = is_some (known_in place set)

record AreNumbered (set : Option (List ℕ)) (places : List PlaceState) (n : ℕ) : Type 0 where
  known : list_all (is_known set) places ≡ true
  number : sum_by (number_at set) places ≡ n

all_lengths : (places : List PlaceState) → list_all (is_known None) places ≡ true
all_lengths [] = refl
all_lengths (place ∷ places) = all_lengths places

sum_lengths : (places : List PlaceState) → sum_by (number_at None) places ≡ sum_by (λ (place : PlaceState). place.len) places
sum_lengths [] = refl
sum_lengths (place ∷ places) =
    sum_by-cons (number_at None) place places ∙ ap (λ n. place.len + n) (sum_lengths places) ∙ sym (sum_by-cons (λ (p : PlaceState). p.len) place places)

known_sets : (set : List ℕ) (sets : Option (List SetTotal)) → is_some (option_map (counted_in set) sets) ≡ is_some sets
known_sets set None = refl
known_sets set (Some totals) = refl

number_sets : (set : List ℕ) (sets : Option (List SetTotal)) → unwrap_or (option_map (counted_in set) sets) 0 ≡ counted_at set sets
number_sets set None = refl
number_sets set (Some totals) = refl

all_sets : (set : List ℕ) (places : List PlaceState) → list_all (is_known (Some set)) places ≡ list_all (λ (place : PlaceState). is_some place.sets) places
all_sets set [] = refl
all_sets set (place ∷ places) = λ i. known_sets set place.sets i && all_sets set places i

sum_sets : (set : List ℕ) (places : List PlaceState) → sum_by (number_at (Some set)) places ≡ sum_by (λ (place : PlaceState). counted_at set place.sets) places
sum_sets set [] = refl
sum_sets set (place ∷ places) =
    sum_by-cons (number_at (Some set)) place places ∙ (λ i. number_sets set place.sets i + sum_sets set places i) ∙ sym (sum_by-cons (λ (p : PlaceState). counted_at set p.sets) place places)

some_one : {A : Type 0} (a b : A) → Some a ≡ Some b → a ≡ b
some_one a b e = cc

-- of each place of a sum it is known how many of its items are in the set, where one is given
numbered : (sum : SumState) (set : Option (List ℕ)) (places : List PlaceState) (n : ℕ) → IsSum sum places → known_in_sum sum set ≡ Some n → AreNumbered set places n
numbered sum None places n h is = record { known = all_lengths places; number = sum_lengths places ∙ h.items ∙ some_one sum.items n is }
numbered sum (Some set) places n h is = by_sets sum.sets h.sets is where
  by_sets : (sets : Option (List SetTotal)) → ((totals : List SetTotal) → sets ≡ Some totals → AreTotals totals places) → option_map (counted_in set) sets ≡ Some n → AreNumbered (Some set) places n
  by_sets None totals e = absurd (let no : ⊥ = cc in no)
  by_sets (Some totals) so e = record {
    known = all_sets set places ∙ (so totals refl).known;
    number = sum_sets set places ∙ (so totals refl).numbers set ∙ some_one (counted_in set totals) n e;
  }

-- ---- all places inside

record AreInside (places next : List PlaceState) (asked : Filter) (stamp : ℤ) (identifier : List ℕ) : Type 0 where
  lower : list_all (λ (place : PlaceState). int_le asked.lower place.stamp) places ≡ true
  behind : list_all (λ (place : PlaceState). is_gt (first_cmp place stamp identifier)) places ≡ true
  prefix : list_all (λ (place : PlaceState). is_among place.prefixes asked.prefix) places ≡ true
  upper : list_all (λ (place : PlaceState). int_le place.stamp asked.upper) places ≡ true
  ends : EndsBy next asked.upper

le_left : (a b c : ℤ) → a ≤ℤ b → int_le b c ≡ true → int_le a c ≡ true
le_left a b c ab bc = grind (arith, ints)

le_right : (a b c : ℤ) → int_le a b ≡ true → b ≤ℤ c → int_le a c ≡ true
le_right a b c ab bc = grind (arith, ints)

le_from : (a b : ℤ) → int_le a b ≡ true → a ≤ℤ b
le_from a b ab = grind (arith, ints)

lt_left : (a b c : ℤ) → a <ℤ b → int_le b c ≡ true → a <ℤ c
lt_left a b c ab bc = grind (arith, ints)

not_le : (a b : ℤ) → le_z b a ≡ false → a <ℤ b
not_le a b h = grind (arith, ints)

pub lower_than : (a b y : ℤ) → le_z b a ≡ false → b ≡ y → a <ℤ y
lower_than a b y test is = subst (λ (v : ℤ). a <ℤ v) is (not_le a b test)

greater_then : (o p : Ordering) → o ≡ Greater → is_gt (ordering_then o p) ≡ true
greater_then o p is = ap (λ r. is_gt (ordering_then r p)) is

later : (place : PlaceState) (stamp : ℤ) (identifier : List ℕ) → stamp <ℤ place.stamp → is_gt (first_cmp place stamp identifier) ≡ true
later place stamp identifier lt = greater_then (int_cmp place.stamp stamp) (slice_cmp nat_cmp place.identifier identifier) (sym (int_cmp_is place.stamp stamp Greater lt))

each_has : (prefix : List ℕ) (prefixes : List (List ℕ)) (places : List PlaceState) → have_prefixes prefixes places ≡ true → is_among prefixes prefix ≡ true
    → list_all (λ (place : PlaceState). is_among place.prefixes prefix) places ≡ true
each_has prefix [] places h among = absurd (false≢true among)
each_has prefix (own ∷ prefixes) places h among =
    let parts = and_parts _ (have_prefixes prefixes places) h in
    elim (or_cases (bytes_eq prefix own) (is_among prefixes prefix) among) [
      | inl same ↦ subst (λ (q : List ℕ). list_all (λ (place : PlaceState). is_among place.prefixes q) places ≡ true) (sym ((bytes_eq-Decides prefix own).0 same)) parts.0
      | inr rest ↦ each_has prefix prefixes places parts.1 rest
    ]

inside : (sum : SumState) (places next : List PlaceState) (asked : Filter) (stamp : ℤ) (identifier : List ℕ) → IsSum sum places → IsSumInside sum next asked stamp identifier
    → AreInside places next asked stamp identifier
inside sum places next asked stamp identifier h so = record {
  lower = all-weaker (λ (place : PlaceState). int_le sum.least place.stamp) (λ place. int_le asked.lower place.stamp) (λ place le. le_left asked.lower sum.least place.stamp so.lower le) places h.least;
  behind = all-weaker (λ (place : PlaceState). int_le sum.least place.stamp) (λ place. is_gt (first_cmp place stamp identifier))
      (λ place le. later place stamp identifier (lt_left stamp sum.least place.stamp so.behind le)) places h.least;
  prefix = each_has asked.prefix sum.prefixes places h.prefixes so.prefix;
  upper = all-weaker (λ (place : PlaceState). int_le place.stamp sum.greatest) (λ place. int_le place.stamp asked.upper) (λ place le. le_right place.stamp sum.greatest asked.upper le so.greatest) places h.greatest;
  ends = so.upper;
}

-- ---- place by place

known_some : (o : Option ℕ) → is_some o ≡ true → o ≡ Some (unwrap_or o 0)
known_some None h = absurd (false≢true h)
known_some (Some n) h = refl

next_ends : (len : ℕ) (places next : List PlaceState) (asked : Filter) → list_all (λ (place : PlaceState). int_le place.stamp asked.upper) (take len places) ≡ true → EndsBy (drop len places) asked.upper
    → EndsBy places asked.upper
next_ends zero places next asked h ends = ends
next_ends (suc len) [] next asked h ends = ends
next_ends (suc len) (place ∷ places) next asked h ends =
    le_from place.stamp asked.upper (and_parts (int_le place.stamp asked.upper) (list_all (λ (p : PlaceState). int_le p.stamp asked.upper) (take len places)) h).0

any_get : (places : List PlaceState) (at : ℕ) (d e : PlaceState) → at < length places → get_or places at d ≡ get_or places at e
any_get [] at d e within = absurd (omega arith)
any_get (place ∷ places) zero d e within = refl
any_get (place ∷ places) (suc at) d e within = any_get places at d e (omega arith)

all_known : (places : List PlaceState) (asked : Filter) (stamp : ℤ) (identifier : List ℕ) (at len n : ℕ) → at + len ≤ length places → AreNumbered asked.set (take len (drop at places)) n
    → (n ≡ 0) ⊎ AreInside (take len (drop at places)) (drop (at + len) places) asked stamp identifier → AreKnown places asked stamp identifier at len n
all_known places asked stamp identifier at zero n within h so = sym h.number
all_known places asked stamp identifier at (suc len) n within h so =
    let q : PlaceState = get_or places at no_place in
    let rest = take len (drop (at + 1) places) in
    let there : at < length places = omega (arith, within) in
    let cut : take (suc len) (drop at places) ≡ q ∷ rest = ap (take (suc len)) (drop_more places at no_place there) in
    let own = number_at asked.set q in
    let left = sum_by (number_at asked.set) rest in
    let all = and_parts (is_known asked.set q) (list_all (is_known asked.set) rest) (sym (ap (list_all (is_known asked.set)) cut) ∙ h.known) in
    let number : own + left ≡ n = sym (ap (sum_by (number_at asked.set)) cut ∙ sum_by-cons (number_at asked.set) q rest) ∙ h.number in
    let far : (at + 1) + len ≡ at + suc len = omega arith in
    let is : known_in q asked.set ≡ Some own = known_some (known_in q asked.set) all.0 in (
      own,
      left,
      sym number,
      inr (
        λ d. ap (λ (p : PlaceState). known_in p asked.set) (any_get places at d no_place there) ∙ is,
        ⊎_elim (λ none. inl (omega (arith, none, number))) (λ ins. inr (first_inside cut far there ins)) so,
      ),
      all_known places asked stamp identifier (at + 1) len left (omega (arith, within)) (record { known = all.1; number = refl })
          (⊎_elim (λ none. inl (omega (arith, none, number))) (λ ins. inr (others_inside cut far ins)) so),
    ) where
      first_inside : take (suc len) (drop at places) ≡ get_or places at no_place ∷ take len (drop (at + 1) places) → (at + 1) + len ≡ at + suc len → at < length places
          → AreInside (take (suc len) (drop at places)) (drop (at + suc len) places) asked stamp identifier → IsInside places at asked stamp identifier
      first_inside cut far there ins =
          let q : PlaceState = get_or places at no_place in
          let rest = take len (drop (at + 1) places) in
          let low = and_parts (int_le asked.lower q.stamp) (list_all (λ (p : PlaceState). int_le asked.lower p.stamp) rest) (sym (ap (list_all (λ (p : PlaceState). int_le asked.lower p.stamp)) cut) ∙ ins.lower) in
          let behind = and_parts (is_gt (first_cmp q stamp identifier)) (list_all (λ (p : PlaceState). is_gt (first_cmp p stamp identifier)) rest)
          (sym (ap (list_all (λ (p : PlaceState). is_gt (first_cmp p stamp identifier))) cut) ∙ ins.behind) in
          let prefix = and_parts (is_among q.prefixes asked.prefix) (list_all (λ (p : PlaceState). is_among p.prefixes asked.prefix) rest)
          (sym (ap (list_all (λ (p : PlaceState). is_among p.prefixes asked.prefix)) cut) ∙ ins.prefix) in
          let high = and_parts (int_le q.stamp asked.upper) (list_all (λ (p : PlaceState). int_le p.stamp asked.upper) rest) (sym (ap (list_all (λ (p : PlaceState). int_le p.stamp asked.upper)) cut) ∙ ins.upper) in
          record {
            lower = λ d. subst (λ (p : PlaceState). asked.lower ≤ℤ p.stamp) (any_get places at no_place d there) (le_from asked.lower q.stamp low.0);
            behind = λ d. ap (λ (p : PlaceState). is_gt (first_cmp p stamp identifier)) (any_get places at d no_place there) ∙ behind.0;
            prefix = λ d. ap (λ (p : PlaceState). is_among p.prefixes asked.prefix) (any_get places at d no_place there) ∙ prefix.0;
            upper = next_ends len (drop (at + 1) places) [] asked high.1
                (subst (λ (ps : List PlaceState). EndsBy ps asked.upper) (ap (λ m. drop m places) (sym far) ∙ sym (drop-drop len (at + 1) places)) ins.ends);
          }

      others_inside : take (suc len) (drop at places) ≡ get_or places at no_place ∷ take len (drop (at + 1) places) → (at + 1) + len ≡ at + suc len
          → AreInside (take (suc len) (drop at places)) (drop (at + suc len) places) asked stamp identifier
          → AreInside (take len (drop (at + 1) places)) (drop ((at + 1) + len) places) asked stamp identifier
      others_inside cut far ins =
          let q : PlaceState = get_or places at no_place in
          let rest = take len (drop (at + 1) places) in
          record {
            lower = (and_parts (int_le asked.lower q.stamp) (list_all (λ (p : PlaceState). int_le asked.lower p.stamp) rest) (sym (ap (list_all (λ (p : PlaceState). int_le asked.lower p.stamp)) cut) ∙ ins.lower)).1;
            behind = (and_parts (is_gt (first_cmp q stamp identifier)) (list_all (λ (p : PlaceState). is_gt (first_cmp p stamp identifier)) rest)
                (sym (ap (list_all (λ (p : PlaceState). is_gt (first_cmp p stamp identifier))) cut) ∙ ins.behind)).1;
            prefix = (and_parts (is_among q.prefixes asked.prefix) (list_all (λ (p : PlaceState). is_among p.prefixes asked.prefix) rest)
                (sym (ap (list_all (λ (p : PlaceState). is_among p.prefixes asked.prefix)) cut) ∙ ins.prefix)).1;
            upper = (and_parts (int_le q.stamp asked.upper) (list_all (λ (p : PlaceState). int_le p.stamp asked.upper) rest) (sym (ap (list_all (λ (p : PlaceState). int_le p.stamp asked.upper)) cut) ∙ ins.upper)).1;
            ends = subst (λ (m : ℕ). EndsBy (drop m places) asked.upper) (sym far) ins.ends;
          }

-- what is known of a sum is known of each of its places
pub stretch_from : (sum : SumState) (places : List PlaceState) (asked : Filter) (stamp : ℤ) (identifier : List ℕ) (at len n : ℕ) → 0 < len → at + len ≤ length places
    → IsSum sum (take len (drop at places)) → known_in_sum sum asked.set ≡ Some n → (n ≡ 0) ⊎ IsSumInside sum (drop (at + len) places) asked stamp identifier
    → IsStretch places asked stamp identifier at len n
stretch_from sum places asked stamp identifier at len n some within h known so = record {
  some = some;
  within = within;
  known = all_known places asked stamp identifier at len n within (numbered sum asked.set (take len (drop at places)) n h known)
      (⊎_elim (λ none. inl none) (λ ins. inr (inside sum (take len (drop at places)) (drop (at + len) places) asked stamp identifier h ins)) so);
}

-- what is so of each of a list, at one place of it
pub all_at : {A : Type 0} (P : A → Type 0) (xs : List A) (at : ℕ) (x : A) → AllByRecursion P xs → at < length xs → x ≡ get_or xs at x → P x
all_at P [] at x h within is = absurd (omega arith)
all_at P (y ∷ xs) zero x h within is = subst P (sym is) h.0
all_at P (y ∷ xs) (suc at) x h within is = all_at P xs at x h.1 (omega arith) is

-- ---- the items of places that are passed over

-- so many of them are wanted
pub stretch_counted : (pages : Pages) (places : List PlaceState) (asked : Filter) (stamp : ℤ) (identifier : List ℕ) (at len n : ℕ) → IsDirectory pages places → at + len ≤ length places
    → AreKnown places asked stamp identifier at len n
    → (n ≡ length (filter (is_wanted asked stamp identifier) (items_on pages (take len (drop at places))))) × (n ≤ MAX_ENTRY_BYTES * len)
stretch_counted pages places asked stamp identifier at zero n h within known =
    (known ∙ sym (ap (λ xs. length (filter (is_wanted asked stamp identifier) xs)) (items_on-nil pages)), omega (arith, known))
stretch_counted pages places asked stamp identifier at (suc len) n h within known =
    let p : ItemState → Bool = is_wanted asked stamp identifier in
    let q : PlaceState = get_or places at no_place in
    let rest = take len (drop (at + 1) places) in
    let there : at < length places = omega (arith, within) in
    let own = known.0 in
    let left = known.1 in
    let number = known.2 in
    let here = known_counted pages places asked stamp identifier at own h there known.3 no_place in
    let few = known_few pages places asked stamp identifier at own h there known.3 in
    let others = stretch_counted pages places asked stamp identifier (at + 1) len left h (omega (arith, within)) known.4 in
    let cut : filter p (items_on pages (take (suc len) (drop at places))) ≡ filter p (items_at pages q) ++ filter p (items_on pages rest) =
    ap (λ ps. filter p (items_on pages (take (suc len) ps))) (drop_more places at no_place there) ∙ ap (filter p) (items_on-cons pages q rest) ∙ filter-append p (items_at pages q) (items_on pages rest) in
    (omega (arith, number, here, others.0, ap length cut, length-append (filter p (items_at pages q)) (filter p (items_on pages rest))), omega (arith, number, few, others.1))
