-- Items that are picked from a page, entry by entry, and the setSpecs that are looked at before an item is tested.
use Rattle.std.proofs.Common.{◌≡◌, ◌==◌, ◌∙◌, ◌+◌, ◌-◌, ◌^◌, ◌<◌, ◌≤◌, ◌||◌, ℕ, suc, zero, ℤ, Bool, true, false, nat_eq, List, [], ◌∷◌, ◌++◌, Option, None, Some, Err, ⊎_elim, length, take, drop, get_or, refl, sym, ap, subst, arith, append_assoc, append-nil, length-append, length-drop}
use Rattle.std.specs.List.{flat_map, starts_with}
use Rattle.std.proofs.lemmas.Bool.{both_ways, false_from_ne_true}
use Rattle.std.proofs.lemmas.Bool.Decides.{Decides-eqb}
use Rattle.std.proofs.lemmas.List.{drop_at, drop_more, take_all}
use Rattle.std.proofs.lemmas.Option.{same_Some}
use Rattle.std.proofs.lemmas.Slice.Eq.{starts_is}
use Rattle.oai_names.specs.Sets.{covers}
use Rattle.oai_names.proofs.Covering.{covers-Decides}
use Rattle.oai_item.specs.Decoding.{IsReadInPlace, item_in}
use Rattle.oai_item.specs.Encoding.{Spells, encoded, encoded_bool, encoded_count, encoded_list, encoded_record, encoded_stamp, encoded_text}
use Rattle.oai_item.specs.Item.{ItemState}
use Rattle.oai_item.specs.Membership.{is_in}
use Rattle.oai_item.specs.Selection.{Filter, is_in_given}
use Rattle.oai_item.specs.declared.decodings.DecodeFault.{DecodeFault}
use Rattle.oai_item.specs.declared.decodings.DecodeFault.TheVariants.{Damaged, NoMemory}
use Rattle.oai_item.proofs.Decoded.{item_in-spelled}
use Rattle.oai_item.proofs.Lengths.{length-encoded_text}
use Rattle.oai_places.specs.Pages.{AreStorable, entries_of, entry_of, first_number}
use Rattle.oai_places.specs.Parts.{IsPartTaken}
use Rattle.oai_places.specs.Picking.{IsFoundWanted, IsPicked, IsPicking}
use Rattle.oai_places.specs.Places.{is_wanted}
use Rattle.oai_places.proofs.EntryLemmas.{size_is, storable_at}
use Rattle.oai_places.proofs.PageLemmas.{behind_number, entries_of-cons, entries_of-nil, number_back, size_of-least}
use Rattle.oai_places.proofs.PartLemmas.{taken_more, taken_one, taken_stopped}
use Rattle.oai_places.proofs.WantedLemmas.{given_from}

-- ---- the setSpecs of a spelling

behind_stamp : (live : Bool) (stamp : ℤ) (rest : List ℕ) → drop 9 ((encoded_bool live ++ encoded_stamp stamp) ++ rest) ≡ rest
unfolding encoded_stamp
behind_stamp true stamp rest = drop_at (encoded_bool true ++ encoded_stamp stamp) rest 9 refl
behind_stamp false stamp rest = drop_at (encoded_bool false ++ encoded_stamp stamp) rest 9 refl

abbrev pub from_sets : ItemState → List ℕ
from_sets item = encoded_list encoded_text item.sets ++ encoded_list encoded_record item.formats

behind_front : (item : ItemState) → drop 9 (encoded item) ≡ encoded_text item.identifier ++ from_sets item
unfolding encoded
behind_front item =
    let front : List ℕ = encoded_bool item.live ++ encoded_stamp item.stamp in
    let name : List ℕ = encoded_text item.identifier in
    ap (drop 9) (append_assoc (front ++ name) (encoded_list encoded_text item.sets) (encoded_list encoded_record item.formats) ∙ append_assoc front name (from_sets item))
    ∙ behind_stamp item.live item.stamp (name ++ from_sets item)

-- the identifier stands behind nine bytes, and the setSpecs behind it
pub record HasSets (spelling : List ℕ) (item : ItemState) : Type 0 where
  pub parts : drop 9 spelling ≡ encoded_text item.identifier ++ from_sets item
  pub few : length item.identifier < 2 ^ 32
  pub long : 9 ≤ length spelling
  pub short : length (from_sets item) < 2 ^ 32

pub sets_stand : (spelling : List ℕ) (item : ItemState) → Spells spelling item → HasSets spelling item
sets_stand spelling item s =
    let parts : drop 9 spelling ≡ encoded_text item.identifier ++ from_sets item = ap (drop 9) s.spelling ∙ behind_front item in
    let len : length spelling - 9 ≡ 4 + length item.identifier + length (from_sets item) =
    sym (length-drop 9 spelling) ∙ ap length parts ∙ length-append (encoded_text item.identifier) (from_sets item) ∙ ap (λ n. n + length (from_sets item)) (length-encoded_text item.identifier)
    in
    record {
      parts = parts;
      few = omega (arith, len, s.few);
      long = omega (arith, len);
      short = omega (arith, len, s.few);
    }

-- ---- setSpecs, one after the other

list_parts : (sets : List (List ℕ)) (behind : List ℕ) → encoded_list encoded_text sets ++ behind ≡ encoded_count (length sets) ++ (flat_map encoded_text sets ++ behind)
unfolding encoded_list
list_parts sets behind = append_assoc (encoded_count (length sets)) (flat_map encoded_text sets) behind

sets_long : (sets : List (List ℕ)) → length sets ≤ length (flat_map encoded_text sets)
sets_long [] = omega arith
sets_long (set ∷ sets) = omega (arith, sets_long sets, length-append (encoded_text set) (flat_map encoded_text sets), length-encoded_text set)

-- how many there are is said in front
pub sets_many : (bytes : List ℕ) (sets : List (List ℕ)) (behind : List ℕ) → length bytes < 2 ^ 32 → bytes ≡ encoded_list encoded_text sets ++ behind
    → (first_number bytes ≡ length sets) × (drop 4 bytes ≡ flat_map encoded_text sets ++ behind) × (4 ≤ length bytes)
unfolding encoded_count
sets_many bytes sets behind few e =
    let parts : bytes ≡ encoded_count (length sets) ++ (flat_map encoded_text sets ++ behind) = e ∙ list_parts sets behind in
    let tail : drop 4 bytes ≡ flat_map encoded_text sets ++ behind = ap (drop 4) parts ∙ behind_number (length sets) (flat_map encoded_text sets ++ behind) in
    let len : length bytes ≡ 4 + length (flat_map encoded_text sets ++ behind) = ap length parts ∙ length-append (encoded_count (length sets)) (flat_map encoded_text sets ++ behind) in (
      ap first_number parts ∙ number_back (length sets) (flat_map encoded_text sets ++ behind) (omega (arith, few, len, sets_long sets, length-append (flat_map encoded_text sets) behind)),
      tail,
      omega (arith, len),
    )

-- a text that does not begin with a setSpec is not covered by it
pub not_covered : (set text : List ℕ) → starts_with nat_eq text set ≡ false → covers set text ≡ false
not_covered set text fails =
    let starts = starts_is Decides-eqb text set (starts_with nat_eq text set) refl in
    false_from_ne_true (covers set text) (λ h. both_ways (starts_with nat_eq text set) fails
    (⊎_elim (λ same. starts.1 [] (same ∙ sym (append-nil set))) (λ below. starts.1 (58 ∷ below.0) below.1) ((covers-Decides set text).0 h)))

none_in : (set : List ℕ) → is_in set [] ≡ false
unfolding is_in
none_in set = refl

neither : (a b : Bool) → a ≡ false → b ≡ false → (a || b) ≡ false
neither a b ha hb = rw (ha, hb) refl

none_more : (set text : List ℕ) (sets : List (List ℕ)) → covers set text ≡ false → is_in set sets ≡ false → is_in set (text ∷ sets) ≡ false
unfolding is_in
none_more set text sets fails none = neither (covers set text) (is_in set sets) fails none

-- so many of the setSpecs are left, the last ones, and stand in front of the bytes; where none of them is in the set, none is
pub record AreLeftToTest (set : List ℕ) (sets : List (List ℕ)) (left : ℕ) (rest : List ℕ) : Type 0 where
  pub later : List (List ℕ)
  pub behind : List ℕ
  pub parts : rest ≡ flat_map encoded_text later ++ behind
  pub many : length later ≡ left
  pub few : length rest < 2 ^ 32
  pub none : is_in set later ≡ false → is_in set sets ≡ false

-- behind so many setSpecs in front of the bytes these are left
abbrev pub AreTested : List ℕ → List ℕ → ℕ → List ℕ → Type 0
AreTested set bytes passed rest =
    (sets : List (List ℕ)) (behind : List ℕ) (left : ℕ) → length bytes < 2 ^ 32 → bytes ≡ encoded_list encoded_text sets ++ behind → left + passed ≡ length sets → AreLeftToTest set sets left rest

pub none_tested : (set bytes rest : List ℕ) → rest ≡ drop 4 bytes → AreTested set bytes 0 rest
none_tested set bytes rest tail sets behind left few e many =
    let read = sets_many bytes sets behind few e in
    record {
      later = sets;
      behind = behind;
      parts = tail ∙ read.1;
      many = omega (arith, many);
      few = omega (arith, few, ap length tail, length-drop 4 bytes);
      none = λ h. h;
    }

-- the first one that is left, and what is left behind it
pub record HasNextSet (set : List ℕ) (sets : List (List ℕ)) (left : ℕ) (rest : List ℕ) : Type 0 where
  pub text : List ℕ
  pub behind : List ℕ
  pub few : length text < 2 ^ 32
  pub parts : rest ≡ encoded_text text ++ behind
  pub next : covers set text ≡ false → AreLeftToTest set sets left behind

next_of : (set : List ℕ) (sets : List (List ℕ)) (left : ℕ) (rest : List ℕ) (later : List (List ℕ)) (behind : List ℕ) → rest ≡ flat_map encoded_text later ++ behind → length later ≡ left + 1 → length rest < 2 ^ 32
    → (is_in set later ≡ false → is_in set sets ≡ false) → HasNextSet set sets left rest
next_of set sets left rest [] behind parts many few none = absurd (omega (arith, many))
next_of set sets left rest (text ∷ later) behind parts many few none =
    let split : rest ≡ encoded_text text ++ (flat_map encoded_text later ++ behind) = parts ∙ append_assoc (encoded_text text) (flat_map encoded_text later) behind in
    let len : length rest ≡ 4 + length text + length (flat_map encoded_text later ++ behind) =
    ap length split ∙ length-append (encoded_text text) (flat_map encoded_text later ++ behind) ∙ ap (λ n. n + length (flat_map encoded_text later ++ behind)) (length-encoded_text text)
    in
    record {
      text = text;
      behind = flat_map encoded_text later ++ behind;
      few = omega (arith, few, len);
      parts = split;
      next = λ fails. record {
        later = later;
        behind = behind;
        parts = refl;
        many = omega (arith, many);
        few = omega (arith, few, len);
        none = λ h. none (none_more set text later fails h);
      };
    }

pub next_set : (set : List ℕ) (sets : List (List ℕ)) (left : ℕ) (rest : List ℕ) → AreLeftToTest set sets (left + 1) rest → HasNextSet set sets left rest
next_set set sets left rest l = next_of set sets left rest l.later l.behind l.parts l.many l.few l.none

none_of : (set : List ℕ) (sets later : List (List ℕ)) → length later ≡ 0 → (is_in set later ≡ false → is_in set sets ≡ false) → is_in set sets ≡ false
none_of set sets [] many none = none (none_in set)
none_of set sets (text ∷ later) many none = absurd (omega (arith, many))

pub all_tested : (set : List ℕ) (sets : List (List ℕ)) (rest : List ℕ) → AreLeftToTest set sets 0 rest → is_in set sets ≡ false
all_tested set sets rest l = none_of set sets l.later l.many l.none

-- ---- one item

-- what is in no set that is asked for is not wanted
pub not_given : (asked : Filter) (stamp : ℤ) (identifier : List ℕ) (item : ItemState) → is_in_given asked.set item.sets ≡ false → is_wanted asked stamp identifier item ≡ false
not_given asked stamp identifier item out =
    false_from_ne_true (is_wanted asked stamp identifier item) (λ h. both_ways (is_in_given asked.set item.sets) out (given_from asked stamp identifier item h))

-- the item that was read of bytes is the one that they spell
pub picked_read : (p : ItemState → Bool) (spelling : List ℕ) (read item : ItemState) (found : Option ItemState) → item_in spelling ≡ Some read → Spells spelling item
    → IsFoundWanted p read found → IsFoundWanted p item found
picked_read p spelling read item found h s =
    subst (λ (x : ItemState). IsFoundWanted p x found) (same_Some _ _ (sym h ∙ item_in-spelled spelling item s))

pub picked_fails : (p : ItemState → Bool) (spelling : List ℕ) (item : ItemState) (fault : DecodeFault) → IsReadInPlace spelling (Err fault) → Spells spelling item → IsPicked p item (Err fault)
picked_fails p spelling item Damaged h s = let unread : None ≡ Some item = sym h ∙ item_in-spelled spelling item s in cc
picked_fails p spelling item NoMemory h s = tt

-- what was found is the item, which passes; or it does not
pub found_one : (p : ItemState → Bool) (item one : ItemState) (found : Option ItemState) → IsFoundWanted p item found → found ≡ Some one → (one ≡ item) × (p item ≡ true)
found_one p item one found h e = subst (λ (f : Option ItemState). IsFoundWanted p item f) e h

pub found_none : (p : ItemState → Bool) (item : ItemState) (found : Option ItemState) → IsFoundWanted p item found → found ≡ None → p item ≡ false
found_none p item found h e = subst (λ (f : Option ItemState). IsFoundWanted p item f) e h

pub picking_fails : (p : ItemState → Bool) (most : ℕ) (old new : List ItemState) (skip : ℕ) (item : ItemState) (items : List ItemState) (fault : DecodeFault) → IsPicked p item (Err fault)
    → IsPicking p most old new skip items (Err fault)
picking_fails p most old new skip item items Damaged h = h
picking_fails p most old new skip item items NoMemory h = tt

pub picking_ends : (p : ItemState → Bool) (most : ℕ) (old mid new : List ItemState) (skip between : ℕ) (some items : List ItemState) (fault : DecodeFault) → IsPicking p most mid new between some (Err fault)
    → IsPicking p most old new skip items (Err fault)
picking_ends p most old mid new skip between some items Damaged h = h
picking_ends p most old mid new skip between some items NoMemory h = tt

-- the item that was found is put behind the part
pub found_added : (p : ItemState → Bool) (most : ℕ) (part new : List ItemState) (skip : ℕ) (item : ItemState) → p item ≡ true → skip ≤ 0 → length part < most → new ≡ part ++ item ∷ []
    → IsPartTaken p most part new skip skip (item ∷ [])
found_added p most part new skip item passes none some new_is =
    subst (λ (xs : List ItemState). IsPartTaken p most part xs skip skip (item ∷ [])) (sym new_is) (taken_one p most part skip item passes (omega (arith, none)) some)

-- what comes of an item that passes comes of the one that was found
pub found_taken : (p : ItemState → Bool) (most : ℕ) (part new : List ItemState) (skip left : ℕ) (item found : ItemState) (option : Option ItemState)
    → IsFoundWanted p item option → option ≡ Some found → (p found ≡ true → IsPartTaken p most part new skip left (found ∷ [])) → IsPartTaken p most part new skip left (item ∷ [])
found_taken p most part new skip left item found option h is added =
    let one : IsFoundWanted p item (Some found) = subst (λ (o : Option ItemState). IsFoundWanted p item o) is h in
    subst (λ (x : ItemState). IsPartTaken p most part new skip left (x ∷ [])) one.0 (added (ap p one.0 ∙ one.1))

-- ---- item by item

-- of the first items, up to some place, those that pass were added, and the bytes are the entries of the others
pub record ArePicked (p : ItemState → Bool) (most : ℕ) (old new : List ItemState) (skip left : ℕ) (items : List ItemState) (rest : List ℕ) : Type 0 where
  pub passed : ℕ
  pub taken : IsPartTaken p most old new skip left (take passed items)
  pub parts : rest ≡ entries_of (drop passed items)

-- so it is of any items whose entries the bytes are
abbrev pub ArePickedFrom : (ItemState → Bool) → ℕ → List ItemState → List ItemState → ℕ → ℕ → List ℕ → List ℕ → Type 0
ArePickedFrom p most old new skip left entries rest =
    (items : List ItemState) → AreStorable items → entries ≡ entries_of items → ArePicked p most old new skip left items rest

pub none_picked : (p : ItemState → Bool) (most : ℕ) (part : List ItemState) (skip : ℕ) (entries : List ℕ) → ArePickedFrom p most part part skip skip entries entries
none_picked p most part skip entries items stored e = record { passed = 0; taken = λ others. refl; parts = e }

pub some_bytes : (n : ℕ) → (n == 0) ≡ false → 0 < n
some_bytes zero h = absurd (both_ways true h refl)
some_bytes (suc n) h = omega arith

some_left : (items : List ItemState) → 0 < length (entries_of items) → 0 < length items
some_left [] some = absurd (omega (arith, some, ap length entries_of-nil))
some_left (item ∷ items) some = omega arith

-- the entry of the item at that place stands in front
pub record HasNextItem (items : List ItemState) (at : ℕ) (d : ItemState) (rest : List ℕ) : Type 0 where
  pub within : at < length items
  pub spelled : Spells (encoded (get_or items at d)) (get_or items at d)
  pub parts : rest ≡ entry_of (get_or items at d) ++ entries_of (drop (at + 1) items)

pub next_item : (p : ItemState → Bool) (most : ℕ) (old new : List ItemState) (skip left : ℕ) (items : List ItemState) (d : ItemState) (rest : List ℕ)
    → AreStorable items → 0 < length rest → (l : ArePicked p most old new skip left items rest) → HasNextItem items l.passed d rest
next_item p most old new skip left items d rest stored some l =
    let at : ℕ = l.passed in
    let within : at < length items = omega (arith, some_left (drop at items) (omega (arith, some, ap length l.parts)), length-drop at items) in
    record {
      within = within;
      spelled = storable_at items at d stored within;
      parts = l.parts ∙ ap entries_of (drop_more items at d within) ∙ entries_of-cons (get_or items at d) (drop (at + 1) items);
    }

pub one_picked : (p : ItemState → Bool) (most : ℕ) (old mid new : List ItemState) (skip between left : ℕ) (items : List ItemState) (d : ItemState) (rest after : List ℕ)
    → (l : ArePicked p most old mid skip between items rest) → HasNextItem items l.passed d rest → after ≡ entries_of (drop (l.passed + 1) items)
    → IsPartTaken p most mid new between left (get_or items l.passed d ∷ []) → ArePicked p most old new skip left items after
one_picked p most old mid new skip between left items d rest after l next e more = record {
  passed = l.passed + 1;
  taken = taken_more p most old mid new skip between left items l.passed d next.within l.taken more;
  parts = e;
}

-- behind the last entry stands nothing
pub picked_all : (p : ItemState → Bool) (most : ℕ) (old new : List ItemState) (skip left : ℕ) (items : List ItemState) (rest : List ℕ)
    → length rest ≡ 0 → ArePicked p most old new skip left items rest → IsPartTaken p most old new skip left items
picked_all p most old new skip left items rest none l =
    let all : length items ≤ l.passed = omega (arith, none, size_is rest (drop l.passed items) l.parts, size_of-least (drop l.passed items), length-drop l.passed items) in
    subst (λ (xs : List ItemState). IsPartTaken p most old new skip left xs) (take_all l.passed items all) l.taken

pub picked_enough : (p : ItemState → Bool) (most : ℕ) (old new : List ItemState) (skip left : ℕ) (items : List ItemState) (rest : List ℕ)
    → most ≤ length new → ArePicked p most old new skip left items rest → IsPartTaken p most old new skip left items
picked_enough p most old new skip left items rest enough l = taken_stopped p most old new skip left items l.passed l.taken enough
