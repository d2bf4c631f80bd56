-- The entries of an index agree with its items after each change, and no list changes but its own.
use Rattle.std.proofs.Common.{◌≡◌, ◌∙◌, ◌+◌, ◌≤◌, inl, inr, ℕ, ℤ, Bool, true, false, not, eqb, cond, List, [], ◌∷◌, length, map, Option, None, Some, IsSome, Result, Ok, Err, IfOk, OnOk, refl, sym, ap, subst, arith}
use Rattle.std.specs.Prelude.{find, IfSome}
use Rattle.std.specs.BTreeMap.{BTreeMap, UpdatesBy, get_by_text, insert_entry, is_at}
use Rattle.std.specs.List.{list_all}
use Rattle.std.specs.Map.{lookup, remove_entry}
use Rattle.std.specs.Cmp.Lexicographic.{slice_cmp}
use Rattle.std.specs.Option.{option_map}
use Rattle.std.specs.Ordering.{nat_cmp, is_eq}
use Rattle.std.specs.Str.{bytes_eq}
use Rattle.std.specs.String.{string_bytes, string_cmp}
use Rattle.std.specs.declared.cmp.Ordering.{Ordering}
use Rattle.std.specs.declared.cmp.Ordering.TheVariants.{Less, Equal, Greater}
use Rattle.std.specs.declared.string.String.{String}
use Rattle.std.proofs.lemmas.Bool.{cases_Bool, cond-true, cond-false}
use Rattle.std.proofs.lemmas.Map.Text.{btree_map_updates_text, is_eq-slice_cmp}
use Rattle.std.proofs.lemmas.Slice.Eq.{bytes_eq-Decides}
use Rattle.oai_item.specs.Item.{IsStamp, ItemState}
use Rattle.oai_item.specs.Items.{are_apart, is_named, item_at, item_named, with_item, without, without_at}
use Rattle.oai_item.proofs.Named.{found_name, item_at-named, item_named-new, item_named-without, length-without, with_item-moved, with_item-new, with_item-same, without-none, without_at-named}
use Rattle.oai_item.proofs.OrderLemmas.{apart-changed, apart-filter}
use Rattle.oai_catalogue.specs.Store.{VersionLists, list_at, with_list, without_list}
use Rattle.oai_catalogue.proofs.ListsLemmas.{list_at-with, same_lists, stands-with, with_own}
use Rattle.oai_holdings.specs.Changes.{with_new}
use Rattle.oai_settings.specs.Config.{RepositoryConfig}
use Rattle.oai_holdings.specs.Index.{IndexAgrees, IsIndexed, has_writable_stamp}
use Rattle.oai_holdings.specs.Kept.{AreKept}
use Rattle.oai_holdings.specs.Entries.{AreDated, ForgetsSome, Restamps, SetsStamp, IndexEntries, stamp_in, entries_in}
use Rattle.oai_holdings.specs.Indexing.{IsMoved, is_one_named}
use Rattle.oai_holdings.proofs.KeptLemmas.{kept-none, length-placed}

-- ---- answers that succeeded

pub on_both : {A E : Type 0} (r : Result A E) (P Q : Type 0) → OnOk r P → OnOk r Q → OnOk r (P × Q)
on_both (Ok _) P Q p q = (p, q)
on_both (Err _) P Q p q = tt

pub on_ok : {A E : Type 0} (r : Result A E) (P Q : Type 0) → (P → Q) → OnOk r P → OnOk r Q
on_ok (Ok x) P Q f h = f h
on_ok (Err e) P Q f h = tt

pub if_ok : {A E : Type 0} (r : Result A E) (P Q : A → Type 0) → ((a : A) → P a → Q a) → IfOk r P → IfOk r Q
if_ok (Ok a) P Q f h = f a h
if_ok (Err e) P Q f h = tt

pub restamped : {A E : Type 0} (r : Result A E) (identifier : List ℕ) (stamp : Option ℤ) (old new : IndexEntries) → IsSome (stamp_in identifier old) → OnOk r (SetsStamp identifier stamp old new)
    → OnOk r (length new ≤ length old) → OnOk r (Restamps identifier stamp old new)
restamped (Ok _) identifier stamp old new there stamped fewer = record { there = there; stamped = stamped; fewer = fewer }
restamped (Err _) identifier stamp old new there stamped fewer = tt

-- ---- the entries, as the map keeps them

-- what is indexed is what the map has
pub noted_view : {Y : Type 0} (m : BTreeMap (String Y) ℤ) (q : List ℕ) → stamp_in q (entries_in m) ≡ get_by_text m q
unfolding stamp_in
noted_view {Y} m q = along m.entries
  where
    one : (key : List ℕ) (stamp : ℤ) (b c : Bool) (x : Option (List ℕ × ℤ)) (y : Option ℤ) → c ≡ b → option_map (λ (note : List ℕ × ℤ). note.1) x ≡ y
        → option_map (λ (note : List ℕ × ℤ). note.1) (cond b (Some (key, stamp)) x) ≡ cond c (Some stamp) y
    one key stamp true c x y e h = rw e refl
    one key stamp false c x y e h = rw e h

    along : (es : List (String Y × ℤ)) → option_map (λ (note : List ℕ × ℤ). note.1) (find (λ (note : List ℕ × ℤ). bytes_eq q note.0) (map (λ e. (string_bytes e.0, e.1)) es))
        ≡ lookup (is_at (λ k. slice_cmp nat_cmp q (string_bytes k))) es
    along [] = refl
    along (e ∷ es) = one (string_bytes e.0) e.1 (bytes_eq q (string_bytes e.0)) (is_eq (slice_cmp nat_cmp q (string_bytes e.0))) _ _ (is_eq-slice_cmp q (string_bytes e.0)) (along es)

pub many_view : {Y : Type 0} (m : BTreeMap (String Y) ℤ) → length (entries_in m) ≡ length m.entries
many_view {Y} m = along m.entries
  where
    along : (es : List (String Y × ℤ)) → length {A = List ℕ × ℤ} (map (λ e. (string_bytes e.0, e.1)) es) ≡ length es
    along [] = refl
    along (e ∷ es) = omega (arith, along es)

-- an entry put under a new key, taken out again
pub taken_back : {Y : Type 0} (key : String Y) (text : List ℕ) (stamp : ℤ) (es : List (String Y × ℤ)) → string_bytes key ≡ text
    → lookup (is_at (string_cmp key)) es ≡ None
    → remove_entry (is_at (λ k. slice_cmp nat_cmp text (string_bytes k))) (insert_entry string_cmp es key stamp) ≡ es
taken_back {Y} key text stamp es is none = subst (λ t. remove_entry (is_at (λ k. slice_cmp nat_cmp t (string_bytes k))) (insert_entry string_cmp es key stamp) ≡ es) is (along es none)
  where
    own : is_eq (slice_cmp nat_cmp (string_bytes key) (string_bytes key)) ≡ true
    own = is_eq-slice_cmp (string_bytes key) (string_bytes key) ∙ (bytes_eq-Decides (string_bytes key) (string_bytes key)).1 refl

    at : (e : String Y × ℤ) (es : List (String Y × ℤ)) (o : Ordering) → string_cmp key e.0 ≡ o → lookup (is_at (string_cmp key)) (e ∷ es) ≡ None
        → (lookup (is_at (string_cmp key)) es ≡ None → remove_entry (is_at (string_cmp key)) (insert_entry string_cmp es key stamp) ≡ es)
        → remove_entry (is_at (string_cmp key)) (insert_entry string_cmp (e ∷ es) key stamp) ≡ e ∷ es
    at e es Less is none later = rw is (cond-true _ _ _ own)
    at e es Equal is none later = let found : lookup (is_at (string_cmp key)) (e ∷ es) ≡ Some e.1 = rw is refl in cc
    at e es Greater is none later =
        let rest : lookup (is_at (string_cmp key)) es ≡ None = sym (cond-false (is_eq (string_cmp key e.0)) (Some e.1) (lookup (is_at (string_cmp key)) es) (ap is_eq is)) ∙ none in
        rw is (cond-false _ _ _ (ap is_eq is) ∙ ap (λ xs. e ∷ xs) (later rest))

    along : (es : List (String Y × ℤ)) → lookup (is_at (string_cmp key)) es ≡ None → remove_entry (is_at (string_cmp key)) (insert_entry string_cmp es key stamp) ≡ es
    along [] none = cond-true _ _ _ own
    along (e ∷ es) none = at e es (string_cmp key e.0) refl none (along es)

-- a change of the map under one key
pub updates_noted : {Y : Type 0} (m n : BTreeMap (String Y) ℤ) (text : List ℕ) (stamp : Option ℤ) → UpdatesBy string_cmp (λ k. slice_cmp nat_cmp text (string_bytes k)) m n stamp
    → SetsStamp text stamp (entries_in m) (entries_in n)
updates_noted m n text stamp updates q = noted_view n q ∙ btree_map_updates_text text m n stamp updates q ∙ ap (cond (bytes_eq text q) stamp) (sym (noted_view m q))

pub texts_noted : {Y : Type 0} (m n : BTreeMap (String Y) ℤ) (text : List ℕ) (stamp : Option ℤ)
    → ((q : List ℕ) → get_by_text n q ≡ cond (bytes_eq text q) stamp (get_by_text m q)) → SetsStamp text stamp (entries_in m) (entries_in n)
texts_noted m n text stamp updates q = noted_view n q ∙ updates q ∙ ap (cond (bytes_eq text q) stamp) (sym (noted_view m q))

-- one more is forgotten
pub forgotten_too : (old now new : IndexEntries) (text : List ℕ) → ForgetsSome old now → SetsStamp text None now new → ForgetsSome old new
forgotten_too old now new text so_far noting q some = by_test (bytes_eq text q) (noting q)
  where
    by_test : (b : Bool) → stamp_in q new ≡ cond b None (stamp_in q now) → stamp_in q new ≡ stamp_in q old
    by_test true is = let none : false ≡ true = subst (λ (o : Option ℤ). IsSome o) is some in cc
    by_test false is = is ∙ so_far q (subst (λ (o : Option ℤ). IsSome o) is some)

-- what was put in and taken out again has left no note
pub undone : {Y : Type 0} (old put out : BTreeMap (String Y) ℤ) (key : String Y) (text : List ℕ) (stamp : ℤ) → string_bytes key ≡ text → stamp_in text (entries_in old) ≡ None
    → put.entries ≡ insert_entry string_cmp old.entries key stamp → out.entries ≡ remove_entry (is_at (λ k. slice_cmp nat_cmp text (string_bytes k))) put.entries
    → entries_in out ≡ entries_in old
undone {Y} old put out key text stamp is none putting taking =
    let missing : lookup (is_at (string_cmp key)) old.entries ≡ None =
    ap (λ (t : List ℕ). lookup (is_at (λ (k : String Y). slice_cmp nat_cmp t (string_bytes k))) old.entries) is ∙ sym (noted_view old text) ∙ none
    in
    let back : out.entries ≡ old.entries =
    taking ∙ ap (remove_entry (is_at (λ (k : String Y). slice_cmp nat_cmp text (string_bytes k)))) putting ∙ taken_back key text stamp old.entries is missing
    in
    ap (λ (es : List (String Y × ℤ)). map {B = List ℕ × ℤ} (λ e. (string_bytes e.0, e.1)) es) back

-- ---- the datestamps of the entries

-- none are there
pub dated_none : AreDated []
unfolding stamp_in
dated_none q = tt

-- each can be written after one is set that can
pub dated_set : (identifier : List ℕ) (stamp : Option ℤ) (old new : IndexEntries) → SetsStamp identifier stamp old new → IfSome stamp IsStamp → AreDated old → AreDated new
dated_set identifier stamp old new set is dated q = by_test (bytes_eq identifier q) (set q)
  where
    by_test : (b : Bool) → stamp_in q new ≡ cond b stamp (stamp_in q old) → IfSome (stamp_in q new) IsStamp
    by_test true same = subst (λ (o : Option ℤ). IfSome o IsStamp) (sym same) is
    by_test false same = subst (λ (o : Option ℤ). IfSome o IsStamp) (sym same) (dated q)

-- ---- the entries, beside the items

abbrev stamp_of_item : Option ItemState → Option ℤ
stamp_of_item o = option_map (λ (item : ItemState). item.stamp) o

-- the datestamp indexed for an identifier is that of its item, and at it the item is found
pub found_at : (entries : IndexEntries) (items : List ItemState) (identifier : List ℕ) (stamp : ℤ) → IndexAgrees entries items → stamp_in identifier entries ≡ Some stamp
    → (item_at stamp identifier items ≡ item_named identifier items) × IsSome (item_named identifier items)
found_at entries items identifier stamp agrees is = by_item (item_named identifier items) refl
  where
    by_item : (o : Option ItemState) → item_named identifier items ≡ o → (item_at stamp identifier items ≡ item_named identifier items) × IsSome (item_named identifier items)
    by_item None here = let none : stamp_in identifier entries ≡ None = agrees.each identifier ∙ ap stamp_of_item here in cc
    by_item (Some item) here =
        let same : Some item.stamp ≡ Some stamp = sym (ap stamp_of_item here) ∙ sym (agrees.each identifier) ∙ is in
        let at : item.stamp ≡ stamp = cc in
        (subst (λ (s : ℤ). item_at s identifier items ≡ item_named identifier items) at (item_at-named identifier items item here ∙ sym here), subst (λ (o : Option ItemState). IsSome o) (sym here) refl)

-- an item that is found is there, and of the identifier
pub found_one : (identifier : List ℕ) (items : List ItemState) (found : Option ItemState) → found ≡ item_named identifier items → IsSome (item_named identifier items) → is_one_named identifier found ≡ true
found_one identifier items None is some = let none : false ≡ true = subst (λ (o : Option ItemState). IsSome o) (sym is) some in cc
found_one identifier items (Some item) is some = (bytes_eq-Decides item.identifier identifier).1 (found_name identifier items item (sym is))

pub name_of_one : (identifier : List ℕ) (found : Option ItemState) → is_one_named identifier found ≡ true → IfSome found (λ item. item.identifier ≡ identifier)
name_of_one identifier None is = tt
name_of_one identifier (Some item) is = (bytes_eq-Decides item.identifier identifier).0 is

-- an item that is found is the one of its own identifier
pub named_own : (identifier : List ℕ) (items : List ItemState) (item : ItemState) → item_named identifier items ≡ Some item → item_named item.identifier items ≡ Some item
named_own identifier items item here = ap (λ (t : List ℕ). item_named t items) (found_name identifier items item here) ∙ here

-- nothing is indexed where no item has the identifier, and the other way round
pub none_noted : (entries : IndexEntries) (items : List ItemState) (identifier : List ℕ) → IndexAgrees entries items → stamp_in identifier entries ≡ None → item_named identifier items ≡ None
none_noted entries items identifier agrees is = by_item (item_named identifier items) refl
  where
    by_item : (o : Option ItemState) → item_named identifier items ≡ o → item_named identifier items ≡ None
    by_item None here = here
    by_item (Some item) here = let some : Some item.stamp ≡ None = sym (ap stamp_of_item here) ∙ sym (agrees.each identifier) ∙ is in cc

pub some_noted : (entries : IndexEntries) (items : List ItemState) (identifier : List ℕ) → IndexAgrees entries items → IsSome (stamp_in identifier entries)
    → (item : ItemState) × (item_named identifier items ≡ Some item) × (stamp_in identifier entries ≡ Some item.stamp)
some_noted entries items identifier agrees is = by_item (item_named identifier items) refl
  where
    by_item : (o : Option ItemState) → item_named identifier items ≡ o → (item : ItemState) × (item_named identifier items ≡ Some item) × (stamp_in identifier entries ≡ Some item.stamp)
    by_item None here = let none : stamp_in identifier entries ≡ None = agrees.each identifier ∙ ap stamp_of_item here in cc
    by_item (Some item) here = (item, here, agrees.each identifier ∙ ap stamp_of_item here)

-- the stamps of the items with a new one
stamps_with : (item : ItemState) (q : List ℕ) (items : List ItemState) → cond (bytes_eq item.identifier q) (Some item.stamp) (stamp_of_item (item_named q items)) ≡ stamp_of_item (item_named q (with_new item items))
stamps_with item q items = by_test (bytes_eq item.identifier q) ∙ sym (ap stamp_of_item (item_named-new item q items))
  where
    by_test : (b : Bool) → cond b (Some item.stamp) (stamp_of_item (item_named q items)) ≡ stamp_of_item (cond b (Some item) (item_named q items))
    by_test true = refl
    by_test false = refl

-- as many as without the one replaced, and the new one
many_first : (item : ItemState) (items : List ItemState) → item_named item.identifier items ≡ None → length (with_new item items) ≡ length items + 1
many_first item items none = length-placed item (without item.identifier items) ∙ ap (λ (xs : List ItemState). length xs + 1) (without-none item.identifier items none)

many_again : (item old : ItemState) (entries : IndexEntries) (items : List ItemState) → IndexAgrees entries items → item_named item.identifier items ≡ Some old → length (with_new item items) ≡ length items
many_again item old entries items agrees here = length-placed item (without item.identifier items) ∙ length-without item.identifier items old here agrees.apart

-- an item of a new identifier
pub first_noted : (item : ItemState) (old new : IndexEntries) (items : List ItemState) → IndexAgrees old items → item_named item.identifier items ≡ None
    → SetsStamp item.identifier (Some item.stamp) old new → length new ≡ length old + 1 → IndexAgrees new (with_new item items)
first_noted item old new items agrees none noting many = record {
  apart = apart-changed item items agrees.apart;
  each = λ q. noting q ∙ ap (cond (bytes_eq item.identifier q) (Some item.stamp)) (agrees.each q) ∙ stamps_with item q items;
  many = many ∙ ap (λ (n : ℕ). n + 1) agrees.many ∙ sym (many_first item items none);
}

-- an item in place of one, at another datestamp
pub later_noted : (item gone : ItemState) (old new : IndexEntries) (items : List ItemState) → IndexAgrees old items → item_named item.identifier items ≡ Some gone
    → SetsStamp item.identifier (Some item.stamp) old new → length new ≡ length old → IndexAgrees new (with_new item items)
later_noted item gone old new items agrees here noting many = record {
  apart = apart-changed item items agrees.apart;
  each = λ q. noting q ∙ ap (cond (bytes_eq item.identifier q) (Some item.stamp)) (agrees.each q) ∙ stamps_with item q items;
  many = many ∙ agrees.many ∙ sym (many_again item gone old items agrees here);
}

-- at the same datestamp the entries say it already
pub noted_already : (item : ItemState) (entries : IndexEntries) → stamp_in item.identifier entries ≡ Some item.stamp → SetsStamp item.identifier (Some item.stamp) entries entries
noted_already item entries is q = by_test (bytes_eq item.identifier q) ((bytes_eq-Decides item.identifier q).0)
  where
    by_test : (b : Bool) → (b ≡ true → item.identifier ≡ q) → stamp_in q entries ≡ cond b (Some item.stamp) (stamp_in q entries)
    by_test true same = ap (λ (t : List ℕ). stamp_in t entries) (sym (same refl)) ∙ is
    by_test false same = refl

pub again_noted : (item gone : ItemState) (entries : IndexEntries) (items : List ItemState) → IndexAgrees entries items → item_named item.identifier items ≡ Some gone
    → stamp_in item.identifier entries ≡ Some item.stamp → IndexAgrees entries (with_new item items)
again_noted item gone entries items agrees here is = later_noted item gone entries entries items agrees here (noted_already item entries is) refl

apart_without : (identifier : List ℕ) (items : List ItemState) → are_apart items ≡ true → are_apart (without identifier items) ≡ true
unfolding without
apart_without identifier items h = apart-filter (λ item. not (is_named identifier item)) items h

-- without an item
pub gone_noted : (identifier : List ℕ) (gone : ItemState) (old new : IndexEntries) (items : List ItemState) → IndexAgrees old items → item_named identifier items ≡ Some gone
    → SetsStamp identifier None old new → length new + 1 ≡ length old → IndexAgrees new (without identifier items)
gone_noted identifier gone old new items agrees here noting many = record {
  apart = apart_without identifier items agrees.apart;
  each = λ q. noting q ∙ ap (cond (bytes_eq identifier q) None) (agrees.each q) ∙ by_test (bytes_eq identifier q) q ∙ sym (ap stamp_of_item (item_named-without identifier q items));
  many = let less = length-without identifier items gone here agrees.apart in omega (arith, agrees.many);
}
  where
    by_test : (b : Bool) (q : List ℕ) → cond b None (stamp_of_item (item_named q items)) ≡ stamp_of_item (cond b None (item_named q items))
    by_test true q = refl
    by_test false q = refl

-- ---- what a call leaves in an honest store

-- an item in place of one of its datestamp, in an honest store
pub put_again : (item : ItemState) (entries : IndexEntries) (items new : List ItemState) → IndexAgrees entries items → stamp_in item.identifier entries ≡ Some item.stamp
    → new ≡ with_item item items → (new ≡ with_new item items) × IndexAgrees entries new
put_again item entries items new agrees is put =
    let found = some_noted entries items item.identifier agrees (subst (λ (o : Option ℤ). IsSome o) (sym is) refl) in
    let stamps : Some found.0.stamp ≡ Some item.stamp = sym found.2 ∙ is in
    let same : found.0.stamp ≡ item.stamp = cc in
    let made : new ≡ with_new item items = put ∙ with_item-same item found.0 items found.1 same agrees.apart in
    (made, subst (λ (xs : List ItemState). IndexAgrees entries xs) (sym made) (again_noted item found.0 entries items agrees found.1 is))

-- an item of a new identifier
pub put_first : (item : ItemState) (old entries : IndexEntries) (items new : List ItemState) → IndexAgrees old items → stamp_in item.identifier old ≡ None
    → SetsStamp item.identifier (Some item.stamp) old entries → length entries ≡ length old + 1 → new ≡ with_item item items → (new ≡ with_new item items) × IndexAgrees entries new
put_first item old entries items new agrees none noting many put =
    let missing = none_noted old items item.identifier agrees none in
    let made : new ≡ with_new item items = put ∙ with_item-new item items missing in
    (made, subst (λ (xs : List ItemState). IndexAgrees entries xs) (sym made) (first_noted item old entries items agrees missing noting many))

-- an item put in once the one that it replaces, of another datestamp, is taken out
pub put_moved : (item : ItemState) (stamp : ℤ) (old entries : IndexEntries) (items new : List ItemState) → IndexAgrees old items → stamp_in item.identifier old ≡ Some stamp
    → SetsStamp item.identifier (Some item.stamp) old entries → length entries ≡ length old
    → new ≡ with_item item (without_at stamp item.identifier items) → (new ≡ with_new item items) × IndexAgrees entries new
put_moved item stamp old entries items new agrees is noting many put =
    let found = some_noted old items item.identifier agrees (subst (λ (o : Option ℤ). IsSome o) (sym is) refl) in
    let stamps : Some stamp ≡ Some found.0.stamp = sym is ∙ found.2 in
    let same : stamp ≡ found.0.stamp = cc in
    let name : item.identifier ≡ found.0.identifier = sym (found_name item.identifier items found.0 found.1) in
    let made : new ≡ with_new item items =
    put
    ∙ ap (λ (s : ℤ). with_item item (without_at s item.identifier items)) same
    ∙ ap (λ (t : List ℕ). with_item item (without_at found.0.stamp t items)) name
    ∙ with_item-moved item found.0 items found.1 agrees.apart
    in
    (made, subst (λ (xs : List ItemState). IndexAgrees entries xs) (sym made) (later_noted item found.0 old entries items agrees found.1 noting many))

-- an item taken out
pub taken_out : (item : ItemState) (old entries : IndexEntries) (items new : List ItemState) → IndexAgrees old items → item_named item.identifier items ≡ Some item
    → SetsStamp item.identifier None old entries → (IsSome (stamp_in item.identifier old) → length entries + 1 ≡ length old)
    → new ≡ without_at item.stamp item.identifier items → (new ≡ without item.identifier items) × IndexAgrees entries new
taken_out item old entries items new agrees here noting many out =
    let made : new ≡ without item.identifier items = out ∙ without_at-named item.identifier items item here agrees.apart in
    let there : IsSome (stamp_in item.identifier old) = subst (λ (o : Option ℤ). IsSome o) (sym (agrees.each item.identifier ∙ ap stamp_of_item here)) refl in
    (made, subst (λ (xs : List ItemState). IndexAgrees entries xs) (sym made) (gone_noted item.identifier item old entries items agrees here noting (many there)))

-- ---- the lists

-- under a number taken away and given again
with_without : (v : ℕ) (items : List ItemState) (lists : VersionLists) → with_list v items (without_list v lists) ≡ with_list v items lists
with_without v items lists =
    same_lists (with_list v items (without_list v lists)) (with_list v items lists)
    (λ n. elim (cases_Bool (eqb n v)) [
      | inl here ↦ cond-true (eqb n v) (Some items) (without_list v lists n) here ∙ sym (cond-true (eqb n v) (Some items) (lists n) here)
      | inr there ↦ ap (cond (eqb n v) (Some items)) (cond-false (eqb n v) None (lists n) there)
    ])

-- a version that is changed under its number
pub moved_in_place : (v : ℕ) (before after : VersionLists) → after ≡ with_list v (list_at after v) before → IsMoved v before v after
moved_in_place v before after is = record { lists = is ∙ sym (with_without v (list_at after v) before); number = inl refl }

-- one that is not changed
pub not_moved : (v : ℕ) (before after : VersionLists) → IsSome (before v) → after ≡ before → IsMoved v before v after
not_moved v before after stands same = moved_in_place v before after (same ∙ sym (with_own v before stands) ∙ ap (λ (lists : VersionLists). with_list v (list_at lists v) before) (sym same))

-- and one that has moved
pub moved_to : (v w : ℕ) (before after : VersionLists) → before w ≡ None → after ≡ with_list w (list_at after w) (without_list v before) → IsMoved v before w after
moved_to v w before after unused is = record { lists = is; number = inr unused }

-- its number is in use
pub stands_moved : (v w : ℕ) (before after : VersionLists) → IsMoved v before w after → IsSome (after w)
stands_moved v w before after moved = subst (λ (o : Option (List ItemState)). IsSome o) (sym (ap (λ (lists : VersionLists). lists w) moved.lists)) (stands-with w (list_at after w) (without_list v before))

-- ---- a new repository

pub no_items : (config : RepositoryConfig) (v : ℕ) (before after : VersionLists) → after ≡ with_list v [] before → list_at after v ≡ []
no_items config v before after listed = ap (λ (lists : VersionLists). list_at lists v) listed ∙ list_at-with v [] before

nothing_noted : IndexAgrees [] []
unfolding stamp_in item_named
nothing_noted = record { apart = refl; each = λ identifier. refl; many = refl }

pub new_held : (config : RepositoryConfig) (v : ℕ) (before after : VersionLists) → after ≡ with_list v [] before → IsIndexed config (record { version = v; entries = [] }) [] after
new_held config v before after listed =
    let none = no_items config v before after listed in
    record {
      agrees = subst (λ (items : List ItemState). IndexAgrees [] items) (sym none) nothing_noted;
      kept = subst (λ (items : List ItemState). AreKept config (record { items = items; sets = [] })) (sym none) (kept-none config);
      dated = ap (list_all has_writable_stamp) none;
    }
