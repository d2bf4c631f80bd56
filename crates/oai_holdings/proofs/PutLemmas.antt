-- An item that a put finds is the one that it makes, but for its datestamp; so a put behind the same put finds it, and a put leaves what the
-- deposit of the same leaves, but for that.
use Rattle.std.proofs.Common.{◌≡◌, ◌∙◌, ℕ, ℤ, Bool, true, false, ◌&&◌, cond, List, [], ◌∷◌, length, map, Option, None, Some, Result, Ok, Err, IfOk, IfSome, OnOk, is_some, refl, sym, subst, ap}
use Rattle.std.specs.Prelude.{nat_lt, option_map}
use Rattle.std.specs.Cmp.Lexicographic.{pointwise}
use Rattle.std.specs.List.{list_all}
use Rattle.std.specs.Option.{option_or, unwrap_or}
use Rattle.std.specs.Str.{bytes_eq}
use Rattle.std.proofs.lemmas.Bool.{and_parts, cond-true}
use Rattle.std.proofs.lemmas.Slice.Eq.{bytes_eq-Decides}
use Rattle.oai_names.proofs.Lists.{all-weaker}
use Rattle.oai_item.specs.Encoding.{encoded}
use Rattle.oai_item.specs.Givens.{GivenRecord, kept as as_kept}
use Rattle.oai_item.specs.Item.{IsStamp, ItemState, Metadata, has_record, live_item, record_named}
use Rattle.oai_item.specs.Items.{item_named}
use Rattle.oai_item.specs.Membership.{reduced}
use Rattle.oai_item.specs.declared.fields.Field.{Field}
use Rattle.oai_item.specs.declared.refusals.ChangeRefusal.{ChangeRefusal}
use Rattle.oai_item.specs.declared.refusals.Refusal.{Refusal}
use Rattle.oai_item.specs.declared.refusals.ChangeRefusal.TheVariants.{DropsFormat, TooLarge, TooManyItems}
use Rattle.oai_item.specs.declared.sizes.TheConstants.{MAX_ITEM_BYTES}
use Rattle.oai_item.proofs.Lengths.{length-encoded}
use Rattle.oai_item.proofs.Named.{found_name, item_named-new}
use Rattle.oai_deposit.specs.declared.changes.Change.{Change}
use Rattle.oai_deposit.specs.declared.changes.Change.TheVariants as change
use Rattle.oai_settings.specs.Config.{RepositoryConfig}
use Rattle.oai_holdings.specs.Accepted.{IsStampOfPut, noted_stamp}
use Rattle.oai_holdings.specs.Calls.{unstamped}
use Rattle.oai_holdings.specs.Changes.{changed, deposit_cause, deposit_refusal, drops_format, is_held_so, is_one_too_many, is_same_field, is_same_record, item_refusal, refusal_of, told_stamp, undated, with_new, with_put}
use Rattle.oai_holdings.specs.Entries.{IndexEntries, SetsStamp, stamp_in}
use Rattle.oai_holdings.specs.Holdings.{Holdings}
use Rattle.oai_holdings.specs.Index.{IndexAgrees}
use Rattle.oai_holdings.specs.Kept.{is_too_large}
use Rattle.oai_holdings.proofs.KeptLemmas.{fits, no_cause}

both : {a b : Bool} → a ≡ true → b ≡ true → (a && b) ≡ true
both one other = rw (one, other) refl

-- ---- lists that a test finds the same, element by element

same_lists : {A : Type 0} (test : A → A → Bool) → ((a b : A) → test a b ≡ true → a ≡ b) → (xs ys : List A) → pointwise test xs ys ≡ true → xs ≡ ys
same_lists test same [] [] is = refl
same_lists test same [] (y ∷ ys) is = absurd cc
same_lists test same (x ∷ xs) [] is = absurd cc
same_lists test same (x ∷ xs) (y ∷ ys) is =
    let parts = and_parts (test x y) (pointwise test xs ys) is in
    rw (same x y parts.0, same_lists test same xs ys parts.1) refl

lists_same : {A : Type 0} (test : A → A → Bool) → ((a : A) → test a a ≡ true) → (xs : List A) → pointwise test xs xs ≡ true
lists_same test same [] = refl
lists_same test same (x ∷ xs) = both (same x) (lists_same test same xs)

same_texts : (a b : List ℕ) → bytes_eq a b ≡ true → a ≡ b
same_texts a b is = (bytes_eq-Decides a b).0 is

text_same : (a : List ℕ) → bytes_eq a a ≡ true
text_same a = (bytes_eq-Decides a a).1 refl

-- ---- fields and records

same_fields : (a b : Field) → is_same_field a b ≡ true → a ≡ b
same_fields a b is =
    let parts = and_parts (bytes_eq a.name b.name) (bytes_eq a.text b.text) is in
    ap (λ (name : List ℕ). field name a.text) (same_texts a.name b.name parts.0) ∙ ap (λ (text : List ℕ). field b.name text) (same_texts a.text b.text parts.1)
  where
    field : List ℕ → List ℕ → Field
    field name text = record { name = name; text = text }

same_records : (a b : Metadata) → is_same_record a b ≡ true → a ≡ b
same_records a b is =
    let parts = and_parts (bytes_eq a.0 b.0) (pointwise is_same_field a.1 b.1) is in
    ap (λ (prefix : List ℕ). of prefix a.1) (same_texts a.0 b.0 parts.0) ∙ ap (λ (fields : List Field). of b.0 fields) (same_lists is_same_field same_fields a.1 b.1 parts.1)
  where
    of : List ℕ → List Field → Metadata
    of prefix fields = (prefix, fields)

field_same : (a : Field) → is_same_field a a ≡ true
field_same a = both (text_same a.name) (text_same a.text)

record_same : (a : Metadata) → is_same_record a a ≡ true
record_same a = both (text_same a.0) (lists_same is_same_field field_same a.1)

-- ---- items

pub same_held : (item held : ItemState) → item.live ≡ true → held.identifier ≡ item.identifier → is_held_so item (Some held) ≡ true → item ≡ record held { stamp = item.stamp }
same_held item held live named is =
    let records = and_parts (held.live && pointwise bytes_eq item.sets held.sets) (pointwise is_same_record item.formats held.formats) is in
    let sets = and_parts held.live (pointwise bytes_eq item.sets held.sets) records.0 in
    ap (λ (identifier : List ℕ). made identifier item.live item.sets item.formats) (sym named)
    ∙ ap (λ (its : Bool). made held.identifier its item.sets item.formats) (live ∙ sym sets.0)
    ∙ ap (λ (its : List (List ℕ)). made held.identifier held.live its item.formats) (same_lists bytes_eq same_texts item.sets held.sets sets.1)
    ∙ ap (λ (its : List Metadata). made held.identifier held.live held.sets its) (same_lists is_same_record same_records item.formats held.formats records.1)
  where
    made : List ℕ → Bool → List (List ℕ) → List Metadata → ItemState
    made identifier live sets formats = record { identifier = identifier; stamp = item.stamp; live = live; sets = sets; formats = formats }

-- one that is so found is found so again
pub held_same : (item held : ItemState) → held.live ≡ true → item.sets ≡ held.sets → item.formats ≡ held.formats → is_held_so item (Some held) ≡ true
held_same item held live sets formats =
    both (both live (rw sets (lists_same bytes_eq text_same held.sets))) (rw formats (lists_same is_same_record record_same held.formats))

-- ---- a put behind the same put

has_own : (formats : List Metadata) → list_all (λ (metadata : Metadata). has_record metadata.0 formats) formats ≡ true
unfolding record_named
has_own [] = refl
has_own (m ∷ formats) =
    both (rw (text_same m.0) refl) (all-weaker (λ (other : Metadata). has_record other.0 formats) (λ (other : Metadata). has_record other.0 (m ∷ formats)) longer formats (has_own formats))
  where
    by_test : (b : Bool) (found : Option Metadata) → is_some found ≡ true → is_some (cond b (Some m) found) ≡ true
    by_test true found is = refl
    by_test false found is = is

    longer : (other : Metadata) → has_record other.0 formats ≡ true → has_record other.0 (m ∷ formats) ≡ true
    longer other is = by_test (bytes_eq m.0 other.0) (record_named other.0 formats) is

same_length : (identifier : List ℕ) (sets : List (List ℕ)) (formats : List Metadata) (stamp other : ℤ)
    → length (encoded (live_item identifier stamp sets formats)) ≡ length (encoded (live_item identifier other sets formats))
same_length identifier sets formats stamp other =
    length-encoded (live_item identifier stamp sets formats) ∙ sym (length-encoded (live_item identifier other sets formats))

-- a deposit at another datestamp is refused as it is
pub same_cause : (config : RepositoryConfig) (holdings : Holdings) (identifier : List ℕ) (specs sets : List (List ℕ)) (records : List GivenRecord) (formats : List Metadata) (stamp other : ℤ)
    → deposit_cause config holdings specs records (live_item identifier stamp sets formats) ≡ deposit_cause config holdings specs records (live_item identifier other sets formats)
unfolding item_refusal
same_cause config holdings identifier specs sets records formats stamp other =
    ap (λ (bytes : ℕ). option_or (deposit_refusal config holdings.sets specs records)
    (cond (drops_format (item_named identifier holdings.items) formats) (Some DropsFormat)
    (cond (nat_lt MAX_ITEM_BYTES bytes) (Some TooLarge)
    (cond (is_one_too_many config (item_named identifier holdings.items) (length holdings.items)) (Some TooManyItems) None))))
    (same_length identifier sets formats stamp other)

-- the item that a put leaves, at one datestamp and at another one
module _ (config : RepositoryConfig) (holdings : Holdings) (identifier : List ℕ) (specs : List (List ℕ)) (records : List GivenRecord) (stamp other : ℤ) where
  abbrev first : ItemState
  first = live_item identifier stamp (reduced specs) (map as_kept records)

  abbrev again : ItemState
  again = live_item identifier other (reduced specs) (map as_kept records)

  -- the items, as they are or with it
  abbrev left : Bool → List ItemState
  left found = cond found holdings.items (with_new first holdings.items)

  named_there : item_named identifier (with_new first holdings.items) ≡ Some first
  named_there = item_named-new first identifier holdings.items ∙ cond-true (bytes_eq identifier identifier) (Some first) (item_named identifier holdings.items) (text_same identifier)

  found_again : (b : Bool) → is_held_so first (item_named identifier holdings.items) ≡ b → is_held_so again (item_named identifier (left b)) ≡ true
  found_again true is = is
  found_again false is = ap (is_held_so again) named_there ∙ held_same again first refl refl refl

  cause_again : (b : Bool) → deposit_cause config holdings specs records first ≡ None → deposit_cause config (record holdings { items = left b }) specs records again ≡ None
  unfolding item_refusal is_one_too_many
  cause_again true none = sym (same_cause config holdings identifier specs (reduced specs) records (map as_kept records) stamp other) ∙ none
  cause_again false none =
      let causes = no_cause (deposit_refusal config holdings.sets specs records) (item_refusal config (item_named identifier holdings.items) (length holdings.items) first) none in
      let fit = fits config (item_named identifier holdings.items) (length holdings.items) first causes.1 in
      let small : is_too_large again ≡ false = ap (nat_lt MAX_ITEM_BYTES) (same_length identifier (reduced specs) (map as_kept records) other stamp) ∙ fit.small in
      ap (λ (o : Option ItemState). deposit_with o) named_there ∙ rw (causes.0, has_own (map as_kept records), small) refl
    where
      deposit_with : Option ItemState → Option ChangeRefusal
      deposit_with o = option_or (deposit_refusal config holdings.sets specs records) (item_refusal config o (length (with_new first holdings.items)) again)

  -- what the second one leaves, and the datestamp that answers it
  stays_again : (b : Bool) → is_held_so first (item_named identifier holdings.items) ≡ b
      → with_put again (left b) ≡ left b
  stays_again b is = ap (λ (found : Bool). cond found (left b) (with_new again (left b))) (found_again b is)

  told_again : (b : Bool) → is_held_so first (item_named identifier holdings.items) ≡ b
      → unwrap_or (option_map (λ (item : ItemState). item.stamp) (item_named identifier (left b))) other ≡ unwrap_or (option_map (λ (item : ItemState). item.stamp) (item_named identifier (left b))) stamp
  told_again b is = by_found (item_named identifier (left b)) (found_again b is)
    where
      by_found : (o : Option ItemState) → is_held_so again o ≡ true
          → unwrap_or (option_map (λ (item : ItemState). item.stamp) o) other ≡ unwrap_or (option_map (λ (item : ItemState). item.stamp) o) stamp
      by_found None so = cc
      by_found (Some item) so = refl

-- a put at any datestamp, where the same put left these holdings
pub record IsAgain (config : RepositoryConfig) (stamp other : ℤ) (asked : Change) (holdings : Holdings) : Type 0 where
  pub refused : refusal_of config other holdings asked ≡ refusal_of config stamp holdings asked
  pub none : refusal_of config stamp holdings asked ≡ None → refusal_of config other (changed config stamp holdings asked) asked ≡ None
  pub stays : changed config other (changed config stamp holdings asked) asked ≡ changed config stamp holdings asked
  pub told : told_stamp other asked (changed config stamp holdings asked).items ≡ told_stamp stamp asked (changed config stamp holdings asked).items

pub is_again : (config : RepositoryConfig) (stamp other : ℤ) (identifier : List ℕ) (sets : List (List ℕ)) (records : List GivenRecord) (holdings : Holdings)
    → IsAgain config stamp other (change.Put identifier sets records) holdings
unfolding refusal_of changed
is_again config stamp other identifier sets records holdings =
    let item : ItemState = live_item identifier stamp (reduced sets) (map as_kept records) in
    let found : Bool = is_held_so item (item_named identifier holdings.items) in
    record {
      refused = same_cause config holdings identifier sets (reduced sets) records (map as_kept records) other stamp;
      none = cause_again config holdings identifier sets records stamp other found;
      stays = ap (λ (items : List ItemState). record holdings { items = items }) (stays_again config holdings identifier sets records stamp other found refl);
      told = told_again config holdings identifier sets records stamp other found refl;
    }

-- ---- a put beside the deposit of the same

-- the item of that identifier, without its datestamp, is the same
pub alike : (identifier : List ℕ) (stamp : ℤ) (sets : List (List ℕ)) (formats : List Metadata) (items : List ItemState) (q : List ℕ)
    → (let item = live_item identifier stamp sets formats in undated (item_named q (with_put item items)) ≡ undated (item_named q (with_new item items)))
alike identifier stamp sets formats items q = by_found (is_held_so item (item_named identifier items)) refl
  where
    item : ItemState
    item = live_item identifier stamp sets formats

    of_held : (o : Option ItemState) → item_named identifier items ≡ o → is_held_so item o ≡ true → undated (item_named identifier items) ≡ undated (Some item)
    of_held None is so = cc
    of_held (Some held) is so =
        ap undated is ∙ ap (λ (one : ItemState). undated (Some one)) (sym (same_held item held refl (found_name identifier items held is) so))

    by_name : (b : Bool) → bytes_eq identifier q ≡ b → is_held_so item (item_named identifier items) ≡ true
        → undated (item_named q items) ≡ undated (cond b (Some item) (item_named q items))
    by_name true named so =
        let here : identifier ≡ q = same_texts identifier q named in
        ap (λ (name : List ℕ). undated (item_named name items)) (sym here) ∙ of_held (item_named identifier items) refl so
    by_name false named so = refl

    by_found : (b : Bool) → is_held_so item (item_named identifier items) ≡ b → undated (item_named q (cond b items (with_new item items))) ≡ undated (item_named q (with_new item items))
    by_found true so = by_name (bytes_eq identifier q) refl so ∙ ap undated (sym (item_named-new item q items))
    by_found false so = refl

-- ---- the datestamp that answers a change

pub noted_told : (stamp : ℤ) (asked : Change) (entries : IndexEntries) (items : List ItemState) → IndexAgrees entries items → noted_stamp stamp asked entries ≡ told_stamp stamp asked items
noted_told stamp (change.Deposit identifier sets records) entries items agrees = refl
noted_told stamp (change.Put identifier sets records) entries items agrees = ap (λ (o : Option ℤ). unwrap_or o stamp) (agrees.each identifier)
noted_told stamp (change.Delete identifier) entries items agrees = refl
noted_told stamp (change.Purge before) entries items agrees = refl
noted_told stamp (change.AddSet spec name) entries items agrees = refl

-- of an entry that was known, and of one that is set
pub told_known : (stamp : ℤ) (identifier : List ℕ) (entries : IndexEntries) (known : Option ℤ) → known ≡ stamp_in identifier entries → IfSome known IsStamp → IsStamp stamp
    → IsStampOfPut stamp identifier entries (unwrap_or known stamp)
told_known stamp identifier entries known is dated stamped = (ap (λ (o : Option ℤ). unwrap_or o stamp) is, of_known known dated)
  where
    of_known : (o : Option ℤ) → IfSome o IsStamp → IsStamp (unwrap_or o stamp)
    of_known None dated = stamped
    of_known (Some own) dated = dated

pub told_new : (stamp : ℤ) (identifier : List ℕ) (old new : IndexEntries) → SetsStamp identifier (Some stamp) old new → IsStamp stamp → IsStampOfPut stamp identifier new stamp
told_new stamp identifier old new set stamped =
    let own : bytes_eq identifier identifier ≡ true = (bytes_eq-Decides identifier identifier).1 refl in
    (sym (ap (λ (o : Option ℤ). unwrap_or o stamp) (set identifier ∙ cond-true (bytes_eq identifier identifier) (Some stamp) (stamp_in identifier old) own)), stamped)

-- where a change is made, so is what it is answered with
pub answered_so : {P : Type 0} {Q : ℤ → Type 0} (made : Result (Unit {0}) Refusal) (answer : Result ℤ Refusal) (stamp : ℤ) → unstamped answer ≡ made → IfOk answer (λ told. told ≡ stamp)
    → (P → (told : ℤ) → told ≡ stamp → Q told) → OnOk made P → IfOk answer Q
answered_so {P} made (Ok told) stamp is same so ok = so (subst (λ r. OnOk r P) (sym is) ok) told same
answered_so made (Err refusal) stamp is same so ok = tt

pub answered_put : {P : Type 0} {R Q : ℤ → Type 0} (answer : Result ℤ Refusal) → ((told : ℤ) → P → R told → Q told) → OnOk (unstamped answer) P → IfOk answer R → IfOk answer Q
answered_put (Ok told) so ok its = so told ok its
answered_put (Err refusal) so ok its = tt
