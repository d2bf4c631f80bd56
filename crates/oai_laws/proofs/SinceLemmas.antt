-- What becomes of items from a moment on, where nothing is forgotten: each is as it was, or has a later datestamp and no format less.
use Rattle.std.proofs.Common.{◌≡◌, ◌∙◌, ◌⊎◌, inl, inr, ℕ, ℤ, ◌≤ℤ◌, Bool, true, false, List, [], ◌∷◌, Option, None, Some, refl, sym, ap, subst, arith}
use Rattle.std.specs.Prelude.{find, is_some}
use Rattle.std.specs.List.{list_all}
use Rattle.std.specs.Str.{bytes_eq}
use Rattle.std.proofs.lemmas.Bool.{and_parts, cases_Bool, cond-true, cond-false}
use Rattle.std.proofs.lemmas.Int.{ints}
use Rattle.std.proofs.lemmas.Slice.Eq.{bytes_eq-Decides}
use Rattle.oai_time.specs.Clock.{tick}
use Rattle.oai_time.specs.Stamp.{IsWritable}
use Rattle.oai_time.proofs.ClockLemmas.{tick-in_range, tick-not_back}
use Rattle.oai_time.proofs.StampLemmas.{stamp_of-in_order}
use Rattle.oai_item.specs.Item.{ItemState, Metadata, has_record, record_named}
use Rattle.oai_item.specs.Items.{item_named}
use Rattle.oai_item.specs.declared.deleted_record.DeletedRecord.TheVariants.{Persistent}
use Rattle.oai_item.proofs.Named.{item_named-new}
use Rattle.oai_settings.specs.Config.{RepositoryConfig}
use Rattle.oai_holdings.specs.Changes.{drops_format, stamp_at, with_new}
use Rattle.oai_repo.specs.Machine.{Command, act}
use Rattle.oai_repo.specs.State.{RepoState, moved}
use Rattle.oai_laws.specs.Effects.{Effect, IsPossible, IsSound, effected, item_put, item_taken, items_purged, list_carried_on, list_opened, set_added, unchanged}
use Rattle.oai_laws.proofs.EffectLemmas.{effect_of, not_not, sound_effected, sound_moved}

-- ---- under one identifier

-- there is an item with a record in that metadataPrefix
abbrev pub has_in : List ℕ → Option ItemState → Bool
has_in prefix None = false
has_in prefix (Some item) = has_record prefix item.formats

-- there is an item now whose datestamp is not before that one, with a record in each format in which there was one
pub record IsNewer (stamp : ℤ) (old new : Option ItemState) : Type 0 where
  pub item : ItemState
  pub there : new ≡ Some item
  pub dated : stamp ≤ℤ item.stamp
  pub formats : (prefix : List ℕ) → has_in prefix old ≡ true → has_record prefix item.formats ≡ true

-- under each identifier there is what there was, or a newer item
abbrev pub IsSince : ℤ → List ItemState → List ItemState → Type 0
IsSince stamp old new = (q : List ℕ) → (item_named q new ≡ item_named q old) ⊎ IsNewer stamp (item_named q old) (item_named q new)

-- ---- an item that is put

kept_record : (prefix : List ℕ) (records formats : List Metadata) → list_all (λ (metadata : Metadata). has_record metadata.0 records) formats ≡ true → has_record prefix formats ≡ true → has_record prefix records ≡ true
unfolding record_named
kept_record prefix records [] all h = cc
kept_record prefix records (metadata ∷ formats) all h =
    let parts = and_parts (has_record metadata.0 records) (list_all (λ (m : Metadata). has_record m.0 records) formats) all in
    elim (cases_Bool (bytes_eq metadata.0 prefix)) [
      | inl same ↦ subst (λ (p : List ℕ). has_record p records ≡ true) ((bytes_eq-Decides metadata.0 prefix).0 same) parts.0
      | inr other ↦
          kept_record prefix records formats parts.1
          (ap is_some (sym (cond-false (bytes_eq metadata.0 prefix) (Some metadata) (find (λ m. bytes_eq m.0 prefix) formats) other)) ∙ h)
    ]

kept_in : (prefix : List ℕ) (replaced : Option ItemState) (records : List Metadata) → drops_format replaced records ≡ false → has_in prefix replaced ≡ true → has_record prefix records ≡ true
kept_in prefix None records kept h = cc
kept_in prefix (Some item) records kept h = kept_record prefix records item.formats (not_not (list_all (λ (metadata : Metadata). has_record metadata.0 records) item.formats) kept) h

since_put : (stamp : ℤ) (old items : List ItemState) (item : ItemState) → IsSince stamp old items → stamp ≤ℤ item.stamp → drops_format (item_named item.identifier items) item.formats ≡ false
    → IsSince stamp old (with_new item items)
since_put stamp old items item since dated kept q =
    elim (cases_Bool (bytes_eq item.identifier q)) [
      | inl same ↦
          let is : item.identifier ≡ q = (bytes_eq-Decides item.identifier q).0 same in
          let kept_there : drops_format (item_named q items) item.formats ≡ false = subst (λ (t : List ℕ). drops_format (item_named t items) item.formats ≡ false) is kept in
          inr (record {
            item = item;
            there = item_named-new item q items ∙ cond-true (bytes_eq item.identifier q) (Some item) (item_named q items) same;
            dated = dated;
            formats = λ prefix had.
                elim (since q) [
                  | inl as_before ↦ kept_in prefix (item_named q items) item.formats kept_there (ap (has_in prefix) as_before ∙ had)
                  | inr newer ↦ kept_in prefix (item_named q items) item.formats kept_there (ap (has_in prefix) newer.there ∙ newer.formats prefix had)
                ];
          })
      | inr other ↦
          let is : item_named q (with_new item items) ≡ item_named q items = item_named-new item q items ∙ cond-false (bytes_eq item.identifier q) (Some item) (item_named q items) other in
          subst (λ (o : Option ItemState). (o ≡ item_named q old) ⊎ IsNewer stamp (item_named q old) o) (sym is) (since q)
    ]

-- ---- in the course of time

-- a state that a repository comes to from a clock on, at which it held those items
pub record IsAfter (config : RepositoryConfig) (clock : ℤ) (old : List ItemState) (state : RepoState) : Type 0 where
  pub sound : IsSound config state
  pub writable : IsWritable state.clock
  pub later : clock ≤ℤ state.clock
  pub since : IsSince (stamp_at config clock) old state.holdings.items

le_again : (z : ℤ) → z ≤ℤ z
le_again z = omega (arith, ints)

le_trans : (a b c : ℤ) → a ≤ℤ b → b ≤ℤ c → a ≤ℤ c
le_trans a b c h g = omega (arith, ints)

pub after_itself : (config : RepositoryConfig) (state : RepoState) → IsSound config state → IsWritable state.clock → IsAfter config state.clock state.holdings.items state
after_itself config state sound writable = record { sound = sound; writable = writable; later = le_again state.clock; since = λ q. inl refl }

pub after_moved : (config : RepositoryConfig) (clock : ℤ) (old : List ItemState) (moment : ℤ) (state : RepoState) → IsAfter config clock old state → IsAfter config clock old (moved moment state)
after_moved config clock old moment state after = record {
  sound = sound_moved config moment state after.sound;
  writable = tick-in_range state.clock moment after.writable;
  later = le_trans clock state.clock (tick state.clock moment) after.later (tick-not_back state.clock moment);
  since = after.since;
}

same_clock : (config : RepositoryConfig) (state : RepoState) (effect : Effect) → (effected config state effect).clock ≡ state.clock
same_clock config state unchanged = refl
same_clock config state (item_put item) = refl
same_clock config state (item_taken identifier) = refl
same_clock config state (items_purged limit) = refl
same_clock config state (set_added set) = refl
same_clock config state (list_carried_on number next) = refl
same_clock config state (list_opened list) = refl

-- where deleted items are kept, nothing is taken out
since_effected : (config : RepositoryConfig) (clock : ℤ) (old : List ItemState) (state : RepoState) (effect : Effect) → config.deleted ≡ Persistent → IsPossible config state effect → IsAfter config clock old state
    → IsSince (stamp_at config clock) old (effected config state effect).holdings.items
since_effected config clock old state unchanged persistent possible after = after.since
since_effected config clock old state (item_put item) persistent possible after =
    since_put (stamp_at config clock) old state.holdings.items item after.since
    (subst (λ (s : ℤ). stamp_at config clock ≤ℤ s) (sym possible.dated) (stamp_of-in_order config.granularity clock state.clock after.later)) possible.formats
since_effected config clock old state (item_taken identifier) persistent possible after = cc
since_effected config clock old state (items_purged limit) persistent possible after = cc
since_effected config clock old state (set_added set) persistent possible after = after.since
since_effected config clock old state (list_carried_on number next) persistent possible after = after.since
since_effected config clock old state (list_opened list) persistent possible after = after.since

after_effected : (config : RepositoryConfig) (clock : ℤ) (old : List ItemState) (state : RepoState) (effect : Effect) → config.deleted ≡ Persistent → IsPossible config state effect → IsAfter config clock old state
    → IsAfter config clock old (effected config state effect)
after_effected config clock old state effect persistent possible after =
    let same = sym (same_clock config state effect) in
    record {
      sound = sound_effected config state effect possible after.sound;
      writable = subst IsWritable same after.writable;
      later = subst (λ (z : ℤ). clock ≤ℤ z) same after.later;
      since = since_effected config clock old state effect persistent possible after;
    }

pub after_act : (config : RepositoryConfig) (clock : ℤ) (old : List ItemState) (state : RepoState) (command : Command) → config.deleted ≡ Persistent → IsAfter config clock old state → IsAfter config clock old (act config state command).1
after_act config clock old state command persistent after =
    let done = effect_of config state command after.sound in
    subst (IsAfter config clock old) (sym done.done) (after_effected config clock old state done.effect persistent done.possible after)
