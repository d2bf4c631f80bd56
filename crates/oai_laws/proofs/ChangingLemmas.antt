-- What a change makes of what is held, where nothing refuses it; and that nothing is made of it where something does.
use Rattle.std.proofs.Common.{◌≡◌, ◌≢◌, ◌∙◌, ◌↔◌, ◌⊎◌, inl, inr, ℕ, ℤ, ◌≤ℤ◌, Bool, true, false, not, ◌&&◌, cond, List, map, Option, None, Some, is_none, refl, sym, ap, subst, arith}
use Rattle.std.specs.Prelude.{filter, int_lt, option_and_then}
use Rattle.std.specs.List.{Contains}
use Rattle.std.specs.Str.{bytes_eq}
use Rattle.std.proofs.lemmas.Bool.{cond-true, cond-false, false_from_ne_true}
use Rattle.std.proofs.lemmas.Int.{ints}
use Rattle.std.proofs.lemmas.Slice.Eq.{bytes_eq-Decides}
use Rattle.oai_time.specs.Bound.{IsBound, bound_of, is_no_finer_than, lower_of}
use Rattle.oai_time.specs.declared.bound.Bound.{Bound}
use Rattle.oai_time.specs.declared.granularity.Granularity.{Granularity}
use Rattle.oai_time.proofs.ReadingLemmas.{bound_of_is}
use Rattle.oai_item.specs.Givens.{kept}
use Rattle.oai_item.specs.Item.{ItemState, live_item, tombstone_of}
use Rattle.oai_item.specs.Items.{item_named, without}
use Rattle.oai_item.specs.Membership.{reduced}
use Rattle.oai_item.specs.Refusals.{Cause}
use Rattle.oai_deposit.specs.declared.changes.Change.{Change}
use Rattle.oai_deposit.specs.declared.changes.Change.TheVariants as change
use Rattle.oai_item.specs.declared.refusals.ChangeRefusal.{ChangeRefusal}
use Rattle.oai_item.specs.declared.refusals.ChangeRefusal.TheVariants.{AlreadyDeleted, BadDate, NotTransient}
use Rattle.oai_item.proofs.Members.{Member-filter, contains_from, member_from}
use Rattle.oai_item.proofs.Named.{found_name, item_named-new, item_named-without}
use Rattle.oai_answers.specs.Answers.{Attributes}
use Rattle.oai_item.specs.declared.deleted_record.DeletedRecord.{DeletedRecord}
use Rattle.oai_item.specs.declared.deleted_record.DeletedRecord.TheVariants.{No, Transient, Persistent}
use Rattle.oai_settings.specs.Config.{RepositoryConfig}
use Rattle.oai_repo.specs.Answers.{arguments_of_request}
use Rattle.oai_holdings.specs.Changes.{after_deletion, after_purge, changed, dead_refusal, is_held_so, is_transient, limit_in, limit_of, missing_refusal, purge_refusal, purged, refusal_of, stamp_at, told_stamp, with_new, with_put, with_tombstone}
use Rattle.oai_repo.specs.Listing.{Response, request_response, with_answer, retry_after}
use Rattle.oai_repo.specs.Machine.{Command, accepted, act, act_on_change, requesting, changing, outcome_of, refused_with, rejecting}
use Rattle.oai_holdings.specs.Holdings.{Holdings}
use Rattle.oai_repo.specs.State.{RepoState}
use Rattle.oai_laws.specs.Changing.{DoesChange, IsDeleted, IsFound, IsPurged, IsReplaced, Makes, left_over}
use Rattle.oai_holdings.proofs.KeptLemmas.{no_cause}
use Rattle.oai_holdings.proofs.PutLemmas.{same_held}
use Rattle.oai_laws.proofs.EffectLemmas.{not_not, of_transient, passed, was_live}

-- what is held, with other items
abbrev with_items : Holdings → List ItemState → Holdings
with_items holdings items = record holdings { items = items }

-- ---- by identifier

same_bytes : (a : List ℕ) → bytes_eq a a ≡ true
same_bytes a = (bytes_eq-Decides a a).1 refl

other_bytes : (a b : List ℕ) → b ≢ a → bytes_eq a b ≡ false
other_bytes a b apart = false_from_ne_true (bytes_eq a b) (λ h. apart (sym ((bytes_eq-Decides a b).0 h)))

-- an item is put in place of the one of its identifier
put_replaced : (item : ItemState) (holdings : Holdings) → IsReplaced item.identifier (Some item) holdings (with_items holdings (with_new item holdings.items))
put_replaced item holdings = record {
  named = item_named-new item item.identifier holdings.items
      ∙ cond-true (bytes_eq item.identifier item.identifier) (Some item) (item_named item.identifier holdings.items) (same_bytes item.identifier);
  others = λ other apart. item_named-new item other holdings.items
      ∙ cond-false (bytes_eq item.identifier other) (Some item) (item_named other holdings.items) (other_bytes item.identifier other apart);
  same_sets = refl;
}

-- or is found there
put_makes : (item : ItemState) (holdings : Holdings) → item.live ≡ true
    → IsFound item holdings (with_items holdings (with_put item holdings.items)) ⊎ IsReplaced item.identifier (Some item) holdings (with_items holdings (with_put item holdings.items))
put_makes item holdings live = by_test (is_held_so item (item_named item.identifier holdings.items)) refl
  where
    found : (o : Option ItemState) → item_named item.identifier holdings.items ≡ o → is_held_so item o ≡ true → IsFound item holdings holdings
    found None is so = cc
    found (Some held) is so = record {
      held = held;
      there = is;
      same = same_held item held live (found_name item.identifier holdings.items held is) so;
      unchanged = refl;
    }

    by_test : (b : Bool) → is_held_so item (item_named item.identifier holdings.items) ≡ b
        → IsFound item holdings (with_items holdings (cond b holdings.items (with_new item holdings.items)))
        ⊎ IsReplaced item.identifier (Some item) holdings (with_items holdings (cond b holdings.items (with_new item holdings.items)))
    by_test true is = inl (found (item_named item.identifier holdings.items) refl is)
    by_test false is = inr (put_replaced item holdings)

-- the item of an identifier is taken out
out_replaced : (identifier : List ℕ) (holdings : Holdings) → IsReplaced identifier None holdings (with_items holdings (without identifier holdings.items))
out_replaced identifier holdings = record {
  named = item_named-without identifier identifier holdings.items
      ∙ cond-true (bytes_eq identifier identifier) None (item_named identifier holdings.items) (same_bytes identifier);
  others = λ other apart. item_named-without identifier other holdings.items
      ∙ cond-false (bytes_eq identifier other) None (item_named other holdings.items) (other_bytes identifier other apart);
  same_sets = refl;
}

-- ---- a deletion

-- what is left of an item stands in its place
tombstone_replaced : (stamp : ℤ) (identifier : List ℕ) (item : ItemState) (holdings : Holdings) → item_named identifier holdings.items ≡ Some item
    → IsReplaced identifier (Some (tombstone_of stamp item)) holdings (with_items holdings (with_tombstone stamp (item_named identifier holdings.items) holdings.items))
tombstone_replaced stamp identifier item holdings is =
    subst (λ (found : Option ItemState). IsReplaced identifier (Some (tombstone_of stamp item)) holdings (with_items holdings (with_tombstone stamp found holdings.items))) (sym is)
    (subst (λ (name : List ℕ). IsReplaced name (Some (tombstone_of stamp item)) holdings (with_items holdings (with_new (tombstone_of stamp item) holdings.items))) (found_name identifier holdings.items item is)
    (put_replaced (tombstone_of stamp item) holdings))

by_policy : (policy : DeletedRecord) (stamp : ℤ) (identifier : List ℕ) (item : ItemState) (holdings : Holdings) → item_named identifier holdings.items ≡ Some item
    → IsReplaced identifier (left_over policy stamp item) holdings (with_items holdings (after_deletion policy stamp identifier holdings.items))
by_policy No stamp identifier item holdings is = out_replaced identifier holdings
by_policy Transient stamp identifier item holdings is = tombstone_replaced stamp identifier item holdings is
by_policy Persistent stamp identifier item holdings is = tombstone_replaced stamp identifier item holdings is

deleted_makes : (policy : DeletedRecord) (stamp : ℤ) (identifier : List ℕ) (holdings : Holdings) (found : Option ItemState) → item_named identifier holdings.items ≡ found
    → missing_refusal found ≡ None → dead_refusal found ≡ None → IsDeleted policy stamp identifier holdings (with_items holdings (after_deletion policy stamp identifier holdings.items))
deleted_makes policy stamp identifier holdings None is missing dead = cc
deleted_makes policy stamp identifier holdings (Some item) is missing dead = record {
  item = item;
  there = is;
  lived = was_live AlreadyDeleted item.live dead;
  replaced = by_policy policy stamp identifier item holdings is;
}

-- ---- a purge

-- the limit of a purge is the first second of the bound that its text stands for
record HasLimit (granularity : Granularity) (text : List ℕ) : Type 0 where
  pub bound : Bound
  pub is_bound : IsBound text bound
  pub limit : limit_of granularity text ≡ Some (lower_of bound)

limit_given : (granularity : Granularity) (text : List ℕ) (found : Option Bound) → bound_of text ≡ found → is_none (option_and_then (limit_in granularity) found) ≡ false → HasLimit granularity text
limit_given granularity text None is some = cc
limit_given granularity text (Some bound) is some = record {
  bound = bound;
  is_bound = bound_of_is text bound is;
  limit = ap (option_and_then (limit_in granularity)) is ∙ by_test (is_no_finer_than bound granularity) some;
}
  where
    by_test : (b : Bool) → is_none (cond b (Some (lower_of bound)) None) ≡ false → cond b (Some (lower_of bound)) None ≡ Some (lower_of bound)
    by_test true some = refl
    by_test false some = cc

-- an item stays exactly where it is live or not before the limit
stays_as : (live : Bool) (stamp limit : ℤ) → not (not live && int_lt stamp limit) ≡ true → (live ≡ true) ⊎ (limit ≤ℤ stamp)
stays_as true stamp limit h = inl refl
stays_as false stamp limit h = inr (grind (arith, ints))

as_stays : (live : Bool) (stamp limit : ℤ) → (live ≡ true) ⊎ (limit ≤ℤ stamp) → not (not live && int_lt stamp limit) ≡ true
as_stays true stamp limit h = refl
as_stays false stamp limit (inl h) = cc
as_stays false stamp limit (inr h) = grind (arith, ints)

purged_members : (limit : ℤ) (items : List ItemState) (item : ItemState) → Contains (purged limit items) item ↔ (Contains items item × ((item.live ≡ true) ⊎ (limit ≤ℤ item.stamp)))
unfolding purged
purged_members limit items item =
    let test : ItemState → Bool = λ other. not (not other.live && int_lt other.stamp limit) in
    let kept = Member-filter test items item in (
      (λ h.
          let found = kept.0 (member_from (filter test items) item h) in
          (contains_from items item found.0, stays_as item.live item.stamp limit found.1)),
      (λ h. contains_from (filter test items) item (kept.1 (member_from items item h.0, as_stays item.live item.stamp limit h.1))),
    )

purge_makes : (config : RepositoryConfig) (text : List ℕ) (holdings : Holdings) → purge_refusal config text ≡ None
    → IsPurged config.deleted text holdings (with_items holdings (after_purge (limit_of config.granularity text) holdings.items))
unfolding purge_refusal
purge_makes config text holdings none =
    let first = passed (not (is_transient config.deleted)) NotTransient _ none in
    let later = passed (is_none (limit_of config.granularity text)) BadDate _ first.1 in
    let given = limit_given config.granularity text (bound_of text) refl later.0 in
    record {
      forgetful = of_transient config.deleted (not_not (is_transient config.deleted) first.0);
      bound = given.bound;
      is_bound = given.is_bound;
      members = λ item. subst (λ (limit : Option ℤ). Contains (after_purge limit holdings.items) item ↔ (Contains holdings.items item × ((item.live ≡ true) ⊎ (lower_of given.bound ≤ℤ item.stamp)))) (sym given.limit)
          (purged_members (lower_of given.bound) holdings.items item);
      same_sets = refl;
    }

-- ---- a change

makes : (config : RepositoryConfig) (stamp : ℤ) (asked : Change) (holdings : Holdings) → refusal_of config stamp holdings asked ≡ None → Makes config stamp asked holdings (changed config stamp holdings asked)
unfolding refusal_of changed
makes config stamp (change.Deposit identifier sets records) holdings none = put_replaced (live_item identifier stamp (reduced sets) (map kept records)) holdings
makes config stamp (change.Put identifier sets records) holdings none = put_makes (live_item identifier stamp (reduced sets) (map kept records)) holdings refl
makes config stamp (change.Delete identifier) holdings none =
    let found : Option ItemState = item_named identifier holdings.items in
    let causes = no_cause (missing_refusal found) (dead_refusal found) none in
    deleted_makes config.deleted stamp identifier holdings found refl causes.0 causes.1
makes config stamp (change.Purge before) holdings none = purge_makes config before holdings none
makes config stamp (change.AddSet spec name) holdings none = (refl, refl)

-- the state that is left, where the outcome is that it was accepted
accepted_by : (config : RepositoryConfig) (state : RepoState) (asked : Change) (refusal : Option ChangeRefusal) (told : ℤ) → refusal_of config (stamp_at config state.clock) state.holdings asked ≡ refusal
    → (act_on_change config state (stamp_at config state.clock) asked refusal).0 ≡ accepted told
    → DoesChange config asked state (act_on_change config state (stamp_at config state.clock) asked refusal).1 told
accepted_by config state asked (Some cause) told is h = cc
accepted_by config state asked None told is h =
    let stamp : ℤ = stamp_at config state.clock in
    let new : Holdings = changed config stamp state.holdings asked in
    let same : told_stamp stamp asked new.items ≡ told = cc in
    subst (λ (t : ℤ). DoesChange config asked state (record state { holdings = new }) t) same
    (record { dated = refl; made = makes config stamp asked state.holdings is })

pub accepted_is : (config : RepositoryConfig) (state : RepoState) (asked : Change) (told : ℤ)
    → (let done = act config state (changing asked) in done.0 ≡ accepted told → DoesChange config asked state done.1 told)
unfolding act
accepted_is config state asked told = accepted_by config state asked (refusal_of config (stamp_at config state.clock) state.holdings asked) told refl

-- ---- a refusal

refused_by : (config : RepositoryConfig) (state : RepoState) (asked : Change) (refusal : Option ChangeRefusal) (cause : Cause)
    → (act_on_change config state (stamp_at config state.clock) asked refusal).0 ≡ refused_with cause
    → (act_on_change config state (stamp_at config state.clock) asked refusal).1 ≡ state
refused_by config state asked (Some other) cause h = refl
refused_by config state asked None cause h = cc

never_refused : (config : RepositoryConfig) (clock : ℤ) (asked : Attributes) (said : Response) (cause : Cause) → outcome_of config clock asked said ≡ refused_with cause → ⊥
never_refused config clock asked (with_answer answer) cause h = cc
never_refused config clock asked (retry_after seconds) cause h = cc

pub refused_is : (config : RepositoryConfig) (state : RepoState) (command : Command) (cause : Cause)
    → (let done = act config state command in done.0 ≡ refused_with cause → done.1 ≡ state)
unfolding act
refused_is config state (requesting request) cause = λ told. absurd (never_refused config state.clock (arguments_of_request request) (request_response config state request).0 cause told)
refused_is config state (changing asked) cause = refused_by config state asked (refusal_of config (stamp_at config state.clock) state.holdings asked) cause
refused_is config state (rejecting line) cause = λ told. refl
