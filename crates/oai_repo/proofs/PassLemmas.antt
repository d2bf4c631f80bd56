-- What a request leaves of the open lists, by how many items it selects, and by its token.
use Rattle.std.proofs.Common.{false, [], ◌≡◌, ◌∙◌, ℕ, ℤ, ◌+◌, ◌-◌, ◌<◌, ◌≤◌, min, List, length, drop, Option, refl, sym, ap}
use Rattle.std.specs.Prelude.{nat_le}
use Rattle.std.proofs.lemmas.Bool.{cond-true, le-leb}
use Rattle.std.proofs.lemmas.List.{length-drop, length-take}
use Rattle.oai_names.specs.declared.list_verbs.ListVerb.{ListVerb}
use Rattle.oai_item.specs.Item.{ItemState}
use Rattle.oai_item.specs.declared.formats.Format.{Format}
use Rattle.oai_time.specs.declared.granularity.Granularity.{Granularity}
use Rattle.oai_args.specs.Asks.{AskOrError, asks, bad_argument, bad_verb}
use Rattle.form_urlencoded.specs.Form.{raw_pairs, split}
use Rattle.oai_args.specs.Arguments.{arguments_in, given}
use Rattle.oai_args.specs.Pairs.{decoded_pairs, values_of}
use Rattle.oai_args.specs.Requests.{asked_verb, request_in, request_of}
use Rattle.oai_args.specs.declared.requests.Ask.TheVariants as ask
use Rattle.oai_settings.specs.Config.{RepositoryConfig}
use Rattle.oai_repo.specs.Calls.{changes_lists}
use Rattle.oai_repo.specs.Machine.{act, act_at, requesting}
use Rattle.oai_repo.specs.Listing.{Response, complete_answer, cursor_behind, new_list, next_cursor, opens_list, selection_response, wait_at, with_answer}
use Rattle.oai_repo.specs.State.{FrozenList, OpenLists, RepoState, moved}
use Rattle.oai_repo.proofs.ListReplyLemmas.{selection_opens}

-- no more than a part has
pub selection_few : (config : RepositoryConfig) (clock : ℤ) (open_lists : OpenLists) (verb : ListVerb) (format : Format) (items : List ItemState) → length items ≤ config.chunk
    → (selection_response config clock open_lists verb format items).1 ≡ open_lists
unfolding selection_response
selection_few config clock open_lists verb format items h =
    ap (λ (r : Response × OpenLists). r.1)
    (cond-true (nat_le (length items) config.chunk) (with_answer (complete_answer config verb format items), open_lists) (opens_list config open_lists format (new_list config clock open_lists verb format.prefix items) (wait_at config clock open_lists))
    (le-leb (length items) config.chunk h))

-- more, and a list begins or the client is to wait
pub selection_many : (config : RepositoryConfig) (clock : ℤ) (open_lists : OpenLists) (verb : ListVerb) (format : Format) (items : List ItemState) (wait : Option ℤ) → config.chunk < length items → wait_at config clock open_lists ≡ wait
    → (selection_response config clock open_lists verb format items).1 ≡ (opens_list config open_lists format (new_list config clock open_lists verb format.prefix items) wait).1
selection_many config clock open_lists verb format items wait many is =
    ap (λ (r : Response × OpenLists). r.1)
    (selection_opens config clock open_lists verb format items many
    ∙ ap (opens_list config open_lists format (new_list config clock open_lists verb format.prefix items)) is)

-- the cursor of the token, by the size of the list alone
pub next_by_size : (config : RepositoryConfig) (list : FrozenList) (size cursor : ℕ) → size ≡ length list.items → cursor_behind size (cursor + min config.chunk (size - cursor)) ≡ next_cursor config list cursor
next_by_size config list size cursor is =
    ap (λ (n : ℕ). cursor_behind n (cursor + min config.chunk (n - cursor))) is
    ∙ ap (λ (n : ℕ). cursor_behind (length list.items) (cursor + n))
    (ap (min config.chunk) (sym (length-drop cursor list.items)) ∙ sym (length-take config.chunk (drop cursor list.items)))

-- ---- requests that only move the clock

pub ticks : (config : RepositoryConfig) (state : RepoState) (moment : ℤ) (request : AskOrError) → changes_lists request ≡ false → (act_at config state moment (requesting request)).1 ≡ moved moment state
unfolding act
ticks config state moment bad_verb is = refl
ticks config state moment bad_argument is = refl
ticks config state moment (asks ask.Identify) is = refl
ticks config state moment (asks (ask.Formats identifier)) is = refl
ticks config state moment (asks ask.Sets) is = refl
ticks config state moment (asks (ask.Get identifier prefix)) is = refl
ticks config state moment (asks (ask.List verb prefix from until set)) is = cc
ticks config state moment (asks (ask.Resume verb token)) is = cc

pub bare_ticks : (granularity : Granularity) → changes_lists (request_of granularity (decoded_pairs [])) ≡ false
unfolding request_of request_in asked_verb arguments_in given values_of decoded_pairs raw_pairs split
bare_ticks granularity = refl
