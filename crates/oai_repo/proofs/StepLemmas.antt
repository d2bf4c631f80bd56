-- What a call does at the moved clock is a step of the machine.
use Rattle.std.proofs.Common.{◌≡◌, ◌∙◌, ℤ, Ok, Err, ap, refl, sym, subst}
use Rattle.oai_item.specs.Refusals.{in_repository}
use Rattle.oai_deposit.specs.declared.changes.Change.{Change}
use Rattle.oai_item.specs.declared.refusals.ChangeRefusal.{ChangeRefusal}
use Rattle.oai_time.specs.declared.granularity.Granularity.{Granularity}
use Rattle.oai_args.specs.Asks.{AskOrError}
use Rattle.oai_answers.specs.Answers.{Attributes}
use Rattle.oai_repo.specs.Answers.{arguments_of_request}
use Rattle.oai_repo.specs.Calls.{output_of_reply}
use Rattle.oai_holdings.specs.Changes.{stamp_at, told_stamp}
use Rattle.oai_settings.specs.Config.{RepositoryConfig}
use Rattle.oai_repo.specs.Views.{reply_of}
use Rattle.oai_repo.specs.Listing.{Response, request_response, with_answer, retry_after}
use Rattle.oai_repo.specs.Machine.{Outcome, Output, act, act_on_change, outcome_output, accepted, requesting, changing, outcome_of, refused_with}
use Rattle.oai_holdings.specs.Holdings.{Holdings}
use Rattle.oai_repo.specs.State.{OpenLists, RepoState, still_open}
use Rattle.oai_holdings.specs.Indexing.{MakesChange}
use Rattle.oai_item.specs.declared.refusals.Refusal.TheVariants as refusal
use Rattle.oai_repo.specs.declared.responses.Reply.{Reply}

-- a change that is made at the clock
act-made : (config : RepositoryConfig) (clock : ℤ) (old new : Holdings) (open_lists : OpenLists) (asked : Change) → MakesChange config (stamp_at config clock) old asked (Ok tt) new
    → act config (record { clock = clock; holdings = old; open_lists = open_lists }) (changing asked)
    ≡ (accepted (told_stamp (stamp_at config clock) asked new.items), record { clock = clock; holdings = new; open_lists = open_lists })
unfolding act
act-made config clock old new open_lists asked made =
    ap (act_on_change config (record { clock = clock; holdings = old; open_lists = open_lists }) (stamp_at config clock) asked) made.0 ∙ rw made.1 refl

-- one that is refused
act-refused : (config : RepositoryConfig) (clock : ℤ) (old new : Holdings) (open_lists : OpenLists) (asked : Change) (cause : ChangeRefusal)
    → MakesChange config (stamp_at config clock) old asked (Err (refusal.Refused cause)) new
    → act config (record { clock = clock; holdings = old; open_lists = open_lists }) (changing asked) ≡ (refused_with (in_repository cause), record { clock = clock; holdings = new; open_lists = open_lists })
unfolding act
act-refused config clock old new open_lists asked cause made =
    ap (act_on_change config (record { clock = clock; holdings = old; open_lists = open_lists }) (stamp_at config clock) asked) made.0 ∙ rw made.1 refl

abbrev pub at : ℤ → Holdings → OpenLists → RepoState
at clock holdings open_lists = record { clock = clock; holdings = holdings; open_lists = open_lists }

-- the same, where lists may have ended at the clock
abbrev pub at_later : ℤ → Holdings → OpenLists → RepoState
at_later clock holdings open_lists = at clock holdings (still_open clock open_lists)

-- a change that is made, where the clock was moved from `t` to `now`
pub step-made : (config : RepositoryConfig) (now t stamp : ℤ) (old new : Holdings) (open_lists : OpenLists) (asked : Change)
    → now ≡ t → stamp ≡ stamp_at config now → MakesChange config stamp old asked (Ok tt) new
    → act config (at_later t old open_lists) (changing asked) ≡ (accepted (told_stamp stamp asked new.items), at_later now new open_lists)
step-made config now t stamp old new open_lists asked is dated made =
    let told : ℤ → Outcome = λ s. accepted (told_stamp s asked new.items) in
    let here : MakesChange config (stamp_at config now) old asked (Ok tt) new = subst (λ (s : ℤ). MakesChange config s old asked (Ok tt) new) dated made in
    let done : act config (at_later now old open_lists) (changing asked) ≡ (told stamp, at_later now new open_lists) =
    subst (λ (s : ℤ). act config (at_later now old open_lists) (changing asked) ≡ (told s, at_later now new open_lists)) (sym dated) (act-made config now old new (still_open now open_lists) asked here)
    in
    subst (λ (x : ℤ). act config (at_later x old open_lists) (changing asked) ≡ (told stamp, at_later now new open_lists)) is done

-- one that is refused
pub step-refused : (config : RepositoryConfig) (now t stamp : ℤ) (old new : Holdings) (open_lists : OpenLists) (asked : Change) (cause : ChangeRefusal)
    → now ≡ t → stamp ≡ stamp_at config now → MakesChange config stamp old asked (Err (refusal.Refused cause)) new
    → act config (at_later t old open_lists) (changing asked) ≡ (refused_with (in_repository cause), at_later now new open_lists)
step-refused config now t stamp old new open_lists asked cause is dated made =
    let here : MakesChange config (stamp_at config now) old asked (Err (refusal.Refused cause)) new =
    subst (λ (s : ℤ). MakesChange config s old asked (Err (refusal.Refused cause)) new) dated made
    in
    subst (λ (x : ℤ). act config (at_later x old open_lists) (changing asked) ≡ (refused_with (in_repository cause), at_later now new open_lists)) is
    (act-refused config now old new (still_open now open_lists) asked cause here)

-- what a reply has is what is written of the outcome
pub reply_output : (granularity : Granularity) (config : RepositoryConfig) (clock : ℤ) (asked : Attributes) (response : Response) (reply : Reply)
    → reply ≡ reply_of config clock asked response → output_of_reply reply ≡ outcome_output granularity (outcome_of config clock asked response)
unfolding outcome_output
reply_output granularity config clock asked (with_answer answer) reply is = ap output_of_reply is
reply_output granularity config clock asked (retry_after seconds) reply is = ap output_of_reply is

abbrev telling : Output → RepoState → Output × RepoState
telling told state = (told, state)

-- a request that is answered, where the clock was moved from `t` to `now`; the lists that are open before it, and after it
pub step-asked : (config : RepositoryConfig) (now t : ℤ) (holdings : Holdings) (open_lists before after : OpenLists) (request : AskOrError) (told : Output)
    → now ≡ t → before ≡ still_open now open_lists
    → told ≡ outcome_output config.granularity (outcome_of config now (arguments_of_request request) (request_response config (at now holdings before) request).0)
    → after ≡ (request_response config (at now holdings before) request).1
    → (let done = act config (at_later t holdings open_lists) (requesting request) in telling (outcome_output config.granularity done.0) done.1) ≡ telling told (at now holdings after)
unfolding act
step-asked config now t holdings open_lists before after request told is open_before said left =
    let from : RepoState → Output × RepoState = λ state.
    let done = request_response config state request in
    telling (outcome_output config.granularity (outcome_of config state.clock (arguments_of_request request) done.0)) (record state { open_lists = done.1 })
    in
    let here : from (at_later t holdings open_lists) ≡ from (at now holdings before) =
    ap from (ap (λ (x : ℤ). at_later x holdings open_lists) (sym is) ∙ ap (at now holdings) (sym open_before))
    in
    here ∙ ap (λ (x : Output). telling x (at now holdings (request_response config (at now holdings before) request).1)) (sym said) ∙ ap (λ (x : OpenLists). telling told (at now holdings x)) (sym left)

-- one whose reply is dropped
pub step-passed : (config : RepositoryConfig) (now t : ℤ) (holdings : Holdings) (open_lists before after : OpenLists) (request : AskOrError)
    → now ≡ t → before ≡ still_open now open_lists
    → after ≡ (request_response config (at now holdings before) request).1
    → (act config (at_later t holdings open_lists) (requesting request)).1 ≡ at now holdings after
step-passed config now t holdings open_lists before after request is open_before left =
    ap (λ (done : Output × RepoState). done.1)
    (step-asked config now t holdings open_lists before after request (outcome_output config.granularity (outcome_of config now (arguments_of_request request) (request_response config (at now holdings before) request).0)) is open_before refl left)
