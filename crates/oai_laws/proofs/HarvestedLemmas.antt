-- What a harvest was told is what its list request selected.
use Rattle.std.proofs.Common.{◌≡◌, ◌≢◌, ◌∙◌, ◌⊎◌, inl, inr, ℕ, true, ◌||◌, List, [], ◌∷◌, ◌++◌, length, map, Option, None, Some, refl, sym, ap}
use Rattle.std.specs.Prelude.{is_none, option_and_then}
use Rattle.std.specs.List.{flat_map}
use Rattle.std.proofs.lemmas.Bool.{cases_Bool, cases_lt}
use Rattle.std.proofs.lemmas.List.{append-nil}
use Rattle.oai_item.specs.Item.{ItemState}
use Rattle.oai_item.specs.declared.formats.Format.{Format}
use Rattle.oai_answers.specs.Answers.{Continuation, Page, VerbAnswer, completes, fails, lists_records, remains, whole}
use Rattle.oai_settings.specs.Config.{IsConfig, RepositoryConfig}
use Rattle.oai_repo.specs.Machine.{Outcome, accepted, act, documented, later, refused_with}
use Rattle.oai_repo.specs.State.{RepoState}
use Rattle.oai_laws.specs.Effects.{IsSound}
use Rattle.oai_laws.specs.Following.{ArePagesAt, IsChain, ListQuery, answer_in, are_complete, extent_in, first_request, is_later, joined, offer_in, page_in, page_shown, selection_in}
use Rattle.oai_laws.specs.Runs.{IsPart, Timed, Transition, run}
use Rattle.oai_laws.specs.Shown.{is_followed_to_its_end, is_last_page}
use Rattle.oai_laws.proofs.ChainLemmas.{chain_followed}
use Rattle.oai_laws.proofs.WholeLemmas.{none_told, whole_told}
use Rattle.oai_laws.specs.Harvests.{Harvest, IsEmptyHarvest, IsFollowedHarvest, IsHarvest, IsWholeHarvest, harvested, items_told, records_since, requests_of}

-- ---- how a list request is answered

later_none : (outcome : Outcome) → is_later outcome ≡ true → answer_in outcome ≡ None
later_none (later seconds) h = refl
later_none (documented document) h = cc
later_none (accepted stamp) h = cc
later_none (refused_with cause) h = cc

-- it is told that nothing is selected, and so it is
pub record IsToldNone (exchange : Transition) (selection : List ItemState) : Type 0 where
  pub none : selection ≡ []
  pub shown : page_shown exchange.outcome ≡ None

-- it is told the whole selection in one page
pub record IsToldWhole (exchange : Transition) (selection : List ItemState) : Type 0 where
  pub page : Page
  pub shown : page_shown exchange.outcome ≡ Some page
  pub items : page.items ≡ selection

-- it is told the first page of a longer list
pub record IsToldFirst (exchange : Transition) : Type 0 where
  pub page : Page
  pub shown : page_shown exchange.outcome ≡ Some page
  pub long : page.continuation ≢ whole

-- it is told to wait
pub record IsToldLater (exchange : Transition) : Type 0 where
  pub waits : answer_in exchange.outcome ≡ None

abbrev pub IsToldSome : Transition → List ItemState → Type 0
IsToldSome exchange selection = IsToldNone exchange selection ⊎ (IsToldWhole exchange selection ⊎ (IsToldFirst exchange ⊎ IsToldLater exchange))

shown_by : (outcome : Outcome) (answer : VerbAnswer) → answer_in outcome ≡ Some answer → page_shown outcome ≡ page_in answer
shown_by outcome answer h = ap (option_and_then page_in) h

is_empty : (xs : List ItemState) → (xs ≡ []) ⊎ (xs ≢ [])
is_empty [] = inl refl
is_empty (x ∷ xs) = inr (λ e. cc)

-- a page that says how long its list is does not tell all of it
not_whole : (continuation : Continuation) (size cursor : ℕ) → extent_in continuation ≡ Some (record { size = size; cursor = cursor }) → continuation ≢ whole
not_whole whole size cursor h = cc
not_whole (completes extent) size cursor h = λ e. cc
not_whole (remains expires extent token) size cursor h = λ e. cc

first_of_pages : (config : RepositoryConfig) (exchange : Transition) (format : Format) (size : ℕ) (pages : List Page)
    → map (λ (e : Transition). answer_in e.outcome) (exchange ∷ []) ≡ map (λ (page : Page). Some (lists_records format page)) pages → ArePagesAt config size 0 pages → IsToldFirst exchange
first_of_pages config exchange format size [] told placed = cc
first_of_pages config exchange format size (page ∷ pages) told placed =
    let answer : answer_in exchange.outcome ≡ Some (lists_records format page) = cc in
    record { page = page; shown = shown_by exchange.outcome (lists_records format page) answer; long = not_whole page.continuation size 0 placed.0.extent }

pub told_some : (config : RepositoryConfig) (state : RepoState) (commands : List Timed) (prefix : List ℕ) (from : Option (List ℕ)) (exchange : Transition) → IsConfig config → IsSound config state → IsSound config exchange.found
    → IsPart (exchange ∷ []) (run config state commands) → exchange.command ≡ first_request (records_since prefix from) → exchange.outcome ≡ (act config exchange.found exchange.command).0
    → IsToldSome exchange (selection_in exchange.found (records_since prefix from))
told_some config state commands prefix from exchange good begins sound among asked told =
    let request : ListQuery = records_since prefix from in
    let selection : List ItemState = selection_in exchange.found request in
    let acted : exchange.outcome ≡ (act config exchange.found (first_request request)).0 = told ∙ ap (λ c. (act config exchange.found c).0) asked in
    elim (is_empty selection) [
      | inl none ↦
          let answered = none_told config exchange.found request none in
          inl (record { none = none; shown = shown_by exchange.outcome (fails answered.code) (ap answer_in acted ∙ answered.told) })
      | inr some ↦
          elim (cases_lt config.chunk (length selection)) [
            | inl long ↦
                elim (cases_Bool (is_later exchange.outcome)) [
                  | inl waits ↦ inr (inr (inr (record { waits = later_none exchange.outcome waits })))
                  | inr answered ↦
                      let chain : IsChain config (run config state commands) request exchange [] =
                      record { among = among; verb = refl; asked = asked; long = long; answered = answered; next = tt } in
                      let followed = chain_followed config commands state request exchange [] good begins chain in
                      inr (inr (inl (first_of_pages config exchange followed.1.format (length selection) followed.0 followed.1.told followed.1.placed)))
                ]
            | inr short ↦
                let answered = whole_told config exchange.found request sound refl some short in
                inr (inl (record {
                  page = answered.page;
                  shown = shown_by exchange.outcome (lists_records answered.format answered.page) (ap answer_in acted ∙ answered.told);
                  items = answered.items;
                }))
          ]
    ]

-- ---- what a harvest was told

none_is : (page : Page) → None ≡ Some page → ⊥
none_is page h = cc

-- its one answer
only_told : (harvest : Harvest) → harvest.others ≡ [] → harvested harvest ≡ items_told (page_shown harvest.first.outcome)
only_told harvest only =
    ap (λ (others : List Transition). flat_map (λ (exchange : Transition). items_told (page_shown exchange.outcome)) (harvest.first ∷ others)) only ∙ append-nil (items_told (page_shown harvest.first.outcome))

empty_told : (harvest : Harvest) (selection : List ItemState) → IsEmptyHarvest harvest → IsToldSome harvest.first selection → harvested harvest ≡ selection
empty_told harvest selection empty told =
    let shown : page_shown harvest.first.outcome ≡ None = ap (option_and_then page_in) empty.told in
    elim told [
      | inl none ↦ only_told harvest empty.only ∙ ap items_told shown ∙ sym none.none
      | inr some ↦
          elim some [
            | inl answered ↦ absurd (none_is answered.page (sym shown ∙ answered.shown))
            | inr long ↦
                elim long [
                  | inl first ↦ absurd (none_is first.page (sym shown ∙ first.shown))
                  | inr waits ↦ let clash : None ≡ Some _ = sym waits.waits ∙ empty.told in cc
                ]
          ]
    ]

same_page : (a b : Page) → Some a ≡ Some b → a ≡ b
same_page a b h = cc

whole_harvested : (harvest : Harvest) (selection : List ItemState) → IsWholeHarvest harvest → IsToldSome harvest.first selection → harvested harvest ≡ selection
whole_harvested harvest selection one told =
    elim told [
      | inl none ↦ absurd (none_is one.page (sym none.shown ∙ one.told))
      | inr some ↦
          elim some [
            | inl answered ↦ only_told harvest one.only ∙ ap items_told answered.shown ∙ answered.items
            | inr long ↦
                elim long [
                  | inl first ↦ absurd (first.long (ap (λ (p : Page). p.continuation) (same_page first.page one.page (sym first.shown ∙ one.told)) ∙ one.tokenless))
                  | inr waits ↦ absurd (none_is one.page (sym (ap (option_and_then page_in) waits.waits) ∙ one.told))
                ]
          ]
    ]

-- the records of pages, and whether one of them is the last
shown_pages : (format : Format) (exchanges : List Transition) (pages : List Page) → map (λ (e : Transition). answer_in e.outcome) exchanges ≡ map (λ (page : Page). Some (lists_records format page)) pages
    → (flat_map (λ (exchange : Transition). items_told (page_shown exchange.outcome)) exchanges ≡ joined pages) × (is_followed_to_its_end exchanges ≡ are_complete pages)
shown_pages format [] [] told = (refl, refl)
shown_pages format [] (page ∷ pages) told = cc
shown_pages format (exchange ∷ exchanges) [] told = cc
shown_pages format (exchange ∷ exchanges) (page ∷ pages) told =
    let answer : answer_in exchange.outcome ≡ Some (lists_records format page) = cc in
    let shown : page_shown exchange.outcome ≡ Some page = shown_by exchange.outcome (lists_records format page) answer in
    let others : map (λ (e : Transition). answer_in e.outcome) exchanges ≡ map (λ (p : Page). Some (lists_records format p)) pages = cc in
    let rest = shown_pages format exchanges pages others in (
      ap (λ o. items_told o ++ flat_map (λ (e : Transition). items_told (page_shown e.outcome)) exchanges) shown ∙ ap (λ ys. page.items ++ ys) rest.0,
      ap (λ o. is_last_page o || is_followed_to_its_end exchanges) shown ∙ ap (λ b. is_none (offer_in page.continuation) || b) rest.1,
    )

followed_told : (config : RepositoryConfig) (state : RepoState) (commands : List Timed) (prefix : List ℕ) (from : Option (List ℕ)) (harvest : Harvest) → IsConfig config → IsSound config state
    → IsFollowedHarvest config (run config state commands) (records_since prefix from) harvest → harvested harvest ≡ selection_in harvest.first.found (records_since prefix from)
followed_told config state commands prefix from harvest good begins follow =
    let followed = chain_followed config commands state (records_since prefix from) harvest.first harvest.others good begins follow.chain in
    let shown = shown_pages followed.1.format (requests_of harvest) followed.0 followed.1.told in
    shown.0 ∙ followed.1.complete (sym shown.1 ∙ follow.ended)

pub harvest_told : (config : RepositoryConfig) (state : RepoState) (commands : List Timed) (prefix : List ℕ) (from : Option (List ℕ)) (harvest : Harvest) → IsConfig config → IsSound config state → IsSound config harvest.first.found
    → IsPart (harvest.first ∷ []) (run config state commands) → harvest.first.outcome ≡ (act config harvest.first.found harvest.first.command).0
    → IsHarvest config (run config state commands) (records_since prefix from) harvest → harvested harvest ≡ selection_in harvest.first.found (records_since prefix from)
harvest_told config state commands prefix from harvest good begins sound among acted h =
    let told = told_some config state commands prefix from harvest.first good begins sound among h.asked acted in
    let selection : List ItemState = selection_in harvest.first.found (records_since prefix from) in
    elim h.answered [
      | inl empty ↦ empty_told harvest selection empty told
      | inr some ↦ elim some [
        | inl one ↦ whole_harvested harvest selection one told
        | inr follow ↦ followed_told config state commands prefix from harvest good begins follow
      ]
    ]
