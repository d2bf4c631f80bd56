-- What a list request is replied, by the first of the items that it selects: all of them, or the first part of a list.
use Rattle.std.proofs.Common.{◌≡◌, ◌∙◌, ℕ, ℤ, ◌+◌, ◌<◌, ◌≤◌, min, true, false, ◌&&◌, List, [], ◌∷◌, length, take, Option, None, Some, is_some, refl, sym, ap, subst, arith}
use Rattle.std.specs.Prelude.{nat_le}
use Rattle.std.proofs.lemmas.Bool.{cond-true, cond-false, le-leb, lt-leb}
use Rattle.std.proofs.lemmas.List.{length-take, take-take, take_all}
use Rattle.oai_names.specs.Sets.{HasSetsAbove, has_set}
use Rattle.oai_names.specs.declared.list_verbs.ListVerb.{ListVerb}
use Rattle.oai_item.specs.Formats.{format_named}
use Rattle.oai_item.specs.Item.{ItemState}
use Rattle.oai_item.specs.Selection.{Filter}
use Rattle.oai_item.specs.declared.formats.Format.{Format}
use Rattle.oai_answers.specs.Answers.{Attributes, VerbAnswer, fails}
use Rattle.oai_answers.specs.declared.errors.ErrorCode.TheVariants.{CannotDisseminateFormat, NoRecordsMatch, NoSetHierarchy}
use Rattle.oai_catalogue.specs.Store.{VersionLists}
use Rattle.oai_lists.specs.OpenLists.{Table}
use Rattle.oai_repo.specs.Answers.{filter_of}
use Rattle.oai_settings.specs.Config.{RepositoryConfig}
use Rattle.oai_repo.specs.Views.{IsViewReplyTo, IsViewIndexed, filter_asked, view_holdings, view_list_response, view_open_lists, view_selected, view_selection_response}
use Rattle.oai_repo.specs.Listing.{Response, answer_by_verb, complete_answer, complete_page, format_response, has_no_sets, new_list, opens_list, selection_response, wait_at, with_answer}
use Rattle.oai_repo.specs.State.{OpenLists}
use Rattle.oai_repo.specs.declared.lists.ListRequest.{ListRequest}
use Rattle.oai_repo.specs.declared.lists.Selection.{Selection}
use Rattle.oai_repo.specs.declared.responses.Replied.{Replied}
use Rattle.oai_repo.specs.declared.view.RepoView.{RepoView}
use Rattle.oai_repo.proofs.SelectionLemmas.{unknown_set}

-- ---- the first of a list, one more than so many

pub few_first : {A : Type 0} (n : ℕ) (xs first : List A) → first ≡ take (n + 1) xs → length first ≤ n → first ≡ xs
few_first n xs first is few =
    let many : length first ≡ min (n + 1) (length xs) = ap length is ∙ length-take (n + 1) xs in
    is ∙ take_all (n + 1) xs (omega (arith, many, few))

pub many_first : {A : Type 0} (n : ℕ) (xs first : List A) → first ≡ take (n + 1) xs → n < length first → n < length xs
many_first n xs first is many =
    let some : length first ≡ min (n + 1) (length xs) = ap length is ∙ length-take (n + 1) xs in
    omega (arith, some, many)

pub part_first : {A : Type 0} (n : ℕ) (xs first : List A) → first ≡ take (n + 1) xs → take n first ≡ take n xs
part_first n xs first is = ap (take n) is ∙ take-take n (n + 1) xs (omega arith)

-- ---- items that were selected

few : (config : RepositoryConfig) (clock : ℤ) (open_lists : OpenLists) (verb : ListVerb) (format : Format) (items : List ItemState) → length items ≤ config.chunk
    → selection_response config clock open_lists verb format items ≡ (with_answer (complete_answer config verb format items), open_lists)
unfolding selection_response
few config clock open_lists verb format items h =
    cond-true (nat_le (length items) config.chunk) (with_answer (complete_answer config verb format items), open_lists) (opens_list config open_lists format (new_list config clock open_lists verb format.prefix items) (wait_at config clock open_lists))
    (le-leb (length items) config.chunk h)

-- more than a part has
pub selection_opens : (config : RepositoryConfig) (clock : ℤ) (open_lists : OpenLists) (verb : ListVerb) (format : Format) (items : List ItemState) → config.chunk < length items
    → selection_response config clock open_lists verb format items ≡ opens_list config open_lists format (new_list config clock open_lists verb format.prefix items) (wait_at config clock open_lists)
unfolding selection_response
selection_opens config clock open_lists verb format items many =
    cond-false (nat_le (length items) config.chunk) (with_answer (complete_answer config verb format items), open_lists) (opens_list config open_lists format (new_list config clock open_lists verb format.prefix items) (wait_at config clock open_lists))
    (lt-leb (length items) config.chunk many)

answering : OpenLists → VerbAnswer → Response × OpenLists
answering open_lists answer = (with_answer answer, open_lists)

pub complete_some : (config : RepositoryConfig) (verb : ListVerb) (format : Format) (items : List ItemState) → 0 < length items → complete_answer config verb format items ≡ answer_by_verb verb format (complete_page config items)
complete_some config verb format [] h = absurd (omega (arith, h))
complete_some config verb format (item ∷ items) h = refl

pub complete_none : (config : RepositoryConfig) (verb : ListVerb) (format : Format) (items : List ItemState) → length items ≡ 0 → complete_answer config verb format items ≡ fails NoRecordsMatch
complete_none config verb format [] h = refl
complete_none config verb format (item ∷ items) h = absurd (omega (arith, h))

-- no more than a part has
pub selection_whole : (config : RepositoryConfig) (clock : ℤ) (open_lists : OpenLists) (verb : ListVerb) (format : Format) (items first : List ItemState) → first ≡ take (config.chunk + 1) items → length first ≤ config.chunk
    → selection_response config clock open_lists verb format items ≡ (with_answer (complete_answer config verb format first), open_lists)
unfolding answering
selection_whole config clock open_lists verb format items first is small =
    let all : first ≡ items = few_first config.chunk items first is small in
    few config clock open_lists verb format items (omega (arith, small, ap length all)) ∙ ap (λ xs. answering open_lists (complete_answer config verb format xs)) (sym all)

-- ---- a list request

-- in a format of the repository
pub response_in_format : (repo : RepoView) (table : Table) (lists : VersionLists) (request : ListRequest) (format : Format) → (is_some request.set.now && has_no_sets repo.sets.now) ≡ false
    → format_named request.prefix.now repo.config.now.formats ≡ Some format
    → view_list_response repo table lists request
    ≡ selection_response repo.config.now repo.clock (view_open_lists repo table lists) request.verb format (view_selected repo lists (filter_asked request))
response_in_format repo table lists request format sets known =
    let config : RepositoryConfig = repo.config.now in
    let open_lists : OpenLists = view_open_lists repo table lists in
    let items : List ItemState = view_selected repo lists (filter_asked request) in
    cond-false (is_some request.set.now && has_no_sets repo.sets.now) (with_answer (fails NoSetHierarchy), open_lists) (format_response config repo.clock open_lists request.verb (format_named request.prefix.now config.formats) items) sets
    ∙ ap (λ f. format_response config repo.clock open_lists request.verb f items) known

-- a set is asked for where there are none
pub response_no_sets : (repo : RepoView) (table : Table) (lists : VersionLists) (request : ListRequest) → (is_some request.set.now && has_no_sets repo.sets.now) ≡ true
    → view_list_response repo table lists request ≡ (with_answer (fails NoSetHierarchy), view_open_lists repo table lists)
response_no_sets repo table lists request sets =
    let config : RepositoryConfig = repo.config.now in
    let open_lists : OpenLists = view_open_lists repo table lists in
    cond-true (is_some request.set.now && has_no_sets repo.sets.now) (with_answer (fails NoSetHierarchy), open_lists)
    (format_response config repo.clock open_lists request.verb (format_named request.prefix.now config.formats) (view_selected repo lists (filter_asked request))) sets

-- in a format that the repository lacks
pub response_no_format : (repo : RepoView) (table : Table) (lists : VersionLists) (request : ListRequest) → (is_some request.set.now && has_no_sets repo.sets.now) ≡ false
    → format_named request.prefix.now repo.config.now.formats ≡ None
    → view_list_response repo table lists request ≡ (with_answer (fails CannotDisseminateFormat), view_open_lists repo table lists)
response_no_format repo table lists request sets unknown =
    let config : RepositoryConfig = repo.config.now in
    let open_lists : OpenLists = view_open_lists repo table lists in
    let items : List ItemState = view_selected repo lists (filter_asked request) in
    cond-false (is_some request.set.now && has_no_sets repo.sets.now) (with_answer (fails NoSetHierarchy), open_lists) (format_response config repo.clock open_lists request.verb (format_named request.prefix.now config.formats) items) sets
    ∙ ap (λ f. format_response config repo.clock open_lists request.verb f items) unknown

-- with what asks for the items
pub response_selected : (repo : RepoView) (table : Table) (lists : VersionLists) (request : ListRequest) (selection : Selection) → (is_some request.set.now && has_no_sets repo.sets.now) ≡ false
    → format_named request.prefix.now repo.config.now.formats ≡ Some selection.format.now → selection.verb ≡ request.verb → selection.filter ≡ filter_asked request
    → view_list_response repo table lists request ≡ view_selection_response repo table lists selection
response_selected repo table lists request selection sets known verb is =
    let made : ListVerb → Filter → Response × OpenLists = λ v f. selection_response repo.config.now repo.clock (view_open_lists repo table lists) v selection.format.now (view_selected repo lists f) in
    response_in_format repo table lists request selection.format.now sets known ∙ ap (made request.verb) (sym is) ∙ ap (λ (v : ListVerb). made v selection.filter) (sym verb)

-- a set that the repository lacks selects nothing
pub response_unknown_set : (repo : RepoView) (table : Table) (lists : VersionLists) (request : ListRequest) (format : Format) (name : List ℕ) → (is_some request.set.now && has_no_sets repo.sets.now) ≡ false
    → format_named request.prefix.now repo.config.now.formats ≡ Some format → IsViewIndexed repo lists → request.set.now ≡ Some name → has_set repo.sets.now name ≡ false → HasSetsAbove repo.sets.now
    → view_list_response repo table lists request ≡ (with_answer (fails NoRecordsMatch), view_open_lists repo table lists)
response_unknown_set repo table lists request format name sets known held is lacks above =
    let config : RepositoryConfig = repo.config.now in
    let none : view_selected repo lists (filter_asked request) ≡ [] =
    ap (λ (set : Option (List ℕ)). view_selected repo lists (filter_of request.prefix.now request.from.now request.until.now set)) is
    ∙ unknown_set config (view_holdings repo lists) request.prefix.now request.from.now request.until.now name held.kept above lacks
    in
    response_in_format repo table lists request format sets known
    ∙ ap (selection_response config repo.clock (view_open_lists repo table lists) request.verb format) none
    ∙ few config repo.clock (view_open_lists repo table lists) request.verb format [] (omega arith)

-- ---- the reply

-- a reply to one response is the reply to another that is equal
pub reply_as : (repo : RepoView) (asked : Attributes) (response other : Response × OpenLists) (replied : Replied) (table : Table) (all : VersionLists) → response ≡ other → IsViewReplyTo repo asked other replied table all → IsViewReplyTo repo asked response replied table all
reply_as repo asked response other replied table all is h = subst (λ (r : Response × OpenLists). IsViewReplyTo repo asked r replied table all) (sym is) h
