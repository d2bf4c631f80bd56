-- What a token continues, in the table and in the state that it stands for.
use Rattle.std.proofs.Common.{◌≡◌, ◌∙◌, inl, inr, ℕ, ℤ, Bool, true, ◌&&◌, List, length, Option, None, Some, refl, sym, ap}
use Rattle.std.specs.Prelude.{nat_lt}
use Rattle.std.specs.Option.{option_map}
use Rattle.std.proofs.lemmas.Bool.{and_parts, cases_Bool, cond-true, cond-false, eqb-true}
use Rattle.oai_names.specs.declared.list_verbs.ListVerb.{ListVerb}
use Rattle.oai_names.specs.declared.list_verbs.ListVerb.TheVariants as list
use Rattle.oai_args.specs.Verbs.{is_of_records}
use Rattle.oai_item.specs.Formats.{format_named}
use Rattle.oai_answers.specs.Answers.{fails}
use Rattle.oai_answers.specs.declared.errors.ErrorCode.TheVariants.{BadResumptionToken}
use Rattle.oai_catalogue.specs.Store.{VersionLists}
use Rattle.oai_lists.specs.OpenLists.{Table, open_numbered}
use Rattle.oai_lists.specs.declared.open_lists.OpenList.{OpenList}
use Rattle.oai_lists.specs.declared.tokens.Token.{Token}
use Rattle.oai_settings.specs.Config.{RepositoryConfig}
use Rattle.oai_repo.specs.Fields.{are_counted, open_lists_of, frozen_in, is_counted}
use Rattle.oai_repo.specs.Listing.{continued_response, is_continued, is_handed_out, is_same_verb, is_valid_cursor, list_continued, next_cursor, part_from, part_answer, prolonged, with_answer, token_response, where_continued, with_carried_on}
use Rattle.oai_repo.specs.State.{FrozenList, OpenLists}
use Rattle.oai_repo.specs.Tables.{table_continued, table_where}
use Rattle.oai_repo.proofs.OpenListLemmas.{found_frozen, open_parts}

-- ---- what was found in the table

-- the list of the table, and what of it is right
pub record IsContinued (now : ℤ) (chunk : ℕ) (verb : ListVerb) (lists : List OpenList) (list : OpenList) (cursor : ℕ) (token : Token) : Type 0 where
  pub there : open_numbered token.list now lists ≡ Some list
  pub right : is_same_verb list.verb verb ≡ true
  pub at : cursor ≡ token.cursor
  pub valid : is_valid_cursor chunk list.size list.given cursor ≡ true

-- tokens continue lists of records alone
pub records_continued : (its verb : ListVerb) → is_same_verb its verb ≡ true → is_of_records verb ≡ true
records_continued list.Identifiers list.Identifiers same = refl
records_continued list.Records list.Records same = refl
records_continued list.Identifiers list.Records same = cc
records_continued list.Identifiers list.Sets same = cc
records_continued list.Records list.Identifiers same = cc
records_continued list.Records list.Sets same = cc
records_continued list.Sets verb same = cc

-- the cursor is below the size
pub valid_within : (chunk size given cursor : ℕ) → is_valid_cursor chunk size given cursor ≡ true → nat_lt cursor size ≡ true
valid_within chunk size given cursor valid = (and_parts (nat_lt cursor size) (is_handed_out chunk given cursor) valid).0

where_parts : (chunk : ℕ) (verb : ListVerb) (token : Token) (found : Option OpenList) (list : OpenList) (cursor : ℕ) → Some (list, cursor) ≡ table_where chunk verb token found
    → (found ≡ Some list) × (is_same_verb list.verb verb ≡ true) × (cursor ≡ token.cursor) × (is_valid_cursor chunk list.size list.given cursor ≡ true)
where_parts chunk verb token None list cursor h = cc
where_parts chunk verb token (Some x) list cursor h =
    elim (cases_Bool (is_continued chunk verb token x.verb x.size x.given)) [
      | inl right ↦
          let e : Some (list, cursor) ≡ Some (x, token.cursor) = h ∙ cond-true (is_continued chunk verb token x.verb x.size x.given) (Some (x, token.cursor)) None right in
          let pair : (list, cursor) ≡ (x, token.cursor) = cc in
          let list_is : list ≡ x = ap (λ (q : OpenList × ℕ). q.0) pair in
          let cursor_is : cursor ≡ token.cursor = ap (λ (q : OpenList × ℕ). q.1) pair in
          let parts = and_parts (is_same_verb x.verb verb) (is_valid_cursor chunk x.size x.given token.cursor) right in (
            ap (λ (l : OpenList). Some l) (sym list_is),
            ap (λ (l : OpenList). is_same_verb l.verb verb) list_is ∙ parts.0,
            cursor_is,
            ap (λ (k : ℕ). is_valid_cursor chunk list.size list.given k) cursor_is ∙ ap (λ (l : OpenList). is_valid_cursor chunk l.size l.given token.cursor) list_is ∙ parts.1,
          )
      | inr wrong ↦
          let e : Some (list, cursor) ≡ None = h ∙ cond-false (is_continued chunk verb token x.verb x.size x.given) (Some (x, token.cursor)) None wrong in
          cc
    ]

pub token_found : (now : ℤ) (chunk : ℕ) (verb : ListVerb) (lists : List OpenList) (asked : Option Token) (list : OpenList) (cursor : ℕ) → Some (list, cursor) ≡ table_continued now chunk verb lists asked
    → (token : Token) × (asked ≡ Some token) × IsContinued now chunk verb lists list cursor token
token_found now chunk verb lists None list cursor h = cc
token_found now chunk verb lists (Some token) list cursor h =
    let parts = where_parts chunk verb token (open_numbered token.list now lists) list cursor h in
    (token, refl, record { there = parts.0; right = parts.1; at = parts.2; valid = parts.3 })

-- ---- the list of the state

counted_size : (all : VersionLists) (list : OpenList) → is_counted all list ≡ true → list.size ≡ length (frozen_in all list).items
counted_size all list h = eqb-true list.size (length (frozen_in all list).items) h

-- the test of the state is that of the table
same_test : (chunk : ℕ) (verb : ListVerb) (token : Token) (all : VersionLists) (list : OpenList) → is_counted all list ≡ true
    → is_continued chunk verb token list.verb (length (frozen_in all list).items) list.given ≡ is_continued chunk verb token list.verb list.size list.given
same_test chunk verb token all list h = ap (λ (n : ℕ). is_continued chunk verb token list.verb n list.given) (sym (counted_size all list h))

continued_as : (config : RepositoryConfig) (now : ℤ) (verb : ListVerb) (token : Token) (table : Table) (all : VersionLists)
    → list_continued config (open_lists_of now table all) verb token ≡ where_continued config verb token (option_map (frozen_in all) (open_numbered token.list now table.lists))
continued_as config now verb token table all = ap (where_continued config verb token) (found_frozen token.list now all table.lists)

pub goes_on : (config : RepositoryConfig) (now : ℤ) (verb : ListVerb) (table : Table) (all : VersionLists) (list : OpenList) (cursor : ℕ) (asked : Option Token) (token : Token) → asked ≡ Some token
    → IsContinued now config.chunk verb table.lists list cursor token → are_counted table all ≡ true
    → token_response config now (open_lists_of now table all) verb asked
    ≡ (with_answer (part_answer verb (format_named list.filter.prefix config.formats) (part_from config (prolonged config now (frozen_in all list)) cursor)), with_carried_on config now list.number (next_cursor config (frozen_in all list) cursor) (open_lists_of now table all))
goes_on config now verb table all list cursor asked token is h counted =
    let open_lists : OpenLists = open_lists_of now table all in
    let frozen : FrozenList = frozen_in all list in
    let parts = open_parts token.list now (is_counted all) table.lists list h.there counted in
    let test : is_continued config.chunk verb token frozen.verb (length frozen.items) frozen.given ≡ true =
    same_test config.chunk verb token all list parts.2
    ∙ ap (λ (b : Bool). b && is_valid_cursor config.chunk list.size list.given token.cursor) h.right
    ∙ ap (λ (k : ℕ). is_valid_cursor config.chunk list.size list.given k) (sym h.at) ∙ h.valid
    in
    let found : list_continued config open_lists verb token ≡ Some frozen =
    continued_as config now verb token table all
    ∙ ap (λ (o : Option OpenList). where_continued config verb token (option_map (frozen_in all) o)) h.there
    ∙ cond-true (is_continued config.chunk verb token frozen.verb (length frozen.items) frozen.given) (Some frozen) None test
    in
    ap (token_response config now open_lists verb) is
    ∙ ap (continued_response config now open_lists verb token.cursor) found
    ∙ ap (λ (k : ℕ). continued_response config now open_lists verb k (Some frozen)) (sym h.at)

stops_where : (config : RepositoryConfig) (verb : ListVerb) (token : Token) (all : VersionLists) (found : Option OpenList) → ((list : OpenList) → found ≡ Some list → is_counted all list ≡ true) → None ≡ table_where config.chunk verb token found
    → where_continued config verb token (option_map (frozen_in all) found) ≡ None
stops_where config verb token all None counted h = refl
stops_where config verb token all (Some x) counted h =
    elim (cases_Bool (is_continued config.chunk verb token x.verb x.size x.given)) [
      | inl right ↦
          let e : None ≡ Some (x, token.cursor) = h ∙ cond-true (is_continued config.chunk verb token x.verb x.size x.given) (Some (x, token.cursor)) None right in
          cc
      | inr wrong ↦ cond-false (is_continued config.chunk verb token x.verb (length (frozen_in all x).items) x.given) (Some (frozen_in all x)) None (same_test config.chunk verb token all x (counted x refl) ∙ wrong)
    ]

pub stops : (config : RepositoryConfig) (now : ℤ) (verb : ListVerb) (table : Table) (all : VersionLists) (asked : Option Token) → None ≡ table_continued now config.chunk verb table.lists asked → are_counted table all ≡ true
    → token_response config now (open_lists_of now table all) verb asked ≡ (with_answer (fails BadResumptionToken), open_lists_of now table all)
stops config now verb table all None h counted = refl
stops config now verb table all (Some token) h counted =
    let open_lists : OpenLists = open_lists_of now table all in
    ap (continued_response config now open_lists verb token.cursor)
    (continued_as config now verb token table all
    ∙ stops_where config verb token all (open_numbered token.list now table.lists) (λ list there. (open_parts token.list now (is_counted all) table.lists list there counted).2) h)
