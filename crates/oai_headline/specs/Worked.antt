-- A worked run of a host of two repositories, as exchanges. It shows that the premises of the theorem of a host can be
-- met. OAI-PMH 2.0, sections 2.7.1, 3.1.2.2 and 3.5; deposits are this repository's own.
use Rattle.std.specs.Prelude.{◌≡◌, ◌+◌, ℕ, pos, int_lt, true, false, List, [], ◌∷◌, ◌++◌, length, codes, None, Some}
use Rattle.std.specs.List.{AllZip}
use Rattle.oai_names.specs.declared.list_verbs.ListVerb.TheVariants as list
use Rattle.oai_args.specs.Asks.{asks}
use Rattle.oai_args.specs.declared.requests.Ask.TheVariants as ask
use Rattle.oai_answers.specs.Answers.{Document, Page}
use Rattle.oai_answers.specs.Documents.{document}
use Rattle.oai_settings.specs.Config.{RepositoryConfig}
use Rattle.oai_laws.specs.Following.{TokenOffer, joined, page_in}
use Rattle.oai_laws.specs.Runs.{IsPart}
use Rattle.oai_laws.specs.Worked.{all_records, identifiers, worked_config}
use Rattle.oai_copy.specs.Copies.{caught_up_with}
use Rattle.oai_laws.specs.Harvests.{AreSuccessive, Harvest, harvested}
use Rattle.oai_laws.specs.WorkedHarvests.{archive_b, prefix, told}
use Rattle.oai_config.specs.Configs.{HostConfig, NamedConfig}
use Rattle.oai_http.specs.Answers.{answered_with, asked_to_wait}
use Rattle.oai_http.specs.declared.exchanges.Call.{Call}
use Rattle.oai_headline.specs.Visits.{Visit, found_by}
use Rattle.oai_headline.specs.Chains.{IsFollowing, IsPrinted, IsRequest}
use Rattle.oai_headline.specs.Eras.{IsTokenRefused}
use Rattle.oai_headline.specs.Headline.{own_steps, own_visits}

-- ---- the host

abbrev pub first_entry : NamedConfig
first_entry = record { name = codes "a"; config = worked_config }

abbrev pub second_entry : NamedConfig
second_entry = record { name = codes "b"; config = archive_b }

abbrev pub worked_host : HostConfig
worked_host = record { cache = 64; repositories = first_entry ∷ second_entry ∷ [] }

-- ---- the exchanges

-- that many seconds after 2024-01-01T00:00:00Z
abbrev pub get : ℕ → List ℕ → Call
get seconds target = record { moment = pos (1_704_067_200 + seconds); method = codes "GET"; target = target; content_type = None; body = [] }

abbrev pub post : ℕ → List ℕ → List ℕ → Call
post seconds target body = record { moment = pos (1_704_067_200 + seconds); method = codes "POST"; target = target; content_type = None; body = body }

-- the line of a deposit, of an item with an empty record in Dublin Core, and the line of a deletion
abbrev pub deposit_line : List ℕ → List ℕ
deposit_line identifier = codes "{\"deposit\":\"" ++ identifier ++ codes "\",\"sets\":[],\"records\":{\"oai_dc\":[]}}\n"

abbrev pub delete_line : List ℕ → List ℕ
delete_line identifier = codes "{\"delete\":\"" ++ identifier ++ codes "\"}\n"

-- what is deposited in both repositories and asked of them, by turns. The first gets five items. A list of its headers
-- is opened and never followed; it ends a minute later, and at that second the list of its records is opened that is
-- followed over three pages. Before the second page an item is deposited and one is deleted, and a list of headers is
-- requested at an earlier moment, while the table is full; tokens come that have expired, or with the wrong verb;
-- before the last page an item is deposited anew. The second repository, whose moments are earlier ones, gets three
-- items, and three harvests are made of it: one over two pages, between which an item is deleted; one of what has been
-- deleted and deposited since that began; and one of nothing
abbrev pub worked_calls : List Call
worked_calls =
    post 0 (codes "/deposit/a") (deposit_line (codes "oai:a:1") ++ deposit_line (codes "oai:a:2"))
    ∷ post 0 (codes "/deposit/b") (deposit_line (codes "oai:b:1") ++ deposit_line (codes "oai:b:2"))
    ∷ post 0 (codes "/deposit/a") (deposit_line (codes "oai:a:3"))
    ∷ post 0 (codes "/deposit/b") (deposit_line (codes "oai:b:3"))
    ∷ post 0 (codes "/deposit/a") (deposit_line (codes "oai:a:4") ++ deposit_line (codes "oai:a:5"))
    ∷ get 0 (codes "/oai/a?verb=ListIdentifiers&metadataPrefix=oai_dc")
    ∷ get 5 (codes "/oai/b?verb=ListRecords&metadataPrefix=oai_dc")
    ∷ post 5 (codes "/deposit/b") (delete_line (codes "oai:b:2"))
    ∷ get 6 (codes "/oai/b?verb=ListRecords&resumptionToken=1.2")
    ∷ get 60 (codes "/oai/a?verb=ListRecords&metadataPrefix=oai_dc")
    ∷ get 60 (codes "/oai/a?verb=ListIdentifiers&resumptionToken=1.2")
    ∷ post 61 (codes "/deposit/a") (deposit_line (codes "oai:a:6"))
    ∷ post 6 (codes "/deposit/b") (deposit_line (codes "oai:b:4"))
    ∷ post 62 (codes "/deposit/a") (delete_line (codes "oai:a:4"))
    ∷ get 30 (codes "/oai/a?verb=ListIdentifiers&metadataPrefix=oai_dc")
    ∷ get 7 (codes "/oai/b?verb=ListRecords&metadataPrefix=oai_dc&from=2024-01-01T00:00:05Z")
    ∷ get 63 (codes "/oai/a?verb=ListIdentifiers&resumptionToken=2.2")
    ∷ get 64 (codes "/oai/a?verb=ListRecords&resumptionToken=2.2")
    ∷ post 70 (codes "/deposit/a") (deposit_line (codes "oai:a:5"))
    ∷ get 8 (codes "/oai/b?verb=ListRecords&metadataPrefix=oai_dc&from=2024-01-01T00:00:07Z")
    ∷ get 123 (codes "/oai/a?verb=ListRecords&resumptionToken=2.4")
    ∷ []

-- ---- the first repository

-- the answer is a document of the page
pub record IsTold (visit : Visit) (page : Page) : Type 0 where
  pub its : Document
  pub written : visit.answer ≡ answered_with (document its)
  pub told : page_in its.answer ≡ Some page

-- a list is followed over three pages by the tokens that they print, and these give the five records that there were at
-- its first request, in order. Between the first and the second another list is requested, while as many are open as
-- may be, and the client has to wait (section 3.1.2.2) until one has ended. By then an item was deposited and one
-- deleted
pub record IsWorkedList (first waiting second last : Visit) : Type 0 where
  pub following : IsFollowing worked_config (own_visits first_entry worked_calls) all_records first (second ∷ last ∷ [])
  pub pages : List Page
  pub told_by : AllZip IsTold (first ∷ second ∷ last ∷ []) pages
  pub three : length pages ≡ 3
  pub records : identifiers (joined pages) ≡ codes "oai:a:1" ∷ codes "oai:a:2" ∷ codes "oai:a:3" ∷ codes "oai:a:4" ∷ codes "oai:a:5" ∷ []
  pub amid : IsPart (first ∷ waiting ∷ second ∷ last ∷ []) (own_visits first_entry worked_calls)
  pub asked : IsRequest worked_config.granularity waiting.call (asks (ask.List list.Identifiers (codes "oai_dc") None None None))
  pub full : length (found_by waiting).open_lists.lists ≡ worked_config.lists
  pub wait : waiting.answer ≡ asked_to_wait (pos 58)
  pub before : told (found_by first).holdings.items
      ≡ (codes "oai:a:1", true) ∷ (codes "oai:a:2", true) ∷ (codes "oai:a:3", true) ∷ (codes "oai:a:4", true) ∷ (codes "oai:a:5", true) ∷ []
  pub between : told (found_by second).holdings.items
      ≡ (codes "oai:a:1", true) ∷ (codes "oai:a:2", true) ∷ (codes "oai:a:3", true) ∷ (codes "oai:a:5", true) ∷ (codes "oai:a:6", true) ∷ (codes "oai:a:4", false) ∷ []

-- ---- the second repository

-- the three harvests of its steps, the items that each got, and the copy that they update
pub record AreMadeBeside (first second third : Harvest) : Type 0 where
  pub successive : AreSuccessive archive_b (own_steps second_entry worked_calls) prefix first (second ∷ third ∷ [])
  pub by_pages : told (harvested first) ≡ (codes "oai:b:1", true) ∷ (codes "oai:b:2", true) ∷ (codes "oai:b:3", true) ∷ []
  pub at_once : told (harvested second) ≡ (codes "oai:b:2", false) ∷ (codes "oai:b:4", true) ∷ []
  pub nothing : harvested third ≡ []
  pub copied : told (caught_up_with [] (harvested first ∷ harvested second ∷ harvested third ∷ []))
      ≡ (codes "oai:b:1", true) ∷ (codes "oai:b:2", false) ∷ (codes "oai:b:3", true) ∷ (codes "oai:b:4", true) ∷ []

-- ---- a checkpoint

-- a token that the answer to one of the earlier visits prints comes with one of the later ones, before it expires, and
-- is refused (section 3.6), since its list was ended between them
pub record IsTokenEnded (config : RepositoryConfig) (earlier later : List Visit) (before after : Visit) : Type 0 where
  pub printing : IsPart (before ∷ []) earlier
  pub coming : IsPart (after ∷ []) later
  pub offer : TokenOffer
  pub printed : IsPrinted before.answer offer
  pub asked : IsRequest config.granularity after.call (asks (ask.Resume list.Records offer.token))
  pub unexpired : int_lt (found_by after).clock offer.expires ≡ true
  pub refused : IsTokenRefused after.answer
