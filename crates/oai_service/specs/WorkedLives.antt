-- Worked lives of a server of two repositories, as turns: what the theorem asks of clients, lists and harvests can be
-- met across an end, and across a checkpoint. OAI-PMH 2.0, sections 2.7.1, 3.1.2.2 and 3.5; deposits and lives are this
-- repository's own.
use Rattle.std.specs.Prelude.{◌≡◌, ◌≢◌, ℕ, pos, ◌+◌, true, Contains, IsTrue, nat_lt, List, [], ◌∷◌, ◌++◌, codes, length, map, Option, None, Some}
use Rattle.std.specs.Fmt.{decimal}
use Rattle.std.specs.List.{AllByRecursion, AllZip, flat_map}
use Rattle.slab.specs.Slab.{get}
use Rattle.oai_names.specs.declared.list_verbs.ListVerb.TheVariants as list
use Rattle.oai_item.specs.Item.{ItemState, live_item, tombstone_of}
use Rattle.oai_item.specs.declared.faults.Fault.TheVariants.{NoMemory}
use Rattle.oai_repo.specs.State.{FrozenList, RepoState, empty_state}
use Rattle.oai_laws.specs.Eras.{AreSuccessiveWithin}
use Rattle.oai_laws.specs.Harvests.{AreSuccessive, Harvest, harvested}
use Rattle.oai_laws.specs.Worked.{all_records, worked_config}
use Rattle.oai_laws.specs.WorkedHarvests.{archive_b, prefix, told as items_told}
use Rattle.oai_http.specs.Answers.{failed}
use Rattle.oai_http.specs.Exchanges.{Asked}
use Rattle.oai_http.specs.declared.exchanges.Call.{Call}
use Rattle.oai_front.specs.Performing.{AnsweredMessage, answers_of}
use Rattle.oai_front.specs.Runs.{done_on}
use Rattle.oai_serving.specs.Accepted.{known_of}
use Rattle.oai_serving.specs.Links.{Link}
use Rattle.oai_serving.specs.Rounds.{served_in}
use Rattle.oai_serving.specs.Tables.{IsNumbered}
use Rattle.oai_host.specs.Hosts.{HostState, Repository, begun}
use Rattle.oai_host.specs.Performed.{StoreState}
use Rattle.oai_host.specs.Redone.{reply_all}
use Rattle.oai_host.specs.Saved.{ended_in, parts_in}
use Rattle.oai_journal.specs.Journals.{IsLeft}
use Rattle.oai_journal.specs.Records.{Entry}
use Rattle.oai_journal.specs.declared.journals.Journal as journal
use Rattle.oai_journal.specs.declared.records.Kind.TheVariants as kind
use Rattle.oai_durable.specs.Checkpoints.{records_of_parts}
use Rattle.oai_durable.specs.Journaled.{Parts}
use Rattle.oai_durable.specs.Lives.{Exchanged}
use Rattle.oai_durable.specs.Records.{call_in, left_by_entry, redone_all}
use Rattle.oai_headline.specs.Chains.{IsFollowing}
use Rattle.oai_headline.specs.Eras.{VisitedEra, steps_within, visits_within}
use Rattle.oai_headline.specs.Throughout.{own_given, whole_visits}
use Rattle.oai_headline.specs.Visits.{Visit, steps_of}
use Rattle.oai_headline.specs.Worked.{IsTokenEnded, delete_line, deposit_line, first_entry, post, second_entry, worked_host}
use Rattle.oai_service.specs.Hosting.{AreNumbered, hosting, leaving, saving, store_in}
use Rattle.oai_service.specs.Keeping.{Keeping, journaling, stays}
use Rattle.oai_service.specs.Lives.{AreServerEras, ServerEra, ServerLife}
use Rattle.oai_service.specs.Service.{AreOverHonest, AreResumed, IsReceivedIn, IsRecordedIn, LoggedTurns, all_turns, own_era}
use Rattle.oai_service.specs.Turns.{AreTurns, Turn, answers_in, calls_in, was_performed}

-- ---- what is done

-- a message that is done completely is the call of its record; for a deposit that runs out of memory after its first
-- line, this line is the record
pub data Deed : Type 0 where
  done_whole : Entry → Deed
  done_once : Call → Entry → Deed

abbrev pub entry_of_deed : Deed → Entry
entry_of_deed (done_whole entry) = entry
entry_of_deed (done_once call entry) = entry

-- what the call asks
abbrev pub asked_in : Call → Asked
asked_in call = record { method = call.method; target = call.target; content_type = call.content_type; authorization = None; body = call.body }

abbrev pub exchanged_at : List Repository → Deed → Exchanged
exchanged_at kept (done_whole entry) =
    record { moment = (call_in entry).moment; asked = asked_in (call_in entry); answer = reply_all kept (call_in entry); own = entry ∷ [] }
exchanged_at kept (done_once call entry) =
    record { moment = call.moment; asked = asked_in call; answer = failed NoMemory (Some 1); own = entry ∷ [] }

-- as turns, one after the other
abbrev pub turns_at : List Repository → List Deed → List Turn
turns_at kept [] = []
turns_at kept (deed ∷ deeds) = was_performed (exchanged_at kept deed) ∷ turns_at (left_by_entry leaving kept (entry_of_deed deed)) deeds

-- ---- the lives

abbrev pub requested : ℕ → List ℕ → List ℕ → Deed
requested seconds name arguments = done_whole (record { moment = pos (1_704_067_200 + seconds); kind = kind.Oai; name = name; body = arguments })

abbrev pub deposited : ℕ → List ℕ → List ℕ → Deed
deposited seconds name lines = done_whole (record { moment = pos (1_704_067_200 + seconds); kind = kind.Deposit; name = name; body = lines })

-- the exchanges of the worked run of the host. In the first life the list is opened that is followed over three pages,
-- and the first harvest begins, and gets its first page
abbrev pub first_deeds : List Deed
first_deeds =
    deposited 0 (codes "a") (deposit_line (codes "oai:a:1") ++ deposit_line (codes "oai:a:2"))
    ∷ deposited 0 (codes "b") (deposit_line (codes "oai:b:1") ++ deposit_line (codes "oai:b:2"))
    ∷ deposited 0 (codes "a") (deposit_line (codes "oai:a:3"))
    ∷ deposited 0 (codes "b") (deposit_line (codes "oai:b:3"))
    ∷ deposited 0 (codes "a") (deposit_line (codes "oai:a:4") ++ deposit_line (codes "oai:a:5"))
    ∷ requested 0 (codes "a") (codes "verb=ListIdentifiers&metadataPrefix=oai_dc")
    ∷ requested 5 (codes "b") (codes "verb=ListRecords&metadataPrefix=oai_dc")
    ∷ []

-- at its end these are performed too; their answers are held back, but a crash leaves their records
abbrev pub held_deeds : List Deed
held_deeds =
    deposited 5 (codes "b") (delete_line (codes "oai:b:2"))
    ∷ requested 60 (codes "a") (codes "verb=ListRecords&metadataPrefix=oai_dc")
    ∷ []

-- in the second life both lists are followed to their ends, and two further harvests are made; a deposit of two lines
-- fails after its first, and at the end it is repeated, and done completely
abbrev pub second_deeds : List Deed
second_deeds =
    requested 6 (codes "b") (codes "verb=ListRecords&resumptionToken=1.2")
    ∷ requested 60 (codes "a") (codes "verb=ListIdentifiers&resumptionToken=1.2")
    ∷ done_once (post 61 (codes "/deposit/a") (deposit_line (codes "oai:a:6") ++ deposit_line (codes "oai:a:7")))
    (record { moment = pos (1_704_067_200 + 61); kind = kind.Deposit; name = codes "a"; body = deposit_line (codes "oai:a:6") })
    ∷ deposited 6 (codes "b") (deposit_line (codes "oai:b:4"))
    ∷ deposited 62 (codes "a") (delete_line (codes "oai:a:4"))
    ∷ requested 30 (codes "a") (codes "verb=ListIdentifiers&metadataPrefix=oai_dc")
    ∷ requested 7 (codes "b") (codes "verb=ListRecords&metadataPrefix=oai_dc&from=2024-01-01T00:00:05Z")
    ∷ requested 63 (codes "a") (codes "verb=ListIdentifiers&resumptionToken=2.2")
    ∷ requested 64 (codes "a") (codes "verb=ListRecords&resumptionToken=2.2")
    ∷ deposited 70 (codes "a") (deposit_line (codes "oai:a:5"))
    ∷ requested 8 (codes "b") (codes "verb=ListRecords&metadataPrefix=oai_dc&from=2024-01-01T00:00:07Z")
    ∷ requested 123 (codes "a") (codes "verb=ListRecords&resumptionToken=2.4")
    ∷ deposited 124 (codes "a") (deposit_line (codes "oai:a:6") ++ deposit_line (codes "oai:a:7"))
    ∷ []

-- in the third life, behind a checkpoint, the token of the first harvest comes again at the second repository, before it
-- expires; an item is deposited there, and a fourth harvest is made, from the datestamp of the third one
abbrev pub third_deeds : List Deed
third_deeds =
    requested 9 (codes "b") (codes "verb=ListRecords&resumptionToken=1.2")
    ∷ deposited 9 (codes "b") (deposit_line (codes "oai:b:5"))
    ∷ requested 10 (codes "b") (codes "verb=ListRecords&metadataPrefix=oai_dc&from=2024-01-01T00:00:08Z")
    ∷ []

abbrev pub worked_begun : List Repository
worked_begun = map begun worked_host.repositories

-- ---- the checkpoint

-- an item with an empty record in Dublin Core, as it was deposited that many seconds after 2024-01-01T00:00:00Z
abbrev pub empty_item_at : ℕ → List ℕ → ItemState
empty_item_at seconds identifier = live_item identifier (pos (1_704_067_200 + seconds)) [] ((codes "oai_dc", []) ∷ [])

-- what is left of it after it was deleted
abbrev pub tombstone_at : ℕ → ItemState → ItemState
tombstone_at seconds item = tombstone_of (pos (1_704_067_200 + seconds)) item

-- the state of a repository at that second, with these items, one open list, and the number of the next list
abbrev pub state_with : ℕ → List ItemState → FrozenList → ℕ → RepoState
state_with seconds items one next = record {
  clock = pos (1_704_067_200 + seconds);
  holdings = record { items = items; sets = [] };
  open_lists = record { lists = one ∷ []; next = next };
}

-- a list of records that is open until that second, of these items
abbrev pub frozen_until : ℕ → ℕ → ℕ → List ItemState → FrozenList
frozen_until seconds number given items = record {
  number = number;
  verb = list.Records;
  prefix = codes "oai_dc";
  items = items;
  end = pos (1_704_067_200 + seconds);
  given = given;
}

-- what the first two lives leave of the first repository: the list that was followed is open, for 59 seconds more
abbrev pub left_a : RepoState
left_a =
    let front : List ItemState = empty_item_at 0 (codes "oai:a:1") ∷ empty_item_at 0 (codes "oai:a:2") ∷ empty_item_at 0 (codes "oai:a:3") ∷ [] in
    let fourth : ItemState = empty_item_at 0 (codes "oai:a:4") in
    state_with 124
    (front ++ tombstone_at 62 fourth ∷ empty_item_at 70 (codes "oai:a:5") ∷ empty_item_at 124 (codes "oai:a:6") ∷ empty_item_at 124 (codes "oai:a:7") ∷ [])
    (frozen_until 183 2 4 (front ++ fourth ∷ empty_item_at 0 (codes "oai:a:5") ∷ []))
    3

-- and of the second one: the list of the first harvest is open, for 58 seconds more
abbrev pub left_b : RepoState
left_b =
    let first : ItemState = empty_item_at 0 (codes "oai:b:1") in
    let second : ItemState = empty_item_at 0 (codes "oai:b:2") in
    let third : ItemState = empty_item_at 0 (codes "oai:b:3") in
    state_with 8
    (first ∷ third ∷ tombstone_at 5 second ∷ empty_item_at 6 (codes "oai:b:4") ∷ [])
    (frozen_until 66 1 2 (first ∷ second ∷ third ∷ []))
    2

abbrev pub worked_left : List Repository
worked_left =
    record { name = first_entry.name; config = first_entry.config; state = left_a }
    ∷ record { name = second_entry.name; config = second_entry.config; state = left_b }
    ∷ []

-- it ends these lists, and raises the number of each next one by a million
abbrev pub worked_kept : List Repository
worked_kept = ended_in 1_000_000 worked_left

abbrev pub worked_checkpoint : List Entry
worked_checkpoint = records_of_parts (parts_in worked_kept)

-- ---- the turns

-- before the checkpoint
abbrev pub worked_turns : List Turn
worked_turns = turns_at worked_begun (first_deeds ++ held_deeds ++ second_deeds)

-- after it
abbrev pub later_turns : List Turn
later_turns = turns_at worked_kept third_deeds

abbrev pub worked_given_a : List Visit
worked_given_a = whole_visits (own_given first_entry (calls_in worked_turns) (answers_in worked_turns))

abbrev pub worked_given_b : List Visit
worked_given_b = whole_visits (own_given second_entry (calls_in worked_turns) (answers_in worked_turns))

-- they are turns over a store that does not fail, the later ones after the records of the checkpoint; before it a list
-- is followed over three pages at the first repository, and three harvests are made of the second, among visits of both
-- lives
pub record AreWorkedTurns (first second last : Visit) (one two three : Harvest) : Type 0 where
  pub store : StoreState
  pub honest : IsTrue store.honest
  pub turned : AreTurns stays worked_begun [] store worked_turns store
  pub later : AreTurns stays worked_begun worked_checkpoint store later_turns store
  pub following : IsFollowing worked_config worked_given_a all_records first (second ∷ last ∷ [])
  pub successive : AreSuccessive archive_b (flat_map (steps_of archive_b) worked_given_b) prefix one (two ∷ three ∷ [])

-- ---- over both eras

-- the eras, as the second repository has them
abbrev pub worked_eras : List VisitedEra
worked_eras =
    own_era second_entry.name (record { raise = 0; calls = calls_in worked_turns; answers = answers_in worked_turns })
    ∷ own_era second_entry.name (record { raise = 1_000_000; calls = calls_in later_turns; answers = answers_in later_turns })
    ∷ []

-- at the second repository four harvests are made, three before the checkpoint and one after it, of what was deposited
-- since the third one began; and a token that an answer before the checkpoint printed comes after it, and is refused
pub record AreOverCheckpoint (one two three four : Harvest) (before after : Visit) : Type 0 where
  pub successive : AreSuccessiveWithin archive_b (steps_within archive_b (empty_state archive_b) worked_eras) prefix one (two ∷ three ∷ four ∷ [])
  pub got : items_told (harvested four) ≡ (codes "oai:b:5", true) ∷ []
  pub earlier : List Visit
  pub later : List Visit
  pub within : visits_within archive_b (empty_state archive_b) worked_eras ≡ earlier ∷ later ∷ []
  pub ended : IsTokenEnded archive_b earlier later before after

-- ---- what a server has

-- a journal in memory: its records, and how many of them are durable
pub record Memory : Type 0 where
  pub entries : List Entry
  pub durable : ℕ

abbrev pub in_memory : journal.Ghosts Memory
in_memory = record {
  holds = λ journal entries durable. (journal.entries ≡ entries) × (journal.durable ≡ durable);
  may_leave = λ journal found. IsLeft journal.durable journal.entries found;
  has_room = λ journal bytes. Unit {0};
  stands = λ journal tail read. Unit {0};
  is_clean = λ journal. true;
}

-- what the theorem says of a host whose exchanges are logged in it
abbrev pub worked_keeping : Keeping (Parts HostState Memory) (List Repository)
worked_keeping = journaling (hosting (λ (host : HostState). host)) in_memory

-- ---- clients

-- the stream of a client: what was written to it, and what remains to be read of what the client sends
pub record Wire : Type 0 where
  pub written : List ℕ
  pub unread : List ℕ

abbrev pub written_to : Wire → Option (List ℕ)
written_to wire = Some wire.written

abbrev pub unread_of : Wire → Option (List ℕ)
unread_of wire = Some wire.unread

-- the bytes by which a client asks that: RFC 9112, sections 2.1, 3, 3.2 and 6.2
abbrev pub sent_as : Asked → List ℕ
sent_as asked =
    asked.method ++ codes " " ++ asked.target ++ codes " HTTP/1.1\r\nHost: localhost\r\nContent-Length: " ++ decimal (length asked.body) ++ codes "\r\n\r\n" ++ asked.body

abbrev pub sent_for : AnsweredMessage → List ℕ
sent_for done = sent_as done.message.asked

-- at the end of the life a client is connected. It sent the messages that were served in the rounds that settled, and a
-- prefix of their answers, which is not empty, was written to it. The rest of these waits
pub record IsConnected (life : ServerLife Wire (Parts HostState Memory)) : Type 0 where
  pub key : ℕ
  pub link : Link Wire
  pub stands : get life.new.links key ≡ Some link
  pub streams : List Wire
  pub known : life.known ≡ known_of (Some []) (Some [])
  pub later : life.later ≡ known_of (Some streams) (Some [])
  pub client : Wire
  pub numbered : IsNumbered streams link.connection.number client
  pub came : client.unread ≡ flat_map sent_for (done_on link.connection.number (served_in life.rounds))
  pub told : answers_of (done_on link.connection.number (served_in life.rounds)) ≡ link.stream.written ++ link.connection.output
  pub some : link.stream.written ≢ []
  pub rest : nat_lt 0 (length link.connection.output) ≡ true

-- a client left before the end of the life. It sent the messages that were served in the rounds that settled, all of
-- their answers were written to it, and then its stream was let go
pub record HasLeft (life : ServerLife Wire (Parts HostState Memory)) : Type 0 where
  pub streams : List Wire
  pub gone : List (ℕ × Wire)
  pub known : life.known ≡ known_of (Some []) (Some [])
  pub later : life.later ≡ known_of (Some streams) (Some gone)
  pub number : ℕ
  pub client : Wire
  pub numbered : IsNumbered streams number client
  pub came : client.unread ≡ flat_map sent_for (done_on number (served_in life.rounds))
  pub last : Wire
  pub left : Contains gone (number, last)
  pub told : last.written ≡ answers_of (done_on number (served_in life.rounds))
  pub some : last.written ≢ []

-- ---- the lives of a server

-- three lives of a server: two, a checkpoint after them, and one more. The last one leaves the records of the
-- checkpoint, followed by those of its turns. At the end of the first life a client is connected, and a part of the
-- answers to its messages waits; and a crash leaves the records of messages whose answers were held back. In the second
-- one a client left after it was sent all of its answers. At the checkpoint a list is open at each repository
pub record AreWorkedLives : Type 0 where
  pub first : ServerEra Wire (Parts HostState Memory)
  pub before : ServerLife Wire (Parts HostState Memory)
  pub last : ServerLife Wire (Parts HostState Memory)
  pub two : first.lives ≡ before ∷ last ∷ []
  pub second : ServerEra Wire (Parts HostState Memory)
  pub one : length second.lives ≡ 1
  pub are : AreServerEras worked_keeping saving written_to unread_of worked_begun None (first ∷ second ∷ [])
  pub honest : AreOverHonest store_in (first ∷ second ∷ [])
  pub numbers : AllByRecursion (λ (era : ServerEra Wire (Parts HostState Memory)). AreNumbered (redone_all leaving worked_begun era.found)) (first ∷ second ∷ [])
  pub raised : second.raise ≡ 1_000_000
  pub ended : redone_all leaving worked_begun first.left ≡ worked_left
  pub told : List (List LoggedTurns)
  pub received : AllZip (λ (era : ServerEra Wire (Parts HostState Memory)) (t : List LoggedTurns). AllZip (IsReceivedIn written_to unread_of) era.lives t)
      (first ∷ second ∷ []) told
  pub recorded : AllZip (λ (era : ServerEra Wire (Parts HostState Memory)) (t : List LoggedTurns). AllZip (IsRecordedIn stays store_in worked_begun) era.lives t)
      (first ∷ second ∷ []) told
  pub kept : AllZip (λ (era : ServerEra Wire (Parts HostState Memory)) (t : List LoggedTurns). AreResumed (worked_keeping.stands worked_begun) era.found era.lives t era.left) (first ∷ second ∷ []) told
  pub turns : map all_turns told ≡ worked_turns ∷ later_turns ∷ []
  pub survive : flat_map (λ (t : List LoggedTurns). flat_map (λ (life : LoggedTurns). life.held) t) told ≢ []
  pub connected : IsConnected before
  pub left : HasLeft last
