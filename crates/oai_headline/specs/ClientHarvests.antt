-- Harvests, as a client sees them: what it asks, what it sees in the answers, and what it keeps of the records that it
-- sees. OAI-PMH 2.0, sections 2.5, 2.7.1, 3.2, 3.5 and 4.5.
use Rattle.std.specs.Prelude.{◌≡◌, ◌⊎◌, ◌↔◌, ℕ, ℤ, int_lt, Bool, true, false, if◌then◌else◌, List, [], ◌∷◌, map, take, Option, None, Some}
use Rattle.std.specs.List.{AllByRecursion, Contains, flat_map, list_any}
use Rattle.std.specs.Str.{bytes_eq}
use Rattle.oai_names.specs.declared.list_verbs.ListVerb.TheVariants as list
use Rattle.oai_time.specs.Stamp.{IsWritable}
use Rattle.oai_time.specs.TimeTexts.{second_text}
use Rattle.oai_time.specs.declared.granularity.Granularity.{Granularity}
use Rattle.oai_time.specs.declared.granularity.Granularity.TheVariants.{Day, Second}
use Rattle.oai_item.specs.Formats.{format_named}
use Rattle.oai_item.specs.Item.{ItemState, has_record}
use Rattle.oai_item.specs.declared.deleted_record.DeletedRecord.TheVariants.{Persistent}
use Rattle.oai_item.specs.declared.formats.Format.{Format}
use Rattle.oai_args.specs.Asks.{asks}
use Rattle.oai_args.specs.declared.requests.Ask.TheVariants as ask
use Rattle.oai_answers.specs.Answers.{Document}
use Rattle.oai_answers.specs.Documents.{document}
use Rattle.oai_answers.specs.Seen.{IsRegular, SeenAnswer, SeenDocument, SeenRecord, SeenToken, document_seen, empty_token, no_token, record_seen, seen_error, seen_formats, seen_headers, seen_identity, seen_record, seen_records, seen_sets, seen_token}
use Rattle.oai_answers.specs.declared.errors.ErrorCode.{ErrorCode}
use Rattle.oai_answers.specs.declared.errors.ErrorCode.TheVariants.{BadArgument, BadResumptionToken, BadVerb, CannotDisseminateFormat, IdDoesNotExist, NoMetadataFormats, NoRecordsMatch, NoSetHierarchy}
use Rattle.oai_settings.specs.Config.{RepositoryConfig}
use Rattle.oai_repo.specs.State.{RepoState}
use Rattle.oai_laws.specs.Runs.{IsPart}
use Rattle.oai_http.specs.Answers.{answered_with}
use Rattle.oai_http.specs.declared.exchanges.Answer.{Answer}
use Rattle.oai_headline.specs.Chains.{IsRequest}
use Rattle.oai_headline.specs.Visits.{Visit, found_by}

-- ---- what a client sees

-- the client sees that in the answer: its body is the bytes of a document that shows it. Whatever the document is, the
-- bytes show nothing else; so it need only be one whose bytes show what it answers
pub record IsSeen (answer : Answer) (seen : SeenDocument) : Type 0 where
  pub its : Document
  pub written : answer ≡ answered_with (document its)
  pub regular : IsRegular its.answer
  pub shown : document_seen its ≡ seen

-- an exchange with the repository, and what the client sees in its answer
pub record SeenVisit : Type 0 where
  pub visit : Visit
  pub seen : SeenDocument

abbrev pub IsSeenVisit : SeenVisit → Type 0
IsSeenVisit visited = IsSeen visited.visit.answer visited.seen

-- the records that are seen in an answer, if it lists some
abbrev pub records_seen : SeenAnswer → List SeenRecord
records_seen (seen_error code) = []
records_seen (seen_identity identity) = []
records_seen (seen_formats formats) = []
records_seen (seen_sets sets) = []
records_seen (seen_record its) = []
records_seen (seen_headers headers token) = []
records_seen (seen_records records token) = records

-- no record of the list remains (section 3.5): it has no token, or the empty one
abbrev pub is_list_end : SeenToken → Bool
is_list_end no_token = true
is_list_end (seen_token token expires size cursor) = false
is_list_end (empty_token size cursor) = true

-- no record matches (section 3.6)
abbrev pub is_none_matching : ErrorCode → Bool
is_none_matching BadArgument = false
is_none_matching BadResumptionToken = false
is_none_matching BadVerb = false
is_none_matching CannotDisseminateFormat = false
is_none_matching IdDoesNotExist = false
is_none_matching NoRecordsMatch = true
is_none_matching NoMetadataFormats = false
is_none_matching NoSetHierarchy = false

-- the harvest is over: no record matches, or records are listed and none remains
abbrev pub is_harvest_end : SeenAnswer → Bool
is_harvest_end (seen_error code) = is_none_matching code
is_harvest_end (seen_identity identity) = false
is_harvest_end (seen_formats formats) = false
is_harvest_end (seen_sets sets) = false
is_harvest_end (seen_record its) = false
is_harvest_end (seen_headers headers token) = false
is_harvest_end (seen_records records token) = is_list_end token

-- ---- a harvest

-- a request for records, and those that follow with the tokens of its list
pub record ClientHarvest : Type 0 where
  pub first : SeenVisit
  pub others : List SeenVisit

abbrev pub visits_of : ClientHarvest → List SeenVisit
visits_of harvest = harvest.first ∷ harvest.others

-- the last of them
abbrev pub last_visit : SeenVisit → List SeenVisit → SeenVisit
last_visit visited [] = visited
last_visit visited (next ∷ others) = last_visit next others

-- the second visit comes with the token that is seen in the answer to the first; and its own answer has a responseDate
-- before the expirationDate that is seen there. Both are dates of the years 0000 to 9999
pub record IsNextSeen (config : RepositoryConfig) (before after : SeenVisit) : Type 0 where
  pub records : List SeenRecord
  pub token : List ℕ
  pub expires : ℤ
  pub size : List ℕ
  pub cursor : List ℕ
  pub offered : before.seen.answer ≡ seen_records records (seen_token token (second_text expires) size cursor)
  pub asked : IsRequest config.granularity after.visit.call (asks (ask.Resume list.Records token))
  pub date : ℤ
  pub dated : after.seen.date ≡ second_text date
  pub unexpired : int_lt date expires ≡ true
  pub writable : IsWritable date × IsWritable expires

-- each comes with the token of the one before it
abbrev pub AreNextSeen : RepositoryConfig → SeenVisit → List SeenVisit → Type 0
AreNextSeen config before [] = Unit {0}
AreNextSeen config before (next ∷ others) = IsNextSeen config before next × AreNextSeen config next others

-- a harvest among visits, whatever else comes between: the first requests all records in the metadataPrefix, from that
-- date on if one is given; the others follow its list by the tokens; and with the last answer the harvest is over
pub record IsClientHarvest (config : RepositoryConfig) (all : List Visit) (prefix : List ℕ) (from : Option (List ℕ)) (harvest : ClientHarvest) : Type 0 where
  pub among : IsPart (map (λ (visited : SeenVisit). visited.visit) (visits_of harvest)) all
  pub seen : AllByRecursion IsSeenVisit (visits_of harvest)
  pub asked : IsRequest config.granularity harvest.first.visit.call (asks (ask.List list.Records prefix from None None))
  pub next : AreNextSeen config harvest.first harvest.others
  pub ended : is_harvest_end (last_visit harvest.first harvest.others).seen.answer ≡ true

-- a client can see the visits as such a harvest
abbrev pub IsSomeClientHarvest : RepositoryConfig → List Visit → List ℕ → Option (List ℕ) → List Visit → Type 0
IsSomeClientHarvest config all prefix from some =
    (harvest : ClientHarvest) × (map (λ (visited : SeenVisit). visited.visit) (visits_of harvest) ≡ some) × IsClientHarvest config all prefix from harvest

-- ---- successive harvests

-- the date as the repository writes datestamps (section 3.3): its first ten bytes, which are the day, or all of it
abbrev pub datestamp_in : Granularity → List ℕ → List ℕ
datestamp_in Day date = take 10 date
datestamp_in Second date = date

-- the first of the harvests begins with the records of `from`, and each other one with those of the responseDate that
-- is seen in the first answer of the one before it
abbrev pub AreClientHarvests : RepositoryConfig → List Visit → List ℕ → Option (List ℕ) → List ClientHarvest → Type 0
AreClientHarvests config all prefix from [] = Unit {0}
AreClientHarvests config all prefix from (harvest ∷ harvests) =
    IsClientHarvest config all prefix from harvest
    × AreClientHarvests config all prefix (Some (datestamp_in config.granularity harvest.first.seen.date)) harvests

-- a harvest of all records in the metadataPrefix, and others after it, each of which begins later than the one before
-- it and harvests from the responseDate of that one's first answer on
pub record AreSuccessiveByClient (config : RepositoryConfig) (all : List Visit) (prefix : List ℕ) (first : ClientHarvest) (others : List ClientHarvest) : Type 0 where
  pub begun : IsPart (map (λ (harvest : ClientHarvest). harvest.first.visit) (first ∷ others)) all
  pub harvests : AreClientHarvests config all prefix None (first ∷ others)

-- the last one
abbrev pub last_client_harvest : ClientHarvest → List ClientHarvest → ClientHarvest
last_client_harvest harvest [] = harvest
last_client_harvest harvest (next ∷ harvests) = last_client_harvest next harvests

-- ---- over eras, each of which a checkpoint ends: the visits of each

-- a harvest among the visits of one era
abbrev pub IsClientHarvestWithin : RepositoryConfig → List (List Visit) → List ℕ → Option (List ℕ) → ClientHarvest → Type 0
IsClientHarvestWithin config [] prefix from harvest = ⊥
IsClientHarvestWithin config (all ∷ eras) prefix from harvest =
    IsClientHarvest config all prefix from harvest ⊎ IsClientHarvestWithin config eras prefix from harvest

-- each in some era: the first from that date on if one is given, and each other one from the date on that was seen in
-- the first answer of the one before it
abbrev pub AreClientHarvestsWithin : RepositoryConfig → List (List Visit) → List ℕ → Option (List ℕ) → List ClientHarvest → Type 0
AreClientHarvestsWithin config eras prefix from [] = Unit {0}
AreClientHarvestsWithin config eras prefix from (harvest ∷ harvests) =
    IsClientHarvestWithin config eras prefix from harvest
    × AreClientHarvestsWithin config eras prefix (Some (datestamp_in config.granularity harvest.first.seen.date)) harvests

-- of all eras, one era after the other
abbrev pub all_visits : List (List Visit) → List Visit
all_visits eras = flat_map (λ (all : List Visit). all) eras

-- a harvest of all records, and others after it, each of them within an era, whichever it is
pub record AreSuccessiveByClientWithin (config : RepositoryConfig) (eras : List (List Visit)) (prefix : List ℕ) (first : ClientHarvest) (others : List ClientHarvest) : Type 0 where
  pub begun : IsPart (map (λ (harvest : ClientHarvest). harvest.first.visit) (first ∷ others)) (all_visits eras)
  pub harvests : AreClientHarvestsWithin config eras prefix None (first ∷ others)

-- ---- a client's copy

-- the records that are seen in a harvest, one answer after the other
abbrev pub records_of_harvest : ClientHarvest → List SeenRecord
records_of_harvest harvest = flat_map (λ (visited : SeenVisit). records_seen visited.seen.answer) (visits_of harvest)

abbrev pub is_record_of : List ℕ → SeenRecord → Bool
is_record_of identifier seen = bytes_eq seen.header.identifier identifier

-- of records, one after the other, the last of each identifier
abbrev pub last_of_each : List SeenRecord → List SeenRecord
last_of_each [] = []
last_of_each (seen ∷ records) =
    if list_any (is_record_of seen.header.identifier) records then last_of_each records else seen ∷ last_of_each records

-- what a client keeps of harvests: of all records that it saw, the last of each identifier
abbrev pub client_copy : List ClientHarvest → List SeenRecord
client_copy harvests = last_of_each (flat_map records_of_harvest harvests)

-- the record is that of an item in that state, live or deleted, in the format
pub record IsRecordIn (granularity : Granularity) (format : Format) (prefix : List ℕ) (state : RepoState) (seen : SeenRecord) : Type 0 where
  pub item : ItemState
  pub held : Contains state.holdings.items item
  pub disseminated : has_record prefix item.formats ≡ true
  pub shown : record_seen granularity format item ≡ seen

-- the copy has exactly the records that the repository has in the metadataPrefix in that state
pub record IsWholeClientCopy (config : RepositoryConfig) (prefix : List ℕ) (state : RepoState) (copy : List SeenRecord) : Type 0 where
  pub format : Format
  pub known : format_named prefix config.formats ≡ Some format
  pub members : (seen : SeenRecord) → Contains copy seen ↔ IsRecordIn config.granularity format prefix state seen

-- ---- the theorem

-- such harvests miss nothing, if the repository keeps deleted records (section 2.5.1): the client then has exactly the
-- records of the items that had one in the metadataPrefix when the last of them began
abbrev pub MissNothingSeen : RepositoryConfig → List (List Visit) → Type 0
MissNothingSeen config eras =
    (prefix : List ℕ) (first : ClientHarvest) (others : List ClientHarvest)
    → config.deleted ≡ Persistent
    → AreSuccessiveByClientWithin config eras prefix first others
    → IsWholeClientCopy config prefix (found_by (last_client_harvest first others).first.visit) (client_copy (first ∷ others))
