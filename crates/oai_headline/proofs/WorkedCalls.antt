-- What the exchanges of the worked run of a host carry, read and computed, are the worked runs of its two repositories.
use Rattle.std.proofs.Common.{◌≡◌, ◌∙◌, ℕ, pos, ◌&&◌, Bool, true, List, [], ◌∷◌, ◌++◌, codes, Option, None, Some, refl, sym, ap, arith}
use Rattle.std.specs.Str as str
use Rattle.std.specs.Str.Lossy as lossy
use Rattle.serde_json.proofs.OnLiterals.{serde_json_on_literals}
use Rattle.form_urlencoded.proofs.OnLiterals.{form_urlencoded_on_literals}
use Rattle.oai_names.specs.Characters.{is_xml_text}
use Rattle.oai_names.specs.Names.{is_identifier, is_prefix, is_scheme}
use Rattle.oai_names.specs.declared.list_verbs.ListVerb.TheVariants as list
use Rattle.oai_time.specs.Calendar.{calendar_day}
use Rattle.oai_time.specs.TimeTexts.{date_text, time_text}
use Rattle.oai_time.proofs.DateLemmas.{day_is}
use Rattle.oai_time.proofs.SecondTexts.{text_at as second_text_at}
use Rattle.jiff_core.specs.Calendar.{day_count}
use Rattle.jiff_core.proofs.CalendarLemmas.{days_from_civil-day_count}
use Rattle.jiff_core.proofs.MarchLemmas.{day_count-early}
use Rattle.jiff_core.proofs.SignedLemmas.{signed_arith}
use Rattle.oai_time.specs.declared.bound.Bound.{Bound}
use Rattle.oai_time.specs.declared.granularity.Granularity.TheVariants.{Second}
use Rattle.oai_json.specs.Json.{elements_at, elements_of, has_members, has_members_and, json_in, text_at, texts_at}
use Rattle.oai_deposit.specs.Lines.{about_read, abouts_at, asked_change, deletion_shape, deposit_shape, elements_read, field_list_of, given_read, have_xml_texts, line_of, record_of, records_at, records_of, shape_of}
use Rattle.oai_args.specs.Arguments.{arguments_in, given}
use Rattle.oai_args.specs.Bounds.{are_bounds, are_not_turned, is_some_bound}
use Rattle.oai_args.specs.Pairs.{decoded_pairs, has_only_keys, has_xml_values, values_of}
use Rattle.oai_args.specs.Requests.{asked_or_bad, asked_verb, first_list_of, first_of, form_of, next_of, provided, request_in, request_of, suit}
use Rattle.oai_args.specs.declared.requests.Ask.TheVariants as ask
use Rattle.oai_repo.specs.Machine.{Command, requesting}
use Rattle.oai_laws.specs.Following.{first_request, next_request}
use Rattle.oai_laws.specs.Runs.{Timed}
use Rattle.oai_laws.specs.Worked.{after, delete, deposit, worked_commands, worked_config}
use Rattle.oai_laws.proofs.WorkedLemmas.{second}
use Rattle.oai_laws.specs.Harvests.{records_since}
use Rattle.oai_laws.specs.WorkedHarvests.{datestamp}
use Rattle.oai_laws.specs.WorkedHarvests as beside
use Rattle.oai_laws.proofs.WorkedEraLemmas.{bound_8, last_commands, later_commands}
use Rattle.oai_laws.proofs.WorkedHarvestLemmas.{bound_5, bound_7, stamped}
use Rattle.oai_http.specs.declared.exchanges.Call.{Call}
use Rattle.oai_host.specs.Alone.{own_calls}
use Rattle.oai_headline.specs.Visits.{commands_in}
use Rattle.oai_headline.specs.Worked.{deposit_line, get, post, worked_calls}

-- ---- a day

new_year_count : day_count (pos 2024) 1 1 ≡ 4_391_676
new_year_count = day_count-early (pos 2024) 12023 1 1 refl (omega arith) (omega arith) (omega arith)

-- 2024-01-01, by the number of the day
pub new_year : calendar_day 739_251 ≡ record { year = 2024; month = 1; day = 1 }
new_year = day_is 2024 1 1 739_251 (omega arith) (omega arith) (omega arith) (omega (arith, signed_arith, days_from_civil-day_count, new_year_count))

-- ---- the first repository

abbrev pub own_a : List Call
own_a = own_calls (codes "a") worked_calls

pub carried_a : commands_in worked_config own_a ≡ worked_commands
unfolding line_of json_in shape_of has_members has_members_and abouts_at about_read deposit_shape deletion_shape text_at texts_at elements_at elements_of records_at records_of record_of given_read field_list_of elements_read asked_change have_xml_texts is_identifier is_scheme serde_json_on_literals str.is_utf8 str.chars decoded_pairs form_urlencoded_on_literals lossy.utf8_lossy lossy.utf8_valid_len request_of request_in arguments_in given values_of has_only_keys has_xml_values asked_verb form_of suit first_of first_list_of next_of are_bounds is_prefix is_xml_text lib.Utf8.encode
carried_a = refl

-- ---- the second repository

abbrev pub own_b : List Call
own_b = own_calls (codes "b") worked_calls

-- the two texts that are given as `from`
abbrev text_5 : List ℕ
text_5 = codes "2024-01-01T00:00:05Z"

abbrev text_7 : List ℕ
text_7 = codes "2024-01-01T00:00:07Z"

-- they are datestamps, and so they are bounds
dated_5 : text_5 ≡ datestamp 5
unfolding date_text time_text
dated_5 = sym (second_text_at (second 5) 739_251 5 (record { year = 2024; month = 1; day = 1 }) (omega (arith, signed_arith)) (omega arith) (omega arith) new_year)

dated_7 : text_7 ≡ datestamp 7
unfolding date_text time_text
dated_7 = sym (second_text_at (second 7) 739_251 7 (record { year = 2024; month = 1; day = 1 }) (omega (arith, signed_arith)) (omega arith) (omega arith) new_year)

abbrev is_from : List ℕ → Bool
is_from text = are_bounds Second (Some text) None

bounded_5 : is_from (datestamp 5) ≡ true
unfolding are_bounds
bounded_5 = ap (λ (b : Option Bound). is_some_bound Second b && true && are_not_turned b None) (stamped 5 bound_5)

bounded_7 : is_from (datestamp 7) ≡ true
unfolding are_bounds
bounded_7 = ap (λ (b : Option Bound). is_some_bound Second b && true && are_not_turned b None) (stamped 7 bound_7)

-- all records from that text on, where it passes as a bound
abbrev records_from : Bool → List ℕ → Command
records_from passes text = requesting (asked_or_bad (provided passes (ask.List list.Records (codes "oai_dc") (Some text) None None)))

abbrev carried_with : Bool → List ℕ → Bool → List ℕ → List Timed
carried_with passes_5 since_5 passes_7 since_7 =
    after 0 (deposit (codes "oai:b:1"))
    ∷ after 0 (deposit (codes "oai:b:2"))
    ∷ after 0 (deposit (codes "oai:b:3"))
    ∷ after 5 (first_request (records_since (codes "oai_dc") None))
    ∷ after 5 (delete (codes "oai:b:2"))
    ∷ after 6 (next_request list.Records (codes "1.2"))
    ∷ after 6 (deposit (codes "oai:b:4"))
    ∷ after 7 (records_from passes_5 since_5)
    ∷ after 8 (records_from passes_7 since_7)
    ∷ []

read_b : commands_in beside.archive_b own_b ≡ carried_with (is_from text_5) text_5 (is_from text_7) text_7
unfolding line_of json_in shape_of has_members has_members_and abouts_at about_read deposit_shape deletion_shape text_at texts_at elements_at elements_of records_at records_of record_of given_read field_list_of elements_read asked_change have_xml_texts is_identifier is_scheme serde_json_on_literals str.is_utf8 str.chars decoded_pairs form_urlencoded_on_literals lossy.utf8_lossy lossy.utf8_valid_len request_of request_in arguments_in given values_of has_only_keys has_xml_values asked_verb form_of suit first_of first_list_of next_of are_bounds is_prefix is_xml_text lib.Utf8.encode
read_b = refl

pub carried_b : commands_in beside.archive_b own_b ≡ beside.harvest_commands
carried_b =
    read_b
    ∙ ap (λ (text : List ℕ). carried_with (is_from text) text (is_from text_7) text_7) dated_5
    ∙ ap (λ (text : List ℕ). carried_with (is_from (datestamp 5)) (datestamp 5) (is_from text) text) dated_7
    ∙ ap (λ (passes : Bool). carried_with passes (datestamp 5) (is_from (datestamp 7)) (datestamp 7)) bounded_5
    ∙ ap (λ (passes : Bool). carried_with true (datestamp 5) passes (datestamp 7)) bounded_7

-- ---- calls after them

-- a deposit at the first repository
abbrev pub last_calls : List Call
last_calls = post 124 (codes "/deposit/a") (deposit_line (codes "oai:a:6") ++ deposit_line (codes "oai:a:7")) ∷ []

pub carried_last : commands_in worked_config last_calls ≡ last_commands
unfolding line_of json_in shape_of has_members has_members_and abouts_at about_read deposit_shape deletion_shape text_at texts_at elements_at elements_of records_at records_of record_of given_read field_list_of elements_read asked_change have_xml_texts is_identifier is_scheme serde_json_on_literals str.is_utf8 str.chars decoded_pairs form_urlencoded_on_literals lossy.utf8_lossy lossy.utf8_valid_len request_of request_in arguments_in given values_of has_only_keys has_xml_values asked_verb form_of suit first_of first_list_of next_of are_bounds is_prefix is_xml_text lib.Utf8.encode
carried_last = refl

-- the second repository behind a checkpoint: a token comes again, an item is deposited, and what was deposited since is harvested
abbrev pub later_calls : List Call
later_calls =
    get 9 (codes "/oai/b?verb=ListRecords&resumptionToken=1.2")
    ∷ post 9 (codes "/deposit/b") (deposit_line (codes "oai:b:5"))
    ∷ get 10 (codes "/oai/b?verb=ListRecords&metadataPrefix=oai_dc&from=2024-01-01T00:00:08Z")
    ∷ []

abbrev text_8 : List ℕ
text_8 = codes "2024-01-01T00:00:08Z"

dated_8 : text_8 ≡ datestamp 8
unfolding date_text time_text
dated_8 = sym (second_text_at (second 8) 739_251 8 (record { year = 2024; month = 1; day = 1 }) (omega (arith, signed_arith)) (omega arith) (omega arith) new_year)

bounded_8 : is_from (datestamp 8) ≡ true
unfolding are_bounds
bounded_8 = ap (λ (b : Option Bound). is_some_bound Second b && true && are_not_turned b None) (stamped 8 bound_8)

abbrev later_with : Bool → List ℕ → List Timed
later_with passes since =
    after 9 (next_request list.Records (codes "1.2"))
    ∷ after 9 (deposit (codes "oai:b:5"))
    ∷ after 10 (records_from passes since)
    ∷ []

read_later : commands_in beside.archive_b later_calls ≡ later_with (is_from text_8) text_8
unfolding line_of json_in shape_of has_members has_members_and abouts_at about_read deposit_shape deletion_shape text_at texts_at elements_at elements_of records_at records_of record_of given_read field_list_of elements_read asked_change have_xml_texts is_identifier is_scheme serde_json_on_literals str.is_utf8 str.chars decoded_pairs form_urlencoded_on_literals lossy.utf8_lossy lossy.utf8_valid_len request_of request_in arguments_in given values_of has_only_keys has_xml_values asked_verb form_of suit first_of first_list_of next_of are_bounds is_prefix is_xml_text lib.Utf8.encode
read_later = refl

pub carried_later : commands_in beside.archive_b later_calls ≡ later_commands
carried_later =
    read_later
    ∙ ap (λ (text : List ℕ). later_with (is_from text) text) dated_8
    ∙ ap (λ (passes : Bool). later_with passes (datestamp 8)) bounded_8
