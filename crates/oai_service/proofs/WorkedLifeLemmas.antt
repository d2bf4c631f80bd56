-- The worked lives are lives of a server.
use Rattle.std.proofs.Common.{◌≡◌, ◌≢◌, ◌∙◌, inl, inr, ℕ, zero, suc, ◌<◌, Bool, true, false, List, [], ◌∷◌, ◌++◌, length, map, codes, drop, Option, None, Some, Ok, Err, slice_index_or, take, unwrap_or, refl, sym, ap, ap₂, subst, arith}
use Rattle.std.specs.Fmt as fmt
use Rattle.std.specs.List.{AllByRecursion, AllZip, flat_map, list_all}
use Rattle.std.specs.Prelude.{Contains, IsTrue, nat_lt}
use Rattle.std.proofs.lemmas.Bool.{lt-ltb}
use Rattle.std.proofs.lemmas.List.{append-nil, append_assoc, map-append, take-append-drop}
use Rattle.slab.specs.Slab.{Slab}
use Rattle.httparse.specs.Grammar.{is_token_byte, print_request, trim_ows}
use Rattle.oai_item.specs.declared.faults.Fault.TheVariants.{NoMemory}
use Rattle.oai_http.specs.Answers.{failed}
use Rattle.oai_http.specs.Exchanges.{Asked}
use Rattle.oai_front.specs.Fields.{any_close, framing_of, is_alike, length_written, lists_close, values_named}
use Rattle.oai_front.specs.Heads.{answer_bytes, answer_head, plain, status_line}
use Rattle.oai_front.specs.Messages.{Message, Splits, framing_in}
use Rattle.oai_front.specs.Messages as end
use Rattle.oai_front.specs.Performing.{AnsweredMessage, Steps, answers_of, done_bytes, messages_of}
use Rattle.oai_front.specs.Runs.{Served, Serves, done_on}
use Rattle.oai_front.specs.declared.stages.Stage.TheVariants.{Reading}
use Rattle.oai_front.proofs.RunLemmas.{done_join, none_unfinished}
use Rattle.oai_host.specs.Hosts.{HostState, IsExchanged, Repository}
use Rattle.oai_host.specs.Redone as host
use Rattle.oai_journal.specs.Records.{Entry}
use Rattle.oai_serving.specs.Accepted.{known_of}
use Rattle.oai_serving.specs.Links.{Link}
use Rattle.oai_serving.specs.Received.{IsReceived}
use Rattle.oai_serving.specs.Rounds.{AreSettled, served_in}
use Rattle.oai_serving.specs.Tables.{AreAllAnswered, AreAllThere, AreGoneAnswered, AreLinksAnswered, AreLinksKept, IsAnswered}
use Rattle.oai_serving.specs.declared.faults.ServeFault.TheVariants.{Wait}
use Rattle.oai_keys.specs.Guards.{Guards}
use Rattle.oai_keys.specs.Keys.{is_admitted}
use Rattle.oai_daemon.specs.Watches.{Watches, is_status}
use Rattle.oai_durable.specs.Checkpoints.{IsCheckpoint}
use Rattle.oai_durable.specs.Journaled.{IsExchange, IsHeld, IsSettled, Parts}
use Rattle.oai_durable.specs.Records.{call_in, left_by_entry, redone_all}
use Rattle.oai_headline.specs.Worked.{delete_line, deposit_line}
use Rattle.oai_service.specs.Hosting.{AreNumbered, hosting, leaving, saving, store_in}
use Rattle.oai_service.specs.Keeping.{stays}
use Rattle.oai_service.specs.Lives.{AreServerLives, IsServerLife, ServerLife}
use Rattle.oai_durable.specs.Served.{AreThose, told_by, TimedAnswer as Answered}
use Rattle.oai_service.specs.Service.{AreResumed, IsReceivedIn, IsRecordedIn, LoggedTurns, all_turns}
use Rattle.oai_service.specs.Turns.{AreTurns, IsKeyed, IsWatched, Turn, its, turn_records, was_performed}
use Rattle.oai_service.specs.WorkedLives.{AreWorkedLives, Deed, HasLeft, IsConnected, Memory, Wire, asked_in, deposited, done_once, done_whole, entry_of_deed, exchanged_at, first_deeds, held_deeds, in_memory, requested, second_deeds, sent_as, sent_for, third_deeds, turns_at, unread_of, worked_begun, worked_checkpoint, worked_keeping, worked_kept, worked_left, written_to}
use Rattle.oai_service.proofs.ClientLemmas.{is_sent, message_of, read_all}
use Rattle.oai_service.proofs.KeepingLemmas.{all_sound}
use Rattle.oai_service.proofs.LifeLemmas.{long_append}
use Rattle.oai_service.proofs.MachineLemmas.{names_in, once_exchanged, sound_host, sound_store, whole_exchanged}
use Rattle.oai_service.proofs.TurnLemmas.{each_append, records_append}
use Rattle.oai_service.proofs.WorkedEraLemmas.{checkpoint_leaves, lives_leave, third_fit}
use Rattle.oai_service.proofs.WorkedLemmas.{IsFit, all_fit, deed_kind, deeds_turned, first_fit, held_fit, left_call, names_after, own_entry, redone_append, second_fit}

-- ---- a message

-- what its host serves, with no keys
abbrev Open : Steps (Parts HostState Memory)
Open = Watches (Guards [] (IsExchange (hosting (λ (h : HostState). h)) in_memory))

admitted : (asked : Asked) → IsTrue (is_admitted [] asked)
unfolding is_admitted
admitted asked = refl

-- its target is none of figures
deed_apart : (names : List (List ℕ)) (kept : List Repository) (deed : Deed) → IsFit names deed → is_status (exchanged_at kept deed).asked.target ≡ false
deed_apart names kept (done_whole entry) fit = fit.2
deed_apart names kept (done_once call entry) fit = fit.3

abbrev parts_at : List Repository → List Entry → ℕ → Parts HostState Memory
parts_at kept entries durable = record { handler = sound_host kept; journal = record { entries = entries; durable = durable } }

abbrev IsDeedExchange : List Repository → List Entry → ℕ → Deed → Type 0
IsDeedExchange kept entries durable deed =
    let e = exchanged_at kept deed in
    IsExchange (hosting (λ (h : HostState). h)) in_memory (parts_at kept entries durable) e.moment e.asked e.answer (parts_at (left_by_entry leaving kept (entry_of_deed deed)) (entries ++ entry_of_deed deed ∷ []) durable)

now_held : (kept : List Repository) (entry : Entry) (stood : List Entry) (durable : ℕ) (begun : List Repository) (entries : List Entry) (count : ℕ)
    → IsHeld (hosting (λ (h : HostState). h)) in_memory begun (parts_at kept stood durable) entries count
    → IsHeld (hosting (λ (h : HostState). h)) in_memory begun (parts_at (left_by_entry leaving kept entry) (stood ++ entry ∷ []) durable) (entries ++ entry ∷ []) count
now_held kept entry stood durable begun entries count held = record {
  records = (ap (λ (es : List Entry). es ++ entry ∷ []) held.records.0, held.records.1);
  kept = λ so. ap (λ (rs : List Repository). left_by_entry leaving rs entry) (held.kept refl) ∙ sym (redone_append begun entries (entry ∷ []));
}

deed_exchange : (kept : List Repository) (entries : List Entry) (durable : ℕ) (deed : Deed) → IsFit (names_in kept) deed → IsDeedExchange kept entries durable deed
deed_exchange kept stood durable (done_whole entry) fit = record {
  tried = inl (subst (λ (rs : List Repository). IsExchanged (call_in entry) (host.reply_all kept (call_in entry)) (sound_host kept) (sound_host rs)) (sym (left_call kept entry fit.1)) (whole_exchanged (call_in entry) kept fit.0));
  honesty = refl;
  kept = λ begun entries count held. record {
    own = entry ∷ [];
    one = omega arith;
    held = now_held kept entry stood durable begun entries count held;
    told = λ so none. ap (λ (rs : List Repository). host.reply_all rs (call_in entry)) (held.kept refl);
    left = λ so none. redone_append begun entries (entry ∷ []) ∙ left_call (redone_all leaving begun entries) entry fit.1;
  };
  saving = λ state saved saves. saves;
  tails = λ tail read stands. stands;
}
deed_exchange kept stood durable (done_once call entry) fit = record {
  tried = inl (subst (λ (rs : List Repository). IsExchanged call (failed NoMemory (Some 1)) (sound_host kept) (sound_host rs)) (sym (left_call kept entry fit.1)) (once_exchanged call (call_in entry) kept fit.2 fit.0));
  honesty = refl;
  kept = λ begun entries count held. record {
    own = entry ∷ [];
    one = omega arith;
    held = now_held kept entry stood durable begun entries count held;
    told = λ so none. cc;
    left = λ so none. cc;
  };
  saving = λ state saved saves. saves;
  tails = λ tail read stands. stands;
}

-- ---- messages

abbrev done_at : List Repository → Deed → AnsweredMessage
done_at kept deed = record { message = message_of (exchanged_at kept deed).asked; answer = (exchanged_at kept deed).answer }

-- over the connection of that number
abbrev served_at : ℕ → List Repository → Deed → Served
served_at number kept deed = record { number = number; moment = (exchanged_at kept deed).moment; done = done_at kept deed }

abbrev served_all : ℕ → List Repository → List Deed → List Served
served_all number kept [] = []
served_all number kept (deed ∷ deeds) = served_at number kept deed ∷ served_all number (left_by_entry leaving kept (entry_of_deed deed)) deeds

abbrev entries_in : List Deed → List Entry
entries_in deeds = map entry_of_deed deeds

serve_deeds : (number : ℕ) (kept : List Repository) (entries : List Entry) (durable : ℕ) (deeds : List Deed) → AllByRecursion (IsFit (names_in kept)) deeds
    → Serves Open (parts_at kept entries durable) (served_all number kept deeds) (parts_at (redone_all leaving kept (entries_in deeds)) (entries ++ entries_in deeds) durable)
serve_deeds number kept entries durable [] fit = ap (λ (es : List Entry). parts_at kept es durable) (append-nil entries)
serve_deeds number kept entries durable (deed ∷ deeds) fit =
    let entry : Entry = entry_of_deed deed in
    let now : List Repository = left_by_entry leaving kept entry in
    let names : names_in now ≡ names_in kept = names_after kept entry (deed_kind (names_in kept) deed fit.0) in
    let rest = serve_deeds number now (entries ++ entry ∷ []) durable deeds (subst (λ (ns : List (List ℕ)). AllByRecursion (IsFit ns) deeds) (sym names) fit.1) in (
      parts_at now (entries ++ entry ∷ []) durable,
      inr (deed_apart (names_in kept) kept deed fit.0, inl (admitted (exchanged_at kept deed).asked, deed_exchange kept entries durable deed fit.0)),
      subst (λ (es : List Entry). Serves Open (parts_at now (entries ++ entry ∷ []) durable) (served_all number now deeds) (parts_at (redone_all leaving now (entries_in deeds)) es durable))
          (append_assoc entries (entry ∷ []) (entries_in deeds)) rest,
    )

-- ---- clients

-- what was done of them, over whichever connection
abbrev done_all : List Repository → List Deed → List AnsweredMessage
done_all kept [] = []
done_all kept (deed ∷ deeds) = done_at kept deed ∷ done_all (left_by_entry leaving kept (entry_of_deed deed)) deeds

abbrev asked_of : Deed → Asked
asked_of (done_whole entry) = asked_in (call_in entry)
asked_of (done_once call entry) = asked_in call

abbrev asked_all : List Deed → List Asked
asked_all deeds = map asked_of deeds

asked_at : (kept : List Repository) (deed : Deed) → (exchanged_at kept deed).asked ≡ asked_of deed
asked_at kept (done_whole entry) = refl
asked_at kept (done_once call entry) = refl

messages_done : (kept : List Repository) (deeds : List Deed) → messages_of (done_all kept deeds) ≡ map message_of (asked_all deeds)
messages_done kept [] = refl
messages_done kept (deed ∷ deeds) =
    let now : List Repository = left_by_entry leaving kept (entry_of_deed deed) in
    ap (λ (asked : Asked). message_of asked ∷ messages_of (done_all now deeds)) (asked_at kept deed)
    ∙ ap (λ (ms : List Message). message_of (asked_of deed) ∷ ms) (messages_done now deeds)

sent_done : (kept : List Repository) (deeds : List Deed) → flat_map sent_for (done_all kept deeds) ≡ flat_map sent_as (asked_all deeds)
sent_done kept [] = refl
sent_done kept (deed ∷ deeds) =
    let now : List Repository = left_by_entry leaving kept (entry_of_deed deed) in
    ap (λ (asked : Asked). sent_as asked ++ flat_map sent_for (done_all now deeds)) (asked_at kept deed)
    ∙ ap (λ (xs : List ℕ). sent_as (asked_of deed) ++ xs) (sent_done now deeds)

first_done : (kept : List Repository) (deeds : List Deed) → done_on 1 (served_all 1 kept deeds) ≡ done_all kept deeds
unfolding done_on
first_done kept [] = refl
first_done kept (deed ∷ deeds) = ap (λ (ds : List AnsweredMessage). done_at kept deed ∷ ds) (first_done (left_by_entry leaving kept (entry_of_deed deed)) deeds)

other_done : (kept : List Repository) (deeds : List Deed) → done_on 2 (served_all 1 kept deeds) ≡ []
unfolding done_on
other_done kept [] = refl
other_done kept (deed ∷ deeds) = other_done (left_by_entry leaving kept (entry_of_deed deed)) deeds

-- a client that sends the messages of these deeds, as it is accepted
abbrev client_of : List Deed → Wire
client_of deeds = record { written = []; unread = flat_map sent_as (asked_all deeds) }

-- all that it sent is read, that was written to it, and that waits
abbrev link_of : ℕ → List ℕ → List ℕ → Link Wire
link_of number sent waiting = record {
  stream = record { written = sent; unread = [] };
  connection = record { number = number; rest = []; output = waiting; stage = Reading };
  able = true;
}

-- deeds that are served over one connection, in rounds that settled, and others over a second one, whose answers are held back
abbrev clients_of : List Deed → List Deed → List Wire
clients_of deeds lost = client_of deeds ∷ client_of lost ∷ []

-- all but the end of the last answer is written, which waits; or all is written
abbrev all_but : List AnsweredMessage → List ℕ
all_but [] = []
all_but (done ∷ []) = take 8 (done_bytes done)
all_but (done ∷ next ∷ others) = done_bytes done ++ all_but (next ∷ others)

abbrev end_in : List AnsweredMessage → List ℕ
end_in [] = []
end_in (done ∷ []) = drop 8 (done_bytes done)
end_in (done ∷ next ∷ others) = end_in (next ∷ others)

abbrev links_of : Bool → List AnsweredMessage → List ℕ → Slab (Link Wire)
links_of true done held = record { slots = Some (link_of 1 (all_but done) (end_in done)) ∷ Some (link_of 2 [] held) ∷ []; vacant_key = 2; capacity = 2 }
links_of false done held = record { slots = None ∷ Some (link_of 2 [] held) ∷ []; vacant_key = 0; capacity = 2 }

-- and those that were let go
abbrev gone_of : Bool → List AnsweredMessage → List (ℕ × Wire)
gone_of true done = []
gone_of false done = (1, record { written = answers_of done; unread = [] }) ∷ []

abbrev sent_of : Bool → List AnsweredMessage → List ℕ
sent_of true done = all_but done
sent_of false done = answers_of done

abbrev left_of : Bool → List AnsweredMessage → List ℕ
left_of true done = end_in done
left_of false done = []

answers_end : (done : List AnsweredMessage) → answers_of done ≡ all_but done ++ end_in done
unfolding answers_of
answers_end [] = refl
answers_end (done ∷ []) = append-nil (done_bytes done) ∙ sym (take-append-drop 8 (done_bytes done))
answers_end (done ∷ next ∷ others) =
    ap (λ (xs : List ℕ). done_bytes done ++ xs) (answers_end (next ∷ others)) ∙ sym (append_assoc (done_bytes done) (all_but (next ∷ others)) (end_in (next ∷ others)))

both_of : (waits : Bool) (done : List AnsweredMessage) → answers_of done ≡ sent_of waits done ++ left_of waits done
both_of true done = answers_end done
both_of false done = sym (append-nil (answers_of done))

none_ahead : (xs : List ℕ) → xs ≡ (xs ++ []) ++ []
none_ahead xs = sym (append-nil (xs ++ []) ∙ append-nil xs)

first_received : (kept : List Repository) (deeds : List Deed) (waits : Bool) → list_all is_sent (asked_all deeds) ≡ true
    → (let done = done_all kept deeds in IsReceived written_to unread_of (client_of deeds) (link_of 1 (sent_of waits done) (left_of waits done)).stream done)
first_received kept deeds waits may =
    let done : List AnsweredMessage = done_all kept deeds in
    record {
      came = flat_map sent_as (asked_all deeds);
      others = [];
      whole = true;
      end = end.waits [];
      sent = sent_of waits done;
      waiting = left_of waits done;
      read = none_ahead (flat_map sent_as (asked_all deeds));
      performed = (
        subst (λ (ms : List Message). Splits (flat_map sent_as (asked_all deeds)) ms []) (sym (messages_done kept deeds)) (read_all (asked_all deeds) may),
        none_unfinished,
      );
      answers = append-nil (answers_of done) ∙ both_of waits done;
      written = refl;
    }

-- nothing that it sent was served in rounds that settled
other_received : (lost : List Deed) (held : List ℕ) → IsReceived written_to unread_of (client_of lost) (link_of 2 [] held).stream []
unfolding answers_of
other_received lost held = record {
  came = [];
  others = flat_map sent_as (asked_all lost);
  whole = true;
  end = end.waits [];
  sent = [];
  waiting = [];
  read = sym (append-nil (flat_map sent_as (asked_all lost)));
  performed = (refl, none_unfinished);
  answers = refl;
  written = refl;
}

the_link : {link other : Link Wire} → Some link ≡ Some other → link ≡ other
the_link {link} there = ap (λ (o : Option (Link Wire)). unwrap_or o link) there

other_answered : (deeds lost : List Deed) (held : List ℕ) (accepted : List Wire) (served : List Served) → accepted ≡ clients_of deeds lost → done_on 2 served ≡ []
    → IsAnswered written_to unread_of accepted served 2 (link_of 2 [] held).stream
other_answered deeds lost held accepted served are none = record {
  first = client_of lost;
  numbered = record { front = client_of deeds ∷ []; later = []; stands = are; at = refl };
  received = subst (IsReceived written_to unread_of (client_of lost) (link_of 2 [] held).stream) (sym none) (other_received lost held);
}

first_answered : (kept : List Repository) (deeds lost : List Deed) (waits : Bool) (accepted : List Wire) (served : List Served) → accepted ≡ clients_of deeds lost
    → done_on 1 served ≡ done_all kept deeds → list_all is_sent (asked_all deeds) ≡ true
    → IsAnswered written_to unread_of accepted served 1 (link_of 1 (sent_of waits (done_all kept deeds)) (left_of waits (done_all kept deeds))).stream
first_answered kept deeds lost waits accepted served are own may =
    let done : List AnsweredMessage = done_all kept deeds in
    let stream : Wire = (link_of 1 (sent_of waits done) (left_of waits done)).stream in
    record {
      first = client_of deeds;
      numbered = record { front = []; later = client_of lost ∷ []; stands = are; at = refl };
      received = subst (IsReceived written_to unread_of (client_of deeds) stream) (sym own) (first_received kept deeds waits may);
    }

links_answered : (kept : List Repository) (deeds lost : List Deed) (waits : Bool) (held : List ℕ) (accepted : List Wire) (served : List Served) → accepted ≡ clients_of deeds lost
    → done_on 1 served ≡ done_all kept deeds → done_on 2 served ≡ [] → list_all is_sent (asked_all deeds) ≡ true
    → AreLinksAnswered written_to unread_of accepted served (links_of waits (done_all kept deeds) held)
links_answered kept deeds lost true held accepted served are own none may zero link there =
    subst (λ (l : Link Wire). IsAnswered written_to unread_of accepted served l.connection.number l.stream) (the_link there)
    (first_answered kept deeds lost true accepted served are own may)
links_answered kept deeds lost false held accepted served are own none may zero link there = cc
links_answered kept deeds lost true held accepted served are own none may (suc zero) link there =
    subst (λ (l : Link Wire). IsAnswered written_to unread_of accepted served l.connection.number l.stream) (the_link there)
    (other_answered deeds lost held accepted served are none)
links_answered kept deeds lost false held accepted served are own none may (suc zero) link there =
    subst (λ (l : Link Wire). IsAnswered written_to unread_of accepted served l.connection.number l.stream) (the_link there)
    (other_answered deeds lost held accepted served are none)
links_answered kept deeds lost true held accepted served are own none may (suc (suc zero)) link there = cc
links_answered kept deeds lost false held accepted served are own none may (suc (suc zero)) link there = cc
links_answered kept deeds lost true held accepted served are own none may (suc (suc (suc key))) link there = cc
links_answered kept deeds lost false held accepted served are own none may (suc (suc (suc key))) link there = cc

nobody : {A : Type 0} (a : A) → Contains [] a → ⊥
nobody a is = omega (arith, is.1)

-- who was let go
the_gone : (one other : ℕ × Wire) → Contains (one ∷ []) other → one ≡ other
the_gone one other there = by there.0 there.1 there.2
  where
    by : (k : ℕ) → k < 1 → slice_index_or (one ∷ []) k other ≡ other → one ≡ other
    by zero within is = is
    by (suc k) within is = absurd (omega (arith, within))

gone_answered : (kept : List Repository) (deeds lost : List Deed) (waits : Bool) (accepted : List Wire) (served : List Served) → accepted ≡ clients_of deeds lost
    → done_on 1 served ≡ done_all kept deeds → list_all is_sent (asked_all deeds) ≡ true
    → AreGoneAnswered written_to unread_of accepted (gone_of waits (done_all kept deeds)) served
gone_answered kept deeds lost true accepted served are own may = λ number last is. absurd (nobody {A = ℕ × Wire} (number, last) is)
gone_answered kept deeds lost false accepted served are own may = λ number last is.
    let stream : Wire = record { written = answers_of (done_all kept deeds); unread = [] } in
    subst (λ (one : ℕ × Wire). IsAnswered written_to unread_of accepted served one.0 one.1) (the_gone (1, stream) (number, last) is)
    (first_answered kept deeds lost false accepted served are own may)

-- both clients are connected, or the first one left
both_there : (accepted : List Wire) (deeds lost : List Deed) (waits : Bool) (done : List AnsweredMessage) (held : List ℕ) → accepted ≡ clients_of deeds lost
    → AreAllThere accepted (gone_of waits done) (links_of waits done held)
both_there accepted deeds lost waits done held are zero low high = absurd (omega (arith, low))
both_there accepted deeds lost true done held are (suc zero) low high = inl (record { key = 0; link = link_of 1 (all_but done) (end_in done); stands = refl; is = refl })
both_there accepted deeds lost false done held are (suc zero) low high = inr (record { written = answers_of done; unread = [] }, (0, omega arith, refl))
both_there accepted deeds lost true done held are (suc (suc zero)) low high = inl (record { key = 1; link = link_of 2 [] held; stands = refl; is = refl })
both_there accepted deeds lost false done held are (suc (suc zero)) low high = inl (record { key = 1; link = link_of 2 [] held; stands = refl; is = refl })
both_there accepted deeds lost waits done held are (suc (suc (suc number))) low high =
    let two : length accepted ≡ 2 = ap (λ (xs : List Wire). length xs) are in
    absurd (omega (arith, high, two))

-- of all of them
all_answered : (kept : List Repository) (deeds lost : List Deed) (waits : Bool) (held : List ℕ) (accepted : List Wire) (served : List Served) → accepted ≡ clients_of deeds lost
    → done_on 1 served ≡ done_all kept deeds → done_on 2 served ≡ [] → list_all is_sent (asked_all deeds) ≡ true
    → AreAllAnswered written_to unread_of accepted (gone_of waits (done_all kept deeds)) served (links_of waits (done_all kept deeds) held)
all_answered kept deeds lost waits held accepted served are own none may = record {
  linked = links_answered kept deeds lost waits held accepted served are own none may;
  over = gone_answered kept deeds lost waits accepted served are own may;
  all = both_there accepted deeds lost waits (done_all kept deeds) held are;
}

-- where none was accepted none was let go
none_gone : (accepted : List Wire) (gone : List (ℕ × Wire)) (served : List Served) → 0 ≡ length accepted → AreGoneAnswered written_to unread_of accepted gone served → gone ≡ []
none_gone accepted [] served none over = refl
none_gone [] (one ∷ gone) served none over =
    let its = over one.0 one.1 (0, omega arith, refl) in
    absurd (nothing_before its.first its.numbered.front its.numbered.later its.numbered.stands)
  where
    nothing_before : (x : Wire) (front later : List Wire) → [] ≡ front ++ x ∷ later → ⊥
    nothing_before x [] later same = cc
    nothing_before x (y ∷ front) later same = cc
none_gone (x ∷ accepted) (one ∷ gone) served none over = absurd (omega (arith, none))

-- before them none was accepted, and nothing served of them
none_before : (accepted others : List Wire) → 0 ≡ length accepted → accepted ++ others ≡ others
none_before [] others none = refl
none_before (x ∷ accepted) others none = cc

served_later : (number : ℕ) (accepted : List Wire) (earlier served : List Served) (links : Slab (Link Wire)) → 0 ≡ length accepted → 0 < number
    → AreLinksKept written_to unread_of accepted earlier links → done_on number (earlier ++ served) ≡ done_on number served
served_later number accepted earlier served links none above kept =
    done_join number earlier served ∙ ap (λ (ds : List AnsweredMessage). ds ++ done_on number served) (kept.later number (subst (λ (n : ℕ). n < number) none above))

-- ---- a life

abbrev no_links : Slab (Link Wire)
no_links = record { slots = []; vacant_key = 0; capacity = 0 }

-- each message is served in a round of its own, since nothing is read of a client while its answer waits
abbrev rounds_of : List Repository → List Deed → List (List Served)
rounds_of kept [] = []
rounds_of kept (deed ∷ deeds) = (served_at 1 kept deed ∷ []) ∷ rounds_of (left_by_entry leaving kept (entry_of_deed deed)) deeds

in_rounds : (kept : List Repository) (deeds : List Deed) → served_in (rounds_of kept deeds) ≡ served_all 1 kept deeds
in_rounds kept [] = refl
in_rounds kept (deed ∷ deeds) = ap (λ (ss : List Served). served_at 1 kept deed ∷ ss) (in_rounds (left_by_entry leaving kept (entry_of_deed deed)) deeds)

first_in_rounds : (kept : List Repository) (deeds : List Deed) → done_on 1 (served_in (rounds_of kept deeds)) ≡ done_all kept deeds
first_in_rounds kept deeds = ap (done_on 1) (in_rounds kept deeds) ∙ first_done kept deeds

other_in_rounds : (kept : List Repository) (deeds : List Deed) → done_on 2 (served_in (rounds_of kept deeds)) ≡ []
other_in_rounds kept deeds = ap (done_on 2) (in_rounds kept deeds) ∙ other_done kept deeds

settle_deeds : (kept : List Repository) (entries : List Entry) (deeds : List Deed) → AllByRecursion (IsFit (names_in kept)) deeds
    → (let all = entries ++ entries_in deeds in
    AreSettled Open (IsSettled in_memory) (rounds_of kept deeds) (parts_at kept entries (length entries))
    (parts_at (redone_all leaving kept (entries_in deeds)) all (length all)))
settle_deeds kept entries [] fit = ap (λ (es : List Entry). parts_at kept es (length es)) (append-nil entries)
settle_deeds kept entries (deed ∷ deeds) fit =
    let entry : Entry = entry_of_deed deed in
    let now : List Repository = left_by_entry leaving kept entry in
    let stand : List Entry = entries ++ entry ∷ [] in
    let names : names_in now ≡ names_in kept = names_after kept entry (deed_kind (names_in kept) deed fit.0) in
    let performed : Parts HostState Memory = parts_at now stand (length entries) in
    let settled : Parts HostState Memory = parts_at now stand (length stand) in
    let settles : IsSettled in_memory performed (Ok tt) settled = record { handler = refl; ok = λ es durable h. (h.0, ap length h.0); err = tt; tails = λ es durable h tail read stands. stands } in
    let rest = settle_deeds now stand deeds (subst (λ (ns : List (List ℕ)). AllByRecursion (IsFit ns) deeds) (sym names) fit.1) in (
      settled,
      (performed, (performed, inr (deed_apart (names_in kept) kept deed fit.0, inl (admitted (exchanged_at kept deed).asked, deed_exchange kept entries (length entries) deed fit.0)), refl), settles),
      subst (λ (es : List Entry). AreSettled Open (IsSettled in_memory) (rounds_of now deeds) settled
          (parts_at (redone_all leaving now (entries_in deeds)) es (length es))) (append_assoc entries (entry ∷ []) (entries_in deeds)) rest,
    )

-- it finds so many records, and serves deeds in rounds that settle, the end of whose last answer waits; or all was
-- written, and the client left. It serves others whose answers are held back: a crash leaves the records of the first of
-- these, and takes those of the others. It asks for no keys
abbrev life_of : List Repository → List Entry → List Deed → List Deed → List Deed → Bool → ServerLife Wire (Parts HostState Memory)
life_of begun found deeds held lost waits =
    let kept = redone_all leaving begun found in
    let now = redone_all leaving kept (entries_in deeds) in
    let entries = found ++ entries_in deeds in
    let behind = held ++ lost in
    let done = done_all kept deeds in
    record {
      found = found;
      rings = [];
      known = known_of (Some []) (Some []);
      later = known_of (Some (clients_of deeds behind)) (Some (gone_of waits done));
      old = record { handler = parts_at kept found (length found); links = no_links; last = 0 };
      rounds = rounds_of kept deeds;
      behind = served_all 2 now behind;
      result = Err Wait;
      new = record {
        handler = parts_at (redone_all leaving now (entries_in behind)) (entries ++ entries_in behind) (length entries);
        links = links_of waits done (answers_of (done_all now behind));
        last = 2;
      };
      left = entries ++ entries_in held;
    }

front_taken : (front back : List Entry) → front ≡ take (length front) (front ++ back)
front_taken [] [] = refl
front_taken [] (x ∷ back) = refl
front_taken (x ∷ front) back = ap (λ (es : List Entry). x ∷ es) (front_taken front back)

held_taken : (entries held lost : List Entry) → entries ++ held ≡ take (length (entries ++ held)) (entries ++ (held ++ lost))
held_taken entries held lost =
    front_taken (entries ++ held) lost ∙ ap (λ (es : List Entry). take (length (entries ++ held)) es) (append_assoc entries held lost)

is_life : (begun : List Repository) (found : List Entry) (deeds held lost : List Deed) (waits : Bool) → AllByRecursion (IsFit (names_in (redone_all leaving begun found))) deeds
    → AllByRecursion (IsFit (names_in (redone_all leaving (redone_all leaving begun found) (entries_in deeds)))) (held ++ lost) → list_all is_sent (asked_all deeds) ≡ true
    → IsServerLife worked_keeping written_to unread_of begun (life_of begun found deeds held lost waits)
is_life begun found deeds held lost waits fit behind_fit may =
    let kept : List Repository = redone_all leaving begun found in
    let now : List Repository = redone_all leaving kept (entries_in deeds) in
    let entries : List Entry = found ++ entries_in deeds in
    let behind : List Deed = held ++ lost in
    let settled : Parts HostState Memory = parts_at now entries (length entries) in
    let served : List Served = served_in (rounds_of kept deeds) in
    record {
      begins = record { records = (refl, refl); kept = λ so. refl };
      unlinked = refl;
      none = refl;
      serves = record {
        rounds = rounds_of kept deeds;
        many = tt;
        mid = settled;
        settles = settle_deeds kept found deeds fit;
        ends = record {
          served = served_all 2 now behind;
          performed = parts_at (redone_all leaving now (entries_in behind)) (entries ++ entries_in behind) (length entries);
          run = serve_deeds 2 now entries (length entries) behind behind_fit;
          settles = refl;
        };
        streams = clients_of deeds behind;
        parted = gone_of waits (done_all kept deeds);
        passes = record { accepts = refl; lets_go = refl };
        answered = λ accepted gone earlier many all.
            let parted : List (ℕ × Wire) = gone_of waits (done_all kept deeds) in
            subst (λ (ps : List (ℕ × Wire)). AreAllAnswered written_to unread_of (accepted ++ clients_of deeds behind) (ps ++ parted) (earlier ++ served)
            (links_of waits (done_all kept deeds) (answers_of (done_all now behind)))) (sym (none_gone accepted gone earlier many all.over))
            (all_answered kept deeds behind waits (answers_of (done_all now behind)) (accepted ++ clients_of deeds behind) (earlier ++ served)
            (none_before accepted (clients_of deeds behind) many)
            (served_later 1 accepted earlier served no_links many (omega arith) all.kept ∙ first_in_rounds kept deeds)
            (served_later 2 accepted earlier served no_links many (omega arith) all.kept ∙ other_in_rounds kept deeds) may);
      };
      rounds = refl;
      behind = refl;
      sound = all_sound (hosting (λ (h : HostState). h)) in_memory Open (rounds_of kept deeds) (parts_at kept found (length found)) settled (settle_deeds kept found deeds fit);
      sound_end = tt;
      leaves = record {
        count = length (entries ++ entries_in held);
        enough = long_append entries (entries_in held);
        is = held_taken entries (entries_in held) (entries_in lost) ∙ ap (λ (es : List Entry). take (length (entries ++ entries_in held)) (entries ++ es)) (sym (map-append entry_of_deed held lost));
      };
    }

turns_behind : (kept : List Repository) (deeds others : List Deed) → turns_at kept (deeds ++ others) ≡ turns_at kept deeds ++ turns_at (redone_all leaving kept (entries_in deeds)) others
turns_behind kept [] others = refl
turns_behind kept (deed ∷ deeds) others = ap (λ (ts : List Turn). was_performed (exchanged_at kept deed) ∷ ts) (turns_behind (left_by_entry leaving kept (entry_of_deed deed)) deeds others)

-- what is told of deeds is what was served
deeds_told : (number : ℕ) (kept : List Repository) (deeds : List Deed) → AreThose (map its (turns_at kept deeds)) (served_all number kept deeds)
deeds_told number kept [] = refl
deeds_told number kept (done_whole entry ∷ deeds) =
    ap (λ (ts : List Answered). told_by (exchanged_at kept (done_whole entry)) ∷ ts) (deeds_told number (left_by_entry leaving kept entry) deeds)
deeds_told number kept (done_once call entry ∷ deeds) =
    ap (λ (ts : List Answered). told_by (exchanged_at kept (done_once call entry)) ∷ ts) (deeds_told number (left_by_entry leaving kept entry) deeds)

deeds_keyed : (kept : List Repository) (deeds : List Deed) → AllByRecursion (IsKeyed []) (turns_at kept deeds)
deeds_keyed kept [] = tt
deeds_keyed kept (deed ∷ deeds) = (admitted (exchanged_at kept deed).asked, deeds_keyed (left_by_entry leaving kept (entry_of_deed deed)) deeds)

deeds_watched : (names : List (List ℕ)) (kept : List Repository) (deeds : List Deed) → AllByRecursion (IsFit names) deeds → AllByRecursion IsWatched (turns_at kept deeds)
deeds_watched names kept [] fit = tt
deeds_watched names kept (deed ∷ deeds) fit = (deed_apart names kept deed fit.0, deeds_watched names (left_by_entry leaving kept (entry_of_deed deed)) deeds fit.1)

life_told : (names : List (List ℕ)) (begun : List Repository) (found : List Entry) (deeds held lost : List Deed) (waits : Bool) → AllByRecursion (IsFit names) deeds
    → AllByRecursion (IsFit names) held → AllByRecursion (IsFit names) lost → list_all is_sent (asked_all deeds) ≡ true
    → (let kept = redone_all leaving begun found in
    let now = redone_all leaving kept (entries_in deeds) in
    IsReceivedIn written_to unread_of (life_of begun found deeds held lost waits) (record { answered = turns_at kept deeds; held = turns_at now held }))
life_told names begun found deeds held lost waits deeds_fit held_fit lost_fit may =
    let kept : List Repository = redone_all leaving begun found in
    let now : List Repository = redone_all leaving kept (entries_in deeds) in
    let behind : List Deed = held ++ lost in
    record {
      those = subst (AreThose (map its (turns_at kept deeds))) (sym (in_rounds kept deeds)) (deeds_told 1 kept deeds);
      lost = turns_at (redone_all leaving now (entries_in held)) lost;
      held = subst (λ (ts : List Turn). AreThose (map its ts) (served_all 2 now behind)) (turns_behind now held lost) (deeds_told 2 now behind);
      keyed =
          let then : List Repository = redone_all leaving now (entries_in held) in
          each_append (IsKeyed []) (turns_at kept deeds) (turns_at now held ++ turns_at then lost) (deeds_keyed kept deeds)
          (each_append (IsKeyed []) (turns_at now held) (turns_at then lost) (deeds_keyed now held) (deeds_keyed then lost));
      watched =
          let then : List Repository = redone_all leaving now (entries_in held) in
          each_append IsWatched (turns_at kept deeds) (turns_at now held ++ turns_at then lost) (deeds_watched names kept deeds deeds_fit)
          (each_append IsWatched (turns_at now held) (turns_at then lost) (deeds_watched names now held held_fit) (deeds_watched names then lost lost_fit));
      streams = clients_of deeds behind;
      gone = gone_of waits (done_all kept deeds);
      passes = record { accepts = refl; lets_go = refl };
      clients = all_answered kept deeds behind waits (answers_of (done_all now behind)) (clients_of deeds behind) (served_in (rounds_of kept deeds)) refl
          (first_in_rounds kept deeds) (other_in_rounds kept deeds) may;
    }

life_recorded : (begun : List Repository) (found : List Entry) (deeds held lost : List Deed) (waits : Bool) → AllByRecursion (IsFit (names_in (redone_all leaving begun found))) (deeds ++ held)
    → (let kept = redone_all leaving begun found in
    let now = redone_all leaving kept (entries_in deeds) in
    IsRecordedIn stays store_in begun (life_of begun found deeds held lost waits) (record { answered = turns_at kept deeds; held = turns_at now held }))
life_recorded begun found deeds held lost waits fit = λ so.
    let kept : List Repository = redone_all leaving begun found in
    let now : List Repository = redone_all leaving kept (entries_in deeds) in
    record {
      lost = [];
      turned = subst (λ (ts : List Turn). AreTurns stays begun found sound_store ts sound_store) (turns_behind kept deeds held ∙ sym (append-nil (turns_at kept deeds ++ turns_at now held)))
          (deeds_turned begun kept found (deeds ++ held) refl fit);
    }

-- an answer begins with the protocol
protocol_first : (done : AnsweredMessage) → done_bytes done ≡ codes "HTTP/1.1 " ++ drop 9 (done_bytes done)
unfolding answer_bytes answer_head status_line plain
protocol_first done = refl

not_none : (others : List ℕ) → codes "HTTP/1.1" ++ others ≡ [] → ⊥
not_none others none = cc

all_but_some : (done : List AnsweredMessage) → 0 < length done → all_but done ≢ []
all_but_some [] many = absurd (omega arith)
all_but_some (done ∷ []) many = λ none. not_none [] (sym (ap (take 8) (protocol_first done)) ∙ none)
all_but_some (done ∷ next ∷ others) many =
    λ none. not_none (codes " " ++ drop 9 (done_bytes done) ++ all_but (next ∷ others)) (sym (ap (λ (xs : List ℕ). xs ++ all_but (next ∷ others)) (protocol_first done)) ∙ none)

answers_some : (done : List AnsweredMessage) → 0 < length done → answers_of done ≢ []
unfolding answers_of
answers_some [] many = absurd (omega arith)
answers_some (done ∷ others) many =
    λ none. not_none (codes " " ++ drop 9 (done_bytes done) ++ answers_of others) (sym (ap (λ (xs : List ℕ). xs ++ answers_of others) (protocol_first done)) ∙ none)

end_some : (done : List AnsweredMessage) → 0 < length done → nat_lt 0 (length (end_in done)) ≡ true
end_some [] many = absurd (omega arith)
end_some (done ∷ []) many =
    ap (λ (xs : List ℕ). nat_lt 0 (length (drop 8 xs))) (protocol_first done) ∙ lt-ltb 0 (suc (length (drop 9 (done_bytes done)))) (omega arith)
end_some (done ∷ next ∷ others) many = end_some (next ∷ others) (omega arith)

some_done : (kept : List Repository) (deeds : List Deed) → 0 < length deeds → 0 < length (done_all kept deeds)
some_done kept [] many = many
some_done kept (deed ∷ deeds) many = omega arith

life_connected : (begun : List Repository) (found : List Entry) (deeds held lost : List Deed) → 0 < length deeds → IsConnected (life_of begun found deeds held lost true)
life_connected begun found deeds held lost many =
    let kept : List Repository = redone_all leaving begun found in
    let done : List AnsweredMessage = done_all kept deeds in
    let own : done_on 1 (served_in (rounds_of kept deeds)) ≡ done = first_in_rounds kept deeds in
    record {
      key = 0;
      link = link_of 1 (all_but done) (end_in done);
      stands = refl;
      streams = clients_of deeds (held ++ lost);
      known = refl;
      later = refl;
      client = client_of deeds;
      numbered = record { front = []; later = client_of (held ++ lost) ∷ []; stands = refl; at = refl };
      came = sym (sent_done kept deeds) ∙ sym (ap (flat_map sent_for) own);
      told = ap answers_of own ∙ both_of true done;
      some = all_but_some done (some_done kept deeds many);
      rest = end_some done (some_done kept deeds many);
    }

life_left : (begun : List Repository) (found : List Entry) (deeds held lost : List Deed) → 0 < length deeds → HasLeft (life_of begun found deeds held lost false)
life_left begun found deeds held lost many =
    let kept : List Repository = redone_all leaving begun found in
    let done : List AnsweredMessage = done_all kept deeds in
    let own : done_on 1 (served_in (rounds_of kept deeds)) ≡ done = first_in_rounds kept deeds in
    record {
      streams = clients_of deeds (held ++ lost);
      gone = gone_of false done;
      known = refl;
      later = refl;
      number = 1;
      client = client_of deeds;
      numbered = record { front = []; later = client_of (held ++ lost) ∷ []; stands = refl; at = refl };
      came = sym (sent_done kept deeds) ∙ sym (ap (flat_map sent_for) own);
      last = record { written = answers_of done; unread = [] };
      left = (0, omega arith, refl);
      told = sym (ap answers_of own);
      some = answers_some done (some_done kept deeds many);
    }

-- ---- the three

abbrev lost_deeds : List Deed
lost_deeds = deposited 60 (codes "a") (deposit_line (codes "oai:a:9")) ∷ []

names_redone : (kept : List Repository) (deeds : List Deed) → AllByRecursion (IsFit (names_in kept)) deeds → names_in (redone_all leaving kept (entries_in deeds)) ≡ names_in kept
names_redone kept [] fit = refl
names_redone kept (deed ∷ deeds) fit =
    let now : List Repository = left_by_entry leaving kept (entry_of_deed deed) in
    let names : names_in now ≡ names_in kept = names_after kept (entry_of_deed deed) (deed_kind (names_in kept) deed fit.0) in
    names_redone now deeds (subst (λ (ns : List (List ℕ)). AllByRecursion (IsFit ns) deeds) (sym names) fit.1) ∙ names

-- the records of turns, and those of one list of deeds behind another
records_of_turns : (kept : List Repository) (deeds : List Deed) → turn_records (turns_at kept deeds) ≡ entries_in deeds
records_of_turns kept [] = refl
records_of_turns kept (deed ∷ deeds) =
    ap (λ (es : List Entry). es ++ turn_records (turns_at (left_by_entry leaving kept (entry_of_deed deed)) deeds)) (own_entry kept deed)
    ∙ ap (λ (es : List Entry). entry_of_deed deed ∷ es) (records_of_turns (left_by_entry leaving kept (entry_of_deed deed)) deeds)

two_lives : (begun : List Repository) (found : List Entry) (front held back lost : List Deed) → redone_all leaving begun found ≡ begun → AllByRecursion (IsFit (names_in begun)) front
    → AllByRecursion (IsFit (names_in begun)) held → AllByRecursion (IsFit (names_in begun)) back → AllByRecursion (IsFit (names_in begun)) lost
    → list_all is_sent (asked_all front) ≡ true → list_all is_sent (asked_all back) ≡ true
    → (let left = (found ++ entries_in front) ++ entries_in held in
    let now = redone_all leaving begun (entries_in front) in
    let one = life_of begun found front held lost true in
    let two = life_of begun left back [] [] false in
    let told : List LoggedTurns =
    record { answered = turns_at begun front; held = turns_at now held } ∷ record { answered = turns_at (redone_all leaving now (entries_in held)) back; held = [] } ∷ [] in
    AreServerLives worked_keeping written_to unread_of begun found (one ∷ two ∷ []) ((left ++ entries_in back) ++ [])
    × AllZip (IsReceivedIn written_to unread_of) (one ∷ two ∷ []) told
    × AllZip (IsRecordedIn stays store_in begun) (one ∷ two ∷ []) told
    × AreResumed (worked_keeping.stands begun) found (one ∷ two ∷ []) told ((left ++ entries_in back) ++ [])
    × (all_turns told ≡ turns_at begun (front ++ (held ++ back))))
two_lives begun found front held back lost starts front_fit held_fit back_fit lost_fit front_sent back_sent =
    let now : List Repository = redone_all leaving begun (entries_in front) in
    let then : List Repository = redone_all leaving now (entries_in held) in
    let names : names_in now ≡ names_in begun = names_redone begun front front_fit in
    let fits : (rs : List Repository) → names_in rs ≡ names_in begun → (deeds : List Deed) → AllByRecursion (IsFit (names_in begun)) deeds → AllByRecursion (IsFit (names_in rs)) deeds =
    λ rs same deeds fit. subst (λ (ns : List (List ℕ)). AllByRecursion (IsFit ns) deeds) (sym same) fit in
    let names_then : names_in then ≡ names_in begun = names_redone now held (fits now names held held_fit) ∙ names in
    let there : names_in (redone_all leaving begun found) ≡ names_in begun = ap names_in starts in
    let performed : redone_all leaving (redone_all leaving begun found) (entries_in front) ≡ now = ap (λ (rs : List Repository). redone_all leaving rs (entries_in front)) starts in
    let between : redone_all leaving begun (found ++ entries_in front) ≡ now = redone_append begun found (entries_in front) ∙ performed in
    let left : List Entry = (found ++ entries_in front) ++ entries_in held in
    let later : redone_all leaving begun left ≡ then =
    redone_append begun (found ++ entries_in front) (entries_in held) ∙ ap (λ (rs : List Repository). redone_all leaving rs (entries_in held)) between in
    let behind_fit : AllByRecursion (IsFit (names_in begun)) (held ++ lost) = all_fit (names_in begun) held lost held_fit lost_fit in
    let first_told : turn_records (turns_at begun front ++ turns_at now held) ≡ entries_in front ++ entries_in held =
    records_append (turns_at begun front) (turns_at now held)
    ∙ ap (λ (es : List Entry). es ++ turn_records (turns_at now held)) (records_of_turns begun front)
    ∙ ap (λ (es : List Entry). entries_in front ++ es) (records_of_turns now held) in
    let second_told : turn_records (turns_at then back ++ []) ≡ entries_in back = ap turn_records (append-nil (turns_at then back)) ∙ records_of_turns then back in
    let kept_first : left ≡ found ++ turn_records (turns_at begun front ++ turns_at now held) =
    append_assoc found (entries_in front) (entries_in held) ∙ ap (λ (es : List Entry). found ++ es) (sym first_told) in
    let at_begin : (P : List Turn → List Turn → Type 0) → P (turns_at (redone_all leaving begun found) front) (turns_at (redone_all leaving (redone_all leaving begun found) (entries_in front)) held)
    → P (turns_at begun front) (turns_at now held) =
    λ P h. subst (λ (rs : List Repository). P (turns_at rs front) (turns_at (redone_all leaving rs (entries_in front)) held)) starts h in (
      (
        refl,
        is_life begun found front held lost true (fits (redone_all leaving begun found) there front front_fit)
            (fits (redone_all leaving (redone_all leaving begun found) (entries_in front)) (ap names_in performed ∙ names) (held ++ lost) behind_fit) front_sent,
        (refl, is_life begun left back [] [] false (fits (redone_all leaving begun left) (ap names_in later ∙ names_then) back back_fit) tt back_sent, refl),
      ),
      (
        at_begin (λ (xs ys : List Turn). IsReceivedIn written_to unread_of (life_of begun found front held lost true) (record { answered = xs; held = ys }))
            (life_told (names_in begun) begun found front held lost true front_fit held_fit lost_fit front_sent),
        (
          subst (λ (rs : List Repository). IsReceivedIn written_to unread_of (life_of begun left back [] [] false) (record { answered = turns_at rs back; held = [] })) later
              (life_told (names_in begun) begun left back [] [] false back_fit tt tt back_sent),
          tt,
        ),
      ),
      (
        at_begin (λ (xs ys : List Turn). IsRecordedIn stays store_in begun (life_of begun found front held lost true) (record { answered = xs; held = ys }))
            (life_recorded begun found front held lost true (fits (redone_all leaving begun found) there (front ++ held) (all_fit (names_in begun) front held front_fit held_fit))),
        (
          subst (λ (rs : List Repository). IsRecordedIn stays store_in begun (life_of begun left back [] [] false) (record { answered = turns_at rs back; held = [] })) later
              (life_recorded begun left back [] [] false
              (subst (AllByRecursion (IsFit (names_in (redone_all leaving begun left)))) (sym (append-nil back)) (fits (redone_all leaving begun left) (ap names_in later ∙ names_then) back back_fit))),
          tt,
        ),
      ),
      (
        refl,
        (
          kept_first,
          append-nil (left ++ entries_in back) ∙ ap (λ (es : List Entry). left ++ es) (sym second_told) ∙ ap (λ (es : List Entry). es ++ turn_records (turns_at then back ++ [])) kept_first,
        ),
      ),
      ap (λ (ts : List Turn). (turns_at begun front ++ turns_at now held) ++ ts) (append-nil (turns_at then back ++ []) ∙ append-nil (turns_at then back))
          ∙ append_assoc (turns_at begun front) (turns_at now held) (turns_at then back)
          ∙ ap (λ (ts : List Turn). turns_at begun front ++ ts) (sym (turns_behind now held back))
          ∙ sym (turns_behind begun front (held ++ back)),
    )

-- a life of one more era, over which nothing is held back, and whose client leaves
one_life : (begun start : List Repository) (found : List Entry) (deeds : List Deed) → redone_all leaving begun found ≡ start → AllByRecursion (IsFit (names_in start)) deeds
    → list_all is_sent (asked_all deeds) ≡ true
    → (let left = (found ++ entries_in deeds) ++ [] in
    let life = life_of begun found deeds [] [] false in
    let told : List LoggedTurns = record { answered = turns_at start deeds; held = [] } ∷ [] in
    AreServerLives worked_keeping written_to unread_of begun found (life ∷ []) left
    × AllZip (IsReceivedIn written_to unread_of) (life ∷ []) told
    × AllZip (IsRecordedIn stays store_in begun) (life ∷ []) told
    × AreResumed (worked_keeping.stands begun) found (life ∷ []) told left
    × (all_turns told ≡ turns_at start deeds))
one_life begun start found deeds starts fit sent =
    let kept : List Repository = redone_all leaving begun found in
    let there : AllByRecursion (IsFit (names_in kept)) deeds = subst (λ (rs : List Repository). AllByRecursion (IsFit (names_in rs)) deeds) (sym starts) fit in
    let none : turns_at start deeds ++ [] ≡ turns_at start deeds = append-nil (turns_at start deeds) in (
      (refl, is_life begun found deeds [] [] false there tt sent, refl),
      (
        subst (λ (rs : List Repository). IsReceivedIn written_to unread_of (life_of begun found deeds [] [] false) (record { answered = turns_at rs deeds; held = [] })) starts
            (life_told (names_in kept) begun found deeds [] [] false there tt tt sent),
        tt,
      ),
      (
        subst (λ (rs : List Repository). IsRecordedIn stays store_in begun (life_of begun found deeds [] [] false) (record { answered = turns_at rs deeds; held = [] })) starts
            (life_recorded begun found deeds [] [] false (subst (AllByRecursion (IsFit (names_in kept))) (sym (append-nil deeds)) there)),
        tt,
      ),
      (refl, append-nil (found ++ entries_in deeds) ∙ ap (λ (es : List Entry). found ++ es) (sym (ap turn_records none ∙ records_of_turns start deeds))),
      append-nil (turns_at start deeds ++ []) ∙ none,
    )

-- what is asked of them can be sent
first_sent : list_all is_sent (asked_all first_deeds) ≡ true
unfolding fmt.digits framing_in framing_of is_alike is_token_byte length_written any_close lists_close print_request trim_ows values_named
first_sent = refl

second_sent : list_all is_sent (asked_all second_deeds) ≡ true
unfolding fmt.digits framing_in framing_of is_alike is_token_byte length_written any_close lists_close print_request trim_ows values_named
second_sent = refl

third_sent : list_all is_sent (asked_all third_deeds) ≡ true
unfolding fmt.digits framing_in framing_of is_alike is_token_byte length_written any_close lists_close print_request trim_ows values_named
third_sent = refl

some_held : (kept : List Repository) (deed : Deed) (deeds : List Deed) (others more : List Turn) → (turns_at kept (deed ∷ deeds) ++ others) ++ more ≡ [] → ⊥
some_held kept deed deeds others more none = cc

pub worked_lived : AreWorkedLives
worked_lived =
    let all = two_lives worked_begun [] first_deeds held_deeds second_deeds lost_deeds refl first_fit held_fit second_fit ((refl, refl, refl), tt) first_sent second_sent in
    let behind = one_life worked_begun worked_kept worked_checkpoint third_deeds checkpoint_leaves third_fit third_sent in
    let begun_numbers : AreNumbered worked_begun = (omega arith, (omega arith, tt)) in
    let kept_numbers : AreNumbered worked_kept = (omega arith, (omega arith, tt)) in
    let left : List Entry = entries_in first_deeds ++ entries_in held_deeds in
    let whole : List Entry = (left ++ entries_in second_deeds) ++ [] in
    let now : List Repository = redone_all leaving worked_begun (entries_in first_deeds) in
    let together : whole ≡ entries_in (first_deeds ++ held_deeds ++ second_deeds) = refl in
    let leaves : redone_all leaving worked_begun whole ≡ worked_left =
    ap (redone_all leaving worked_begun) (together ∙ sym (records_of_turns worked_begun (first_deeds ++ held_deeds ++ second_deeds))) ∙ lives_leave in
    record {
      first = record {
        raise = 0;
        found = [];
        lives = life_of worked_begun [] first_deeds held_deeds lost_deeds true ∷ life_of worked_begun left second_deeds [] [] false ∷ [];
        left = whole;
      };
      before = life_of worked_begun [] first_deeds held_deeds lost_deeds true;
      last = life_of worked_begun left second_deeds [] [] false;
      two = refl;
      second = record {
        raise = 1_000_000;
        found = worked_checkpoint;
        lives = life_of worked_begun worked_checkpoint third_deeds [] [] false ∷ [];
        left = (worked_checkpoint ++ entries_in third_deeds) ++ [];
      };
      one = refl;
      are = (
        (refl, refl),
        all.0,
        (subst (λ (kept : List Repository). IsCheckpoint saving kept 1_000_000 worked_checkpoint) (sym leaves) (record { is = refl; leaves = checkpoint_leaves }), behind.0, tt),
      );
      honest = ((refl, (refl, tt)), ((refl, tt), tt));
      numbers = (begun_numbers, (subst AreNumbered (sym checkpoint_leaves) kept_numbers, tt));
      raised = refl;
      ended = leaves;
      told = (record { answered = turns_at worked_begun first_deeds; held = turns_at now held_deeds }
          ∷ record { answered = turns_at (redone_all leaving now (entries_in held_deeds)) second_deeds; held = [] } ∷ [])
          ∷ (record { answered = turns_at worked_kept third_deeds; held = [] } ∷ []) ∷ [];
      received = (all.1, (behind.1, tt));
      recorded = (all.2, (behind.2, tt));
      kept = (all.3, (behind.3, tt));
      turns = ap₂ (λ (xs ys : List Turn). xs ∷ ys ∷ []) all.4 behind.4;
      survive = λ none.
          some_held now (deposited 5 (codes "b") (delete_line (codes "oai:b:2"))) (requested 60 (codes "a") (codes "verb=ListRecords&metadataPrefix=oai_dc") ∷ []) [] [] none;
      connected = life_connected worked_begun [] first_deeds held_deeds lost_deeds (omega arith);
      left = life_left worked_begun left second_deeds [] [] (omega arith);
    }
