-- What the records of a checkpoint leave, and the history of lives between which checkpoints stand.
use Rattle.std.proofs.Common.{◌≡◌, ◌∙◌, ℕ, ◌++◌, List, [], ◌∷◌, Option, None, Some, Result, Ok, Err, IfOk, length, map, refl, sym, ap}
use Rattle.std.specs.List.{flat_map}
use Rattle.std.proofs.lemmas.List.{append-nil, append_assoc, map-append}
use Rattle.std.proofs.lemmas.Grind.{flat_map-append}
use Rattle.oai_http.specs.Exchanges.{call_at}
use Rattle.oai_replay.specs.Parts.{PartState, restored_all}
use Rattle.oai_http.specs.declared.exchanges.Call.{Call}
use Rattle.oai_replay.specs.declared.parts.PartKind.{PartKind}
use Rattle.oai_replay.specs.declared.parts.PartKind.TheVariants.{Begin, Gone, Item, List as OpenList, Set}
use Rattle.oai_journal.specs.Records.{Entry}
use Rattle.oai_journal.specs.declared.journals.Journal as journal
use Rattle.oai_durable.specs.Checkpoints.{AreIn, AreStages, HasPlaceBehind, HasSaved, HistoryEvent, HoldsCheckpoint, IsCheckpoint, IsHistory, JournalStage, Saving, after_all, after_event, answered_at, done, lists_ended, lived, raises_at, raises_by, records_of_parts, saved}
use Rattle.oai_durable.specs.Lives.{Exchanged, HasPlace, HavePlaces, records_of_exchanges}
use Rattle.oai_durable.specs.Records.{Leaving, entry_of_part, kind_of_part, left_as, left_by_entry, part_kind, redone_all}
use Rattle.oai_durable.proofs.LifeLemmas.{life_left}
use Rattle.oai_durable.proofs.RecordLemmas.{redone_append}

-- ---- records of parts

-- the kind of a record tells the kind of its part
pub kind_part : (kind : PartKind) → part_kind (kind_of_part kind) ≡ Some kind
kind_part Begin = refl
kind_part Set = refl
kind_part Item = refl
kind_part OpenList = refl
kind_part Gone = refl

-- the record of a part leaves what the part leaves
pub left_by_part : {K : Type 0} (leaving : Leaving K) (kept : K) (part : PartState) → left_by_entry leaving kept (entry_of_part part) ≡ leaving.restored kept part
left_by_part leaving kept part = ap (left_as leaving kept (entry_of_part part)) (kind_part part.kind)

pub redone_parts : {K : Type 0} (leaving : Leaving K) (kept : K) (parts : List PartState) → redone_all leaving kept (records_of_parts parts) ≡ restored_all leaving.restored kept parts
redone_parts leaving kept [] = refl
redone_parts leaving kept (part ∷ parts) =
    ap (λ k. redone_all leaving k (records_of_parts parts)) (left_by_part leaving kept part) ∙ redone_parts leaving (leaving.restored kept part) parts

-- what leaves the repositories where calls and parts do, leaves them over records
pub same_left : {K : Type 0} (leaving : Leaving K) (emptied : K → K)
    → ((kept : K) (call : Call) → emptied (leaving.redone kept call) ≡ emptied kept)
    → ((kept : K) (part : PartState) → emptied (leaving.restored kept part) ≡ emptied kept)
    → (kept : K) (entries : List Entry) → emptied (redone_all leaving kept entries) ≡ emptied kept
same_left leaving emptied calls parts kept [] = refl
same_left leaving emptied calls parts kept (entry ∷ entries) =
    same_left leaving emptied calls parts (left_by_entry leaving kept entry) entries ∙ one (part_kind entry.kind)
  where
    one : (kind : Option PartKind) → emptied (left_as leaving kept entry kind) ≡ emptied kept
    one (Some kind) = parts kept _
    one None = calls kept _

-- ---- what a journal holds

pub saved_more : {J : Type 0} (j : journal.Ghosts J) (before after' : J) (parts : List PartState) (part : PartState)
    → ((entries : List Entry) (durable : ℕ) → j.holds before entries durable → j.holds after' (entries ++ entry_of_part part ∷ []) durable)
    → HasSaved j before parts → HasSaved j after' (parts ++ part ∷ [])
saved_more j before after' parts part adds is = (is.0, rw (map-append entry_of_part parts (part ∷ [])) (adds (records_of_parts parts) is.0 is.1))

-- all that was saved is committed
pub saved_written : {J K F Honest : Type 0} (s : Saving K) (j : journal.Ghosts J) (kept : K) (raise : ℕ) (before sink : J) (result : Result J F)
    → (Honest → restored_all s.leaving.restored (s.emptied kept) (s.parts (s.ended raise kept)) ≡ s.ended raise kept)
    → (Honest → HasSaved j before [] → HasSaved j sink (s.parts (s.ended raise kept)))
    → IfOk result (λ written. (entries : List Entry) (durable : ℕ) → j.holds sink entries durable → j.holds written entries (length entries))
    → IfOk result (λ written. Honest → (durable : ℕ) → j.holds before [] durable → HoldsCheckpoint s j kept raise written)
saved_written s j kept raise before sink (Ok written) whole saves commits = λ honest durable holds.
    let parts : List PartState = s.parts (s.ended raise kept) in
    let is = saves honest (durable, holds) in
    record {
      records = records_of_parts parts;
      is = record { is = refl; leaves = redone_parts s.leaving (s.emptied kept) parts ∙ whole honest };
      holds = commits (records_of_parts parts) is.0 is.1;
    }
saved_written s j kept raise before sink (Err fault) whole saves commits = tt

-- ---- histories

pub after_append : {K : Type 0} (s : Saving K) (kept : K) (events others : List HistoryEvent) → after_all s kept (events ++ others) ≡ after_all s (after_all s kept events) others
after_append s kept [] others = refl
after_append s kept (event ∷ events) others = after_append s (after_event s kept event) events others

-- records that were done leave what they leave
pub after_done : {K : Type 0} (s : Saving K) (kept : K) (entries : List Entry) → after_all s kept (map done entries) ≡ redone_all s.leaving kept entries
after_done s kept [] = refl
after_done s kept (entry ∷ entries) = after_done s (left_by_entry s.leaving kept entry) entries

-- a history that leaves what records leave, and more records behind both
pub after_more : {K : Type 0} (s : Saving K) (begun : K) (before : List HistoryEvent) (found entries : List Entry)
    → after_all s begun before ≡ redone_all s.leaving begun found
    → after_all s begun (before ++ map done entries) ≡ redone_all s.leaving begun (found ++ entries)
after_more {K} s begun before found entries same =
    after_append s begun before (map done entries) ∙ after_done s (after_all s begun before) entries
    ∙ ap (λ (k : K). redone_all s.leaving k entries) same ∙ sym (redone_append s.leaving begun found entries)

-- no list ends by records that were done
pub none_raised : (entries : List Entry) → flat_map raises_by (map done entries) ≡ []
none_raised [] = refl
none_raised (entry ∷ entries) = none_raised entries

-- ---- places in a history

-- what stands between may be what was held back, or an end of all lists
pub in_behind : {K : Type 0} (s : Saving K) (begun : K) (before others : List HistoryEvent) (es : List Exchanged) (history : List HistoryEvent)
    → AreIn s begun (before ++ others) es history → AreIn s begun before es history
in_behind s begun before others [] history is = (others ++ is.0, is.1 ∙ append_assoc before others is.0)
in_behind s begun before others (e ∷ es) history is =
    let same : (before ++ others) ++ is.0 ≡ before ++ (others ++ is.0) = append_assoc before others is.0 in
    (others ++ is.0, rw (← same) is.1, rw (← same) is.2)

-- a place behind records is one behind the events that leave the same
pub placed : {K : Type 0} (s : Saving K) (begun : K) (before : List HistoryEvent) (found : List Entry) (e : Exchanged)
    → after_all s begun before ≡ redone_all s.leaving begun found
    → HasPlace s.leaving s.reply begun found e → HasPlaceBehind s begun before e
placed {K} s begun before found e same place = record {
  told = λ none. place.told none ∙ ap (λ (k : K). s.reply k (call_at e.moment e.asked)) (sym same);
  left = λ none. after_more s begun before found e.own same ∙ place.left none ∙ ap (λ (k : K). s.leaving.redone k (call_at e.moment e.asked)) (sym same);
}

-- the exchanges of a life that were answered, where its history goes on
pub in_life : {K : Type 0} (s : Saving K) (begun : K) (before : List HistoryEvent) (found : List Entry) (answered held others : List Exchanged) (history : List HistoryEvent)
    → after_all s begun before ≡ redone_all s.leaving begun found
    → HavePlaces s.leaving s.reply begun found (answered ++ held)
    → AreIn s begun (before ++ map done (records_of_exchanges answered)) others history
    → AreIn s begun before (answered ++ others) history
in_life s begun before found [] held others history same places is = rw (append-nil before) at is
in_life s begun before found (e ∷ es) held others history same places is =
    let own : List HistoryEvent = map done e.own in
    let joined : before ++ map done (records_of_exchanges (e ∷ es)) ≡ (before ++ own) ++ map done (records_of_exchanges es) =
    ap (λ (vs : List HistoryEvent). before ++ vs) (map-append done e.own (records_of_exchanges es)) ∙ sym (append_assoc before own (map done (records_of_exchanges es))) in
    let behind : AreIn s begun ((before ++ own) ++ map done (records_of_exchanges es)) others history = rw joined at is in (
      [],
      rw (append-nil before) (placed s begun before found e same places.0),
      rw (append-nil before) (in_life s begun (before ++ own) (found ++ e.own) es held others history (after_more s begun before found e.own same) places.1 behind),
    )

-- ---- stages

-- how a history goes on behind these events
pub record GoesOn {K : Type 0} (s : Saving K) (begun : K) (before : List HistoryEvent) (stages : List JournalStage) (left : List Entry) : Type 0 where
  pub history : List HistoryEvent
  pub leaves : after_all s begun history ≡ redone_all s.leaving begun left
  pub places : AreIn s begun before (flat_map answered_at stages) history
  pub ends : flat_map raises_by history ≡ flat_map raises_by before ++ flat_map raises_at stages

-- neither a call nor a part changes the repositories
pub record AreSame {K : Type 0} (s : Saving K) : Type 0 where
  pub redone : (kept : K) (call : Call) → s.emptied (s.leaving.redone kept call) ≡ s.emptied kept
  pub restored : (kept : K) (part : PartState) → s.emptied (s.leaving.restored kept part) ≡ s.emptied kept

-- a checkpoint leaves what was there, once all lists ended
pub checkpoint_left : {K : Type 0} (s : Saving K) (begun : K) (found : List Entry) (raise : ℕ) (left : List Entry)
    → AreSame s → s.emptied begun ≡ begun → IsCheckpoint s (redone_all s.leaving begun found) raise left
    → redone_all s.leaving begun left ≡ s.ended raise (redone_all s.leaving begun found)
checkpoint_left s begun found raise left same begins is =
    let first : s.emptied (redone_all s.leaving begun found) ≡ begun = same_left s.leaving s.emptied same.redone same.restored begun found ∙ begins in
    ap (λ k. redone_all s.leaving k left) (sym first) ∙ is.leaves

pub raised_more : (before others : List HistoryEvent) → flat_map raises_by (before ++ others) ≡ flat_map raises_by before ++ flat_map raises_by others
raised_more before others = flat_map-append raises_by before others

pub raised_done : (before : List HistoryEvent) (entries : List Entry) → flat_map raises_by (before ++ map done entries) ≡ flat_map raises_by before
raised_done before entries =
    raised_more before (map done entries) ∙ ap (λ (ns : List ℕ). flat_map raises_by before ++ ns) (none_raised entries) ∙ append-nil (flat_map raises_by before)

pub stages_go_on : {K : Type 0} (s : Saving K) (begun : K) (before : List HistoryEvent) (found : List Entry) (stages : List JournalStage) (left : List Entry)
    → AreSame s → s.emptied begun ≡ begun → after_all s begun before ≡ redone_all s.leaving begun found
    → AreStages s begun found stages left → GoesOn s begun before stages left
stages_go_on s begun before found [] left all_same begins same are = record {
  history = before;
  leaves = same ∙ ap (λ (es : List Entry). redone_all s.leaving begun es) (sym are);
  places = ([], sym (append-nil before));
  ends = sym (append-nil (flat_map raises_by before));
}
stages_go_on s begun before found (lived life ∷ stages) left all_same begins same are =
    let between : List Entry = are.0 in
    let own : List Entry = records_of_exchanges life.answered in
    let cut = life_left found between life are.1.leaves in
    let answered : List HistoryEvent = before ++ map done own in
    let now : List HistoryEvent = answered ++ map done cut.0 in
    let more = after_more s begun before found own same in
    let there : after_all s begun now ≡ redone_all s.leaving begun between =
    after_more s begun answered (found ++ own) cut.0 more ∙ ap (λ (es : List Entry). redone_all s.leaving begun es) (sym cut.1) in
    let behind = stages_go_on s begun now between stages left all_same begins there are.2 in
    let raised : flat_map raises_by now ≡ flat_map raises_by before = raised_done answered cut.0 ∙ raised_done before own in
    record {
      history = behind.history;
      leaves = behind.leaves;
      places = in_life s begun before found life.answered life.held (flat_map answered_at stages) behind.history same are.1.places
          (in_behind s begun answered (map done cut.0) (flat_map answered_at stages) behind.history behind.places);
      ends = behind.ends ∙ ap (λ (ns : List ℕ). ns ++ flat_map raises_at stages) raised;
    }
stages_go_on s begun before found (saved raise ∷ stages) left all_same begins same are =
    let between : List Entry = are.0 in
    let ending : List HistoryEvent = lists_ended raise ∷ [] in
    let there : after_all s begun (before ++ ending) ≡ redone_all s.leaving begun between =
    after_append s begun before ending ∙ ap (s.ended raise) same ∙ sym (checkpoint_left s begun found raise between all_same begins are.1) in
    let behind = stages_go_on s begun (before ++ ending) between stages left all_same begins there are.2 in
    let raised : flat_map raises_by (before ++ ending) ≡ flat_map raises_by before ++ (raise ∷ []) = raised_more before ending in
    record {
      history = behind.history;
      leaves = behind.leaves;
      places = in_behind s begun before ending (flat_map answered_at stages) behind.history behind.places;
      ends = behind.ends ∙ ap (λ (ns : List ℕ). ns ++ flat_map raises_at stages) raised ∙ append_assoc (flat_map raises_by before) (raise ∷ []) (flat_map raises_at stages);
    }

pub stages_history : {K : Type 0} (s : Saving K) (begun : K) (stages : List JournalStage) (left : List Entry)
    → AreSame s → s.emptied begun ≡ begun → AreStages s begun [] stages left → IsHistory s begun stages left
stages_history s begun stages left all_same begins are =
    let goes = stages_go_on s begun [] [] stages left all_same begins refl are in
    record { history = goes.history; leaves = goes.leaves; places = goes.places; ends = goes.ends }
