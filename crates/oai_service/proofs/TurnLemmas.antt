-- Messages that a server of a host served are turns behind the records that stood there.
use Rattle.std.proofs.Common.{◌≡◌, ◌∙◌, inl, inr, ◌≤◌, ℕ, ◌++◌, false, IsTrue, List, [], ◌∷◌, length, map, Ok, refl, sym, ap, subst, arith}
use Rattle.std.specs.List.{AllByRecursion}
use Rattle.std.proofs.lemmas.List.{append-nil, append_assoc, map-append}
use Rattle.std.proofs.lemmas.Grind.{flat_map-append}
use Rattle.oai_front.specs.Performing.{Steps}
use Rattle.oai_front.specs.Runs.{Served, Serves}
use Rattle.oai_http.specs.Exchanges.{call_at}
use Rattle.oai_http.specs.declared.exchanges.Answer.{Answer}
use Rattle.oai_http.specs.declared.exchanges.Call.{Call}
use Rattle.oai_host.specs.Hosts.{HostState, IsExchanged, IsLater, Repository, store_of}
use Rattle.oai_host.specs.Performed.{StoreState}
use Rattle.oai_journal.specs.Records.{Entry}
use Rattle.oai_serving.specs.Rounds.{AreSettled, served_in}
use Rattle.oai_keys.specs.Guards.{Guards, barred}
use Rattle.oai_keys.specs.Keys.{is_admitted}
use Rattle.oai_keys.specs.declared.rings.Ring.{Ring}
use Rattle.oai_daemon.specs.Watches.{IsStatusAnswer, Watches, is_status}
use Rattle.oai_durable.specs.Lives.{Exchanged}
use Rattle.oai_durable.specs.Records.{redone_all}
use Rattle.oai_durable.specs.Served.{AreThose, told_by, told_to}
use Rattle.oai_service.specs.Hosting.{leaving}
use Rattle.oai_service.specs.Keeping.{AreSound, Keeping}
use Rattle.oai_service.specs.Turns.{AreTurns, IsKeyed, IsTurn, IsWatched, Turn, host_in, its, turn_records, was_performed, was_refused, was_status}
use Rattle.oai_service.proofs.KeepingLemmas.{Keeps}

-- it has at most one record
abbrev pub HasFew : Turn → Type 0
HasFew turn = length (its turn).own ≤ 1

pub records_append : (turns others : List Turn) → turn_records (turns ++ others) ≡ turn_records turns ++ turn_records others
records_append turns others = flat_map-append (λ (turn : Turn). (its turn).own) turns others

pub behind : (before : List Entry) (turns others : List Turn) → before ++ turn_records (turns ++ others) ≡ (before ++ turn_records turns) ++ turn_records others
behind before turns others =
    ap (λ (rs : List Entry). before ++ rs) (records_append turns others) ∙ sym (append_assoc before (turn_records turns) (turn_records others))

-- ---- turns that follow others

pub later_self : (store : StoreState) → IsLater store store
later_self store = record { honesty = refl; count = omega arith }

-- what the store gets to in steps that follow one another
abbrev pub FollowOn : (StoreState → StoreState → Type 0) → Type 0
FollowOn changes = (old mid new : StoreState) → changes old mid → changes mid new → changes old new

-- turns before which the store changes, or behind which it does
pub turns_behind : (changes : StoreState → StoreState → Type 0) → FollowOn changes → (begun : List Repository) (before : List Entry) (old mid new : StoreState) (turns : List Turn)
    → changes old mid → AreTurns changes begun before mid turns new → AreTurns changes begun before old turns new
turns_behind changes both begun before old mid new [] first then = both old mid new first then
turns_behind changes both begun before old mid new (turn ∷ turns) first then = (then.0, both old mid then.0 first then.1, then.2, then.3, then.4)

pub turns_before : (changes : StoreState → StoreState → Type 0) → FollowOn changes → (begun : List Repository) (before : List Entry) (old mid new : StoreState) (turns : List Turn)
    → AreTurns changes begun before old turns mid → changes mid new → AreTurns changes begun before old turns new
turns_before changes both begun before old mid new [] first then = both old mid new first then
turns_before changes both begun before old mid new (turn ∷ turns) first then =
    (first.0, first.1, first.2, first.3, turns_before changes both begun (before ++ (its turn).own) first.2 mid new turns first.4 then)

pub turns_append : (changes : StoreState → StoreState → Type 0) → FollowOn changes → (begun : List Repository) (before : List Entry) (old mid new : StoreState) (turns others : List Turn)
    → AreTurns changes begun before old turns mid → AreTurns changes begun (before ++ turn_records turns) mid others new → AreTurns changes begun before old (turns ++ others) new
turns_append changes both begun before old mid new [] others first then =
    turns_behind changes both begun before old mid new others first (rw (append-nil before) at then)
turns_append changes both begun before old mid new (turn ∷ turns) others first then = (
  first.0,
  first.1,
  first.2,
  first.3,
  turns_append changes both begun (before ++ (its turn).own) first.2 mid new turns others first.4 (rw (append_assoc before (its turn).own (turn_records turns)) then),
)

pub each_append : (P : Turn → Type 0) (turns others : List Turn) → AllByRecursion P turns → AllByRecursion P others → AllByRecursion P (turns ++ others)
each_append P [] others first then = then
each_append P (turn ∷ turns) others first then = (first.0, each_append P turns others first.1 then)

-- ---- messages that were served

-- messages that were served behind these records, under those keys, as turns
pub record Goes {X : Type 0} (keeping : Keeping X (List Repository)) (view : X → HostState) (begun : List Repository) (keeps : Keeps keeping view begun)
    (rings : List Ring) (before : List Entry) (durable : ℕ) (served : List Served) (old new : X) : Type 0 where
  pub turns : List Turn
  pub those : AreThose (map its turns) served
  pub few : AllByRecursion HasFew turns
  pub keyed : AllByRecursion (IsKeyed rings) turns
  pub watched : AllByRecursion IsWatched turns
  pub held : keeps.Holds (before ++ turn_records turns) durable new
  pub honesty : (view new).honest ≡ (view old).honest
  pub turned : IsTrue (view old).honest → AreTurns keeping.changes begun before (store_of (view old)) turns (store_of (view new))

-- rounds, after each of which all records are durable
pub record GoesRounds {X : Type 0} (keeping : Keeping X (List Repository)) (view : X → HostState) (begun : List Repository) (keeps : Keeps keeping view begun)
    (rings : List Ring) (before : List Entry) (served : List Served) (old new : X) : Type 0 where
  pub durable : ℕ
  pub goes : Goes keeping view begun keeps rings before durable served old new
  pub all : durable ≡ length (before ++ turn_records goes.turns)

-- an exchange, whatever is left to save
exchanged_bare : (call : Call) (answer : Answer) (old new : HostState) → IsExchanged call answer old new → IsExchanged call answer (host_in old.repositories (store_of old)) (host_in new.repositories (store_of new))
exchanged_bare call answer old new is = record {
  each = is.each;
  none = λ none. ((is.none none).0, ap (λ (h : HostState). host_in h.repositories (store_of h)) (is.none none).1);
  unsaved = refl;
  device = is.device;
  honesty = is.honesty;
}

module _ {X : Type 0} (keeping : Keeping X (List Repository)) (view : X → HostState) (begun : List Repository) (keeps : Keeps keeping view begun) (rings : List Ring) where
  -- the handler's steps as its server makes them
  abbrev Admitted : Steps X
  Admitted = Watches (Guards rings keeping.step)

  goes_none : (before : List Entry) (durable : ℕ) (old : X) → keeps.Holds before durable old → Goes keeping view begun keeps rings before durable [] old old
  goes_none before durable old held =
      record { turns = []; those = refl; few = tt; keyed = tt; watched = tt; held = rw (append-nil before) held; honesty = refl; turned = λ so. keeps.changes_none (store_of (view old)) }

  goes_then : (before : List Entry) (durable then : ℕ) (served others : List Served) (old mid new : X) (first : Goes keeping view begun keeps rings before durable served old mid)
      → Goes keeping view begun keeps rings (before ++ turn_records first.turns) then others mid new → Goes keeping view begun keeps rings before then (served ++ others) old new
  goes_then before durable then served others old mid new first more =
      let es : List Exchanged = map its first.turns in
      let rest : List Exchanged = map its more.turns in
      record {
        turns = first.turns ++ more.turns;
        those = ap (map told_by) (map-append its first.turns more.turns) ∙ map-append told_by es rest ∙ ap (λ xs. xs ++ map told_by rest) first.those ∙ ap (λ xs. map told_to served ++ xs) more.those
            ∙ sym (map-append told_to served others);
        few = each_append HasFew first.turns more.turns first.few more.few;
        keyed = each_append (IsKeyed rings) first.turns more.turns first.keyed more.keyed;
        watched = each_append IsWatched first.turns more.turns first.watched more.watched;
        held = rw (behind before first.turns more.turns) more.held;
        honesty = more.honesty ∙ first.honesty;
        turned = λ so. turns_append keeping.changes keeps.changes_both begun before (store_of (view old)) (store_of (view mid)) (store_of (view new)) first.turns more.turns (first.turned so)
            (more.turned (first.honesty ∙ so));
      }

  -- one turn, and the store between it and the next one
  goes_turn : (before : List Entry) (durable : ℕ) (s : Served) (old new : X) (turn : Turn) → told_by (its turn) ≡ told_to s → HasFew turn → IsKeyed rings turn → IsWatched turn
      → keeps.Holds (before ++ (its turn).own) durable new → (view new).honest ≡ (view old).honest
      → (IsTrue (view old).honest → IsTurn (redone_all leaving begun before) (store_of (view old)) turn (redone_all leaving begun (before ++ (its turn).own)) (store_of (view new)))
      → Goes keeping view begun keeps rings before durable (s ∷ []) old new
  goes_turn before durable s old new turn same few keyed watched held honesty turned = record {
    turns = turn ∷ [];
    those = ap (λ x. x ∷ []) same;
    few = (few, tt);
    keyed = (keyed, tt);
    watched = (watched, tt);
    held = rw (append-nil (its turn).own) held;
    honesty = honesty;
    turned = λ so. (store_of (view old), keeps.changes_none (store_of (view old)), store_of (view new), turned so, keeps.changes_none (store_of (view new)));
  }

  -- a message for figures changes nothing
  goes_status : (before : List Entry) (durable : ℕ) (s : Served) (old : X) → keeps.Holds before durable old → IsTrue (is_status s.done.message.asked.target)
      → IsStatusAnswer s.done.message.asked.method s.done.answer → Goes keeping view begun keeps rings before durable (s ∷ []) old old
  goes_status before durable s old held at answer =
      let e : Exchanged = record { moment = s.moment; asked = s.done.message.asked; answer = s.done.answer; own = [] } in
      let same : before ++ [] ≡ before = append-nil before in
      goes_turn before durable s old old (was_status e) refl (omega arith) at (at, answer, refl) (subst (λ (es : List Entry). keeps.Holds es durable old) (sym same) held) refl
      (λ so. (ap (redone_all leaving begun) same, refl, answer))

  -- a message that is not admitted changes nothing
  goes_barred : (before : List Entry) (durable : ℕ) (s : Served) (old : X) → keeps.Holds before durable old → is_status s.done.message.asked.target ≡ false
      → is_admitted rings s.done.message.asked ≡ false → s.done.answer ≡ barred → Goes keeping view begun keeps rings before durable (s ∷ []) old old
  goes_barred before durable s old held other out answer =
      let e : Exchanged = record { moment = s.moment; asked = s.done.message.asked; answer = s.done.answer; own = [] } in
      let same : before ++ [] ≡ before = append-nil before in
      goes_turn before durable s old old (was_refused e) refl (omega arith) (inr (out, answer, refl)) other (subst (λ (es : List Entry). keeps.Holds es durable old) (sym same) held) refl
      (λ so. (ap (redone_all leaving begun) same, refl, inr answer))

  -- any other message
  goes_other : (before : List Entry) (durable : ℕ) (s : Served) (old new : X) → keeps.Holds before durable old → is_status s.done.message.asked.target ≡ false
      → Guards rings keeping.step old s.moment s.done.message.asked s.done.answer new → Goes keeping view begun keeps rings before durable (s ∷ []) old new
  goes_other before durable s old new held other (inr none) =
      subst (Goes keeping view begun keeps rings before durable (s ∷ []) old) (sym none.2) (goes_barred before durable s old held other none.0 none.1)
  goes_other before durable s old new held other (inl performed) =
      let kept = keeps.exchanges before durable old s.moment s.done.message.asked s.done.answer new held performed.1 in
      let e : Exchanged = record { moment = s.moment; asked = s.done.message.asked; answer = s.done.answer; own = kept.own } in
      let is : List Repository = redone_all leaving begun (before ++ kept.own) in
      let first : StoreState = store_of (view old) in
      let last : StoreState = store_of (view new) in
      let was_at : IsTrue (view old).honest → (view old).repositories ≡ redone_all leaving begun before = keeps.kept old before durable held in
      let is_at : IsTrue (view old).honest → (view new).repositories ≡ is = λ so. keeps.kept new (before ++ kept.own) durable kept.held (kept.honesty ∙ so) in
      elim kept.tried [
        | inl step ↦
            goes_turn before durable s old new (was_performed e) refl kept.one performed.0 other kept.held kept.honesty (λ so.
            subst (λ (rs : List Repository). IsExchanged (call_at e.moment e.asked) e.answer (host_in rs first) (host_in is last)) (was_at so)
            (subst (λ (rs : List Repository). IsExchanged (call_at e.moment e.asked) e.answer (host_in (view old).repositories first) (host_in rs last)) (is_at so)
            (exchanged_bare (call_at e.moment e.asked) e.answer (view old) (view new) step)))
        | inr none ↦
            goes_turn before durable s old new (was_refused e) refl kept.one (inl (performed.0, none.1)) other kept.held kept.honesty (λ so. (
              sym (is_at so) ∙ ap (λ (h : HostState). h.repositories) none.0 ∙ was_at so,
              ap store_of none.0,
              inl none.1,
            ))
      ]

  goes_one : (before : List Entry) (durable : ℕ) (s : Served) (old new : X) → keeps.Holds before durable old → Admitted old s.moment s.done.message.asked s.done.answer new
      → Goes keeping view begun keeps rings before durable (s ∷ []) old new
  goes_one before durable s old new held (inl told) =
      subst (Goes keeping view begun keeps rings before durable (s ∷ []) old) (sym told.2) (goes_status before durable s old held told.0 told.1)
  goes_one before durable s old new held (inr performed) = goes_other before durable s old new held performed.0 performed.1

  pub goes_all : (before : List Entry) (durable : ℕ) (served : List Served) (old new : X) → keeps.Holds before durable old → Serves (Watches (Guards rings keeping.step)) old served new
      → Goes keeping view begun keeps rings before durable served old new
  goes_all before durable [] old new held serves = subst (Goes keeping view begun keeps rings before durable [] old) (sym serves) (goes_none before durable old held)
  goes_all before durable (s ∷ served) old new held serves =
      let first = goes_one before durable s old serves.0 held serves.1 in
      goes_then before durable durable (s ∷ []) served old serves.0 new first (goes_all (before ++ turn_records first.turns) durable served serves.0 new first.held serves.2)

  -- ---- rounds

  goes_settled : (before : List Entry) (durable : ℕ) (served : List Served) (old mid new : X) (first : Goes keeping view begun keeps rings before durable served old mid)
      → (settles : keeping.settled mid (Ok tt) new) → keeping.sound mid (Ok tt) new settles
      → Goes keeping view begun keeps rings before (length (before ++ turn_records first.turns)) served old new
  goes_settled before durable served old mid new first settles sound =
      let settled = keeps.settles (before ++ turn_records first.turns) durable mid new first.held settles sound in
      record {
        turns = first.turns;
        those = first.those;
        few = first.few;
        keyed = first.keyed;
        watched = first.watched;
        held = settled.held;
        honesty = settled.honesty ∙ first.honesty;
        turned = λ so. turns_before keeping.changes keeps.changes_both begun before (store_of (view old)) (store_of (view mid)) (store_of (view new)) first.turns (first.turned so) settled.changes;
      }

  pub goes_rounds : (before : List Entry) (rounds : List (List Served)) (old new : X) → keeps.Holds before (length before) old
      → (settles : AreSettled (Watches (Guards rings keeping.step)) keeping.settled rounds old new) → AreSound keeping (Watches (Guards rings keeping.step)) rounds old new settles
      → GoesRounds keeping view begun keeps rings before (served_in rounds) old new
  unfolding goes_none goes_settled goes_then
  goes_rounds before [] old new held settles sound =
      subst (GoesRounds keeping view begun keeps rings before [] old) (sym settles)
      (record { durable = length before; goes = goes_none before (length before) old held; all = ap length (sym (append-nil before)) })
  goes_rounds before (served ∷ rounds) old new held settles sound =
      let mid : X = settles.0 in
      let round = settles.1 in
      let first = goes_settled before (length before) served old round.0 mid (goes_all before (length before) served old round.0 held round.1) round.2 sound.0 in
      let more = goes_rounds (before ++ turn_records first.turns) rounds mid new first.held settles.2 sound.1 in
      record {
        durable = more.durable;
        goes = goes_then before (length (before ++ turn_records first.turns)) more.durable served (served_in rounds) old mid new first more.goes;
        all = more.all ∙ ap length (sym (behind before first.turns more.goes.turns));
      }
