-- A life as a server lives it is a life.
use Rattle.std.proofs.Common.{◌≡◌, ◌∙◌, inl, inr, ◌≤◌, ℕ, ◌+◌, ◌++◌, IsTrue, List, [], ◌∷◌, length, map, Option, Result, Ok, Err, refl, sym, ap, arith}
use Rattle.std.proofs.lemmas.List.{append-nil, append_assoc, length-append, map-append}
use Rattle.std.proofs.lemmas.Grind.{flat_map-append}
use Rattle.std.proofs.Math.Nat.{le_refl, le_trans}
use Rattle.oai_front.specs.Runs.{Served, Serves}
use Rattle.oai_http.specs.declared.exchanges.Answer.{Answer}
use Rattle.oai_http.specs.declared.exchanges.Call.{Call}
use Rattle.oai_journal.specs.Records.{Entry}
use Rattle.oai_journal.specs.Journals.{IsLeft}
use Rattle.oai_journal.specs.declared.journals.Journal as journal
use Rattle.oai_serving.specs.Accepted.{Known}
use Rattle.oai_serving.specs.Rounds.{AreSettled, IsRoundSettled, IsService, World, served_in}
use Rattle.oai_serving.specs.declared.faults.ServeFault.{ServeFault}
use Rattle.oai_serving.specs.declared.faults.ServeFault.TheVariants.{Clock, Unsettled, Wait}
use Rattle.oai_durable.specs.Journaled.{IsExchange, IsHeld, IsSettled, Parts, Replaying}
use Rattle.oai_durable.specs.Lives.{Exchanged, HavePlaces, records_of_exchanges}
use Rattle.oai_durable.specs.Records.{Leaving}
use Rattle.oai_durable.specs.Served.{AreThose, EndsAs, IsLived, IsRemembered, LivesAs, told_by, told_to}

-- messages that were served behind these records, as exchanges with their records
pub record Goes {H J : Type 0} (h : Replaying H) (j : journal.Ghosts J) (begun : h.Kept) (before : List Entry) (durable : ℕ) (served : List Served) (new : Parts H J) : Type 0 where
  pub exchanges : List Exchanged
  pub those : AreThose exchanges served
  pub places : HavePlaces h.leaving h.reply begun before exchanges
  pub held : IsHeld h j begun new (before ++ records_of_exchanges exchanges) durable
  pub honest : IsTrue (h.is_honest new.handler)

pub goes_none : {H J : Type 0} (h : Replaying H) (j : journal.Ghosts J) (begun : h.Kept) (before : List Entry) (durable : ℕ) (old : Parts H J)
    → IsHeld h j begun old before durable → IsTrue (h.is_honest old.handler) → Goes h j begun before durable [] old
goes_none h j begun before durable old held honest = record { exchanges = []; those = refl; places = tt; held = rw (append-nil before) held; honest = honest }

-- ---- exchanges that follow others

pub places_append : {K : Type 0} (leaving : Leaving K) (reply : K → Call → Answer) (begun : K) (before : List Entry) (es others : List Exchanged)
    → HavePlaces leaving reply begun before es → HavePlaces leaving reply begun (before ++ records_of_exchanges es) others → HavePlaces leaving reply begun before (es ++ others)
places_append leaving reply begun before [] others first then = rw (append-nil before) at then
places_append leaving reply begun before (e ∷ es) others first then =
    (first.0, places_append leaving reply begun (before ++ e.own) es others first.1 (rw (append_assoc before e.own (records_of_exchanges es)) then))

pub goes_then : {H J : Type 0} (h : Replaying H) (j : journal.Ghosts J) (begun : h.Kept) (before : List Entry) (durable then : ℕ) (served others : List Served) (mid new : Parts H J)
    (first : Goes h j begun before durable served mid) → Goes h j begun (before ++ records_of_exchanges first.exchanges) then others new
    → Goes h j begun before then (served ++ others) new
goes_then h j begun before durable then served others mid new first more =
    let es : List Exchanged = first.exchanges in
    let joined : before ++ records_of_exchanges (es ++ more.exchanges) ≡ (before ++ records_of_exchanges es) ++ records_of_exchanges more.exchanges =
    ap (λ (rs : List Entry). before ++ rs) (flat_map-append (λ (e : Exchanged). e.own) es more.exchanges) ∙ sym (append_assoc before (records_of_exchanges es) (records_of_exchanges more.exchanges)) in
    record {
      exchanges = es ++ more.exchanges;
      those = map-append told_by es more.exchanges ∙ ap (λ xs. xs ++ map told_by more.exchanges) first.those ∙ ap (λ xs. map told_to served ++ xs) more.those ∙ sym (map-append told_to served others);
      places = places_append h.leaving h.reply begun before es more.exchanges first.places more.places;
      held = rw joined more.held;
      honest = more.honest;
    }

-- ---- a message, and messages

pub goes_one : {H J : Type 0} (h : Replaying H) (j : journal.Ghosts J) (begun : h.Kept) (before : List Entry) (durable : ℕ) (s : Served) (old new : Parts H J)
    → IsHeld h j begun old before durable → IsTrue (h.is_honest old.handler) → IsExchange h j old s.moment s.done.message.asked s.done.answer new
    → Goes h j begun before durable (s ∷ []) new
goes_one h j begun before durable s old new held honest exchange =
    let kept = exchange.kept begun before durable held in
    record {
      exchanges = record { moment = s.moment; asked = s.done.message.asked; answer = s.done.answer; own = kept.own } ∷ [];
      those = refl;
      places = (record { told = kept.told honest; left = kept.left honest }, tt);
      held = rw (append-nil kept.own) kept.held;
      honest = exchange.honesty ∙ honest;
    }

pub goes_all : {H J : Type 0} (h : Replaying H) (j : journal.Ghosts J) (begun : h.Kept) (before : List Entry) (durable : ℕ) (served : List Served) (old new : Parts H J)
    → IsHeld h j begun old before durable → IsTrue (h.is_honest old.handler) → Serves (IsExchange h j) old served new → Goes h j begun before durable served new
goes_all h j begun before durable [] old new held honest serves = rw serves (goes_none h j begun before durable old held honest)
goes_all h j begun before durable (s ∷ served) old new held honest serves =
    let first = goes_one h j begun before durable s old serves.0 held honest serves.1 in
    goes_then h j begun before durable durable (s ∷ []) served serves.0 new first
    (goes_all h j begun (before ++ records_of_exchanges first.exchanges) durable served serves.0 new first.held first.honest serves.2)

-- ---- rounds, and the end

pub long_append : {A : Type 0} (xs ys : List A) → length xs ≤ length (xs ++ ys)
long_append xs ys = let many : length (xs ++ ys) ≡ length xs + length ys = length-append xs ys in grind (arith)

few_of : {A : Type 0} (n : ℕ) (xs ys : List A) → n ≡ length xs → n ≤ length (xs ++ ys)
few_of n xs ys is = rw is (long_append xs ys)

left_as : (n m : ℕ) (entries others found : List Entry) → n ≡ m → entries ≡ others → IsLeft n entries found → IsLeft m others found
left_as n m entries others found same joined left = rw same at (rw joined at left)

pub goes_settled : {H J : Type 0} (h : Replaying H) (j : journal.Ghosts J) (begun : h.Kept) (before : List Entry) (durable : ℕ) (served : List Served) (mid new : Parts H J)
    (first : Goes h j begun before durable served mid) → IsSettled j mid (Ok tt) new → Goes h j begun before (length (before ++ records_of_exchanges first.exchanges)) served new
goes_settled h j begun before durable served mid new first settles = record {
  exchanges = first.exchanges;
  those = first.those;
  places = first.places;
  held = record {
    records = settles.ok (before ++ records_of_exchanges first.exchanges) durable first.held.records;
    kept = λ honest. ap h.kept settles.handler ∙ first.held.kept (sym (ap h.is_honest settles.handler) ∙ honest);
  };
  honest = ap h.is_honest settles.handler ∙ first.honest;
}

-- rounds, after each of which all records are durable
pub record GoesRounds {H J : Type 0} (h : Replaying H) (j : journal.Ghosts J) (begun : h.Kept) (before : List Entry) (served : List Served) (new : Parts H J) : Type 0 where
  pub durable : ℕ
  pub goes : Goes h j begun before durable served new
  pub all : durable ≡ length (before ++ records_of_exchanges goes.exchanges)

pub goes_rounds : {H J : Type 0} (h : Replaying H) (j : journal.Ghosts J) (begun : h.Kept) (before : List Entry) (rounds : List (List Served)) (old new : Parts H J)
    → IsHeld h j begun old before (length before) → IsTrue (h.is_honest old.handler) → AreSettled (IsExchange h j) (IsSettled j) rounds old new
    → GoesRounds h j begun before (served_in rounds) new
unfolding goes_none goes_settled goes_then
goes_rounds h j begun before [] old new held honest settles =
    rw settles (record { durable = length before; goes = goes_none h j begun before (length before) old held honest; all = ap length (sym (append-nil before)) })
goes_rounds {H} {J} h j begun before (served ∷ rounds) old new held honest settles =
    let mid : Parts H J = settles.0 in
    let round = settles.1 in
    let first = goes_settled h j begun before (length before) served round.0 mid (goes_all h j begun before (length before) served old round.0 held honest round.1) round.2 in
    let more = goes_rounds h j begun (before ++ records_of_exchanges first.exchanges) rounds mid new first.held first.honest settles.2 in
    let joined : (before ++ records_of_exchanges first.exchanges) ++ records_of_exchanges more.goes.exchanges ≡ before ++ records_of_exchanges (first.exchanges ++ more.goes.exchanges) =
    append_assoc before (records_of_exchanges first.exchanges) (records_of_exchanges more.goes.exchanges)
    ∙ sym (ap (λ (rs : List Entry). before ++ rs) (flat_map-append (λ (e : Exchanged). e.own) first.exchanges more.goes.exchanges)) in
    record {
      durable = more.durable;
      goes = goes_then h j begun before (length (before ++ records_of_exchanges first.exchanges)) more.durable served (served_in rounds) mid new first more.goes;
      all = more.all ∙ ap length joined;
    }

-- at its end the journal holds the same records, and no fewer of them are durable
pub ends_held : {H J : Type 0} (j : journal.Ghosts J) (entries : List Entry) (durable : ℕ) (performed last : Parts H J)
    → durable ≤ length entries → j.holds performed.journal entries durable → EndsAs j performed last
    → (now : ℕ) × (durable ≤ now) × j.holds last.journal entries now
ends_held {H} {J} j entries durable performed last few holds (inl is) = (durable, le_refl durable, rw is holds)
ends_held {H} {J} j entries durable performed last few holds (inr (Ok done, settles)) = (length entries, few, settles.ok entries durable holds)
ends_held {H} {J} j entries durable performed last few holds (inr (Err fault, settles)) = (durable, le_refl durable, settles.err entries durable holds)

pub left_less : (less durable : ℕ) (entries found : List Entry) → less ≤ durable → IsLeft durable entries found → IsLeft less entries found
left_less less durable entries found low left = record { count = left.count; enough = le_trans low left.enough; is = left.is }

pub lives_as : {H J : Type 0} (h : Replaying H) (j : journal.Ghosts J)
    → ((journal : J) (entries : List Entry) (durable : ℕ) (found : List Entry) → j.holds journal entries durable → j.may_leave journal found → IsLeft durable entries found)
    → (begun : h.Kept) (found : List Entry) (first : Parts H J) (rounds : List (List Served)) (held : List Served) (left : List Entry)
    → IsLived h j begun found first rounds held left → LivesAs h.leaving h.reply begun found (served_in rounds) held left
lives_as h j law begun found first rounds held left lived =
    let before = goes_rounds h j begun found rounds first lived.settled lived.begins lived.honest lived.settles in
    let es : List Exchanged = before.goes.exchanges in
    let behind = goes_all h j begun (found ++ records_of_exchanges es) before.durable held lived.settled lived.performed before.goes.held before.goes.honest lived.serves in
    let entries : List Entry = (found ++ records_of_exchanges es) ++ records_of_exchanges behind.exchanges in
    let few : before.durable ≤ length entries = few_of before.durable (found ++ records_of_exchanges es) (records_of_exchanges behind.exchanges) before.all in
    let ended = ends_held j entries before.durable lived.performed lived.last few behind.held.records lived.ends in
    let joined : entries ≡ found ++ records_of_exchanges (es ++ behind.exchanges) =
    append_assoc found (records_of_exchanges es) (records_of_exchanges behind.exchanges)
    ∙ sym (ap (λ (rs : List Entry). found ++ rs) (flat_map-append (λ (e : Exchanged). e.own) es behind.exchanges)) in
    let is = left_less before.durable ended.0 entries left ended.1 (law lived.last.journal entries ended.0 left ended.2 lived.leaves) in
    record {
      life = record { answered = es; held = behind.exchanges };
      answers = before.goes.those;
      others = behind.those;
      is = record {
        places = places_append h.leaving h.reply begun found es behind.exchanges before.goes.places behind.places;
        leaves = left_as before.durable (length (found ++ records_of_exchanges es)) entries (found ++ records_of_exchanges (es ++ behind.exchanges)) left before.all joined is;
      };
    }

-- ---- a service

-- how a life ends whose last round ended so
ends_as : {H J : Type 0} (j : journal.Ghosts J) (performed last : Parts H J) (fault : ServeFault) → IsRoundSettled (IsSettled j) performed (Err fault) last → EndsAs j performed last
ends_as j performed last Unsettled settles = inr (Err settles.0, settles.1)
ends_as j performed last Wait is = inl is
ends_as j performed last Clock is = inl is

pub service_lives : {S H J : Type 0} (h : Replaying H) (j : journal.Ghosts J) (contents remaining : S → Option (List ℕ))
    → ((journal : J) (entries : List Entry) (durable : ℕ) (found : List Entry) → j.holds journal entries durable → j.may_leave journal found → IsLeft durable entries found)
    → (begun : h.Kept) (found : List Entry) (known later : Known S) (old new : World S (Parts H J)) (result : Result (Unit {0}) ServeFault) (left : List Entry)
    → IsService (IsExchange h j) (IsSettled j) contents remaining known later old result new
    → IsHeld h j begun old.handler found (length found)
    → IsTrue (h.is_honest old.handler.handler)
    → j.may_leave new.handler.journal left
    → IsRemembered contents remaining h.leaving h.reply begun found known later old new left
service_lives h j contents remaining law begun found known later old new (Ok done) left service begins honest leaves = record {
  answered = served_in service.rounds;
  held = [];
  lives = lives_as h j law begun found old.handler service.rounds [] left (record {
    begins = begins;
    honest = honest;
    settled = service.mid;
    settles = service.settles;
    performed = service.mid;
    serves = refl;
    last = new.handler;
    ends = inl service.ends;
    leaves = leaves;
  });
  streams = service.streams;
  parted = service.parted;
  passes = service.passes;
  clients = service.answered;
}
service_lives h j contents remaining law begun found known later old new (Err fault) left service begins honest leaves = record {
  answered = served_in service.rounds;
  held = service.ends.served;
  lives = lives_as h j law begun found old.handler service.rounds service.ends.served left (record {
    begins = begins;
    honest = honest;
    settled = service.mid;
    settles = service.settles;
    performed = service.ends.performed;
    serves = service.ends.run;
    last = new.handler;
    ends = ends_as j service.ends.performed new.handler fault service.ends.settles;
    leaves = leaves;
  });
  streams = service.streams;
  parted = service.parted;
  passes = service.passes;
  clients = service.answered;
}
