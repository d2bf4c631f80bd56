-- A life of a server, told: its turns, as far as the journal kept them.
use Rattle.std.proofs.Common.{◌≡◌, ◌∙◌, inl, inr, ◌≤◌, ℕ, zero, suc, ◌+◌, ◌-◌, ◌++◌, List, [], ◌∷◌, length, map, Option, None, Some, Result, Ok, Err, slice_index_or, refl, sym, ap, arith, subst, take}
use Rattle.std.specs.List.{AllByRecursion, AllZip}
use Rattle.std.specs.Prelude.{Contains}
use Rattle.std.proofs.lemmas.List.{append-nil, append_assoc, length-append}
use Rattle.std.proofs.Math.Seq.{take-append-add}
use Rattle.slab.specs.Slab.{Slab}
use Rattle.oai_front.specs.Performing.{Steps}
use Rattle.oai_front.specs.Runs.{Served, Serves, done_on}
use Rattle.oai_host.specs.Hosts.{HostState, Repository, store_of}
use Rattle.oai_host.specs.Performed.{StoreState}
use Rattle.oai_journal.specs.Journals.{IsLeft}
use Rattle.oai_journal.specs.Records.{Entry}
use Rattle.oai_serving.specs.Links.{Link}
use Rattle.oai_serving.specs.Rounds.{EndsService, IsRoundSettled, served_in}
use Rattle.oai_serving.specs.Tables.{AreAllAnswered, AreAllKept, AreLinksKept}
use Rattle.oai_serving.specs.declared.faults.ServeFault.{ServeFault}
use Rattle.oai_serving.specs.declared.faults.ServeFault.TheVariants.{Clock, Unsettled, Wait}
use Rattle.oai_keys.specs.Guards.{Guards}
use Rattle.oai_daemon.specs.Watches.{Watches}
use Rattle.oai_durable.specs.Served.{AreThose}
use Rattle.oai_service.specs.Keeping.{IsSoundEnd, IsSoundRound, Keeping}
use Rattle.oai_service.specs.Lives.{AreServerLives, IsServerLife, ServerLife, served_behind}
use Rattle.oai_service.specs.Service.{AreResumed, IsOverHonest, IsReceivedIn, IsRecordedIn, LoggedTurns, all_turns, turns_of}
use Rattle.oai_service.specs.Turns.{AreTurns, IsKeyed, IsWatched, Turn, its, turn_records}
use Rattle.oai_service.proofs.KeepingLemmas.{EndsWith, Keeps}
use Rattle.oai_service.proofs.OwnLemmas.{AreTurnsOnce, once_append, once_front, once_moved, turns_once}
use Rattle.oai_service.proofs.TurnLemmas.{FollowOn, HasFew, behind, each_append, goes_all, goes_rounds, turns_append, turns_before}

-- ---- what a crash leaves

-- the first so many of the records of turns are those of the first turns
record IsCut (turns : List Turn) (count : ℕ) : Type 0 where
  pub kept : List Turn
  pub others : List Turn
  pub parts : turns ≡ kept ++ others
  pub records : take count (turn_records turns) ≡ turn_records kept

none_taken : (records : List Entry) → take zero records ≡ []
none_taken [] = refl
none_taken (entry ∷ records) = refl

cut_one : (turn : Turn) (turns : List Turn) (own : List Entry) (count : ℕ) → (its turn).own ≡ own → length own ≤ 1 → ((less : ℕ) → IsCut turns less) → IsCut (turn ∷ turns) count
cut_one turn turns [] count is one cut =
    let rest = cut count in
    record {
      kept = turn ∷ rest.kept;
      others = rest.others;
      parts = ap (λ (ts : List Turn). turn ∷ ts) rest.parts;
      records = subst (λ (own : List Entry). take count (own ++ turn_records turns) ≡ own ++ turn_records rest.kept) (sym is) rest.records;
    }
cut_one turn turns (entry ∷ []) zero is one cut = record { kept = []; others = turn ∷ turns; parts = refl; records = none_taken (turn_records (turn ∷ turns)) }
cut_one turn turns (entry ∷ []) (suc count) is one cut =
    let rest = cut count in
    record {
      kept = turn ∷ rest.kept;
      others = rest.others;
      parts = ap (λ (ts : List Turn). turn ∷ ts) rest.parts;
      records = subst (λ (own : List Entry). take (suc count) (own ++ turn_records turns) ≡ own ++ turn_records rest.kept) (sym is) (ap (λ (rs : List Entry). entry ∷ rs) rest.records);
    }
cut_one turn turns (entry ∷ (other ∷ own)) count is one cut = absurd (omega (arith, one))

cut_turns : (turns : List Turn) (count : ℕ) → AllByRecursion HasFew turns → IsCut turns count
cut_turns [] zero few = record { kept = []; others = []; parts = refl; records = refl }
cut_turns [] (suc count) few = record { kept = []; others = []; parts = refl; records = refl }
cut_turns (turn ∷ turns) count few = cut_one turn turns (its turn).own count refl few.0 (λ less. cut_turns turns less few.1)

apart : (n m : ℕ) → n ≤ m → m ≡ n + (m - n)
apart n m low = grind (arith)

-- what a crash leaves behind so many durable records: these, and the records of the first of the turns behind them
record Leaves (front : List Entry) (turns : List Turn) (left : List Entry) : Type 0 where
  pub kept : List Turn
  pub others : List Turn
  pub parts : turns ≡ kept ++ others
  pub records : left ≡ front ++ turn_records kept

left_behind : (front : List Entry) (turns : List Turn) (left : List Entry) → AllByRecursion HasFew turns → IsLeft (length front) (front ++ turn_records turns) left → Leaves front turns left
left_behind front turns left few is =
    let cut = cut_turns turns (is.count - length front) few in
    record {
      kept = cut.kept;
      others = cut.others;
      parts = cut.parts;
      records = is.is ∙ ap (λ (n : ℕ). take n (front ++ turn_records turns)) (apart (length front) is.count is.enough) ∙ take-append-add front (turn_records turns) (is.count - length front)
          ∙ ap (λ (rs : List Entry). front ++ rs) cut.records;
    }

-- ---- a life

-- how a service ended: what its last round performed, and whether it settled behind it
record IsOver {X : Type 0} (keeping : Keeping X (List Repository)) (step : Steps X) (mid last : X) : Type 0 where
  pub served : List Served
  pub performed : X
  pub run : Serves step mid served performed
  pub ends : EndsWith keeping performed last

ends_with : {X : Type 0} (keeping : Keeping X (List Repository)) (performed last : X) (fault : ServeFault) (settles : IsRoundSettled keeping.settled performed (Err fault) last)
    → IsSoundRound keeping performed fault last settles → EndsWith keeping performed last
ends_with keeping performed last Unsettled settles sound = inr (Err settles.0, settles.1, sound)
ends_with keeping performed last Wait is sound = inl is
ends_with keeping performed last Clock is sound = inl is

over_by : {X : Type 0} (keeping : Keeping X (List Repository)) (step : Steps X) (mid last : X) (result : Result (Unit {0}) ServeFault) (ends : EndsService step keeping.settled mid result last)
    → IsSoundEnd keeping step mid result last ends → IsOver keeping step mid last
over_by keeping step mid last (Ok done) ends sound = record { served = []; performed = mid; run = refl; ends = inl ends }
over_by keeping step mid last (Err fault) ends sound =
    record { served = ends.served; performed = ends.performed; run = ends.run; ends = ends_with keeping ends.performed last fault ends.settles sound }

over_served : {X : Type 0} (keeping : Keeping X (List Repository)) (step : Steps X) (mid last : X) (result : Result (Unit {0}) ServeFault) (ends : EndsService step keeping.settled mid result last)
    (sound : IsSoundEnd keeping step mid result last ends) → (over_by keeping step mid last result ends sound).served ≡ served_behind step keeping.settled mid result last ends
unfolding over_by
over_served keeping step mid last (Ok done) ends sound = refl
over_served keeping step mid last (Err fault) ends sound = refl

-- a server with no link has none that is not what came of its stream
nothing_at : {A : Type 0} (slots : List (Option A)) (key : ℕ) → slots ≡ [] → slice_index_or slots key None ≡ None
nothing_at {A} slots key none = ap (λ (xs : List (Option A)). slice_index_or xs key None) none ∙ at key
  where
    at : (key : ℕ) → slice_index_or {A = Option A} [] key None ≡ None
    at zero = refl
    at (suc key) = refl

unlinked_kept : {S : Type 0} (contents remaining : S → Option (List ℕ)) (links : Slab (Link S)) → links.slots ≡ [] → AreLinksKept contents remaining [] [] links
unfolding done_on
unlinked_kept {S} contents remaining links none = record {
  each = λ key link there. absurd (apart_at (nothing_at links.slots key none) there);
  one = λ key other a b there. absurd (apart_at (nothing_at links.slots key none) there);
  later = λ number above. refl;
}
  where
    apart_at : {link : Link S} {found : Option (Link S)} → found ≡ None → found ≡ Some link → ⊥
    apart_at is there = cc

nobody : {A : Type 0} (a : A) → Contains [] a → ⊥
nobody a is = omega (arith, is.1)

all_kept : {S : Type 0} (contents remaining : S → Option (List ℕ)) (links : Slab (Link S)) → links.slots ≡ [] → AreAllKept contents remaining [] [] [] links
all_kept {S} contents remaining links none = record {
  kept = unlinked_kept contents remaining links none;
  over = λ number last is. absurd (nobody {A = ℕ × S} (number, last) is);
  apart = λ number last is h. nobody {A = ℕ × S} (number, last) is;
  all = λ number low high. absurd (omega (arith, low, high));
}

pub long_append : {A : Type 0} (xs ys : List A) → length xs ≤ length (xs ++ ys)
long_append xs ys = let many : length (xs ++ ys) ≡ length xs + length ys = length-append xs ys in grind (arith)

few_of : {A : Type 0} (n : ℕ) (xs ys : List A) → n ≡ length xs → n ≤ length (xs ++ ys)
few_of n xs ys is = rw is (long_append xs ys)

-- those that were answered, those whose records are there, and those whose records are lost
turns_joined : (changes : StoreState → StoreState → Type 0) → FollowOn changes → (begun : List Repository) (before : List Entry) (old mid new : StoreState) (answered kept lost : List Turn)
    → AreTurns changes begun before old answered mid → AreTurns changes begun (before ++ turn_records answered) mid (kept ++ lost) new
    → AreTurns changes begun before old ((answered ++ kept) ++ lost) new
turns_joined changes both begun before old mid new answered kept lost first then =
    subst (λ (turns : List Turn). AreTurns changes begun before old turns new) (sym (append_assoc answered kept lost))
    (turns_append changes both begun before old mid new answered (kept ++ lost) first then)

-- what is told of a life
pub record Tells {S X : Type 0} (keeping : Keeping X (List Repository)) (store : X → StoreState) (contents remaining : S → Option (List ℕ)) (begun : List Repository) (life : ServerLife S X) : Type 0 where
  pub told : LoggedTurns
  pub received : IsReceivedIn contents remaining life told
  pub recorded : IsRecordedIn keeping.changes store begun life told
  pub left : keeping.stands begun life.left (life.found ++ turn_records (turns_of told))

-- what is told of lives
pub record TellsAll {S X : Type 0} (keeping : Keeping X (List Repository)) (store : X → StoreState) (contents remaining : S → Option (List ℕ)) (begun : List Repository) (before : List Entry)
    (lives : List (ServerLife S X)) (left : List Entry) : Type 0 where
  pub told : List LoggedTurns
  pub received : AllZip (IsReceivedIn contents remaining) lives told
  pub recorded : AllZip (IsRecordedIn keeping.changes store begun) lives told
  pub kept : AreResumed (keeping.stands begun) before lives told left
  pub turned : AllByRecursion (IsOverHonest store) lives → AreTurnsOnce begun before (all_turns told)
  pub leaves : keeping.stands begun left (before ++ turn_records (all_turns told))

module _ {S X : Type 0} (keeping : Keeping X (List Repository)) (view : X → HostState) (contents remaining : S → Option (List ℕ)) (begun : List Repository) (keeps : Keeps keeping view begun) where
  tell : (life : ServerLife S X) → IsServerLife keeping contents remaining begun life → Tells keeping (λ (x : X). store_of (view x)) contents remaining begun life
  tell life is =
      let store : X → StoreState = λ x. store_of (view x) in
      let step : Steps X = Watches (Guards life.rings keeping.step) in
      let service = is.serves in
      let before = goes_rounds keeping view begun keeps life.rings life.found service.rounds life.old.handler service.mid (keeps.begins life.old.handler life.found is.begins) service.settles is.sound in
      let answered : List Turn = before.goes.turns in
      let front : List Entry = life.found ++ turn_records answered in
      let over = over_by keeping step service.mid life.new.handler life.result service.ends is.sound_end in
      let after = goes_all keeping view begun keeps life.rings front before.durable over.served service.mid over.performed before.goes.held over.run in
      let entries : List Entry = front ++ turn_records after.turns in
      let few : before.durable ≤ length entries = few_of before.durable front (turn_records after.turns) before.all in
      let ended = keeps.ends entries before.durable over.performed life.new.handler life.left few after.held over.ends is.leaves in
      let left = left_behind front after.turns ended.found after.few (subst (λ (n : ℕ). IsLeft n entries ended.found) before.all ended.leaves) in
      record {
        told = record { answered = answered; held = left.kept };
        received = record {
          those = subst (λ (rounds : List (List Served)). AreThose (map its answered) (served_in rounds)) is.rounds before.goes.those;
          lost = left.others;
          held = subst (λ (turns : List Turn). AreThose (map its turns) life.behind) left.parts
              (subst (AreThose (map its after.turns)) (over_served keeping step service.mid life.new.handler life.result service.ends is.sound_end ∙ is.behind) after.those);
          keyed = each_append (IsKeyed life.rings) answered (left.kept ++ left.others) before.goes.keyed (subst (AllByRecursion (IsKeyed life.rings)) left.parts after.keyed);
          watched = each_append IsWatched answered (left.kept ++ left.others) before.goes.watched (subst (AllByRecursion IsWatched) left.parts after.watched);
          streams = service.streams;
          gone = service.parted;
          passes = service.passes;
          clients = subst (λ (rounds : List (List Served)). AreAllAnswered contents remaining service.streams service.parted (served_in rounds) life.new.links) is.rounds
              (service.answered [] [] [] is.none (all_kept contents remaining life.old.links is.unlinked));
        };
        recorded = λ so.
            let all : AreTurns keeping.changes begun front (store service.mid) (left.kept ++ left.others) (store life.new.handler) =
            turns_before keeping.changes keeps.changes_both begun front (store service.mid) (store over.performed) (store life.new.handler) (left.kept ++ left.others)
            (subst (λ (turns : List Turn). AreTurns keeping.changes begun front (store service.mid) turns (store over.performed)) left.parts (after.turned (before.goes.honesty ∙ so))) ended.changes in
            record {
              lost = left.others;
              turned = turns_joined keeping.changes keeps.changes_both begun life.found (store life.old.handler) (store service.mid) (store life.new.handler) answered left.kept left.others
                  (before.goes.turned so) all;
            };
        left = subst (keeping.stands begun life.left) (left.records ∙ sym (behind life.found answered left.kept)) ended.stands;
      }

  -- ---- lives

  turned_once : (life : ServerLife S X) (told : LoggedTurns) → IsRecordedIn keeping.changes (λ (x : X). store_of (view x)) begun life told → IsOverHonest (λ (x : X). store_of (view x)) life
      → AreTurnsOnce begun life.found (turns_of told)
  turned_once life told recorded honest =
      let is = recorded honest in
      once_front begun life.found (turns_of told) is.lost
      (turns_once keeping.changes keeps.honest begun life.found (store_of (view life.old.handler)) (turns_of told ++ is.lost) (store_of (view life.new.handler)) honest is.turned)

  -- those that begin with records that stand for these
  tell_behind : (before found : List Entry) (lives : List (ServerLife S X)) (left : List Entry) → keeping.stands begun found before → AreServerLives keeping contents remaining begun found lives left
      → TellsAll keeping (λ (x : X). store_of (view x)) contents remaining begun before lives left
  tell_behind before found [] left stands are =
      let same : keeping.stands begun left before = subst (λ (es : List Entry). keeping.stands begun es before) (sym are) stands in
      record { told = []; received = tt; recorded = tt; kept = same; turned = λ so. tt; leaves = subst (keeping.stands begun left) (sym (append-nil before)) same }
  tell_behind before found (life ∷ lives) left stands are =
      let first = tell life are.1 in
      let own : List Turn = turns_of first.told in
      let here : keeping.stands begun life.found before = subst (λ (es : List Entry). keeping.stands begun es before) (sym are.0) stands in
      let there : keeping.stands begun life.left (before ++ turn_records own) =
      keeps.stands_both life.left (life.found ++ turn_records own) (before ++ turn_records own) first.left (keeps.stands_behind life.found before (turn_records own) here) in
      let more = tell_behind (before ++ turn_records own) life.left lives left there are.2 in
      let others : List Turn = all_turns more.told in
      record {
        told = first.told ∷ more.told;
        received = (first.received, more.received);
        recorded = (first.recorded, more.recorded);
        kept = (here, more.kept);
        turned = λ so. once_append begun before own others
            (once_moved begun life.found before own (keeps.leaves life.found before here) (turned_once life first.told first.recorded so.0)) (more.turned so.1);
        leaves = subst (keeping.stands begun left) (sym (behind before own others)) more.leaves;
      }

  pub tell_all : (before : List Entry) (lives : List (ServerLife S X)) (left : List Entry) → AreServerLives keeping contents remaining begun before lives left
      → TellsAll keeping (λ (x : X). store_of (view x)) contents remaining begun before lives left
  tell_all before lives left are = tell_behind before before lives left (keeps.stands_self before) are
