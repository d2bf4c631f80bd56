-- A life, made of a start and the service behind it.
use Rattle.std.proofs.Common.{◌≡◌, ◌∙◌, inl, inr, ℕ, ℤ, Bool, IfOk, IfSome, IsTrue, List, [], ◌∷◌, Option, None, Some, Result, Ok, Err, ap, arith, length, map, refl, subst, sym}
use Rattle.oai_host.specs.Hosts.{HostState, begun}
use Rattle.oai_serving.specs.Accepted.{Known, PassesNone, known_of}
use Rattle.oai_serving.specs.Rounds.{IsService, Settles, World}
use Rattle.oai_serving.specs.Wrappers.{Wraps, world_behind}
use Rattle.oai_serving.specs.declared.faults.ServeFault.{ServeFault}
use Rattle.oai_journal.specs.declared.file.FileJournal.{FileJournal}
use Rattle.oai_journal.specs.declared.journals.Journal as journal
use Rattle.oai_journal.specs.declared.recovery.Recovery.{Recovery}
use Rattle.oai_journal.specs.Records.{Entry}
use Rattle.oai_journal.specs.Recovered.{disk_of}
use Rattle.oai_front.specs.Performing.{Steps}
use Rattle.oai_keys.specs.Guards.{Guard, Guards, IsGuardSettled, IsGuarded, unguarded}
use Rattle.oai_keys.specs.declared.rings.Ring.{Ring}
use Rattle.oai_keys.proofs.GuardLemmas.{HasRings, guard_wraps}
use Rattle.oai_serving.proofs.WrapperLemmas as wrapper
use Rattle.oai_durable.specs.Checkpointed.{Checkpointed, IsExchangeBeside, IsSettledBeside}
use Rattle.oai_durable.specs.Journaled.{IsHeld, Parts, Replaying}
use Rattle.oai_durable.specs.Records.{redone_all}
use Rattle.oai_durable.specs.declared.either.EitherJournal.{EitherJournal}
use Rattle.oai_durable.specs.declared.either.EitherJournal.TheVariants.{First, Second}
use Rattle.oai_durable.specs.Recovered.{HasRedone}
use Rattle.oai_recovery.specs.Archives.{archive, archived}
use Rattle.oai_daemon.specs.Lives.{BeginsWithAll, HasLived}
use Rattle.oai_recovery.specs.ServedDisks.{file_of}
use Rattle.oai_daemon.specs.Served.{HasResumed, HasServed, Logged, OneJournal}
use Rattle.oai_recovery.specs.Starts.{HasStarted}
use Rattle.oai_daemon.specs.Watches.{Watches}
use Rattle.oai_http.specs.Exchanges.{Asked}
use Rattle.oai_http.specs.declared.exchanges.Answer.{Answer}
use Rattle.oai_recovery.specs.declared.origins.Origin.{Origin}
use Rattle.oai_recovery.specs.declared.origins.Origin.TheVariants as origin

-- a list of no length has nothing
nothing_in : {X : Type 0} (xs : List X) → length xs ≡ 0 → xs ≡ []
nothing_in [] none = refl
nothing_in (x ∷ xs) none = absurd (omega (arith, none))

pub lived : {S D E : Type 0} (j : journal.Ghosts (OneJournal D E)) (k : journal.Ghosts (FileJournal E)) (seen : D → List ℕ) (may_leave : D → List ℕ → Type 0) (is_clean : D → Bool) (contents remaining : S → Option (List ℕ))
    (held : Option (List ℕ)) (text : List ℕ) (rings : List Ring) (origin : Origin) (count : ℕ) (host : HostState) (recovery : Recovery D)
    (known later : Known S) (result : Result (Unit {0}) ServeFault) (new : World S (Logged HostState D E))
    → PassesNone known → HasStarted seen may_leave is_clean held text origin count host recovery
    → HasResumed archived j k archive.emptied seen may_leave contents remaining host recovery rings known later result new
    → HasLived j k seen is_clean contents remaining held text rings origin later result new
lived {S} {D} {E} j k seen may_leave is_clean contents remaining held text rings origin count host recovery known later result new none started resumed =
    let served = resumed.served in
    let replayed = started.replayed in
    record {
      forms = started.forms;
      config = started.config;
      read = started.read;
      rules = started.rules;
      recovery = recovery;
      file = replayed.file;
      known = known;
      passed = none;
      old = served.old;
      begins = λ clean.
          let all = replayed.redone clean in
          let recovered = all.2 in
          record {
            first = all.0;
            own = all.1;
            found = recovered.entries;
            all = recovered.undamaged;
            held = subst (λ (first : Logged HostState D E). IsHeld archived j (map begun started.config.repositories) first.parts recovered.entries (length recovered.entries)) (sym served.handles)
                (resumed.begins (map begun started.config.repositories) all.0 recovered.entries recovered.has);
            fresh = λ is. nothing_in recovered.entries (recovered.many ∙ replayed.fresh is);
            writing = ap (λ (first : Logged HostState D E). first.writing) served.handles ∙ resumed.writing;
            unsynced = ap (λ (first : Logged HostState D E). first.unsynced) served.handles ∙ resumed.unsynced;
          };
      unlinked = served.unlinked;
      none = served.none;
      serves = served.serves;
    }

-- where the service came to be, it is a life
pub lived_over : {S D E A X : Type 0} (j : journal.Ghosts (OneJournal D E)) (k : journal.Ghosts (FileJournal E)) (seen : D → List ℕ) (may_leave : D → List ℕ → Type 0) (is_clean : D → Bool)
    (contents remaining : S → Option (List ℕ)) (held : Origin → Option (List ℕ)) (text : List ℕ) (rings : List Ring) (origin : Origin) (count : ℕ) (host : HostState) (recovery : Recovery D) (known : Known S)
    (came : A → Origin) (later : A → Known S) (ended : A → Result (Unit {0}) ServeFault) (new : A → World S (Logged HostState D E)) (result : Result A X)
    → PassesNone known → HasStarted seen may_leave is_clean (held origin) text origin count host recovery
    → IfOk result (λ (a : A). HasResumed archived j k archive.emptied seen may_leave contents remaining host recovery rings known (later a) (ended a) (new a))
    → IfOk result (λ (a : A). came a ≡ origin)
    → IfOk result (λ (a : A). HasLived j k seen is_clean contents remaining (held (came a)) text rings (came a) (later a) (ended a) (new a))
lived_over j k seen may_leave is_clean contents remaining held text rings origin count host recovery known came later ended new (Ok a) none started resumed same =
    subst (λ (o : Origin). HasLived j k seen is_clean contents remaining (held o) text rings o (later a) (ended a) (new a)) (sym same)
    (lived j k seen may_leave is_clean contents remaining (held origin) text rings origin count host recovery known (later a) (ended a) (new a) none started resumed)
lived_over j k seen may_leave is_clean contents remaining held text rings origin count host recovery known came later ended new (Err e) none started nothing same = nothing

-- where the bytes of both files are known, those that were read are of the one of its origin
of_its_file : (found begun bytes : List ℕ) (origin : Origin) → IfSome (file_of (Some found) (Some begun) origin) (λ (file : List ℕ). bytes ≡ file) → bytes ≡ file_of found begun origin
of_its_file found begun bytes origin.Found is = is
of_its_file found begun bytes origin.Begun is = is
of_its_file found begun bytes origin.Shortened is = is
of_its_file found begun bytes origin.Reconfigured is = is

pub begins_with_file : {S D E : Type 0} (j : journal.Ghosts (OneJournal D E)) (k : journal.Ghosts (FileJournal E)) (seen : D → List ℕ) (is_clean : D → Bool) (contents remaining : S → Option (List ℕ)) (found begun text : List ℕ) (rings : List Ring) (origin : Origin)
    (later : Known S) (result : Result (Unit {0}) ServeFault) (new : World S (Logged HostState D E))
    (life : HasLived j k seen is_clean contents remaining (file_of (Some found) (Some begun) origin) text rings origin later result new)
    → IsTrue (is_clean (disk_of life.recovery)) → BeginsWithAll j (file_of found begun origin) life.forms text origin life.config life.old.handler
begins_with_file j k seen is_clean contents remaining found begun text rings origin later result new life clean =
    subst (λ (bytes : List ℕ). BeginsWithAll j bytes life.forms text origin life.config life.old.handler)
    (of_its_file found begun (seen (disk_of life.recovery)) origin life.file) (life.begins clean)

-- a server with no connection served over a port in another, which it was when it began and when it ended
pub served_inside : {S H K : Type 0} (step : Steps H) (settled : Settles H) (contents remaining : S → Option (List ℕ)) (accepted : K → Option (List S)) (gone : K → Option (List (ℕ × S)))
    (handler : H) (port inner last outer : K) (old : World S H) (result : Result (Unit {0}) ServeFault) (new : World S H) → old.handler ≡ handler → old.links.slots ≡ [] → old.last ≡ 0
    → inner ≡ port → outer ≡ last → IsService step settled contents remaining (known_of (accepted inner) (gone inner)) (known_of (accepted last) (gone last)) old result new
    → HasServed step settled contents remaining handler (known_of (accepted port) (gone port)) (known_of (accepted outer) (gone outer)) result new
served_inside {S} {H} {K} step settled contents remaining accepted gone handler port inner last outer old result new handles unlinked none begins ends serves =
    let known : K → Known S = λ k. known_of (accepted k) (gone k) in
    record {
      old = old;
      handles = handles;
      unlinked = unlinked;
      none = none;
      serves = subst (λ (k : K). IsService step settled contents remaining (known k) (known outer) old result new) begins
          (subst (λ (k : K). IsService step settled contents remaining (known inner) (known k) old result new) (sym ends) serves);
    }

-- what is seen inside a wrapper is seen there too where figures are answered before the wrapper
module _ {W H : Type 0} (stays : W → Type 0) (inner : W → H) (outer_step : Steps W) (outer_settled : Settles W) (step : Steps H) (settled : Settles H)
    (wraps : Wraps stays inner outer_step outer_settled step settled) where
  watched_step : (before : W) (moment : ℤ) (asked : Asked) (answer : Answer) (after : W) → stays before → Watches outer_step before moment asked answer after
      → stays after × Watches step (inner before) moment asked answer (inner after)
  watched_step before moment asked answer after stay (inl told) = (subst stays (sym told.2) stay, inl (told.0, told.1, ap inner told.2))
  watched_step before moment asked answer after stay (inr performed) =
      let one = wraps.steps before moment asked answer after stay performed.1 in
      (one.0, inr (performed.0, one.1))

  watched_wraps : Wraps stays inner (Watches outer_step) outer_settled (Watches step) settled
  watched_wraps = record { steps = watched_step; settles = wraps.settles }

-- a server whose figures are answered, behind keys, served as one without them whose messages they keep out
served_behind : {S H : Type 0} (rings : List Ring) (step : Steps H) (settled : Settles H) (contents remaining : S → Option (List ℕ)) (handler : H) (guard : Guard H)
    (known later : Known S) (result : Result (Unit {0}) ServeFault) (new : World S (Guard H)) → guard.handler ≡ handler → guard.rings ≡ rings
    → HasServed (Watches (IsGuarded step)) (IsGuardSettled settled) contents remaining guard known later result new
    → HasServed (Watches (Guards rings step)) settled contents remaining handler known later result (world_behind unguarded new)
served_behind {S} {H} rings step settled contents remaining handler guard known later result new same keys life = record {
  old = world_behind unguarded life.old;
  handles = ap (λ (g : Guard H). g.handler) life.handles ∙ same;
  unlinked = life.unlinked;
  none = life.none;
  serves = (wrapper.service_behind (HasRings {H = H} rings) (unguarded {H = H}) (Watches (IsGuarded step)) (IsGuardSettled settled) (Watches (Guards rings step)) settled
      (watched_wraps (HasRings {H = H} rings) (unguarded {H = H}) (IsGuarded step) (IsGuardSettled settled) (Guards rings step) settled (guard_wraps rings step settled))
      contents remaining known later life.old result new (ap (λ (g : Guard H). g.rings) life.handles ∙ keys) life.serves).1;
}

-- a journal is one of the first of two kinds
first_held : {H J K : Type 0} (h : Replaying H) (j : journal.Ghosts J) (one : journal.Ghosts (EitherJournal J K)) (begun : h.Kept) (journaled : Parts H J) (parts : Parts H (EitherJournal J K))
    (entries : List Entry) (durable : ℕ) → ((journal : J) → j.holds journal entries durable → one.holds (First journal) entries durable)
    → parts.handler ≡ journaled.handler → parts.journal ≡ First journaled.journal → IsHeld h j begun journaled entries durable → IsHeld h one begun parts entries durable
first_held {H} {J} {K} h j one begun journaled parts entries durable is handler journal held = record {
  records = subst (λ (x : EitherJournal J K). one.holds x entries durable) (sym journal) (is journaled.journal held.records);
  kept = subst (λ (x : H). IsTrue (h.is_honest x) → h.kept x ≡ redone_all h.leaving begun entries) (sym handler) held.kept;
}

-- what is made of a handler with its journal, in which no checkpoint is written
pub record IsMadeOf {H J K : Type 0} (journaled : Parts H J) (first : Checkpointed H (EitherJournal J K) K) : Type 0 where
  pub handler : first.parts.handler ≡ journaled.handler
  pub journal : first.parts.journal ≡ First journaled.journal
  pub writing : first.writing ≡ None
  pub unsynced : first.unsynced ≡ None

-- the handler with its journal served behind keys
module _ {S H D E : Type 0} (h : Replaying H) (i : journal.Ghosts (FileJournal D)) (j : journal.Ghosts (OneJournal D E)) (k : journal.Ghosts (FileJournal E)) (emptied : h.Kept → h.Kept)
    (seen : D → List ℕ) (may_leave : D → List ℕ → Type 0) (contents remaining : S → Option (List ℕ)) (handler : H) (recovery : Recovery D) (rings : List Ring)
    (is : (journal : FileJournal D) (entries : List Entry) (durable : ℕ) → i.holds journal entries durable → j.holds (First journal) entries durable)
    (journaled : Parts H (FileJournal D)) (first : Logged H D E) (made : IsMadeOf journaled first)
    (guard served : Guard (Logged H D E)) (same : guard.handler ≡ first) (keys : guard.rings ≡ rings) (watched : served ≡ guard)
    (begins : (begun : h.Kept) (entry : Entry) (entries : List Entry) → HasRedone h.kept h.is_honest h.leaving seen may_leave begun handler recovery entry entries
    → IsHeld h i begun journaled entries (length entries)) where
  resumed : (known later : Known S) (result : Result (Unit {0}) ServeFault) (new : World S (Guard (Logged H D E)))
      → HasServed (Watches (IsGuarded (IsExchangeBeside h j))) (IsGuardSettled (IsSettledBeside h j k emptied Second)) contents remaining served known later result new
      → HasResumed h j k emptied seen may_leave contents remaining handler recovery rings known later result (world_behind unguarded new)
  resumed known later result new life = record {
    first = first;
    begins = λ begun entry entries redone. first_held h i j begun journaled first.parts entries (length entries) (λ journal. is journal entries (length entries))
        made.handler made.journal (begins begun entry entries redone);
    writing = made.writing;
    unsynced = made.unsynced;
    served = served_behind rings (IsExchangeBeside h j) (IsSettledBeside h j k emptied Second) contents remaining first served known later result new
        (ap (λ (g : Guard (Logged H D E)). g.handler) watched ∙ same) (ap (λ (g : Guard (Logged H D E)). g.rings) watched ∙ keys) life;
  }

  -- where it served
  pub resumed_over : {A X : Type 0} (known : Known S) (later : A → Known S) (ended : A → Result (Unit {0}) ServeFault) (new : A → World S (Guard (Logged H D E))) (result : Result A X)
      → IfOk result (λ (a : A). HasServed (Watches (IsGuarded (IsExchangeBeside h j))) (IsGuardSettled (IsSettledBeside h j k emptied Second)) contents remaining served known (later a) (ended a) (new a))
      → IfOk result (λ (a : A). HasResumed h j k emptied seen may_leave contents remaining handler recovery rings known (later a) (ended a) (world_behind unguarded (new a)))
  resumed_over known later ended new (Ok a) life = resumed known (later a) (ended a) (new a) life
  resumed_over known later ended new (Err e) none = none
