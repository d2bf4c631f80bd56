-- A journaled handler beside whose exchanges a checkpoint is written.
use Rattle.std.proofs.Common.{◌≡◌, ◌∙◌, inl, inr, ◌⊎◌, ◌≤◌, ◌+◌, ◌++◌, ℕ, ℤ, Bool, true, false, IsTrue, List, [], length, take, Option, None, Some, IfSome, is_some, Result, Ok, Err, refl, sym, ap, subst, arith}
use Rattle.std.proofs.lemmas.Bool.{false≢true}
use Rattle.std.proofs.lemmas.List.{append-nil, append_assoc, take_all}
use Rattle.std.proofs.Math.Seq.{take-append-add}
use Rattle.oai_http.specs.Exchanges.{Asked}
use Rattle.oai_http.specs.declared.exchanges.Answer.{Answer}
use Rattle.oai_http.specs.declared.handlers.SettleFault.{SettleFault}
use Rattle.oai_journal.specs.Journals.{IsLeft}
use Rattle.oai_journal.specs.Records.{Entry}
use Rattle.oai_journal.specs.declared.journals.Journal as journal
use Rattle.oai_durable.specs.Checkpointed.{AreAll, Checkpointed, IsExchangeBeside, IsHeldBeside, IsInDoubt, IsKeptBeside, IsReadRight, IsSwitched, IsSettledBeside, IsSettlingSound, IsStepSound, LeavesFirst, MayLeaveBeside, StaysWritten, StepEnd, commits, fails_to_commit, keeps_journal, refuses, switches}
use Rattle.oai_durable.specs.Journaled.{IsHeld, IsSettled, Parts, Replaying}
use Rattle.oai_durable.specs.OnlineCheckpoints.{IsWriting, LeavesSame, Writing}
use Rattle.oai_durable.specs.Records.{Leaving, redone_all}
use Rattle.oai_durable.specs.Stood.{IsLeftLike, StandInFor}
use Rattle.oai_durable.proofs.MoveLemmas.{place_over}
use Rattle.oai_durable.proofs.OnlineLemmas.{writing_exchanged, writing_settled}
use Rattle.oai_durable.proofs.StandLemmas.{stand_behind, stand_crashed, stand_durable, stand_replaced, stand_same}

-- parts are those that they have
pub parts_are : {H J : Type 0} (parts : Parts H J) (handler : H) (journal' : J) → parts.handler ≡ handler → parts.journal ≡ journal' → parts ≡ record { handler = handler; journal = journal' }
parts_are parts handler journal' one other = rw (← one, ← other) refl

pub none_if : {A : Type 0} (found : Option A) (is : Bool) → is ≡ is_some found → is ≡ false → found ≡ None
none_if None is same not = refl
none_if (Some a) is same not = absurd (false≢true (sym not ∙ same))

-- ---- what is kept

-- nothing is there
if_none : {A : Type 0} (P : A → Type 0) (found : Option A) → found ≡ None → IfSome found P
if_none P found is = rw is tt

-- what holds of what is there holds of it
if_some : {A : Type 0} (P Q : A → Type 0) (found : Option A) → ((a : A) → P a → Q a) → IfSome found P → IfSome found Q
if_some P Q None follows holds = tt
if_some P Q (Some a) follows holds = follows a holds

it_has : {A : Type 0} (P : A → Type 0) (found : Option A) (a : A) → found ≡ Some a → IfSome found P → P a
it_has P found a is holds = rw is at holds

-- the state of the handler is what the records leave
pub kept_beside : {H J K : Type 0} (h : Replaying H) (j : journal.Ghosts J) (k : journal.Ghosts K) (emptied : h.Kept → h.Kept) (begun : h.Kept) (now : Checkpointed H J K) (entries : List Entry) (durable : ℕ)
    → IsHeldBeside h j k emptied begun now entries durable → IsTrue (h.is_honest now.parts.handler) → h.kept now.parts.handler ≡ redone_all h.leaving begun entries
kept_beside h j k emptied begun now entries durable is honest = is.held.kept honest ∙ stand_same h.leaving begun entries durable is.file is.many is.stands

-- a new journal still leaves the first of the records, if more come
leaves_still : {K S : Type 0} (k : journal.Ghosts K) (leaving : Leaving S) (begun : S) (entries own : List Entry) (durable : ℕ) (new : K)
    → LeavesFirst k leaving begun entries durable new → LeavesFirst k leaving begun (entries ++ own) durable new
leaves_still k leaving begun entries own durable new is = record {
  first = is.first;
  behind = is.behind ++ own;
  are = ap (λ (es : List Entry). es ++ own) is.are ∙ append_assoc is.first is.behind own;
  enough = is.enough;
  leaves = is.leaves;
}

pub exchange_beside : {H J K : Type 0} (h : Replaying H) (j : journal.Ghosts J) (k : journal.Ghosts K) (emptied : h.Kept → h.Kept) (begun : h.Kept) (entries : List Entry) (durable : ℕ)
    (before now : Checkpointed H J K) (moment : ℤ) (asked : Asked) (answer : Answer)
    → IsHeldBeside h j k emptied begun before entries durable → IsExchangeBeside h j before moment asked answer now
    → IsKeptBeside h j k emptied begun entries durable before moment asked answer now
exchange_beside {H} {J} {K} h j k emptied begun entries durable before now moment asked answer is done =
    let kept = done.exchange.kept begun is.file is.many is.held in
    record {
      own = kept.own;
      one = kept.one;
      held = record {
        file = is.file ++ kept.own;
        many = is.many;
        held = kept.held;
        stands = stand_behind h.leaving begun entries durable is.file is.many kept.own is.stands;
        written = subst (λ (w : Option (Writing K)). IfSome w (λ w'. IsWriting h j k emptied begun now.parts (is.file ++ kept.own) is.many w')) (sym done.writing)
            (if_some (λ w. IsWriting h j k emptied begun before.parts is.file is.many w) (λ w. IsWriting h j k emptied begun now.parts (is.file ++ kept.own) is.many w) before.writing
            (λ w writes. writing_exchanged h j k emptied begun before.parts now.parts moment asked answer is.file kept.own is.many w done.exchange writes) is.written);
        unsynced = subst (λ (new : Option K). IfSome new (λ new'. LeavesFirst k h.leaving begun (entries ++ kept.own) durable new')) (sym done.unsynced)
            (if_some (λ new. LeavesFirst k h.leaving begun entries durable new) (λ new. LeavesFirst k h.leaving begun (entries ++ kept.own) durable new) before.unsynced
            (λ new leaves. leaves_still k h.leaving begun entries kept.own durable new leaves) is.unsynced);
      };
      place = λ honest.
          place_over h.leaving h.reply begun entries durable is.file is.many (record { moment = moment; asked = asked; answer = answer; own = kept.own }) is.stands
          (record { told = kept.told honest; left = kept.left honest });
    }

-- behind a commit the file has all records, and the checkpoint is one of them
record IsCommitted {H J K : Type 0} (h : Replaying H) (j : journal.Ghosts J) (k : journal.Ghosts K) (emptied : h.Kept → h.Kept) (begun : h.Kept) (parts : Parts H J) (at : Option (Writing K)) (entries : List Entry) : Type 0 where
  pub file : List Entry
  pub all : AreAll h j k emptied begun parts at file
  pub stands : StandInFor h.leaving begun entries (length entries) file (length file)

committed : {H J K : Type 0} (h : Replaying H) (j : journal.Ghosts J) (k : journal.Ghosts K) (emptied : h.Kept → h.Kept) (begun : h.Kept) (before : Checkpointed H J K) (now : Parts H J) (entries : List Entry) (durable : ℕ)
    → emptied begun ≡ begun → IsHeldBeside h j k emptied begun before entries durable → IsSettled j before.parts (Ok tt) now
    → IsCommitted h j k emptied begun now before.writing entries
committed {H} {J} {K} h j k emptied begun before now entries durable begins is settles = record {
  file = is.file;
  all = record {
    begins = begins;
    held = record {
      records = settles.ok is.file is.many is.held.records;
      kept = λ honest. ap h.kept settles.handler ∙ is.held.kept (sym (ap h.is_honest settles.handler) ∙ honest);
    };
    written = if_some (λ w. IsWriting h j k emptied begun before.parts is.file is.many w) (λ w. IsWriting h j k emptied begun now is.file (length is.file) w) before.writing
        (λ w writes. writing_settled h j k emptied begun before.parts now is.file is.many w is.held settles writes) is.written;
  };
  stands = stand_durable h.leaving begun entries durable is.file is.many is.stands;
}

abbrev IsSame : {A E : Type 0} → Result A E → Result A E → Type 0
IsSame a b = a ≡ b

not_both : {A E : Type 0} (a : A) (e : E) → IsSame (Ok a) (Err e) → ⊥
not_both a e is = cc

-- a new journal in the place of the old one
replaced_beside : {H J K : Type 0} (h : Replaying H) (j : journal.Ghosts J) (k : journal.Ghosts K) (emptied : h.Kept → h.Kept) (second : K → J) (begun : h.Kept)
    → ((new : K) (es : List Entry) (n : ℕ) → k.holds new es n → j.holds (second new) es n)
    → (read : Parts H J) (new : K) (result : Result (Unit {0}) SettleFault) (now : Checkpointed H J K) (file entries : List Entry)
    → IsHeld h j begun read file (length file) → StandInFor h.leaving begun entries (length entries) file (length file) → LeavesSame k h.leaving begun file new
    → IsSwitched second read new result now → IsHeldBeside h j k emptied begun now entries (length entries)
replaced_beside {H} {J} {K} h j k emptied second begun seconds read new result now file entries held stands leaves put =
    let there : IsHeld h j begun (record { handler = read.handler; journal = second new }) leaves.file (length leaves.file) =
    record { records = seconds new leaves.file (length leaves.file) leaves.holds; kept = λ honest. held.kept honest ∙ sym leaves.leaves } in
    record {
      file = leaves.file;
      many = length leaves.file;
      held = subst (λ (p : Parts H J). IsHeld h j begun p leaves.file (length leaves.file)) (sym put.parts) there;
      stands = stand_replaced h.leaving begun entries leaves.file (leaves.leaves ∙ stand_same h.leaving begun entries (length entries) file (length file) stands);
      written = if_none _ now.writing put.writing;
      unsynced = if_none _ now.unsynced put.unsynced;
    }

pub settled_beside : {H J K : Type 0} (h : Replaying H) (j : journal.Ghosts J) (k : journal.Ghosts K) (emptied : h.Kept → h.Kept) (second : K → J) (begun : h.Kept)
    → ((new : K) (es : List Entry) (n : ℕ) → k.holds new es n → j.holds (second new) es n) → emptied begun ≡ begun
    → (before now : Checkpointed H J K) (entries : List Entry) (durable : ℕ) → IsHeldBeside h j k emptied begun before entries durable
    → (settles : IsSettledBeside h j k emptied second before (Ok tt) now) → IsSettlingSound h j k emptied second before (Ok tt) now settles
    → IsHeldBeside h j k emptied begun now entries (length entries)
settled_beside h j k emptied second begun seconds begins before now entries durable is (fails_to_commit done) sound = absurd (not_both tt done.fault done.err)
settled_beside h j k emptied second begun seconds begins before now entries durable is (refuses fault err same) sound = absurd (not_both tt fault err)
settled_beside {H} {J} {K} h j k emptied second begun seconds begins before now entries durable is (commits done) sound =
    let steps = done.steps in
    let all = committed h j k emptied begun before done.committed entries durable begins is done.commits in
    let held = steps.held begun all.file (length all.file) all.all.held in
    by_end all.file steps.read held all.all all.stands steps.ends sound
  where
    by_end : (file : List Entry) (read : Parts H J) → IsHeld h j begun read file (length file) → AreAll h j k emptied begun done.committed before.writing file
        → StandInFor h.leaving begun entries (length entries) file (length file)
        → (ends : StepEnd h j k emptied second done.committed before.writing read (Ok tt) now)
        → IsStepSound h j k emptied second done.committed before.writing read (Ok tt) now ends → IsHeldBeside h j k emptied begun now entries (length entries)
    by_end file read held all stands (keeps_journal goes) right = record {
      file = file;
      many = length file;
      held = subst (λ (p : Parts H J). IsHeld h j begun p file (length file)) (sym goes.parts) held;
      stands = stands;
      written = written_still now.writing goes.written right;
      unsynced = if_none _ now.unsynced goes.unsynced;
    }
      where
        written_still : (at : Option (Writing K)) → StaysWritten h j k emptied done.committed before.writing read at → IfSome at (λ w. IsReadRight h j read)
            → IfSome at (λ w. IsWriting h j k emptied begun now.parts file (length file) w)
        written_still None stays sound' = tt
        written_still (Some w) stays sound' = subst (λ (p : Parts H J). IsWriting h j k emptied begun p file (length file) w) (sym goes.parts) (stays sound' begun file all)
    by_end file read held all stands (switches put_in) right = elim put_in.is [
      | inl put ↦ replaced_beside h j k emptied second begun seconds read put_in.new (Ok tt) now file entries held stands (put_in.may right begun file all) put
      | inr doubt ↦ absurd (not_both tt doubt.fault doubt.err)
    ]

-- ---- a crash

-- what a crash leaves where the journal holds the file, and where a new one may be in its place
pub crash_beside : {H J K : Type 0} (h : Replaying H) (j : journal.Ghosts J) (k : journal.Ghosts K)
    → ((journal' : J) (entries : List Entry) (durable : ℕ) (found : List Entry) → j.holds journal' entries durable → j.may_leave journal' found → IsLeft durable entries found)
    → ((journal' : K) (entries : List Entry) (durable : ℕ) (found : List Entry) → k.holds journal' entries durable → k.may_leave journal' found → IsLeft durable entries found)
    → (begun : h.Kept) (now : Checkpointed H J K) (entries file : List Entry) (durable many : ℕ) (left : List Entry)
    → j.holds now.parts.journal file many → StandInFor h.leaving begun entries durable file many → IfSome now.unsynced (λ new. LeavesFirst k h.leaving begun entries durable new)
    → MayLeaveBeside j k now left → IsLeftLike h.leaving begun entries durable left
crash_beside h j k of_old of_new begun now entries file durable many left holds stands unsynced (inl leaves) =
    stand_crashed h.leaving begun entries durable file many left stands (of_old now.parts.journal file many left holds leaves)
crash_beside h j k of_old of_new begun now entries file durable many left holds stands unsynced (inr new) =
    let is = it_has (λ new'. LeavesFirst k h.leaving begun entries durable new') now.unsynced new.0 new.1 unsynced in
    let all = of_new new.0 is.leaves.file (length is.leaves.file) left is.leaves.holds new.2 in
    let whole : left ≡ is.leaves.file = all.is ∙ take_all all.count is.leaves.file all.enough in
    record {
      found = is.first;
      leaves = record { count = length is.first; enough = is.enough; is = sym (ap (λ (es : List Entry). take (length is.first) es) is.are ∙ take_first is.first is.behind) };
      stands = stand_replaced h.leaving begun is.first left (ap (λ (es : List Entry). redone_all h.leaving begun es) whole ∙ is.leaves.leaves);
    }
  where
    take_first : (first behind : List Entry) → take (length first) (first ++ behind) ≡ first
    take_first first behind = ap (λ (n : ℕ). take n (first ++ behind)) (plus_zero (length first)) ∙ take-append-add first behind 0 ∙ append-nil first
      where
        plus_zero : (n : ℕ) → n ≡ n + 0
        plus_zero n = omega (arith)

-- what it would have left of more records that are durable
left_less_like : {S : Type 0} (leaving : Leaving S) (begun : S) (entries : List Entry) (less durable : ℕ) (left : List Entry) → less ≤ durable
    → IsLeftLike leaving begun entries durable left → IsLeftLike leaving begun entries less left
left_less_like leaving begun entries less durable left low like = record {
  found = like.found;
  leaves = record { count = like.leaves.count; enough = omega (arith, low, like.leaves.enough); is = like.leaves.is };
  stands = like.stands;
}

pub held_crashed : {H J K : Type 0} (h : Replaying H) (j : journal.Ghosts J) (k : journal.Ghosts K) (emptied : h.Kept → h.Kept)
    → ((journal' : J) (entries : List Entry) (durable : ℕ) (found : List Entry) → j.holds journal' entries durable → j.may_leave journal' found → IsLeft durable entries found)
    → ((journal' : K) (entries : List Entry) (durable : ℕ) (found : List Entry) → k.holds journal' entries durable → k.may_leave journal' found → IsLeft durable entries found)
    → (begun : h.Kept) (now : Checkpointed H J K) (entries : List Entry) (durable : ℕ) (left : List Entry)
    → IsHeldBeside h j k emptied begun now entries durable → MayLeaveBeside j k now left → IsLeftLike h.leaving begun entries durable left
held_crashed h j k emptied of_old of_new begun now entries durable left is leaves =
    crash_beside h j k of_old of_new begun now entries is.file durable is.many left is.held.records is.stands is.unsynced leaves

-- and where settling failed
pub unsettled_crashed : {H J K : Type 0} (h : Replaying H) (j : journal.Ghosts J) (k : journal.Ghosts K) (emptied : h.Kept → h.Kept) (second : K → J)
    → ((journal' : J) (entries : List Entry) (durable : ℕ) (found : List Entry) → j.holds journal' entries durable → j.may_leave journal' found → IsLeft durable entries found)
    → ((journal' : K) (entries : List Entry) (durable : ℕ) (found : List Entry) → k.holds journal' entries durable → k.may_leave journal' found → IsLeft durable entries found)
    → (begun : h.Kept) → emptied begun ≡ begun
    → (before now : Checkpointed H J K) (fault : SettleFault) (entries : List Entry) (durable : ℕ) (left : List Entry) → durable ≤ length entries
    → IsHeldBeside h j k emptied begun before entries durable
    → (settles : IsSettledBeside h j k emptied second before (Err fault) now) → IsSettlingSound h j k emptied second before (Err fault) now settles
    → MayLeaveBeside j k now left → IsLeftLike h.leaving begun entries durable left
unsettled_crashed {H} {J} {K} h j k emptied second of_old of_new begun begins before now fault entries durable left few is (fails_to_commit done) sound leaves =
    crash_beside h j k of_old of_new begun now entries is.file durable is.many left (done.settled.err is.file is.many is.held.records) is.stands
    (subst (λ (new : Option K). IfSome new (λ new'. LeavesFirst k h.leaving begun entries durable new')) (sym done.unsynced) is.unsynced) leaves
unsettled_crashed {H} {J} {K} h j k emptied second of_old of_new begun begins before now fault entries durable left few is (refuses cause err same) sound leaves =
    held_crashed h j k emptied of_old of_new begun before entries durable left is (subst (λ (c : Checkpointed H J K). MayLeaveBeside j k c left) same leaves)
unsettled_crashed {H} {J} {K} h j k emptied second of_old of_new begun begins before now fault entries durable left few is (commits done) sound leaves =
    let all = committed h j k emptied begun before done.committed entries durable begins is done.commits in
    by_end all.file done.steps.read (done.steps.held begun all.file (length all.file) all.all.held) all.all all.stands done.steps.ends sound
  where
    by_end : (file : List Entry) (read : Parts H J) → IsHeld h j begun read file (length file) → AreAll h j k emptied begun done.committed before.writing file
        → StandInFor h.leaving begun entries (length entries) file (length file)
        → (ends : StepEnd h j k emptied second done.committed before.writing read (Err fault) now)
        → IsStepSound h j k emptied second done.committed before.writing read (Err fault) now ends → IsLeftLike h.leaving begun entries durable left
    by_end file read held all stands (keeps_journal goes) right = absurd (not_both tt fault (sym goes.ok))
    by_end file read held all stands (switches put_in) right = elim put_in.is [
      | inl put ↦ absurd (not_both tt fault (sym put.ok))
      | inr doubt ↦ in_doubt doubt (put_in.may right begun file all)
    ]
      where
        in_doubt : IsInDoubt read put_in.new (Err fault) now → LeavesSame k h.leaving begun file put_in.new → IsLeftLike h.leaving begun entries durable left
        in_doubt doubt same =
            let same_all : LeavesSame k h.leaving begun entries put_in.new =
            record { file = same.file; holds = same.holds; leaves = same.leaves ∙ stand_same h.leaving begun entries (length entries) file (length file) stands } in
            let all_first : LeavesFirst k h.leaving begun entries (length entries) put_in.new =
            record { first = entries; behind = []; are = sym (append-nil entries); enough = omega (arith); leaves = same_all } in
            left_less_like h.leaving begun entries durable (length entries) left few
            (crash_beside h j k of_old of_new begun now entries file (length entries) (length file) left
            (subst (λ (p : Parts H J). j.holds p.journal file (length file)) (sym doubt.parts) held.records) stands
            (subst (λ (new : Option K). IfSome new (λ new'. LeavesFirst k h.leaving begun entries (length entries) new')) (sym doubt.unsynced) all_first) leaves)
