-- A checkpoint that is written while exchanges go on.
use Rattle.std.specs.Prelude.{not}
use Rattle.std.proofs.Common.{◌≡◌, ◌∙◌, ◌≤◌, ◌+◌, ◌-◌, ℕ, ℤ, Bool, true, false, IsTrue, Ok, List, [], ◌∷◌, ◌++◌, length, take, drop, refl, sym, ap, subst, arith}
use Rattle.std.proofs.lemmas.List.{append-nil, append_assoc, length-append, length-take, map-append, take-append-drop, take_all}
use Rattle.std.proofs.lemmas.Bool.{false≢true}
use Rattle.std.proofs.Math.Nat.{min-le_left}
use Rattle.std.proofs.Math.Seq.{take-append-add}
use Rattle.oai_http.specs.Exchanges.{Asked}
use Rattle.oai_http.specs.declared.exchanges.Answer.{Answer}
use Rattle.oai_http.specs.declared.exchanges.Call.{Call}
use Rattle.oai_journal.specs.Copies.{AreCopied}
use Rattle.oai_journal.specs.Records.{Entry}
use Rattle.oai_journal.specs.declared.journals.Journal as journal
use Rattle.oai_journal.specs.declared.tails.Tail.{Tail}
use Rattle.oai_replay.specs.Parts.{PartState, restored_all}
use Rattle.oai_durable.specs.Checkpoints.{HasSaved, records_of_parts}
use Rattle.oai_durable.specs.Journaled.{IsExchange, IsHeld, IsSettled, Parts, Replaying}
use Rattle.oai_durable.specs.OnlineCheckpoints.{AreInNew, IsCopying, IsWriting, IsWritingOn, LeavesSame, Writing}
use Rattle.oai_durable.specs.Records.{Leaving, entry_of_part, redone_all}
use Rattle.oai_durable.specs.Stood.{IsHeldBy}
use Rattle.oai_durable.proofs.CheckpointLemmas.{redone_parts, same_left}
use Rattle.oai_durable.proofs.RecordLemmas.{redone_append}
use Rattle.oai_durable.proofs.StandLemmas.{stand_replaced}

-- the new journal is committed
pub writing_committed : {H J K : Type 0} (h : Replaying H) (j : journal.Ghosts J) (k : journal.Ghosts K) (emptied : h.Kept → h.Kept) (begun : h.Kept) (now : Parts H J)
    (entries : List Entry) (durable : ℕ) (w next : Writing K)
    → next.tail ≡ w.tail → next.whole ≡ w.whole
    → ((es : List Entry) (lasting : ℕ) → k.holds w.journal es lasting → k.holds next.journal es (length es))
    → IsWriting h j k emptied begun now entries durable w → IsWriting h j k emptied begun now entries durable next
writing_committed h j k emptied begun now entries durable w next same_tail same_whole commits is = record {
  first = is.first;
  saved = is.saved;
  copied = is.copied;
  behind = is.behind;
  are = is.are;
  enough = is.enough;
  stands = subst (λ (t : Tail). j.stands now.journal t (is.first ++ is.copied)) (sym same_tail) is.stands;
  lasting = length (records_of_parts is.saved ++ is.copied);
  holds = commits (records_of_parts is.saved ++ is.copied) is.lasting is.holds;
  new = subst (λ (b : Bool). AreInNew h emptied now.handler (redone_all h.leaving begun is.first) is.saved is.copied b) (sym same_whole) is.new;
}

-- at its beginning nothing is saved, and nothing copied
pub writing_begun : {H J K : Type 0} (h : Replaying H) (j : journal.Ghosts J) (k : journal.Ghosts K) (emptied : h.Kept → h.Kept) (begun : h.Kept) (before : Parts H J) (now : Parts H J)
    (entries : List Entry) (lasting : ℕ) (new : K) (tail : Tail)
    → IsTrue (h.is_honest before.handler) → IsHeld h j begun before entries (length entries) → k.holds new [] lasting
    → h.saves now.handler (h.kept before.handler) [] → j.stands now.journal tail (take (length entries) entries)
    → IsWriting h j k emptied begun now entries (length entries) (record { journal = new; tail = tail; whole = false })
writing_begun h j k emptied begun before now entries lasting new tail honest held holds saves stands = record {
  first = entries;
  saved = [];
  copied = [];
  behind = [];
  are = sym (append-nil (entries ++ []) ∙ append-nil entries);
  enough = omega (arith, ap length (append-nil entries));
  stands = subst (λ (es : List Entry). j.stands now.journal tail es) (take_all (length entries) entries (omega (arith)) ∙ sym (append-nil entries)) stands;
  lasting = lasting;
  holds = holds;
  new = (subst (λ (state : h.Kept). h.saves now.handler state []) (held.kept honest) saves, refl);
}

-- some more parts are saved; if these were the last ones, all are
in_new : {H : Type 0} (h : Replaying H) (emptied : h.Kept → h.Kept) (handler : H) (state : h.Kept) (saved copied : List PartState) (more : Bool)
    → h.saves handler state saved → (more ≡ false → restored_all h.leaving.restored (emptied state) saved ≡ state)
    → AreInNew h emptied handler state saved [] (not more)
in_new h emptied handler state saved copied true saves all = (saves, refl)
in_new h emptied handler state saved copied false saves all = all refl

-- what was saved before
were_saving : {H : Type 0} (h : Replaying H) (emptied : h.Kept → h.Kept) (handler : H) (state : h.Kept) (saved : List PartState) (copied : List Entry) (whole : Bool)
    → whole ≡ false → AreInNew h emptied handler state saved copied whole → h.saves handler state saved × (copied ≡ [])
were_saving h emptied handler state saved copied whole is new = rw is at new

pub writing_saved : {H J K : Type 0} (h : Replaying H) (j : journal.Ghosts J) (k : journal.Ghosts K) (emptied : h.Kept → h.Kept) (begun : h.Kept) (before now : Parts H J)
    (entries : List Entry) (durable : ℕ) (w next : Writing K) (more : Bool) (some : List PartState)
    → w.whole ≡ false → now.journal ≡ before.journal → next.tail ≡ w.tail → next.whole ≡ not more
    → ((saved : List PartState) → HasSaved k w.journal saved → HasSaved k next.journal (saved ++ some))
    → ((state : h.Kept) (saved : List PartState) → h.saves before.handler state saved → h.saves now.handler state (saved ++ some))
    → (more ≡ false → (state : h.Kept) (saved : List PartState) → h.saves now.handler state saved → restored_all h.leaving.restored (emptied state) saved ≡ state)
    → IsWriting h j k emptied begun before entries durable w → IsWriting h j k emptied begun now entries durable next
writing_saved {H} {J} {K} h j k emptied begun before now entries durable w next more some part same_journal same_tail whole taken saves all is =
    let state : h.Kept = redone_all h.leaving begun is.first in
    let was = were_saving h emptied before.handler state is.saved is.copied w.whole part is.new in
    let none : is.first ++ is.copied ≡ is.first ++ [] = ap (λ (es : List Entry). is.first ++ es) was.1 in
    let before_held : HasSaved k w.journal is.saved =
    (is.lasting, subst (λ (es : List Entry). k.holds w.journal es is.lasting) (ap (λ (es : List Entry). records_of_parts is.saved ++ es) was.1 ∙ append-nil (records_of_parts is.saved)) is.holds) in
    let held = taken is.saved before_held in
    let still = saves state is.saved was.0 in
    record {
      first = is.first;
      saved = is.saved ++ some;
      copied = [];
      behind = is.behind;
      are = is.are ∙ ap (λ (es : List Entry). es ++ is.behind) none;
      enough = omega (arith, is.enough, ap length none);
      stands = subst (λ (t : Tail). j.stands now.journal t (is.first ++ [])) (sym same_tail)
          (subst (λ (journal' : J). j.stands journal' w.tail (is.first ++ [])) (sym same_journal) (subst (λ (es : List Entry). j.stands before.journal w.tail es) none is.stands));
      lasting = held.0;
      holds = subst (λ (es : List Entry). k.holds next.journal es held.0) (sym (append-nil (records_of_parts (is.saved ++ some)))) held.1;
      new = subst (λ (b : Bool). AreInNew h emptied now.handler state (is.saved ++ some) [] b) (sym whole)
          (in_new h emptied now.handler state (is.saved ++ some) [] more still (λ over. all over state (is.saved ++ some) still));
    }

-- ---- records that are copied

taken_few : (n : ℕ) (entries : List Entry) → length (take n entries) ≤ n
taken_few n entries = omega (arith, length-take n entries, min-le_left n (length entries))

-- the durable records behind those that are copied
durable_behind : (entries read behind : List Entry) (durable : ℕ) → entries ≡ read ++ behind → length read ≤ durable
    → take durable entries ≡ read ++ take (durable - length read) behind
durable_behind entries read behind durable are enough =
    let cut : durable ≡ length read + (durable - length read) = omega (arith, enough) in
    ap (λ (es : List Entry). take durable es) are ∙ ap (λ (n : ℕ). take n (read ++ behind)) cut ∙ take-append-add read behind (durable - length read)

-- all parts are there, whatever is copied
in_new_whole : {H : Type 0} (h : Replaying H) (emptied : h.Kept → h.Kept) (handler now : H) (state : h.Kept) (saved : List PartState) (copied others : List Entry) (whole next : Bool)
    → IsTrue whole → next ≡ whole → AreInNew h emptied handler state saved copied whole → AreInNew h emptied now state saved others next
in_new_whole h emptied handler now state saved copied others true next is same new = rw same new
in_new_whole h emptied handler now state saved copied others false next is same new = absurd (false≢true is)

pub writing_copied : {H J K : Type 0} (h : Replaying H) (j : journal.Ghosts J) (k : journal.Ghosts K) (emptied : h.Kept → h.Kept) (begun : h.Kept) (before now : Parts H J)
    (entries : List Entry) (durable : ℕ) (w next : Writing K) (bytes : ℕ) (more : Bool)
    → IsTrue w.whole → next.whole ≡ w.whole
    → ((read behind : List Entry) → take durable entries ≡ read ++ behind → j.stands before.journal w.tail read
    → (others : List Entry) (lasting : ℕ) → k.holds w.journal others lasting
    → AreCopied (j.stands now.journal next.tail) (λ records. k.holds next.journal records lasting) read behind others bytes more)
    → IsWriting h j k emptied begun before entries durable w → IsCopying h j k emptied begun now entries durable next more
writing_copied h j k emptied begun before now entries durable w next bytes more whole same_whole copies is =
    let read : List Entry = is.first ++ is.copied in
    let kept : ℕ = durable - length read in
    let first : take durable entries ≡ read ++ take kept is.behind = durable_behind entries read is.behind durable is.are is.enough in
    let some = copies read (take kept is.behind) first is.stands (records_of_parts is.saved ++ is.copied) is.lasting is.holds in
    let joined : read ++ some.some ≡ is.first ++ (is.copied ++ some.some) = append_assoc is.first is.copied some.some in
    let cut : entries ≡ take durable entries ++ drop durable entries = sym (take-append-drop durable entries) in
    let rest : List Entry = some.rest ++ drop durable entries in
    let are : entries ≡ (is.first ++ (is.copied ++ some.some)) ++ rest =
    cut ∙ ap (λ (es : List Entry). es ++ drop durable entries) (first ∙ ap (λ (es : List Entry). read ++ es) some.are ∙ sym (append_assoc read some.some some.rest))
    ∙ append_assoc (read ++ some.some) some.rest (drop durable entries) ∙ ap (λ (es : List Entry). es ++ rest) joined in
    let durable_are : take durable entries ≡ (is.first ++ (is.copied ++ some.some)) ++ some.rest =
    first ∙ ap (λ (es : List Entry). read ++ es) some.are ∙ sym (append_assoc read some.some some.rest) ∙ ap (λ (es : List Entry). es ++ some.rest) joined in
    record {
      writing = record {
        first = is.first;
        saved = is.saved;
        copied = is.copied ++ some.some;
        behind = rest;
        are = are;
        enough = omega (arith, ap length durable_are, length-append (is.first ++ (is.copied ++ some.some)) some.rest, taken_few durable entries);
        stands = subst (λ (es : List Entry). j.stands now.journal next.tail es) joined some.stand;
        lasting = is.lasting;
        holds = subst (λ (es : List Entry). k.holds next.journal es is.lasting) (append_assoc (records_of_parts is.saved) is.copied some.some) some.hold;
        new = in_new_whole h emptied before.handler now.handler (redone_all h.leaving begun is.first) is.saved is.copied (is.copied ++ some.some) w.whole next.whole whole same_whole is.new;
      };
      whole = rw same_whole whole;
      all = λ over. durable_are ∙ ap (λ (es : List Entry). (is.first ++ (is.copied ++ some.some)) ++ es) (some.all over) ∙ append-nil (is.first ++ (is.copied ++ some.some));
    }

-- ---- the end

-- all parts of a state restore it, also from the beginning
parts_leave : {K : Type 0} (leaving : Leaving K) (emptied : K → K) (begun : K) (first : List Entry) (saved : List PartState)
    → ((kept : K) (call : Call) → emptied (leaving.redone kept call) ≡ emptied kept)
    → ((kept : K) (part : PartState) → emptied (leaving.restored kept part) ≡ emptied kept)
    → emptied begun ≡ begun → restored_all leaving.restored (emptied (redone_all leaving begun first)) saved ≡ redone_all leaving begun first
    → redone_all leaving begun (records_of_parts saved) ≡ redone_all leaving begun first
parts_leave {K} leaving emptied begun first saved calls parts begins whole =
    let from : emptied (redone_all leaving begun first) ≡ begun = same_left leaving emptied calls parts begun first ∙ begins in
    redone_parts leaving begun saved ∙ ap (λ (k : K). restored_all leaving.restored k saved) (sym from) ∙ whole

whole_is : {H : Type 0} (h : Replaying H) (emptied : h.Kept → h.Kept) (handler : H) (state : h.Kept) (saved : List PartState) (copied : List Entry) (whole : Bool)
    → IsTrue whole → AreInNew h emptied handler state saved copied whole → restored_all h.leaving.restored (emptied state) saved ≡ state
whole_is h emptied handler state saved copied true is new = new
whole_is h emptied handler state saved copied false is new = absurd (false≢true is)

-- where all durable records are copied, and the new journal is committed, it is written
pub writing_over : {H J K : Type 0} (h : Replaying H) (j : journal.Ghosts J) (k : journal.Ghosts K) (emptied : h.Kept → h.Kept) (begun : h.Kept) (now : Parts H J)
    (entries : List Entry) (durable : ℕ) (w next : Writing K) (more : Bool)
    → ((kept : h.Kept) (call : Call) → emptied (h.leaving.redone kept call) ≡ emptied kept)
    → ((kept : h.Kept) (part : PartState) → emptied (h.leaving.restored kept part) ≡ emptied kept)
    → emptied begun ≡ begun → next.tail ≡ w.tail → next.whole ≡ w.whole
    → ((es : List Entry) (lasting : ℕ) → k.holds w.journal es lasting → k.holds next.journal es (length es))
    → IsCopying h j k emptied begun now entries durable w more → IsWritingOn h j k emptied begun now entries durable next more
writing_over {H} {J} {K} h j k emptied begun now entries durable w next more calls parts begins same_tail same_whole commits is =
    let at = is.writing in
    let file : List Entry = records_of_parts at.saved ++ at.copied in
    record {
      writing = writing_committed h j k emptied begun now entries durable w next same_tail same_whole commits at;
      over = λ over all. record {
        file = file;
        holds = commits file at.lasting at.holds;
        leaves =
            redone_append h.leaving begun (records_of_parts at.saved) at.copied
            ∙ ap (λ (s : h.Kept). redone_all h.leaving s at.copied) (parts_leave h.leaving emptied begun at.first at.saved calls parts begins
            (whole_is h emptied now.handler (redone_all h.leaving begun at.first) at.saved at.copied w.whole is.whole at.new))
            ∙ sym (redone_append h.leaving begun at.first at.copied)
            ∙ ap (λ (es : List Entry). redone_all h.leaving begun es) (sym (is.all over) ∙ ap (λ (n : ℕ). take n entries) all ∙ take_all (length entries) entries (omega (arith)));
      };
    }

-- the new journal is read back
pub writing_read : {H J K : Type 0} (h : Replaying H) (j : journal.Ghosts J) (k : journal.Ghosts K) (emptied : h.Kept → h.Kept) (begun : h.Kept) (now : Parts H J)
    (entries : List Entry) (durable : ℕ) (w next : Writing K) (more unread : Bool)
    → more ≡ false → next.tail ≡ w.tail → next.whole ≡ w.whole
    → ((es : List Entry) (lasting : ℕ) → k.holds w.journal es lasting → k.holds next.journal es lasting)
    → IsWritingOn h j k emptied begun now entries durable w more → IsWritingOn h j k emptied begun now entries durable next unread
writing_read h j k emptied begun now entries durable w next more unread none same_tail same_whole same is =
    let at = is.writing in
    record {
      writing = record {
        first = at.first;
        saved = at.saved;
        copied = at.copied;
        behind = at.behind;
        are = at.are;
        enough = at.enough;
        stands = subst (λ (t : Tail). j.stands now.journal t (at.first ++ at.copied)) (sym same_tail) at.stands;
        lasting = at.lasting;
        holds = same (records_of_parts at.saved ++ at.copied) at.lasting at.holds;
        new = subst (λ (b : Bool). AreInNew h emptied now.handler (redone_all h.leaving begun at.first) at.saved at.copied b) (sym same_whole) at.new;
      };
      over = λ over all.
          let leaves = is.over none all in
          record { file = leaves.file; holds = same leaves.file (length leaves.file) leaves.holds; leaves = leaves.leaves };
    }

-- ---- beside exchanges

in_new_after : {H : Type 0} (h : Replaying H) (emptied : h.Kept → h.Kept) (before now : H) (state : h.Kept) (saved : List PartState) (copied : List Entry) (whole : Bool)
    → (h.saves before state saved → h.saves now state saved) → AreInNew h emptied before state saved copied whole → AreInNew h emptied now state saved copied whole
in_new_after h emptied before now state saved copied true saves new = new
in_new_after h emptied before now state saved copied false saves new = (saves new.0, new.1)

-- an exchange, whatever it logs
pub writing_exchanged : {H J K : Type 0} (h : Replaying H) (j : journal.Ghosts J) (k : journal.Ghosts K) (emptied : h.Kept → h.Kept) (begun : h.Kept) (before now : Parts H J)
    (moment : ℤ) (asked : Asked) (answer : Answer) (entries own : List Entry) (durable : ℕ) (w : Writing K)
    → IsExchange h j before moment asked answer now → IsWriting h j k emptied begun before entries durable w → IsWriting h j k emptied begun now (entries ++ own) durable w
writing_exchanged h j k emptied begun before now moment asked answer entries own durable w exchange is = record {
  first = is.first;
  saved = is.saved;
  copied = is.copied;
  behind = is.behind ++ own;
  are = ap (λ (es : List Entry). es ++ own) is.are ∙ append_assoc (is.first ++ is.copied) is.behind own;
  enough = is.enough;
  stands = exchange.tails w.tail (is.first ++ is.copied) is.stands;
  lasting = is.lasting;
  holds = is.holds;
  new = in_new_after h emptied before.handler now.handler (redone_all h.leaving begun is.first) is.saved is.copied w.whole (exchange.saving (redone_all h.leaving begun is.first) is.saved) is.new;
}

-- settling
pub writing_settled : {H J K : Type 0} (h : Replaying H) (j : journal.Ghosts J) (k : journal.Ghosts K) (emptied : h.Kept → h.Kept) (begun : h.Kept) (before now : Parts H J)
    (entries : List Entry) (durable : ℕ) (w : Writing K)
    → IsHeld h j begun before entries durable → IsSettled j before (Ok tt) now → IsWriting h j k emptied begun before entries durable w
    → IsWriting h j k emptied begun now entries (length entries) w
writing_settled {H} {J} {K} h j k emptied begun before now entries durable w held settled is = record {
  first = is.first;
  saved = is.saved;
  copied = is.copied;
  behind = is.behind;
  are = is.are;
  enough = omega (arith, ap length is.are, length-append (is.first ++ is.copied) is.behind);
  stands = settled.tails entries durable held.records w.tail (is.first ++ is.copied) is.stands;
  lasting = is.lasting;
  holds = is.holds;
  new = subst (λ (handler : H). AreInNew h emptied handler (redone_all h.leaving begun is.first) is.saved is.copied w.whole) (sym settled.handler) is.new;
}

-- the new journal stands for the old one
pub written_stands : {H J K : Type 0} (h : Replaying H) (j : journal.Ghosts J) (k : journal.Ghosts K) (begun : h.Kept) (parts : Parts H J) (entries : List Entry) (durable : ℕ) (new : K)
    → IsHeld h j begun parts entries durable → LeavesSame k h.leaving begun entries new
    → IsHeldBy h k begun (record { handler = parts.handler; journal = new }) entries (length entries)
written_stands h j k begun parts entries durable new held written = record {
  file = written.file;
  written = length written.file;
  held = record { records = written.holds; kept = λ honest. held.kept honest ∙ sym written.leaves };
  stands = stand_replaced h.leaving begun entries written.file written.leaves;
}
