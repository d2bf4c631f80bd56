-- What a journal's file keeps after an append and after a commit.
use Rattle.std.proofs.Common.{◌≡◌, ◌∙◌, inl, inr, ⊎_elim, ℕ, ◌+◌, ◌-◌, ◌<◌, ◌≤◌, true, false, List, [], ◌∷◌, ◌++◌, length, take, refl, sym, ap, subst, arith, append_assoc}
use Rattle.std.specs.Prelude.{Vec}
use Rattle.std.specs.declared.alloc.Global.{Global}
use Rattle.std.proofs.lemmas.Bool.{false≢true}
use Rattle.std.proofs.lemmas.List.{append-nil, length-append, take-append-le, take_all, take_at}
use Rattle.oai_journal.specs.Files.{IsJournalFile, IsFirstRecord, front}
use Rattle.oai_journal.specs.Frames.{frame, next_digest}
use Rattle.oai_journal.specs.Groups.{AreGrouped, EndsBeforeOrAfter, IsGroup, IsOnDisk, IsMadeDurable, digest_of_all, inside, kept_group}
use Rattle.oai_journal.specs.Kept.{disk_in, HoldsRecords, IsAtEnd, DiskLeavesAllOrNone, IsWaiting, KeepsRecords, LeavesAllOrNone, Survives}
use Rattle.oai_journal.specs.Records.{Entry, IsFit, is_first_kind}
use Rattle.oai_journal.specs.declared.file.FileJournal.{FileJournal}
use Rattle.sqlite_disk.specs.Disk.{Only}
use Rattle.oai_journal.proofs.CrashLemmas.{held}
use Rattle.oai_journal.proofs.FileLemmas.{ends_same}
use Rattle.oai_journal.proofs.FrameLemmas.{length_frame}

-- ---- the frames that wait

kept_append : (d : ℕ) (es : List Entry) (e : Entry) → kept_group d (es ++ e ∷ []) ≡ kept_group d es ++ (frame (digest_of_all d es) e ++ 38 ∷ [])
kept_append d [] e = refl
kept_append d (x ∷ es) e =
    let next : ℕ = next_digest d x in
    ap (λ (l : List ℕ). frame d x ++ 38 ∷ l) (kept_append next es e)
    ∙ sym (append_assoc (frame d x) (38 ∷ kept_group next es) (frame (digest_of_all next es) e ++ 38 ∷ []))

pub digest_all_append : (d : ℕ) (es : List Entry) (e : Entry) → digest_of_all d (es ++ e ∷ []) ≡ next_digest (digest_of_all d es) e
digest_all_append d [] e = refl
digest_all_append d (x ∷ es) e = digest_all_append (next_digest d x) es e

records_append : (es : List Entry) (e : Entry) → AreGrouped es → IsFit e → is_first_kind e.kind ≡ false → AreGrouped (es ++ e ∷ [])
records_append [] e are fit kind = ((fit, kind), tt)
records_append (x ∷ es) e are fit kind = (are.0, records_append es e are.1 fit kind)

-- the gate behind the last of them is the one that is closed
kept_inside : (d : ℕ) (e : Entry) (es : List Entry) → kept_group d (e ∷ es) ≡ inside d (e ∷ es) ++ 38 ∷ []
kept_inside d e [] = ap (λ (l : List ℕ). l ++ 38 ∷ []) (sym (append-nil (frame d e)))
kept_inside d e (x ∷ es) =
    let next : ℕ = next_digest d e in
    ap (λ (l : List ℕ). frame d e ++ 38 ∷ l) (kept_inside next x es)
    ∙ sym (append_assoc (frame d e) (38 ∷ inside next (x ∷ es)) (38 ∷ []))

some_bytes : (d : ℕ) (e : Entry) (es : List Entry) → 0 < length (kept_group d (e ∷ es))
some_bytes d e es = omega (arith, length-append (frame d e) (38 ∷ kept_group (next_digest d e) es), length_frame d e)

-- the group that is written, once its last gate is closed
pub is_group : (pending closed : List ℕ) (digest last : ℕ) (later : List Entry) → IsWaiting pending digest last later → 0 < length pending
    → ((inner : List ℕ) (gate : ℕ) → pending ≡ inner ++ gate ∷ [] → closed ≡ inner ++ 45 ∷ []) → IsGroup closed digest later
is_group pending closed digest last [] waits some close = absurd (omega (arith, some, ap length waits.is))
is_group pending closed digest last (e ∷ es) waits some close =
    record { is = close (inside digest (e ∷ es)) 38 (waits.is ∙ kept_inside digest e es); are = waits.are; some = λ none. cc }

pub none_wait : (pending : List ℕ) (digest last : ℕ) (later : List Entry) → IsWaiting pending digest last later → length pending ≡ 0 → later ≡ []
none_wait pending digest last [] waits none = refl
none_wait pending digest last (e ∷ es) waits none = absurd (omega (arith, none, ap length waits.is, some_bytes digest e es))

-- ---- what a crash leaves

survives_more : (file : List ℕ) (first : Entry) (entries : List Entry) (durable : ℕ) (e : Entry) → Survives file first entries durable → Survives file first (entries ++ e ∷ []) durable
survives_more file first entries durable e s =
    let same : take s.count (entries ++ e ∷ []) ≡ take s.count entries = take-append-le s.count entries (e ∷ []) s.within in
    record {
      count = s.count;
      enough = s.enough;
      within = omega (arith, s.within, length-append entries (e ∷ []));
      ends = subst (λ l. IsJournalFile file first l) (sym same) s.ends;
      only = λ other found ends. s.only other found ends ∙ sym same;
    }

survives_at : (file : List ℕ) (first : Entry) (entries found : List Entry) (durable count : ℕ) → take count entries ≡ found → durable ≤ count → count ≤ length entries
    → IsJournalFile file first found → Survives file first entries durable
survives_at file first entries found durable count same enough within ends =
    record {
      count = count;
      enough = enough;
      within = within;
      ends = subst (λ l. IsJournalFile file first l) (sym same) ends;
      only = λ other more is. (ends_same file other first more found is ends).are ∙ sym same;
    }

-- ---- the whole

module _ {D : Type 0} (seen : D → List ℕ) (may_leave : D → List ℕ → Type 0) where
  pub kept_append_one : (journal : FileJournal D) (pending : Vec ℕ Global) (last : ℕ) (entries : List Entry) (durable : ℕ) (e : Entry) → IsFit e → is_first_kind e.kind ≡ false
      → pending.items ≡ journal.pending.items ++ (frame journal.last e ++ 38 ∷ []) → last ≡ next_digest journal.last e
      → HoldsRecords seen may_leave journal entries durable → HoldsRecords seen may_leave (record journal { pending = pending; last = last }) (entries ++ e ∷ []) durable
  kept_append_one journal pending last entries durable e fit kind bytes digest held =
      let k = held.1 in (
        held.0,
        record {
          written = k.written;
          later = k.later ++ e ∷ [];
          are = ap (λ l. l ++ e ∷ []) k.are ∙ append_assoc k.written k.later (e ∷ []);
          count = k.count;
          settled = k.settled;
          waits = λ going.
              let w = k.waits going in
              record {
                is = bytes ∙ ap (λ (l : List ℕ). l ++ (frame journal.last e ++ 38 ∷ [])) w.is
                    ∙ ap (λ n. kept_group journal.digest k.later ++ (frame n e ++ 38 ∷ [])) w.last_is ∙ sym (kept_append journal.digest k.later e);
                last_is = digest ∙ ap (λ n. next_digest n e) w.last_is ∙ sym (digest_all_append journal.digest k.later e);
                are = records_append k.later e w.are fit kind;
              };
          survives = λ file left. survives_more file held.0 entries durable e (k.survives file left);
        },
      )

  -- a journal that is stopped, of which a crash leaves no other records
  pub kept_stopped : (journal new : FileJournal D) (entries : List Entry) (durable : ℕ) → new.stopped ≡ true
      → (held : HoldsRecords seen may_leave journal entries durable) → ((file : List ℕ) → may_leave (disk_in new) file → Survives file held.0 entries durable)
      → HoldsRecords seen may_leave new entries durable
  kept_stopped journal new entries durable stopped held survives =
      let k = held.1 in (
        held.0,
        record {
          written = k.written;
          later = k.later;
          are = k.are;
          count = k.count;
          settled = λ going. absurd (false≢true (sym going ∙ stopped));
          waits = λ going. absurd (false≢true (sym going ∙ stopped));
          survives = survives;
        },
      )

  -- nothing waits, so all are durable
  pub kept_still : (journal : FileJournal D) (entries : List Entry) (durable : ℕ) → journal.stopped ≡ false → length journal.pending.items ≡ 0
      → HoldsRecords seen may_leave journal entries durable → HoldsRecords seen may_leave journal entries (length entries)
  kept_still journal entries durable going none held =
      let k = held.1 in
      let nothing = none_wait journal.pending.items journal.digest journal.last k.later (k.waits going) none in
      let all : entries ≡ k.written = k.are ∙ ap (λ l. k.written ++ l) nothing ∙ append-nil k.written in
      let same : length entries ≡ durable = ap length all ∙ sym k.count in
      subst (λ n. HoldsRecords seen may_leave journal entries n) (sym same) held

  -- a crash while a group is written
  pub survives_group : (journal : FileJournal D) (entries : List Entry) (durable : ℕ) (held : HoldsRecords seen may_leave journal entries durable) (file : List ℕ)
      → EndsBeforeOrAfter file held.0 (held.1).written (held.1).later → Survives file held.0 entries durable
  survives_group journal entries durable held file ends =
      let k = held.1 in
      let size : length entries ≡ length k.written + length k.later = ap length k.are ∙ length-append k.written k.later in
      ⊎_elim
      (λ is. survives_at file held.0 entries k.written durable (length k.written) (ap (take (length k.written)) k.are ∙ take_at k.written k.later (length k.written) refl)
      (omega (arith, k.count)) (omega (arith, size)) is)
      (λ is. survives_at file held.0 entries (k.written ++ k.later) durable (length entries) (take_all (length entries) entries (omega arith) ∙ k.are)
      (omega (arith, k.count, size)) (omega arith) is)
      ends

  -- what a crash leaves of a journal of which nothing waits
  ends_settled : (disk : D) (end digest : ℕ) (first : Entry) (entries : List Entry) → IsOnDisk seen may_leave disk end digest first entries → (file : List ℕ) → may_leave disk file → IsJournalFile file first entries
  ends_settled disk end digest first entries settled file left =
      record {
        frames = settled.frames;
        gate = settled.gate;
        behind = settled.behind;
        is = settled.durable file left ∙ settled.is;
        closed = settled.closed;
        begins = settled.begins;
        are = settled.are;
        says = settled.says;
      }

  pub settled_keeps : (journal : FileJournal D) (first : Entry) (entries : List Entry) → IsOnDisk seen may_leave (disk_in journal) journal.end journal.digest first entries
      → journal.pending.items ≡ [] → journal.last ≡ journal.digest → KeepsRecords seen may_leave journal first entries (length entries)
  settled_keeps journal first entries settled none same =
      record {
        written = entries;
        later = [];
        are = sym (append-nil entries);
        count = refl;
        settled = λ going. settled;
        waits = λ going. record { is = none; last_is = same; are = tt };
        survives = λ file left.
            survives_at file first entries entries (length entries) (length entries) (take_all (length entries) entries (omega arith)) (omega arith) (omega arith)
            (ends_settled (disk_in journal) journal.end journal.digest first entries settled file left);
      }

  pub settled_holds : (journal : FileJournal D) (first : Entry) (entries : List Entry) → IsOnDisk seen may_leave (disk_in journal) journal.end journal.digest first entries
      → journal.pending.items ≡ [] → journal.last ≡ journal.digest → HoldsRecords seen may_leave journal entries (length entries)
  settled_holds journal first entries settled none same = (first, settled_keeps journal first entries settled none same)

  -- a journal that was begun
  pub created : (old new : D) (journal : FileJournal D) (first : Entry) (bytes : List ℕ) → IsFirstRecord first → bytes ≡ 43 ∷ (frame 0 first ++ 45 ∷ [])
      → IsMadeDurable seen may_leave 0 bytes old new → IsAtEnd journal new (length bytes - 1) (next_digest 0 first) → KeepsRecords seen may_leave journal first [] 0
  created old new journal first bytes begins is written at_end =
      let f : List ℕ = frame 0 first in
      let put = held [] (seen old) (seen new) bytes written.torn written.holds in
      let whole : seen new ≡ front first [] ++ 45 ∷ put.0 =
      put.1 ∙ ap (λ (l : List ℕ). l ++ put.0) is ∙ ap (λ (l : List ℕ). 43 ∷ l) (append_assoc f (45 ∷ []) put.0)
      ∙ ap (λ (l : List ℕ). 43 ∷ (l ++ 45 ∷ put.0)) (sym (append-nil f)) in
      let size : length (front first []) ≡ length bytes - 1 = omega (arith, ap length is, length-append f (45 ∷ []), length-append f []) in
      settled_keeps journal first [] (record {
        frames = [];
        gate = 45;
        behind = put.0;
        is = ap seen at_end.disk_is ∙ whole;
        closed = refl;
        begins = begins;
        are = tt;
        says = refl;
        place = at_end.end_is ∙ sym size;
        last = at_end.digest_is;
        durable = subst (λ d. Only (seen d) (may_leave d)) (sym at_end.disk_is) written.durable;
      }) at_end.none at_end.last_is

  -- once the group is on the disk
  pub kept_settled : (journal new : FileJournal D) (entries : List Entry) (durable : ℕ) (held : HoldsRecords seen may_leave journal entries durable)
      → IsOnDisk seen may_leave (disk_in new) new.end new.digest held.0 ((held.1).written ++ (held.1).later) → new.pending.items ≡ [] → new.last ≡ new.digest
      → HoldsRecords seen may_leave new entries (length entries)
  kept_settled journal new entries durable held settled none same =
      subst (λ l. HoldsRecords seen may_leave new l (length l)) (sym (held.1).are) (settled_holds new held.0 ((held.1).written ++ (held.1).later) settled none same)

  -- ---- all of the group, or none

  pub before_is : (journal : FileJournal D) (entries : List Entry) (durable : ℕ) (held : HoldsRecords seen may_leave journal entries durable) → (held.1).written ≡ take durable entries
  before_is journal entries durable held =
      let k = held.1 in
      sym (ap (take durable) k.are ∙ take_at k.written k.later durable (sym k.count))

  pub leaves_before : (journal : FileJournal D) (entries : List Entry) (durable : ℕ) → journal.stopped ≡ false → HoldsRecords seen may_leave journal entries durable
      → LeavesAllOrNone may_leave journal entries durable
  leaves_before journal entries durable going held found left =
      let k = held.1 in
      let ends = ends_settled (disk_in journal) journal.end journal.digest held.0 k.written (k.settled going) left.file left.left in
      inl ((ends_same left.file left.first held.0 found k.written left.ends ends).are ∙ before_is journal entries durable held)

  pub leaves_group : (journal : FileJournal D) (new : D) (entries : List Entry) (durable : ℕ) (held : HoldsRecords seen may_leave journal entries durable)
      → ((file : List ℕ) → may_leave new file → EndsBeforeOrAfter file held.0 (held.1).written (held.1).later) → DiskLeavesAllOrNone may_leave new entries durable
  leaves_group journal new entries durable held crash found left =
      let k = held.1 in
      ⊎_elim
      (λ ends. inl ((ends_same left.file left.first held.0 found k.written left.ends ends).are ∙ before_is journal entries durable held))
      (λ ends. inr ((ends_same left.file left.first held.0 found (k.written ++ k.later) left.ends ends).are ∙ sym k.are))
      (crash left.file left.left)
