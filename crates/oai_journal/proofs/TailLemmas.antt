-- Records of a journal that is being written, read again.
use Rattle.std.proofs.Common.{◌≡◌, ◌∙◌, IsTrue, ℕ, ◌+◌, ◌<◌, ◌≤◌, Bool, false, List, [], ◌∷◌, ◌++◌, length, map, drop, take, Some, refl, sym, ap, subst, arith, append_assoc}
use Rattle.std.proofs.lemmas.List.{append-nil, drop_at, drop-drop, length-append}
use Rattle.oai_journal.specs.Blocks.{IsBlock}
use Rattle.oai_journal.specs.Files.{AreGated, Gated, digest_after, spelled_frames}
use Rattle.oai_journal.specs.Frames.{entry_in, frame, next_digest}
use Rattle.oai_journal.specs.Groups.{IsOnDisk, digest_of_all}
use Rattle.oai_journal.specs.Journals.{IsReadNext}
use Rattle.oai_journal.specs.Kept.{disk_in, HoldsRecords}
use Rattle.oai_journal.specs.Records.{Entry}
use Rattle.oai_journal.specs.Recoveries.{HasFrame}
use Rattle.oai_journal.specs.Tails.{BeginsWith, IsBehind, StandsBehind, frames_len, tail_record}
use Rattle.oai_journal.specs.declared.file.FileJournal.{FileJournal}
use Rattle.oai_journal.specs.declared.blocks.BlockReader.{BlockReader}
use Rattle.oai_journal.specs.declared.tails.Tail.{Tail}
use Rattle.oai_journal.proofs.FileLemmas.{front_step, tails_same}
use Rattle.oai_journal.proofs.FrameLemmas.{frame_read, frame_same}
use Rattle.oai_journal.proofs.KeptLemmas.{before_is, digest_all_append}
use Rattle.oai_journal.proofs.RecoveryLemmas.{same_left}

abbrev entry_of : Gated → Entry
entry_of f = f.entry

-- ---- how long frames are, and their digest, by their records

pub digest_by_records : (before : ℕ) (fs : List Gated) → digest_after before fs ≡ digest_of_all before (map entry_of fs)
digest_by_records before [] = refl
digest_by_records before (f ∷ fs) = digest_by_records (next_digest before f.entry) fs

pub len_by_records : (before : ℕ) (fs : List Gated) → length (spelled_frames before fs) ≡ frames_len before (map entry_of fs)
len_by_records before [] = refl
len_by_records before (f ∷ fs) =
    let next : ℕ = next_digest before f.entry in
    omega (arith, length-append (frame before f.entry) (spelled_frames next fs), len_by_records next fs)

len_append : (before : ℕ) (es : List Entry) (e : Entry) → frames_len before (es ++ e ∷ []) ≡ frames_len before es + (1 + length (frame (digest_of_all before es) e))
len_append before [] e = omega arith
len_append before (x ∷ es) e = let more = len_append (next_digest before x) es e in omega (arith, more)

len_appended : (before : ℕ) (es more : List Entry) → frames_len before (es ++ more) ≡ frames_len before es + frames_len (digest_of_all before es) more
len_appended before [] more = omega arith
len_appended before (x ∷ es) more = let rest = len_appended (next_digest before x) es more in omega (arith, rest)

-- ---- the frames behind some of the records

abbrev first_or : List Entry → Entry → Entry
first_or [] d = d
first_or (x ∷ xs) d = x

abbrev others_of : List Entry → List Entry
others_of [] = []
others_of (x ∷ xs) = xs

first_same : (a b : Entry) (xs ys : List Entry) → a ∷ xs ≡ b ∷ ys → a ≡ b
first_same a b xs ys is = ap (λ l. first_or l a) is

others_same : (a b : Entry) (xs ys : List Entry) → a ∷ xs ≡ b ∷ ys → xs ≡ ys
others_same a b xs ys is = ap others_of is

-- the frames of a journal behind those of the records that were read
pub record FramesBehind (before : ℕ) (fs : List Gated) (read behind : List Entry) (tail : List ℕ) : Type 0 where
  pub frames : List Gated
  pub are : AreGated frames
  pub say : map entry_of frames ≡ behind
  pub there : drop (frames_len before read) (spelled_frames before fs ++ tail) ≡ spelled_frames (digest_of_all before read) frames ++ tail

frames_behind : (before : ℕ) (fs : List Gated) (read behind : List Entry) (tail : List ℕ) → AreGated fs → map entry_of fs ≡ read ++ behind → FramesBehind before fs read behind tail
frames_behind before fs [] behind tail are says = record { frames = fs; are = are; say = says; there = refl }
frames_behind before [] (e ∷ es) behind tail are says = absurd (none_there _ _ says)
  where
    none_there : (x : Entry) (xs : List Entry) → [] ≡ x ∷ xs → ⊥
    none_there x xs is = cc
frames_behind before (f ∷ fs) (e ∷ es) behind tail are says =
    let same : f.entry ≡ e = first_same f.entry e _ _ says in
    let next : ℕ = next_digest before e in
    let rest = frames_behind next fs es behind tail are.1 (others_same f.entry e _ _ says) in
    let one : List ℕ = f.gate ∷ frame before e in
    let k : ℕ = frames_len next es in
    let whole : spelled_frames before (f ∷ fs) ++ tail ≡ one ++ (spelled_frames next fs ++ tail) =
    ap (λ (x : Entry). (f.gate ∷ (frame before x ++ spelled_frames (next_digest before x) fs)) ++ tail) same
    ∙ ap (λ (l : List ℕ). f.gate ∷ l) (append_assoc (frame before e) (spelled_frames next fs) tail) in
    let size : 1 + length (frame before e) + k ≡ length one + k = omega arith in
    record {
      frames = rest.frames;
      are = rest.are;
      say = rest.say;
      there = ap (drop (1 + length (frame before e) + k)) whole ∙ ap (λ n. drop n (one ++ (spelled_frames next fs ++ tail))) size
          ∙ sym (drop-drop k (length one) (one ++ (spelled_frames next fs ++ tail)))
          ∙ ap (drop k) (drop_at one (spelled_frames next fs ++ tail) (length one) refl) ∙ rest.there;
    }

-- ---- a tail of a journal's file

module _ {D : Type 0} (seen : D → List ℕ) (may_leave : D → List ℕ → Type 0) where
  pub begins_so : (disk : D) (end digest : ℕ) (first : Entry) (written : List Entry) → IsOnDisk seen may_leave disk end digest first written → BeginsWith (seen disk) first
  begins_so disk end digest first written d =
      record {
        fit = d.begins.fit;
        rest = spelled_frames (next_digest 0 first) d.frames ++ d.gate ∷ d.behind;
        is = d.is ∙ front_step first d.frames (d.gate ∷ d.behind);
      }

  pub begin_same : (file : List ℕ) (a b : Entry) → BeginsWith file a → BeginsWith file b → a ≡ b
  begin_same file a b p q = (frame_same 0 a b _ _ p.fit q.fit (tails_same _ _ _ _ (sym p.is ∙ q.is))).entry

  pub end_behind : (disk : D) (end digest : ℕ) (first : Entry) (written : List Entry) → IsOnDisk seen may_leave disk end digest first written
      → end ≡ 1 + length (frame 0 first) + frames_len (next_digest 0 first) written
  end_behind disk end digest first written d =
      let len = len_by_records (next_digest 0 first) d.frames in
      omega (arith, d.place, length-append (frame 0 first) (spelled_frames (next_digest 0 first) d.frames), len, ap (frames_len (next_digest 0 first)) d.says)

  pub digest_behind : (disk : D) (end digest : ℕ) (first : Entry) (written : List Entry) → IsOnDisk seen may_leave disk end digest first written
      → digest ≡ digest_of_all (next_digest 0 first) written
  digest_behind disk end digest first written d =
      d.last ∙ digest_by_records (next_digest 0 first) d.frames ∙ ap (digest_of_all (next_digest 0 first)) d.says

  -- what the file has behind the tail
  pub there_is : (disk : D) (end digest : ℕ) (first : Entry) (read behind : List Entry) (tail : Tail) (d : IsOnDisk seen may_leave disk end digest first (read ++ behind)) → IsBehind tail first read
      → (b : FramesBehind (next_digest 0 first) d.frames read behind (d.gate ∷ d.behind)) × (drop tail.at (seen disk) ≡ spelled_frames tail.digest b.frames ++ d.gate ∷ d.behind)
  there_is disk end digest first read behind tail d t =
      let next : ℕ = next_digest 0 first in
      let back : List ℕ = spelled_frames next d.frames ++ d.gate ∷ d.behind in
      let head : List ℕ = 43 ∷ frame 0 first in
      let k : ℕ = frames_len next read in
      let b = frames_behind next d.frames read behind (d.gate ∷ d.behind) d.are d.says in
      let place : tail.at ≡ length head + k = omega (arith, t.place) in (
        b,
        ap (λ n. drop n (seen disk)) place ∙ ap (drop (length head + k)) (d.is ∙ front_step first d.frames (d.gate ∷ d.behind))
            ∙ sym (drop-drop k (length head) (head ++ back)) ∙ ap (drop k) (drop_at head back (length head) refl)
            ∙ b.there ∙ ap (λ n. spelled_frames n b.frames ++ d.gate ∷ d.behind) (sym t.last),
      )

  -- a frame that is read behind the tail is the one of the next record
  pub next_is : (disk : D) (end digest : ℕ) (first : Entry) (read behind : List Entry) (tail new : Tail) → IsOnDisk seen may_leave disk end digest first (read ++ behind) → IsBehind tail first read
      → tail.at < end → HasFrame false tail.digest (drop (tail.at + 1) (seen disk)) new.frame.items new.digest → new.at ≡ tail.at + 1 + length new.frame.items
      → IsReadNext (IsBehind new first) (tail_record new) read behind
  next_is disk end digest first read [] tail new d t low f moved =
      let all = end_behind disk end digest first (read ++ []) d in
      absurd (omega (arith, low, all, t.place, ap (frames_len (next_digest 0 first)) (append-nil read)))
  next_is disk end digest first read (e ∷ es) tail new d t low f moved =
      let next : ℕ = next_digest 0 first in
      let there = there_is disk end digest first read (e ∷ es) tail d t in
      one_next there.0.frames there.0.are there.0.say there.1
    where
      one_next : (fs : List Gated) → AreGated fs → map entry_of fs ≡ e ∷ es → drop tail.at (seen disk) ≡ spelled_frames tail.digest fs ++ d.gate ∷ d.behind → IsReadNext (IsBehind new first) (tail_record new) read (e ∷ es)
      one_next [] are says is = absurd (none_there e es says)
        where
          none_there : (x : Entry) (xs : List Entry) → [] ≡ x ∷ xs → ⊥
          none_there x xs is = cc
      one_next (g ∷ gs) are says is =
          let entry : g.entry ≡ e = first_same g.entry e _ _ says in
          let more : List ℕ = spelled_frames (next_digest tail.digest g.entry) gs ++ d.gate ∷ d.behind in
          let behind_gate : drop (tail.at + 1) (seen disk) ≡ frame tail.digest g.entry ++ more =
          sym (drop-drop 1 tail.at (seen disk)) ∙ ap (drop 1) is
          ∙ append_assoc (frame tail.digest g.entry) (spelled_frames (next_digest tail.digest g.entry) gs) (d.gate ∷ d.behind) in
          let same = frame_same tail.digest f.entry g.entry _ _ f.fit are.0.fit (sym f.is ∙ behind_gate) in
          let is_e : f.entry ≡ e = same.entry ∙ entry in
          let next : ℕ = next_digest 0 first in
          record {
            entry = e;
            others = es;
            is = refl;
            stands = record {
              place = omega (arith, moved, ap length f.read_is, ap (λ x. length (frame tail.digest x)) is_e, ap (λ n. length (frame n e)) t.last, t.place, len_append next read e);
              last = f.digest_is ∙ ap (next_digest tail.digest) is_e ∙ ap (λ n. next_digest n e) t.last ∙ sym (digest_all_append next read e);
            };
            says = ap entry_in f.read_is ∙ frame_read tail.digest f.entry f.fit ∙ ap Some is_e;
          }

  -- ---- a tail of a journal

  module _ (is_clean : D → Bool) where
    -- a new tail, behind all durable records
    pub tail_behind : (old new : FileJournal D) (tail : Tail) (entries : List Entry) (durable : ℕ) → HoldsRecords seen may_leave old entries durable → old.stopped ≡ false
        → disk_in new ≡ disk_in old → IsBlock seen new.reader → tail.at ≡ old.end → tail.digest ≡ old.digest → StandsBehind seen is_clean new tail (take durable entries)
    tail_behind old new tail entries durable held going same block at digest =
        let k = held.1 in
        let d = k.settled going in
        let all = before_is seen may_leave old entries durable held in
        record {
          first = held.0;
          begins = subst (λ x. BeginsWith (seen x) held.0) (sym same) (begins_so (disk_in old) old.end old.digest held.0 k.written d);
          behind = record {
            place = at ∙ end_behind (disk_in old) old.end old.digest held.0 k.written d ∙ ap (λ l. 1 + length (frame 0 held.0) + frames_len (next_digest 0 held.0) l) all;
            last = digest ∙ digest_behind (disk_in old) old.end old.digest held.0 k.written d ∙ ap (digest_of_all (next_digest 0 held.0)) all;
          };
          block = λ clean. block;
        }

    -- the first record that the tail follows is the journal's
    is_first : (journal : FileJournal D) (tail : Tail) (entries : List Entry) (durable : ℕ) (held : HoldsRecords seen may_leave journal entries durable) (read : List Entry) → journal.stopped ≡ false
        → (s : StandsBehind seen is_clean journal tail read) → s.first ≡ held.0
    is_first journal tail entries durable held read going s =
        begin_same (seen (disk_in journal)) s.first held.0 s.begins (begins_so (disk_in journal) journal.end journal.digest held.0 (held.1).written ((held.1).settled going))

    -- a commit leaves it where it is
    pub commit_stands : (old new : FileJournal D) (entries : List Entry) (durable : ℕ) (held : HoldsRecords seen may_leave old entries durable) → old.stopped ≡ false
        → (disk : D) (end digest : ℕ) → IsOnDisk seen may_leave disk end digest held.0 ((held.1).written ++ (held.1).later) → disk_in new ≡ disk → IsBlock seen new.reader
        → (tail : Tail) (read : List Entry) → StandsBehind seen is_clean old tail read → StandsBehind seen is_clean new tail read
    commit_stands old new entries durable held going disk end digest d same block tail read s =
        record {
          first = held.0;
          begins = subst (λ x. BeginsWith (seen x) held.0) (sym same) (begins_so disk end digest held.0 ((held.1).written ++ (held.1).later) d);
          behind = subst (λ e. IsBehind tail e read) (is_first old tail entries durable held read going s) s.behind;
          block = λ clean. block;
        }

    -- what a call that reads leaves
    pub read_stands : (old new : FileJournal D) → seen (disk_in new) ≡ seen (disk_in old) → (IsTrue (is_clean (disk_in new)) → IsTrue (is_clean (disk_in old)))
        → (IsTrue (is_clean (disk_in new)) → IsBlock seen old.reader → IsBlock seen new.reader)
        → (tail same : Tail) (read : List Entry) → same.at ≡ tail.at → same.digest ≡ tail.digest → StandsBehind seen is_clean old tail read → StandsBehind seen is_clean new same read
    read_stands old new kept clean block tail same read at digest s =
        record {
          first = s.first;
          begins = subst (λ file. BeginsWith file s.first) (sym kept) s.begins;
          behind = record { place = at ∙ s.behind.place; last = digest ∙ s.behind.last };
          block = λ is. block is (s.block (clean is));
        }

    -- where a tail is not before the end, all was read
    pub all_read : (journal : FileJournal D) (tail : Tail) (entries : List Entry) (durable : ℕ) (read behind : List Entry) → HoldsRecords seen may_leave journal entries durable → journal.stopped ≡ false
        → take durable entries ≡ read ++ behind → StandsBehind seen is_clean journal tail read → journal.end ≤ tail.at → behind ≡ []
    all_read journal tail entries durable read [] held going parts s over = refl
    all_read journal tail entries durable read (e ∷ es) held going parts s over =
        let k = held.1 in
        let all : k.written ≡ read ++ e ∷ es = before_is seen may_leave journal entries durable held ∙ parts in
        let next : ℕ = next_digest 0 held.0 in
        let end = end_behind (disk_in journal) journal.end journal.digest held.0 k.written (k.settled going) in
        let behind = subst (λ f. IsBehind tail f read) (is_first journal tail entries durable held read going s) s.behind in
        absurd (omega (arith, over, end, ap (frames_len next) all, len_appended next read (e ∷ es), behind.place))

    -- where it is, the next record is read
    pub one_read : (old new : FileJournal D) (tail moved : Tail) (entries : List Entry) (durable : ℕ) (read behind : List Entry) → HoldsRecords seen may_leave old entries durable → old.stopped ≡ false
        → take durable entries ≡ read ++ behind → StandsBehind seen is_clean old tail read → seen (disk_in new) ≡ seen (disk_in old) → IsBlock seen new.reader → tail.at < old.end
        → HasFrame false tail.digest (drop (tail.at + 1) (seen (disk_in old))) moved.frame.items moved.digest → moved.at ≡ tail.at + 1 + length moved.frame.items
        → IsReadNext (StandsBehind seen is_clean new moved) (tail_record moved) read behind
    one_read old new tail moved entries durable read behind held going parts s kept block low found at =
        let k = held.1 in
        let all : k.written ≡ read ++ behind = before_is seen may_leave old entries durable held ∙ parts in
        let d = subst (λ l. IsOnDisk seen may_leave (disk_in old) old.end old.digest held.0 l) all (k.settled going) in
        let here = subst (λ f. IsBehind tail f read) (is_first old tail entries durable held read going s) s.behind in
        let next = next_is (disk_in old) old.end old.digest held.0 read behind tail moved d here low found at in
        record {
          entry = next.entry;
          others = next.others;
          is = next.is;
          stands = record {
            first = held.0;
            begins = subst (λ file. BeginsWith file held.0) (sym kept) (begins_so (disk_in old) old.end old.digest held.0 k.written (k.settled going));
            behind = next.stands;
            block = λ clean. block;
          };
          says = next.says;
        }

  -- a journal of which something was read keeps its records
  pub read_holds : (journal : FileJournal D) (reader : BlockReader D) → seen reader.disk ≡ seen (disk_in journal) → ((c : List ℕ) → may_leave reader.disk c → may_leave (disk_in journal) c)
      → (entries : List Entry) (durable : ℕ) → HoldsRecords seen may_leave journal entries durable → HoldsRecords seen may_leave (record journal { reader = reader }) entries durable
  read_holds journal reader same crash entries durable held =
      let k = held.1 in (
        held.0,
        record {
          written = k.written;
          later = k.later;
          are = k.are;
          count = k.count;
          settled = λ going.
              let d = k.settled going in
              record {
                frames = d.frames;
                gate = d.gate;
                behind = d.behind;
                is = same ∙ d.is;
                closed = d.closed;
                begins = d.begins;
                are = d.are;
                says = d.says;
                place = d.place;
                last = d.last;
                durable = same_left seen may_leave (disk_in journal) reader.disk same crash d.durable;
              };
          waits = k.waits;
          survives = λ file left. k.survives file (crash file left);
        },
      )
