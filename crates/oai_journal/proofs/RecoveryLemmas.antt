-- A journal that is read a frame further; where it ends, and where it is damaged.
use Rattle.std.proofs.Common.{◌≡◌, ◌⊎◌, ◌↔◌, ◌∙◌, IsTrue, inl, inr, ℕ, ◌+◌, Bool, true, false, List, [], ◌∷◌, ◌++◌, length, drop, Option, Some, None, Result, Ok, Err, IfOk, refl, sym, ap, subst, arith, append_assoc}
use Rattle.std.proofs.lemmas.Bool.{false≢true}
use Rattle.std.proofs.lemmas.List.{append-nil, drop_at, length-append, map-append}
use Rattle.sqlite_disk.specs.Disk.{Only}
use Rattle.oai_journal.specs.Blocks.{IsBlock}
use Rattle.oai_journal.specs.Changes.{GoesOn, IsChangedAt, IsUndamaged}
use Rattle.oai_journal.specs.Files.{Gated, digest_after, front, is_commit_set}
use Rattle.oai_journal.specs.Frames.{entry_in, frame, next_digest}
use Rattle.oai_journal.specs.Kept.{HoldsRecords, IsAtEnd}
use Rattle.oai_journal.specs.Records.{Entry}
use Rattle.oai_journal.specs.Recoveries.{Continues, EndsHere, FindsFrame, HasNoFirst, IsDamagedAt, IsOpenWithNone, IsReadStep, ReadsTo, Starts, StartsAs, WasOpen, step_of}
use Rattle.oai_journal.specs.Recovered.{HasRecovered, current}
use Rattle.oai_journal.specs.declared.file.FileJournal.{FileJournal}
use Rattle.oai_journal.specs.declared.recovery.Recovery.{Recovery}
use Rattle.oai_journal.specs.declared.recovery.RecoveryFault.{RecoveryFault}
use Rattle.oai_journal.specs.declared.recovery.RecoveryFault.TheVariants.{Damaged, Stopped}
use Rattle.oai_journal.proofs.FileLemmas.{digest_append, fronts_same, front_append, gated_append}
use Rattle.oai_journal.proofs.FrameLemmas.{frame_read}
use Rattle.oai_journal.proofs.KeptLemmas.{settled_holds}

rest_at : (file : List ℕ) (at digest : ℕ) (first : Entry) (entries : List Entry) (reads : ReadsTo file at digest first entries) → drop at file ≡ reads.rest
rest_at file at digest first entries reads = ap (drop at) reads.is ∙ drop_at (front first reads.frames) reads.rest at (sym reads.place)

-- a closed gate, by whether what stands behind it goes on
pub closed_step : (rest read : List ℕ) (before gate : ℕ) (behind : List ℕ) (on : Bool) → rest ≡ gate ∷ behind → is_commit_set gate ≡ false → (IsTrue on ↔ GoesOn before behind)
    → IsReadStep rest before read (step_of on)
closed_step rest read before gate behind true is closed iff = record { gate = gate; behind = behind; is = is; closed = closed; goes = iff.0 refl }
closed_step rest read before gate behind false is closed iff =
    record { gate = gate; behind = behind; is = is; closed = closed; stops = λ g. false≢true (iff.1 g) }

-- ---- the first record

started : (file read : List ℕ) (digest : ℕ) (s : StartsAs file read digest) → ReadsTo file (1 + length read) digest s.first []
started file read digest s =
    record {
      frames = [];
      rest = s.after;
      is = s.is ∙ ap (λ (l : List ℕ). 43 ∷ (l ++ s.after)) (sym (append-nil (frame 0 s.first)));
      begins = s.begins;
      are = tt;
      says = refl;
      place = ap (λ (l : List ℕ). 1 + length l) s.read_is ∙ ap (λ (l : List ℕ). 1 + length l) (sym (append-nil (frame 0 s.first))) ∙ one_more (frame 0 s.first ++ []);
      last = s.digest_is;
    }
  where
    one_more : (l : List ℕ) → 1 + length l ≡ length (43 ∷ l)
    one_more l = omega arith

-- a file that begins with an open gate, and what stands behind it
pub starts : (file read : List ℕ) (found : Option ℕ) → drop 0 file ≡ 43 ∷ drop 1 file → FindsFrame true 0 (drop 1 file) read found → Starts file read found
starts file read None gate none = λ behind is e after fit kind there. none e after fit kind (ap (drop 1) is ∙ there)
starts file read (Some digest) gate f =
    record {
      first = f.entry;
      begins = record { fit = f.fit; kind = f.kind };
      after = f.after;
      is = gate ∙ ap (λ (l : List ℕ). 43 ∷ l) f.is;
      read_is = f.read_is;
      digest_is = f.digest_is;
    }

pub if_ok : {A E : Type 0} {P Q : A → Type 0} (r : Result A E) → IfOk r P → ((x : A) → P x → Q x) → IfOk r Q
if_ok (Ok x) p f = f x p
if_ok (Err e) p f = tt

abbrev damaged_byte : RecoveryFault → ℕ
damaged_byte (Damaged at) = at
damaged_byte (Stopped cause) = 0

pub same_byte : {a b : ℕ} → Damaged a ≡ Damaged b → a ≡ b
same_byte is = ap damaged_byte is

pub damaged_first : (file : List ℕ) (at : ℕ) → Damaged 0 ≡ Damaged at → HasNoFirst file → IsDamagedAt file at
damaged_first file at is none = inl (sym (ap damaged_byte is), none)

-- ---- a frame more

module _ (file : List ℕ) (at digest : ℕ) (first : Entry) (entries : List Entry) (reads : ReadsTo file at digest first entries) where
  abbrev so_far : List ℕ
  so_far = front first reads.frames

  abbrev last_is : ℕ
  last_is = digest_after (next_digest 0 first) reads.frames

  continued : (read : List ℕ) (next : ℕ) (s : Continues (drop at file) digest read next) → ReadsTo file (at + (1 + length read)) next first (entries ++ s.entry ∷ [])
  continued read next s =
      let one : Gated = record { gate = s.gate; entry = s.entry } in
      let fs : List Gated = reads.frames in
      let f : List ℕ = frame digest s.entry in
      let f_is : f ≡ frame last_is s.entry = ap (λ n. frame n s.entry) reads.last in
      let whole : front first (fs ++ one ∷ []) ≡ so_far ++ s.gate ∷ f =
      front_append first fs (one ∷ []) ∙ ap (λ (l : List ℕ). so_far ++ s.gate ∷ l) (append-nil (frame last_is s.entry) ∙ sym f_is) in
      record {
        frames = fs ++ one ∷ [];
        rest = s.after;
        is = reads.is ∙ ap (λ (l : List ℕ). so_far ++ l) (sym (rest_at file at digest first entries reads) ∙ s.is)
            ∙ sym (append_assoc so_far (s.gate ∷ f) s.after) ∙ ap (λ (l : List ℕ). l ++ s.after) (sym whole);
        begins = reads.begins;
        are = gated_append fs (one ∷ []) reads.are (record { opened = s.opened; fit = s.fit; kind = s.kind }, tt);
        says = map-append (λ (g : Gated). g.entry) fs (one ∷ []) ∙ ap (λ l. l ++ s.entry ∷ []) reads.says;
        place = omega (arith, reads.place, ap length whole, length-append so_far (s.gate ∷ f), ap length s.read_is);
        last = s.digest_is ∙ ap (λ n. next_digest n s.entry) reads.last ∙ sym (digest_append (next_digest 0 first) fs (one ∷ []));
      }

  ended_here : EndsHere digest (drop at file) → EndsHere digest reads.rest
  ended_here e = subst (EndsHere digest) (rest_at file at digest first entries reads) e

  pub changed_here : WasOpen digest (drop at file) → IsChangedAt file at
  changed_here w =
      record {
        first = first;
        frames = reads.frames;
        gate = w.gate;
        behind = w.behind;
        is = reads.is ∙ ap (λ (l : List ℕ). so_far ++ l) (sym (rest_at file at digest first entries reads) ∙ w.is);
        begins = reads.begins;
        are = reads.are;
        place = reads.place;
        closed = w.closed;
        goes = subst (λ n. GoesOn n w.behind) reads.last w.goes;
      }

  pub damaged_here : (drop at file ≡ []) ⊎ IsOpenWithNone digest (drop at file) → IsDamagedAt file at
  damaged_here broken =
      inr (record {
        first = first;
        frames = reads.frames;
        rest = reads.rest;
        is = reads.is;
        begins = reads.begins;
        are = reads.are;
        place = reads.place;
        broken = subst (λ (l : List ℕ). (l ≡ []) ⊎ IsOpenWithNone last_is l) (rest_at file at digest first entries reads)
            (subst (λ n. (drop at file ≡ []) ⊎ IsOpenWithNone n (drop at file)) reads.last broken);
      })

-- ---- the whole

module _ {D : Type 0} (seen : D → List ℕ) (may_leave : D → List ℕ → Type 0) where
  -- nothing that may be left has changed
  pub same_left : (old new : D) → seen new ≡ seen old → ((c : List ℕ) → may_leave new c → may_leave old c) → Only (seen old) (may_leave old) → Only (seen new) (may_leave new)
  same_left old new same crash only c left = only c (crash c left) ∙ sym same

  -- what a step may leave of the recovery: the disk, as it was, and the rest anew
  pub record Moves (old new : Recovery D) : Type 0 where
    pub same : seen new.reader.disk ≡ seen old.reader.disk
    pub crash : (c : List ℕ) → may_leave new.reader.disk c → may_leave old.reader.disk c
    pub size : new.len ≡ old.len
    pub block : IsBlock seen new.reader

  pub has_begun : (recovery : Recovery D) (digest : ℕ) → recovery.len ≡ length (seen recovery.reader.disk) → Only (seen recovery.reader.disk) (may_leave recovery.reader.disk)
      → IsBlock seen recovery.reader → recovery.digest ≡ digest → recovery.at ≡ 1 + length recovery.frame.items → recovery.ended ≡ false
      → StartsAs (seen recovery.reader.disk) recovery.frame.items digest → (first : Entry) × HasRecovered seen may_leave recovery first [] × (current recovery ≡ Some first)
  has_begun recovery digest size only block digest_is at going s = (
    s.first,
    record {
      reads = rw (digest_is, at) (started (seen recovery.reader.disk) recovery.frame.items digest s);
      size = size;
      durable = only;
      block = block;
      ends = λ ended. absurd (false≢true (sym going ∙ ended));
    },
    ap entry_in s.read_is ∙ frame_read 0 s.first s.begins.fit,
  )

  pub has_continued : (old new : Recovery D) (first : Entry) (entries : List Entry) (digest : ℕ) → Moves old new → HasRecovered seen may_leave old first entries
      → Continues (drop old.at (seen old.reader.disk)) old.digest new.frame.items digest → new.digest ≡ digest → new.at ≡ old.at + (1 + length new.frame.items) → new.ended ≡ false
      → (e : Entry) × HasRecovered seen may_leave new first (entries ++ e ∷ []) × (current new ≡ Some e)
  has_continued old new first entries digest moves h s digest_is at going = (
    s.entry,
    record {
      reads = rw (digest_is, at, moves.same) (continued (seen old.reader.disk) old.at old.digest first entries h.reads new.frame.items digest s);
      size = moves.size ∙ h.size ∙ ap length (sym moves.same);
      durable = same_left old.reader.disk new.reader.disk moves.same moves.crash h.durable;
      block = moves.block;
      ends = λ ended. absurd (false≢true (sym going ∙ ended));
    },
    ap entry_in s.read_is ∙ frame_read old.digest s.entry s.fit,
  )

  pub has_ended : (old new : Recovery D) (first : Entry) (entries : List Entry) → Moves old new → HasRecovered seen may_leave old first entries
      → EndsHere old.digest (drop old.at (seen old.reader.disk)) → new.digest ≡ old.digest → new.at ≡ old.at → HasRecovered seen may_leave new first entries
  has_ended old new first entries moves h ends digest_is at =
      let here = ended_here (seen old.reader.disk) old.at old.digest first entries h.reads ends in
      let r = h.reads in
      record {
        reads = record {
          frames = r.frames;
          rest = r.rest;
          is = moves.same ∙ r.is;
          begins = r.begins;
          are = r.are;
          says = r.says;
          place = at ∙ r.place;
          last = digest_is ∙ r.last;
        };
        size = moves.size ∙ h.size ∙ ap length (sym moves.same);
        durable = same_left old.reader.disk new.reader.disk moves.same moves.crash h.durable;
        block = moves.block;
        ends = λ ended. subst (λ n. EndsHere n r.rest) (sym digest_is) here;
      }

  -- what was read to its end is what the file is
  pub whole_read : (recovery : Recovery D) (first : Entry) (entries : List Entry) → recovery.ended ≡ true → HasRecovered seen may_leave recovery first entries → IsUndamaged (seen recovery.reader.disk) first entries
  whole_read recovery first entries ended h =
      let r = h.reads in
      let here = h.ends ended in
      let file : List ℕ = seen recovery.reader.disk in
      let is : file ≡ front first r.frames ++ here.gate ∷ here.behind = r.is ∙ ap (λ (l : List ℕ). front first r.frames ++ l) here.is in
      record {
        ends = record {
          frames = r.frames;
          gate = here.gate;
          behind = here.behind;
          is = is;
          closed = here.closed;
          begins = r.begins;
          are = r.are;
          says = r.says;
        };
        unchanged = λ at c.
            let same = fronts_same first c.first r.frames c.frames here.gate c.gate here.behind c.behind r.begins.fit c.begins.fit r.are c.are here.closed c.closed (sym is ∙ c.is) in
            here.stops (subst (λ (l : List ℕ). GoesOn recovery.digest l) (sym same.behind)
            (subst (λ n. GoesOn n c.behind) (sym (r.last ∙ same.last)) c.goes));
      }

  pub holds_all : (recovery : Recovery D) (journal : FileJournal D) (first : Entry) (entries : List Entry) → recovery.ended ≡ true → HasRecovered seen may_leave recovery first entries
      → IsAtEnd journal recovery.reader.disk recovery.at recovery.digest → HoldsRecords seen may_leave journal entries (length entries)
  holds_all recovery journal first entries ended h is =
      let r = h.reads in
      let here = h.ends ended in
      settled_holds seen may_leave journal first entries (record {
        frames = r.frames;
        gate = here.gate;
        behind = here.behind;
        is = ap seen is.disk_is ∙ r.is ∙ ap (λ (l : List ℕ). front first r.frames ++ l) here.is;
        closed = here.closed;
        begins = r.begins;
        are = r.are;
        says = r.says;
        place = is.end_is ∙ r.place;
        last = is.digest_is ∙ r.last;
        durable = subst (λ d. Only (seen d) (may_leave d)) (sym is.disk_is) h.durable;
      }) is.none is.last_is
