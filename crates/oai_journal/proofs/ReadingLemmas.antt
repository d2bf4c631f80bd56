-- What is known of a frame that is read by its length first.
use Rattle.std.proofs.Common.{◌≡◌, ◌≢◌, ◌∙◌, append_assoc, ℕ, ◌-◌, ◌<◌, ◌≤◌, min, Bool, List, [], ◌++◌, length, take, drop, Option, Some, None, MatchOption, sym, ap, arith, ◌+◌, get_or}
use Rattle.std.proofs.lemmas.Bool.{cases_lt}
use Rattle.std.proofs.lemmas.List.{append-nil, length-append, length-drop, length-take-le, take-append-drop, take_all, take_at}
use Rattle.std.proofs.Common.{ext_get_or, get_or-drop, get_or-take, inl, inr}
use Rattle.sqlite_disk.specs.Disk.{Holds}
use Rattle.sqlite_disk.specs.Digest.{digest}
use Rattle.oai_journal.specs.Frames.{IsFrameHead, body_in, entry_in, frame, frame_front, framed, head_of, len_in, next_digest}
use Rattle.oai_journal.specs.Heads.{RecordHeadFields, head_front, head_in}
use Rattle.oai_journal.specs.Records.{Entry, IsFit, is_first_kind, is_within}
use Rattle.oai_journal.specs.Recoveries.{Checks, FindsFrame, IsHeadOf, IsLenAt}
use Rattle.oai_journal.specs.declared.records.Kind.{Kind}
use Rattle.oai_journal.specs.declared.frames.TheConstants.{FRAME_ROOM}
use Rattle.oai_journal.proofs.FrameLemmas.{body_of, frame_head, frame_len, frame_read, length_body, length_frame, some_same}

-- bytes that a file has at a place are a part of it
pub held_part : (file bytes : List ℕ) (at size : ℕ) → length bytes ≡ size → Holds file at bytes → bytes ≡ take size (drop at file)
held_part file bytes at size len holds =
    let enough : size ≤ length (drop at file) = omega (arith, length-drop at file, holds.within, len) in
    sym (ext_get_or 0 (take size (drop at file)) bytes (length-take-le size (drop at file) enough ∙ sym len)
    (λ i h. let low : i < size = omega (arith, h, length-take-le size (drop at file) enough) in
    get_or-take size (drop at file) i 0 low ∙ get_or-drop at file i 0 ∙ holds.each i (omega (arith, low, len))))

-- bytes of a block that a file has at a place are a part of the file
pub block_part : (file block : List ℕ) (start at size : ℕ) → Holds file start block → start ≤ at → at + size ≤ start + length block
    → take size (drop (at - start) block) ≡ take size (drop at file)
block_part file block start at size holds above below =
    let there : size ≤ length (drop at file) = omega (arith, length-drop at file, holds.within, below) in
    let here : size ≤ length (drop (at - start) block) = omega (arith, length-drop (at - start) block, above, below) in
    sym (ext_get_or 0 (take size (drop at file)) (take size (drop (at - start) block)) (length-take-le size (drop at file) there ∙ sym (length-take-le size (drop (at - start) block) here))
    (λ i h. let low : i < size = omega (arith, h, length-take-le size (drop at file) there) in
    let moved : at + i ≡ start + (at - start + i) = omega (arith, above) in
    get_or-take size (drop at file) i 0 low ∙ get_or-drop at file i 0 ∙ ap (λ n. get_or file n 0) moved ∙ holds.each (at - start + i) (omega (arith, low, above, below))
    ∙ sym (get_or-drop (at - start) block i 0) ∙ sym (get_or-take size (drop (at - start) block) i 0 low)))

take_least : (n m : ℕ) (xs : List ℕ) → m ≡ length xs → take (min n m) xs ≡ take n xs
take_least n m xs size =
    elim (cases_lt n m) [
      | inl less ↦ let is : min n m ≡ n = omega (arith, less) in ap (λ k. take k xs) is
      | inr more ↦
          let is : min n m ≡ m = omega (arith, more) in
          ap (λ k. take k xs) is ∙ take_all m xs (omega (arith, size)) ∙ sym (take_all n xs (omega (arith, size, more)))
    ]

module _ (file : List ℕ) (len at : ℕ) (size_is : len ≡ length file) where
  left_is : length (drop at file) ≡ len - at
  left_is = omega (arith, length-drop at file, size_is)

  -- at the end of the file none stands
  pub len_end : len ≤ at → IsLenAt (drop at file) None
  len_end over before e after fit is =
      absurd (omega (arith, ap length is, length-append (frame before e) after, length_frame before e, length-drop at file, size_is, over))

  -- the length is read from the first bytes
  pub len_read : (bytes : List ℕ) → bytes ≡ take (min FRAME_ROOM (len - at)) (drop at file) → (before : ℕ) (e : Entry) (after : List ℕ) → IsFit e → drop at file ≡ frame before e ++ after
      → len_in bytes ≡ Some (length (frame before e))
  len_read bytes is before e after fit there =
      ap len_in (is ∙ take_least FRAME_ROOM (len - at) (drop at file) (sym left_is) ∙ ap (take FRAME_ROOM) there) ∙ frame_len FRAME_ROOM before e after (omega arith) fit

  pub head_read : (bytes : List ℕ) → bytes ≡ take (min FRAME_ROOM (len - at)) (drop at file) → (before : ℕ) (e : Entry) (after : List ℕ) → IsFit e → drop at file ≡ frame before e ++ after
      → head_in bytes ≡ Some (head_of e)
  head_read bytes is before e after fit there =
      ap head_in (is ∙ take_least FRAME_ROOM (len - at) (drop at file) (sym left_is) ∙ ap (take FRAME_ROOM) there) ∙ frame_head FRAME_ROOM before e after (omega arith) fit

  -- and is within the file
  pub len_within : (before : ℕ) (e : Entry) (after : List ℕ) → drop at file ≡ frame before e ++ after → length (frame before e) ≤ len - at
  len_within before e after there = omega (arith, left_is, ap length there, length-append (frame before e) after)

-- ---- one frame

pub finds_none : (first : Bool) (before : ℕ) (read rest : List ℕ) → IsLenAt rest None → FindsFrame first before rest read None
finds_none first before read rest at = λ e after fit kind is. let nothing : None ≡ Some (length (frame before e)) = at before e after fit is in cc

pub finds : (first : Bool) (before size : ℕ) (rest read : List ℕ) (found : Option ℕ) → IsLenAt rest (Some size) → read ≡ take size rest → Checks first before read found → FindsFrame first before rest read found
finds first before size rest read None at is none = λ e after fit kind there.
    let len : size ≡ length (frame before e) = some_same _ _ (at before e after fit there) in
    none e (record { fit = fit; kind = kind; is = is ∙ ap (take size) there ∙ take_at (frame before e) after size (sym len) })
finds first before size rest read (Some digest) at is checked =
    record {
      entry = checked.entry;
      fit = checked.frame.fit;
      kind = checked.frame.kind;
      after = drop size rest;
      is = sym (take-append-drop size rest) ∙ ap (λ (l : List ℕ). l ++ drop size rest) (sym is ∙ checked.frame.is);
      read_is = checked.frame.is;
      digest_is = checked.digest_is;
    }

-- ---- the bytes of one frame

-- the head of each frame with which bytes begin is that of each with which a part of them begins
pub heads_part : (size : ℕ) (rest : List ℕ) (h : RecordHeadFields) → IsHeadOf h rest → IsHeadOf h (take size rest)
heads_part size rest h heads before e after fit at =
    heads before e (after ++ drop size rest) fit (sym (take-append-drop size rest) ∙ ap (λ (l : List ℕ). l ++ drop size rest) at ∙ append_assoc (frame before e) after (drop size rest))

module _ (first : Bool) (before : ℕ) (bytes : List ℕ) (h : RecordHeadFields) (heads : IsHeadOf h bytes) where
  head_is : (e : Entry) → IsFit e → bytes ≡ frame before e → h ≡ head_of e
  head_is e fit is = heads before e [] fit (is ∙ sym (append-nil (frame before e)))

  -- the bytes before the last one are those of the record
  body_is : (e : Entry) → IsFit e → bytes ≡ frame before e → body_in h.size bytes ≡ Some e.body
  body_is e fit is = ap (λ n. body_in n bytes) (ap (λ (x : RecordHeadFields). x.size) (head_is e fit is)) ∙ ap (body_in (length e.body)) is ∙ body_of before e

  pub checks_none : body_in h.size bytes ≡ None → Checks first before bytes None
  checks_none none = λ e stands.
      let read : None ≡ Some e.body = sym none ∙ body_is e stands.fit stands.is in
      cc

  pub checks_refused : (is_first_kind h.kind ≡ first → ⊥) → Checks first before bytes None
  checks_refused refused = λ e stands. refused (ap (λ (x : RecordHeadFields). is_first_kind x.kind) (head_is e stands.fit stands.is) ∙ stands.kind)

  module _ (kind : Kind) (size : ℕ) (written body : List ℕ) (is_head : IsFrameHead h kind size written) (read : body_in h.size bytes ≡ Some body) where
    abbrev entry : Entry
    entry = record { moment = h.moment; kind = h.kind; name = h.name; body = body }

    head_same : head_of entry ≡ h
    head_same = ap (λ n. record { moment = h.moment; kind = h.kind; name = h.name; size = n }) (length_body h.size bytes body read)

    entry_fit : IsFit entry
    entry_fit = record { moment = is_head.moment; fit = ap (λ n. is_within h.kind h.name n) (length_body h.size bytes body read) ∙ is_head.within }

    text_is : written ≡ head_front (head_of entry)
    text_is = is_head.text ∙ ap head_front (sym head_same)

    framed_is : framed before written body ≡ frame before entry
    unfolding frame frame_front next_digest
    framed_is = ap (λ (l : List ℕ). framed before l body) text_is

    digest_is : digest before (written ++ body) ≡ next_digest before entry
    unfolding next_digest
    digest_is = ap (λ (l : List ℕ). digest before (l ++ body)) text_is

    entry_same : (e : Entry) → IsFit e → bytes ≡ frame before e → entry ≡ e
    entry_same e fit is =
        let same : body ≡ e.body = some_same _ _ (sym read ∙ body_is e fit is) in
        ap (λ (l : List ℕ). record { moment = h.moment; kind = h.kind; name = h.name; body = l }) same
        ∙ ap (λ (x : RecordHeadFields). record { moment = x.moment; kind = x.kind; name = x.name; body = e.body }) (head_is e fit is)

    pub checks_spelled : (result : Option ℕ) → is_first_kind h.kind ≡ first
        → MatchOption result (bytes ≢ framed before written body) (λ d. (bytes ≡ framed before written body) × (d ≡ digest before (written ++ body)))
        → Checks first before bytes result
    checks_spelled None is_kind none = λ e stands. none (stands.is ∙ ap (frame before) (sym (entry_same e stands.fit stands.is)) ∙ sym framed_is)
    checks_spelled (Some d) is_kind spelled =
        let is : bytes ≡ frame before entry = spelled.0 ∙ framed_is in
        record { entry = entry; frame = record { fit = entry_fit; kind = is_kind; is = is }; digest_is = spelled.1 ∙ digest_is; read = ap entry_in is ∙ frame_read before entry entry_fit }
