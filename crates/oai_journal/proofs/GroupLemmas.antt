-- What stands on the disk while a group is written: the journal before it, and then with all of the group or none.
use Rattle.std.proofs.Common.{◌≡◌, ◌∙◌, inl, inr, ℕ, ◌+◌, true, false, List, [], ◌∷◌, ◌++◌, length, map, get_or, refl, sym, ap, subst, arith, lit<, append_assoc}
use Rattle.std.proofs.Math.Seq.{get_or-append_seam}
use Rattle.std.proofs.lemmas.Bool.{cases_Bool}
use Rattle.std.proofs.lemmas.List.{length-append, map-append}
use Rattle.sqlite_disk.specs.Disk.{Holds, Only, Torn}
use Rattle.oai_journal.specs.Files.{AreGated, IsJournalFile, Gated, digest_after, front, is_commit_set, spelled_frames}
use Rattle.oai_journal.specs.Frames.{next_digest}
use Rattle.oai_journal.specs.Groups.{AreGrouped, EndsBeforeOrAfter, IsGroup, IsOnDisk, IsMadeDurable, digest_of_all, further, inside}
use Rattle.oai_journal.specs.Records.{Entry}
use Rattle.oai_journal.proofs.CrashLemmas.{held, torn_behind, torn_byte}
use Rattle.oai_journal.proofs.FileLemmas.{digest_append, front_append, gated_append}

-- ---- the frames of a group

-- a group whose first gate is this one
abbrev opened : ℕ → List Entry → List Gated
opened gate [] = []
opened gate (e ∷ es) = record { gate = gate; entry = e } ∷ further es

entries_further : (es : List Entry) → map (λ f. f.entry) (further es) ≡ es
entries_further [] = refl
entries_further (e ∷ es) = ap (λ l. e ∷ l) (entries_further es)

entries_opened : (gate : ℕ) (es : List Entry) → map (λ f. f.entry) (opened gate es) ≡ es
entries_opened gate [] = refl
entries_opened gate (e ∷ es) = ap (λ l. e ∷ l) (entries_further es)

gated_further : (es : List Entry) → AreGrouped es → AreGated (further es)
gated_further [] are = tt
gated_further (e ∷ es) are = (record { opened = refl; fit = are.0.0; kind = are.0.1 }, gated_further es are.1)

gated_opened : (gate : ℕ) (es : List Entry) → is_commit_set gate ≡ true → AreGrouped es → AreGated (opened gate es)
gated_opened gate [] open_is are = tt
gated_opened gate (e ∷ es) open_is are = (record { opened = open_is; fit = are.0.0; kind = are.0.1 }, gated_further es are.1)

digest_further : (before : ℕ) (es : List Entry) → digest_after before (further es) ≡ digest_of_all before es
digest_further before [] = refl
digest_further before (e ∷ es) = digest_further (next_digest before e) es

digest_opened : (gate before : ℕ) (es : List Entry) → digest_after before (opened gate es) ≡ digest_of_all before es
digest_opened gate before [] = refl
digest_opened gate before (e ∷ es) = digest_further (next_digest before e) es

spelled_opened : (gate before : ℕ) (es : List Entry) → (es ≡ [] → ⊥) → spelled_frames before (opened gate es) ≡ gate ∷ inside before es
spelled_opened gate before [] some = absurd (some refl)
spelled_opened gate before (e ∷ es) some = refl

-- a gate and a group behind the frames of a file are these frames and the group's
file_opened : (first : Entry) (frames : List Gated) (gate : ℕ) (later : List Entry) (group rest : List ℕ) → IsGroup group (digest_after (next_digest 0 first) frames) later
    → front first frames ++ gate ∷ (group ++ rest) ≡ front first (frames ++ opened gate later) ++ 45 ∷ rest
file_opened first frames gate later group rest is =
    let d : ℕ = digest_after (next_digest 0 first) frames in
    let f : List ℕ = front first frames in
    let pieces : group ++ rest ≡ inside d later ++ 45 ∷ rest = ap (λ (l : List ℕ). l ++ rest) is.is ∙ append_assoc (inside d later) (45 ∷ []) rest in
    ap (λ (l : List ℕ). f ++ gate ∷ l) pieces
    ∙ ap (λ (l : List ℕ). f ++ (l ++ 45 ∷ rest)) (sym (spelled_opened gate d later is.some))
    ∙ sym (append_assoc f (spelled_frames d (opened gate later)) (45 ∷ rest))
    ∙ ap (λ (l : List ℕ). l ++ 45 ∷ rest) (sym (front_append first frames (opened gate later)))

-- ---- the two writes

module _ {D : Type 0} (seen : D → List ℕ) (may_leave : D → List ℕ → Type 0) (old : D) (end digest : ℕ) (first : Entry) (entries later : List Entry) (group : List ℕ)
    (settled : IsOnDisk seen may_leave old end digest first entries) (grouped : IsGroup group digest later) where
  abbrev before : List ℕ
  before = front first settled.frames

  abbrev with_gate : List ℕ
  with_gate = before ++ settled.gate ∷ []

  length_gate : length with_gate ≡ end + 1
  length_gate = omega (arith, length-append before (settled.gate ∷ []), settled.place)

  group_is : IsGroup group (digest_after (next_digest 0 first) settled.frames) later
  group_is = subst (λ d. IsGroup group d later) settled.last grouped

  ends_shut : (file : List ℕ) (gate : ℕ) (rest : List ℕ) → is_commit_set gate ≡ false → file ≡ before ++ gate ∷ rest → IsJournalFile file first entries
  ends_shut file gate rest closed file_is =
      record { frames = settled.frames; gate = gate; behind = rest; is = file_is; closed = closed; begins = settled.begins; are = settled.are; says = settled.says }

  pub ends_now : (file : List ℕ) → file ≡ seen old → IsJournalFile file first entries
  ends_now file same = ends_shut file settled.gate settled.behind settled.closed (same ∙ settled.is)

  old_is : seen old ≡ with_gate ++ settled.behind
  old_is = settled.is ∙ sym (append_assoc before (settled.gate ∷ []) settled.behind)

  -- while the group is written its gate is closed
  pub ends_torn : (file : List ℕ) → Torn (end + 1) (length group) (seen old) file → IsJournalFile file first entries
  ends_torn file torn =
      let here : Torn (length with_gate) (length group) (with_gate ++ settled.behind) file = rw (length_gate, ← old_is) torn in
      let cut = torn_behind with_gate settled.behind file (length group) here in
      ends_shut file settled.gate cut.0 settled.closed (cut.1 ∙ append_assoc before (settled.gate ∷ []) cut.0)

  -- the group stands behind its closed gate
  pub record Stands (mid : D) : Type 0 where
    pub rest : List ℕ
    pub there : seen mid ≡ before ++ settled.gate ∷ (group ++ rest)
    pub durable : Only (seen mid) (may_leave mid)

  pub stands : (mid : D) → IsMadeDurable seen may_leave (end + 1) group old mid → Stands mid
  stands mid written =
      let torn : Torn (length with_gate) (length group) (with_gate ++ settled.behind) (seen mid) = rw (length_gate, ← old_is) written.torn in
      let holds : Holds (seen mid) (length with_gate) group = rw length_gate written.holds in
      let put = held with_gate settled.behind (seen mid) group torn holds in
      record { rest = put.0; there = put.1 ∙ append_assoc before (settled.gate ∷ []) (group ++ put.0); durable = written.durable }

  module _ (mid : D) (staged : Stands mid) where
    pub ends_staged : (file : List ℕ) → file ≡ seen mid → IsJournalFile file first entries
    ends_staged file same = ends_shut file settled.gate (group ++ staged.rest) settled.closed (same ∙ staged.there)

    gate_torn : (file : List ℕ) → Torn end 1 (seen mid) file → (gate : ℕ) × (file ≡ before ++ gate ∷ (group ++ staged.rest))
    gate_torn file torn =
        let here : Torn (length before) 1 (before ++ settled.gate ∷ (group ++ staged.rest)) file = rw (← settled.place, ← staged.there) torn in
        torn_byte before (group ++ staged.rest) file settled.gate here

    says_all : (gate : ℕ) → map (λ f. f.entry) (settled.frames ++ opened gate later) ≡ entries ++ later
    says_all gate =
        map-append (λ (f : Gated). f.entry) settled.frames (opened gate later)
        ∙ ap (λ l. l ++ map (λ f. f.entry) (opened gate later)) settled.says ∙ ap (λ l. entries ++ l) (entries_opened gate later)

    -- whatever byte the gate becomes, all of the group counts or none
    pub ends_opened : (file : List ℕ) → Torn end 1 (seen mid) file → EndsBeforeOrAfter file first entries later
    ends_opened file torn =
        let cut = gate_torn file torn in
        elim (cases_Bool (is_commit_set cut.0)) [
          | inl counts ↦ inr (record {
            frames = settled.frames ++ opened cut.0 later;
            gate = 45;
            behind = staged.rest;
            is = cut.1 ∙ file_opened first settled.frames cut.0 later group staged.rest group_is;
            closed = refl;
            begins = settled.begins;
            are = gated_append settled.frames (opened cut.0 later) settled.are (gated_opened cut.0 later counts grouped.are);
            says = says_all cut.0;
          })
          | inr shut ↦ inl (ends_shut file cut.0 (group ++ staged.rest) shut cut.1)
        ]

    gate_open : (new : D) (gate : ℕ) → Holds (seen new) end (43 ∷ []) → seen new ≡ before ++ gate ∷ (group ++ staged.rest) → gate ≡ 43
    gate_open new gate holds same =
        let at : length before ≡ end + 0 = omega (arith, settled.place) in
        sym (get_or-append_seam before gate (group ++ staged.rest) 0) ∙ ap (λ (l : List ℕ). get_or l (length before) 0) (sym same)
        ∙ ap (λ n. get_or (seen new) n 0) at ∙ holds.each 0 (lit< tt)

    -- once the gate is open and synced the journal has the group
    pub settled_opened : (new : D) → IsMadeDurable seen may_leave end (43 ∷ []) mid new → IsOnDisk seen may_leave new (end + length group) (digest_of_all digest later) first (entries ++ later)
    settled_opened new written =
        let cut = gate_torn (seen new) written.torn in
        let gate : cut.0 ≡ 43 = gate_open new cut.0 written.holds cut.1 in
        let d : ℕ = digest_after (next_digest 0 first) settled.frames in
        let frames : List Gated = settled.frames ++ opened 43 later in
        let whole : front first frames ≡ before ++ (43 ∷ inside d later) = front_append first settled.frames (opened 43 later) ∙ ap (λ (l : List ℕ). before ++ l) (spelled_opened 43 d later grouped.some) in
        let size : length (front first frames) ≡ length before + (1 + length (inside d later)) = omega (arith, ap length whole, length-append before (43 ∷ inside d later)) in
        let count : length group ≡ 1 + length (inside d later) = omega (arith, ap length group_is.is, length-append (inside d later) (45 ∷ [])) in
        record {
          frames = frames;
          gate = 45;
          behind = staged.rest;
          is = cut.1 ∙ ap (λ n. before ++ n ∷ (group ++ staged.rest)) gate ∙ file_opened first settled.frames 43 later group staged.rest group_is;
          closed = refl;
          begins = settled.begins;
          are = gated_append settled.frames (opened 43 later) settled.are (gated_opened 43 later refl grouped.are);
          says = says_all 43;
          place = omega (arith, size, count, settled.place);
          last = ap (λ n. digest_of_all n later) settled.last ∙ sym (digest_opened 43 d later) ∙ sym (digest_append (next_digest 0 first) settled.frames (opened 43 later));
          durable = written.durable;
        }
