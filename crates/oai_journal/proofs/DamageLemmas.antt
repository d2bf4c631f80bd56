-- A file that is damaged is no journal: its frames are those of the journal as far as the damage, and there stands no gate, or an open one and no frame.
use Rattle.std.proofs.Common.{◌≡◌, ◌⊎◌, ◌∙◌, inl, inr, ⊎_elim, ℕ, false, List, [], ◌∷◌, ◌++◌, refl, sym, ap}
use Rattle.oai_journal.specs.Files.{AreGated, IsJournalFile, Gated, digest_after, is_commit_set, spelled_frames}
use Rattle.oai_journal.specs.Frames.{frame, next_digest}
use Rattle.oai_journal.specs.Records.{Entry}
use Rattle.oai_journal.specs.Recoveries.{IsDamagedAt, IsOpenWithNone}
use Rattle.oai_journal.proofs.FileLemmas.{front_step, heads_same, shut, step, tails_same}
use Rattle.oai_journal.proofs.FrameLemmas.{frame_same}

abbrev IsEnd : ℕ → List ℕ → Type 0
IsEnd before rest = (rest ≡ []) ⊎ IsOpenWithNone before rest

no_bytes : (gate : ℕ) (behind : List ℕ) → [] ≡ gate ∷ behind → ⊥
no_bytes gate behind is = cc

-- where a closed gate stands
at_closed : (before gate : ℕ) (rest behind : List ℕ) → is_commit_set gate ≡ false → rest ≡ gate ∷ behind → IsEnd before rest → ⊥
at_closed before gate rest behind closed is end =
    ⊎_elim (λ none. no_bytes gate behind (sym none ∙ is)) (λ (o : IsOpenWithNone before rest). shut o.gate gate (heads_same _ _ _ _ (sym o.is ∙ is)) o.opened closed) end

-- where a gate and a frame stand
at_frame : (before : ℕ) (g : Gated) (rest after : List ℕ) → AreGated (g ∷ []) → rest ≡ g.gate ∷ (frame before g.entry ++ after) → IsEnd before rest → ⊥
at_frame before g rest after are is end =
    ⊎_elim (λ none. no_bytes g.gate (frame before g.entry ++ after) (sym none ∙ is))
    (λ (o : IsOpenWithNone before rest). o.none g.entry after are.0.fit are.0.kind (tails_same _ _ _ _ (sym o.is ∙ is))) end

not_ended : (before : ℕ) (fs gs : List Gated) (rest : List ℕ) (gate : ℕ) (behind : List ℕ) → AreGated fs → AreGated gs → is_commit_set gate ≡ false
    → spelled_frames before fs ++ rest ≡ spelled_frames before gs ++ gate ∷ behind → IsEnd (digest_after before fs) rest → ⊥
not_ended before [] [] rest gate behind a b closed is end = at_closed before gate rest behind closed is end
not_ended before [] (g ∷ gs) rest gate behind a b closed is end =
    at_frame before g rest (spelled_frames (next_digest before g.entry) gs ++ gate ∷ behind) (b.0, tt) (is ∙ step before g gs (gate ∷ behind)) end
not_ended before (f ∷ fs) [] rest gate behind a b closed is end = shut f.gate gate (heads_same _ _ _ _ is) a.0.opened closed
not_ended before (f ∷ fs) (g ∷ gs) rest gate behind a b closed is end =
    let both = sym (step before f fs rest) ∙ is ∙ step before g gs (gate ∷ behind) in
    let same = frame_same before f.entry g.entry _ _ a.0.fit b.0.fit (tails_same _ _ _ _ both) in
    let others : spelled_frames (next_digest before f.entry) fs ++ rest ≡ spelled_frames (next_digest before f.entry) gs ++ gate ∷ behind =
    same.behind ∙ ap (λ (e : Entry). spelled_frames (next_digest before e) gs ++ gate ∷ behind) (sym same.entry) in
    not_ended (next_digest before f.entry) fs gs rest gate behind a.1 b.1 closed others end

pub damaged_not_ended : (file : List ℕ) (at : ℕ) (first : Entry) (entries : List Entry) → IsDamagedAt file at → IsJournalFile file first entries → ⊥
damaged_not_ended file at first entries (inl none) e =
    none.1 (frame 0 first ++ (spelled_frames (next_digest 0 first) e.frames ++ e.gate ∷ e.behind)) (e.is ∙ front_step first e.frames (e.gate ∷ e.behind))
    first (spelled_frames (next_digest 0 first) e.frames ++ e.gate ∷ e.behind) e.begins.fit e.begins.kind refl
damaged_not_ended file at first entries (inr b) e =
    let both = sym (front_step b.first b.frames b.rest) ∙ sym b.is ∙ e.is ∙ front_step first e.frames (e.gate ∷ e.behind) in
    let same = frame_same 0 b.first first _ _ b.begins.fit e.begins.fit (tails_same _ _ _ _ both) in
    let others : spelled_frames (next_digest 0 b.first) b.frames ++ b.rest ≡ spelled_frames (next_digest 0 b.first) e.frames ++ e.gate ∷ e.behind =
    same.behind ∙ ap (λ (x : Entry). spelled_frames (next_digest 0 x) e.frames ++ e.gate ∷ e.behind) (sym same.entry) in
    not_ended (next_digest 0 b.first) b.frames e.frames b.rest e.gate e.behind b.are e.are e.closed others b.broken
