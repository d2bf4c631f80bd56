-- Frames one behind the other; and that a file is one journal at most.
use Rattle.std.proofs.Common.{◌≡◌, ◌∙◌, ℕ, true, false, List, [], ◌∷◌, ◌++◌, map, refl, sym, ap, append_assoc}
use Rattle.std.proofs.lemmas.Bool.{false≢true}
use Rattle.oai_journal.specs.Files.{AreGated, IsJournalFile, Gated, digest_after, front, is_commit_set, spelled_frames}
use Rattle.oai_journal.specs.Frames.{frame, next_digest}
use Rattle.oai_journal.specs.Records.{Entry, IsFit}
use Rattle.oai_journal.proofs.FrameLemmas.{frame_same}

pub spelled_append : (before : ℕ) (fs gs : List Gated) → spelled_frames before (fs ++ gs) ≡ spelled_frames before fs ++ spelled_frames (digest_after before fs) gs
spelled_append before [] gs = refl
spelled_append before (f ∷ fs) gs =
    let next : ℕ = next_digest before f.entry in
    ap (λ (l : List ℕ). f.gate ∷ (frame before f.entry ++ l)) (spelled_append next fs gs)
    ∙ ap (λ (l : List ℕ). f.gate ∷ l) (sym (append_assoc (frame before f.entry) (spelled_frames next fs) (spelled_frames (digest_after next fs) gs)))

pub digest_append : (before : ℕ) (fs gs : List Gated) → digest_after before (fs ++ gs) ≡ digest_after (digest_after before fs) gs
digest_append before [] gs = refl
digest_append before (f ∷ fs) gs = digest_append (next_digest before f.entry) fs gs

pub gated_append : (fs gs : List Gated) → AreGated fs → AreGated gs → AreGated (fs ++ gs)
gated_append [] gs a b = b
gated_append (f ∷ fs) gs a b = (a.0, gated_append fs gs a.1 b)

pub front_append : (first : Entry) (fs gs : List Gated) → front first (fs ++ gs) ≡ front first fs ++ spelled_frames (digest_after (next_digest 0 first) fs) gs
front_append first fs gs =
    let next : ℕ = next_digest 0 first in
    ap (λ (l : List ℕ). 43 ∷ (frame 0 first ++ l)) (spelled_append next fs gs)
    ∙ ap (λ (l : List ℕ). 43 ∷ l) (sym (append_assoc (frame 0 first) (spelled_frames next fs) (spelled_frames (digest_after next fs) gs)))

-- ---- one journal at most

abbrev first_or : List ℕ → ℕ → ℕ
first_or [] d = d
first_or (x ∷ xs) d = x

abbrev tail_of : List ℕ → List ℕ
tail_of [] = []
tail_of (x ∷ xs) = xs

pub heads_same : (a b : ℕ) (xs ys : List ℕ) → a ∷ xs ≡ b ∷ ys → a ≡ b
heads_same a b xs ys is = ap (λ l. first_or l a) is

pub tails_same : (a b : ℕ) (xs ys : List ℕ) → a ∷ xs ≡ b ∷ ys → xs ≡ ys
tails_same a b xs ys is = ap tail_of is

pub shut : (gate gate' : ℕ) → gate ≡ gate' → is_commit_set gate ≡ true → is_commit_set gate' ≡ false → ⊥
shut gate gate' is opened closed = false≢true (sym closed ∙ ap is_commit_set (sym is) ∙ opened)

pub step : (before : ℕ) (f : Gated) (fs : List Gated) (tail : List ℕ) → spelled_frames before (f ∷ fs) ++ tail ≡ f.gate ∷ (frame before f.entry ++ (spelled_frames (next_digest before f.entry) fs ++ tail))
step before f fs tail = ap (λ (l : List ℕ). f.gate ∷ l) (append_assoc (frame before f.entry) (spelled_frames (next_digest before f.entry) fs) tail)

gated_same : (f g : Gated) → f.gate ≡ g.gate → f.entry ≡ g.entry → f ≡ g
gated_same f g a b = λ i. record { gate = a i; entry = b i }

frames_same : (before : ℕ) (fs gs : List Gated) (gate gate' : ℕ) (behind behind' : List ℕ) → AreGated fs → AreGated gs → is_commit_set gate ≡ false → is_commit_set gate' ≡ false
    → spelled_frames before fs ++ gate ∷ behind ≡ spelled_frames before gs ++ gate' ∷ behind' → fs ≡ gs
frames_same before [] [] gate gate' behind behind' a b c d is = refl
frames_same before [] (g ∷ gs) gate gate' behind behind' a b c d is = absurd (shut g.gate gate (sym (heads_same _ _ _ _ is)) b.0.opened c)
frames_same before (f ∷ fs) [] gate gate' behind behind' a b c d is = absurd (shut f.gate gate' (heads_same _ _ _ _ is) a.0.opened d)
frames_same before (f ∷ fs) (g ∷ gs) gate gate' behind behind' a b c d is =
    let both = sym (step before f fs (gate ∷ behind)) ∙ is ∙ step before g gs (gate' ∷ behind') in
    let gates : f.gate ≡ g.gate = heads_same _ _ _ _ both in
    let same = frame_same before f.entry g.entry _ _ a.0.fit b.0.fit (tails_same _ _ _ _ both) in
    let rest : spelled_frames (next_digest before f.entry) fs ++ gate ∷ behind ≡ spelled_frames (next_digest before f.entry) gs ++ gate' ∷ behind' =
    same.behind ∙ ap (λ (e : Entry). spelled_frames (next_digest before e) gs ++ gate' ∷ behind') (sym same.entry) in
    let others : fs ≡ gs = frames_same (next_digest before f.entry) fs gs gate gate' behind behind' a.1 b.1 c d rest in
    λ i. gated_same f g gates same.entry i ∷ others i

pub record IsOne (first first' : Entry) (entries entries' : List Entry) : Type 0 where
  pub begins : first ≡ first'
  pub are : entries ≡ entries'

pub front_step : (first : Entry) (fs : List Gated) (tail : List ℕ) → front first fs ++ tail ≡ 43 ∷ (frame 0 first ++ (spelled_frames (next_digest 0 first) fs ++ tail))
front_step first fs tail = ap (λ (l : List ℕ). 43 ∷ l) (append_assoc (frame 0 first) (spelled_frames (next_digest 0 first) fs) tail)

pub ends_same : (file : List ℕ) (first first' : Entry) (entries entries' : List Entry) → IsJournalFile file first entries → IsJournalFile file first' entries' → IsOne first first' entries entries'
ends_same file first first' entries entries' a b =
    let both = sym (front_step first a.frames (a.gate ∷ a.behind)) ∙ sym a.is ∙ b.is ∙ front_step first' b.frames (b.gate ∷ b.behind) in
    let same = frame_same 0 first first' _ _ a.begins.fit b.begins.fit (tails_same _ _ _ _ both) in
    let rest : spelled_frames (next_digest 0 first) a.frames ++ a.gate ∷ a.behind ≡ spelled_frames (next_digest 0 first) b.frames ++ b.gate ∷ b.behind =
    same.behind ∙ ap (λ (e : Entry). spelled_frames (next_digest 0 e) b.frames ++ b.gate ∷ b.behind) (sym same.entry) in
    let frames : a.frames ≡ b.frames = frames_same (next_digest 0 first) a.frames b.frames a.gate b.gate a.behind b.behind a.are b.are a.closed b.closed rest in
    record { begins = same.entry; are = sym a.says ∙ ap (map (λ f. f.entry)) frames ∙ b.says }

-- two readings of one file as far as a closed gate are one
pub record AreOne (first first' : Entry) (fs gs : List Gated) (back back' : List ℕ) : Type 0 where
  pub behind : back ≡ back'
  pub last : digest_after (next_digest 0 first) fs ≡ digest_after (next_digest 0 first') gs

behind_same : (before : ℕ) (fs gs : List Gated) (gate gate' : ℕ) (behind behind' : List ℕ) → AreGated fs → AreGated gs → is_commit_set gate ≡ false → is_commit_set gate' ≡ false
    → spelled_frames before fs ++ gate ∷ behind ≡ spelled_frames before gs ++ gate' ∷ behind' → behind ≡ behind'
behind_same before [] [] gate gate' behind behind' a b c d is = tails_same _ _ _ _ is
behind_same before [] (g ∷ gs) gate gate' behind behind' a b c d is = absurd (shut g.gate gate (sym (heads_same _ _ _ _ is)) b.0.opened c)
behind_same before (f ∷ fs) [] gate gate' behind behind' a b c d is = absurd (shut f.gate gate' (heads_same _ _ _ _ is) a.0.opened d)
behind_same before (f ∷ fs) (g ∷ gs) gate gate' behind behind' a b c d is =
    let both = sym (step before f fs (gate ∷ behind)) ∙ is ∙ step before g gs (gate' ∷ behind') in
    let same = frame_same before f.entry g.entry _ _ a.0.fit b.0.fit (tails_same _ _ _ _ both) in
    behind_same (next_digest before f.entry) fs gs gate gate' behind behind' a.1 b.1 c d
    (same.behind ∙ ap (λ (e : Entry). spelled_frames (next_digest before e) gs ++ gate' ∷ behind') (sym same.entry))

pub fronts_same : (first first' : Entry) (fs gs : List Gated) (gate gate' : ℕ) (behind behind' : List ℕ) → IsFit first → IsFit first' → AreGated fs → AreGated gs
    → is_commit_set gate ≡ false → is_commit_set gate' ≡ false → front first fs ++ gate ∷ behind ≡ front first' gs ++ gate' ∷ behind' → AreOne first first' fs gs behind behind'
fronts_same first first' fs gs gate gate' behind behind' fit fit' a b c d is =
    let both = sym (front_step first fs (gate ∷ behind)) ∙ is ∙ front_step first' gs (gate' ∷ behind') in
    let same = frame_same 0 first first' _ _ fit fit' (tails_same _ _ _ _ both) in
    let rest : spelled_frames (next_digest 0 first) fs ++ gate ∷ behind ≡ spelled_frames (next_digest 0 first) gs ++ gate' ∷ behind' =
    same.behind ∙ ap (λ (e : Entry). spelled_frames (next_digest 0 e) gs ++ gate' ∷ behind') (sym same.entry) in
    let frames : fs ≡ gs = frames_same (next_digest 0 first) fs gs gate gate' behind behind' a b c d rest in
    record {
      behind = behind_same (next_digest 0 first) fs gs gate gate' behind behind' a b c d rest;
      last = ap (λ l. digest_after (next_digest 0 first) l) frames ∙ ap (λ (e : Entry). digest_after (next_digest 0 e) gs) same.entry;
    }
