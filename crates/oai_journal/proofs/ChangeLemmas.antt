-- Whether what stands behind a gate goes on: one frame after the other, and then the gate of a further group and its frame.
use Rattle.std.proofs.Common.{◌≡◌, ◌⊎◌, ◌∙◌, inl, inr, ⊎_elim, ℕ, ◌+◌, ◌↔◌, Bool, true, false, List, [], ◌∷◌, ◌++◌, length, drop, Some, None, IsTrue, refl, sym, ap, subst, append_assoc, arith}
use Rattle.std.proofs.lemmas.Bool.{false≢true}
use Rattle.std.proofs.lemmas.List.{drop-drop, drop_at}
use Rattle.oai_journal.specs.Changes.{BeginsWithFrame, GoesOn, IsSearchTurn}
use Rattle.oai_journal.specs.Files.{spelled_frames}
use Rattle.oai_journal.specs.Frames.{frame, next_digest}
use Rattle.oai_journal.specs.Groups.{AreGrouped, digest_of_all, further, inside}
use Rattle.oai_journal.specs.Records.{Entry, IsFit, is_first_kind}
use Rattle.oai_journal.specs.Recoveries.{HasFrame, HasNoFrame, IsGateAt}
use Rattle.oai_journal.specs.declared.changes.ChainProgress.TheVariants.{Further, Done}
use Rattle.oai_journal.proofs.FileLemmas.{heads_same, tails_same}
use Rattle.oai_journal.proofs.FrameLemmas.{frame_same}

-- what stands behind the first frame of bytes that go on
abbrev Behind : ℕ → List ℕ → Type 0
Behind next after = ((r : List ℕ) × (after ≡ 43 ∷ r) × BeginsWithFrame next r) ⊎ ((r : List ℕ) × (after ≡ 38 ∷ r) × GoesOn next r)

-- the bytes behind the first frame of a group
behind_first : (n : ℕ) (xs : List Entry) (behind after : List ℕ) → AreGrouped xs → after ≡ spelled_frames n (further xs) ++ 43 ∷ behind → BeginsWithFrame (digest_of_all n xs) behind → Behind n after
behind_first n [] behind after are is next = inl (behind, is, next)
behind_first n (y ∷ ys) behind after are is next =
    inr (inside n (y ∷ ys) ++ 43 ∷ behind, is, record { group = y ∷ ys; some = λ none. cc; are = are; behind = behind; is = refl; next = next })

none_goes : (before : ℕ) (bytes : List ℕ) → HasNoFrame false before bytes → GoesOn before bytes → ⊥
none_goes before bytes none g = first g.group g.some g.are g.is
  where
    first : (es : List Entry) → (es ≡ [] → ⊥) → AreGrouped es → bytes ≡ inside before es ++ 43 ∷ g.behind → ⊥
    first [] some are is = some refl
    first (e ∷ es) some are is =
        none e (spelled_frames (next_digest before e) (further es) ++ 43 ∷ g.behind) are.0.0 are.0.1
        (is ∙ append_assoc (frame before e) (spelled_frames (next_digest before e) (further es)) (43 ∷ g.behind))

module _ (before : ℕ) (e : Entry) (after : List ℕ) (fit : IsFit e) (kind : is_first_kind e.kind ≡ false) where
  abbrev n : ℕ
  n = next_digest before e

  forth : GoesOn before (frame before e ++ after) → Behind n after
  forth g = go g.group g.some g.are g.is g.next
    where
      go : (es : List Entry) → (es ≡ [] → ⊥) → AreGrouped es → frame before e ++ after ≡ inside before es ++ 43 ∷ g.behind → BeginsWithFrame (digest_of_all before es) g.behind → Behind n after
      go [] some are is next = absurd (some refl)
      go (x ∷ xs) some are is next =
          let both = is ∙ append_assoc (frame before x) (spelled_frames (next_digest before x) (further xs)) (43 ∷ g.behind) in
          let same = frame_same before e x after (spelled_frames (next_digest before x) (further xs) ++ 43 ∷ g.behind) fit are.0.0 both in
          subst (λ (y : Entry). Behind (next_digest before y) after) (sym same.entry) (behind_first (next_digest before x) xs g.behind after are.1 same.behind next)

  back_open : (r : List ℕ) → after ≡ 43 ∷ r → BeginsWithFrame n r → GoesOn before (frame before e ++ after)
  back_open r is next =
      record {
        group = e ∷ [];
        some = λ none. cc;
        are = ((fit, kind), tt);
        behind = r;
        is = ap (λ (l : List ℕ). frame before e ++ l) is ∙ sym (append_assoc (frame before e) [] (43 ∷ r));
        next = next;
      }

  back_further : (r : List ℕ) → after ≡ 38 ∷ r → GoesOn n r → GoesOn before (frame before e ++ after)
  back_further r is g = go g.group g.some g.are g.is g.next
    where
      go : (es : List Entry) → (es ≡ [] → ⊥) → AreGrouped es → r ≡ inside n es ++ 43 ∷ g.behind → BeginsWithFrame (digest_of_all n es) g.behind → GoesOn before (frame before e ++ after)
      go [] some are there next = absurd (some refl)
      go (y ∷ ys) some are there next =
          record {
            group = e ∷ y ∷ ys;
            some = λ none. cc;
            are = ((fit, kind), are);
            behind = g.behind;
            is = ap (λ (l : List ℕ). frame before e ++ l) (is ∙ ap (λ (l : List ℕ). 38 ∷ l) there) ∙ sym (append_assoc (frame before e) (38 ∷ inside n (y ∷ ys)) (43 ∷ g.behind));
            next = next;
          }

-- ---- one turn

no_bytes : (gate : ℕ) (behind : List ℕ) → [] ≡ gate ∷ behind → ⊥
no_bytes gate behind is = cc

apart : (a b : ℕ) → a ≡ 38 → b ≡ 43 → a ≡ b → ⊥
apart a b low high is = omega (arith, low, high, is)

abbrev pub Begins : Bool → ℕ → List ℕ → Type 0
Begins on before bytes = IsTrue on ↔ BeginsWithFrame before bytes

pub begins_none : (before : ℕ) (bytes : List ℕ) → HasNoFrame false before bytes → Begins false before bytes
begins_none before bytes none = (λ nothing. absurd (false≢true nothing), λ b. absurd (none b.entry b.after b.fit b.kind b.is))

pub begins_some : (before digest : ℕ) (bytes read : List ℕ) → HasFrame false before bytes read digest → Begins true before bytes
begins_some before digest bytes read f = (λ is. record { entry = f.entry; fit = f.fit; kind = f.kind; after = f.after; is = f.is }, λ b. refl)

pub turn_none : (file : List ℕ) (at before : ℕ) → HasNoFrame false before (drop at file) → IsSearchTurn file at before (Done false)
turn_none file at before none = (λ nothing. absurd (false≢true nothing), λ g. absurd (none_goes before (drop at file) none g))

module _ (file : List ℕ) (at before last : ℕ) (read : List ℕ) (f : HasFrame false before (drop at file) read last) where
  after_is : drop (at + length read) file ≡ f.after
  after_is =
      sym (drop-drop (length read) at file) ∙ ap (drop (length read)) f.is ∙ drop_at (frame before f.entry) f.after (length read) (sym (ap length f.read_is))

  behind_it : GoesOn before (drop at file) → Behind last (drop (at + length read) file)
  behind_it g =
      let here = forth before f.entry f.after f.fit f.kind (subst (GoesOn before) f.is g) in
      subst (λ (l : List ℕ). Behind last l) (sym after_is) (subst (λ m. Behind m f.after) (sym f.digest_is) here)

  pub turn_end : (drop (at + length read) file ≡ []) ⊎ ((gate : ℕ) × (r : List ℕ) × (drop (at + length read) file ≡ gate ∷ r) × (gate ≡ 43 → ⊥) × (gate ≡ 38 → ⊥)) → IsSearchTurn file at before (Done false)
  turn_end end = (
    λ nothing. absurd (false≢true nothing),
    λ g. absurd (⊎_elim
        (λ (b : (r : List ℕ) × (drop (at + length read) file ≡ 43 ∷ r) × BeginsWithFrame last r). ⊎_elim (λ none. no_bytes 43 b.0 (sym none ∙ b.1)) (λ x. x.3 (heads_same _ _ _ _ (sym x.2 ∙ b.1))) end)
        (λ (b : (r : List ℕ) × (drop (at + length read) file ≡ 38 ∷ r) × GoesOn last r). ⊎_elim (λ none. no_bytes 38 b.0 (sym none ∙ b.1)) (λ x. x.4 (heads_same _ _ _ _ (sym x.2 ∙ b.1))) end)
        (behind_it g)),
  )

  pub turn_open : (on : Bool) → drop (at + length read) file ≡ 43 ∷ drop (at + length read + 1) file → Begins on last (drop (at + length read + 1) file) → IsSearchTurn file at before (Done on)
  turn_open on gate begins = (
    λ counts.
        let next = subst (λ m. BeginsWithFrame m (drop (at + length read + 1) file)) f.digest_is (begins.0 counts) in
        subst (GoesOn before) (sym f.is) (back_open before f.entry f.after f.fit f.kind (drop (at + length read + 1) file) (sym after_is ∙ gate) next),
    λ g. ⊎_elim
        (λ (b : (r : List ℕ) × (drop (at + length read) file ≡ 43 ∷ r) × BeginsWithFrame last r). begins.1 (subst (BeginsWithFrame last) (tails_same _ _ _ _ (sym b.1 ∙ gate)) b.2))
        (λ (b : (r : List ℕ) × (drop (at + length read) file ≡ 38 ∷ r) × GoesOn last r). absurd (apart 38 43 refl refl (heads_same _ _ _ _ (sym b.1 ∙ gate))))
        (behind_it g),
  )

  pub turn_further : drop (at + length read) file ≡ 38 ∷ drop (at + length read + 1) file → IsSearchTurn file at before (Further (at + length read + 1) last)
  turn_further gate = (
    λ g. ⊎_elim
        (λ (b : (r : List ℕ) × (drop (at + length read) file ≡ 43 ∷ r) × BeginsWithFrame last r). absurd (apart 38 43 refl refl (heads_same _ _ _ _ (sym gate ∙ b.1))))
        (λ (b : (r : List ℕ) × (drop (at + length read) file ≡ 38 ∷ r) × GoesOn last r). subst (GoesOn last) (tails_same _ _ _ _ (sym b.1 ∙ gate)) b.2)
        (behind_it g),
    λ g.
        let next = subst (λ m. GoesOn m (drop (at + length read + 1) file)) f.digest_is g in
        subst (GoesOn before) (sym f.is) (back_further before f.entry f.after f.fit f.kind (drop (at + length read + 1) file) (sym after_is ∙ gate) next),
  )

-- ---- the same, as the code has it

moved : (file seen : List ℕ) (at n m b gate : ℕ) → drop (at + n) seen ≡ b ∷ drop (at + n + 1) seen → n ≡ m → seen ≡ file → b ≡ gate → drop (at + m) file ≡ gate ∷ drop (at + m + 1) file
moved file seen at n m b gate there size same is =
    subst (λ x. drop (at + x) file ≡ gate ∷ drop (at + x + 1) file) size
    (subst (λ (l : List ℕ). drop (at + n) l ≡ gate ∷ drop (at + n + 1) l) same (subst (λ y. drop (at + n) seen ≡ y ∷ drop (at + n + 1) seen) is there))

module _ (file seen : List ℕ) (at before last n : ℕ) (read : List ℕ) (f : HasFrame false before (drop at file) read last) (size : n ≡ length read) (same : seen ≡ file) where
  pub turn_at_none : IsGateAt seen (at + n) None → IsSearchTurn file at before (Done false)
  turn_at_none gate =
      let there : drop (at + length read) file ≡ [] = ap (λ m. drop (at + m) file) (sym size) ∙ ap (drop (at + n)) (sym same) ∙ gate in
      turn_end file at before last read f (inl there)

  pub turn_at_other : (b : ℕ) → IsGateAt seen (at + n) (Some b) → (b ≡ 38 → ⊥) → (b ≡ 43 → ⊥) → IsSearchTurn file at before (Done false)
  turn_at_other b gate none_further none_opened =
      turn_end file at before last read f (inr (b, drop (at + length read + 1) file, moved file seen at n (length read) b b gate size same refl, none_opened, none_further))

  pub turn_at_further : (b : ℕ) → IsGateAt seen (at + n) (Some b) → b ≡ 38 → IsSearchTurn file at before (Further (at + n + 1) last)
  turn_at_further b gate is =
      subst (λ m. IsSearchTurn file at before (Further (at + m + 1) last)) (sym size)
      (turn_further file at before last read f (moved file seen at n (length read) b 38 gate size same is))

  pub turn_at_open : (b : ℕ) (on : Bool) → IsGateAt seen (at + n) (Some b) → b ≡ 43 → Begins on last (drop (at + n + 1) seen) → IsSearchTurn file at before (Done on)
  turn_at_open b on gate is begins =
      let there : Begins on last (drop (at + length read + 1) file) =
      subst (λ m. Begins on last (drop (at + m + 1) file)) size (subst (λ (l : List ℕ). Begins on last (drop (at + n + 1) l)) same begins) in
      turn_open file at before last read f on (moved file seen at n (length read) b 43 gate size same is) there

pub iff_trans : {A B C : Type 0} → (A ↔ B) → (B ↔ C) → (A ↔ C)
iff_trans f g = (λ a. g.0 (f.0 a), λ c. f.1 (g.1 c))

pub iff_sym_trans : {A B C : Type 0} → (A ↔ B) → (B ↔ C) → (C ↔ A)
iff_sym_trans f g = (λ c. f.1 (g.1 c), λ a. g.0 (f.0 a))
