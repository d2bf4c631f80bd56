-- Literals, and marks that are looked for: their steps.
use Rattle.std.proofs.Common.{◌≡◌, ◌∙◌, ◌+◌, ◌<◌, ◌≤◌, ℕ, true, false, ◌&&◌, eqb, List, [], ◌∷◌, ◌++◌, Result, Ok, Err, length, take, drop, get_or, refl, sym, ap, append_assoc, append-nil}
use Rattle.std.specs.Prelude.{nat_eq}
use Rattle.std.proofs.lemmas.Bool.{cond-true, cond-false, eq-eqb, ne_eqb}
use Rattle.std.proofs.lemmas.List.{drop_more, drop_all, take_more}
use lib.Pointwise.{pointwise}
use Rattle.oai_xml.specs.Answers.{before}
use Rattle.oai_xml.specs.Readings.{begins, behind, past, up_to, ◌>>=◌}

-- what `strip_prefix` tests
pub strips : (literal bytes : List ℕ) → pointwise nat_eq (take (length literal) bytes) literal ≡ begins literal bytes
unfolding begins
strips [] [] = refl
strips [] (b ∷ bytes) = refl
strips (x ∷ literal) [] = refl
strips (x ∷ literal) (b ∷ bytes) = ap (λ t. eqb b x && t) (strips literal bytes)

-- ---- a literal that has to stand here

past_one : (x b : ℕ) (literal tail : List ℕ) → b ≡ x → past (x ∷ literal) (b ∷ tail) ≡ past literal tail
unfolding past
past_one x b literal tail same = cond-true (eqb b x) (past literal tail) (Err (length (b ∷ tail))) (eq-eqb b x same)

past_none : (x b : ℕ) (literal tail : List ℕ) → (b ≡ x → ⊥) → past (x ∷ literal) (b ∷ tail) ≡ Err (length (b ∷ tail))
unfolding past
past_none x b literal tail other = cond-false (eqb b x) (past literal tail) (Err (length (b ∷ tail))) (ne_eqb b x other)

past_ends : (x : ℕ) (literal : List ℕ) → past (x ∷ literal) [] ≡ Err 0
unfolding past
past_ends x literal = refl

past_all : (rest : List ℕ) → past [] rest ≡ Ok rest
unfolding past
past_all rest = refl

pub past_step : (literal rest tail : List ℕ) (i b : ℕ) → i < length literal → rest ≡ b ∷ tail → b ≡ get_or literal i 0 → past (drop i literal) rest ≡ past (drop (i + 1) literal) tail
past_step literal rest tail i b within is same =
    ap (λ w. past w rest) (drop_more literal i 0 within) ∙ ap (past (get_or literal i 0 ∷ drop (i + 1) literal)) is ∙ past_one (get_or literal i 0) b (drop (i + 1) literal) tail same

pub past_other : (literal rest tail : List ℕ) (i b : ℕ) → i < length literal → rest ≡ b ∷ tail → (b ≡ get_or literal i 0 → ⊥) → past (drop i literal) rest ≡ Err (length rest)
past_other literal rest tail i b within is other =
    ap (λ w. past w rest) (drop_more literal i 0 within) ∙ ap (past (get_or literal i 0 ∷ drop (i + 1) literal)) is
    ∙ past_none (get_or literal i 0) b (drop (i + 1) literal) tail other ∙ ap (λ w. Err (length w)) (sym is)

pub past_short : (literal rest : List ℕ) (i : ℕ) → i < length literal → rest ≡ [] → past (drop i literal) rest ≡ Err 0
past_short literal rest i within is =
    ap (λ w. past w rest) (drop_more literal i 0 within) ∙ ap (past (get_or literal i 0 ∷ drop (i + 1) literal)) is ∙ past_ends (get_or literal i 0) (drop (i + 1) literal)

pub past_end : (literal rest : List ℕ) (i : ℕ) → length literal ≤ i → past (drop i literal) rest ≡ Ok rest
past_end literal rest i beyond = ap (λ w. past w rest) (drop_all i literal beyond) ∙ past_all rest

-- ---- up to a mark

up_to_one : (mark tail : List ℕ) (b : ℕ) → begins mark (b ∷ tail) ≡ false → up_to mark (b ∷ tail) ≡ before (λ a c. a ++ c) (b ∷ []) (up_to mark tail)
unfolding up_to
up_to_one mark tail b none =
    cond-false (begins mark (b ∷ tail)) (Ok ([], behind mark (b ∷ tail))) (up_to mark tail >>= λ r. Ok (b ∷ r.0, r.1)) none ∙ each (up_to mark tail)
  where
    each : (r : Result (List ℕ × List ℕ) ℕ) → (r >>= λ r. Ok (b ∷ r.0, r.1)) ≡ before (λ a c. a ++ c) (b ∷ []) r
    each (Ok r) = refl
    each (Err left) = refl

pub before_both : (x y : List ℕ) (r : Result (List ℕ × List ℕ) ℕ) → before (λ a c. a ++ c) x (before (λ a c. a ++ c) y r) ≡ before (λ a c. a ++ c) (x ++ y) r
before_both x y (Ok r) = ap (λ (w : List ℕ). Ok (w, r.1)) (sym (append_assoc x y r.0))
before_both x y (Err left) = refl

pub up_to_step : (mark bytes : List ℕ) (at : ℕ) → at < length bytes → begins mark (drop at bytes) ≡ false
    → before (λ a c. a ++ c) (take at bytes) (up_to mark (drop at bytes)) ≡ before (λ a c. a ++ c) (take (at + 1) bytes) (up_to mark (drop (at + 1) bytes))
up_to_step mark bytes at within none =
    let cut = drop_more bytes at 0 within in
    ap (λ w. before (λ a c. a ++ c) (take at bytes) (up_to mark w)) cut
    ∙ ap (before (λ a c. a ++ c) (take at bytes)) (up_to_one mark (drop (at + 1) bytes) (get_or bytes at 0) (ap (begins mark) (sym cut) ∙ none))
    ∙ before_both (take at bytes) (get_or bytes at 0 ∷ []) (up_to mark (drop (at + 1) bytes))
    ∙ ap (λ w. before (λ a c. a ++ c) w (up_to mark (drop (at + 1) bytes))) (sym (take_more bytes at 0 within))

up_to_here : (mark tail : List ℕ) (b : ℕ) → begins mark (b ∷ tail) ≡ true → up_to mark (b ∷ tail) ≡ Ok ([], behind mark (b ∷ tail))
unfolding up_to
up_to_here mark tail b here = cond-true (begins mark (b ∷ tail)) (Ok ([], behind mark (b ∷ tail))) (up_to mark tail >>= λ r. Ok (b ∷ r.0, r.1)) here

pub up_to_found : (mark bytes : List ℕ) (at : ℕ) → at < length bytes → begins mark (drop at bytes) ≡ true
    → before (λ a c. a ++ c) (take at bytes) (up_to mark (drop at bytes)) ≡ Ok (take at bytes, behind mark (drop at bytes))
up_to_found mark bytes at within here =
    let cut = drop_more bytes at 0 within in
    ap (λ w. before (λ a c. a ++ c) (take at bytes) (up_to mark w)) cut
    ∙ ap (before (λ a c. a ++ c) (take at bytes)) (up_to_here mark (drop (at + 1) bytes) (get_or bytes at 0) (ap (begins mark) (sym cut) ∙ here))
    ∙ ap (λ (w : List ℕ). Ok (w, behind mark (get_or bytes at 0 ∷ drop (at + 1) bytes))) (append-nil (take at bytes))
    ∙ ap (λ (w : List ℕ). Ok (take at bytes, behind mark w)) (sym cut)

up_to_nil : (mark : List ℕ) → up_to mark [] ≡ Err 0
unfolding up_to
up_to_nil mark = refl

pub up_to_end : (mark bytes : List ℕ) (at : ℕ) → length bytes ≤ at → before (λ a c. a ++ c) (take at bytes) (up_to mark (drop at bytes)) ≡ Err 0
up_to_end mark bytes at beyond = ap (λ w. before (λ a c. a ++ c) (take at bytes) (up_to mark w)) (drop_all at bytes beyond) ∙ ap (before (λ a c. a ++ c) (take at bytes)) (up_to_nil mark)
