-- Buffers that wait to be written, and their bytes in order.
use Rattle.std.proofs.Common.{◌≡◌, ◌∙◌, ℕ, ◌+◌, ◌-◌, ◌<◌, ◌≤◌, List, [], ◌∷◌, ◌++◌, length, drop, refl, sym, ap, arith}
use Rattle.std.specs.List.{concat, list_all}
use Rattle.std.proofs.lemmas.List.{append-nil, drop-append-le, length-append, length-drop}
use Rattle.std.proofs.lemmas.List.Folds.{concat-append}
use Rattle.std.proofs.Math.Seq.{drop-append-add}
use Rattle.std.proofs.lemmas.Bool.{and_parts, ltb-true}
use Rattle.oai_front.specs.Queues.{AreFilled, IsTaken, first_len, is_filled}

pub concat_push : (buffers : List (List ℕ)) (bytes : List ℕ) → concat (buffers ++ bytes ∷ []) ≡ concat buffers ++ bytes
concat_push buffers bytes = concat-append buffers (bytes ∷ []) ∙ ap (λ (xs : List ℕ). concat buffers ++ xs) (append-nil bytes)

-- ---- bytes that are taken

nothing_left : (taken : ℕ) → length (drop taken (concat [])) ≡ 0
nothing_left taken = omega (arith, length-drop taken (concat []))

pub taken_inside : (taken : ℕ) (buffers : List (List ℕ)) → IsTaken taken buffers → taken ≤ first_len buffers
taken_inside taken [] t = omega (arith, t)
taken_inside taken (first ∷ buffers) t = omega (arith, t)

-- fewer than are left of the first buffer
pub taken_more : (taken count : ℕ) (buffers : List (List ℕ)) → IsTaken taken buffers → count < first_len buffers - taken → IsTaken (taken + count) buffers
taken_more taken count [] t few = absurd (omega (arith, few))
taken_more taken count (first ∷ buffers) t few = omega (arith, few, t)

pub filled_dropped : (buffers : List (List ℕ)) → AreFilled buffers → AreFilled (drop 1 buffers)
filled_dropped [] f = f
filled_dropped (first ∷ buffers) f = (and_parts (is_filled first) (list_all is_filled buffers) f).1

pub taken_none : (buffers : List (List ℕ)) → AreFilled buffers → IsTaken 0 buffers
taken_none [] f = refl
taken_none (first ∷ buffers) f = ltb-true 0 (length first) (and_parts (is_filled first) (list_all is_filled buffers) f).0

-- all that is left of the first buffer, and some of the others
pub dropped_first : (taken count : ℕ) (buffers : List (List ℕ)) → IsTaken taken buffers → 0 < count → count ≤ length (drop taken (concat buffers)) → first_len buffers - taken ≤ count
    → drop count (drop taken (concat buffers)) ≡ drop (count - (first_len buffers - taken)) (concat (drop 1 buffers))
dropped_first taken count [] t some within all = absurd (omega (arith, some, within, nothing_left taken))
dropped_first taken count (first ∷ buffers) t some within all =
    let left = first_len (first ∷ buffers) - taken in
    let inside : taken ≤ length first = omega (arith, t) in
    let long : length (drop taken first) ≡ left = length-drop taken first in
    let whole : left + (count - left) ≡ count = omega (arith, all) in
    ap (drop count) (drop-append-le taken first (concat buffers) inside)
    ∙ ap (λ (n : ℕ). drop n (drop taken first ++ concat buffers)) (sym whole ∙ ap (λ (n : ℕ). n + (count - left)) (sym long))
    ∙ drop-append-add (drop taken first) (concat buffers) (count - left)

pub dropped_within : (taken count : ℕ) (buffers : List (List ℕ)) → IsTaken taken buffers → count ≤ length (drop taken (concat buffers))
    → count - (first_len buffers - taken) ≤ length (concat (drop 1 buffers))
dropped_within taken count [] t within = omega (arith, within, nothing_left taken)
dropped_within taken count (first ∷ buffers) t within =
    omega (arith, t, within, length-drop taken (first ++ concat buffers), length-append first (concat buffers))

-- ---- one more buffer

pub taken_push : (taken : ℕ) (buffers : List (List ℕ)) (bytes : List ℕ) → 0 < length bytes → IsTaken taken buffers → IsTaken taken (buffers ++ bytes ∷ [])
taken_push taken [] bytes some t = omega (arith, some, t)
taken_push taken (first ∷ buffers) bytes some t = t

-- what is put behind the buffers stands behind what is left of them
pub drop_written : (taken : ℕ) (old new : List (List ℕ)) (written : List ℕ) → IsTaken taken old → concat new ≡ concat old ++ written
    → drop taken (concat new) ≡ drop taken (concat old) ++ written
drop_written taken [] new written t e = ap (drop taken) e ∙ rw t refl
drop_written taken (first ∷ buffers) new written t e =
    ap (drop taken) e ∙ drop-append-le taken (first ++ concat buffers) written (omega (arith, t, length-append first (concat buffers)))
