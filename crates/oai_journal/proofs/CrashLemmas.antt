-- What a torn write may leave of a file that is cut at its place.
use Rattle.std.proofs.Common.{◌≡◌, ◌∙◌, ℕ, ◌+◌, ◌<◌, ◌≤◌, List, ◌∷◌, ◌++◌, length, take, drop, get_or, ext_get_or, refl, sym, ap, arith}
use Rattle.std.proofs.lemmas.List.{drop_more, get_or_append_left, length-append, length-drop, length-take-le, take-append-drop, take_at}
use Rattle.std.proofs.Math.Seq.{drop-append-add}
use Rattle.std.proofs.Common.{get_or-take, get_or-drop}
use Rattle.sqlite_disk.specs.Disk.{Holds, Torn}

-- a write leaves what stands before it
pub torn_behind : (front rest new : List ℕ) (n : ℕ) → Torn (length front) n (front ++ rest) new → (rest' : List ℕ) × (new ≡ front ++ rest')
torn_behind front rest new n torn =
    let at : ℕ = length front in
    let long : at ≤ length new = omega (arith, torn.no_shorter, length-append front rest) in
    let same : take at new ≡ front =
    ext_get_or 0 (take at new) front (length-take-le at new long)
    (λ i h. let low : i < at = omega (arith, h, length-take-le at new long) in
    get_or-take at new i 0 low ∙ torn.below i (omega (arith, low, length-append front rest)) low ∙ get_or_append_left front rest 0 i low) in
    (drop at new, sym (take-append-drop at new) ∙ ap (λ (l : List ℕ). l ++ drop at new) same)

cut_at : (front rest new : List ℕ) → take (length front) new ≡ front → drop (length front) new ≡ rest → new ≡ front ++ rest
cut_at front rest new first last =
    sym (take-append-drop (length front) new) ∙ ap (λ (l : List ℕ). l ++ drop (length front) new) first ∙ ap (λ (l : List ℕ). front ++ l) last

-- a write of one byte changes that byte alone
pub torn_byte : (front rest new : List ℕ) (gate : ℕ) → Torn (length front) 1 (front ++ gate ∷ rest) new → (gate' : ℕ) × (new ≡ front ++ gate' ∷ rest)
torn_byte front rest new gate torn =
    let at : ℕ = length front in
    let old : List ℕ = front ++ gate ∷ rest in
    let size : length old ≡ at + (1 + length rest) = omega (arith, length-append front (gate ∷ rest)) in
    let whole : length new ≡ at + (1 + length rest) = omega (arith, torn.no_shorter, torn.no_longer, size) in
    let cut = torn_behind front (gate ∷ rest) new 1 torn in
    let first : take at new ≡ front = ap (take at) cut.1 ∙ take_at front cut.0 at refl in
    let len : length (drop (at + 1) new) ≡ length rest = omega (arith, length-drop (at + 1) new, whole) in
    let last : drop (at + 1) new ≡ rest =
    ext_get_or 0 (drop (at + 1) new) rest len
    (λ i h. let low : i < length rest = omega (arith, h, len) in
    get_or-drop (at + 1) new i 0 ∙ torn.above (at + 1 + i) (omega (arith, low, size)) (omega arith) ∙ sym (get_or-drop (at + 1) old i 0)
    ∙ ap (λ (l : List ℕ). get_or l i 0) (drop-append-add front (gate ∷ rest) 1)) in
    let there : at < length new = omega (arith, whole) in
    (get_or new at 0, cut_at front (get_or new at 0 ∷ rest) new first (drop_more new at 0 there ∙ ap (λ (l : List ℕ). get_or new at 0 ∷ l) last))

-- a write that succeeded
pub held : (front rest new bytes : List ℕ) → Torn (length front) (length bytes) (front ++ rest) new → Holds new (length front) bytes → (rest' : List ℕ) × (new ≡ front ++ (bytes ++ rest'))
held front rest new bytes torn holds =
    let at : ℕ = length front in
    let n : ℕ = length bytes in
    let cut = torn_behind front rest new n torn in
    let first : take at new ≡ front = ap (take at) cut.1 ∙ take_at front cut.0 at refl in
    let enough : n ≤ length (drop at new) = omega (arith, length-drop at new, holds.within) in
    let middle : take n (drop at new) ≡ bytes =
    ext_get_or 0 (take n (drop at new)) bytes (length-take-le n (drop at new) enough)
    (λ i h. let low : i < n = omega (arith, h, length-take-le n (drop at new) enough) in
    get_or-take n (drop at new) i 0 low ∙ get_or-drop at new i 0 ∙ holds.each i low) in (
      drop n (drop at new),
      cut_at front (bytes ++ drop n (drop at new)) new first
          (sym (take-append-drop n (drop at new)) ∙ ap (λ (l : List ℕ). l ++ drop n (drop at new)) middle),
    )
