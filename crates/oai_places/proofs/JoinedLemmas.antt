-- The bytes of the pages of an item that has overflow pages, read one after the other.
use Rattle.std.proofs.Common.{◌≡◌, ◌∙◌, ◌==◌, ◌+◌, ◌<◌, ◌≤◌, true, ℕ, suc, zero, List, [], ◌∷◌, ◌++◌, length, take, drop, get_or, refl, sym, ap, arith, append-nil, append_assoc}
use Rattle.std.specs.Prelude.{map}
use Rattle.std.specs.List.{flat_map, list_all}
use Rattle.std.proofs.lemmas.Bool.{and_parts}
use Rattle.std.proofs.lemmas.List.Folds.{list_all-append}
use Rattle.std.proofs.lemmas.Grind.{flat_map-append}
use Rattle.std.proofs.lemmas.List.{take-append-drop, take_more}
use Rattle.oai_pool.specs.Names.{times}
use Rattle.oai_places.specs.Places.{Pages, bytes_on, page_at}
use Rattle.oai_places.specs.declared.sizes.TheConstants.{FRONT_BYTES}
use Rattle.oai_places.proofs.NameLemmas.{times-append, times-cons, times-here}

-- each of the numbers is one of them
pub named_in_numbers : (at : ℕ) (numbers : List ℕ) → at < length numbers → 0 < times (get_or numbers at 0) numbers
named_in_numbers at [] within = absurd (omega (arith, within))
named_in_numbers zero (k ∷ numbers) within = omega (arith, times-here k numbers)
named_in_numbers (suc at) (k ∷ numbers) within =
    omega (arith, named_in_numbers at numbers (omega (arith, within)), times-cons (get_or numbers at 0) k numbers)

-- the bytes of one more page
pub one_more : (pages now : Pages) (numbers : List ℕ) (at : ℕ) (start before after : List ℕ) → at < length numbers → now ≡ pages
    → before ≡ start ++ flat_map (page_at pages) (take at numbers) → after ≡ before ++ page_at now (get_or numbers at 0)
    → after ≡ start ++ flat_map (page_at pages) (take (at + 1) numbers)
one_more pages now numbers at start before after within same so_far read =
    let k : ℕ = get_or numbers at 0 in
    let front : List ℕ = flat_map (page_at pages) (take at numbers) in
    let next : flat_map (page_at pages) (take (at + 1) numbers) ≡ front ++ page_at pages k =
    ap (flat_map (page_at pages)) (take_more numbers at 0 within) ∙ flat_map-append (page_at pages) (take at numbers) (k ∷ []) ∙ ap (λ bs. front ++ bs) (append-nil (page_at pages k)) in
    read ∙ (λ i. so_far i ++ page_at (same i) k) ∙ append_assoc start front (page_at pages k) ∙ ap (λ bs. start ++ bs) (sym next)

-- of several pages the front of the first, and the others
pub bytes_on-long : (pages : Pages) (numbers : List ℕ) → 1 < length numbers → bytes_on pages numbers ≡ take FRONT_BYTES (page_at pages (get_or numbers 0 0)) ++ flat_map (page_at pages) (drop 1 numbers)
unfolding bytes_on
bytes_on-long pages [] long = absurd (omega (arith, long))
bytes_on-long pages (n ∷ []) long = absurd (omega (arith, long))
bytes_on-long pages (n ∷ m ∷ numbers) long = ap (λ bs. take FRONT_BYTES (page_at pages n) ++ (page_at pages m ++ bs)) (same numbers) where
  same : (ns : List ℕ) → flat_map (λ other. other) (map (page_at pages) ns) ≡ flat_map (page_at pages) ns
  same [] = refl
  same (k ∷ ns) = ap (λ bs. page_at pages k ++ bs) (same ns)

pub bytes_on-one : (pages : Pages) (numbers : List ℕ) → 0 < length numbers → length numbers ≤ 1 → bytes_on pages numbers ≡ page_at pages (get_or numbers 0 0)
unfolding bytes_on
bytes_on-one pages [] some few = absurd (omega (arith, some))
bytes_on-one pages (n ∷ []) some few = refl
bytes_on-one pages (n ∷ m ∷ numbers) some few = absurd (omega (arith, few))

pub times-drop-le : (n i : ℕ) (numbers : List ℕ) → times n (drop i numbers) ≤ times n numbers
times-drop-le n i numbers =
    let parts = sym (times-append n (take i numbers) (drop i numbers)) ∙ ap (times n) (take-append-drop i numbers) in
    omega (arith, parts)

-- what was read is what stands on the pages
pub bytes_read : (pages now : Pages) (numbers first start bytes part : List ℕ) → 1 < length numbers → now ≡ pages → page_at pages (get_or numbers 0 0) ≡ first → start ≡ take FRONT_BYTES first
    → part ≡ drop 1 numbers → bytes ≡ start ++ flat_map (page_at now) part → bytes ≡ bytes_on pages numbers
bytes_read pages now numbers first start bytes part long same read front rest is =
    is ∙ (λ i. (front ∙ ap (take FRONT_BYTES) (sym read)) i ++ flat_map (page_at (same i)) (rest i)) ∙ sym (bytes_on-long pages numbers long)

pub zeros-take : (n : ℕ) (bytes : List ℕ) → list_all (λ byte. byte == 0) bytes ≡ true → list_all (λ byte. byte == 0) (take n bytes) ≡ true
zeros-take n bytes h =
    (and_parts (list_all (λ byte. byte == 0) (take n bytes)) (list_all (λ byte. byte == 0) (drop n bytes))
    (sym (list_all-append (λ byte. byte == 0) (take n bytes) (drop n bytes)) ∙ ap (list_all (λ byte. byte == 0)) (take-append-drop n bytes) ∙ h)).0
