-- Entries in front of bytes that spell items, or do not.
use Rattle.std.proofs.Common.{◌≡◌, ◌∙◌, ◌+◌, ◌-◌, ◌<◌, ◌≤◌, ◌&&◌, ◌==◌, nat_le, ℕ, suc, Bool, true, false, is_some, List, length, take, drop, refl, sym, ap, arith}
use Rattle.std.specs.List.{list_all}
use Rattle.std.proofs.lemmas.Bool.Decides.{nat_tests}
use Rattle.oai_item.specs.Decoding.{item_in}
use Rattle.oai_pool.specs.Kinds.{IsItemEntry, has_items, leading_number, spells_item, spells_items}

-- ---- one entry

and_false : (a b : Bool) → b ≡ false → (a && b) ≡ false
and_false true b h = h
and_false false b h = refl

-- none stands in front of fewer bytes than it has
pub none_short : (bytes : List ℕ) → length bytes < 4 + leading_number bytes → spells_item bytes ≡ false
unfolding spells_item
none_short bytes few =
    let fewer : nat_le (4 + leading_number bytes) (length bytes) ≡ false = grind (arith, nat_tests) in
    ap (λ b. b && is_some (item_in (take (leading_number bytes) (drop 4 bytes)))) fewer

-- nor where they spell no item
pub none_spelled : (bytes : List ℕ) → is_some (item_in (take (leading_number bytes) (drop 4 bytes))) ≡ false → spells_item bytes ≡ false
unfolding spells_item
none_spelled bytes none = and_false (nat_le (4 + leading_number bytes) (length bytes)) (is_some (item_in (take (leading_number bytes) (drop 4 bytes)))) none

pub one_spelled : (bytes : List ℕ) (n : ℕ) → n ≡ leading_number bytes → 4 + n ≤ length bytes → is_some (item_in (take (leading_number bytes) (drop 4 bytes))) ≡ true → IsItemEntry bytes (4 + n)
unfolding spells_item
one_spelled bytes n is room some =
    let enough : nat_le (4 + leading_number bytes) (length bytes) ≡ true = grind (arith, nat_tests) in
    record {
      spells = ap (λ b. b && is_some (item_in (take (leading_number bytes) (drop 4 bytes)))) enough ∙ some;
      long = ap (λ k. 4 + k) is;
      within = room;
    }

-- ---- entries one after the other

-- of a page, all are to be tested
pub all_left : (page rest : List ℕ) (n : ℕ) → n ≡ leading_number page → rest ≡ drop 4 page → spells_items (n - 0) rest ≡ has_items page
unfolding has_items
all_left page rest n is behind =
    let all : n - 0 ≡ leading_number page = omega (arith, is) in
    λ k. spells_items (all k) (behind k)

one_more : (n done : ℕ) → done < n → n - done ≡ suc (n - (done + 1))
one_more n done within = omega arith

-- behind one that spells an item the others are
pub others_left : (n done len : ℕ) (bytes behind : List ℕ) (has : Bool) → done < n → IsItemEntry bytes len → behind ≡ drop len bytes → spells_items (n - done) bytes ≡ has → spells_items (n - (done + 1)) behind ≡ has
others_left n done len bytes behind has within entry is was =
    let left : ℕ = n - (done + 1) in
    ap (spells_items left) is
    ∙ ap (λ k. spells_items left (drop k bytes)) entry.long
    ∙ sym (ap (λ b. b && spells_items left (drop (4 + leading_number bytes) bytes)) entry.spells)
    ∙ ap (λ k. spells_items k bytes) (sym (one_more n done within)) ∙ was

-- one that spells none is enough
pub one_fails : (n done : ℕ) (bytes : List ℕ) (has : Bool) → done < n → spells_item bytes ≡ false → spells_items (n - done) bytes ≡ has → false ≡ has
one_fails n done bytes has within none was =
    sym (ap (λ b. b && spells_items (n - (done + 1)) (drop (4 + leading_number bytes) bytes)) none)
    ∙ ap (λ k. spells_items k bytes) (sym (one_more n done within)) ∙ was

-- where none is left, the zeros decide
pub none_left : (n done : ℕ) (bytes : List ℕ) (has : Bool) → n ≤ done → spells_items (n - done) bytes ≡ has → list_all (λ byte. byte == 0) bytes ≡ has
none_left n done bytes has past was =
    let none : 0 ≡ n - done = omega arith in
    ap (λ k. spells_items k bytes) none ∙ was
