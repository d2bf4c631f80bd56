-- Packed counts: what stands at each place, and one set more.
use Rattle.std.proofs.Common.{◌≡◌, ◌∙◌, ◌+◌, ◌<◌, ◌==◌, ◌≢◌, ℕ, zero, suc, Bool, true, false, not, if◌then◌else◌, List, [], ◌∷◌, ◌++◌, length, drop, get_or, refl, sym, ap, arith}
use Rattle.std.proofs.lemmas.Bool.{and_from, and_parts, eq-eqb, false≢true, ne_eqb}
use Rattle.std.proofs.lemmas.List.{drop_more}
use Rattle.oai_sums.specs.Sums.{IsCounted, SetTotal, count_at, is_unsaid, totals_from}
use Rattle.oai_sums.specs.declared.packed_counts.PackedCount.{PackedCount}
use Rattle.oai_sums.specs.declared.spans.Span.{Span}
use Rattle.oai_sums.proofs.CountLemmas.{if_false, if_true}

-- a total where none stands
abbrev pub no_total : SetTotal
no_total = record { set = []; count = 0; span = record { from = 0; to = 0 } }

no_place : (at : ℕ) → at < 0 → ⊥
no_place at within = omega (arith, within)

no_more : (n : ℕ) → suc n ≡ 0 → ⊥
no_more n same = omega (arith, same)

pub read_any : (totals : List SetTotal) (at : ℕ) (d e : SetTotal) → at < length totals → get_or totals at d ≡ get_or totals at e
read_any [] at d e within = absurd (no_place at within)
read_any (total ∷ totals) zero d e within = refl
read_any (total ∷ totals) (suc at) d e within = read_any totals at d e (omega (arith, within))

pub totals_length : (k : ℕ) (sets : List (List ℕ)) (spans : List Span) (several : List PackedCount) → length spans ≡ length sets → length (totals_from k sets spans several) ≡ length sets
totals_length k [] spans several same = refl
totals_length k (set ∷ sets) [] several same = absurd (no_more (length sets) (sym same))
totals_length k (set ∷ sets) (span ∷ spans) several same = ap suc (totals_length (k + 1) sets spans several (omega (arith, same)))

-- what stands at a place
pub total_at : (k : ℕ) (sets : List (List ℕ)) (spans : List Span) (several : List PackedCount) (at : ℕ) (d : SetTotal) → length spans ≡ length sets → at < length sets
    → get_or (totals_from k sets spans several) at d ≡ record { set = get_or sets at d.set; count = count_at several (k + at); span = get_or spans at d.span }
total_at k [] spans several at d same within = absurd (no_place at within)
total_at k (set ∷ sets) [] several at d same within = absurd (no_more (length sets) (sym same))
total_at k (set ∷ sets) (span ∷ spans) several zero d same within = ap (λ n. record { set = set; count = count_at several n; span = span }) (omega arith)
total_at k (set ∷ sets) (span ∷ spans) several (suc at) d same within =
    total_at (k + 1) sets spans several at d (omega (arith, same)) (omega (arith, within))
    ∙ ap (λ n. record { set = get_or sets at d.set; count = count_at several n; span = get_or spans at d.span }) (omega arith)

-- ---- those with several items

not_so : (b : Bool) → not b ≡ true → b ≡ false
not_so true h = absurd (false≢true h)
not_so false h = refl

pub unsaid_one : (several : List PackedCount) (at : ℕ) → is_unsaid several at ≡ true → count_at several at ≡ 1
unsaid_one [] at h = refl
unsaid_one (other ∷ others) at h =
    let parts = and_parts _ _ h in
    if_false (other.at == at) other.count (count_at others at) (not_so _ parts.0) ∙ unsaid_one others at parts.1

-- one more, for a place that none of them is for
pub count_own : (several : List PackedCount) (at : ℕ) (new : PackedCount) → is_unsaid several at ≡ true → new.at ≡ at → count_at (several ++ new ∷ []) at ≡ new.count
count_own [] at new h is = if_true (new.at == at) new.count 1 (eq-eqb new.at at is)
count_own (other ∷ others) at new h is =
    let parts = and_parts _ _ h in
    if_false (other.at == at) other.count (count_at (others ++ new ∷ []) at) (not_so _ parts.0) ∙ count_own others at new parts.1 is

pub count_other : (several : List PackedCount) (at : ℕ) (new : PackedCount) → new.at ≢ at → count_at (several ++ new ∷ []) at ≡ count_at several at
count_other [] at new apart = if_false (new.at == at) new.count 1 (ne_eqb new.at at apart)
count_other (other ∷ others) at new apart = ap (λ n. if other.at == at then other.count else n) (count_other others at new apart)

pub unsaid_more : (several : List PackedCount) (at : ℕ) (new : PackedCount) → is_unsaid several at ≡ true → new.at ≢ at → is_unsaid (several ++ new ∷ []) at ≡ true
unsaid_more [] at new h apart = rw (ne_eqb new.at at apart) refl
unsaid_more (other ∷ others) at new h apart =
    let parts = and_parts _ _ h in
    and_from _ _ parts.0 (unsaid_more others at new parts.1 apart)

pub counted_one : (several : List PackedCount) (at count : ℕ) → is_unsaid several at ≡ true → count ≡ 1 → IsCounted at count several several
counted_one several at count lone one = record { own = unsaid_one several at lone ∙ sym one; others = λ other apart. refl; unsaid = λ other apart h. h }

pub counted_several : (several : List PackedCount) (at count : ℕ) (new : PackedCount) → is_unsaid several at ≡ true → new.at ≡ at → new.count ≡ count → IsCounted at count several (several ++ new ∷ [])
counted_several several at count new lone is many = record {
  own = count_own several at new lone is ∙ many;
  others = λ other apart. count_other several other new (λ same. apart (sym same ∙ is));
  unsaid = λ other apart h. unsaid_more several other new h (λ same. apart (sym same ∙ is));
}

-- ---- one set more

pub totals_more : (k : ℕ) (sets : List (List ℕ)) (spans : List Span) (old new : List PackedCount) (set : List ℕ) (span : Span) → length spans ≡ length sets
    → ((at : ℕ) → at < k + length sets → count_at new at ≡ count_at old at)
    → totals_from k (sets ++ set ∷ []) (spans ++ span ∷ []) new ≡ totals_from k sets spans old ++ record { set = set; count = count_at new (k + length sets); span = span } ∷ []
totals_more k [] [] old new set span same kept = ap (λ n. record { set = set; count = count_at new n; span = span } ∷ []) (omega arith)
totals_more k [] (other ∷ spans) old new set span same kept = absurd (no_more (length spans) same)
totals_more k (other ∷ sets) [] old new set span same kept = absurd (no_more (length sets) (sym same))
totals_more k (other ∷ sets) (one ∷ spans) old new set span same kept =
    let rest = totals_more (k + 1) sets spans old new set span (omega (arith, same)) (λ at within. kept at (omega (arith, within))) in
    (λ i. record { set = other; count = kept k (omega arith) i; span = one } ∷ rest i)
    ∙ ap (λ n. record { set = other; count = count_at old k; span = one } ∷ totals_from (k + 1) sets spans old ++ record { set = set; count = count_at new n; span = span } ∷ []) (omega arith)

-- ---- a search among those with several items

pub count_found : (several : List PackedCount) (i at : ℕ) (own : PackedCount) → i < length several → own ≡ get_or several i own → own.at ≡ at → own.count ≡ count_at (drop i several) at
count_found several i at own within is same =
    sym (ap (λ zs. count_at zs at) (drop_more several i own within ∙ ap (λ y. y ∷ drop (i + 1) several) (sym is)) ∙ if_true (own.at == at) own.count (count_at (drop (i + 1) several) at) (eq-eqb own.at at same))

pub count_past : (several : List PackedCount) (i at : ℕ) (own : PackedCount) → i < length several → own ≡ get_or several i own → own.at ≢ at → count_at (drop (i + 1) several) at ≡ count_at (drop i several) at
count_past several i at own within is apart =
    sym (ap (λ zs. count_at zs at) (drop_more several i own within ∙ ap (λ y. y ∷ drop (i + 1) several) (sym is)) ∙ if_false (own.at == at) own.count (count_at (drop (i + 1) several) at) (ne_eqb own.at at apart))
