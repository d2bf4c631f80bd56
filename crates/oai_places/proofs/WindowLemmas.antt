-- Groups of places of a directory in which places were exchanged for others.
use Rattle.std.proofs.Common.{◌≡◌, ◌∙◌, ◌+◌, ◌-◌, ◌≤◌, ℕ, List, ◌++◌, None, length, take, drop, sym, ap, subst, arith, append_assoc, length-append}
use Rattle.std.proofs.Math.Seq.{drop-append-add}
use Rattle.std.proofs.lemmas.List.{drop-drop, drop-take, length-take-le, take-append-drop, take-append-le}
use Rattle.oai_places.specs.Places.{PlaceState}
use Rattle.oai_places.specs.Sums.{AreReplaced, GroupState, IsSoundGroup, IsSum}

-- places before those that were exchanged
window_before : (at len count first many : ℕ) (before after : List PlaceState) → AreReplaced at len count before after → first + many ≤ at → take many (drop first after) ≡ take many (drop first before)
window_before at len count first many before after e ends =
    let few : first + many ≤ length (take at before) = omega (arith, ends, length-take-le at before (omega (arith, e.within))) in
    let same : take (first + many) after ≡ take (first + many) before =
    ap (take (first + many)) e.is ∙ take-append-le (first + many) (take at before) (e.added ++ drop (at + len) before) few
    ∙ sym (ap (take (first + many)) (sym (take-append-drop at before)) ∙ take-append-le (first + many) (take at before) (drop at before) few) in
    sym (drop-take first many after) ∙ ap (drop first) same ∙ drop-take first many before

-- places behind those that were exchanged
window_behind : (at len count first new : ℕ) (before after : List PlaceState) → AreReplaced at len count before after → at + len ≤ first → new + len ≡ first + count → drop new after ≡ drop first before
window_behind at len count first new before after e behind is =
    let n = first - (at + len) in
    let front : List PlaceState = take at before ++ e.added in
    let long : length front + n ≡ new = omega (arith, length-append (take at before) e.added, length-take-le at before (omega (arith, e.within)), e.many, is, behind) in
    let far : (at + len) + n ≡ first = omega (arith, behind) in
    ap (drop new) (e.is ∙ sym (append_assoc (take at before) e.added (drop (at + len) before)))
    ∙ ap (λ m. drop m (front ++ drop (at + len) before)) (sym long)
    ∙ drop-append-add front (drop (at + len) before) n
    ∙ drop-drop n (at + len) before
    ∙ ap (λ m. drop m before) far

pub group_before : (at len count : ℕ) (before after : List PlaceState) (group : GroupState) → AreReplaced at len count before after → group.first + group.len ≤ at → IsSoundGroup before group → IsSoundGroup after group
group_before at len count before after group e ends h sum known = subst (IsSum sum) (sym (window_before at len count group.first group.len before after e ends)) (h sum known)

pub group_behind : (at len count new : ℕ) (before after : List PlaceState) (group moved : GroupState) → AreReplaced at len count before after → at + len ≤ group.first → new + len ≡ group.first + count
    → moved ≡ record { first = new; len = group.len; sum = group.sum } → IsSoundGroup before group → IsSoundGroup after moved
group_behind at len count new before after group moved e behind is same h =
    subst (IsSoundGroup after) (sym same) (λ sum known. subst (λ (ps : List PlaceState). IsSum sum (take group.len ps)) (sym (window_behind at len count group.first new before after e behind is)) (h sum known))

-- a group of which nothing is known
pub group_none : (places : List PlaceState) (group : GroupState) → group.sum ≡ None → IsSoundGroup places group
group_none places group none sum known = absurd (let no : ⊥ = cc in no)
