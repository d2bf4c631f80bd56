-- Part of bytes that are part of a page.
use Rattle.std.proofs.Common.{◌≡◌, ◌∙◌, ◌+◌, ◌-◌, ◌≤◌, ℕ, List, length, take, drop, sym, ap, arith}
use Rattle.std.proofs.Math.Nat.{min-le_left}
use Rattle.std.proofs.lemmas.List.{drop-drop, drop-take, length-take, take-take}

-- it is the part further on
pub part_of_part : (page : List ℕ) (first all from size : ℕ) → from + size ≤ length (take all (drop first page))
    → take size (drop (first + from) page) ≡ take size (drop from (take all (drop first page)))
part_of_part page first all from size within =
    let rest : List ℕ = drop first page in
    let inside : from + size ≤ all = omega (arith, length-take all rest, min-le_left all (length rest), within) in
    let sum : all ≡ from + (all - from) = omega arith in
    let cut : drop from (take all rest) ≡ take (all - from) (drop from rest) =
    ap (λ (n : ℕ). drop from (take n rest)) sum ∙ drop-take from (all - from) rest in
    ap (take size) (sym (drop-drop from first page))
    ∙ sym (take-take size (all - from) (drop from rest) (omega arith))
    ∙ ap (take size) (sym cut)
