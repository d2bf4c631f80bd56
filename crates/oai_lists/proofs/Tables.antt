-- Lists whose numbers rise: which has a number, and is open.
use Rattle.std.proofs.Common.{◌≡◌, ◌∙◌, ℕ, ℤ, ◌+◌, Bool, true, false, not, ◌&&◌, cond, List, ◌∷◌, None, Some, take, drop, get_or, ap}
use Rattle.std.specs.Prelude.{find}
use Rattle.std.specs.List.{list_all}
use Rattle.std.proofs.lemmas.Bool.{not-true, not_from_false}
use Rattle.oai_names.proofs.Lists.{all-weaker, cut, find_none, find_past}
use Rattle.oai_lists.specs.HeldTable.{IsListPlace, no_list_numbered}
use Rattle.oai_lists.specs.OpenLists.{has_list_number, is_open, open_numbered}
use Rattle.oai_lists.specs.declared.open_lists.OpenList.{OpenList}

free_of : (number : ℕ) (q : OpenList → Bool) (lists : List OpenList) → no_list_numbered number lists → list_all (λ list. not (has_list_number number list && q list)) lists ≡ true
free_of number q lists h =
    all-weaker (λ (list : OpenList). not (has_list_number number list)) (λ list. not (has_list_number number list && q list))
    (λ list other. not_from_false _ (let e : has_list_number number list ≡ false = not-true _ other in ap (λ b. b && q list) e)) lists h

pub open_numbered-none : (number : ℕ) (now : ℤ) (lists : List OpenList) → no_list_numbered number lists → open_numbered number now lists ≡ None
unfolding open_numbered
open_numbered-none number now lists h = find_none (λ (list : OpenList). has_list_number number list && is_open now list) lists (free_of number (is_open now) lists h)

both : (a b : Bool) → a ≡ true → (a && b) ≡ b
both a b h = ap (λ t. t && b) h

pub open_numbered-placed : (number : ℕ) (now : ℤ) (lists : List OpenList) (at : ℕ) (d : OpenList) → IsListPlace number lists (Some at)
    → open_numbered number now lists ≡ cond (is_open now (get_or lists at d)) (Some (get_or lists at d)) None
unfolding open_numbered
open_numbered-placed number now lists at d placed =
    let p : OpenList → Bool = λ list. has_list_number number list && is_open now list in
    let x : OpenList = get_or lists at d in
    ap (find p) (cut lists at d placed.0)
    ∙ find_past p (take at lists) (x ∷ drop (at + 1) lists) (free_of number (is_open now) (take at lists) placed.2)
    ∙ ap (λ b. cond b (Some x) (find p (drop (at + 1) lists))) (both (has_list_number number x) (is_open now x) (placed.1 d))
    ∙ ap (cond (is_open now x) (Some x)) (find_none p (drop (at + 1) lists) (free_of number (is_open now) (drop (at + 1) lists) placed.3))
