-- The elements of a list of texts, as a loop reads them.
use Rattle.std.proofs.Common.{◌≡◌, ◌∙◌, ℕ, suc, ◌+◌, ◌<◌, Bool, true, false, cond, List, [], ◌∷◌, ◌++◌, Option, Some, None, Result, Ok, Err, length, get_or, drop, refl, sym, ap, append_assoc, append-nil, add-one, drop-cons}
use Rattle.std.proofs.lemmas.Bool.{and_from, and_parts}
use Rattle.std.specs.Prelude.{find}
use Rattle.std.specs.List.{list_all}
use Rattle.std.specs.Str.{bytes_eq}
use Rattle.std.specs.Result.{result_ok}
use Rattle.oai_names.specs.Optional.{◌>>=◌, each_of}
use Rattle.oai_xml.specs.Documents.{canonical, canonical_in, is_canonical}
use Rattle.oai_xml.specs.Named.{NamedList, are_canonical, elements_named, elements_of}
use Rattle.oai_xml.proofs.CanonicalLemmas.{canonical_tree, element_found}

-- what was read, and then what is left
abbrev pub with_front : List (List ℕ) → Option (List (List ℕ)) → Option (List (List ℕ))
with_front done left = left >>= λ ys. Some (done ++ ys)

pub starts : (r : Option (List (List ℕ))) → with_front [] r ≡ r
starts (Some ys) = refl
starts None = refl

pub element_is : (text element : List ℕ) → canonical text ≡ Ok element → canonical_in text ≡ Some element
element_is text element is = ap result_ok is

pub no_element : (text : List ℕ) (offset : ℕ) → canonical text ≡ Err offset → canonical_in text ≡ None
no_element text offset is = ap result_ok is

regroup : (done : List (List ℕ)) (y : List ℕ) (r : Option (List (List ℕ))) → with_front done (r >>= λ ys. Some (y ∷ ys)) ≡ with_front (done ++ y ∷ []) r
regroup done y (Some ys) = ap (λ zs. Some zs) (sym (append_assoc done (y ∷ []) ys))
regroup done y None = refl

goes_on : (done : List (List ℕ)) (x : List ℕ) (xs : List (List ℕ)) (y : List ℕ) (total : Option (List (List ℕ))) → canonical_in x ≡ Some y
    → with_front done (each_of canonical_in (x ∷ xs)) ≡ total → with_front (done ++ y ∷ []) (each_of canonical_in xs) ≡ total
goes_on done x xs y total is so_far =
    sym (regroup done y (each_of canonical_in xs)) ∙ ap (λ r. with_front done (r >>= λ z. each_of canonical_in xs >>= λ zs. Some (z ∷ zs))) (sym is) ∙ so_far

-- one more element
pub next_read : (done xs : List (List ℕ)) (i : ℕ) (d y : List ℕ) (total : Option (List (List ℕ))) → i < length xs → canonical_in (get_or xs i d) ≡ Some y
    → with_front done (each_of canonical_in (drop i xs)) ≡ total → with_front (done ++ y ∷ []) (each_of canonical_in (drop (i + 1) xs)) ≡ total
next_read done xs i d y total inside is so_far =
    rw add-one (goes_on done (get_or xs i d) (drop (suc i) xs) y total is (rw (drop-cons xs i d inside) at so_far))

-- a text that is none
pub none_read : (done xs : List (List ℕ)) (i : ℕ) (d : List ℕ) (total : Option (List (List ℕ))) → i < length xs → canonical_in (get_or xs i d) ≡ None
    → with_front done (each_of canonical_in (drop i xs)) ≡ total → total ≡ None
none_read done xs i d total inside is so_far =
    sym (rw (drop-cons xs i d inside) at so_far) ∙ ap (λ r. with_front done (r >>= λ z. each_of canonical_in (drop (suc i) xs) >>= λ zs. Some (z ∷ zs))) is

-- no text is left
pub is_done : (done xs : List (List ℕ)) (total : Option (List (List ℕ))) → xs ≡ [] → with_front done (each_of canonical_in xs) ≡ total → total ≡ Some done
is_done done xs total none so_far = sym so_far ∙ ap (λ zs. with_front done (each_of canonical_in zs)) none ∙ ap (λ ys. Some ys) (append-nil done)

-- ---- what is read is in canonical text

one_canonical : (text element : List ℕ) → canonical_in text ≡ Some element → is_canonical element ≡ true
one_canonical text element is = by_result (canonical text) refl is
  where
    by_result : (r : Result (List ℕ) ℕ) → canonical text ≡ r → result_ok r ≡ Some element → is_canonical element ≡ true
    by_result (Ok e) found same =
        let whole : Some e ≡ Some element = same in
        let at : e ≡ element = cc in
        let t = canonical_tree text element (found ∙ ap (λ (e : List ℕ). Ok e) at) in element_found element (t.0, t.2)
    by_result (Err offset) found same = absurd cc

pub all_canonical : (texts elements : List (List ℕ)) → each_of canonical_in texts ≡ Some elements → list_all is_canonical elements ≡ true
all_canonical [] elements is = let none : [] ≡ elements = cc in ap (list_all is_canonical) (sym none)
all_canonical (text ∷ texts) elements is = by_first (canonical_in text) (each_of canonical_in texts) refl (λ ys rest. all_canonical texts ys rest) is
  where
    by_first : (r : Option (List ℕ)) (rs : Option (List (List ℕ))) → canonical_in text ≡ r → ((ys : List (List ℕ)) → rs ≡ Some ys → list_all is_canonical ys ≡ true)
        → (r >>= λ y. rs >>= λ ys. Some (y ∷ ys)) ≡ Some elements → list_all is_canonical elements ≡ true
    by_first (Some y) (Some ys) one others same =
        let whole : (y ∷ ys) ≡ elements = cc in
        ap (list_all is_canonical) (sym whole) ∙ and_from _ _ (one_canonical text y one) (others ys refl)
    by_first (Some y) None one others same = absurd cc
    by_first None rs one others same = absurd cc

-- ---- lists under names

-- one list more
pub added_canonical : (lists : List NamedList) (name : List ℕ) (elements : List (List ℕ)) → list_all are_canonical lists ≡ true → list_all is_canonical elements ≡ true
    → list_all are_canonical (lists ++ (name, elements) ∷ []) ≡ true
added_canonical [] name elements all more = and_from _ _ more refl
added_canonical (list ∷ lists) name elements all more =
    let parts = and_parts (are_canonical list) (list_all are_canonical lists) all in
    and_from _ _ parts.0 (added_canonical lists name elements parts.1 more)

-- the one of a name
pub named_canonical : (lists : List NamedList) (name : List ℕ) → list_all are_canonical lists ≡ true → list_all is_canonical (elements_named lists name) ≡ true
unfolding elements_named
named_canonical [] name all = refl
named_canonical (list ∷ lists) name all =
    let parts = and_parts (are_canonical list) (list_all are_canonical lists) all in
    by_test (bytes_eq list.0 name) parts.0 (named_canonical lists name parts.1)
  where
    by_test : (b : Bool) → are_canonical list ≡ true → list_all is_canonical (elements_of (find (λ (l : NamedList). bytes_eq l.0 name) lists)) ≡ true
        → list_all is_canonical (elements_of (cond b (Some list) (find (λ (l : NamedList). bytes_eq l.0 name) lists))) ≡ true
    by_test true first others = first
    by_test false first others = others
