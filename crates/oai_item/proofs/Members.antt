-- The members of a list of items, by recursion along it.
use Rattle.std.proofs.Common.{◌≡◌, ◌↔◌, ◌⊎◌, inl, inr, Bool, true, List, [], ◌∷◌, ◌++◌, sym, ◌∙◌, ap, arith}
use Rattle.std.specs.Prelude.{filter}
use Rattle.std.specs.List.{Contains}
use Rattle.std.proofs.lemmas.Bool.{both_ways, cond_both}
use Rattle.std.proofs.lemmas.List.Elements.{Contains-append_cases, Contains-append_left, Contains-append_right, Contains-push, Contains-push_cases}
use Rattle.oai_item.specs.Item.{ItemState}

abbrev pub Member : ItemState → List ItemState → Type 0
Member item [] = ⊥
Member item (x ∷ items) = (item ≡ x) ⊎ Member item items

none_in : (item : ItemState) → Contains [] item → ⊥
none_in item h = absurd (omega (arith, h.1))

pub member_from : (items : List ItemState) (item : ItemState) → Contains items item → Member item items
member_from [] item h = none_in item h
member_from (x ∷ items) item h =
    elim (Contains-append_cases (x ∷ []) items item h) [
      | inl front ↦ elim (Contains-push_cases [] x item front) [ inl none ↦ absurd (none_in item none) | inr same ↦ inl (sym same) ]
      | inr later ↦ inr (member_from items item later)
    ]

pub contains_from : (items : List ItemState) (item : ItemState) → Member item items → Contains items item
contains_from [] item h = absurd h
contains_from (x ∷ items) item h =
    elim h [
      | inl same ↦ Contains-append_left (x ∷ []) items item (let here : Contains ([] ++ item ∷ []) item = Contains-push [] item in rw (sym same) here)
      | inr later ↦ Contains-append_right (x ∷ []) items item (contains_from items item later)
    ]

-- a filter keeps a member exactly where it passes
pub Member-filter : (p : ItemState → Bool) (items : List ItemState) (item : ItemState) → Member item (filter p items) ↔ (Member item items × (p item ≡ true))
Member-filter p [] item = (λ h. absurd h, λ h. absurd h.0)
Member-filter p (x ∷ items) item =
    let rest = Member-filter p items item in
    cond_both (p x) (x ∷ filter p items) (filter p items) (λ ys. Member item ys ↔ (Member item (x ∷ items) × (p item ≡ true)))
    (λ passes. (
      (λ h. elim h [ inl here ↦ (inl here, ap p here ∙ passes) | inr later ↦ (inr (rest.0 later).0, (rest.0 later).1) ]),
      (λ h. elim h.0 [ inl here ↦ inl here | inr later ↦ inr (rest.1 (later, h.1)) ]),
    ))
    (λ fails. (
      (λ h. (inr (rest.0 h).0, (rest.0 h).1)),
      (λ h. elim h.0 [ inl here ↦ absurd (both_ways (p item) (ap p here ∙ fails) h.1) | inr later ↦ rest.1 (later, h.1) ]),
    ))
