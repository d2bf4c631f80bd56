-- Connections whose numbers rise: which has a number, and what is left when one is opened, changed or taken away.
use Rattle.std.proofs.Common.{◌≡◌, ◌∙◌, ℕ, ◌+◌, ◌<◌, inl, inr, Bool, true, not, ◌&&◌, List, [], ◌∷◌, ◌++◌, None, Some, map, set, take, drop, get_or, refl, sym, ap, ap₂, arith, add-one}
use Rattle.std.specs.Prelude.{filter, nat_le, nat_lt}
use Rattle.std.specs.List.{list_all, remove}
use Rattle.std.proofs.lemmas.Bool.{and_from, and_parts, leb-true, le-leb, lt-ltb, cond-true, cond-false, cases_Bool, eqb-true, not-true}
use Rattle.std.proofs.lemmas.List.{map-append}
use Rattle.std.proofs.lemmas.List.Elements.{filter-append}
use Rattle.std.proofs.lemmas.List.Folds.{list_all-append}
use Rattle.oai_names.specs.Numbered.{is_lower}
use Rattle.oai_names.proofs.Lists.{all-filter, all-weaker, cut, filter_all, set_cut}
use Rattle.oai_names.proofs.Numbered.{found-none, found-placed, rise-join}
use Rattle.oai_front.specs.Places.{IsPlaced, none_numbered}
use Rattle.oai_front.specs.Connections.{Connection}
use Rattle.oai_front.specs.Fronts.{IsTable, are_numbered, connection_numbered, is_numbered, connection_number, replaced, with_connection, without_connection}
use Rattle.oai_front.specs.declared.numbers.TheConstants.{LAST_NUMBER}

-- ---- the connection of a number

pub connection_numbered-placed : (number : ℕ) (connections : List Connection) (at : ℕ) (d : Connection) → IsPlaced number connections (Some at) → connection_numbered number connections ≡ Some (get_or connections at d)
unfolding connection_numbered
connection_numbered-placed number connections at d placed = found-placed connection_number number connections at d placed

pub connection_numbered-none : (number : ℕ) (connections : List Connection) → none_numbered number connections → connection_numbered number connections ≡ None
unfolding connection_numbered
connection_numbered-none number connections h = found-none connection_number number connections h

-- ---- changes of the connection at a place

unreplaced : (d : Connection) (connections : List Connection) → none_numbered d.number connections → with_connection d connections ≡ connections
unfolding with_connection
unreplaced d [] h = refl
unreplaced d (x ∷ connections) h =
    let parts = and_parts (not (is_numbered d.number x)) (list_all (λ c. not (is_numbered d.number c)) connections) h in
    ap (λ y. y ∷ map (replaced d) connections) (cond-false (is_numbered d.number x) d x (not-true _ parts.0)) ∙ ap (λ ys. x ∷ ys) (unreplaced d connections parts.1)

-- the one connection that is replaced
pub replaced-placed : (d : Connection) (connections : List Connection) (at : ℕ) → IsPlaced d.number connections (Some at) → with_connection d connections ≡ set connections at d
unfolding with_connection
replaced-placed d connections at placed =
    let x : Connection = get_or connections at d in
    let rest : List Connection = drop (at + 1) connections in
    ap (map (replaced d)) (cut connections at d placed.0)
    ∙ map-append (replaced d) (take at connections) (x ∷ rest)
    ∙ ap (λ ys. ys ++ map (replaced d) (x ∷ rest)) (unreplaced d (take at connections) placed.2)
    ∙ ap (λ y. take at connections ++ (y ∷ map (replaced d) rest)) (cond-true (is_numbered d.number x) d x (placed.1 d))
    ∙ ap (λ ys. take at connections ++ (d ∷ ys)) (unreplaced d rest placed.3)
    ∙ sym (set_cut connections at d placed.0)

-- the one connection that is taken away
pub without-placed : (number : ℕ) (connections : List Connection) (at : ℕ) (d : Connection) → IsPlaced number connections (Some at)
    → without_connection number connections ≡ remove connections at
unfolding without_connection
without-placed number connections at d placed =
    let p : Connection → Bool = λ c. not (is_numbered number c) in
    let x : Connection = get_or connections at d in
    let rest : List Connection = drop (at + 1) connections in
    ap (filter p) (cut connections at d placed.0)
    ∙ filter-append p (take at connections) (x ∷ rest)
    ∙ ap (λ ys. ys ++ filter p (x ∷ rest)) (filter_all p (take at connections) placed.2)
    ∙ ap (λ ys. take at connections ++ ys) (cond-false (p x) (x ∷ filter p rest) (filter p rest) (ap not (placed.1 d)) ∙ filter_all p rest placed.3)
    ∙ ap (λ n. take at connections ++ drop n connections) (add-one at)

-- ---- the table is kept

same_number : (d c : Connection) → (replaced d c).number ≡ c.number
same_number d c = elim (cases_Bool (is_numbered d.number c)) [
  | inl here ↦ ap (λ (x : Connection). x.number) (cond-true (is_numbered d.number c) d c here) ∙ sym (eqb-true c.number d.number here)
  | inr other ↦ ap (λ (x : Connection). x.number) (cond-false (is_numbered d.number c) d c other)
]

all_replaced : (q : ℕ → Bool) (d : Connection) (connections : List Connection) → list_all (λ c. q c.number) (map (replaced d) connections) ≡ list_all (λ c. q c.number) connections
all_replaced q d [] = refl
all_replaced q d (x ∷ connections) = ap₂ (λ (a b : Bool). a && b) (ap q (same_number d x)) (all_replaced q d connections)

numbered_replaced : (d : Connection) (connections : List Connection) → are_numbered (map (replaced d) connections) ≡ are_numbered connections
numbered_replaced d [] = refl
numbered_replaced d (x ∷ connections) =
    ap₂ (λ (a b : Bool). a && b) (ap (λ (n : ℕ). list_all (λ (c : Connection). nat_lt n c.number) (map (replaced d) connections)) (same_number d x) ∙ all_replaced (λ n. nat_lt x.number n) d connections) (numbered_replaced d connections)

pub table_replaced : (d : Connection) (connections : List Connection) (last : ℕ) → IsTable connections last → IsTable (with_connection d connections) last
unfolding with_connection
table_replaced d connections last t = record {
  numbered = numbered_replaced d connections ∙ t.numbered;
  given = all_replaced (λ n. nat_le n last) d connections ∙ t.given;
  below = t.below;
}

numbered_filtered : (p : Connection → Bool) (connections : List Connection) → are_numbered connections ≡ true → are_numbered (filter p connections) ≡ true
numbered_filtered p [] h = refl
numbered_filtered p (x ∷ connections) h =
    let parts = and_parts (list_all (is_lower connection_number x) connections) (are_numbered connections) h in
    let rest = numbered_filtered p connections parts.1 in
    elim (cases_Bool (p x)) [
      | inl stays ↦ ap are_numbered (cond-true (p x) (x ∷ filter p connections) (filter p connections) stays)
          ∙ and_from (list_all (is_lower connection_number x) (filter p connections)) (are_numbered (filter p connections)) (all-filter (is_lower connection_number x) p connections parts.0) rest
      | inr goes ↦ ap are_numbered (cond-false (p x) (x ∷ filter p connections) (filter p connections) goes) ∙ rest
    ]

pub table_without : (number : ℕ) (connections : List Connection) (last : ℕ) → IsTable connections last → IsTable (without_connection number connections) last
unfolding without_connection
table_without number connections last t = record {
  numbered = numbered_filtered (λ c. not (is_numbered number c)) connections t.numbered;
  given = all-filter (λ (c : Connection). nat_le c.number last) (λ c. not (is_numbered number c)) connections t.given;
  below = t.below;
}

above_all : (connections : List Connection) (last : ℕ) (d : Connection) → d.number ≡ last + 1 → list_all (λ c. nat_le c.number last) connections ≡ true
    → list_all (λ c. list_all (is_lower connection_number c) (d ∷ [])) connections ≡ true
above_all connections last d e h =
    all-weaker (λ (c : Connection). nat_le c.number last) (λ c. list_all (is_lower connection_number c) (d ∷ []))
    (λ c below. and_from (is_lower connection_number c d) true (lt-ltb c.number d.number (omega (arith, e, leb-true c.number last below))) refl) connections h

pub table_pushed : (connections : List Connection) (last : ℕ) (d : Connection) → d.number ≡ last + 1 → last + 1 < LAST_NUMBER → IsTable connections last → IsTable (connections ++ d ∷ []) (last + 1)
table_pushed connections last d e below t = record {
  numbered = rise-join connection_number connections (d ∷ []) t.numbered refl (above_all connections last d e t.given);
  given = list_all-append (λ c. nat_le c.number (last + 1)) connections (d ∷ [])
      ∙ and_from (list_all (λ (c : Connection). nat_le c.number (last + 1)) connections) (list_all (λ (c : Connection). nat_le c.number (last + 1)) (d ∷ []))
      (all-weaker (λ (c : Connection). nat_le c.number last) (λ c. nat_le c.number (last + 1)) (λ c h. le-leb c.number (last + 1) (omega (arith, leb-true c.number last h))) connections t.given)
      (and_from (nat_le d.number (last + 1)) true (le-leb d.number (last + 1) (omega (arith, e))) refl);
  below = below;
}
