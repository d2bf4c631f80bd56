-- Items of neighbouring places put together: they are in order, and those of all places are the same.
use Rattle.std.proofs.Common.{◌≡◌, ◌∙◌, ◌+◌, ◌<◌, ◌≤◌, ℕ, true, List, [], ◌∷◌, ◌++◌, length, take, drop, get_or, refl, sym, ap, subst, arith, append-nil, append_assoc}
use Rattle.std.specs.List.{list_all}
use Rattle.std.proofs.Math.Seq.{take-add}
use Rattle.std.proofs.lemmas.Bool.{and_from, and_parts}
use Rattle.std.proofs.lemmas.List.{drop-drop, drop_more, take-append-drop, take_more}
use Rattle.std.proofs.lemmas.List.Folds.{list_all-append}
use Rattle.oai_names.proofs.Lists.{all-weaker}
use Rattle.oai_item.specs.Item.{ItemState}
use Rattle.oai_item.specs.Order.{are_in_order, precedes}
use Rattle.oai_item.proofs.Around.{in_order-append, in_order-join}
use Rattle.oai_places.specs.Directory.{IsDirectory, MayStand, items_with_run}
use Rattle.oai_places.specs.Places.{Pages, PlaceState, items_at, items_on}
use Rattle.oai_places.specs.Searches.{MayBeAt}
use Rattle.oai_places.proofs.DirectoryLemmas.{may_stand_read, no_place}
use Rattle.oai_places.proofs.PlaceLemmas.{items_on-append, items_on-cons, items_on-nil}

-- ---- items before others

-- each of the one precedes each of the others
abbrev Precede : List ItemState → List ItemState → Type 0
Precede a b = list_all (λ x. list_all (precedes x) b) a ≡ true

precede_parts : (a b c : List ItemState) → Precede a (b ++ c) → Precede a b × Precede a c
precede_parts a b c h = (
  all-weaker (λ (x : ItemState). list_all (precedes x) (b ++ c)) (λ x. list_all (precedes x) b) (λ x all. (and_parts (list_all (precedes x) b) (list_all (precedes x) c) (sym (list_all-append (precedes x) b c) ∙ all)).0) a h,
  all-weaker (λ (x : ItemState). list_all (precedes x) (b ++ c)) (λ x. list_all (precedes x) c) (λ x all. (and_parts (list_all (precedes x) b) (list_all (precedes x) c) (sym (list_all-append (precedes x) b c) ∙ all)).1) a h,
)

precede_both : (a b c : List ItemState) → Precede a b → Precede a c → Precede a (b ++ c)
precede_both [] b c h k = refl
precede_both (x ∷ a) b c h k =
    let one = and_parts (list_all (precedes x) b) (list_all (λ y. list_all (precedes y) b) a) h in
    let two = and_parts (list_all (precedes x) c) (list_all (λ y. list_all (precedes y) c) a) k in
    and_from (list_all (precedes x) (b ++ c)) (list_all (λ y. list_all (precedes y) (b ++ c)) a)
    (list_all-append (precedes x) b c ∙ and_from (list_all (precedes x) b) (list_all (precedes x) c) one.0 two.0) (precede_both a b c one.1 two.1)

fronts_precede : (a b c : List ItemState) → Precede (a ++ b) c → Precede a c × Precede b c
fronts_precede a b c h =
    and_parts (list_all (λ x. list_all (precedes x) c) a) (list_all (λ x. list_all (precedes x) c) b) (sym (list_all-append (λ x. list_all (precedes x) c) a b) ∙ h)

both_precede : (a b c : List ItemState) → Precede a c → Precede b c → Precede (a ++ b) c
both_precede a b c h k =
    list_all-append (λ x. list_all (precedes x) c) a b ∙ and_from (list_all (λ x. list_all (precedes x) c) a) (list_all (λ x. list_all (precedes x) c) b) h k

-- two parts in order between others that they fit between
between_others : (a x e b : List ItemState) → are_in_order a ≡ true → are_in_order (x ++ e) ≡ true → are_in_order b ≡ true → Precede a x → Precede a e → Precede a b → Precede x b → Precede e b
    → are_in_order (a ++ ((x ++ e) ++ b)) ≡ true
between_others a x e b ra rm rb ax ae ab xb eb =
    in_order-join a ((x ++ e) ++ b) ra (in_order-join (x ++ e) b rm rb (both_precede x e b xb eb)) (precede_both a (x ++ e) b (precede_both a x e ax ae) ab)

-- ---- the items of places before and behind

module _ (pages : Pages) (places : List PlaceState) where
  abbrev front : ℕ → List ItemState
  front at = items_on pages (take at places)

  abbrev behind : ℕ → List ItemState
  behind at = items_on pages (drop at places)

  abbrev own : ℕ → List ItemState
  own at = items_at pages (get_or places at no_place)

  front_more : (at : ℕ) → at < length places → front (at + 1) ≡ front at ++ own at
  front_more at within =
      let place : PlaceState = get_or places at no_place in
      ap (items_on pages) (take_more places at no_place within) ∙ items_on-append pages (take at places) (place ∷ [])
      ∙ ap (λ zs. front at ++ zs) (items_on-cons pages place [] ∙ ap (λ zs. own at ++ zs) (items_on-nil pages) ∙ append-nil (own at))

  behind_more : (at : ℕ) → at < length places → behind at ≡ own at ++ behind (at + 1)
  behind_more at within = ap (items_on pages) (drop_more places at no_place within) ∙ items_on-cons pages (get_or places at no_place) (drop (at + 1) places)

  behind_parts : (at len : ℕ) → behind at ≡ items_on pages (take len (drop at places)) ++ behind (at + len)
  behind_parts at len =
      ap (items_on pages) (sym (take-append-drop len (drop at places))) ∙ items_on-append pages (take len (drop at places)) (drop len (drop at places))
      ∙ ap (λ ps. items_on pages (take len (drop at places)) ++ items_on pages ps) (drop-drop len at places)

  front_parts : (at len : ℕ) → front (at + len) ≡ front at ++ items_on pages (take len (drop at places))
  front_parts at len = ap (items_on pages) (take-add at len places) ∙ items_on-append pages (take at places) (take len (drop at places))

  -- ---- with the place before

  pub before-items : (at len : ℕ) (xs es : List ItemState) → at < length places → xs ≡ own at → items_with_run pages places at (len + 1) (xs ++ es) ≡ items_with_run pages places (at + 1) len es
  before-items at len xs es within is =
      let same : at + (len + 1) ≡ at + 1 + len = omega arith in
      let rest = behind (at + 1 + len) in
      (λ i. front at ++ ((is i ++ es) ++ behind (same i)))
      ∙ ap (λ zs. front at ++ zs) (append_assoc (own at) es rest)
      ∙ sym (append_assoc (front at) (own at) (es ++ rest))
      ∙ ap (λ zs. zs ++ (es ++ rest)) (sym (front_more at within))

  pub before-order : (at len : ℕ) (xs es : List ItemState) → IsDirectory pages places → at < length places → MayBeAt places at xs → MayStand pages places (at + 1) len es → are_in_order (xs ++ es) ≡ true
      → MayStand pages places at (len + 1) (xs ++ es)
  before-order at len xs es h within read stand rising =
      let same : at + (len + 1) ≡ at + 1 + len = omega arith in
      let rest = behind (at + 1 + len) in
      let middle = items_on pages (take len (drop (at + 1) places)) in
      let one = in_order-append (front at) (xs ++ behind (at + 1)) (may_stand_read pages places at xs h within read) in
      let one_behind = in_order-append xs (behind (at + 1)) one.1 in
      let two = in_order-append (front at ++ own at) (es ++ rest) (ap (λ zs. are_in_order (zs ++ (es ++ rest))) (sym (front_more at within)) ∙ stand) in
      let two_behind = in_order-append es rest two.1 in
      let ahead = precede_parts (front at) es rest (fronts_precede (front at) (own at) (es ++ rest) two.2).0 in
      let xs_rest = precede_parts xs middle rest (subst (λ (zs : List ItemState). Precede xs zs) (behind_parts (at + 1) len) one_behind.2) in
      ap (λ n. are_in_order (front at ++ ((xs ++ es) ++ behind n))) same
      ∙ between_others (front at) xs es rest one.0 rising two_behind.1 (precede_parts (front at) xs (behind (at + 1)) one.2).0 ahead.0 ahead.1 xs_rest.1 two_behind.2

  -- ---- with the place behind

  pub behind-items : (at len : ℕ) (es ys : List ItemState) → at + len < length places → ys ≡ own (at + len) → items_with_run pages places at (len + 1) (es ++ ys) ≡ items_with_run pages places at len es
  behind-items at len es ys within is =
      let same : at + (len + 1) ≡ at + len + 1 = omega arith in
      (λ i. front at ++ ((es ++ is i) ++ behind (same i)))
      ∙ ap (λ zs. front at ++ zs) (append_assoc es (own (at + len)) (behind (at + len + 1)) ∙ ap (λ zs. es ++ zs) (sym (behind_more (at + len) within)))

  pub behind-order : (at len : ℕ) (es ys : List ItemState) → IsDirectory pages places → at + len < length places → MayBeAt places (at + len) ys → MayStand pages places at len es → are_in_order (es ++ ys) ≡ true
      → MayStand pages places at (len + 1) (es ++ ys)
  behind-order at len es ys h within read stand rising =
      let same : at + (len + 1) ≡ at + len + 1 = omega arith in
      let rest = behind (at + len + 1) in
      let middle = items_on pages (take len (drop at places)) in
      let one = in_order-append (front (at + len)) (ys ++ rest) (may_stand_read pages places (at + len) ys h within read) in
      let one_behind = in_order-append ys rest one.1 in
      let two = in_order-append (front at) (es ++ (own (at + len) ++ rest)) (ap (λ zs. are_in_order (front at ++ (es ++ zs))) (sym (behind_more (at + len) within)) ∙ stand) in
      let two_behind = in_order-append es (own (at + len) ++ rest) two.1 in
      let ahead = precede_parts (front at) es (own (at + len) ++ rest) two.2 in
      let parts : front (at + len) ≡ front at ++ middle = front_parts at len in
      let front_ahead = (fronts_precede (front at) middle (ys ++ rest) (subst (λ (zs : List ItemState). Precede zs (ys ++ rest)) parts one.2)).0 in
      let front_both = precede_parts (front at) ys rest front_ahead in
      ap (λ n. are_in_order (front at ++ ((es ++ ys) ++ behind n))) same
      ∙ between_others (front at) es ys rest two.0 rising one_behind.1 ahead.0 front_both.0 front_both.1 (precede_parts es (own (at + len)) rest two_behind.2).1 one_behind.2
