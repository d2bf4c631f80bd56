-- What a purge reads of the items, what it takes out, and what is left and indexed then.
use Rattle.std.proofs.Common.{◌≡◌, ◌∙◌, ◌+◌, ◌<◌, ◌≤◌, ◌-ℤ◌, inl, inr, ℕ, ℤ, pos, Bool, true, false, not, ◌&&◌, cond, List, [], ◌∷◌, ◌++◌, length, take, drop, get_or, None, Some, IsSome, refl, sym, ap, subst, arith}
use Rattle.std.specs.Prelude.{filter, int_le, int_lt, nat_lt, if◌then◌else◌}
use Rattle.std.specs.List.{list_all}
use Rattle.std.specs.Ordering.{int_eq}
use Rattle.std.specs.Str.{bytes_eq}
use Rattle.std.proofs.lemmas.Bool.{and_parts, cases_Bool, cond-true, cond-false, ltb-true}
use Rattle.std.proofs.lemmas.Int.{ints}
use Rattle.std.proofs.lemmas.List.{drop_more, drop-take, length-append, length-drop, length-take, take-append-drop, take-take, take_all}
use Rattle.std.proofs.lemmas.List.Elements.{filter-append}
use Rattle.std.proofs.lemmas.List.Sums.{count_by-le-length, length-filter}
use Rattle.std.proofs.lemmas.Slice.Eq.{bytes_eq-Decides}
use Rattle.oai_item.specs.Item.{ItemState}
use Rattle.oai_item.specs.Items.{are_apart, is_apart, is_at, item_named, without_at}
use Rattle.oai_item.specs.Selection.{passes, selected}
use Rattle.oai_item.proofs.Named.{without_at-none}
use Rattle.oai_names.proofs.Lists.{all-filter}
use Rattle.oai_catalogue.specs.Store.{is_at_one_of, without_each}
use Rattle.oai_catalogue.proofs.Gone.{without_each-at, without_each-first, without_each-none}
use Rattle.oai_holdings.specs.Changes.{is_past, purged}
use Rattle.oai_holdings.specs.Index.{IndexAgrees, has_writable_stamp}
use Rattle.oai_holdings.specs.Entries.{IndexEntries, stamp_in, SetsStamp}
use Rattle.oai_holdings.specs.Purges.{AreFoundInTurn, below, is_deleted, is_in_core}
use Rattle.oai_holdings.proofs.KeptLemmas.{at_most}
use Rattle.oai_holdings.proofs.IndexLemmas.{taken_out}

-- ---- what is read

no_and : (b : Bool) → (b && false) ≡ false
no_and true = refl
no_and false = refl

below_is : (s limit : ℤ) → int_le s (limit -ℤ pos 1) ≡ int_lt s limit
below_is s limit = grind (arith, ints)

all_four : (a b c d : Bool) → a ≡ true → b ≡ true → (a && b && c && true) ≡ c
all_four a b c d one two = rw (one, two) (by_test c)
  where
    by_test : (c : Bool) → (true && true && c && true) ≡ c
    by_test true = refl
    by_test false = refl

-- of the deleted items those are asked for that are past
passes_below : (limit : ℤ) (x : ItemState) → is_in_core x ≡ true → has_writable_stamp x ≡ true → passes (below limit) x ≡ int_lt x.stamp limit
passes_below limit x core dated =
    let parts = and_parts (int_le (below limit).lower x.stamp) (int_le x.stamp (pos 253_402_300_799)) dated in
    all_four (is_in_core x) (int_le (below limit).lower x.stamp) (int_le x.stamp (limit -ℤ pos 1)) true core parts.0 ∙ below_is x.stamp limit

pub deleted_selected : (limit : ℤ) (items : List ItemState) → list_all is_in_core items ≡ true → list_all has_writable_stamp items ≡ true
    → filter is_deleted (selected (below limit) items) ≡ filter (is_past limit) items
unfolding selected
deleted_selected limit [] core dated = refl
deleted_selected limit (x ∷ items) core dated =
    let in_core = and_parts (is_in_core x) (list_all is_in_core items) core in
    let has_date = and_parts (has_writable_stamp x) (list_all has_writable_stamp items) dated in
    by_tests (passes (below limit) x) (int_lt x.stamp limit) x.live (passes_below limit x in_core.0 has_date.0) refl refl (deleted_selected limit items in_core.1 has_date.1)
  where
    some : List ItemState
    some = filter (passes (below limit)) items

    past : List ItemState
    past = filter (is_past limit) items

    by_tests : (b c l : Bool) → b ≡ c → int_lt x.stamp limit ≡ c → x.live ≡ l → filter is_deleted some ≡ past
        → filter is_deleted (cond b (x ∷ some) some) ≡ cond (is_past limit x) (x ∷ past) past
    by_tests false false l same test live h = h ∙ sym (cond-false (is_past limit x) (x ∷ past) past (ap (λ (b : Bool). not x.live && b) test ∙ no_and (not x.live)))
    by_tests true true true same test live h =
        cond-false (is_deleted x) (x ∷ filter is_deleted some) (filter is_deleted some) (ap not live) ∙ h
        ∙ sym (cond-false (is_past limit x) (x ∷ past) past (ap (λ (b : Bool). not b && int_lt x.stamp limit) live))
    by_tests true true false same test live h =
        cond-true (is_deleted x) (x ∷ filter is_deleted some) (filter is_deleted some) (ap not live) ∙ ap (λ (xs : List ItemState). x ∷ xs) h
        ∙ sym (cond-true (is_past limit x) (x ∷ past) past (ap (λ (b : Bool). not b && int_lt x.stamp limit) live ∙ test))
    by_tests true false l same test live h = cc
    by_tests false true l same test live h = cc

-- a part more is read
take_part : (start some : ℕ) (items : List ItemState) → take start items ++ take some (drop start items) ≡ take (start + some) items
take_part start some items =
    ap (λ (xs : List ItemState). xs ++ take some (drop start items)) (sym (take-take start (start + some) items (omega arith)))
    ∙ ap (λ (xs : List ItemState). take start (take (start + some) items) ++ xs) (sym (drop-take start some items))
    ∙ take-append-drop start (take (start + some) items)

read_more : (start some : ℕ) (items : List ItemState) → filter is_deleted (take start items) ++ filter is_deleted (take some (drop start items)) ≡ filter is_deleted (take (start + some) items)
read_more start some items = sym (filter-append is_deleted (take start items) (take some (drop start items))) ∙ ap (filter is_deleted) (take_part start some items)

-- a part that is shorter than was asked for is the last
is_last : (start some : ℕ) (items : List ItemState) → length (take some (drop start items)) < some → length items ≤ start + some
is_last start some items short = omega (arith, short, length-take some (drop start items), length-drop start items)

-- so a part more is read, or, where it is shorter, all
pub read_on : (start some most : ℕ) (items : List ItemState) → start + some ≤ most
    → filter is_deleted (take start items) ++ filter is_deleted (take some (drop start items))
    ≡ filter is_deleted (take (if nat_lt (length (take some (drop start items))) some then most else start + some) items)
read_on start some most items within =
    read_more start some items
    ∙ ap (filter is_deleted)
    (elim (cases_Bool (nat_lt (length (take some (drop start items))) some)) [
      | inl short ↦
          let last : length items ≤ start + some = is_last start some items (ltb-true (length (take some (drop start items))) some short) in
          take_all (start + some) items last
          ∙ sym (take_all most items (omega (arith, last, within)))
          ∙ ap (λ (n : ℕ). take n items) (sym (cond-true (nat_lt (length (take some (drop start items))) some) most (start + some) short))
      | inr full ↦ ap (λ (n : ℕ). take n items) (sym (cond-false (nat_lt (length (take some (drop start items))) some) most (start + some) full))
    ])

-- no more of them are deleted than were read
pub few_more : (gone part : List ItemState) (start some next : ℕ) → length gone ≤ start → length part ≤ some → start + some ≤ next
    → length (gone ++ filter is_deleted part) ≤ next
few_more gone part start some next few read further =
    omega (arith, length-append gone (filter is_deleted part), length-filter is_deleted part, count_by-le-length is_deleted part, few, read, further)

-- ---- what is taken out

-- an item that is apart from those that go stays
not_named : (a b : ItemState) → is_apart a b ≡ true → bytes_eq a.identifier b.identifier ≡ false
not_named a b apart = elim (cases_Bool (bytes_eq a.identifier b.identifier)) [
  | inl same ↦
      let e : b.identifier ≡ a.identifier = sym ((bytes_eq-Decides a.identifier b.identifier).0 same) in
      let named : bytes_eq b.identifier a.identifier ≡ true = (bytes_eq-Decides b.identifier a.identifier).1 e in
      let not_apart : not true ≡ true = subst (λ (t : Bool). not t ≡ true) named apart in cc
  | inr other ↦ other
]

not_at : (x : ItemState) (stamp : ℤ) (identifier : List ℕ) → bytes_eq x.identifier identifier ≡ false → is_at stamp identifier x ≡ false
not_at x stamp identifier other = ap (λ (b : Bool). int_eq x.stamp stamp && b) other ∙ no_and (int_eq x.stamp stamp)

not_one_of : (x : ItemState) (gone : List ItemState) → list_all (is_apart x) gone ≡ true → is_at_one_of gone x ≡ false
not_one_of x [] apart = refl
not_one_of x (g ∷ gone) apart =
    let parts = and_parts (is_apart x g) (list_all (is_apart x) gone) apart in
    rw (not_at x g.stamp g.identifier (not_named x g parts.0), not_one_of x gone parts.1) refl

stays_first : (x : ItemState) (gone items : List ItemState) → list_all (is_apart x) gone ≡ true → without_each gone (x ∷ items) ≡ x ∷ without_each gone items
unfolding without_each
stays_first x gone items apart =
    let left : List ItemState = filter (λ item. not (is_at_one_of gone item)) items in
    cond-true (not (is_at_one_of gone x)) (x ∷ left) left (ap not (not_one_of x gone apart))

taken_behind : (x : ItemState) (gone items : List ItemState) → list_all (is_apart x) gone ≡ true → AreFoundInTurn gone items → AreFoundInTurn gone (x ∷ items)
unfolding item_named without_at
taken_behind x [] items apart taken = tt
taken_behind x (g ∷ gone) items apart taken =
    let parts = and_parts (is_apart x g) (list_all (is_apart x) gone) apart in
    let other : bytes_eq x.identifier g.identifier ≡ false = not_named x g parts.0 in
    let here : item_named g.identifier (x ∷ items) ≡ item_named g.identifier items = cond-false (bytes_eq x.identifier g.identifier) (Some x) (item_named g.identifier items) other in
    let left : without_at g.stamp g.identifier (x ∷ items) ≡ x ∷ without_at g.stamp g.identifier items =
    cond-true (not (is_at g.stamp g.identifier x)) (x ∷ without_at g.stamp g.identifier items) (without_at g.stamp g.identifier items) (ap not (not_at x g.stamp g.identifier other)) in
    (here ∙ taken.0, subst (λ (xs : List ItemState). AreFoundInTurn gone xs) (sym left) (taken_behind x gone (without_at g.stamp g.identifier items) parts.1 taken.1))

itself : (x : ItemState) → bytes_eq x.identifier x.identifier ≡ true
itself x = (bytes_eq-Decides x.identifier x.identifier).1 refl

own_stamp : (s : ℤ) → int_eq s s ≡ true
own_stamp s = grind (arith, ints)

-- the first goes, and the others do not
first_goes : (x : ItemState) (items : List ItemState) → list_all (is_apart x) items ≡ true → without_at x.stamp x.identifier (x ∷ items) ≡ items
unfolding without_at
first_goes x items apart =
    let here : is_at x.stamp x.identifier x ≡ true = rw (own_stamp x.stamp, itself x) refl in
    cond-false (not (is_at x.stamp x.identifier x)) _ _ (ap not here) ∙ without_at-none x.stamp x.identifier items apart

-- those that a test picks are taken out one after another, and the others are left
pub picked : (p : ItemState → Bool) (items : List ItemState) → are_apart items ≡ true
    → AreFoundInTurn (filter p items) items × (without_each (filter p items) items ≡ filter (λ item. not (p item)) items)
unfolding item_named
picked p [] apart = (tt, without_each-none [])
picked p (x ∷ items) apart =
    let parts = and_parts (list_all (is_apart x) items) (are_apart items) apart in
    by_test (p x) parts.0 (picked p items parts.1)
  where
    gone : List ItemState
    gone = filter p items

    left : List ItemState
    left = filter (λ item. not (p item)) items

    by_test : (b : Bool) → list_all (is_apart x) items ≡ true → AreFoundInTurn gone items × (without_each gone items ≡ left)
        → AreFoundInTurn (cond b (x ∷ gone) gone) (x ∷ items) × (without_each (cond b (x ∷ gone) gone) (x ∷ items) ≡ cond (not b) (x ∷ left) left)
    by_test true others h =
        let out = first_goes x items others in (
          (cond-true (bytes_eq x.identifier x.identifier) (Some x) (item_named x.identifier items) (itself x), subst (λ (xs : List ItemState). AreFoundInTurn gone xs) (sym out) h.0),
          without_each-first x gone (x ∷ items) ∙ ap (without_each gone) out ∙ h.1,
        )
    by_test false others h =
        let apart_from = all-filter (is_apart x) p items others in (
          taken_behind x gone items apart_from h.0,
          stays_first x gone items apart_from ∙ ap (λ (xs : List ItemState). x ∷ xs) h.1,
        )

-- ---- what is indexed then

-- the entries without those of the first so many of the items that go
abbrev pub AreForgotten : IndexEntries → IndexEntries → List ItemState → ℕ → Type 0
AreForgotten old now gone i =
    (items : List ItemState) → IndexAgrees old items → AreFoundInTurn gone items → IndexAgrees now (without_each (take i gone) items) × AreFoundInTurn (drop i gone) (without_each (take i gone) items)

pub forgotten_none : (old : IndexEntries) (gone : List ItemState) → AreForgotten old old gone 0
forgotten_none old gone items agrees taken =
    subst (λ (xs : List ItemState). IndexAgrees old xs × AreFoundInTurn gone xs) (sym (without_each-none items)) (agrees, taken)

pub forgotten_next : (old now next : IndexEntries) (gone : List ItemState) (i : ℕ) (d : ItemState) → i < length gone → AreForgotten old now gone i
    → SetsStamp (get_or gone i d).identifier None now next → (IsSome (stamp_in (get_or gone i d).identifier now) → length next + 1 ≡ length now)
    → AreForgotten old next gone (i + 1)
forgotten_next old now next gone i d within so_far noting many items agrees taken =
    let x : ItemState = get_or gone i d in
    let mid : List ItemState = without_each (take i gone) items in
    let found = so_far items agrees taken in
    let rest : AreFoundInTurn (x ∷ drop (i + 1) gone) mid = subst (λ (xs : List ItemState). AreFoundInTurn xs mid) (drop_more gone i d within) found.1 in
    let out : without_each (take (i + 1) gone) items ≡ without_at x.stamp x.identifier mid = without_each-at gone i d items within in
    subst (λ (xs : List ItemState). IndexAgrees next xs × AreFoundInTurn (drop (i + 1) gone) xs) (sym out)
    ((taken_out x now next mid (without_at x.stamp x.identifier mid) found.0 rest.0 noting many refl).1, rest.1)

-- ---- a purge

pub empty : (items : List ItemState) → length items ≡ 0 → items ≡ []
empty [] h = refl
empty (x ∷ items) h = absurd (omega (arith, h))

-- what is left where those that were read, up to all, are taken out
abbrev pub IsPurge : ℤ → IndexEntries → List ItemState → List ItemState → Type 0
IsPurge limit old items gone = gone ≡ filter is_deleted (take (length old) (selected (below limit) items))

gone_are : (limit : ℤ) (old : IndexEntries) (items gone : List ItemState) → IndexAgrees old items → list_all is_in_core items ≡ true → list_all has_writable_stamp items ≡ true
    → IsPurge limit old items gone → gone ≡ filter (is_past limit) items
unfolding selected
gone_are limit old items gone agrees core dated is =
    is ∙ ap (filter is_deleted) (take_all (length old) (selected (below limit) items) (let few = at_most (passes (below limit)) items in omega (arith, few, agrees.many)))
    ∙ deleted_selected limit items core dated

pub purge_left : (limit : ℤ) (old : IndexEntries) (items gone : List ItemState) → IndexAgrees old items → list_all is_in_core items ≡ true → list_all has_writable_stamp items ≡ true
    → IsPurge limit old items gone → AreFoundInTurn gone items × (without_each gone items ≡ purged limit items)
unfolding purged
purge_left limit old items gone agrees core dated is =
    let are : gone ≡ filter (is_past limit) items = gone_are limit old items gone agrees core dated is in
    subst (λ (xs : List ItemState). AreFoundInTurn xs items × (without_each xs items ≡ filter (λ item. not (is_past limit item)) items)) (sym are) (picked (is_past limit) items agrees.apart)
