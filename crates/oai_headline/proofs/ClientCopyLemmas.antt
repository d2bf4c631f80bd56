-- Of what is seen of items the last record of each identifier is what is seen of the items of a copy that caught up with them.
use Rattle.std.proofs.Common.{◌≡◌, ◌∙◌, ◌↔◌, ◌⊎◌, inl, inr, ℕ, Bool, true, false, ◌||◌, cond, List, [], ◌∷◌, ◌++◌, map, Option, None, Some, is_some, refl, sym, ap, subst, arith}
use Rattle.std.specs.Prelude.{find, reverse}
use Rattle.std.specs.List.{Contains, flat_map, list_any}
use Rattle.std.specs.Option.{option_or}
use Rattle.std.proofs.lemmas.Bool.{cond-true, cond_both, false≢true}
use Rattle.std.proofs.lemmas.List.Elements.{Contains-append_cases, Contains-append_left, Contains-append_right, Contains-push, Contains-push_cases}
use Rattle.oai_time.specs.declared.granularity.Granularity.{Granularity}
use Rattle.oai_item.specs.Item.{ItemState}
use Rattle.oai_item.specs.Items.{is_named, item_named}
use Rattle.oai_item.specs.declared.formats.Format.{Format}
use Rattle.oai_answers.specs.Seen.{SeenRecord, record_seen}
use Rattle.oai_repo.specs.State.{RepoState}
use Rattle.oai_copy.specs.Copies.{caught_up_with}
use Rattle.oai_copy.proofs.ListedLemmas.{find_front, last_stays}
use Rattle.oai_copy.proofs.OrderLemmas.{eq_itself}
use Rattle.oai_laws.specs.Harvests.{IsWholeCopy}
use Rattle.oai_laws.proofs.HeldLemmas.{found_in, listed_apart, named_in}
use Rattle.oai_headline.specs.ClientHarvests.{IsRecordIn, is_record_of, last_of_each}

-- ---- members, by recursion along the list

abbrev Member : SeenRecord → List SeenRecord → Type 0
Member seen [] = ⊥
Member seen (x ∷ records) = (seen ≡ x) ⊎ Member seen records

none_in : (seen : SeenRecord) → Contains [] seen → ⊥
none_in seen h = absurd (omega (arith, h.1))

member_from : (records : List SeenRecord) (seen : SeenRecord) → Contains records seen → Member seen records
member_from [] seen h = none_in seen h
member_from (x ∷ records) seen h =
    elim (Contains-append_cases (x ∷ []) records seen h) [
      | inl front ↦ elim (Contains-push_cases [] x seen front) [ inl none ↦ absurd (none_in seen none) | inr same ↦ inl (sym same) ]
      | inr later ↦ inr (member_from records seen later)
    ]

contains_from : (records : List SeenRecord) (seen : SeenRecord) → Member seen records → Contains records seen
contains_from [] seen h = absurd h
contains_from (x ∷ records) seen h =
    elim h [
      | inl same ↦ Contains-append_left (x ∷ []) records seen (let here : Contains ([] ++ seen ∷ []) seen = Contains-push [] seen in rw (sym same) here)
      | inr later ↦ Contains-append_right (x ∷ []) records seen (contains_from records seen later)
    ]

-- ---- the last of an identifier

some_or : (b : Bool) (x : ItemState) (o : Option ItemState) → (b || is_some o) ≡ is_some (option_or o (cond b (Some x) None))
some_or true x None = refl
some_or true x (Some y) = refl
some_or false x None = refl
some_or false x (Some y) = refl

-- there is a record of the identifier where there is a last item of it
any_last : (g : Granularity) (format : Format) (q : List ℕ) (items : List ItemState)
    → list_any (is_record_of q) (map (record_seen g format) items) ≡ is_some (find (is_named q) (reverse items))
any_last g format q [] = refl
any_last g format q (x ∷ items) =
    ap (λ b. is_named q x || b) (any_last g format q items)
    ∙ some_or (is_named q x) x (find (is_named q) (reverse items))
    ∙ ap is_some (sym (find_front (is_named q) x items))

-- it is what is seen of an item that is the last of its identifier
record IsLast (g : Granularity) (format : Format) (items : List ItemState) (seen : SeenRecord) : Type 0 where
  pub item : ItemState
  pub last : find (is_named item.identifier) (reverse items) ≡ Some item
  pub shown : record_seen g format item ≡ seen

last_later : (g : Granularity) (format : Format) (x : ItemState) (items : List ItemState) (seen : SeenRecord) → IsLast g format items seen → IsLast g format (x ∷ items) seen
last_later g format x items seen h = record {
  item = h.item;
  last = find_front (is_named h.item.identifier) x items ∙ ap (λ o. option_or o (cond (is_named h.item.identifier x) (Some x) None)) h.last;
  shown = h.shown;
}

-- it is the first, and there is none of its identifier behind it; or it is one behind it
abbrev IsFirst : Granularity → Format → ItemState → List ItemState → SeenRecord → Type 0
IsFirst g format x items seen = (record_seen g format x ≡ seen) × (find (is_named x.identifier) (reverse items) ≡ None)

last_where : (g : Granularity) (format : Format) (x : ItemState) (items : List ItemState) (seen : SeenRecord) → IsLast g format (x ∷ items) seen
    → IsLast g format items seen ⊎ IsFirst g format x items seen
last_where g format x items seen h = by (find (is_named h.item.identifier) (reverse items)) (is_named h.item.identifier x) refl refl
  where
    q : List ℕ
    q = h.item.identifier

    all : (o : Option ItemState) (b : Bool) → find (is_named q) (reverse items) ≡ o → is_named q x ≡ b → option_or o (cond b (Some x) None) ≡ Some h.item
    all o b is named =
        ap (λ p. option_or p (cond b (Some x) None)) (sym is) ∙ ap (λ c. option_or (find (is_named q) (reverse items)) (cond c (Some x) None)) (sym named)
        ∙ sym (find_front (is_named q) x items) ∙ h.last

    by : (o : Option ItemState) (b : Bool) → find (is_named q) (reverse items) ≡ o → is_named q x ≡ b → IsLast g format items seen ⊎ IsFirst g format x items seen
    by (Some z) b is named = inl (record { item = h.item; last = is ∙ all (Some z) b is named; shown = h.shown })
    by None true is named =
        let found : Some x ≡ Some h.item = all None true is named in
        let same : x ≡ h.item = cc in
        inr (ap (record_seen g format) same ∙ h.shown, ap (λ (i : ItemState). find (is_named i.identifier) (reverse items)) same ∙ is)
    by None false is named = let clash : None ≡ Some h.item = all None false is named in cc

is_none_from : (o : Option ItemState) → is_some o ≡ false → o ≡ None
is_none_from None h = refl
is_none_from (Some x) h = cc

last_first : (g : Granularity) (format : Format) (x : ItemState) (items : List ItemState) → find (is_named x.identifier) (reverse items) ≡ None
    → IsLast g format (x ∷ items) (record_seen g format x)
last_first g format x items none = record {
  item = x;
  last =
      find_front (is_named x.identifier) x items
      ∙ ap (λ o. option_or o (cond (is_named x.identifier x) (Some x) None)) none
      ∙ cond-true (is_named x.identifier x) (Some x) None (eq_itself x.identifier);
  shown = refl;
}

kept : (g : Granularity) (format : Format) (items : List ItemState) (seen : SeenRecord) → Member seen (last_of_each (map (record_seen g format) items)) ↔ IsLast g format items seen
kept g format [] seen = (λ h. absurd h, λ h. let none : None ≡ Some h.item = h.last in cc)
kept g format (x ∷ items) seen =
    let rest = kept g format items seen in
    let others : List SeenRecord = map (record_seen g format) items in
    let any : Bool = list_any (is_record_of x.identifier) others in
    cond_both any (last_of_each others) (record_seen g format x ∷ last_of_each others) (λ zs. Member seen zs ↔ IsLast g format (x ∷ items) seen)
    (λ there. (
      (λ h. last_later g format x items seen (rest.0 h)),
      (λ h. elim (last_where g format x items seen h) [
        | inl later ↦ rest.1 later
        | inr here ↦ absurd (false≢true (sym (any_last g format x.identifier items ∙ ap is_some here.1) ∙ there))
      ]),
    ))
    (λ none. (
      (λ h. elim h [
        | inl here ↦
            subst (IsLast g format (x ∷ items)) (sym here)
            (last_first g format x items (is_none_from (find (is_named x.identifier) (reverse items)) (sym (any_last g format x.identifier items) ∙ none)))
        | inr later ↦ last_later g format x items seen (rest.0 later)
      ]),
      (λ h. elim (last_where g format x items seen h) [
        | inl later ↦ inr (rest.1 later)
        | inr here ↦ inl (sym here.0)
      ]),
    ))

-- ---- a copy

pub client_copied : (g : Granularity) (format : Format) (prefix : List ℕ) (state : RepoState) (harvests : List (List ItemState)) → IsWholeCopy prefix state (caught_up_with [] harvests)
    → (seen : SeenRecord) → Contains (last_of_each (map (record_seen g format) (flat_map (λ items. items) harvests))) seen ↔ IsRecordIn g format prefix state seen
unfolding item_named
client_copied g format prefix state harvests copy seen =
    let items : List ItemState = flat_map (λ items. items) harvests in
    let records : List SeenRecord = last_of_each (map (record_seen g format) items) in
    let all = kept g format items seen in (
      (λ h.
          let its = all.0 (member_from records seen h) in
          let found = found_in (is_named its.item.identifier) (caught_up_with [] harvests) its.item (last_stays harvests its.item.identifier ∙ its.last) in
          let there = (copy.members its.item).0 found.0 in
          record { item = its.item; held = there.0; disseminated = there.1; shown = its.shown }),
      (λ h.
          let there = (copy.members h.item).1 (h.held, h.disseminated) in
          let found = named_in h.item.identifier (caught_up_with [] harvests) h.item (listed_apart (caught_up_with [] harvests) copy.listed) there (eq_itself h.item.identifier) in
          contains_from records seen (all.1 (record { item = h.item; last = sym (last_stays harvests h.item.identifier) ∙ found; shown = h.shown }))),
    )
