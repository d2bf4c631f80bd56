-- The order of items by their identifiers, and whether an item has an identifier.
use Rattle.std.proofs.Common.{◌≡◌, ◌∙◌, ℕ, Bool, true, false, List, refl, sym, ap, subst}
use Rattle.std.specs.Cmp.Lexicographic.{slice_cmp}
use Rattle.std.specs.Ordering.{nat_cmp, is_lt, is_eq, ordering_reverse}
use Rattle.std.specs.Str.{bytes_eq}
use Rattle.std.specs.declared.cmp.Ordering.{Ordering}
use Rattle.std.specs.declared.cmp.Ordering.TheVariants.{Less, Equal, Greater}
use Rattle.std.proofs.lemmas.Bool.{false≢true, not-true, not_from_false, false_from_ne_true}
use Rattle.std.proofs.lemmas.Cmp.{nat_list_cmp_total, nat_list_eq_equiv, tied_itself}
use Rattle.std.proofs.lemmas.Map.Text.{is_eq-slice_cmp}
use Rattle.std.proofs.lemmas.Slice.Eq.{bytes_eq-Decides}
use Rattle.oai_item.specs.Item.{ItemState, is_before}
use Rattle.oai_item.specs.Items.{is_named}
use Rattle.oai_item.proofs.OrderLemmas.{is_less}
use Rattle.oai_copy.specs.Copies.{is_listed_before}
use Rattle.oai_copy.specs.Merges.{is_not_behind}

-- ---- texts

pub before-trans : (a b c : List ℕ) → is_before a b ≡ true → is_before b c ≡ true → is_before a c ≡ true
before-trans a b c h g = ap is_lt (nat_list_cmp_total.trans a b c (is_less (slice_cmp nat_cmp a b) h) (is_less (slice_cmp nat_cmp b c) g))

pub before-itself : (a : List ℕ) → is_before a a ≡ false
before-itself a = ap is_lt (tied_itself nat_list_cmp_total a)

left_over : (o p : Ordering) → p ≡ ordering_reverse o → is_eq o ≡ false → is_lt p ≡ false → is_lt o ≡ true
left_over Less p turned other not_before = refl
left_over Equal p turned other not_before = absurd (false≢true (sym other))
left_over Greater p turned other not_before = absurd (false≢true (sym not_before ∙ ap is_lt turned))

-- of two texts that differ, one stands before the other
pub before-other : (a b : List ℕ) → bytes_eq a b ≡ false → is_before b a ≡ false → is_before a b ≡ true
before-other a b other not_before =
    left_over (slice_cmp nat_cmp a b) (slice_cmp nat_cmp b a) (nat_list_cmp_total.antisymm b a) (is_eq-slice_cmp a b ∙ other) not_before

pub eq-turned : (a b : List ℕ) → bytes_eq a b ≡ bytes_eq b a
eq-turned a b = nat_list_eq_equiv.symm a b

pub eq_is : (a b : List ℕ) → bytes_eq a b ≡ true → a ≡ b
eq_is a b h = (bytes_eq-Decides a b).0 h

pub eq_itself : (a : List ℕ) → bytes_eq a a ≡ true
eq_itself a = (bytes_eq-Decides a a).1 refl

-- ---- items

-- an item that stands before another has another identifier
pub before-apart : (a b : ItemState) → is_listed_before a b ≡ true → is_named a.identifier b ≡ false
before-apart a b h =
    false_from_ne_true (is_named a.identifier b) (λ same. false≢true (sym (before-itself a.identifier) ∙ subst (λ (t : List ℕ). is_before a.identifier t ≡ true) (eq_is b.identifier a.identifier same) h))

pub listed-trans : (a b c : ItemState) → is_listed_before a b ≡ true → is_listed_before b c ≡ true → is_listed_before a c ≡ true
listed-trans a b c h g = before-trans a.identifier b.identifier c.identifier h g

-- so it is not behind it
pub not_behind : (a b : ItemState) → is_listed_before a b ≡ true → is_not_behind a b ≡ true
not_behind a b h =
    not_from_false (is_listed_before b a) (false_from_ne_true (is_listed_before b a) (λ back. false≢true (sym (before-itself a.identifier) ∙ listed-trans a b a h back)))

-- an item that is not behind another stands before it, or has its identifier
pub before-unnamed : (a b : ItemState) → is_named a.identifier b ≡ false → is_not_behind a b ≡ true → is_listed_before a b ≡ true
before-unnamed a b other h = before-other a.identifier b.identifier (eq-turned a.identifier b.identifier ∙ other) (not-true (is_listed_before b a) h)

-- what is before an item that is not behind a third is not behind that one
pub not_behind-after : (a b c : ItemState) → is_listed_before a b ≡ true → is_not_behind b c ≡ true → is_not_behind a c ≡ true
not_behind-after a b c h g =
    not_from_false (is_listed_before c a) (false_from_ne_true (is_listed_before c a) (λ back. false≢true (sym (not-true (is_listed_before c b) g) ∙ listed-trans c a b back h)))

-- what is not behind an item that is before a third is before that one
by_test : (a b c : ItemState) (same : Bool) → is_named a.identifier b ≡ same → is_not_behind a b ≡ true → is_listed_before b c ≡ true → is_listed_before a c ≡ true
by_test a b c true e h g = subst (λ (t : List ℕ). is_before t c.identifier ≡ true) (eq_is b.identifier a.identifier e) g
by_test a b c false e h g = listed-trans a b c (before-unnamed a b e h) g

pub before-after : (a b c : ItemState) → is_not_behind a b ≡ true → is_listed_before b c ≡ true → is_listed_before a c ≡ true
before-after a b c h g = by_test a b c (is_named a.identifier b) refl h g
