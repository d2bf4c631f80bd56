-- Items taken out of a list one after another.
use Rattle.std.proofs.Common.{◌≡◌, ◌∙◌, ℕ, ◌+◌, ◌<◌, Bool, true, false, not, ◌||◌, cond, List, [], ◌∷◌, ◌++◌, length, take, get_or, refl, sym, ap}
use Rattle.std.specs.Prelude.{filter}
use Rattle.std.proofs.lemmas.Bool.{cond-true, cond-false}
use Rattle.std.proofs.lemmas.List.{take_more}
use Rattle.std.proofs.lemmas.List.Folds.{list_any-append}
use Rattle.oai_item.specs.Item.{ItemState}
use Rattle.oai_item.specs.Items.{is_at, without_at}
use Rattle.oai_catalogue.specs.Store.{is_at_one_of, without_each}

either : (a b : Bool) → (a || (b || false)) ≡ (a || b)
either true b = refl
either false true = refl
either false false = refl

-- nothing is taken out
pub without_each-none : (items : List ItemState) → without_each [] items ≡ items
unfolding without_each
without_each-none [] = refl
without_each-none (x ∷ items) = ap (λ (xs : List ItemState). x ∷ xs) (without_each-none items)

-- one more is taken out
pub without_each-next : (gone : List ItemState) (x : ItemState) (items : List ItemState)
    → without_each (gone ++ x ∷ []) items ≡ without_at x.stamp x.identifier (without_each gone items)
unfolding without_each without_at
without_each-next gone x [] = refl
without_each-next gone x (item ∷ items) =
    let test : is_at_one_of (gone ++ x ∷ []) item ≡ (is_at_one_of gone item || is_at x.stamp x.identifier item) =
    list_any-append (λ (other : ItemState). is_at other.stamp other.identifier item) gone (x ∷ []) ∙ either (is_at_one_of gone item) (is_at x.stamp x.identifier item) in
    ap (λ (b : Bool). cond (not b) (item ∷ new) new) test ∙ by_test (is_at_one_of gone item) (is_at x.stamp x.identifier item) refl (without_each-next gone x items)
  where
    new : List ItemState
    new = filter (λ i. not (is_at_one_of (gone ++ x ∷ []) i)) items

    old : List ItemState
    old = filter (λ i. not (is_at_one_of gone i)) items

    left : List ItemState → List ItemState
    left xs = filter (λ i. not (is_at x.stamp x.identifier i)) xs

    by_test : (a b : Bool) → is_at x.stamp x.identifier item ≡ b → new ≡ left old
        → cond (not (a || b)) (item ∷ new) new ≡ left (cond (not a) (item ∷ old) old)
    by_test true b is h = h
    by_test false true is h = h ∙ sym (cond-false (not (is_at x.stamp x.identifier item)) (item ∷ left old) (left old) (ap not is))
    by_test false false is h = ap (λ (xs : List ItemState). item ∷ xs) h ∙ sym (cond-true (not (is_at x.stamp x.identifier item)) (item ∷ left old) (left old) (ap not is))

-- one is taken out first
pub without_each-first : (x : ItemState) (gone items : List ItemState) → without_each (x ∷ gone) items ≡ without_each gone (without_at x.stamp x.identifier items)
unfolding without_each without_at
without_each-first x gone [] = refl
without_each-first x gone (item ∷ items) = by_test (is_at x.stamp x.identifier item) (is_at_one_of gone item) refl (without_each-first x gone items)
  where
    new : List ItemState
    new = filter (λ i. not (is_at_one_of (x ∷ gone) i)) items

    old : List ItemState
    old = filter (λ i. not (is_at x.stamp x.identifier i)) items

    left : List ItemState → List ItemState
    left xs = filter (λ i. not (is_at_one_of gone i)) xs

    by_test : (a b : Bool) → is_at_one_of gone item ≡ b → new ≡ left old
        → cond (not (a || b)) (item ∷ new) new ≡ left (cond (not a) (item ∷ old) old)
    by_test true b is h = h
    by_test false true is h = h ∙ sym (cond-false (not (is_at_one_of gone item)) (item ∷ left old) (left old) (ap not is))
    by_test false false is h = ap (λ (xs : List ItemState). item ∷ xs) h ∙ sym (cond-true (not (is_at_one_of gone item)) (item ∷ left old) (left old) (ap not is))

-- at the element i of those that go
pub without_each-at : (gone : List ItemState) (i : ℕ) (d : ItemState) (items : List ItemState) → i < length gone
    → without_each (take (i + 1) gone) items ≡ without_at (get_or gone i d).stamp (get_or gone i d).identifier (without_each (take i gone) items)
without_each-at gone i d items within =
    ap (λ (xs : List ItemState). without_each xs items) (take_more gone i d within) ∙ without_each-next (take i gone) (get_or gone i d) items
