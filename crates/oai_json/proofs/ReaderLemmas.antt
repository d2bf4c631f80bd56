-- The readers of JSON values undo the writers.
use Rattle.std.proofs.Common.{◌≡◌, ℕ, Option, Some, List, [], ◌∷◌, map, refl, sym, ap, ◌∙◌}
use Rattle.std.specs.Option.{option_map}
use Rattle.serde_json.specs.Data.{Data, null, boolean, number, string, array, object, Items, no_items, item, Members, no_members, member}
use Rattle.serde_json.specs.Find.{as_str, as_array, as_object}
use Rattle.oai_names.specs.Optional.{◌>>=◌, each_of}
use Rattle.oai_json.specs.Json.{array_of, elements_in, elements_of, items_of, members_in, members_of, object_of}
use Rattle.oai_json.proofs.ReadingLemmas.{bind-Some, Some-injective}

-- what the reader takes is what was written, and what was written is read
pub record Undoes {A B : Type 0} (read : A → Option B) (written : B → A) : Type 0 where
  pub takes : (x : A) (y : B) → read x ≡ Some y → x ≡ written y
  pub again : (y : B) → read (written y) ≡ Some y

-- one reader after another
pub then : {A B C : Type 0} (f : A → Option B) (g : B → A) (h : B → Option C) (k : C → B)
    → Undoes f g → Undoes h k → Undoes (λ x. f x >>= h) (λ z. g (k z))
then f g h k first second = record {
  takes = λ x z is. let p = bind-Some (f x) h z is in first.takes x p.0 p.1 ∙ ap g (second.takes p.0 z p.2);
  again = λ z. ap (λ r. r >>= h) (first.again (k z)) ∙ second.again z;
}

each_takes : {A B : Type 0} (f : A → Option B) (g : B → A) → Undoes f g → (xs : List A) (ys : List B) → each_of f xs ≡ Some ys → xs ≡ map g ys
each_takes f g one [] ys is = ap (map g) (Some-injective [] ys is)
each_takes f g one (x ∷ xs) ys is =
    let p = bind-Some (f x) (λ y. each_of f xs >>= λ ys. Some (y ∷ ys)) ys is in
    let q = bind-Some (each_of f xs) (λ ys. Some (p.0 ∷ ys)) ys p.2 in
    ap (λ v. v ∷ xs) (one.takes x p.0 p.1) ∙ ap (λ vs. g p.0 ∷ vs) (each_takes f g one xs q.0 q.1) ∙ ap (map g) (Some-injective (p.0 ∷ q.0) ys q.2)

each_again : {A B : Type 0} (f : A → Option B) (g : B → A) → Undoes f g → (ys : List B) → each_of f (map g ys) ≡ Some ys
each_again f g one [] = refl
each_again f g one (y ∷ ys) =
    ap (λ r. r >>= λ z. each_of f (map g ys) >>= λ zs. Some (z ∷ zs)) (one.again y) ∙ ap (λ r. r >>= λ zs. Some (y ∷ zs)) (each_again f g one ys)

pub each : {A B : Type 0} (f : A → Option B) (g : B → A) → Undoes f g → Undoes (each_of f) (map g)
each f g one = record { takes = each_takes f g one; again = each_again f g one }

-- ---- values

pub text : Undoes as_str string
text = record { takes = takes; again = λ s. refl }
  where
    takes : (d : Data) (s : List ℕ) → as_str d ≡ Some s → d ≡ string s
    takes null s is = absurd cc
    takes (boolean b) s is = absurd cc
    takes (number n) s is = absurd cc
    takes (string t) s is = ap string (Some-injective t s is)
    takes (array ds) s is = absurd cc
    takes (object ms) s is = absurd cc

pub elements_in-items_of : (ds : List Data) → elements_in (items_of ds) ≡ ds
elements_in-items_of [] = refl
elements_in-items_of (d ∷ ds) = ap (λ es. d ∷ es) (elements_in-items_of ds)

pub items_of-elements_in : (ds : Items) → items_of (elements_in ds) ≡ ds
items_of-elements_in no_items = refl
items_of-elements_in (item d ds) = ap (item d) (items_of-elements_in ds)

members_in-members_of : (ms : List (List ℕ × Data)) → members_in (members_of ms) ≡ ms
members_in-members_of [] = refl
members_in-members_of (m ∷ ms) = ap (λ ns. m ∷ ns) (members_in-members_of ms)

members_of-members_in : (ms : Members) → members_of (members_in ms) ≡ ms
members_of-members_in no_members = refl
members_of-members_in (member name d ms) = ap (member name d) (members_of-members_in ms)

pub list : Undoes elements_of array_of
unfolding elements_of
list = record { takes = takes; again = λ ds. ap (λ es. Some es) (elements_in-items_of ds) }
  where
    takes : (d : Data) (ds : List Data) → option_map elements_in (as_array d) ≡ Some ds → d ≡ array_of ds
    takes null ds is = absurd cc
    takes (boolean b) ds is = absurd cc
    takes (number n) ds is = absurd cc
    takes (string t) ds is = absurd cc
    takes (array is') ds is = ap array (sym (items_of-elements_in is')) ∙ ap array_of (Some-injective (elements_in is') ds is)
    takes (object ms) ds is = absurd cc

abbrev pub members_from : Data → Option (List (List ℕ × Data))
members_from d = option_map members_in (as_object d)

pub members : Undoes members_from object_of
members = record { takes = takes; again = λ ms. ap (λ ns. Some ns) (members_in-members_of ms) }
  where
    takes : (d : Data) (ms : List (List ℕ × Data)) → members_from d ≡ Some ms → d ≡ object_of ms
    takes null ms is = absurd cc
    takes (boolean b) ms is = absurd cc
    takes (number n) ms is = absurd cc
    takes (string t) ms is = absurd cc
    takes (array ds) ms is = absurd cc
    takes (object ns) ms is = ap object (sym (members_of-members_in ns)) ∙ ap object_of (Some-injective (members_in ns) ms is)

pub texts : Undoes (each_of as_str) (map string)
texts = each as_str string text
