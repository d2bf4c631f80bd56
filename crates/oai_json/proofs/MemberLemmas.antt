-- A member of a kind is read where it was written so, and no other way.
use Rattle.std.proofs.Common.{◌≡◌, ◌∙◌, ◌+◌, ℕ, Bool, true, false, ◌&&◌, eqb, Option, Some, None, List, length, map, refl, ap}
use Rattle.std.proofs.lemmas.Bool.{eqb-true}
use Rattle.std.specs.Option.{option_map}
use Rattle.serde_json.specs.Data.{Data, Num, array, boolean, null, number, object, string}
use Rattle.serde_json.specs.Find.{get, as_number, as_str, as_u64}
use Rattle.oai_names.specs.Optional.{◌>>=◌, each_of}
use Rattle.oai_json.specs.Json.{array_of, elements_at, elements_of, has_each, has_members, has_members_and, names_there, number_at, size, text_at, texts_at}
use Rattle.oai_json.proofs.ReaderLemmas.{Undoes, list, text, texts}
use Rattle.oai_json.proofs.ReadingLemmas.{Some-injective, bind-Some}

pub member_takes : {B : Type 0} (name : List ℕ) (d : Data) (f : Data → Option B) (g : B → Data) (y : B)
    → Undoes f g → (get name d >>= f) ≡ Some y → get name d ≡ Some (g y)
member_takes name d f g y one is =
    let p = bind-Some (get name d) f y is in
    p.1 ∙ ap (λ e. Some e) (one.takes p.0 y p.2)

pub member_again : {B : Type 0} (name : List ℕ) (d : Data) (f : Data → Option B) (g : B → Data) (y : B)
    → Undoes f g → get name d ≡ Some (g y) → (get name d >>= f) ≡ Some y
member_again name d f g y one is = ap (λ r. r >>= f) is ∙ one.again y

-- ---- strings

pub text_takes : (name : List ℕ) (d : Data) (t : List ℕ) → text_at name d ≡ Some t → get name d ≡ Some (string t)
unfolding text_at
text_takes name d t is = member_takes name d as_str string t text is

pub text_again : (name : List ℕ) (d : Data) (t : List ℕ) → get name d ≡ Some (string t) → text_at name d ≡ Some t
unfolding text_at
text_again name d t is = member_again name d as_str string t text is

-- ---- numbers

as_number-takes : (d : Data) (n : Option ℕ) → option_map as_u64 (as_number d) ≡ Some n → (m : Num) × (d ≡ number m) × (as_u64 m ≡ n)
as_number-takes null n is = absurd cc
as_number-takes (boolean b) n is = absurd cc
as_number-takes (number m) n is = (m, refl, Some-injective (as_u64 m) n is)
as_number-takes (string s) n is = absurd cc
as_number-takes (array ds) n is = absurd cc
as_number-takes (object ms) n is = absurd cc

number_in : (o : Option Data) (n : Option ℕ) → option_map as_u64 (o >>= as_number) ≡ Some n → (m : Num) × (o ≡ Some (number m)) × (as_u64 m ≡ n)
number_in None n is = absurd cc
number_in (Some d) n is = let p = as_number-takes d n is in (p.0, ap (λ e. Some e) p.1, p.2)

pub number_takes : (name : List ℕ) (d : Data) (n : Option ℕ) → number_at name d ≡ Some n → (m : Num) × (get name d ≡ Some (number m)) × (as_u64 m ≡ n)
unfolding number_at
number_takes name d n is = number_in (get name d) n is

pub number_again : (name : List ℕ) (d : Data) (n : Option ℕ) → ((m : Num) × (get name d ≡ Some (number m)) × (as_u64 m ≡ n)) → number_at name d ≡ Some n
unfolding number_at
number_again name d n is = ap (λ o. option_map as_u64 (o >>= as_number)) is.1 ∙ ap (λ m. Some m) is.2

-- ---- lists

pub elements_take : (name : List ℕ) (d : Data) (ds : List Data) → elements_at name d ≡ Some ds → get name d ≡ Some (array_of ds)
unfolding elements_at
elements_take name d ds is = member_takes name d elements_of array_of ds list is

pub elements_again : (name : List ℕ) (d : Data) (ds : List Data) → get name d ≡ Some (array_of ds) → elements_at name d ≡ Some ds
unfolding elements_at
elements_again name d ds is = member_again name d elements_of array_of ds list is

pub texts_take : (name : List ℕ) (d : Data) (ts : List (List ℕ)) → texts_at name d ≡ Some ts → get name d ≡ Some (array_of (map string ts))
unfolding texts_at
texts_take name d ts is =
    let p = bind-Some (elements_at name d) (each_of as_str) ts is in
    elements_take name d p.0 p.1 ∙ ap (λ ds. Some (array_of ds)) (texts.takes p.0 ts p.2)

pub texts_are : (name : List ℕ) (d : Data) (ts : List (List ℕ)) → get name d ≡ Some (array_of (map string ts)) → texts_at name d ≡ Some ts
unfolding texts_at
texts_are name d ts is = ap (λ o. o >>= each_of as_str) (elements_again name d (map string ts) is) ∙ texts.again ts

-- ---- how many members

both : (a b : Bool) → (a && b) ≡ true → a ≡ true
both true b is = refl
both false b is = absurd cc

-- an object of exactly these members is of their number
pub of_size : (names : List (List ℕ)) (d : Data) → has_members names d ≡ true → size d ≡ length names
unfolding has_members
of_size names d is = eqb-true _ _ (both (eqb (size d) (length names)) (has_each names d) is)

-- an object of another number of members
pub of_another_size : (names : List (List ℕ)) (d : Data) (n : ℕ) → size d ≡ n → eqb n (length names) ≡ false → has_members names d ≡ false
unfolding has_members
of_another_size names d n is other = ap (λ m. eqb m (length names) && has_each names d) is ∙ ap (λ b. b && has_each names d) other

-- an object of these members, and those of the others that it has, is of their number
pub of_size_and : (names others : List (List ℕ)) (d : Data) → has_members_and names others d ≡ true → size d ≡ length names + length (names_there others d)
unfolding has_members_and
of_size_and names others d is = eqb-true _ _ (both (eqb (size d) (length names + length (names_there others d))) (has_each names d) is)
