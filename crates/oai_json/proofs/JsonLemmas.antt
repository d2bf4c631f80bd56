-- The JSON value of a text; arrays and objects as lists.
use Rattle.std.proofs.Common.{◌≡◌, ◌<◌, ◌+◌, ◌-◌, ℕ, suc, Bool, true, false, cond, ◌&&◌, eqb, Option, Some, None, is_some, Result, Ok, Err, List, [], ◌∷◌, map, length, String, Global, BTreeMap, Bor, string_bytes, refl, sym, ap, ◌∙◌, arith}
use Rattle.std.proofs.lemmas.Str.{is_utf8-from_IsUtf8, IsUtf8-from_is_utf8}
use Rattle.std.specs.Prelude.{filter, nat_le, IfOk, OnErr}
use Rattle.std.proofs.lemmas.Bool.Decides.{nat_tests}
use Rattle.std.specs.Option.{option_map}
use Rattle.std.specs.Str.{IsUtf8, is_utf8}
use Rattle.std.specs.List.{list_all}
use Rattle.std.proofs.lemmas.List.{length-map}
use Rattle.std.proofs.lemmas.List.Folds.{list_all-map}
use Rattle.serde_json.specs.Data.{Data}
use Rattle.serde_json.specs.Read.{read}
use Rattle.serde_json.specs.Find.{get, as_array}
use Rattle.serde_json.specs.View.{view, items_view, members_view}
use Rattle.serde_json.specs.declared.value.Value.{Value, Object}
use Rattle.serde_json.proofs.OnLiterals.{serde_json_on_literals}
use Rattle.serde_json.proofs.Views.{view-Object}
use Rattle.oai_json.specs.Json.{TakesMemory, elements_in, elements_of, has_members, has_members_and, json_in, members_in, names_there, size}

-- ---- the value of a text

pub json_in-Some : (text : List ℕ) (d : Data) → IsUtf8 text → read text ≡ Some d → json_in text ≡ Some d
unfolding json_in
json_in-Some text d utf8 is = ap (λ b. cond b (read text) None) (is_utf8-from_IsUtf8 text utf8) ∙ is

no_value : (b : Bool) (o : Option Data) → (b ≡ true → o ≡ None) → cond b o None ≡ None
no_value true o none = none refl
no_value false o none = refl

pub json_in-None : (text : List ℕ) → (IsUtf8 text → read text ≡ None) → json_in text ≡ None
unfolding json_in
json_in-None text none = no_value (is_utf8 text) (read text) (λ utf8. none (IsUtf8-from_is_utf8 text utf8))

-- ---- what memory is taken for

-- the text that bytes are
pub takes-text : (line text : List ℕ) → text ≡ line → IsUtf8 line → 0 < length text → TakesMemory line
takes-text line text same is some = record { text = is_utf8-from_IsUtf8 line is; some = rw (← same) some }

-- what is read of that text is read of the bytes
pub in_bytes : {A E : Type 0} (seen : A → Option Data) (line text : List ℕ) (result : Result A E) → text ≡ line → IsUtf8 line
    → IfOk result (λ v. read text ≡ seen v) → IfOk result (λ v. json_in line ≡ seen v)
unfolding json_in
in_bytes seen line text (Ok v) same utf8 is = ap (λ b. cond b (read line) None) (is_utf8-from_IsUtf8 line utf8) ∙ ap read (sym same) ∙ is
in_bytes seen line text (Err e) same utf8 is = tt

pub taken_for : {A E : Type 0} (line text : List ℕ) (result : Result A E) → text ≡ line → IsUtf8 line
    → OnErr result (0 < length text) → OnErr result (TakesMemory line)
taken_for line text (Ok v) same utf8 some = tt
taken_for line text (Err e) same utf8 some = takes-text line text same utf8 some

-- each text that was read is one in UTF-8, and not empty
none_of_nothing : read [] ≡ None
unfolding serde_json_on_literals
none_of_nothing = refl

None≢Some : (d : Data) → None ≡ Some d → ⊥
None≢Some d is = absurd cc

some_read : (text : List ℕ) (d : Data) → read text ≡ Some d → 0 < length text
some_read [] d is = absurd (None≢Some d (sym none_of_nothing ∙ is))
some_read (b ∷ text) d is = omega arith

json_read : (b : Bool) (o : Option Data) (d : Data) → cond b o None ≡ Some d → (b ≡ true) × (o ≡ Some d)
json_read true o d is = (refl, is)
json_read false o d is = absurd cc

pub takes-read : (text : List ℕ) (d : Data) → json_in text ≡ Some d → TakesMemory text
unfolding json_in
takes-read text d is =
    let p = json_read (is_utf8 text) (read text) d is in
    record { text = p.0; some = some_read text d p.1 }

-- ---- arrays and objects

pub elements_in-items_view : (vs : List Value) → elements_in (items_view vs) ≡ map view vs
elements_in-items_view [] = refl
elements_in-items_view (v ∷ vs) = ap (λ ds. view v ∷ ds) (elements_in-items_view vs)

pub elements_of-Some : (d : Data) (vs : List Value) → Some (items_view vs) ≡ as_array d → elements_of d ≡ Some (map view vs)
unfolding elements_of
elements_of-Some d vs is = ap (option_map elements_in) (sym is) ∙ ap (λ ds. Some ds) (elements_in-items_view vs)

-- a member as it is seen
abbrev pub seen : String Global × Value → List ℕ × Data
seen m = (string_bytes m.0, view m.1)

pub members_in-members_view : (es : List (String Global × Value)) → members_in (members_view es) ≡ map seen es
members_in-members_view [] = refl
members_in-members_view (e ∷ es) = ap (λ ms. seen e ∷ ms) (members_in-members_view es)

pub size-Object : (m : BTreeMap (String Global) Value) → size (view (Object m)) ≡ length m.entries
size-Object m = ap size (view-Object m) ∙ ap length (members_in-members_view m.entries) ∙ length-map m.entries seen

-- the test of the names, where they are borrowed
pub has_members_map : (names : List (Bor (List ℕ))) (d : Data)
    → has_members (map (λ name. name.now) names) d ≡ (eqb (size d) (length names) && list_all (λ name. is_some (get name.now d)) names)
unfolding has_members
has_members_map names d = rw (length-map names (λ (name : Bor (List ℕ)). name.now), list_all-map (λ name. is_some (get name d)) (λ (name : Bor (List ℕ)). name.now) names) refl

-- how many of the names there are, where they are borrowed
counted_more : {A B : Type 0} (b : Bool) (f : A → B) (x : A) (xs : List A) (ys : List B) → length ys ≡ length xs → length (cond b (f x ∷ ys) ys) ≡ length (cond b (x ∷ xs) xs)
counted_more true f x xs ys same = ap (λ n. suc n) same
counted_more false f x xs ys same = same

counted_map : (d : Data) (names : List (Bor (List ℕ)))
    → length (names_there (map (λ name. name.now) names) d) ≡ length (filter (λ (name : Bor (List ℕ)). is_some (get name.now d)) names)
counted_map d [] = refl
counted_map d (name ∷ names) =
    counted_more (is_some (get name.now d)) (λ (name : Bor (List ℕ)). name.now) name (filter (λ (name : Bor (List ℕ)). is_some (get name.now d)) names) (names_there (map (λ name. name.now) names) d)
    (counted_map d names)

-- a sum is tested by a difference
by_difference : (n a b : ℕ) → eqb n (a + b) ≡ (nat_le a n && eqb (n - a) b)
by_difference n a b = grind (arith, nat_tests)

-- the test of the names that each is to have, and of those that some may have
pub has_members_and_map : (names others : List (Bor (List ℕ))) (d : Data)
    → has_members_and (map (λ name. name.now) names) (map (λ name. name.now) others) d
    ≡ (nat_le (length names) (size d) && eqb (size d - length names) (length (filter (λ (name : Bor (List ℕ)). is_some (get name.now d)) others))
    && list_all (λ name. is_some (get name.now d)) names)
unfolding has_members_and
has_members_and_map names others d =
    rw (
      length-map names (λ (name : Bor (List ℕ)). name.now),
      counted_map d others,
      list_all-map (λ name. is_some (get name d)) (λ (name : Bor (List ℕ)). name.now) names,
      by_difference (size d) (length names) (length (filter (λ (name : Bor (List ℕ)). is_some (get name.now d)) others)),
    ) refl
