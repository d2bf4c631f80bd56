-- The shape of a value is the one that it is written as; and a value that is of none has none.
use Rattle.std.proofs.Common.{◌≡◌, ◌≤◌, ◌+◌, ℕ, Bool, ◌&&◌, eqb, true, false, cond, Option, Some, None, IsSome, List, [], ◌∷◌, length, codes, refl, sym, ap, subst, is_some, ◌∙◌, arith}
use Rattle.std.proofs.lemmas.Bool.Decides.{nat_tests}
use Rattle.std.specs.Ordering.{is_eq, match_ordering, nat_cmp}
use Rattle.std.specs.Cmp.Lexicographic.{slice_cmp}
use Rattle.std.specs.List.{IsDistinct}
use Rattle.std.specs.Str.{bytes_eq}
use Rattle.std.specs.declared.cmp.Ordering.{Ordering}
use Rattle.std.specs.declared.cmp.Ordering.TheVariants.{Less, Equal, Greater}
use Rattle.std.proofs.lemmas.Map.Text.{is_eq-slice_cmp}
use Rattle.std.proofs.lemmas.Slice.Eq.{bytes_eq-Decides}
use Rattle.serde_json.specs.Data.{Data, array, boolean, member, no_members, null, number, object, string}
use Rattle.serde_json.specs.Find.{get}
use Rattle.oai_item.specs.declared.forms.Forms.{Forms}
use Rattle.oai_item.specs.declared.forms.Forms.TheVariants.{Elements, Fields}
use Rattle.oai_names.specs.Optional.{◌>>=◌, tested}
use Rattle.oai_json.specs.Json.{has_each, has_members, has_members_and, names_there, size, text_at, texts_at}
use Rattle.oai_deposit.specs.Lines.{LineAbout, LineRecord, Shape, abouts_at, abouts_if_there, abouts_of, are_records_of, are_about_records, has_deposit_members, optional_members, deposits, puts, put_shape, put_members, has_put_members, deletes, purges, purge_shape, purge_members, adds_set, records_at, records_of, deposit_shape, deposit_members, deletion_shape, deletion_members, set_shape, set_members, shape_of}
use Rattle.oai_deposit.specs.Shapes.{written_records, AreAbouts, IsDeposit, IsPut, IsDeletion, IsPurge, IsNewSet, IsShape, ShapeLaw}
use Rattle.oai_json.proofs.MemberLemmas.{of_another_size, of_size, of_size_and, text_again, text_takes, texts_are, texts_take}
use Rattle.oai_deposit.proofs.CountLemmas.{as_many}
use Rattle.oai_deposit.proofs.ReaderLemmas.{abouts, records}
use Rattle.oai_json.proofs.ReadingLemmas.{Some-injective, bind-Some}

-- ---- members

records_take : (forms : Forms) (d : Data) (rs : List LineRecord) → records_at forms d ≡ Some rs
    → (get (codes "records") d ≡ Some (written_records rs)) × (are_records_of forms rs ≡ true)
unfolding records_at
records_take forms d rs is =
    let p = bind-Some (get (codes "records") d) (records_of forms) rs is in
    (p.1 ∙ ap (λ e. Some e) ((records forms).takes p.0 rs p.2), (records forms).is_good p.0 rs p.2)

records_again : (forms : Forms) (d : Data) (rs : List LineRecord) → get (codes "records") d ≡ Some (written_records rs) → are_records_of forms rs ≡ true
    → records_at forms d ≡ Some rs
unfolding records_at
records_again forms d rs is formed = ap (λ r. r >>= records_of forms) is ∙ (records forms).again rs formed

if_there_takes : (o : Option Data) (ts : List LineAbout) → abouts_if_there o ≡ Some ts → AreAbouts ts o
if_there_takes None ts is = sym (Some-injective [] ts is)
if_there_takes (Some d) ts is = abouts.takes d ts is

if_there_again : (o : Option Data) (ts : List LineAbout) → AreAbouts ts o → abouts_if_there o ≡ Some ts
if_there_again None ts is = ap (λ (xs : List LineAbout). Some xs) (sym is)
if_there_again (Some d) ts is = ap abouts_of is ∙ abouts.again ts

test_passed : {A : Type 0} (b : Bool) (x y : A) → cond b (Some x) None ≡ Some y → (b ≡ true) × (x ≡ y)
test_passed true x y is = (refl, Some-injective x y is)
test_passed false x y is = absurd cc

abouts_take : (rs : List LineRecord) (d : Data) (ts : List LineAbout) → abouts_at rs d ≡ Some ts → AreAbouts ts (get (codes "about") d) × (are_about_records rs ts ≡ true)
unfolding abouts_at
abouts_take rs d ts is =
    let p = bind-Some (abouts_if_there (get (codes "about") d)) (tested (are_about_records rs)) ts is in
    let q = test_passed (are_about_records rs p.0) p.0 ts p.2 in (
      subst (λ (xs : List LineAbout). AreAbouts xs (get (codes "about") d)) q.1 (if_there_takes (get (codes "about") d) p.0 p.1),
      ap (are_about_records rs) (sym q.1) ∙ q.0,
    )

abouts_again : (rs : List LineRecord) (d : Data) (ts : List LineAbout) → AreAbouts ts (get (codes "about") d) → are_about_records rs ts ≡ true → abouts_at rs d ≡ Some ts
unfolding abouts_at
abouts_again rs d ts is under =
    ap (λ r. r >>= tested (are_about_records rs)) (if_there_again (get (codes "about") d) ts is) ∙ ap (λ b. cond b (Some ts) None) under

-- ---- a deposit

-- so many members, of which one may be missing
abbrev IsSized : Forms → Data → Type 0
IsSized forms d = size d ≡ 3 + length (names_there (optional_members forms) d)

deposit_takes : (forms : Forms) (d : Data) (shape : Shape) → IsSized forms d → deposit_shape forms d ≡ Some shape → IsShape forms shape d
unfolding deposit_shape
deposit_takes forms d shape sized is =
    let p = bind-Some (text_at (codes "deposit") d) (λ i. texts_at (codes "sets") d >>= λ s. records_at forms d >>= λ r. abouts_at r d >>= λ a. Some (deposits i s r a)) shape is in
    let q = bind-Some (texts_at (codes "sets") d) (λ s. records_at forms d >>= λ r. abouts_at r d >>= λ a. Some (deposits p.0 s r a)) shape p.2 in
    let r = bind-Some (records_at forms d) (λ r. abouts_at r d >>= λ a. Some (deposits p.0 q.0 r a)) shape q.2 in
    let a = bind-Some (abouts_at r.0 d) (λ a. Some (deposits p.0 q.0 r.0 a)) shape r.2 in
    let taken = records_take forms d r.0 r.1 in
    let about = abouts_take r.0 d a.0 a.1 in
    let made : IsDeposit forms p.0 q.0 r.0 a.0 d = record {
      deposit = text_takes (codes "deposit") d p.0 p.1;
      sets = texts_take (codes "sets") d q.0 q.1;
      records = taken.0;
      about = about.0;
      under = about.1;
      formed = taken.1;
      no_other = sized;
    } in
    subst (λ (c : Shape). IsShape forms c d) {x = deposits p.0 q.0 r.0 a.0} (Some-injective (deposits p.0 q.0 r.0 a.0) shape a.2) made

deposit_again : (forms : Forms) (d : Data) (i : List ℕ) (s : List (List ℕ)) (r : List LineRecord) (a : List LineAbout) → IsDeposit forms i s r a d
    → deposit_shape forms d ≡ Some (deposits i s r a)
unfolding deposit_shape
deposit_again forms d i s r a is =
    ap (λ x. x >>= λ i. texts_at (codes "sets") d >>= λ s. records_at forms d >>= λ r. abouts_at r d >>= λ a. Some (deposits i s r a))
    (text_again (codes "deposit") d i is.deposit)
    ∙ ap (λ x. x >>= λ s. records_at forms d >>= λ r. abouts_at r d >>= λ a. Some (deposits i s r a))
    (texts_are (codes "sets") d s is.sets)
    ∙ ap (λ x. x >>= λ r. abouts_at r d >>= λ a. Some (deposits i s r a)) (records_again forms d r is.records is.formed)
    ∙ ap (λ x. x >>= λ a. Some (deposits i s r a)) (abouts_again r d a is.about is.under)

-- what is read of each of its members
pub deposit_found : (forms : Forms) (d : Data) (i : List ℕ) (s : List (List ℕ)) (r : List LineRecord) → text_at (codes "deposit") d ≡ Some i → texts_at (codes "sets") d ≡ Some s
    → records_at forms d ≡ Some r → deposit_shape forms d ≡ (abouts_at r d >>= λ a. Some (deposits i s r a))
unfolding deposit_shape
deposit_found forms d i s r one two three =
    ap (λ x. x >>= λ i. texts_at (codes "sets") d >>= λ s. records_at forms d >>= λ r. abouts_at r d >>= λ a. Some (deposits i s r a)) one
    ∙ ap (λ x. x >>= λ s. records_at forms d >>= λ r. abouts_at r d >>= λ a. Some (deposits i s r a)) two
    ∙ ap (λ x. x >>= λ r. abouts_at r d >>= λ a. Some (deposits i s r a)) three

pub put_found : (forms : Forms) (d : Data) (i : List ℕ) (s : List (List ℕ)) (r : List LineRecord) → text_at (codes "put") d ≡ Some i → texts_at (codes "sets") d ≡ Some s
    → records_at forms d ≡ Some r → put_shape forms d ≡ (abouts_at r d >>= λ a. Some (puts i s r a))
unfolding put_shape
put_found forms d i s r one two three =
    ap (λ x. x >>= λ i. texts_at (codes "sets") d >>= λ s. records_at forms d >>= λ r. abouts_at r d >>= λ a. Some (puts i s r a)) one
    ∙ ap (λ x. x >>= λ s. records_at forms d >>= λ r. abouts_at r d >>= λ a. Some (puts i s r a)) two
    ∙ ap (λ x. x >>= λ r. abouts_at r d >>= λ a. Some (puts i s r a)) three

-- the members of a shape are there, in such a number
same_number : (n : ℕ) → eqb n n ≡ true
same_number n = grind (arith, nat_tests)

three_there : (n m : ℕ) (a b c : Option Data) (x y z : Data) → n ≡ m → a ≡ Some x → b ≡ Some y → c ≡ Some z
    → (eqb n m && (is_some a && (is_some b && (is_some c && true)))) ≡ true
three_there n m a b c x y z same first second third = rw (same, first, second, third, same_number m) refl

are_deposit : (forms : Forms) (d : Data) (i : List ℕ) (s : List (List ℕ)) (r : List LineRecord) (a : List LineAbout) → IsDeposit forms i s r a d → has_deposit_members forms d ≡ true
unfolding has_members_and
are_deposit forms d i s r a is =
    three_there (size d) (3 + length (names_there (optional_members forms) d)) (get (codes "deposit") d) (get (codes "sets") d) (get (codes "records") d) _ _ _
    is.no_other is.deposit is.sets is.records

-- ---- a put

-- its members make it one only where a record may be an element
allowed : (forms : Forms) (d : Data) → has_put_members forms d ≡ true → (forms ≡ Elements) × IsSized forms d
allowed Fields d is = absurd cc
allowed Elements d is = (refl, of_size_and put_members (optional_members Elements) d is)

any_forms : (rs : List LineRecord) → are_records_of Elements rs ≡ true
any_forms [] = refl
any_forms (r ∷ rs) = any_forms rs

put_takes : (forms : Forms) (d : Data) (shape : Shape) → forms ≡ Elements → IsSized forms d → put_shape forms d ≡ Some shape → IsShape forms shape d
unfolding put_shape
put_takes forms d shape elements sized is =
    let p = bind-Some (text_at (codes "put") d) (λ i. texts_at (codes "sets") d >>= λ s. records_at forms d >>= λ r. abouts_at r d >>= λ a. Some (puts i s r a)) shape is in
    let q = bind-Some (texts_at (codes "sets") d) (λ s. records_at forms d >>= λ r. abouts_at r d >>= λ a. Some (puts p.0 s r a)) shape p.2 in
    let r = bind-Some (records_at forms d) (λ r. abouts_at r d >>= λ a. Some (puts p.0 q.0 r a)) shape q.2 in
    let a = bind-Some (abouts_at r.0 d) (λ a. Some (puts p.0 q.0 r.0 a)) shape r.2 in
    let about = abouts_take r.0 d a.0 a.1 in
    let made : IsPut forms p.0 q.0 r.0 a.0 d = record {
      put = text_takes (codes "put") d p.0 p.1;
      sets = texts_take (codes "sets") d q.0 q.1;
      records = (records_take forms d r.0 r.1).0;
      about = about.0;
      under = about.1;
      allowed = elements;
      no_other = sized;
    } in
    subst (λ (c : Shape). IsShape forms c d) {x = puts p.0 q.0 r.0 a.0} (Some-injective (puts p.0 q.0 r.0 a.0) shape a.2) made

put_again : (forms : Forms) (d : Data) (i : List ℕ) (s : List (List ℕ)) (r : List LineRecord) (a : List LineAbout) → IsPut forms i s r a d → put_shape forms d ≡ Some (puts i s r a)
unfolding put_shape
put_again forms d i s r a is =
    let formed : are_records_of forms r ≡ true = subst (λ (f : Forms). are_records_of f r ≡ true) (sym is.allowed) (any_forms r) in
    ap (λ x. x >>= λ i. texts_at (codes "sets") d >>= λ s. records_at forms d >>= λ r. abouts_at r d >>= λ a. Some (puts i s r a))
    (text_again (codes "put") d i is.put)
    ∙ ap (λ x. x >>= λ s. records_at forms d >>= λ r. abouts_at r d >>= λ a. Some (puts i s r a))
    (texts_are (codes "sets") d s is.sets)
    ∙ ap (λ x. x >>= λ r. abouts_at r d >>= λ a. Some (puts i s r a)) (records_again forms d r is.records formed)
    ∙ ap (λ x. x >>= λ a. Some (puts i s r a)) (abouts_again r d a is.about is.under)

put_members_there : (forms : Forms) (d : Data) → forms ≡ Elements → has_members_and put_members (optional_members forms) d ≡ true → has_put_members forms d ≡ true
put_members_there Fields d elements is = absurd cc
put_members_there Elements d elements is = is

are_put : (forms : Forms) (d : Data) (i : List ℕ) (s : List (List ℕ)) (r : List LineRecord) (a : List LineAbout) → IsPut forms i s r a d → has_put_members forms d ≡ true
unfolding has_members_and
are_put forms d i s r a is =
    put_members_there forms d is.allowed
    (three_there (size d) (3 + length (names_there (optional_members forms) d)) (get (codes "put") d) (get (codes "sets") d) (get (codes "records") d) _ _ _
    is.no_other is.put is.sets is.records)

some_there : {o : Option Data} {x : Data} → o ≡ Some x → IsSome o
some_there {x = x} is = subst (λ (o : Option Data). IsSome o) (sym is) refl

four_names : IsDistinct bytes_eq (codes "put" ∷ codes "sets" ∷ codes "records" ∷ codes "deposit" ∷ [])
unfolding IsDistinct
four_names = ((refl, (refl, (refl, tt))), ((refl, (refl, tt)), ((refl, tt), (tt, tt))))

five_names : IsDistinct bytes_eq (codes "put" ∷ codes "sets" ∷ codes "records" ∷ codes "about" ∷ codes "deposit" ∷ [])
unfolding IsDistinct
five_names = ((refl, (refl, (refl, (refl, tt)))), ((refl, (refl, (refl, tt))), ((refl, (refl, tt)), ((refl, tt), (tt, tt)))))

-- so many members, where one is missing and where it is there
abbrev many_with : Option Data → ℕ
many_with o = 3 + length (cond (is_some o) (codes "about" ∷ []) [])

-- an object of the members of a put has none of a deposit
no_other_there : (d : Data) (o a : Option Data) (x y z : Data) → size d ≡ many_with a → get (codes "put") d ≡ Some x → get (codes "sets") d ≡ Some y
    → get (codes "records") d ≡ Some z → get (codes "about") d ≡ a → get (codes "deposit") d ≡ o → is_some o ≡ false
no_other_there d None a x y z sized put sets all about is = refl
no_other_there d (Some w) None x y z sized put sets all about is =
    let four = as_many (codes "put" ∷ codes "sets" ∷ codes "records" ∷ codes "deposit" ∷ []) d four_names
    (some_there put, (some_there sets, (some_there all, (some_there is, tt)))) in
    absurd (omega (arith, four, sized))
no_other_there d (Some w) (Some v) x y z sized put sets all about is =
    let five = as_many (codes "put" ∷ codes "sets" ∷ codes "records" ∷ codes "about" ∷ codes "deposit" ∷ []) d five_names
    (some_there put, (some_there sets, (some_there all, (some_there about, (some_there is, tt))))) in
    absurd (omega (arith, five, sized))

sized_with : (forms : Forms) (d : Data) → forms ≡ Elements → IsSized forms d → size d ≡ many_with (get (codes "about") d)
sized_with Fields d elements is = absurd cc
sized_with Elements d elements is = is

no_deposit : (forms : Forms) (d : Data) (i : List ℕ) (s : List (List ℕ)) (r : List LineRecord) (a : List LineAbout) → IsPut forms i s r a d → has_deposit_members forms d ≡ false
unfolding has_members_and
no_deposit forms d i s r a is =
    ap (λ (b : Bool). eqb (size d) (3 + length (names_there (optional_members forms) d)) && (b && (is_some (get (codes "sets") d) && (is_some (get (codes "records") d) && true))))
    (no_other_there d (get (codes "deposit") d) (get (codes "about") d) _ _ _ (sized_with forms d is.allowed is.no_other) is.put is.sets is.records refl refl)
    ∙ none (eqb (size d) (3 + length (names_there (optional_members forms) d)))
  where
    none : (b : Bool) → (b && false) ≡ false
    none true = refl
    none false = refl

-- with `Fields` nothing is given about a record
four_of_deposit : IsDistinct bytes_eq (codes "deposit" ∷ codes "sets" ∷ codes "records" ∷ codes "about" ∷ [])
unfolding IsDistinct
four_of_deposit = ((refl, (refl, (refl, tt))), ((refl, (refl, tt)), ((refl, tt), (tt, tt))))

pub no_about : (d : Data) (i : List ℕ) (s : List (List ℕ)) (r : List LineRecord) (a : List LineAbout) → IsDeposit Fields i s r a d → a ≡ []
no_about d i s r a is = by_member (get (codes "about") d) refl is.about
  where
    by_member : (o : Option Data) → get (codes "about") d ≡ o → AreAbouts a o → a ≡ []
    by_member None found none = none
    by_member (Some e) found some =
        let four = as_many (codes "deposit" ∷ codes "sets" ∷ codes "records" ∷ codes "about" ∷ []) d four_of_deposit
        (some_there is.deposit, (some_there is.sets, (some_there is.records, (some_there found, tt)))) in
        let three : size d ≡ 3 = is.no_other in
        absurd (omega (arith, four, three))

-- ---- a deletion

deletion_takes : (forms : Forms) (d : Data) (shape : Shape) → size d ≡ 1 → deletion_shape d ≡ Some shape → IsShape forms shape d
unfolding deletion_shape
deletion_takes forms d shape one is =
    let p = bind-Some (text_at (codes "delete") d) (λ i. Some (deletes i)) shape is in
    let made : IsDeletion p.0 d = record { delete = text_takes (codes "delete") d p.0 p.1; no_other = one } in
    subst (λ (c : Shape). IsShape forms c d) {x = deletes p.0} (Some-injective (deletes p.0) shape p.2) made

deletion_again : (d : Data) (i : List ℕ) → IsDeletion i d → deletion_shape d ≡ Some (deletes i)
unfolding deletion_shape
deletion_again d i is = ap (λ x. x >>= λ i. Some (deletes i)) (text_again (codes "delete") d i is.delete)

one_there : (n : ℕ) (a : Option Data) (x : Data) → n ≡ 1 → a ≡ Some x → (eqb n 1 && (is_some a && true)) ≡ true
one_there n a x one first = rw (one, first) refl

are_deletion : (d : Data) (i : List ℕ) → IsDeletion i d → has_members deletion_members d ≡ true
unfolding has_members
are_deletion d i is = one_there (size d) (get (codes "delete") d) _ is.no_other is.delete

-- ---- a purge

purge_takes : (forms : Forms) (d : Data) (shape : Shape) → size d ≡ 1 → purge_shape d ≡ Some shape → IsShape forms shape d
unfolding purge_shape
purge_takes forms d shape one is =
    let p = bind-Some (text_at (codes "purge") d) (λ b. Some (purges b)) shape is in
    let made : IsPurge p.0 d = record { purge = text_takes (codes "purge") d p.0 p.1; no_other = one } in
    subst (λ (c : Shape). IsShape forms c d) {x = purges p.0} (Some-injective (purges p.0) shape p.2) made

purge_again : (d : Data) (b : List ℕ) → IsPurge b d → purge_shape d ≡ Some (purges b)
unfolding purge_shape
purge_again d b is = ap (λ x. x >>= λ b. Some (purges b)) (text_again (codes "purge") d b is.purge)

are_purge : (d : Data) (b : List ℕ) → IsPurge b d → has_members purge_members d ≡ true
unfolding has_members
are_purge d b is = one_there (size d) (get (codes "purge") d) _ is.no_other is.purge

-- an object of one member has no member of another name
found_there : (o : Ordering) (x y : Data) → match_ordering o None (Some x) None ≡ Some y → o ≡ Equal
found_there Less x y is = cc
found_there Equal x y is = refl
found_there Greater x y is = cc

name_is : (k l : List ℕ) → slice_cmp nat_cmp k l ≡ Equal → k ≡ l
name_is k l is = (bytes_eq-Decides k l).0 (sym (is_eq-slice_cmp k l) ∙ ap is_eq is)

no_deletion_member : (d : Data) (x : Data) → size d ≡ 1 → get (codes "purge") d ≡ Some x → get (codes "delete") d ≡ None
no_deletion_member null x one is = cc
no_deletion_member (boolean b) x one is = cc
no_deletion_member (number n) x one is = cc
no_deletion_member (string s) x one is = cc
no_deletion_member (array ds) x one is = cc
no_deletion_member (object no_members) x one is = cc
no_deletion_member (object (member l e no_members)) x one is =
    let name : codes "purge" ≡ l = name_is (codes "purge") l (found_there (slice_cmp nat_cmp (codes "purge") l) e x is) in
    ap (λ (m : List ℕ). match_ordering (slice_cmp nat_cmp (codes "delete") m) None (Some e) None) (sym name)
no_deletion_member (object (member l e (member k f ms))) x one is = absurd (omega (arith, one))

no_deletion : (d : Data) (b : List ℕ) → IsPurge b d → has_members deletion_members d ≡ false
unfolding has_members
no_deletion d b is =
    ap (λ (o : Option Data). eqb (size d) 1 && (is_some o && true)) (no_deletion_member d (string b) is.no_other is.purge) ∙ none (eqb (size d) 1)
  where
    none : (b : Bool) → (b && false) ≡ false
    none true = refl
    none false = refl

-- ---- a new set

set_takes : (forms : Forms) (d : Data) (shape : Shape) → size d ≡ 2 → set_shape d ≡ Some shape → IsShape forms shape d
unfolding set_shape
set_takes forms d shape two is =
    let p = bind-Some (text_at (codes "set") d) (λ s. (text_at (codes "name") d) >>= λ n. Some (adds_set s n)) shape is in
    let q = bind-Some (text_at (codes "name") d) (λ n. Some (adds_set p.0 n)) shape p.2 in
    let made : IsNewSet p.0 q.0 d = record {
      set = text_takes (codes "set") d p.0 p.1;
      name = text_takes (codes "name") d q.0 q.1;
      no_other = two;
    } in
    subst (λ (c : Shape). IsShape forms c d) {x = adds_set p.0 q.0} (Some-injective (adds_set p.0 q.0) shape q.2) made

set_again : (d : Data) (s n : List ℕ) → IsNewSet s n d → set_shape d ≡ Some (adds_set s n)
unfolding set_shape
set_again d s n is =
    ap (λ x. x >>= λ s. (text_at (codes "name") d) >>= λ n. Some (adds_set s n))
    (text_again (codes "set") d s is.set)
    ∙ ap (λ x. x >>= λ n. Some (adds_set s n)) (text_again (codes "name") d n is.name)

two_there : (n : ℕ) (a b : Option Data) (x y : Data) → n ≡ 2 → a ≡ Some x → b ≡ Some y
    → (eqb n 2 && (is_some a && (is_some b && true))) ≡ true
two_there n a b x y two first second = rw (two, first, second) refl

are_new_set : (d : Data) (s n : List ℕ) → IsNewSet s n d → has_members set_members d ≡ true
unfolding has_members
are_new_set d s n is =
    two_there (size d) (get (codes "set") d) (get (codes "name") d) _ _ is.no_other is.set is.name

-- ---- which shape

-- the shapes are tried one after another: those after a deposit, after a deletion, after a purge, and after a new set
abbrev after_set : Forms → Data → Option Shape
after_set forms d = cond (has_put_members forms d) (put_shape forms d) None

abbrev after_purge : Forms → Data → Option Shape
after_purge forms d = cond (has_members set_members d) (set_shape d) (after_set forms d)

abbrev after_deletion : Forms → Data → Option Shape
after_deletion forms d = cond (has_members purge_members d) (purge_shape d) (after_purge forms d)

abbrev after_deposit : Forms → Data → Option Shape
after_deposit forms d = cond (has_members deletion_members d) (deletion_shape d) (after_deletion forms d)

-- the members of one shape are there, or the shapes after it are tried
if_taken : (b : Bool) (q others : Option Shape) (shape : Shape) (P : Type 0)
    → (b ≡ true → q ≡ Some shape → P) → (others ≡ Some shape → P) → cond b q others ≡ Some shape → P
if_taken true q others shape P first second is = first refl is
if_taken false q others shape P first second is = second is

there : (b : Bool) (q others : Option Shape) → b ≡ true → cond b q others ≡ q
there b q others is = ap (λ b. cond b q others) is

not_there : (b : Bool) (q others : Option Shape) → b ≡ false → cond b q others ≡ others
not_there b q others is = ap (λ b. cond b q others) is

None≢Some : (shape : Shape) → None ≡ Some shape → ⊥
None≢Some shape is = absurd cc

shape_takes : (forms : Forms) (d : Data) (shape : Shape) → shape_of forms d ≡ Some shape → IsShape forms shape d
unfolding shape_of
shape_takes forms d shape =
    if_taken (has_deposit_members forms d) (deposit_shape forms d) (after_deposit forms d) shape (IsShape forms shape d)
    (λ is. deposit_takes forms d shape (of_size_and deposit_members (optional_members forms) d is))
    (if_taken (has_members deletion_members d) (deletion_shape d) (after_deletion forms d) shape (IsShape forms shape d)
    (λ is. deletion_takes forms d shape (of_size deletion_members d is))
    (if_taken (has_members purge_members d) (purge_shape d) (after_purge forms d) shape (IsShape forms shape d)
    (λ is. purge_takes forms d shape (of_size purge_members d is))
    (if_taken (has_members set_members d) (set_shape d) (after_set forms d) shape (IsShape forms shape d)
    (λ is. set_takes forms d shape (of_size set_members d is))
    (if_taken (has_put_members forms d) (put_shape forms d) None shape (IsShape forms shape d)
    (λ is. let so = allowed forms d is in put_takes forms d shape so.0 so.1)
    (λ none. absurd (None≢Some shape none))))))

-- it is of another number of members
fewer : (n m : ℕ) → n ≤ 2 → eqb n (3 + m) ≡ false
fewer n m few = grind (arith, nat_tests)

more : (n m k : ℕ) → n ≡ 3 + m → k ≤ 2 → eqb n k ≡ false
more n m k is few = grind (arith, nat_tests)

past_deposit : (forms : Forms) (d : Data) → size d ≤ 2 → shape_of forms d ≡ after_deposit forms d
unfolding shape_of has_members_and
past_deposit forms d few =
    not_there (has_deposit_members forms d) (deposit_shape forms d) (after_deposit forms d)
    (ap (λ b. b && has_each deposit_members d) (fewer (size d) (length (names_there (optional_members forms) d)) few))

past_deletion : (forms : Forms) (d : Data) (n : ℕ) → size d ≡ n → eqb n 1 ≡ false → after_deposit forms d ≡ after_deletion forms d
past_deletion forms d n is other =
    not_there (has_members deletion_members d) (deletion_shape d) (after_deletion forms d) (of_another_size deletion_members d n is other)

past_purge : (forms : Forms) (d : Data) (n : ℕ) → size d ≡ n → eqb n 1 ≡ false → after_deletion forms d ≡ after_purge forms d
past_purge forms d n is other =
    not_there (has_members purge_members d) (purge_shape d) (after_purge forms d) (of_another_size purge_members d n is other)

past_set : (forms : Forms) (d : Data) (n : ℕ) → size d ≡ n → eqb n 2 ≡ false → after_purge forms d ≡ after_set forms d
past_set forms d n is other = not_there (has_members set_members d) (set_shape d) (after_set forms d) (of_another_size set_members d n is other)

shape_again : (forms : Forms) (d : Data) (shape : Shape) → IsShape forms shape d → shape_of forms d ≡ Some shape
unfolding shape_of
shape_again forms d (deposits i s r a) is =
    there (has_deposit_members forms d) (deposit_shape forms d) (after_deposit forms d) (are_deposit forms d i s r a is) ∙ deposit_again forms d i s r a is
shape_again forms d (puts i s r a) is =
    let others : ℕ = length (names_there (optional_members forms) d) in
    not_there (has_deposit_members forms d) (deposit_shape forms d) (after_deposit forms d) (no_deposit forms d i s r a is)
    ∙ past_deletion forms d (size d) refl (more (size d) others 1 is.no_other (omega arith))
    ∙ past_purge forms d (size d) refl (more (size d) others 1 is.no_other (omega arith))
    ∙ past_set forms d (size d) refl (more (size d) others 2 is.no_other (omega arith))
    ∙ there (has_put_members forms d) (put_shape forms d) None (are_put forms d i s r a is) ∙ put_again forms d i s r a is
shape_again forms d (deletes i) is =
    let one = is.no_other in
    past_deposit forms d (omega (arith, one))
    ∙ there (has_members deletion_members d) (deletion_shape d) (after_deletion forms d) (are_deletion d i is) ∙ deletion_again d i is
shape_again forms d (purges b) is =
    let one = is.no_other in
    past_deposit forms d (omega (arith, one))
    ∙ not_there (has_members deletion_members d) (deletion_shape d) (after_deletion forms d) (no_deletion d b is)
    ∙ there (has_members purge_members d) (purge_shape d) (after_purge forms d) (are_purge d b is) ∙ purge_again d b is
shape_again forms d (adds_set s n) is =
    let two = is.no_other in
    past_deposit forms d (omega (arith, two))
    ∙ past_deletion forms d 2 is.no_other refl ∙ past_purge forms d 2 is.no_other refl
    ∙ there (has_members set_members d) (set_shape d) (after_set forms d) (are_new_set d s n is) ∙ set_again d s n is

-- ---- the law

none_where_no : (forms : Forms) (d : Data) (o : Option Shape) → shape_of forms d ≡ o → ((shape : Shape) → IsShape forms shape d → ⊥) → shape_of forms d ≡ None
none_where_no forms d (Some shape) is none = absurd (none shape (shape_takes forms d shape is))
none_where_no forms d None is none = is

no_where_none : (forms : Forms) (d : Data) → shape_of forms d ≡ None → (shape : Shape) → IsShape forms shape d → ⊥
no_where_none forms d none shape is = absurd (None≢Some shape (sym none ∙ shape_again forms d shape is))

pub shape_law_holds : ShapeLaw
shape_law_holds forms d = record {
  fits = λ shape. (shape_takes forms d shape, shape_again forms d shape);
  fits_none = (no_where_none forms d, none_where_no forms d (shape_of forms d) refl);
}
