-- Values of attributes: what each step of a reading reads.
use Rattle.std.proofs.Common.{◌≡◌, ◌∙◌, ◌<◌, ℕ, zero, suc, true, false, ◌||◌, eqb, List, [], ◌∷◌, ◌++◌, Ok, Err, length, refl, ap, subst, arith, append_assoc}
use Rattle.std.specs.List.{list_all}
use Rattle.std.proofs.lemmas.Bool.{and_parts, cond-true, cond-false}
use Rattle.std.proofs.lemmas.Bool.Decides.{nat_tests}
use Rattle.oai_xml.specs.Answers.{before, Goes, is_bare_value_byte}
use Rattle.oai_xml.specs.Readings.{Reading, ◌>>=◌, read}
use Rattle.oai_xml.specs.Parts.{reference_in}
use Rattle.oai_xml.specs.Tags.{value_in, value_byte}
use Rattle.oai_xml.proofs.Goings.{Joins, goes_none, goes_then}

-- lists one behind the other
abbrev pub cat : {A : Type 0} → List A → List A → List A
cat a b = a ++ b

pub cat_joins : {A : Type 0} → Joins {A = List A} cat
cat_joins = record { joins = λ a b c. append_assoc a b c }

-- the values that are closed by that quote
abbrev pub values : ℕ → ℕ → List ℕ → Reading (List ℕ)
values quote steps bytes = value_in steps quote bytes

bound_cons : (x : ℕ) (r : Reading (List ℕ)) → (r >>= λ v. read (x ∷ v.0) v.1) ≡ before cat (x ∷ []) r
bound_cons x (Ok r) = refl
bound_cons x (Err left) = refl

bound_cat : (c : List ℕ) (r : Reading (List ℕ)) → (r >>= λ v. read (c ++ v.0) v.1) ≡ before cat c r
bound_cat c (Ok r) = refl
bound_cat c (Err left) = refl

-- ---- one byte

plain_in : (steps quote b : ℕ) (tail : List ℕ) → eqb b quote ≡ false → eqb b 60 ≡ false → eqb b 38 ≡ false
    → value_in (suc steps) quote (b ∷ tail) ≡ before cat (value_byte b ∷ []) (value_in steps quote tail)
unfolding value_in
plain_in steps quote b tail apart markup reference =
    cond-false (eqb b quote) _ _ apart ∙ cond-false (eqb b 60) _ _ markup ∙ cond-false (eqb b 38) _ _ reference ∙ bound_cons (value_byte b) (value_in steps quote tail)

pub value_plain : (quote b : ℕ) (tail : List ℕ) → eqb b quote ≡ false → eqb b 60 ≡ false → eqb b 38 ≡ false → Goes cat (values quote) (b ∷ tail) tail (value_byte b ∷ [])
value_plain quote b tail apart markup reference = record { goes = by_steps }
  where
    by_steps : (steps : ℕ) → length (b ∷ tail) < steps → (others : ℕ) × (length tail < others) × (values quote steps (b ∷ tail) ≡ before cat (value_byte b ∷ []) (values quote others tail))
    by_steps zero enough = absurd (omega arith)
    by_steps (suc steps) enough = (steps, omega arith, plain_in steps quote b tail apart markup reference)

-- bytes that stand for themselves
bare_parts : (b quote : ℕ) → (eqb quote 34 || eqb quote 39) ≡ true → is_bare_value_byte b ≡ true → (eqb b quote ≡ false) × (eqb b 60 ≡ false) × (eqb b 38 ≡ false) × (value_byte b ≡ b)
bare_parts b quote is bare = (grind (arith, nat_tests), grind (arith, nat_tests), grind (arith, nat_tests), grind (arith, nat_tests))

pub value_run : (quote : ℕ) → (eqb quote 34 || eqb quote 39) ≡ true → (run tail : List ℕ) → list_all is_bare_value_byte run ≡ true → Goes cat (values quote) (run ++ tail) tail run
value_run quote is [] tail bare = goes_none cat [] (λ a. refl) (values quote) tail
value_run quote is (b ∷ run) tail bare =
    let parts = and_parts (is_bare_value_byte b) (list_all is_bare_value_byte run) bare in
    let facts = bare_parts b quote is parts.0 in
    goes_then cat cat_joins (values quote) (b ∷ (run ++ tail)) (run ++ tail) tail (b ∷ []) run
    (subst (λ x. Goes cat (values quote) (b ∷ (run ++ tail)) (run ++ tail) (x ∷ [])) facts.3 (value_plain quote b (run ++ tail) facts.0 facts.1 facts.2))
    (value_run quote is run tail parts.1)

-- ---- a reference

referred_in : (steps quote : ℕ) (tail rest c : List ℕ) → eqb 38 quote ≡ false → reference_in tail ≡ Ok (c, rest) → value_in (suc steps) quote (38 ∷ tail) ≡ before cat c (value_in steps quote rest)
unfolding value_in
referred_in steps quote tail rest c apart is =
    cond-false (eqb 38 quote) _ _ apart ∙ ap (λ r. r >>= λ r. value_in steps quote r.1 >>= λ v. read (r.0 ++ v.0) v.1) is ∙ bound_cat c (value_in steps quote rest)

pub value_referred : (quote : ℕ) (tail rest c : List ℕ) → eqb 38 quote ≡ false → length rest < length tail → reference_in tail ≡ Ok (c, rest) → Goes cat (values quote) (38 ∷ tail) rest c
value_referred quote tail rest c apart shorter is = record { goes = by_steps }
  where
    by_steps : (steps : ℕ) → length (38 ∷ tail) < steps → (others : ℕ) × (length rest < others) × (values quote steps (38 ∷ tail) ≡ before cat c (values quote others rest))
    by_steps zero enough = absurd (omega arith)
    by_steps (suc steps) enough = (steps, omega arith, referred_in steps quote tail rest c apart is)

-- ---- faults, and the end

unreferred_in : (steps quote : ℕ) (tail : List ℕ) (left : ℕ) → eqb 38 quote ≡ false → reference_in tail ≡ Err left → value_in (suc steps) quote (38 ∷ tail) ≡ Err left
unfolding value_in
unreferred_in steps quote tail left apart is =
    cond-false (eqb 38 quote) _ _ apart ∙ ap (λ r. r >>= λ r. value_in steps quote r.1 >>= λ v. read (r.0 ++ v.0) v.1) is

pub value_unreferred : (quote : ℕ) (tail : List ℕ) (left : ℕ) → eqb 38 quote ≡ false → reference_in tail ≡ Err left → (steps : ℕ) → length (38 ∷ tail) < steps → value_in steps quote (38 ∷ tail) ≡ Err left
value_unreferred quote tail left apart is zero enough = absurd (omega arith)
value_unreferred quote tail left apart is (suc steps) enough = unreferred_in steps quote tail left apart is

marked_in : (steps quote : ℕ) (tail : List ℕ) → eqb 60 quote ≡ false → value_in (suc steps) quote (60 ∷ tail) ≡ Err (length (60 ∷ tail))
unfolding value_in
marked_in steps quote tail apart = cond-false (eqb 60 quote) _ _ apart

pub value_marked : (quote : ℕ) (tail : List ℕ) → eqb 60 quote ≡ false → (steps : ℕ) → length (60 ∷ tail) < steps → value_in steps quote (60 ∷ tail) ≡ Err (length (60 ∷ tail))
value_marked quote tail apart zero enough = absurd (omega arith)
value_marked quote tail apart (suc steps) enough = marked_in steps quote tail apart

closed_in : (steps quote b : ℕ) (tail : List ℕ) → eqb b quote ≡ true → value_in (suc steps) quote (b ∷ tail) ≡ Ok ([], tail)
unfolding value_in
closed_in steps quote b tail same = cond-true (eqb b quote) _ _ same

pub value_closed : (quote b : ℕ) (tail : List ℕ) → eqb b quote ≡ true → (steps : ℕ) → length (b ∷ tail) < steps → value_in steps quote (b ∷ tail) ≡ Ok ([], tail)
value_closed quote b tail same zero enough = absurd (omega arith)
value_closed quote b tail same (suc steps) enough = closed_in steps quote b tail same

ends_in : (steps quote : ℕ) → value_in (suc steps) quote [] ≡ Err 0
unfolding value_in
ends_in steps quote = refl

pub value_ends : (quote : ℕ) (bytes : List ℕ) → bytes ≡ [] → (steps : ℕ) → length bytes < steps → value_in steps quote bytes ≡ Err 0
value_ends quote bytes none zero enough = absurd (omega arith)
value_ends quote bytes none (suc steps) enough = ap (value_in (suc steps) quote) none ∙ ends_in steps quote
