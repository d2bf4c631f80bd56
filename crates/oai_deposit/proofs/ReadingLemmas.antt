-- What the parts of a line are read as, by calls that may run out of memory.
use Rattle.std.proofs.Common.{◌≡◌, Bool, true, false, cond, Option, Some, None, List, [], ◌∷◌, ◌&&◌, Result, Ok, Err, refl, sym, ap, ◌∙◌}
use Rattle.std.specs.List.{list_all}
use Rattle.oai_item.specs.declared.refusals.LineRefusal.{LineRefusal}
use Rattle.oai_deposit.specs.declared.faults.LineFault.{LineFault}
use Rattle.oai_deposit.specs.declared.faults.LineFault.TheVariants.{NoMemory, Refused}
use Rattle.oai_names.specs.Optional.{◌>>=◌, each_of, tested}
use Rattle.oai_json.proofs.ReadingLemmas.{Some-injective}
use Rattle.oai_deposit.specs.Calls.{Anywhere}
use Rattle.oai_deposit.specs.Readings.{Finds, FindsBy, ReturnsReading, passed}

-- memory was refused where the condition is true, if it was
pub where_true : {A : Type 0} {Condition : Type 0} (r : Result A LineFault) (reading : Option A)
    → Condition → Finds Anywhere r reading → Finds Condition r reading
where_true (Ok x) reading condition finds = finds
where_true (Err (Refused refusal)) reading condition finds = finds
where_true (Err NoMemory) reading condition finds = condition

-- ---- a list of what passes a test

tested_of : {A : Type 0} (test : Bool) (x : A) → Option A
tested_of test x = cond test (Some x) None

one_more : {A : Type 0} (first others : Bool) (x : A) (xs : List A)
    → (cond first (Some x) None >>= λ y. cond others (Some xs) None >>= λ ys. Some (y ∷ ys)) ≡ cond (first && others) (Some (x ∷ xs)) None
one_more true true x xs = refl
one_more true false x xs = refl
one_more false others x xs = refl

-- each passes it, or not all of the list is read
each_tested : {A : Type 0} (passes : A → Bool) (xs : List A) → each_of (tested passes) xs ≡ cond (list_all passes xs) (Some xs) None
each_tested passes [] = refl
each_tested passes (x ∷ xs) =
    ap (λ r. tested passes x >>= λ y. r >>= λ ys. Some (y ∷ ys)) (each_tested passes xs) ∙ one_more (passes x) (list_all passes xs) x xs

found_passes : {A : Type 0} (refusal : LineRefusal) (condition : Type 0) (r : Result A LineFault) (test : Bool) (x : A)
    → FindsBy refusal (λ (y : A). y) condition r (cond test (Some x) None) → ReturnsReading condition r (passed test refusal x)
found_passes refusal condition (Ok y) true x is = ap (λ z. Ok z) (Some-injective x y is)
found_passes refusal condition (Ok y) false x is = absurd cc
found_passes refusal condition (Err (Refused cause)) true x is = absurd cc
found_passes refusal condition (Err (Refused cause)) false x is = ap (λ z. Err z) (sym is.1)
found_passes refusal condition (Err NoMemory) true x is = is
found_passes refusal condition (Err NoMemory) false x is = is

pub all_passed : {A : Type 0} (refusal : LineRefusal) (condition : Type 0) (r : Result (List A) LineFault) (passes : A → Bool) (xs : List A)
    → FindsBy refusal (λ (ys : List A). ys) condition r (each_of (tested passes) xs) → ReturnsReading condition r (passed (list_all passes xs) refusal xs)
all_passed refusal condition r passes xs finds =
    found_passes refusal condition r (list_all passes xs) xs (rw (← each_tested passes xs) finds)

-- what passed a test was read by it
pub passed_is_tested : {A : Type 0} (test : Bool) (refusal : LineRefusal) (x y : A) → passed test refusal x ≡ Ok y → cond test (Some x) None ≡ Some y
passed_is_tested true refusal x y is = cc
passed_is_tested false refusal x y is = absurd cc
