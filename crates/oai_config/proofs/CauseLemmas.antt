-- The lowest of causes: how it is found by looking for one after another, and the lowest of two sets of causes.
use Rattle.std.proofs.Common.{◌≡◌, ◌<◌, ℕ, suc, Bool, true, false, cond, ◌==◌, ◌||◌, Option, Some, None, List, inl, inr, refl, sym, ap, ◌∙◌, arith}
use Rattle.std.specs.Prelude.{nat_le, if◌then◌else◌}
use Rattle.std.proofs.lemmas.Bool.{cases_lt, or_from, or_left, or_right}
use Rattle.std.proofs.lemmas.Bool.Decides.{nat_tests}
use Rattle.oai_settings.specs.declared.settings.ConfigFault.TheVariants as alone
use Rattle.oai_settings.specs.declared.settings.Settings.{Settings}
use Rattle.oai_settings.specs.Settings.{config_fault}
use Rattle.oai_config.specs.declared.faults.ReadFault.{ReadFault}
use Rattle.oai_config.specs.declared.faults.ReadFault.TheVariants.{BadJson, BadShape, BadName, DuplicateName, BadFormat, BadDate, BadNumber, TooMany, NoMemory}
use Rattle.oai_config.specs.Reading.{IsLowest}
use Rattle.oai_config.specs.Causes.{is_wrong_alone, is_wrong_together, fault_number}
use Rattle.oai_config.specs.ReadingWork.{IsLowestOf, read_fault_of, first_together, lower}

abbrev Causes : Type 0
Causes = ReadFault → Bool

-- ---- the numbers

abbrev fault_at : ℕ → ReadFault
fault_at n =
    if n == 1 then BadJson else (if n == 2 then BadShape else (if n == 3 then BadName else (if n == 4 then DuplicateName
    else (if n == 5 then BadFormat else (if n == 6 then BadDate else (if n == 7 then BadNumber else (if n == 8 then TooMany else NoMemory)))))))

fault_at-number : (x : ReadFault) → fault_at (fault_number x) ≡ x
fault_at-number BadJson = refl
fault_at-number BadShape = refl
fault_at-number BadName = refl
fault_at-number DuplicateName = refl
fault_at-number BadFormat = refl
fault_at-number BadDate = refl
fault_at-number BadNumber = refl
fault_at-number TooMany = refl
fault_at-number NoMemory = refl

-- faults of one number are one
same_fault : (x y : ReadFault) → fault_number x ≡ fault_number y → x ≡ y
same_fault x y is = sym (fault_at-number x) ∙ ap fault_at is ∙ fault_at-number y

-- ---- one cause after another

-- no cause of a lower number applies
abbrev NoneBelow : ℕ → Causes → Type 0
NoneBelow n causes = (other : ReadFault) → fault_number other < n → causes other ≡ false

-- one more cause does not apply
next : (causes : Causes) (x : ReadFault) (n : ℕ) → fault_number x ≡ n → causes x ≡ false → NoneBelow n causes → NoneBelow (suc n) causes
next causes x n is not_x below other low = elim (cases_lt (fault_number other) n) [
  | inl lower ↦ below other lower
  | inr least ↦ ap causes (same_fault other x (omega arith)) ∙ not_x
]

-- none of the numbers begins below 1
none : (causes : Causes) → NoneBelow 1 causes
none causes BadJson low = absurd (omega arith)
none causes BadShape low = absurd (omega arith)
none causes BadName low = absurd (omega arith)
none causes DuplicateName low = absurd (omega arith)
none causes BadFormat low = absurd (omega arith)
none causes BadDate low = absurd (omega arith)
none causes BadNumber low = absurd (omega arith)
none causes TooMany low = absurd (omega arith)
none causes NoMemory low = absurd (omega arith)

-- and they end at 9
all : (causes : Causes) → NoneBelow 10 causes → (other : ReadFault) → causes other ≡ false
all causes below BadJson = below BadJson (omega arith)
all causes below BadShape = below BadShape (omega arith)
all causes below BadName = below BadName (omega arith)
all causes below DuplicateName = below DuplicateName (omega arith)
all causes below BadFormat = below BadFormat (omega arith)
all causes below BadDate = below BadDate (omega arith)
all causes below BadNumber = below BadNumber (omega arith)
all causes below TooMany = below TooMany (omega arith)
all causes below NoMemory = below NoMemory (omega arith)

-- the lowest, of faults that are seen as those of a text
abbrev pub IsLowestBy : {F : Type 0} → (F → ReadFault) → Causes → Option F → Type 0
IsLowestBy seen causes (Some fault) = IsLowest causes (seen fault)
IsLowestBy seen causes None = (fault : ReadFault) → causes fault ≡ false

-- the cause is the lowest where it applies, and is looked past where it does not
step : {F : Type 0} (seen : F → ReadFault) (causes : Causes) (x : F) (n : ℕ) (b : Bool) (others : Option F)
    → fault_number (seen x) ≡ n → causes (seen x) ≡ b → (NoneBelow (suc n) causes → IsLowestBy seen causes others)
    → NoneBelow n causes → IsLowestBy seen causes (cond b (Some x) others)
step seen causes x n true others is applies more below = record { applies = applies; lowest = λ other low. below other (rw (← is) low) }
step seen causes x n false others is applies more below = more (next causes (seen x) n is applies below)

-- what looking at one repository finds
pub lowest_alone : (s : Settings) → IsLowestBy read_fault_of (λ cause. is_wrong_alone cause s) (config_fault s)
unfolding config_fault
lowest_alone s =
    let causes : Causes = λ cause. is_wrong_alone cause s in
    step read_fault_of causes alone.BadShape 2 _ _ refl refl
    (step read_fault_of causes alone.BadName 3 _ _ refl refl
    (λ below. step read_fault_of causes alone.BadFormat 5 _ _ refl refl
    (step read_fault_of causes alone.BadDate 6 _ _ refl refl
    (step read_fault_of causes alone.BadNumber 7 _ _ refl refl
    (λ below. all causes (next causes NoMemory 9 refl refl (next causes TooMany 8 refl refl below)))))
    (next causes DuplicateName 4 refl refl below)))
    (next causes BadJson 1 refl refl (none causes))

-- and what looking at the whole finds
lowest_whole : (cache : Option ℕ) (settings : List Settings) → IsLowestBy (λ fault. fault) (λ cause. is_wrong_together cause cache settings) (first_together cache settings)
unfolding first_together
lowest_whole cache settings =
    let causes : Causes = λ cause. is_wrong_together cause cache settings in
    let seen : ReadFault → ReadFault = λ fault. fault in
    step seen causes BadShape 2 _ _ refl refl
    (λ below. step seen causes DuplicateName 4 _ _ refl refl
    (λ below. step seen causes BadNumber 7 _ _ refl refl
    (step seen causes TooMany 8 _ _ refl refl
    (λ below. all causes (next causes NoMemory 9 refl refl below)))
    (next causes BadDate 6 refl refl (next causes BadFormat 5 refl refl below)))
    (next causes BadName 3 refl refl below))
    (next causes BadJson 1 refl refl (none causes))

as_it_is : (causes : Causes) (found : Option ReadFault) → IsLowestBy (λ fault. fault) causes found → IsLowestOf causes found
as_it_is causes (Some fault) is = is
as_it_is causes None is = is

pub lowest_together : (cache : Option ℕ) (settings : List Settings) → IsLowestOf (λ cause. is_wrong_together cause cache settings) (first_together cache settings)
lowest_together cache settings = as_it_is _ (first_together cache settings) (lowest_whole cache settings)

-- ---- two sets of causes

lower_first : (first second : Causes) (lowest fault : ReadFault) (b : Bool) → nat_le (fault_number lowest) (fault_number fault) ≡ b → IsLowest first lowest → IsLowest second fault
    → IsLowest (λ cause. first cause || second cause) (cond b lowest fault)
lower_first first second lowest fault true is one two = record {
  applies = or_left _ _ one.applies;
  lowest = λ other low. or_from _ _ (one.lowest other low) (two.lowest other (grind (arith, nat_tests)));
}
lower_first first second lowest fault false is one two = record {
  applies = or_right _ _ two.applies;
  lowest = λ other low. or_from _ _ (one.lowest other (grind (arith, nat_tests))) (two.lowest other low);
}

-- the lower of the lowest of each
pub lowest_of_two : (first second : Causes) (lowest : Option ReadFault) (fault : ReadFault) → IsLowestOf first lowest → IsLowest second fault
    → IsLowest (λ cause. first cause || second cause) (lower lowest fault)
lowest_of_two first second None fault one two = record {
  applies = or_right _ _ two.applies;
  lowest = λ other low. or_from _ _ (one other) (two.lowest other low);
}
lowest_of_two first second (Some lowest) fault one two = lower_first first second lowest fault _ refl one two

-- causes that apply alike have the same lowest
pub same_lowest : (first second : Causes) (fault : ReadFault) → ((cause : ReadFault) → first cause ≡ second cause) → IsLowest first fault → IsLowest second fault
same_lowest first second fault same is = record {
  applies = sym (same fault) ∙ is.applies;
  lowest = λ other low. sym (same other) ∙ is.lowest other low;
}

pub same_lowest_of : (first second : Causes) (found : Option ReadFault) → ((cause : ReadFault) → first cause ≡ second cause) → IsLowestOf first found → IsLowestOf second found
same_lowest_of first second (Some fault) same is = same_lowest first second fault same is
same_lowest_of first second None same is = λ fault. sym (same fault) ∙ is fault
