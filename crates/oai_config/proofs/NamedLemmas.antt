-- The repositories of a configuration, as a loop makes them one after another; and the rules that they then keep.
use Rattle.std.proofs.Common.{◌≡◌, ℕ, suc, Bool, true, false, not, ◌||◌, ◌==◌, Option, Some, None, List, [], ◌∷◌, ◌++◌, length, Result, Ok, Err, refl, sym, ap, ◌∙◌, subst, append-nil, append_assoc, arith}
use Rattle.std.specs.Prelude.{nat_lt}
use Rattle.std.specs.Result.{result_err}
use Rattle.std.specs.Int.{is_in_range}
use Rattle.std.specs.List.{list_all, list_any}
use Rattle.std.proofs.lemmas.Bool.{or_parts, not-false, and_from}
use Rattle.std.proofs.lemmas.Bool.Decides.{nat_tests}
use Rattle.std.proofs.lemmas.List.Folds.{list_any-append}
use Rattle.oai_item.specs.Rules.{has_repeat}
use Rattle.oai_settings.specs.declared.settings.ConfigFault.{ConfigFault}
use Rattle.oai_settings.specs.declared.settings.ConfigFault.TheVariants as alone
use Rattle.oai_settings.specs.declared.settings.Settings.{Settings}
use Rattle.oai_settings.specs.Config.{is_repository_name}
use Rattle.oai_settings.specs.Settings.{IsConfigured, config_fault, passes_number}
use Rattle.oai_config.specs.declared.faults.ReadFault.{ReadFault}
use Rattle.oai_config.specs.declared.faults.ReadFault.TheVariants.{BadJson, BadShape, BadName, DuplicateName, BadFormat, BadDate, BadNumber, TooMany, NoMemory}
use Rattle.oai_config.specs.declared.host_settings.HostSettings.{HostSettings}
use Rattle.oai_config.specs.Configs.{NamedConfig, IsHostConfig, is_cache, repository_names}
use Rattle.oai_config.specs.Reading.{HasSettings, HaveSettings, IsLowest}
use Rattle.oai_config.specs.Causes.{is_wrong_alone, is_wrong_together, names_told}
use Rattle.oai_config.specs.ReadingWork.{AreMade, HasSettingsOr, IsLowestOf, IsMade, IsWhole, read_fault_of, first_together, lower, or_alone}
use Rattle.oai_config.proofs.CauseLemmas.{IsLowestBy, lowest_alone, lowest_of_two, lowest_together, same_lowest, same_lowest_of}

-- ---- one repository

found_alone : (s : Settings) (o : Option ConfigFault) → config_fault s ≡ o → IsLowestBy read_fault_of (λ cause. is_wrong_alone cause s) o
found_alone s o is = subst (λ o. IsLowestBy read_fault_of (λ cause. is_wrong_alone cause s) o) is (lowest_alone s)

pub fault_alone : (s : Settings) (fault : ConfigFault) → IsConfigured s (Err fault) → HasSettingsOr s (Err (read_fault_of fault))
fault_alone s alone.BadShape is = found_alone s (Some alone.BadShape) is
fault_alone s alone.BadName is = found_alone s (Some alone.BadName) is
fault_alone s alone.BadFormat is = found_alone s (Some alone.BadFormat) is
fault_alone s alone.BadDate is = found_alone s (Some alone.BadDate) is
fault_alone s alone.BadNumber is = found_alone s (Some alone.BadNumber) is
fault_alone s alone.NoMemory is = tt

-- the fault that was found is the lowest, unless it is out of memory
pub is_lowest : (s : Settings) (fault : ReadFault) → (fault ≡ NoMemory → ⊥) → HasSettingsOr s (Err fault) → IsLowest (λ cause. is_wrong_alone cause s) fault
is_lowest s BadJson other is = is
is_lowest s BadShape other is = is
is_lowest s BadName other is = is
is_lowest s DuplicateName other is = is
is_lowest s BadFormat other is = is
is_lowest s BadDate other is = is
is_lowest s BadNumber other is = is
is_lowest s TooMany other is = is
is_lowest s NoMemory other is = absurd (other refl)

-- ---- one after another

one_more_named : (settings : List Settings) (entries : List NamedConfig) (s : Settings) (h : NamedConfig) → HaveSettings settings entries → HasSettings s h → HaveSettings (settings ++ s ∷ []) (entries ++ h ∷ [])
one_more_named [] [] s h are is = (is, tt)
one_more_named [] (y ∷ entries) s h are is = absurd are
one_more_named (x ∷ settings) [] s h are is = absurd are
one_more_named (x ∷ settings) (y ∷ entries) s h are is = (are.0, one_more_named settings entries s h are.1 is)

or_last : (a b c : Bool) → (a || (b || (c || false))) ≡ ((a || b) || c)
or_last true b c = refl
or_last false true c = refl
or_last false false true = refl
or_last false false false = refl

or_none : (a : Bool) → (a || false) ≡ a
or_none true = refl
or_none false = refl

-- the causes in one repository more
or_alone-push : (causes : ReadFault → Bool) (settings : List Settings) (s : Settings) (cause : ReadFault)
    → or_alone causes (settings ++ s ∷ []) cause ≡ (or_alone causes settings cause || is_wrong_alone cause s)
or_alone-push causes settings s cause =
    ap (λ b. causes cause || b) (list_any-append (is_wrong_alone cause) settings (s ∷ []))
    ∙ or_last (causes cause) (list_any (is_wrong_alone cause) settings) (is_wrong_alone cause s)

-- so far: the settings that were taken and those that are left, the lowest fault in what was found and in those taken, and their
-- repositories, where they have no fault
pub record IsSoFar (found lowest : Option ReadFault) (entries : List NamedConfig) (whole taken left : List Settings) : Type 0 where
  pub split : whole ≡ taken ++ left
  pub lowest_is : (causes : ReadFault → Bool) → IsLowestOf causes found → IsLowestOf (or_alone causes taken) lowest
  pub entries_are : lowest ≡ None → HaveSettings taken entries

pub at_first : (found : Option ReadFault) (whole : List Settings) → IsSoFar found found [] whole [] whole
at_first found whole = record {
  split = refl;
  lowest_is = λ causes is. same_lowest_of causes (or_alone causes []) found (λ cause. sym (or_none (causes cause))) is;
  entries_are = λ none. tt;
}

one_less : (whole taken left rest : List Settings) (s : Settings) → whole ≡ taken ++ left → left ≡ s ∷ rest → whole ≡ (taken ++ s ∷ []) ++ rest
one_less whole taken left rest s split is = split ∙ ap (λ l. taken ++ l) is ∙ sym (append_assoc taken (s ∷ []) rest)

pub with_good : (found lowest : Option ReadFault) (entries : List NamedConfig) (whole taken left rest : List Settings) (s : Settings) (h : NamedConfig)
    → IsSoFar found lowest entries whole taken left → left ≡ s ∷ rest → HasSettings s h
    → IsSoFar found lowest (entries ++ h ∷ []) whole (taken ++ s ∷ []) rest
with_good found lowest entries whole taken left rest s h so_far is good =
    let faultless : (cause : ReadFault) → is_wrong_alone cause s ≡ false = found_alone s None good.config.faultless in
    record {
      split = one_less whole taken left rest s so_far.split is;
      lowest_is = λ causes first.
          same_lowest_of (or_alone causes taken) (or_alone causes (taken ++ s ∷ [])) lowest
          (λ cause. sym (or_alone-push causes taken s cause ∙ ap (λ b. or_alone causes taken cause || b) (faultless cause) ∙ or_none (or_alone causes taken cause)))
          (so_far.lowest_is causes first);
      entries_are = λ none. one_more_named taken entries s h (so_far.entries_are none) good;
    }

Some≢None : (fault : ReadFault) → Some fault ≡ None → ⊥
Some≢None fault is = absurd cc

pub with_bad : (found lowest : Option ReadFault) (entries : List NamedConfig) (whole taken left rest : List Settings) (s : Settings) (fault : ReadFault)
    → IsSoFar found lowest entries whole taken left → left ≡ s ∷ rest → IsLowest (λ cause. is_wrong_alone cause s) fault
    → IsSoFar found (Some (lower lowest fault)) entries whole (taken ++ s ∷ []) rest
with_bad found lowest entries whole taken left rest s fault so_far is bad = record {
  split = one_less whole taken left rest s so_far.split is;
  lowest_is = λ causes first.
      same_lowest (λ cause. or_alone causes taken cause || is_wrong_alone cause s) (or_alone causes (taken ++ s ∷ [])) (lower lowest fault)
      (λ cause. sym (or_alone-push causes taken s cause))
      (lowest_of_two (or_alone causes taken) (λ cause. is_wrong_alone cause s) lowest fault (so_far.lowest_is causes first) bad);
  entries_are = λ none. absurd (Some≢None (lower lowest fault) none);
}

-- the fault is not out of memory, or that is what is answered
as_fault : (causes : ReadFault → Bool) (settings : List Settings) (fault : ReadFault) → IsLowest (or_alone causes settings) fault → AreMade causes settings (Err fault)
as_fault causes settings BadJson is = is
as_fault causes settings BadShape is = is
as_fault causes settings BadName is = is
as_fault causes settings DuplicateName is = is
as_fault causes settings BadFormat is = is
as_fault causes settings BadDate is = is
as_fault causes settings BadNumber is = is
as_fault causes settings TooMany is = is
as_fault causes settings NoMemory is = tt

all_taken : (found lowest : Option ReadFault) (entries : List NamedConfig) (whole taken left : List Settings) → IsSoFar found lowest entries whole taken left → left ≡ [] → whole ≡ taken
all_taken found lowest entries whole taken left so_far none = so_far.split ∙ ap (λ l. taken ++ l) none ∙ append-nil taken

pub at_last_bad : (found : Option ReadFault) (fault : ReadFault) (entries : List NamedConfig) (whole taken left : List Settings)
    → IsSoFar found (Some fault) entries whole taken left → left ≡ [] → (causes : ReadFault → Bool) → IsLowestOf causes found → AreMade causes whole (Err fault)
at_last_bad found fault entries whole taken left so_far none causes first =
    subst (λ settings. AreMade causes settings (Err fault)) (sym (all_taken _ _ _ _ _ _ so_far none))
    (as_fault causes taken fault (so_far.lowest_is causes first))

pub at_last_good : (found : Option ReadFault) (entries : List NamedConfig) (whole taken left : List Settings)
    → IsSoFar found None entries whole taken left → left ≡ [] → (causes : ReadFault → Bool) → IsLowestOf causes found → AreMade causes whole (Ok entries)
at_last_good found entries whole taken left so_far none causes first =
    let P : List Settings → Type 0 = λ settings. AreMade causes settings (Ok entries) in
    subst P (sym (all_taken _ _ _ _ _ _ so_far none))
    (so_far.lowest_is causes first, so_far.entries_are refl)

-- ---- the rules

names_same : (settings : List Settings) (entries : List NamedConfig) → HaveSettings settings entries → repository_names entries ≡ names_told settings
names_same [] [] are = refl
names_same [] (h ∷ entries) are = absurd are
names_same (s ∷ settings) [] are = absurd are
names_same (s ∷ settings) (h ∷ entries) are = ap (λ name. name ∷ repository_names entries) are.0.name ∙ ap (λ names. s.name ∷ names) (names_same settings entries are.1)

as_many : (settings : List Settings) (entries : List NamedConfig) → HaveSettings settings entries → length entries ≡ length settings
as_many [] [] are = refl
as_many [] (h ∷ entries) are = absurd are
as_many (s ∷ settings) [] are = absurd are
as_many (s ∷ settings) (h ∷ entries) are = ap suc (as_many settings entries are.1)

all_named : (settings : List Settings) → list_any (is_wrong_alone BadName) settings ≡ false → list_all is_repository_name (names_told settings) ≡ true
all_named [] none = refl
all_named (s ∷ settings) none =
    let parts = or_parts (not (is_repository_name s.name)) (list_any (is_wrong_alone BadName) settings) none in
    and_from _ _ (not-false _ parts.0) (all_named settings parts.1)

in_range : (n : ℕ) → (n == 0) ≡ false → nat_lt 1_000 n ≡ false → is_in_range 1 1_000 n ≡ true
in_range n some few = grind (arith, nat_tests)

there : (cache : Option ℕ) (n : ℕ) → cache ≡ Some n → passes_number is_cache cache ≡ true → is_cache n ≡ true
there cache n is passes = sym (ap (passes_number is_cache) is) ∙ passes

pub keeps_rules : (cache : Option ℕ) (settings : List Settings) (n : ℕ) (entries : List NamedConfig) → cache ≡ Some n
    → ((cause : ReadFault) → or_alone (λ cause. is_wrong_together cause cache settings) settings cause ≡ false) → HaveSettings settings entries
    → IsHostConfig (record { cache = n; repositories = entries })
keeps_rules cache settings n entries is none are =
    let whole : (cause : ReadFault) → is_wrong_together cause cache settings ≡ false = λ cause. (or_parts _ _ (none cause)).0 in
    let each : (cause : ReadFault) → list_any (is_wrong_alone cause) settings ≡ false = λ cause. (or_parts _ _ (none cause)).1 in
    record {
      cached = there cache n is (not-false _ (whole BadNumber));
      counted = ap (is_in_range 1 1_000) (as_many settings entries are) ∙ in_range (length settings) (whole BadShape) (whole TooMany);
      named = record {
        named = ap (list_all is_repository_name) (names_same settings entries are) ∙ all_named settings (each BadName);
        distinct = ap has_repeat (names_same settings entries are) ∙ whole DuplicateName;
      };
    }

-- ---- the whole

pub made_or : (told : HostSettings) (fault : ReadFault) → AreMade (λ cause. is_wrong_together cause told.cache told.repositories) told.repositories (Err fault) → IsMade told (Err fault)
made_or told BadJson is = is
made_or told BadShape is = is
made_or told BadName is = is
made_or told DuplicateName is = is
made_or told BadFormat is = is
made_or told BadDate is = is
made_or told BadNumber is = is
made_or told TooMany is = is
made_or told NoMemory is = tt

-- the fault that was found in the whole, where there is one
fault_in : (cache : Option ℕ) (settings : List Settings) (found : Result ℕ ReadFault) → IsWhole cache settings found → first_together cache settings ≡ result_err found
fault_in cache settings (Ok pages) is = is.0
fault_in cache settings (Err fault) is = is

pub found_together : (cache : Option ℕ) (settings slice : List Settings) (found : Result ℕ ReadFault) (o : Option ReadFault) → IsWhole cache slice found → slice ≡ settings
    → o ≡ result_err found → IsLowestOf (λ cause. is_wrong_together cause cache settings) o
found_together cache settings slice found o is same err =
    subst (IsLowestOf (λ cause. is_wrong_together cause cache settings)) (ap (first_together cache) (sym same) ∙ fault_in cache slice found is ∙ sym err) (lowest_together cache settings)

pub pages_in : (cache : Option ℕ) (settings : List Settings) (found : Result ℕ ReadFault) (pages : ℕ) → IsWhole cache settings found → found ≡ Ok pages → cache ≡ Some pages
pages_in cache settings found pages is was = let whole : IsWhole cache settings (Ok pages) = subst (IsWhole cache settings) was is in whole.1

true≢false : true ≡ false → ⊥
true≢false is = absurd cc

-- where no cause applies, no fault was found in the whole
pub no_fault : (cache : Option ℕ) (settings slice : List Settings) (found : Result ℕ ReadFault) (fault : ReadFault) → IsWhole cache slice found → slice ≡ settings → found ≡ Err fault
    → ((cause : ReadFault) → or_alone (λ cause. is_wrong_together cause cache settings) settings cause ≡ false) → ⊥
no_fault cache settings slice found fault is same was faultless =
    let lowest : IsLowest (λ cause. is_wrong_together cause cache settings) fault = found_together cache settings slice found (Some fault) is same (sym (ap result_err was)) in
    true≢false (sym lowest.applies ∙ (or_parts _ _ (faultless fault)).0)
