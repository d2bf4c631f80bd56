-- Names, and the repositories under them.
use Rattle.std.proofs.Common.{◌≡◌, ◌∙◌, ◌+◌, inl, inr, nat_lt, ℕ, zero, suc, Bool, true, false, not, List, [], ◌∷◌, ◌++◌, length, Option, None, Some, is_some, unwrap_or, cond, slice_set, refl, sym, ap, subst, arith}
use Rattle.std.specs.List.{list_all, list_any, position_or_len, slice_get}
use Rattle.std.specs.Option.{option_map}
use Rattle.std.specs.Str.{bytes_eq}
use Rattle.std.proofs.lemmas.Bool.{and_from, and_parts, cases_Bool, cases_lt, cond-true, cond-false, false≢true, le-ltb, lt-ltb, or_from, or_parts}
use Rattle.oai_repo.specs.Fields.{RepoFields}
use Rattle.oai_http.proofs.TargetLemmas.{bytes_equal, bytes_turned}
use Rattle.oai_item.specs.Rules.{has_repeat}
use Rattle.oai_config.specs.Configs.{AreNamed}
use Rattle.oai_host.specs.NamedRepos.{repo_names, place_in}
use Rattle.oai_settings.specs.Config.{is_repository_name}
use Rattle.oai_host.specs.declared.repositories.NamedRepo.{NamedRepo}

-- ---- places

pub same_one : (x y : NamedRepo) → Some x ≡ Some y → x ≡ y
same_one x y h = ap (λ (o : Option NamedRepo). unwrap_or o x) h

same_place : (x y : ℕ) → Some x ≡ Some y → x ≡ y
same_place x y h = ap (λ (o : Option ℕ). unwrap_or o x) h

pub nothing_there : {P : Type 0} {A : Type 0} (x : A) → None ≡ Some x → P
nothing_there {P} {A} x h = absurd (false≢true (ap (λ (o : Option A). is_some o) h))

-- a repository in place of the one of its name
pub names_set : (repos : List NamedRepo) (i : ℕ) (one : NamedRepo) (repo : RepoFields) → slice_get repos i ≡ Some one → repo_names (slice_set repos i (record { name = one.name; repo = repo })) ≡ repo_names repos
names_set [] i one repo there = nothing_there one there
names_set (x ∷ repos) zero one repo there = ap (λ (y : NamedRepo). y.name ∷ repo_names repos) (sym (same_one x one there))
names_set (x ∷ repos) (suc i) one repo there = ap (λ (names : List (List ℕ)). x.name ∷ names) (names_set repos i one repo there)

shifted : (b : Bool) (n : ℕ) → cond b (Some (suc n)) None ≡ option_map suc (cond b (Some n) None)
shifted true n = refl
shifted false n = refl

next_below : (n len : ℕ) → nat_lt (suc n) (suc len) ≡ nat_lt n len
next_below n len = elim (cases_lt n len) [
  | inl less ↦ lt-ltb (suc n) (suc len) (omega (arith, less)) ∙ sym (lt-ltb n len less)
  | inr more ↦ le-ltb (suc n) (suc len) (omega (arith, more)) ∙ sym (le-ltb n len more)
]

found_next : (b : Bool) (n len : ℕ) → cond (nat_lt (cond (not b) (1 + n) 0) (suc len)) (Some (cond (not b) (1 + n) 0)) None ≡ cond b (Some 0) (option_map suc (cond (nat_lt n len) (Some n) None))
found_next true n len = ap (λ (b : Bool). cond b (Some 0) None) (lt-ltb 0 (suc len) (omega arith))
found_next false n len =
    let on : 1 + n ≡ suc n = omega arith in
    ap (λ (k : ℕ). cond (nat_lt k (suc len)) (Some k) None) on
    ∙ ap (λ (b : Bool). cond b (Some (suc n)) None) (next_below n len)
    ∙ shifted (nat_lt n len) n

-- the place of a name among one more
place_next : (one : List ℕ) (names : List (List ℕ)) (name : List ℕ) → place_in (one ∷ names) name ≡ cond (bytes_eq one name) (Some 0) (option_map suc (place_in names name))
place_next one names name = found_next (bytes_eq one name) (position_or_len (λ (other : List ℕ). bytes_eq other name) names) (length names)

mapped : (o : Option ℕ) (i : ℕ) → option_map suc o ≡ Some i → (j : ℕ) × (o ≡ Some j) × (suc j ≡ i)
mapped None i h = nothing_there i h
mapped (Some j) i h = (j, refl, same_place (suc j) i h)

-- at the place of a name stands the repository of that name
pub place_there : (repos : List NamedRepo) (name : List ℕ) (i : ℕ) → place_in (repo_names repos) name ≡ Some i → (one : NamedRepo) × (slice_get repos i ≡ Some one) × (one.name ≡ name)
place_there [] name i h = nothing_there i h
place_there (x ∷ repos) name i found =
    let h = sym (place_next x.name (repo_names repos) name) ∙ found in
    elim (cases_Bool (bytes_eq x.name name)) [
      | inl same ↦
          let first : 0 ≡ i = same_place 0 i (sym (cond-true (bytes_eq x.name name) (Some 0) (option_map suc (place_in (repo_names repos) name)) same) ∙ h) in
          (x, ap (λ (n : ℕ). slice_get (x ∷ repos) n) (sym first), bytes_equal x.name name same)
      | inr other ↦
          let later = mapped (place_in (repo_names repos) name) i (sym (cond-false (bytes_eq x.name name) (Some 0) (option_map suc (place_in (repo_names repos) name)) other) ∙ h) in
          let there = place_there repos name later.0 later.1 in
          (there.0, ap (λ (n : ℕ). slice_get (x ∷ repos) n) (sym later.2) ∙ there.1, there.2)
    ]

mapped_none : (o : Option ℕ) → option_map suc o ≡ None → o ≡ None
mapped_none None h = refl
mapped_none (Some j) h = nothing_there (suc j) (sym h)

-- a name without a place is none of these
pub place_none : (names : List (List ℕ)) (name : List ℕ) → place_in names name ≡ None → list_any (λ (one : List ℕ). bytes_eq one name) names ≡ false
place_none [] name h = refl
place_none (one ∷ names) name none =
    let h = sym (place_next one names name) ∙ none in
    elim (cases_Bool (bytes_eq one name)) [
      | inl same ↦ nothing_there 0 (sym (sym (cond-true (bytes_eq one name) (Some 0) (option_map suc (place_in names name)) same) ∙ h))
      | inr other ↦ or_from (bytes_eq one name) (list_any (λ (one : List ℕ). bytes_eq one name) names) other
          (place_none names name (mapped_none (place_in names name) (sym (cond-false (bytes_eq one name) (Some 0) (option_map suc (place_in names name)) other) ∙ h)))
    ]

-- ---- a further name

map_cond : (b : Bool) (x : Option ℕ) (n : ℕ) → option_map suc (cond b (Some n) x) ≡ cond b (Some (suc n)) (option_map suc x)
map_cond true x n = refl
map_cond false x n = refl

swapped : (a b : Bool) (x y z : Option ℕ) → (a ≡ true → b ≡ false) → cond a x (cond b y z) ≡ cond b y (cond a x z)
swapped true true x y z h = absurd (false≢true (sym (h refl)))
swapped true false x y z h = refl
swapped false true x y z h = refl
swapped false false x y z h = refl

pub place_last : (names : List (List ℕ)) (new name : List ℕ) → list_any (bytes_eq new) names ≡ false
    → place_in (names ++ new ∷ []) name ≡ cond (bytes_eq new name) (Some (length names)) (place_in names name)
place_last [] new name unused = place_next new [] name
place_last (one ∷ names) new name unused =
    let parts = or_parts (bytes_eq new one) (list_any (bytes_eq new) names) unused in
    let alone : bytes_eq one name ≡ true → bytes_eq new name ≡ false = λ same. subst (λ (n : List ℕ). bytes_eq new n ≡ false) (bytes_equal one name same) parts.0 in
    place_next one (names ++ new ∷ []) name
    ∙ ap (λ (o : Option ℕ). cond (bytes_eq one name) (Some 0) (option_map suc o)) (place_last names new name parts.1)
    ∙ ap (λ (o : Option ℕ). cond (bytes_eq one name) (Some 0) o) (map_cond (bytes_eq new name) (place_in names name) (length names))
    ∙ swapped (bytes_eq one name) (bytes_eq new name) (Some 0) (Some (suc (length names))) (option_map suc (place_in names name)) alone
    ∙ ap (λ (o : Option ℕ). cond (bytes_eq new name) (Some (suc (length names))) o) (sym (place_next one names name))

any_last : (names : List (List ℕ)) (one new : List ℕ) → bytes_eq one new ≡ false → list_any (bytes_eq one) names ≡ false → list_any (bytes_eq one) (names ++ new ∷ []) ≡ false
any_last [] one new apart none = or_from (bytes_eq one new) false apart refl
any_last (x ∷ names) one new apart none =
    let parts = or_parts (bytes_eq one x) (list_any (bytes_eq one) names) none in
    or_from (bytes_eq one x) (list_any (bytes_eq one) (names ++ new ∷ [])) parts.0 (any_last names one new apart parts.1)

distinct_last : (names : List (List ℕ)) (new : List ℕ) → has_repeat names ≡ false → list_any (bytes_eq new) names ≡ false → has_repeat (names ++ new ∷ []) ≡ false
distinct_last [] new distinct unused = refl
distinct_last (one ∷ names) new distinct unused =
    let old = or_parts (list_any (bytes_eq one) names) (has_repeat names) distinct in
    let parts = or_parts (bytes_eq new one) (list_any (bytes_eq new) names) unused in
    or_from (list_any (bytes_eq one) (names ++ new ∷ [])) (has_repeat (names ++ new ∷ []))
    (any_last names one new (bytes_turned new one parts.0) old.0)
    (distinct_last names new old.1 parts.1)

all_last : (names : List (List ℕ)) (new : List ℕ) → list_all is_repository_name names ≡ true → is_repository_name new ≡ true → list_all is_repository_name (names ++ new ∷ []) ≡ true
all_last [] new all named = and_from (is_repository_name new) true named refl
all_last (one ∷ names) new all named =
    let parts = and_parts (is_repository_name one) (list_all is_repository_name names) all in
    and_from (is_repository_name one) (list_all is_repository_name (names ++ new ∷ [])) parts.0 (all_last names new parts.1 named)

pub named_last : (names : List (List ℕ)) (new : List ℕ) → AreNamed names → is_repository_name new ≡ true → list_any (bytes_eq new) names ≡ false → AreNamed (names ++ new ∷ [])
named_last names new old named unused = record { named = all_last names new old.named named; distinct = distinct_last names new old.distinct unused }

pub names_last : (repos : List NamedRepo) (one : NamedRepo) → repo_names (repos ++ one ∷ []) ≡ repo_names repos ++ one.name ∷ []
names_last [] one = refl
names_last (x ∷ repos) one = ap (λ (names : List (List ℕ)). x.name ∷ names) (names_last repos one)

names_len : (repos : List NamedRepo) → length (repo_names repos) ≡ length repos
names_len [] = refl
names_len (x ∷ repos) = ap suc (names_len repos)

-- one more repository, with its name in the index
pub place_added : (repos : List NamedRepo) (one : NamedRepo) (was is : List ℕ → Option ℕ) (n : ℕ) → ((name : List ℕ) → was name ≡ place_in (repo_names repos) name)
    → list_any (bytes_eq one.name) (repo_names repos) ≡ false → n ≡ length repos → ((name : List ℕ) → is name ≡ cond (bytes_eq one.name name) (Some n) (was name))
    → (name : List ℕ) → is name ≡ place_in (repo_names (repos ++ one ∷ [])) name
place_added repos one was is n old unused last updates name =
    updates name
    ∙ ap (λ (o : Option ℕ). cond (bytes_eq one.name name) (Some n) o) (old name)
    ∙ ap (λ (m : ℕ). cond (bytes_eq one.name name) (Some m) (place_in (repo_names repos) name)) (last ∙ sym (names_len repos))
    ∙ sym (place_last (repo_names repos) one.name name unused)
    ∙ ap (λ (names : List (List ℕ)). place_in names name) (sym (names_last repos one))

-- ---- the name at a place

pub named_at : (repos : List NamedRepo) (i : ℕ) (one : NamedRepo) → slice_get repos i ≡ Some one → list_all is_repository_name (repo_names repos) ≡ true → is_repository_name one.name ≡ true
named_at [] i one there named = nothing_there one there
named_at (x ∷ repos) zero one there named =
    subst (λ (y : NamedRepo). is_repository_name y.name ≡ true) (same_one x one there) (and_parts (is_repository_name x.name) (list_all is_repository_name (repo_names repos)) named).0
named_at (x ∷ repos) (suc i) one there named = named_at repos i one there (and_parts (is_repository_name x.name) (list_all is_repository_name (repo_names repos)) named).1
