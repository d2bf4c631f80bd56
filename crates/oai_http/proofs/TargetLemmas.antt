-- Where targets lead.
use Rattle.std.proofs.Common.{◌≡◌, ◌∙◌, ◌⊎◌, ◌≤◌, ◌+◌, ◌-◌, inl, inr, ℕ, Bool, true, false, ◌||◌, List, [], ◌∷◌, ◌++◌, None, Some, arith, cond, drop, length, refl, subst, sym, take, ap}
use Rattle.std.specs.Str.{bytes_eq}
use Rattle.std.proofs.lemmas.Bool.{and_from, and_parts, cases_Bool, eq-eqb, eqb-true, false≢true, false_from_ne_true, or_from, or_left}
use Rattle.std.proofs.lemmas.List.{drop-take, length-append, length-take, take-append-drop}
use Rattle.oai_http.specs.Targets.{endpoint_at, endpoint_of, front_of, leads_to, leads_to_repository, path_len, path_of}
use Rattle.oai_http.specs.declared.targets.Endpoint.{Endpoint}
use Rattle.oai_http.specs.declared.targets.Endpoint.TheVariants.{Deposits, Requests}

pub clash : {P : Type 0} (b : Bool) → b ≡ true → b ≡ false → P
clash b is lacks = absurd (false≢true (sym lacks ∙ is))

-- ---- equal names

pub bytes_same : (xs : List ℕ) → bytes_eq xs xs ≡ true
bytes_same [] = refl
bytes_same (x ∷ xs) = and_from _ (bytes_eq xs xs) (eq-eqb x x refl) (bytes_same xs)

pub bytes_equal : (xs ys : List ℕ) → bytes_eq xs ys ≡ true → xs ≡ ys
bytes_equal [] [] h = refl
bytes_equal [] (y ∷ ys) h = absurd (false≢true h)
bytes_equal (x ∷ xs) [] h = absurd (false≢true h)
bytes_equal (x ∷ xs) (y ∷ ys) h =
    let parts = and_parts _ (bytes_eq xs ys) h in
    ap (λ (z : ℕ). z ∷ xs) (eqb-true x y parts.0) ∙ ap (λ (zs : List ℕ). y ∷ zs) (bytes_equal xs ys parts.1)

pub bytes_turned : (xs ys : List ℕ) → bytes_eq xs ys ≡ false → bytes_eq ys xs ≡ false
bytes_turned xs ys h = false_from_ne_true (bytes_eq ys xs) (λ same. clash (bytes_eq xs ys) (ap (bytes_eq xs) (bytes_equal ys xs same) ∙ bytes_same xs) h)

-- ---- where a path leads

-- the path of one repository is not another's
leads_other : (endpoint k : Endpoint) (one other : List ℕ) → bytes_eq one other ≡ false → bytes_eq (front_of endpoint ++ one) (front_of k ++ other) ≡ false
leads_other Requests Requests one other h = h
leads_other Requests Deposits one other h = refl
leads_other Deposits Requests one other h = refl
leads_other Deposits Deposits one other h = h

pub leads_not : (endpoint : Endpoint) (one other target : List ℕ) → path_of target ≡ front_of endpoint ++ one → bytes_eq one other ≡ false → leads_to_repository other target ≡ false
leads_not endpoint one other target path apart =
    or_from (bytes_eq (path_of target) (front_of Requests ++ other)) (bytes_eq (path_of target) (front_of Deposits ++ other))
    (ap (λ (p : List ℕ). bytes_eq p (front_of Requests ++ other)) path ∙ leads_other endpoint Requests one other apart)
    (ap (λ (p : List ℕ). bytes_eq p (front_of Deposits ++ other)) path ∙ leads_other endpoint Deposits one other apart)

leads_own : (endpoint : Endpoint) (one : List ℕ) → (bytes_eq (front_of endpoint ++ one) (front_of Requests ++ one) || bytes_eq (front_of endpoint ++ one) (front_of Deposits ++ one)) ≡ true
leads_own Requests one = or_left (bytes_eq one one) false (bytes_same one)
leads_own Deposits one = bytes_same one

pub leads_there : (endpoint : Endpoint) (one target : List ℕ) → path_of target ≡ front_of endpoint ++ one → leads_to_repository one target ≡ true
leads_there endpoint one target path = ap (λ (p : List ℕ). bytes_eq p (front_of Requests ++ one) || bytes_eq p (front_of Deposits ++ one)) path ∙ leads_own endpoint one

-- a path that leads there is one of the two
pub leads_by : (one target : List ℕ) → leads_to_repository one target ≡ true → (endpoint : Endpoint) × (path_of target ≡ front_of endpoint ++ one)
leads_by one target leads = elim (cases_Bool (bytes_eq (path_of target) (front_of Requests ++ one))) [
  | inl asks ↦ (Requests, bytes_equal (path_of target) (front_of Requests ++ one) asks)
  | inr not_so ↦ (Deposits, bytes_equal (path_of target) (front_of Deposits ++ one) (sym (ap (λ b. b || bytes_eq (path_of target) (front_of Deposits ++ one)) not_so) ∙ leads))
]

endpoint_there : (endpoint : Endpoint) (one : List ℕ) → endpoint_at (front_of endpoint ++ one) ≡ Some endpoint
endpoint_there Requests one = refl
endpoint_there Deposits one = refl

pub endpoint_is : (endpoint : Endpoint) (one target : List ℕ) → path_of target ≡ front_of endpoint ++ one → endpoint_of target ≡ Some endpoint
endpoint_is endpoint one target path = ap endpoint_at path ∙ endpoint_there endpoint one

-- what a path leads to tells what its target is for
pub endpoint_leads : (endpoint : Endpoint) (name target : List ℕ) → leads_to endpoint name target ≡ true → endpoint_of target ≡ Some endpoint
endpoint_leads endpoint name target leads = endpoint_is endpoint name target (bytes_equal (path_of target) (front_of endpoint ++ name) leads)

-- and it leads to one repository
pub one_leads : (one other target : List ℕ) → leads_to_repository one target ≡ true → leads_to_repository other target ≡ true → one ≡ other
one_leads one other target first second =
    let by = leads_by one target first in
    elim (cases_Bool (bytes_eq one other)) [
      | inl same ↦ bytes_equal one other same
      | inr apart ↦ clash (leads_to_repository other target) second (leads_not by.0 one other target by.1 apart)
    ]

-- ---- the name behind the front

one_of : (requests deposits : Bool) (endpoint : Endpoint) → cond requests (Some Requests) (cond deposits (Some Deposits) None) ≡ Some endpoint
    → ((requests ≡ true) × (endpoint ≡ Requests)) ⊎ ((deposits ≡ true) × (endpoint ≡ Deposits))
one_of true deposits endpoint at = let same : endpoint ≡ Requests = cc in inl (refl, same)
one_of false true endpoint at = let same : endpoint ≡ Deposits = cc in inr (refl, same)
one_of false false endpoint at = absurd cc

behind : (n : ℕ) (front path : List ℕ) → bytes_eq (take n path) front ≡ true → path ≡ front ++ drop n path
behind n front path begins = sym (take-append-drop n path) ∙ ap (λ (xs : List ℕ). xs ++ drop n path) (bytes_equal (take n path) front begins)

front_there : (endpoint : Endpoint) (path : List ℕ) → endpoint_at path ≡ Some endpoint → path ≡ front_of endpoint ++ drop (length (front_of endpoint)) path
front_there endpoint path at = elim (one_of (bytes_eq (take 5 path) (front_of Requests)) (bytes_eq (take 9 path) (front_of Deposits)) endpoint at) [
  | inl one ↦ subst (λ (e : Endpoint). path ≡ front_of e ++ drop (length (front_of e)) path) (sym one.1) (behind 5 (front_of Requests) path one.0)
  | inr one ↦ subst (λ (e : Endpoint). path ≡ front_of e ++ drop (length (front_of e)) path) (sym one.1) (behind 9 (front_of Deposits) path one.0)
]

pub name_end : (endpoint : Endpoint) (target : List ℕ) (n p : ℕ) → n ≡ length (front_of endpoint) → p ≡ path_len target → endpoint_of target ≡ Some endpoint
    → path_of target ≡ front_of endpoint ++ take (p - n) (drop n target)
name_end endpoint target n p long ends at =
    let path : List ℕ = take p target in
    let same : path_of target ≡ path = ap (λ (k : ℕ). take k target) (sym ends) in
    let there : path ≡ front_of endpoint ++ drop n path =
    subst (λ (k : ℕ). path ≡ front_of endpoint ++ drop k path) (sym long) (front_there endpoint path (ap endpoint_at (sym same) ∙ at)) in
    let fits : n ≤ p = omega (arith, long, ap (λ (xs : List ℕ). length xs) there, length-append (front_of endpoint) (drop n path), length-take p target) in
    let sum : n + (p - n) ≡ p = omega (arith, fits) in
    same ∙ there ∙ ap (λ (xs : List ℕ). front_of endpoint ++ xs) (ap (λ (k : ℕ). drop n (take k target)) (sym sum) ∙ drop-take n (p - n) target)
