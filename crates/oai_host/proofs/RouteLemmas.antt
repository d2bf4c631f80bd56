-- The paths that the route of a repository matches.
use Rattle.std.proofs.Common.{◌≡◌, ◌∙◌, ◌<◌, ℕ, zero, suc, ◌-◌, Bool, true, false, ◌&&◌, ◌==◌, nat_lt, List, [], ◌∷◌, ◌++◌, Option, None, Some, length, take, drop, cond, refl, sym, ap, subst, arith, tests, codes, lit<, is_some, unwrap_or, le_refl, leb, Bor}
use Rattle.std.specs.List.{list_all}
use Rattle.std.specs.Option.{IfNone}
use Rattle.std.specs.Prelude.{IfSome, MatchOption}
use Rattle.std.specs.Str.{IsAscii, IsUtf8}
use Rattle.std.proofs.lemmas.Bool.{and_from, and_parts, cond-false, cond-true, false_from_ne_true, false≢true, le-leb, ltb-true}
use Rattle.std.proofs.lemmas.List.{take_all}
use Rattle.std.proofs.lemmas.Str.{IsUtf8-from_ascii}
use Rattle.matchit.specs.Params.{AllText, named, part_of, walk}
use Rattle.matchit.specs.Router.{RouteOf}
use Rattle.matchit.specs.Rows.{RowsOf, param_token}
use Rattle.matchit.specs.Seek.{first, has_slash, or_else, own, param_step, seek, step}
use Rattle.oai_settings.specs.Config.{is_repository_byte, is_repository_name}
use Rattle.oai_host.specs.Rows.{name_route, name_rows}
use Rattle.oai_http.specs.Targets.{front_of}
use Rattle.oai_http.specs.declared.targets.Endpoint.{Endpoint}
use Rattle.oai_http.specs.declared.targets.Endpoint.TheVariants.{Deposits, Requests}

none_after : {T : Type 0} (t : Bool) (n : ℕ) (path : List ℕ) → ((skip : ℕ) → seek {K = T} skip [] path ≡ None)
    → or_else (seek {K = T} ((cond {A = ℕ × RowsOf T} t (0, []) (n, [])).0 - 1) (cond {A = ℕ × RowsOf T} t (0, []) (n, [])).1 path) None ≡ None
none_after true n path each = ap (λ o. or_else o None) (each 0)
none_after false n path each = ap (λ o. or_else o None) (each (n - 1))

-- no row is found where there is none
seek_none : {T : Type 0} (skip : ℕ) (path : List ℕ) → seek {K = T} skip [] path ≡ None
unfolding seek param_step
seek_none skip [] = refl
seek_none (suc skip) (b ∷ path) = seek_none skip path
seek_none {T} zero (b ∷ path) =
    let t : Bool = cond (b == 47) true (has_slash path) in
    ap (λ o. or_else o (or_else (seek {K = T} ((cond {A = ℕ × RowsOf T} t (0, []) (suc (length path), [])).0 - 1) (cond {A = ℕ × RowsOf T} t (0, []) (suc (length path), [])).1 path) None)) (seek_none 0 path)
    ∙ none_after t (suc (length path)) path (λ skip. seek_none skip path)

-- a path that is passed over to its end is that of the row that ends there
seek_end : {T : Type 0} (rows : RowsOf T) (path : List ℕ) → seek (length path) rows path ≡ own rows
unfolding seek
seek_end rows [] = refl
seek_end rows (b ∷ path) = seek_end rows path

-- the one row that is a parameter takes all of a path without a slash
ends_with : {T : Type 0} (found : T) (path : List ℕ) (s t : Bool) → s ≡ false → t ≡ false
    → or_else (seek {K = T} 0 (cond s (([], found) ∷ []) []) path)
    (or_else (seek {K = T} ((cond {A = ℕ × RowsOf T} t (0, []) (suc (length path), ([], found) ∷ [])).0 - 1) (cond {A = ℕ × RowsOf T} t (0, []) (suc (length path), ([], found) ∷ [])).1 path) None)
    ≡ Some found
ends_with found path true t token slash = absurd (false≢true (sym token))
ends_with found path false true token slash = absurd (false≢true (sym slash))
ends_with {T} found path false false token slash =
    let one_less : suc (length path) - 1 ≡ length path = omega arith in
    ap (λ o. or_else o (or_else (seek {K = T} (suc (length path) - 1) (([], found) ∷ []) path) None)) (seek_none 0 path)
    ∙ ap (λ n. or_else (seek {K = T} n (([], found) ∷ []) path) None) one_less
    ∙ ap (λ o. or_else o None) (seek_end (([], found) ∷ []) path)

at_end : {T : Type 0} (found : T) (b : ℕ) (path : List ℕ) → (param_token == b) ≡ false → has_slash (b ∷ path) ≡ false → seek 0 ((param_token ∷ [], found) ∷ []) (b ∷ path) ≡ Some found
unfolding seek param_step
at_end found b path token slash = ends_with found path (param_token == b) (has_slash (b ∷ path)) token slash

-- a byte of a name is no slash, and below 128
byte_plain : (b : ℕ) → is_repository_byte b ≡ true → ((b == 47) ≡ false) × (b < 128)
byte_plain b h = grind (arith, tests)

no_slash : (name : List ℕ) → list_all is_repository_byte name ≡ true → has_slash name ≡ false
no_slash [] h = refl
no_slash (b ∷ name) h =
    let parts = and_parts (is_repository_byte b) (list_all is_repository_byte name) h in
    cond-false (b == 47) true (has_slash name) (byte_plain b parts.0).0 ∙ no_slash name parts.1

no_token : (b : ℕ) → b < 128 → (param_token == b) ≡ false
no_token b low = grind (arith, tests)

matched : (name : List ℕ) → is_repository_name name ≡ true → first name_rows name ≡ Some name_route
unfolding is_repository_name
matched [] named = absurd (false≢true named)
matched (b ∷ name) named =
    let bytes = (and_parts _ _ named).1 in
    at_end name_route b name (no_token b (byte_plain b (and_parts _ _ bytes).0).1) (no_slash (b ∷ name) bytes)

-- ---- a name is a text

ascii_name : (name : List ℕ) → list_all is_repository_byte name ≡ true → IsAscii name
ascii_name [] h i = lit< tt
ascii_name (b ∷ name) h zero = (byte_plain b (and_parts (is_repository_byte b) (list_all is_repository_byte name) h).0).1
ascii_name (b ∷ name) h (suc i) = ascii_name name (and_parts (is_repository_byte b) (list_all is_repository_byte name) h).1 i

ascii_where : (text : List ℕ) → list_all (λ b. nat_lt b 128) text ≡ true → IsAscii text
ascii_where [] h i = lit< tt
ascii_where (b ∷ text) h zero = ltb-true b 128 (and_parts (nat_lt b 128) (list_all (λ b. nat_lt b 128) text) h).0
ascii_where (b ∷ text) h (suc i) = ascii_where text (and_parts (nat_lt b 128) (list_all (λ b. nat_lt b 128) text) h).1 i

pub name_utf8 : (name : List ℕ) → is_repository_name name ≡ true → IsUtf8 name
unfolding is_repository_name
name_utf8 name named = IsUtf8-from_ascii name (ascii_name name (and_parts _ _ named).1)

-- ---- a path that is routed

none_else : {T : Type 0} (o : Option T) → or_else o None ≡ o
none_else None = refl
none_else (Some x) = refl

nothing : {P T : Type 0} (x : T) → None ≡ Some x → P
nothing {P} {T} x h = absurd (false≢true (ap (λ (o : Option T). is_some o) h))

pub one_some : {T : Type 0} (x y : T) → Some x ≡ Some y → x ≡ y
one_some {T} x y h = ap (λ (o : Option T). unwrap_or o x) h

-- where no row begins with a parameter, the byte leads on alone
by_byte : {T : Type 0} (rows : RowsOf T) (b : ℕ) (path : List ℕ) → step param_token rows ≡ [] → step 257 rows ≡ [] → seek 0 rows (b ∷ path) ≡ seek 0 (step b rows) path
unfolding seek param_step
by_byte {T} rows b path param all =
    let on : Option T = seek 0 (step b rows) path in
    let t : Bool = cond (b == 47) true (has_slash path) in
    ap (λ (rs : RowsOf T). or_else on (or_else (seek {K = T} ((param_step rs (b ∷ path)).0 - 1) (param_step rs (b ∷ path)).1 path) (own (step 257 rows)))) param
    ∙ ap (λ (rs : RowsOf T). or_else on (or_else (seek {K = T} ((cond {A = ℕ × RowsOf T} t (0, []) (suc (length path), [])).0 - 1) (cond {A = ℕ × RowsOf T} t (0, []) (suc (length path), [])).1 path) (own rs))) all
    ∙ ap (λ (o : Option T). or_else on o) (none_after t (suc (length path)) path (λ skip. seek_none skip path))
    ∙ none_else on

-- of one row alone no other is found
only_own : {T : Type 0} (skip : ℕ) (e r : T) (path : List ℕ) → seek skip (([], e) ∷ []) path ≡ Some r → e ≡ r
unfolding seek
only_own skip e r [] found = one_some e r found
only_own (suc skip) e r (b ∷ path) found = only_own skip e r path found
only_own zero e r (b ∷ path) found = nothing r (sym (by_byte (([], e) ∷ []) b path refl refl ∙ seek_none 0 path) ∙ found)

own_cond : {T : Type 0} (t : Bool) (e r : T) (path : List ℕ) → seek 0 (cond t (([], e) ∷ []) []) path ≡ Some r → e ≡ r
own_cond true e r path found = only_own 0 e r path found
own_cond {T} false e r path found = nothing r (sym (seek_none {T = T} 0 path) ∙ found)

own_param : {T : Type 0} (t : Bool) (n : ℕ) (e r : T) (path : List ℕ)
    → seek {K = T} ((cond {A = ℕ × RowsOf T} t (0, []) (n, ([], e) ∷ [])).0 - 1) (cond {A = ℕ × RowsOf T} t (0, []) (n, ([], e) ∷ [])).1 path ≡ Some r → e ≡ r
own_param {T} true n e r path found = nothing r (sym (seek_none {T = T} 0 path) ∙ found)
own_param false n e r path found = only_own (n - 1) e r path found

either : {P T : Type 0} (x y : Option T) (r : T) → or_else x (or_else y None) ≡ Some r → (x ≡ Some r → P) → (y ≡ Some r → P) → P
either None None r found first second = nothing r found
either None (Some y) r found first second = second found
either (Some x) y r found first second = first found

at_param : {T : Type 0} (e r : T) (path : List ℕ) → seek 0 ((param_token ∷ [], e) ∷ []) path ≡ Some r → e ≡ r
unfolding seek param_step
at_param e r [] found = nothing r found
at_param {T} e r (b ∷ path) found =
    let t : Bool = cond (b == 47) true (has_slash path) in
    either (seek 0 (cond (param_token == b) (([], e) ∷ []) []) path) (seek {K = T} ((cond {A = ℕ × RowsOf T} t (0, []) (suc (length path), ([], e) ∷ [])).0 - 1) (cond {A = ℕ × RowsOf T} t (0, []) (suc (length path), ([], e) ∷ [])).1 path)
    r found
    (own_cond (param_token == b) e r path)
    (own_param t (suc (length path)) e r path)

-- ---- its name

-- what the parameter of a route took from the path
abbrev pub taken_by : RouteOf (Unit {0}) → List ℕ → List (List ℕ × List ℕ)
taken_by route path = walk route.pattern route.text path route.names 0 0

part_whole : (path : List ℕ) → part_of path 0 (length path) ≡ path
part_whole path =
    let all : ℕ = length path in
    cond-true (leb 0 all && leb all all) (take (all - 0) (drop 0 path)) [] (and_from (leb 0 all) (leb all all) (le-leb 0 all (omega arith)) (le-leb all all (le_refl all)))
    ∙ take_all (all - 0) path (omega arith)

taken_whole : (path : List ℕ) → taken_by name_route path ≡ (codes "name", path) ∷ []
taken_whole path = ap (λ (part : List ℕ). (codes "name", part) ∷ []) (part_whole path)

-- the parameter of the route that a path matches took all of it
pub record HasName (path : List ℕ) (route : RouteOf (Unit {0})) : Type 0 where
  pub text : AllText (taken_by route path)
  pub taken : named (codes "name") (taken_by route path) ≡ Some path

pub has_name : (path : List ℕ) (route : RouteOf (Unit {0})) → IsUtf8 path → first name_rows path ≡ Some route → HasName path route
has_name path route utf8 found =
    let taken = taken_whole path in
    subst (HasName path) (at_param name_route route path found) (record {
      text = subst AllText (sym taken) (IsUtf8-from_ascii (codes "name") (ascii_where (codes "name") refl), utf8, tt);
      taken = ap (named (codes "name")) taken;
    })

pub is_given : (path : List ℕ) (given : Option (List ℕ)) (result : Option (Bor (List ℕ))) → given ≡ Some path → MatchOption result (given ≡ None) (λ (value : Bor (List ℕ)). given ≡ Some value.now)
    → IfSome result (λ (name : Bor (List ℕ)). name.now ≡ path)
is_given path given None is none = tt
is_given path given (Some value) is some = one_some value.now path (sym some ∙ is)

pub not_none : (P : Type 0) (path : List ℕ) (given : Option (List ℕ)) (result : Option (Bor (List ℕ))) → given ≡ Some path → MatchOption result (given ≡ None) (λ (value : Bor (List ℕ)). given ≡ Some value.now)
    → IfNone result P
not_none P path given None is none = nothing path (sym none ∙ is)
not_none P path given (Some value) is some = tt

-- what matches none is no name
pub no_name : (path : List ℕ) → first name_rows path ≡ None → is_repository_name path ≡ false
no_name path none = false_from_ne_true (is_repository_name path) (λ is. nothing name_route (sym none ∙ matched path is))

-- ---- the one way in which a path is one of a repository

pub same_front : (endpoint : Endpoint) (one other : List ℕ) → front_of endpoint ++ one ≡ front_of endpoint ++ other → one ≡ other
same_front Requests one other h = ap (drop 5) h
same_front Deposits one other h = ap (drop 9) h
