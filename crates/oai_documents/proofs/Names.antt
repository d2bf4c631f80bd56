-- Names of ASCII are QNames, with a prefix or without.
use Rattle.std.proofs.Common.{◌≡◌, ◌∙◌, ◌+◌, ◌<◌, ℕ, Bool, true, false, ◌&&◌, ◌||◌, not, List, [], ◌∷◌, ◌++◌, length, drop, refl, sym, ap, append_assoc, arith}
use Rattle.std.specs.Prelude.{nat_lt}
use Rattle.std.specs.List.{list_all, position_or_len, prefix_len}
use Rattle.std.proofs.lemmas.Bool.{and_from, and_parts, cond-true, cond-false, lt-ltb, or_left, or_right}
use Rattle.std.proofs.lemmas.Bool.Decides.{nat_tests}
use Rattle.std.proofs.lemmas.List.{drop_at, length-append, take_at}
use Rattle.std.proofs.lemmas.List.Folds.{list_all-append}
use Rattle.oai_names.specs.Names.{is_colon}
use Rattle.oai_names.proofs.Lists.{all-weaker}
use Rattle.oai_item.specs.Rules.{is_element_name, is_element_name_byte as is_rule_byte, is_first_byte, is_name}
use Rattle.oai_xml.specs.Ascii.{is_ascii_ncname}
use Rattle.oai_xml.specs.QNames.{is_ascii_further, is_ascii_start, is_name_byte, is_ncname, is_prefixed, is_qname, local_of, prefix_of}
use Rattle.oai_xml.proofs.NameLemmas.{ascii_ncname}

-- ---- bytes of such names

start_further : (b : ℕ) → is_ascii_start b ≡ true → is_ascii_further b ≡ true
start_further b is = rw is refl

further_apart : (b : ℕ) → is_ascii_further b ≡ true → not (is_colon b) ≡ true
further_apart b is = grind (arith, nat_tests, is)

further_byte : (b : ℕ) → is_ascii_further b ≡ true → is_name_byte b ≡ true
further_byte b is = grind (arith, nat_tests, is)

pub all_further : (name : List ℕ) → is_ascii_ncname name ≡ true → list_all is_ascii_further name ≡ true
all_further [] is = cc
all_further (b ∷ bytes) is =
    let parts = and_parts (is_ascii_start b) (list_all is_ascii_further bytes) is in
    and_from (is_ascii_further b) (list_all is_ascii_further bytes) (start_further b parts.0) parts.1

name_bytes : (name : List ℕ) → is_ascii_ncname name ≡ true → list_all is_name_byte name ≡ true
name_bytes name is = all-weaker is_ascii_further is_name_byte further_byte name (all_further name is)

no_colons : (name : List ℕ) → is_ascii_ncname name ≡ true → list_all (λ b. not (is_colon b)) name ≡ true
no_colons name is = all-weaker is_ascii_further (λ b. not (is_colon b)) further_apart name (all_further name is)

-- ---- without a prefix

all_passed : (p : ℕ → Bool) (xs : List ℕ) → list_all p xs ≡ true → prefix_len p xs ≡ length xs
all_passed p [] all = refl
all_passed p (x ∷ xs) all =
    let parts = and_parts (p x) (list_all p xs) all in
    let others = all_passed p xs parts.1 in
    cond-true (p x) (1 + prefix_len p xs) 0 parts.0 ∙ omega (arith, others)

never_below : (n : ℕ) → nat_lt n n ≡ false
never_below n = grind (arith, nat_tests)

pub unprefixed : (name : List ℕ) → is_ascii_ncname name ≡ true → is_prefixed name ≡ false
unprefixed name is = ap (λ n. nat_lt n (length name)) (all_passed (λ b. not (is_colon b)) name (no_colons name is)) ∙ never_below (length name)

pub no_prefix : (name : List ℕ) → is_ascii_ncname name ≡ true → prefix_of name ≡ []
unfolding prefix_of
no_prefix name is = cond-false (is_prefixed name) _ [] (unprefixed name is)

whole_local : (name : List ℕ) → is_ascii_ncname name ≡ true → local_of name ≡ name
unfolding local_of
whole_local name is = cond-false (is_prefixed name) _ name (unprefixed name is)

pub plain_qname : (name : List ℕ) → is_ascii_ncname name ≡ true → is_qname name ≡ true
unfolding is_qname
plain_qname name is =
    let front = and_from (list_all is_name_byte name) (not (is_prefixed name) || is_ncname (prefix_of name)) (name_bytes name is)
    (or_left (not (is_prefixed name)) (is_ncname (prefix_of name)) (ap not (unprefixed name is))) in
    and_from _ (is_ncname (local_of name)) front (ap is_ncname (whole_local name is) ∙ ascii_ncname name is)

-- ---- with a prefix

passed_up_to : (p : ℕ → Bool) (xs rest : List ℕ) (y : ℕ) → list_all p xs ≡ true → p y ≡ false → prefix_len p (xs ++ y ∷ rest) ≡ length xs
passed_up_to p [] rest y all stops = cond-false (p y) (1 + prefix_len p rest) 0 stops
passed_up_to p (x ∷ xs) rest y all stops =
    let parts = and_parts (p x) (list_all p xs) all in
    let others = passed_up_to p xs rest y parts.1 stops in
    cond-true (p x) (1 + prefix_len p (xs ++ y ∷ rest)) 0 parts.0 ∙ omega (arith, others)

colon_at : (prefix name : List ℕ) → is_ascii_ncname prefix ≡ true → position_or_len is_colon (prefix ++ 58 ∷ name) ≡ length prefix
colon_at prefix name is = passed_up_to (λ b. not (is_colon b)) prefix name 58 (no_colons prefix is) refl

pub prefixed : (prefix name : List ℕ) → is_ascii_ncname prefix ≡ true → is_prefixed (prefix ++ 58 ∷ name) ≡ true
prefixed prefix name is =
    let long = length-append prefix (58 ∷ name) in
    let within : length prefix < length (prefix ++ 58 ∷ name) = omega (arith, long) in
    ap (λ n. nat_lt n (length (prefix ++ 58 ∷ name))) (colon_at prefix name is) ∙ lt-ltb (length prefix) (length (prefix ++ 58 ∷ name)) within

pub prefix_is : (prefix name : List ℕ) → is_ascii_ncname prefix ≡ true → prefix_of (prefix ++ 58 ∷ name) ≡ prefix
unfolding prefix_of
prefix_is prefix name is =
    cond-true (is_prefixed (prefix ++ 58 ∷ name)) _ [] (prefixed prefix name is)
    ∙ take_at prefix (58 ∷ name) (position_or_len is_colon (prefix ++ 58 ∷ name)) (sym (colon_at prefix name is))

behind_colon : (prefix name : List ℕ) (n : ℕ) → n ≡ length prefix → drop (n + 1) (prefix ++ 58 ∷ name) ≡ name
behind_colon prefix name n at =
    let long = length-append prefix (58 ∷ []) in
    let place : n + 1 ≡ length (prefix ++ 58 ∷ []) = omega (arith, at, long) in
    ap (drop (n + 1)) (sym (append_assoc prefix (58 ∷ []) name)) ∙ drop_at (prefix ++ 58 ∷ []) name (n + 1) (sym place)

pub local_is : (prefix name : List ℕ) → is_ascii_ncname prefix ≡ true → local_of (prefix ++ 58 ∷ name) ≡ name
unfolding local_of
local_is prefix name is =
    cond-true (is_prefixed (prefix ++ 58 ∷ name)) _ (prefix ++ 58 ∷ name) (prefixed prefix name is)
    ∙ behind_colon prefix name (position_or_len is_colon (prefix ++ 58 ∷ name)) (colon_at prefix name is)

pub prefixed_qname : (prefix name : List ℕ) → is_ascii_ncname prefix ≡ true → is_ascii_ncname name ≡ true → is_qname (prefix ++ 58 ∷ name) ≡ true
unfolding is_qname
prefixed_qname prefix name first second =
    let whole : List ℕ = prefix ++ 58 ∷ name in
    let bytes = list_all-append is_name_byte prefix (58 ∷ name) ∙ and_from (list_all is_name_byte prefix) (list_all is_name_byte (58 ∷ name)) (name_bytes prefix first) (name_bytes name second) in
    let front = and_from (list_all is_name_byte whole) (not (is_prefixed whole) || is_ncname (prefix_of whole)) bytes
    (or_right (not (is_prefixed whole)) (is_ncname (prefix_of whole)) (ap is_ncname (prefix_is prefix name first) ∙ ascii_ncname prefix first)) in
    and_from _ (is_ncname (local_of whole)) front (ap is_ncname (local_is prefix name first) ∙ ascii_ncname name second)

-- ---- names that keep the rules of formats

rule_byte : (b : ℕ) → is_rule_byte b ≡ true → is_ascii_further b ≡ true
rule_byte b is = grind (arith, nat_tests, is)

pub rule_name : (name : List ℕ) → is_name name ≡ true → is_ascii_ncname name ≡ true
unfolding is_element_name
rule_name [] is = cc
rule_name (b ∷ bytes) is =
    let grammar = (and_parts (is_first_byte b && list_all is_rule_byte bytes) _ is).0 in
    let parts = and_parts (is_first_byte b) (list_all is_rule_byte bytes) grammar in
    and_from (is_ascii_start b) (list_all is_ascii_further bytes) parts.0 (all-weaker is_rule_byte is_ascii_further rule_byte bytes parts.1)
