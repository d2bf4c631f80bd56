-- An open list that is spelled is read back: no word of it has a space, so each ends at the first space behind it.
use Rattle.std.proofs.Common.{◌≡◌, ◌∙◌, inl, inr, ℕ, ℤ, ◌+◌, ◌<◌, ◌^◌, ◌||◌, ◌⊎◌, zero, suc, arith, Bool, true, false, not, nat_lt, decimal, List, [], ◌∷◌, ◌++◌, append_assoc, length, take, drop, Option, None, Some, IfSome, Err, FitsSigned, w64, codes, refl, sym, ap, ap₂, subst, eqb, add-one, lit<}
use Rattle.std.specs.Fmt.{signed_decimal}
use Rattle.std.specs.Int.{IsInRange}
use Rattle.std.specs.List.{All, after_first, before_first, list_all, onto_first, position_or_len, slice_split}
use Rattle.std.specs.Char.{is_ascii_alphanumeric}
use Rattle.std.specs.Str.{IsAscii, IsUtf8, bytes_eq}
use Rattle.std.specs.Prelude.{nat_le}
use Rattle.std.proofs.lemmas.Bool.{and_from, and_parts, cases_Bool, cond-false, cond-true, eqb-true, false_from_ne_true, ltb-true}
use Rattle.std.proofs.lemmas.Str.{IsUtf8-from_ascii}
use Rattle.std.proofs.lemmas.Bool.Decides.{nat_tests}
use Rattle.std.proofs.lemmas.List.{append-nil}
use Rattle.oai_names.specs.Names.{is_colon, is_one_of, is_prefix, is_prefix_byte, may_be_prefix}
use Rattle.oai_names.specs.Sets.{is_set_spec, may_be_set_spec}
use Rattle.oai_names.specs.declared.limits.TheConstants.{MAX_PREFIX_BYTES, MAX_SET_SPEC_BYTES}
use Rattle.oai_names.specs.declared.list_verbs.ListVerb.{ListVerb}
use Rattle.oai_names.specs.declared.list_verbs.ListVerb.TheVariants.{Identifiers, Records, Sets}
use Rattle.oai_bytes.specs.Numbers.{moment_of, number_in}
use Rattle.oai_bytes.specs.Parts.{part as first_word, rest as next_words}
use Rattle.oai_bytes.proofs.NumeralLemmas.{moment_avoids, moment_written, number_avoids, number_written}
use Rattle.oai_args.specs.Verbs.{is_of_records, name_of, verb_of_list}
use Rattle.oai_item.specs.declared.faults.Fault.{Fault}
use Rattle.oai_item.specs.declared.faults.Fault.TheVariants.{Damaged, NoMemory}
use Rattle.oai_repo.specs.Saved.{SavedListState, has_named_set}
use Rattle.oai_http.proofs.TargetLemmas.{bytes_same}
use Rattle.oai_host.specs.ListReadings.{IsListReading}
use Rattle.oai_host.specs.Saved.{is_space_character, list_bytes, list_in, set_in, spaced, spaced_set, verb_in, word, words_from}
use Rattle.oai_host.specs.Saving.{CanBeFilter, CanBeList}

-- ---- no space stands in a setSpec, or in a metadataPrefix

abbrev is_other : ℕ → Bool
is_other b = not (is_space_character b)

prefix_is_other : (b : ℕ) → is_prefix_byte b ≡ true → is_other b ≡ true
prefix_is_other b h = elim (cases_Bool (is_space_character b)) [
  | inl space ↦ let clash : is_prefix_byte 32 ≡ true = subst (λ (n : ℕ). is_prefix_byte n ≡ true) (eqb-true b 32 space) h in cc
  | inr other ↦ ap not other
]

abbrev are_prefix_bytes : List ℕ → Bool
are_prefix_bytes part = list_all is_prefix_byte part

parts_have_them : (parts : List (List ℕ)) → list_all is_prefix parts ≡ true → list_all are_prefix_bytes parts ≡ true
unfolding is_prefix
parts_have_them [] h = refl
parts_have_them (part ∷ parts) h =
    let both = and_parts (is_prefix part) (list_all is_prefix parts) h in
    let one = and_parts (not (eqb (length part) 0)) (are_prefix_bytes part) both.0 in
    and_from (are_prefix_bytes part) (list_all are_prefix_bytes parts) one.1 (parts_have_them parts both.1)

onto_parts : (b : ℕ) (parts : List (List ℕ)) → list_all are_prefix_bytes (onto_first b parts) ≡ true → (is_prefix_byte b ≡ true) × (list_all are_prefix_bytes parts ≡ true)
onto_parts b [] h =
    let both = and_parts (are_prefix_bytes (b ∷ [])) true h in
    ((and_parts (is_prefix_byte b) true both.0).0, refl)
onto_parts b (part ∷ parts) h =
    let both = and_parts (are_prefix_bytes (b ∷ part)) (list_all are_prefix_bytes parts) h in
    let one = and_parts (is_prefix_byte b) (are_prefix_bytes part) both.0 in
    (one.0, and_from (are_prefix_bytes part) (list_all are_prefix_bytes parts) one.1 both.1)

-- what holds of the bytes of its parts and of colons holds of all
module _ (p : ℕ → Bool) (of_colon : p 58 ≡ true) (of_part : (b : ℕ) → is_prefix_byte b ≡ true → p b ≡ true) where
  all_by_parts : (text : List ℕ) → list_all are_prefix_bytes (slice_split is_colon text) ≡ true → list_all p text ≡ true
  all_by_parts [] h = refl
  all_by_parts (b ∷ text) h = elim (cases_Bool (is_colon b)) [
    | inl colon ↦
        let behind : list_all are_prefix_bytes ([] ∷ slice_split is_colon text) ≡ true =
        sym (ap (list_all are_prefix_bytes) (cond-true (is_colon b) ([] ∷ slice_split is_colon text) (onto_first b (slice_split is_colon text)) colon)) ∙ h in
        and_from (p b) (list_all p text) (subst (λ (n : ℕ). p n ≡ true) (sym (eqb-true b 58 colon)) of_colon) (all_by_parts text behind)
    | inr other ↦
        let onto : list_all are_prefix_bytes (onto_first b (slice_split is_colon text)) ≡ true =
        sym (ap (list_all are_prefix_bytes) (cond-false (is_colon b) ([] ∷ slice_split is_colon text) (onto_first b (slice_split is_colon text)) other)) ∙ h in
        let both = onto_parts b (slice_split is_colon text) onto in
        and_from (p b) (list_all p text) (of_part b both.0) (all_by_parts text both.1)
  ]

  spec_bytes : (spec : List ℕ) → may_be_set_spec spec ≡ true → list_all p spec ≡ true
  unfolding is_set_spec
  spec_bytes spec h = all_by_parts spec (parts_have_them (slice_split is_colon spec) (and_parts (is_set_spec spec) (nat_le (length spec) MAX_SET_SPEC_BYTES) h).0)

  prefix_bytes : (prefix : List ℕ) → may_be_prefix prefix ≡ true → list_all p prefix ≡ true
  unfolding is_prefix
  prefix_bytes prefix h =
      let named = and_parts (is_prefix prefix) (nat_le (length prefix) MAX_PREFIX_BYTES) h in
      each prefix (and_parts (not (eqb (length prefix) 0)) (are_prefix_bytes prefix) named.0).1
    where
      each : (bytes : List ℕ) → are_prefix_bytes bytes ≡ true → list_all p bytes ≡ true
      each [] h = refl
      each (b ∷ bytes) h =
          let both = and_parts (is_prefix_byte b) (are_prefix_bytes bytes) h in
          and_from (p b) (list_all p bytes) (of_part b both.0) (each bytes both.1)

no_space : (spec : List ℕ) → may_be_set_spec spec ≡ true → list_all is_other spec ≡ true
no_space spec h = spec_bytes is_other refl prefix_is_other spec h

prefix_others : (prefix : List ℕ) → may_be_prefix prefix ≡ true → list_all is_other prefix ≡ true
prefix_others prefix h = prefix_bytes is_other refl prefix_is_other prefix h

-- ---- and they are of ASCII

abbrev is_low : ℕ → Bool
is_low b = nat_lt b 128

one_low : (ms : List ℕ) (b : ℕ) → list_all is_low ms ≡ true → is_one_of ms b ≡ true → is_low b ≡ true
one_low [] b all is = cc
one_low (m ∷ ms) b all is =
    let parts = and_parts (is_low m) (list_all is_low ms) all in by_test (eqb m b) refl parts.0 (one_low ms b parts.1) is
  where
    by_test : (t : Bool) → eqb m b ≡ t → is_low m ≡ true → (is_one_of ms b ≡ true → is_low b ≡ true) → (t || is_one_of ms b) ≡ true → is_low b ≡ true
    by_test true same here later is = subst (λ (n : ℕ). is_low n ≡ true) (eqb-true m b same) here
    by_test false same here later is = later is

alphanumeric_low : (b : ℕ) → is_ascii_alphanumeric b ≡ true → is_low b ≡ true
alphanumeric_low b is = grind (arith, nat_tests, is)

prefix_is_low : (b : ℕ) → is_prefix_byte b ≡ true → is_low b ≡ true
prefix_is_low b is = by_test (is_ascii_alphanumeric b) refl is
  where
    by_test : (t : Bool) → is_ascii_alphanumeric b ≡ t → (t || is_one_of (codes "-_.!~*'()") b) ≡ true → is_low b ≡ true
    by_test true here is = alphanumeric_low b here
    by_test false here is = one_low (codes "-_.!~*'()") b refl is

low_ascii : (text : List ℕ) → list_all is_low text ≡ true → IsAscii text
low_ascii [] h i = lit< tt
low_ascii (b ∷ text) h zero = ltb-true b 128 (and_parts (is_low b) (list_all is_low text) h).0
low_ascii (b ∷ text) h (suc i) = low_ascii text (and_parts (is_low b) (list_all is_low text) h).1 i

pub spec_utf8 : (spec : List ℕ) → may_be_set_spec spec ≡ true → IsUtf8 spec
spec_utf8 spec h = IsUtf8-from_ascii spec (low_ascii spec (spec_bytes is_low refl prefix_is_low spec h))

pub prefix_utf8 : (prefix : List ℕ) → may_be_prefix prefix ≡ true → IsUtf8 prefix
prefix_utf8 prefix h = IsUtf8-from_ascii prefix (low_ascii prefix (prefix_bytes is_low refl prefix_is_low prefix h))

-- ---- no space stands in a number, or in the name of a verb

digit_no_space : (b : ℕ) → IsInRange 48 57 b → is_space_character b ≡ false
digit_no_space b within = false_from_ne_true (is_space_character b) (λ e. omega (arith, eqb-true b 32 e, within.0))

others_of : (text : List ℕ) → All (λ b. is_space_character b ≡ false) text → list_all is_other text ≡ true
others_of [] none = refl
others_of (b ∷ text) none = and_from (is_other b) (list_all is_other text) (ap not (none 0 0 (omega arith))) (others_of text (λ k d h. none (suc k) d (omega (arith, h))))

number_others : (n : ℕ) → n < 2 ^ 64 → list_all is_other (decimal n) ≡ true
number_others n small = others_of (decimal n) (number_avoids is_space_character digit_no_space n small)

moment_others : (m : ℤ) → FitsSigned w64 m → list_all is_other (signed_decimal m) ≡ true
moment_others m fits = others_of (signed_decimal m) (moment_avoids is_space_character digit_no_space refl m fits)

verb_others : (verb : ListVerb) → list_all is_other (name_of (verb_of_list verb)) ≡ true
verb_others Identifiers = refl
verb_others Records = refl
verb_others Sets = refl

-- ---- so a word ends at the first one

space_at : (spec name : List ℕ) → list_all is_other spec ≡ true → position_or_len is_space_character (spec ++ 32 ∷ name) ≡ length spec
space_at [] name h = refl
space_at (b ∷ spec) name h =
    let both = and_parts (is_other b) (list_all is_other spec) h in
    let n : ℕ = position_or_len is_space_character (spec ++ 32 ∷ name) in
    cond-true (is_other b) (1 + n) 0 both.0 ∙ ap (λ (m : ℕ). 1 + m) (space_at spec name both.1) ∙ omega arith

front_there : (spec name : List ℕ) → take (length spec) (spec ++ 32 ∷ name) ≡ spec
front_there [] name = refl
front_there (b ∷ spec) name = ap (λ (bs : List ℕ). b ∷ bs) (front_there spec name)

back_there : (spec name : List ℕ) → drop (suc (length spec)) (spec ++ 32 ∷ name) ≡ name
back_there [] name = refl
back_there (b ∷ spec) name = back_there spec name

word_back : (text rest : List ℕ) → list_all is_other text ≡ true → first_word (text ++ 32 ∷ rest) ≡ text
word_back text rest h = ap (λ (k : ℕ). take k (text ++ 32 ∷ rest)) (space_at text rest h) ∙ front_there text rest

rest_back : (text rest : List ℕ) → list_all is_other text ≡ true → next_words (text ++ 32 ∷ rest) ≡ rest
rest_back text rest h =
    let line : List ℕ = text ++ 32 ∷ rest in
    ap (λ (k : ℕ). drop (k + 1) line) (space_at text rest h) ∙ ap (λ (k : ℕ). drop k line) (add-one (length text)) ∙ back_there text rest

pub set_back : (spec name : List ℕ) → may_be_set_spec spec ≡ true → has_named_set (before_first is_space_character (spec ++ 32 ∷ name), after_first is_space_character (spec ++ 32 ∷ name)) ≡ has_named_set (spec, name)
set_back spec name h = ap₂ (λ (s n : List ℕ). has_named_set (s, n)) (word_back spec name (no_space spec h)) (rest_back spec name (no_space spec h))

-- ---- the last word, with nothing behind it or a setSpec

no_space_at : (text : List ℕ) → list_all is_other text ≡ true → position_or_len is_space_character text ≡ length text
no_space_at [] h = refl
no_space_at (b ∷ text) h =
    let both = and_parts (is_other b) (list_all is_other text) h in
    let n : ℕ = position_or_len is_space_character text in
    cond-true (is_other b) (1 + n) 0 both.0 ∙ ap (λ (m : ℕ). 1 + m) (no_space_at text both.1) ∙ omega arith

front_all : (text : List ℕ) → take (length text) text ≡ text
front_all [] = refl
front_all (b ∷ text) = ap (λ (bs : List ℕ). b ∷ bs) (front_all text)

back_all : (text : List ℕ) → drop (suc (length text)) text ≡ []
back_all [] = refl
back_all (b ∷ text) = back_all text

last_word : (text : List ℕ) (set : Option (List ℕ)) → list_all is_other text ≡ true → first_word (text ++ spaced_set set) ≡ text
unfolding spaced
last_word text None h = ap first_word (append-nil text) ∙ ap (λ (k : ℕ). take k text) (no_space_at text h) ∙ front_all text
last_word text (Some set) h = word_back text set h

some_set : (set : List ℕ) → may_be_set_spec set ≡ true → set_in set ≡ Some set
unfolding is_set_spec is_prefix
some_set [] h = cc
some_set (b ∷ set) h = refl

last_set : (text : List ℕ) (set : Option (List ℕ)) → list_all is_other text ≡ true → IfSome set (λ set. may_be_set_spec set ≡ true) → set_in (next_words (text ++ spaced_set set)) ≡ set
unfolding spaced
last_set text None h is =
    ap (λ (bytes : List ℕ). set_in (next_words bytes)) (append-nil text)
    ∙ ap (λ (k : ℕ). set_in (drop (k + 1) text)) (no_space_at text h)
    ∙ ap (λ (k : ℕ). set_in (drop k text)) (add-one (length text))
    ∙ ap set_in (back_all text)
last_set text (Some set) h is = ap set_in (rest_back text set h) ∙ some_set set is

-- ---- the words of a list

words_are : (a b c d e f g t : List ℕ)
    → a ++ spaced b ++ spaced c ++ spaced d ++ spaced e ++ spaced f ++ spaced g ++ t
    ≡ a ++ 32 ∷ (b ++ 32 ∷ (c ++ 32 ∷ (d ++ 32 ∷ (e ++ 32 ∷ (f ++ 32 ∷ (g ++ t))))))
unfolding spaced
words_are a b c d e f g t =
    let u : List ℕ = 32 ∷ (g ++ t) in
    let v : List ℕ = 32 ∷ (f ++ u) in
    let w : List ℕ = 32 ∷ (e ++ v) in
    let x : List ℕ = 32 ∷ (d ++ w) in
    let y : List ℕ = 32 ∷ (c ++ x) in
    append_assoc (a ++ spaced b ++ spaced c ++ spaced d ++ spaced e ++ spaced f) (spaced g) t
    ∙ append_assoc (a ++ spaced b ++ spaced c ++ spaced d ++ spaced e) (spaced f) u
    ∙ append_assoc (a ++ spaced b ++ spaced c ++ spaced d) (spaced e) v
    ∙ append_assoc (a ++ spaced b ++ spaced c) (spaced d) w
    ∙ append_assoc (a ++ spaced b) (spaced c) x
    ∙ append_assoc a (spaced b) y

verb_back : (verb : ListVerb) → is_of_records verb ≡ true → verb_in (name_of (verb_of_list verb)) ≡ Some verb
unfolding verb_in
verb_back Identifiers h = refl
verb_back Records h = refl
verb_back Sets h = cc

read_all : (bytes : List ℕ) (number : ℕ) (verb : ListVerb) (end : ℤ) (given : ℕ) (lower upper : ℤ) → number_in (word 0 bytes) ≡ Some number → verb_in (word 1 bytes) ≡ Some verb → moment_of (word 2 bytes) ≡ Some end
    → number_in (word 3 bytes) ≡ Some given → moment_of (word 5 bytes) ≡ Some lower → moment_of (word 6 bytes) ≡ Some upper
    → list_in bytes ≡ Some (record {
      number = number;
      verb = verb;
      filter = record { prefix = word 4 bytes; lower = lower; upper = upper; set = set_in (words_from 7 bytes) };
      end = end;
      given = given;
    })
unfolding list_in
read_all bytes number verb end given lower upper a b c d e f = rw (a, b, c, d, e, f) refl

pub list_back : (list : SavedListState) → CanBeList list → list_in (list_bytes list) ≡ Some list
list_back list is =
    let a : List ℕ = decimal list.number in
    let b : List ℕ = name_of (verb_of_list list.verb) in
    let c : List ℕ = signed_decimal list.end in
    let d : List ℕ = decimal list.given in
    let e : List ℕ = list.filter.prefix in
    let f : List ℕ = signed_decimal list.filter.lower in
    let g : List ℕ = signed_decimal list.filter.upper in
    let t : List ℕ = spaced_set list.filter.set in
    let six : List ℕ = g ++ t in
    let five : List ℕ = f ++ 32 ∷ six in
    let four : List ℕ = e ++ 32 ∷ five in
    let three : List ℕ = d ++ 32 ∷ four in
    let two : List ℕ = c ++ 32 ∷ three in
    let one : List ℕ = b ++ 32 ∷ two in
    let line : List ℕ = a ++ 32 ∷ one in
    let last : list_all is_other g ≡ true = moment_others list.filter.upper is.filter.upper in
    let from_1 : words_from 1 line ≡ one = rest_back a one (number_others list.number is.number) in
    let from_2 : words_from 2 line ≡ two = ap (words_from 1) from_1 ∙ rest_back b two (verb_others list.verb) in
    let from_3 : words_from 3 line ≡ three = ap (words_from 1) from_2 ∙ rest_back c three (moment_others list.end is.end) in
    let from_4 : words_from 4 line ≡ four = ap (words_from 1) from_3 ∙ rest_back d four (number_others list.given is.given) in
    let from_5 : words_from 5 line ≡ five = ap (words_from 1) from_4 ∙ rest_back e five (prefix_others e is.filter.prefix) in
    let from_6 : words_from 6 line ≡ six = ap (words_from 1) from_5 ∙ rest_back f six (moment_others list.filter.lower is.filter.lower) in
    let prefix : word 4 line ≡ e = ap first_word from_4 ∙ word_back e five (prefix_others e is.filter.prefix) in
    let set : set_in (words_from 7 line) ≡ list.filter.set = ap (λ (bytes : List ℕ). set_in (next_words bytes)) from_6 ∙ last_set g list.filter.set last is.filter.set in
    ap list_in (words_are a b c d e f g t)
    ∙ read_all line list.number list.verb list.end list.given list.filter.lower list.filter.upper
    (ap number_in (word_back a one (number_others list.number is.number)) ∙ number_written list.number is.number)
    (ap (λ (bytes : List ℕ). verb_in (first_word bytes)) from_1 ∙ ap verb_in (word_back b two (verb_others list.verb)) ∙ verb_back list.verb is.verb)
    (ap (λ (bytes : List ℕ). moment_of (first_word bytes)) from_2 ∙ ap moment_of (word_back c three (moment_others list.end is.end)) ∙ moment_written list.end is.end)
    (ap (λ (bytes : List ℕ). number_in (first_word bytes)) from_3 ∙ ap number_in (word_back d four (number_others list.given is.given)) ∙ number_written list.given is.given)
    (ap (λ (bytes : List ℕ). moment_of (first_word bytes)) from_5 ∙ ap moment_of (word_back f six (moment_others list.filter.lower is.filter.lower)) ∙ moment_written list.filter.lower is.filter.lower)
    (ap (λ (bytes : List ℕ). moment_of (first_word bytes)) from_6 ∙ ap moment_of (last_word g list.filter.set last) ∙ moment_written list.filter.upper is.filter.upper)
    ∙ ap₂ (λ (p : List ℕ) (s : Option (List ℕ)). Some (record {
      number = list.number;
      verb = list.verb;
      filter = record { prefix = p; lower = list.filter.lower; upper = list.filter.upper; set = s };
      end = list.end;
      given = list.given;
    })) prefix set

-- ---- and nothing else is read as one

pub never_of : (bytes : List ℕ) → None ≡ list_in bytes → (list : SavedListState) → CanBeList list → bytes ≡ list_bytes list → ⊥
never_of bytes none list is spelled = let clash : None ≡ Some list = none ∙ ap list_in spelled ∙ list_back list is in cc

-- the words of a list are its own, so what refuses them refuses the list
same_list : (bytes : List ℕ) (read list : SavedListState) → Some read ≡ list_in bytes → CanBeList list → bytes ≡ list_bytes list → read ≡ list
same_list bytes read list there is spelled = let same : Some read ≡ Some list = there ∙ ap list_in spelled ∙ list_back list is in cc

pub no_filter : (bytes : List ℕ) (read : SavedListState) (fault : Fault) → Some read ≡ list_in bytes → ((fault ≡ Damaged) × (CanBeFilter read.filter → ⊥)) ⊎ (fault ≡ NoMemory) → IsListReading bytes (Err fault)
no_filter bytes read fault there (inl damaged) =
    inl (damaged.0, λ list is spelled. damaged.1 (subst (λ (l : SavedListState). CanBeFilter l.filter) (sym (same_list bytes read list there is spelled)) is.filter))
no_filter bytes read fault there (inr short) = inr short

-- its words are spelled otherwise, so they are no list's
pub other_bytes : (bytes spelled : List ℕ) (read : SavedListState) → Some read ≡ list_in bytes → spelled ≡ list_bytes read → bytes_eq spelled bytes ≡ false → IsListReading bytes (Err Damaged)
other_bytes bytes spelled read there are other =
    inl (
      refl,
      λ list is own.
          let same : spelled ≡ bytes = are ∙ ap list_bytes (same_list bytes read list there is own) ∙ sym own in
          let clash : true ≡ false = sym (bytes_same bytes) ∙ ap (λ (b : List ℕ). bytes_eq b bytes) (sym same) ∙ other in cc,
    )
