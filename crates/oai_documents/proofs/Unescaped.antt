-- Texts that no escape changes: times, numbers and fixed words.
use Rattle.std.proofs.Common.{◌≡◌, ◌∙◌, ◌+◌, ◌<◌, ℕ, ℤ, Bool, true, false, not, eqb, cond, List, [], ◌∷◌, ◌++◌, codes, refl, ap, arith}
use Rattle.std.specs.Fmt.{decimal}
use Rattle.std.proofs.lemmas.Bool.{and_parts}
use Rattle.std.proofs.lemmas.Bool.Decides.{nat_tests}
use Rattle.oai_names.specs.Escapes.{attribute_spelling, escaped, escaped_attribute, escaped_text, text_spelling}
use Rattle.oai_names.proofs.Cuts.{lacks}
use Rattle.oai_time.specs.TimeTexts.{datestamp_text, second_text}
use Rattle.oai_time.specs.declared.granularity.Granularity.{Granularity}
use Rattle.oai_item.specs.declared.deleted_record.DeletedRecord.{DeletedRecord}
use Rattle.oai_item.specs.declared.deleted_record.DeletedRecord.TheVariants.{No, Transient, Persistent}
use Rattle.oai_answers.specs.Documents.{code_of, deleted_text, granularity_text, message_of}
use Rattle.oai_time.specs.declared.granularity.Granularity.TheVariants.{Day, Second}
use Rattle.oai_answers.specs.declared.errors.ErrorCode.{ErrorCode}
use Rattle.oai_answers.specs.declared.errors.ErrorCode.TheVariants.{BadVerb, BadArgument, BadResumptionToken, CannotDisseminateFormat, IdDoesNotExist, NoRecordsMatch, NoMetadataFormats, NoSetHierarchy}
use Rattle.oai_answers.proofs.Printed.{IsNoTime, angle_is, datestamp_lacks, decimal_lacks, quote_is, second_lacks}

-- ---- bytes that are escaped

-- none of them stands in the text
pub record IsFree (bytes : List ℕ) : Type 0 where
  pub ampersand : lacks 38 bytes ≡ true
  pub less : lacks 60 bytes ≡ true
  pub greater : lacks 62 bytes ≡ true
  pub cr : lacks 13 bytes ≡ true
  pub quote : lacks 34 bytes ≡ true
  pub tab : lacks 9 bytes ≡ true
  pub lf : lacks 10 bytes ≡ true

-- what is left out is told of the rest
rest_lacks : (q b : ℕ) (bytes : List ℕ) → lacks q (b ∷ bytes) ≡ true → (not (eqb b q) ≡ true) × (lacks q bytes ≡ true)
rest_lacks q b bytes h = and_parts (not (eqb b q)) (lacks q bytes) h

rest_free : (b : ℕ) (bytes : List ℕ) → IsFree (b ∷ bytes) → IsFree bytes
rest_free b bytes f = record {
  ampersand = (rest_lacks 38 b bytes f.ampersand).1;
  less = (rest_lacks 60 b bytes f.less).1;
  greater = (rest_lacks 62 b bytes f.greater).1;
  cr = (rest_lacks 13 b bytes f.cr).1;
  quote = (rest_lacks 34 b bytes f.quote).1;
  tab = (rest_lacks 9 b bytes f.tab).1;
  lf = (rest_lacks 10 b bytes f.lf).1;
}

text_tests : (b : ℕ) (a l g r : Bool) → not a ≡ true → not l ≡ true → not g ≡ true → not r ≡ true
    → cond a (codes "&amp;") (cond l (codes "&lt;") (cond g (codes "&gt;") (cond r (codes "&#13;") (b ∷ [])))) ≡ b ∷ []
text_tests b true l g r ha hl hg hr = cc
text_tests b false true g r ha hl hg hr = cc
text_tests b false false true r ha hl hg hr = cc
text_tests b false false false true ha hl hg hr = cc
text_tests b false false false false ha hl hg hr = refl

value_tests : (spelled : List ℕ) (q t n : Bool) → not q ≡ true → not t ≡ true → not n ≡ true
    → cond q (codes "&quot;") (cond t (codes "&#9;") (cond n (codes "&#10;") spelled)) ≡ spelled
value_tests spelled true t n hq ht hn = cc
value_tests spelled false true n hq ht hn = cc
value_tests spelled false false true hq ht hn = cc
value_tests spelled false false false hq ht hn = refl

text_byte : (b : ℕ) (bytes : List ℕ) → IsFree (b ∷ bytes) → text_spelling b ≡ b ∷ []
text_byte b bytes f =
    text_tests b (eqb b 38) (eqb b 60) (eqb b 62) (eqb b 13) (rest_lacks 38 b bytes f.ampersand).0 (rest_lacks 60 b bytes f.less).0
    (rest_lacks 62 b bytes f.greater).0 (rest_lacks 13 b bytes f.cr).0

value_byte : (b : ℕ) (bytes : List ℕ) → IsFree (b ∷ bytes) → attribute_spelling b ≡ b ∷ []
value_byte b bytes f =
    value_tests (text_spelling b) (eqb b 34) (eqb b 9) (eqb b 10) (rest_lacks 34 b bytes f.quote).0 (rest_lacks 9 b bytes f.tab).0 (rest_lacks 10 b bytes f.lf).0
    ∙ text_byte b bytes f

pub free_text : (bytes : List ℕ) → IsFree bytes → escaped_text bytes ≡ bytes
unfolding escaped
free_text [] f = refl
free_text (b ∷ bytes) f = ap (λ (w : List ℕ). w ++ escaped_text bytes) (text_byte b bytes f) ∙ ap (λ (w : List ℕ). b ∷ w) (free_text bytes (rest_free b bytes f))

pub free_value : (bytes : List ℕ) → IsFree bytes → escaped_attribute bytes ≡ bytes
unfolding escaped
free_value [] f = refl
free_value (b ∷ bytes) f = ap (λ (w : List ℕ). w ++ escaped_attribute bytes) (value_byte b bytes f) ∙ ap (λ (w : List ℕ). b ∷ w) (free_value bytes (rest_free b bytes f))

-- ---- times and numbers

below_digits : (q d : ℕ) → q < 48 → not (eqb (48 + d) q) ≡ true
below_digits q d below = grind (arith, nat_tests)

above_digits : (d : ℕ) → d < 10 → not (eqb (48 + d) 62) ≡ true
above_digits d small = grind (arith, nat_tests)

ampersand_is : IsNoTime 38
ampersand_is = record { digit = λ d small. below_digits 38 d (omega arith); dash = refl; letter_t = refl; colon = refl; letter_z = refl }

greater_is : IsNoTime 62
greater_is = record { digit = above_digits; dash = refl; letter_t = refl; colon = refl; letter_z = refl }

cr_is : IsNoTime 13
cr_is = record { digit = λ d small. below_digits 13 d (omega arith); dash = refl; letter_t = refl; colon = refl; letter_z = refl }

tab_is : IsNoTime 9
tab_is = record { digit = λ d small. below_digits 9 d (omega arith); dash = refl; letter_t = refl; colon = refl; letter_z = refl }

lf_is : IsNoTime 10
lf_is = record { digit = λ d small. below_digits 10 d (omega arith); dash = refl; letter_t = refl; colon = refl; letter_z = refl }

-- a text without the bytes that no time has
free_of : (bytes : List ℕ) → ((q : ℕ) → IsNoTime q → lacks q bytes ≡ true) → IsFree bytes
free_of bytes all = record {
  ampersand = all 38 ampersand_is;
  less = all 60 angle_is;
  greater = all 62 greater_is;
  cr = all 13 cr_is;
  quote = all 34 quote_is;
  tab = all 9 tab_is;
  lf = all 10 lf_is;
}

pub second_free : (seconds : ℤ) → IsFree (second_text seconds)
second_free seconds = free_of (second_text seconds) (λ q is. second_lacks q is seconds)

pub datestamp_free : (granularity : Granularity) (seconds : ℤ) → IsFree (datestamp_text granularity seconds)
datestamp_free granularity seconds = free_of (datestamp_text granularity seconds) (λ q is. datestamp_lacks q is granularity seconds)

pub decimal_free : (n : ℕ) → IsFree (decimal n)
decimal_free n = free_of (decimal n) (λ q is. decimal_lacks q is n)

-- ---- words

pub code_same : (code : ErrorCode) → escaped_attribute (code_of code) ≡ code_of code
unfolding escaped
code_same BadVerb = refl
code_same BadArgument = refl
code_same BadResumptionToken = refl
code_same CannotDisseminateFormat = refl
code_same IdDoesNotExist = refl
code_same NoRecordsMatch = refl
code_same NoMetadataFormats = refl
code_same NoSetHierarchy = refl

pub message_same : (code : ErrorCode) → escaped_text (message_of code) ≡ message_of code
unfolding escaped
message_same BadVerb = refl
message_same BadArgument = refl
message_same BadResumptionToken = refl
message_same CannotDisseminateFormat = refl
message_same IdDoesNotExist = refl
message_same NoRecordsMatch = refl
message_same NoMetadataFormats = refl
message_same NoSetHierarchy = refl

pub deleted_same : (deleted : DeletedRecord) → escaped_text (deleted_text deleted) ≡ deleted_text deleted
unfolding escaped
deleted_same No = refl
deleted_same Transient = refl
deleted_same Persistent = refl

pub granularity_same : (granularity : Granularity) → escaped_text (granularity_text granularity) ≡ granularity_text granularity
unfolding escaped
granularity_same Day = refl
granularity_same Second = refl

pub version_same : escaped_text (codes "2.0") ≡ codes "2.0"
unfolding escaped
version_same = refl
