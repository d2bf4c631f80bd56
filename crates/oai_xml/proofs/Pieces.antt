-- Contents: what each step of a reading reads.
use Rattle.std.proofs.Common.{◌≡◌, ◌∙◌, ◌<◌, ℕ, zero, suc, true, false, eqb, List, [], ◌∷◌, ◌++◌, Ok, Err, length, refl, sym, ap, subst, arith}
use Rattle.std.specs.Prelude.{codes}
use Rattle.std.specs.List.{list_all}
use Rattle.std.proofs.lemmas.Bool.{and_parts, and_left, cond-true, cond-false}
use Rattle.std.proofs.lemmas.Bool.Decides.{nat_tests}
use Rattle.oai_xml.specs.Answers.{before, Goes, is_bare_text_byte}
use Rattle.oai_xml.specs.Readings.{Reading, ◌>>=◌, read, begins, behind}
use Rattle.oai_xml.specs.Parts.{reference_in}
use Rattle.oai_xml.specs.Trees.{Content, nothing, followed_by, text_of}
use Rattle.oai_xml.specs.Namespaces.{Scope}
use Rattle.oai_xml.specs.Contents.{ReadsContent, markup_in, character_in, piece_in, content_in}
use Rattle.oai_xml.proofs.Goings.{goes_none, goes_then}
use Rattle.oai_xml.proofs.Spellings.{followed_none, followed_joins, text_followed}

-- contents within that scope, of elements of so many levels
abbrev pub contents : ℕ → Scope → ℕ → List ℕ → Reading Content
contents levels scope steps bytes = content_in steps levels scope bytes

bound : (p : Content) (r : Reading Content) → (r >>= λ more. read (followed_by p more.0) more.1) ≡ before followed_by p r
bound p (Ok r) = refl
bound p (Err left) = refl

-- ---- a piece, and what follows it

went : (steps levels : ℕ) (scope : Scope) (bytes rest : List ℕ) (p : Content) → begins (codes "</") bytes ≡ false → piece_in (content_in steps) levels scope bytes ≡ Ok (p, rest)
    → content_in (suc steps) levels scope bytes ≡ before followed_by p (content_in steps levels scope rest)
unfolding content_in
went steps levels scope bytes rest p apart is =
    cond-false (begins (codes "</") bytes) _ _ apart
    ∙ ap (λ r. r >>= λ p. content_in steps levels scope p.1 >>= λ more. read (followed_by p.0 more.0) more.1) is ∙ bound p (content_in steps levels scope rest)

pub piece_goes : (levels : ℕ) (scope : Scope) (bytes rest : List ℕ) (p : Content) → begins (codes "</") bytes ≡ false → length rest < length bytes
    → ((steps : ℕ) → length bytes < suc steps → piece_in (content_in steps) levels scope bytes ≡ Ok (p, rest)) → Goes followed_by (contents levels scope) bytes rest p
piece_goes levels scope bytes rest p apart shorter is = record { goes = by_steps }
  where
    by_steps : (steps : ℕ) → length bytes < steps → (others : ℕ) × (length rest < others) × (contents levels scope steps bytes ≡ before followed_by p (contents levels scope others rest))
    by_steps zero enough = absurd (omega arith)
    by_steps (suc steps) enough = (steps, omega arith, went steps levels scope bytes rest p apart (is steps enough))

failed : (steps levels : ℕ) (scope : Scope) (bytes : List ℕ) (left : ℕ) → begins (codes "</") bytes ≡ false → piece_in (content_in steps) levels scope bytes ≡ Err left
    → content_in (suc steps) levels scope bytes ≡ Err left
unfolding content_in
failed steps levels scope bytes left apart is =
    cond-false (begins (codes "</") bytes) _ _ apart ∙ ap (λ r. r >>= λ p. content_in steps levels scope p.1 >>= λ more. read (followed_by p.0 more.0) more.1) is

pub piece_wrong : (levels : ℕ) (scope : Scope) (bytes : List ℕ) (left : ℕ) → begins (codes "</") bytes ≡ false
    → ((steps : ℕ) → length bytes < suc steps → piece_in (content_in steps) levels scope bytes ≡ Err left) → (steps : ℕ) → length bytes < steps → content_in steps levels scope bytes ≡ Err left
piece_wrong levels scope bytes left apart is zero enough = absurd (omega arith)
piece_wrong levels scope bytes left apart is (suc steps) enough = failed steps levels scope bytes left apart (is steps enough)

closed : (steps levels : ℕ) (scope : Scope) (bytes : List ℕ) → begins (codes "</") bytes ≡ true → content_in (suc steps) levels scope bytes ≡ Ok (nothing, behind (codes "</") bytes)
unfolding content_in
closed steps levels scope bytes here = cond-true (begins (codes "</") bytes) _ _ here

pub content_closed : (levels : ℕ) (scope : Scope) (bytes : List ℕ) → begins (codes "</") bytes ≡ true → (steps : ℕ) → length bytes < steps
    → content_in steps levels scope bytes ≡ Ok (nothing, behind (codes "</") bytes)
content_closed levels scope bytes here zero enough = absurd (omega arith)
content_closed levels scope bytes here (suc steps) enough = closed steps levels scope bytes here

-- ---- which piece

pub piece_markup : (content : ReadsContent) (levels : ℕ) (scope : Scope) (bytes : List ℕ) → begins (codes "<") bytes ≡ true
    → piece_in content levels scope bytes ≡ markup_in content levels scope (behind (codes "<") bytes)
unfolding piece_in
piece_markup content levels scope bytes here = cond-true (begins (codes "<") bytes) _ _ here

pub piece_reference : (content : ReadsContent) (levels : ℕ) (scope : Scope) (bytes : List ℕ) → begins (codes "<") bytes ≡ false → begins (codes "&") bytes ≡ true
    → piece_in content levels scope bytes ≡ (reference_in (behind (codes "&") bytes) >>= λ r. read (text_of r.0) r.1)
unfolding piece_in
piece_reference content levels scope bytes none here = cond-false (begins (codes "<") bytes) _ _ none ∙ cond-true (begins (codes "&") bytes) _ _ here

pub piece_character : (content : ReadsContent) (levels : ℕ) (scope : Scope) (bytes : List ℕ) → begins (codes "<") bytes ≡ false → begins (codes "&") bytes ≡ false
    → piece_in content levels scope bytes ≡ character_in bytes
unfolding piece_in
piece_character content levels scope bytes none other = cond-false (begins (codes "<") bytes) _ _ none ∙ cond-false (begins (codes "&") bytes) _ _ other

-- ---- bytes that stand for themselves

-- they begin nothing else
begins_not : (x b : ℕ) (literal tail : List ℕ) → eqb b x ≡ false → begins (x ∷ literal) (b ∷ tail) ≡ false
unfolding begins
begins_not x b literal tail other = and_left (eqb b x) (begins literal tail) other

bare_apart : (b : ℕ) → is_bare_text_byte b ≡ true → (eqb b 60 ≡ false) × (eqb b 38 ≡ false) × (eqb b 93 ≡ false)
bare_apart b bare = (grind (arith, nat_tests), grind (arith, nat_tests), grind (arith, nat_tests))

character_read : (b : ℕ) (tail : List ℕ) → begins (codes "]]>") (b ∷ tail) ≡ false → character_in (b ∷ tail) ≡ Ok (text_of (b ∷ []), tail)
unfolding character_in
character_read b tail none = cond-false (begins (codes "]]>") (b ∷ tail)) _ _ none

-- a byte that is no markup and that no "]]>" begins at
pub byte_goes : (levels : ℕ) (scope : Scope) (b : ℕ) (tail : List ℕ) → eqb b 60 ≡ false → eqb b 38 ≡ false → begins (codes "]]>") (b ∷ tail) ≡ false
    → Goes followed_by (contents levels scope) (b ∷ tail) tail (text_of (b ∷ []))
byte_goes levels scope b tail markup reference section =
    piece_goes levels scope (b ∷ tail) tail (text_of (b ∷ [])) (begins_not 60 b (47 ∷ []) tail markup) (omega arith)
    (λ steps enough. piece_character (content_in steps) levels scope (b ∷ tail) (begins_not 60 b [] tail markup) (begins_not 38 b [] tail reference) ∙ character_read b tail section)

no_text : text_of [] ≡ nothing
unfolding text_of
no_text = refl

pub run_goes : (levels : ℕ) (scope : Scope) (run tail : List ℕ) → list_all is_bare_text_byte run ≡ true → Goes followed_by (contents levels scope) (run ++ tail) tail (text_of run)
run_goes levels scope [] tail bare = subst (λ c. Goes followed_by (contents levels scope) tail tail c) (sym no_text) (goes_none followed_by nothing followed_none (contents levels scope) tail)
run_goes levels scope (b ∷ run) tail bare =
    let parts = and_parts (is_bare_text_byte b) (list_all is_bare_text_byte run) bare in
    let facts = bare_apart b parts.0 in
    subst (λ c. Goes followed_by (contents levels scope) (b ∷ (run ++ tail)) tail c) (text_followed b run)
    (goes_then followed_by followed_joins (contents levels scope) (b ∷ (run ++ tail)) (run ++ tail) tail (text_of (b ∷ [])) (text_of run)
    (byte_goes levels scope b (run ++ tail) facts.0 facts.1 (begins_not 93 b (93 ∷ 62 ∷ []) (run ++ tail) facts.2))
    (run_goes levels scope run tail parts.1))
