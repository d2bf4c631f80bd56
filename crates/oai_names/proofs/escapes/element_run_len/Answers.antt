use Rattle.std.proofs.Common.{◌≡◌, ◌≢◌, ◌∙◌, ◌<◌, ◌≤◌, ℕ, zero, suc, false, List, [], ◌∷◌, ◌++◌, length, slice_index, take, refl, sym, ap, arith}
use Rattle.std.proofs.lemmas.List.{get_or-take, length-take-le}
use Rattle.memchr.specs.Find.{is_byte3}
use Rattle.oai_names.specs.Escapes.{escaped, text_spelling}
use Rattle.oai_names.specs.declared.escapes.Place.TheVariants.{Element}
use Rattle.oai_names.proofs.escapes.element_run_len.Goals as goal

-- a byte that is no markup and no CR stands for itself
stands : (b : ℕ) → is_byte3 38 60 62 b ≡ false → b ≢ 13 → text_spelling b ≡ b ∷ []
stands b unmarked other = grind arith

-- such bytes are spelled as they are
run : (bytes : List ℕ) (n : ℕ) → ((k : ℕ) → k < n → text_spelling (slice_index bytes k) ≡ slice_index bytes k ∷ []) → escaped Element (take n bytes) ≡ take n bytes
unfolding escaped
run bytes zero each = refl
run [] (suc n) each = refl
run (b ∷ bytes) (suc n) each =
    ap (λ x. x ++ escaped Element (take n bytes)) (each 0 (omega arith))
    ∙ ap (λ x. b ∷ x) (run bytes n (λ k less. each (suc k) (omega arith)))

-- of the bytes before the first markup, those before the first CR
both : (bytes : List ℕ) (unmarked n : ℕ) → unmarked ≤ length bytes → n ≤ length (take unmarked bytes)
    → ((k : ℕ) → k < unmarked → is_byte3 38 60 62 (slice_index bytes k) ≡ false)
    → ((k : ℕ) → k < n → slice_index (take unmarked bytes) k ≢ 13)
    → escaped Element (take n bytes) ≡ take n bytes
both bytes unmarked n within less markup line =
    let inside : n ≤ unmarked = omega (arith, length-take-le unmarked bytes within) in
    run bytes n (λ k below.
    let here : k < unmarked = omega arith in
    stands _ (markup k here) (rw (sym (get_or-take unmarked bytes k 0 here)) (line k below)))

pub returns-clause-run : goal.returns-clause-run
returns-clause-run c =
    both _ _ _ c.unmarked_len-unmarked.ensures.within c.len_before_cr.ensures.within c.unmarked_len-unmarked.ensures.before c.len_before_cr.ensures.before
