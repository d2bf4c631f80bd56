-- A deposit of which some lines were done, as a deposit of these lines alone.
use Rattle.std.proofs.Common.{◌≡◌, ◌∙◌, inl, inr, ℕ, zero, suc, false, not, List, [], ◌∷◌, take, filter, append_assoc, refl, sym, ap, subst}
use Rattle.std.specs.List.{All, AllByRecursion, onto_first, slice_split}
use Rattle.std.proofs.lemmas.Bool.{cases_Bool, cond-true, cond-false}
use Rattle.std.proofs.lemmas.List.Elements.{All-cons, All-nil}
use Rattle.std.proofs.lemmas.List.Splits.{slice_split_at}
use Rattle.oai_http.specs.declared.exchanges.Call.{Call}
use Rattle.oai_host.specs.Bodies.{is_blank, is_line_end, lines_in}
use Rattle.oai_host.specs.Tasks.{depositing, task_of}
use Rattle.oai_host.proofs.TaskLemmas.{other_lines}
use Rattle.oai_headline.specs.Throughout.{body_of, with_lines}

-- ---- the lines of a body

abbrev IsClean : List ℕ → Type 0
IsClean text = All (λ (b : ℕ). is_line_end b ≡ false) text

abbrev IsLine : List ℕ → Type 0
IsLine text = IsClean text × (is_blank text ≡ false)

clean_onto : (b : ℕ) (pieces : List (List ℕ)) → is_line_end b ≡ false → AllByRecursion IsClean pieces → AllByRecursion IsClean (onto_first b pieces)
clean_onto b [] other clean = (All-cons (λ (x : ℕ). is_line_end x ≡ false) b [] other (All-nil (λ (x : ℕ). is_line_end x ≡ false)), tt)
clean_onto b (piece ∷ pieces) other clean = (All-cons (λ (x : ℕ). is_line_end x ≡ false) b piece other clean.0, clean.1)

-- no piece has a line end
clean_pieces : (text : List ℕ) → AllByRecursion IsClean (slice_split is_line_end text)
clean_pieces [] = (All-nil (λ (x : ℕ). is_line_end x ≡ false), tt)
clean_pieces (b ∷ text) = elim (cases_Bool (is_line_end b)) [
  | inl end ↦
      subst (λ (pieces : List (List ℕ)). AllByRecursion IsClean pieces)
      (sym (cond-true (is_line_end b) ([] ∷ slice_split is_line_end text) (onto_first b (slice_split is_line_end text)) end))
      (All-nil (λ (x : ℕ). is_line_end x ≡ false), clean_pieces text)
  | inr other ↦
      subst (λ (pieces : List (List ℕ)). AllByRecursion IsClean pieces)
      (sym (cond-false (is_line_end b) ([] ∷ slice_split is_line_end text) (onto_first b (slice_split is_line_end text)) other))
      (clean_onto b (slice_split is_line_end text) other (clean_pieces text))
]

abbrev filled : List (List ℕ) → List (List ℕ)
filled pieces = filter (λ (text : List ℕ). not (is_blank text)) pieces

filled_lines : (pieces : List (List ℕ)) → AllByRecursion IsClean pieces → AllByRecursion IsLine (filled pieces)
filled_lines [] clean = tt
filled_lines (piece ∷ pieces) clean = elim (cases_Bool (is_blank piece)) [
  | inl blank ↦
      subst (λ (lines : List (List ℕ)). AllByRecursion IsLine lines) (sym (cond-false (not (is_blank piece)) (piece ∷ filled pieces) (filled pieces) (ap not blank)))
      (filled_lines pieces clean.1)
  | inr full ↦
      subst (λ (lines : List (List ℕ)). AllByRecursion IsLine lines) (sym (cond-true (not (is_blank piece)) (piece ∷ filled pieces) (filled pieces) (ap not full)))
      ((clean.0, full), filled_lines pieces clean.1)
]

taken_lines : (n : ℕ) (lines : List (List ℕ)) → AllByRecursion IsLine lines → AllByRecursion IsLine (take n lines)
taken_lines zero [] all = tt
taken_lines zero (text ∷ lines) all = tt
taken_lines (suc n) [] all = tt
taken_lines (suc n) (text ∷ lines) all = (all.0, taken_lines n lines all.1)

-- lines, written as a body, are its lines
lines_again : (lines : List (List ℕ)) → AllByRecursion IsLine lines → lines_in (body_of lines) ≡ lines
lines_again [] all = refl
lines_again (text ∷ lines) all =
    ap lines_in (append_assoc text (10 ∷ []) (body_of lines))
    ∙ ap filled (slice_split_at is_line_end text 10 (body_of lines) all.0.0 refl)
    ∙ cond-true (not (is_blank text)) (text ∷ filled (slice_split is_line_end (body_of lines))) (filled (slice_split is_line_end (body_of lines))) (ap not all.0.1)
    ∙ ap (λ (others : List (List ℕ)). text ∷ others) (lines_again lines all.1)

pub lines_cut : (n : ℕ) (body : List ℕ) → lines_in (body_of (take n (lines_in body))) ≡ take n (lines_in body)
lines_cut n body = lines_again (take n (lines_in body)) (taken_lines n (lines_in body) (filled_lines (slice_split is_line_end body) (clean_pieces body)))

-- ---- what a call of them asks

pub cut_task : (call : Call) (lines : List (List ℕ)) (n : ℕ) → task_of call ≡ depositing lines → task_of (with_lines call (take n lines)) ≡ depositing (take n lines)
cut_task call lines n is =
    let body : List ℕ = body_of (take n lines) in
    let parts = other_lines call lines body is in
    parts.1 ∙ ap depositing (subst (λ (all : List (List ℕ)). lines_in (body_of (take n all)) ≡ take n all) (sym parts.0) (lines_cut n call.body))
