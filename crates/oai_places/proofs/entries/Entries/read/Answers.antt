use Rattle.std.proofs.Common.{◌≡◌, ◌∙◌, Err, ap, arith, drop, sym, take}
use Rattle.std.specs.List.{list_all}
use Rattle.std.proofs.lemmas.List.{take_rest}
use Rattle.std.proofs.lemmas.Result.{err_from_is_err_and}
use Rattle.oai_places.specs.Pages.{first_number}
use Rattle.oai_places.proofs.ReadLemmas.{entries_seen, is_zero, no_page-entries, no_page-zeros, page_fails, size_within}
use Rattle.oai_places.proofs.entries.Entries.read.Goals as goal

pub returns-in_err-ends : goal.returns-in_err-ends
returns-in_err-ends c =
    let p = err_from_is_err_and c.from_residual.result c.from_residual.ensures.1 in
    let count : c.first_number-count.result ≡ first_number c.args.page.now = c.first_number-count.ensures in
    let rest = take_rest c.args.page.now 4 in
    rw (p.1, p.2) (page_fails c.args.page.now c.in_err-ends.field-0.0 (λ is.
    no_page-entries c.args.page.now (λ items behind s many e. c.in_err-ends.ensures.damaged (ap Err is) items behind s (many ∙ sym count) (rest ∙ e))))

pub ending-requires-clause-entries : goal.ending-requires-clause-entries
ending-requires-clause-entries c = entries_seen c.args.page.now _ _ _ _ (take_rest c.args.page.now 4) c.first_number-count.ensures c.in_ok-ends.ensures.read

pub split_at-requires : goal.split_at-requires
split_at-requires c =
    let within = size_within _ _ _ _ c.in_ok-ends.ensures.read in
    omega (arith, within)

pub returns-then-not-are_zeros : goal.returns-then-not-are_zeros
returns-then-not-are_zeros c =
    let rest = take_rest c.args.page.now 4 in
    no_page-zeros c.args.page.now _ _ (entries_seen c.args.page.now _ _ _ _ rest c.first_number-count.ensures c.in_ok-ends.ensures.read)
    (sym (c.are_zeros.ensures ∙ ap (list_all is_zero) (c.split_at.ensures.back ∙ ap (drop c.in_ok-ends.size) rest)) ∙ c.if-not-are_zeros.true)

pub ending-requires-clause-zeros : goal.ending-requires-clause-zeros
ending-requires-clause-zeros c =
    sym (c.are_zeros.ensures ∙ ap (list_all is_zero) (c.split_at.ensures.back ∙ ap (drop c.in_ok-ends.size) (take_rest c.args.page.now 4))) ∙ c.if-not-are_zeros.false

pub ending-requires-clause-bytes : goal.ending-requires-clause-bytes
ending-requires-clause-bytes c = c.in_ok-bytes.ensures ∙ c.split_at.ensures.front ∙ ap (take c.in_ok-ends.size) (take_rest c.args.page.now 4)
