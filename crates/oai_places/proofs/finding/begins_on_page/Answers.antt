use Rattle.std.proofs.Common.{◌≡◌, ◌∙◌, ◌<◌, List, ℕ, ap, arith, drop, sym, take}
use Rattle.std.proofs.lemmas.List.{take_rest}
use Rattle.oai_item.specs.Decoding.{item_in}
use Rattle.oai_places.specs.Pages.{first_number}
use Rattle.oai_places.proofs.FindingLemmas.{begins_first, first_known, none_first}
use Rattle.oai_places.proofs.finding.begins_on_page.Goals as goal

pub returns-then-first_number-eq0 : goal.returns-then-first_number-eq0
returns-then-first_number-eq0 c = λ items is_page.
    let none : first_number c.args.page.now ≡ 0 = omega (arith, c.first_number.ensures, c.if-first_number-eq0.true) in
    absurd (none_first c.args.page.now items is_page none)

pub spelled_entry-item-requires : goal.spelled_entry-item-requires
spelled_entry-item-requires c =
    let some : 0 < first_number c.args.page.now = omega (arith, c.first_number.ensures, c.if-first_number-eq0.false) in
    first_known c.args.page.now _ c.requires.tested (take_rest c.args.page.now 4) some

pub returns : goal.returns
returns c = λ items is_page.
    let told = sym (ap (λ (bytes : List ℕ). item_in (take (first_number bytes) (drop 4 bytes))) (take_rest c.args.page.now 4)) ∙ c.spelled_entry-item.ensures.item in
    c.is_at.ensures ∙ begins_first c.args.key.stamp c.args.key.identifier.now c.args.page.now items c.spelled_entry-item.result.0 is_page told
