use Rattle.std.proofs.Common.{◌≡◌, ◌∙◌, ◌+◌, ◌-◌, List, Some, ℕ, ap, arith, length, subst, sym}
use Rattle.std.proofs.lemmas.List.{take_rest}
use Rattle.oai_item.specs.Items.{is_at}
use Rattle.oai_places.specs.Finding.{IsLeftToFind}
use Rattle.oai_places.specs.Pages.{first_number}
use Rattle.oai_places.proofs.FindingLemmas.{all_left, all_passed, finding_fails, first_seen, left_behind, none_left, spelled_here}
use Rattle.oai_places.proofs.PickingLemmas.{found_none, found_one}
use Rattle.oai_places.proofs.untested.find_among.Goals as goal

pub entries-init : goal.entries-init
entries-init c = all_left _ c.args.key.identifier.now c.args.page.now _ (take_rest c.args.page.now 4)

pub returns-in_default : goal.returns-in_default
returns-in_default c = λ items is_page.
    let below = left_behind c.args.page.now c.entries.counter items is_page (omega (arith, c.entries-test.true, c.first_number-end.ensures)) in
    let first = first_seen _ c.args.key.identifier.now c.args.page.now c.entries.rest.now c.entries.counter items (length items - (c.entries.counter + 1)) c.entries.invariant is_page below in
    c.in_default.ensures.parts first.item first.behind first.spelled first.parts

pub returns-in-Ok-Some : goal.returns-in-Ok-Some
returns-in-Ok-Some c = λ items is_page.
    let below = left_behind c.args.page.now c.entries.counter items is_page (omega (arith, c.entries-test.true, c.first_number-end.ensures)) in
    let first = first_seen c.args.key.stamp c.args.key.identifier.now c.args.page.now c.entries.rest.now c.entries.counter items (length items - (c.entries.counter + 1)) c.entries.invariant is_page below in
    let parts = c.in-Some.ensures.parts first.item first.behind first.spelled first.parts in
    let here = spelled_here c.in-Some.spelling.now first.item parts.0 first.spelled in
    let one = found_one (is_at c.args.key.stamp c.args.key.identifier.now) first.item c.in-Ok-Some.item _ (c.in-Ok-Some.ensures first.item here) c.in-Ok-Some.field-0-is in
    ap Some one.0 ∙ sym (first.here one.1)

pub returns-in-Err : goal.returns-in-Err
returns-in-Err c = λ items is_page.
    let below = left_behind c.args.page.now c.entries.counter items is_page (omega (arith, c.entries-test.true, c.first_number-end.ensures)) in
    let first = first_seen c.args.key.stamp c.args.key.identifier.now c.args.page.now c.entries.rest.now c.entries.counter items (length items - (c.entries.counter + 1)) c.entries.invariant is_page below in
    let parts = c.in-Some.ensures.parts first.item first.behind first.spelled first.parts in
    let here = spelled_here c.in-Some.spelling.now first.item parts.0 first.spelled in
    finding_fails c.args.key.stamp c.args.key.identifier.now items (is_at c.args.key.stamp c.args.key.identifier.now) first.item c.in-Err.fault (c.in-Err.ensures first.item here)

pub entries-preserved : goal.entries-preserved
entries-preserved c = λ items left is_page many.
    let first = first_seen c.args.key.stamp c.args.key.identifier.now c.args.page.now c.entries.rest.now c.entries.counter items left c.entries.invariant is_page many in
    let parts = c.in-Some.ensures.parts first.item first.behind first.spelled first.parts in
    let here = spelled_here c.in-Some.spelling.now first.item parts.0 first.spelled in
    let other = found_none (is_at c.args.key.stamp c.args.key.identifier.now) first.item _ (c.in-Ok-None.ensures first.item here) c.in-Ok-None.field-0-is in
    subst (λ (bs : List ℕ). IsLeftToFind c.args.key.stamp c.args.key.identifier.now items left bs) (sym parts.1) (first.later other)

pub returns : goal.returns
returns c = λ items is_page.
    let all : c.entries.counter ≡ first_number c.args.page.now = omega (arith, c.entries.auto.counter-end, c.entries-test.false, c.first_number-end.ensures) in
    none_left c.args.key.stamp c.args.key.identifier.now items c.entries.rest.now
    (c.entries.invariant items 0 is_page (all_passed c.args.page.now c.entries.counter items is_page all))
