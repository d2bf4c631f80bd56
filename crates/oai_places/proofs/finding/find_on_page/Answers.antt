use Rattle.std.proofs.Common.{◌≡◌, ◌∙◌, ◌+◌, ◌-◌, ◌<◌, ℕ, List, Some, ap, arith, length, subst, sym}
use Rattle.std.proofs.lemmas.List.{take_rest}
use Rattle.oai_item.specs.Items.{is_at}
use Rattle.oai_pool.specs.Kinds.{spells_items}
use Rattle.oai_places.specs.Finding.{IsLeftToFind}
use Rattle.oai_places.specs.Pages.{first_number}
use Rattle.oai_places.proofs.FindingLemmas.{all_passed, entry_behind, entry_is, first_seen, found_is, known_none, left_behind, none_left}
use Rattle.oai_places.proofs.TestedLemmas.{left_parts}
use Rattle.oai_places.proofs.finding.find_on_page.Goals as goal

pub entries-init : goal.entries-init
entries-init c = known_none _ c.args.key.identifier.now c.args.page.now _ c.requires.tested (take_rest c.args.page.now 4)

pub spelled_entry-item-requires : goal.spelled_entry-item-requires
spelled_entry-item-requires c =
    let within : c.entries.counter < first_number c.args.page.now = omega (arith, c.entries-test.true, c.first_number-end.ensures) in
    (left_parts (first_number c.args.page.now) c.entries.counter c.entries.rest.now within c.entries.invariant.known).0

pub returns-then-is_at : goal.returns-then-is_at
returns-then-is_at c = λ items is_page.
    let below = left_behind c.args.page.now c.entries.counter items is_page (omega (arith, c.entries-test.true, c.first_number-end.ensures)) in
    let first = first_seen c.args.key.stamp c.args.key.identifier.now c.args.page.now c.entries.rest.now c.entries.counter items (length items - (c.entries.counter + 1)) c.entries.invariant.sought is_page below in
    let item = entry_is c.entries.rest.now first.item c.spelled_entry-item.result.0 first.behind first.spelled first.parts c.spelled_entry-item.ensures.item in
    let here = ap (is_at c.args.key.stamp c.args.key.identifier.now) (sym item) ∙ sym c.is_at.ensures ∙ c.if-is_at.true in
    found_is (Some c.spelled_entry-item.result.0) _ c.found.result c.found.ensures (ap Some item ∙ sym (first.here here))

pub entries-preserved : goal.entries-preserved
entries-preserved c =
    let within : c.entries.counter < first_number c.args.page.now = omega (arith, c.entries-test.true, c.first_number-end.ensures) in
    record {
      known = ap (spells_items (first_number c.args.page.now - (c.entries.counter + 1))) c.spelled_entry-item.ensures.behind
          ∙ (left_parts (first_number c.args.page.now) c.entries.counter c.entries.rest.now within c.entries.invariant.known).1;
      sought = λ items left is_page many.
          let first = first_seen c.args.key.stamp c.args.key.identifier.now c.args.page.now c.entries.rest.now c.entries.counter items left c.entries.invariant.sought is_page many in
          let item = entry_is c.entries.rest.now first.item c.spelled_entry-item.result.0 first.behind first.spelled first.parts c.spelled_entry-item.ensures.item in
          let behind = c.spelled_entry-item.ensures.behind ∙ entry_behind c.entries.rest.now first.item first.behind first.spelled first.parts in
          let other = ap (is_at c.args.key.stamp c.args.key.identifier.now) (sym item) ∙ sym c.is_at.ensures ∙ c.if-is_at.false in
          subst (λ (bs : List ℕ). IsLeftToFind c.args.key.stamp c.args.key.identifier.now items left bs) (sym behind) (first.later other);
    }

pub returns : goal.returns
returns c = λ items is_page.
    let all : c.entries.counter ≡ first_number c.args.page.now = omega (arith, c.entries.auto.counter-end, c.entries-test.false, c.first_number-end.ensures) in
    none_left c.args.key.stamp c.args.key.identifier.now items c.entries.rest.now
    (c.entries.invariant.sought items 0 is_page (all_passed c.args.page.now c.entries.counter items is_page all))
