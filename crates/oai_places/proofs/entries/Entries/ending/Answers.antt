use Rattle.std.proofs.Common.{◌≡◌, ◌∙◌, List, ap, subst, sym, arith}
use Rattle.oai_item.specs.Item.{ItemState}
use Rattle.oai_item.specs.Order.{are_in_order}
use Rattle.oai_places.specs.Pages.{IsPage, first_number}
use Rattle.oai_places.proofs.ReadLemmas.{entries_read, is_page, no_page-none, no_page-rising}
use Rattle.oai_places.proofs.entries.Entries.ending.Goals as goal

pub returns-then-count-eq0 : goal.returns-then-count-eq0
returns-then-count-eq0 c =
    let count : c.first_number-count.result ≡ first_number c.args.page.now = c.first_number-count.ensures in
    no_page-none c.args.page.now (sym count ∙ c.if-count-eq0.true)

pub invariant_of-entries : goal.invariant_of-entries
invariant_of-entries c =
    (entries_read _ c.args.bytes _ _ _ c.requires.entries c.requires.bytes).1

pub returns-then-not-are_rising : goal.returns-then-not-are_rising
returns-then-not-are_rising c =
    let made = entries_read _ c.args.bytes _ _ _ c.requires.entries c.requires.bytes in
    no_page-rising c.args.page.now c.args.ends.items c.args.size c.requires.entries (sym (c.are_rising.ensures ∙ ap are_in_order made.0) ∙ c.if-not-are_rising.true)

pub invariant_of-entries-2 : goal.invariant_of-entries-2
invariant_of-entries-2 c =
    (entries_read _ c.args.bytes _ _ _ c.requires.entries c.requires.bytes).1

pub returns : goal.returns
returns c =
    let count : c.first_number-count.result ≡ first_number c.args.page.now = c.first_number-count.ensures in
    let made = entries_read _ c.args.bytes _ _ _ c.requires.entries c.requires.bytes in
    subst (λ (items : List ItemState). IsPage c.args.page.now items) (sym made.0)
    (is_page c.args.page.now c.args.ends.items c.args.size c.requires.entries (λ i. omega (arith, c.type_inv.page i)) c.requires.long (omega (arith, count, c.if-count-eq0.false))
    c.requires.zeros
    (sym (c.are_rising.ensures ∙ ap are_in_order made.0) ∙ c.if-not-are_rising.false))
