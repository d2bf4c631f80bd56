use Rattle.std.proofs.Common.{◌≡◌, ◌∙◌, ◌≤◌, List, ℕ, IsTrue, ap, arith, get_or, length, subst, sym}
use Rattle.oai_item.specs.Item.{ItemState}
use Rattle.oai_places.specs.Pages.{IsPage, fit_one, items_in}
use Rattle.oai_places.specs.Places.{bytes_on, page_at}
use Rattle.oai_places.proofs.ResultLemmas.{if_ok_map}
use Rattle.oai_places.proofs.JoinedLemmas.{bytes_on-one, named_in_numbers}
use Rattle.oai_places.proofs.reading.read_entries.Goals as goal

pub read_page-requires-clause-named : goal.read_page-requires-clause-named
read_page-requires-clause-named g c = c.requires.named (get_or c.args.numbers.now 0 0) (named_in_numbers 0 c.args.numbers.now (omega (arith, c.requires.many.some)))

pub read_page-requires-clause-page : goal.read_page-requires-clause-page
read_page-requires-clause-page g c =
    let is = bytes_on-one (g.P.PagePool.pages c.args.pages.now) c.args.numbers.now c.requires.many.some (omega (arith, c.if-numbers-gt1.false)) in
    subst (λ (bytes : List ℕ). IsPage bytes (items_in bytes)) is c.requires.page

pub read_page-requires-clause-one : goal.read_page-requires-clause-one
read_page-requires-clause-one g c =
    let few : length c.args.numbers.now ≤ 1 = omega (arith, c.if-numbers-gt1.false) in
    let is = bytes_on-one (g.P.PagePool.pages c.args.pages.now) c.args.numbers.now c.requires.many.some few in
    ap (λ (bytes : List ℕ). fit_one (items_in bytes)) (sym is) ∙ c.requires.many.one few

pub returns-clause-items : goal.returns-clause-items
returns-clause-items g c =
    let G = g.P.PagePool in
    let pages = G.pages c.args.pages.now in
    let is = bytes_on-one pages c.args.numbers.now c.requires.many.some (omega (arith, c.if-numbers-gt1.false)) in
    if_ok_map (λ (entries : List ItemState). IsTrue (G.honest c.args.pages.now) → entries ≡ items_in (page_at pages (get_or c.args.numbers.now 0 0)))
    (λ (entries : List ItemState). IsTrue (G.honest c.args.pages.now) → entries ≡ items_in (bytes_on pages c.args.numbers.now)) c.read_page.result
    (λ entries read honest. read honest ∙ ap items_in (sym is)) c.read_page.ensures.items
