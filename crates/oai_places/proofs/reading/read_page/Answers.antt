use Rattle.std.proofs.Common.{◌∙◌, [], ap, sym, unwrap_or}
use Rattle.oai_places.specs.Pages.{fit_one, items_in}
use Rattle.oai_places.proofs.HaveReadLemmas.{read_page}
use Rattle.oai_places.proofs.PageLemmas.{items_in-page}
use Rattle.oai_places.proofs.ReadPlaces.{not_honest_from, reads_damaged}
use Rattle.oai_places.proofs.TestedLemmas.{known_page}
use Rattle.oai_places.proofs.reading.read_page.Goals as goal

pub read-requires-clause-kind : goal.read-requires-clause-kind
read-requires-clause-kind g c = known_page (g.P.PagePool.pages c.args.pages.now) c.args.no _ c.requires.page

pub returns-in-Ok-of_page-clause-items : goal.returns-in-Ok-of_page-clause-items
returns-in-Ok-of_page-clause-items g c =
    λ honest. sym (items_in-page c.in-Ok.page.value c.in-Ok-of_page.entries c.in-Ok-of_page.ensures)
    ∙ ap items_in (sym (ap (λ o. unwrap_or o []) (c.in-Ok.ensures.value honest)))

pub returns-then-not-fit_one-clause-pages : goal.returns-then-not-fit_one-clause-pages
returns-then-not-fit_one-clause-pages g c =
    let G = g.P.PagePool in
    let p = c.args.pages.now in
    let q = c.read.new.self in
    reads_damaged G p q
    (read_page G c.read.result p q c.read.ensures.counts c.read.ensures.same c.read.ensures.pool)
    (not_honest_from (G.honest p) c.fit_one.result
    (λ honest. c.fit_one.ensures
    ∙ ap fit_one (sym (items_in-page c.in-Ok.page.value c.in-Ok-of_page.entries c.in-Ok-of_page.ensures) ∙ ap items_in (sym (ap (λ o. unwrap_or o []) (c.in-Ok.ensures.value honest))))
    ∙ c.requires.one)
    c.if-not-fit_one.true)
