use Rattle.std.proofs.Common.{◌∙◌, ◌+◌, ap, arith, sym}
use Rattle.std.proofs.lemmas.List.{take_rest}
use Rattle.oai_places.proofs.HaveReadLemmas.{read_more, read_none}
use Rattle.oai_pool.specs.Names.{times}
use Rattle.oai_places.specs.Searches.{are_of}
use Rattle.oai_places.proofs.ReadPlaces.{fit_of_place, items_read, may_be_of, named_at_place, not_honest_from, page_of_place, placed_at, read_of, reads_damaged}
use Rattle.oai_places.proofs.reading.read_at.Goals as goal

pub read_entries-requires-clause-named : goal.read_entries-requires-clause-named
read_entries-requires-clause-named g c =
    let place = c.index-places-at.result in
    let pages = g.P.PagePool.pages c.args.pages.now in
    λ n own.
    let named = named_at_place pages c.args.places.now c.args.at place c.requires.within c.index-places-at.is n (omega (arith, own, ap (times n) c.pages.ensures)) in
    omega (arith, named, c.requires.stands.named n)

pub read_entries-requires-clause-page : goal.read_entries-requires-clause-page
read_entries-requires-clause-page g c =
    let place = c.index-places-at.result in
    let pages = g.P.PagePool.pages c.args.pages.now in
    page_of_place pages place c.pages.result.now c.pages.ensures (placed_at pages c.args.places.now c.args.at place c.requires.stands.directory c.requires.within c.index-places-at.is)

pub read_entries-requires-clause-many : goal.read_entries-requires-clause-many
read_entries-requires-clause-many g c =
    let place = c.index-places-at.result in
    let pages = g.P.PagePool.pages c.args.pages.now in
    fit_of_place pages place c.pages.result.now c.pages.ensures (placed_at pages c.args.places.now c.args.at place c.requires.stands.directory c.requires.within c.index-places-at.is)

pub returns-clause-items : goal.returns-clause-items
returns-clause-items g c =
    let place = c.index-places-at.result in
    λ honest. items_read (g.P.PagePool.pages c.args.pages.now) c.args.places.now c.args.at c.pages.result.now place c.in_ok-entries.entries (c.in_ok-entries.ensures.items honest)
    c.pages.ensures c.requires.within c.index-places-at.is

pub returns-then-not-are_of-clause-pages : goal.returns-then-not-are_of-clause-pages
returns-then-not-are_of-clause-pages g c =
    let G = g.P.PagePool in
    let p = c.args.pages.now in
    let q = c.read_entries.new.pages in
    let place = c.index-places-at.result in
    reads_damaged G p q (read_more G c.read_entries.result p p q (read_none G p) c.read_entries.ensures.pages)
    (not_honest_from (G.honest p) c.are_of.result
    (λ honest. c.are_of.ensures ∙ ap (λ next. are_of place next c.in_ok-entries.entries) (take_rest c.args.places.now (c.args.at + 1)) ∙ read_of (G.pages p) c.args.places.now c.args.at c.pages.result.now place c.in_ok-entries.entries
    c.requires.stands.directory c.requires.within c.index-places-at.is (c.in_ok-entries.ensures.items honest) c.pages.ensures)
    c.if-not-are_of.true)

pub returns-clause-fits : goal.returns-clause-fits
returns-clause-fits g c =
    let place = c.index-places-at.result in
    may_be_of c.args.places.now c.args.at c.pages.result.now place c.in_ok-entries.entries c.requires.within c.index-places-at.is c.pages.ensures
    c.in_ok-entries.ensures.page c.in_ok-entries.ensures.fits
    (sym (c.are_of.ensures ∙ ap (λ next. are_of place next c.in_ok-entries.entries) (take_rest c.args.places.now (c.args.at + 1))) ∙ c.if-not-are_of.false)
