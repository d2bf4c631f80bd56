use Rattle.std.proofs.Common.{◌∙◌, ◌<◌, ℕ, [], ap, arith, get_or, length, refl, sym, unwrap_or}
use Rattle.std.proofs.lemmas.Bool.{false_from_ne_true}
use Rattle.oai_pool.specs.Names.{times}
use Rattle.oai_places.specs.Places.{items_at, page_at}
use Rattle.oai_places.proofs.HaveReadLemmas.{read_page}
use Rattle.oai_places.proofs.JoinedLemmas.{named_in_numbers}
use Rattle.oai_places.proofs.ReadPlaces.{page_of_one, reads_undecoded}
use Rattle.oai_places.proofs.reading.find_in.Goals as goal

pub read_any-requires : goal.read_any-requires
read_any-requires g c =
    let some : 0 < length c.pages.result.now = omega (arith, c.requires.sound.many.some, ap length c.pages.ensures) in
    let n : ℕ = get_or c.pages.result.now 0 0 in
    c.requires.named n (omega (arith, named_in_numbers 0 c.pages.result.now some, ap (times n) c.pages.ensures))

pub returns-in-Ok-find_on-clause-found : goal.returns-in-Ok-find_on-clause-found
returns-in-Ok-find_on-clause-found g c =
    let pages = g.P.PagePool.pages c.args.pages.now in
    let place = c.args.place.now in
    let items = items_at pages place in
    λ honest. c.in-Ok-find_on.ensures items
    (page_of_one pages place c.pages.result.now c.deref.result.now c.pages.ensures c.requires.one c.requires.sound (c.deref.ensures ∙ sym (ap (λ o. unwrap_or o []) (c.in-Ok.ensures.value honest))))
    c.requires.sound.counted c.requires.sound.begins

pub returns-in-Ok-clause-pages : goal.returns-in-Ok-clause-pages
returns-in-Ok-clause-pages g c =
    let G = g.P.PagePool in
    let p = c.args.pages.now in
    let q = c.read_any.new.self in
    let pages = G.pages p in
    let place = c.args.place.now in
    reads_undecoded G c.in-Err-find_on.fault c.decoding_fault_of.result p q c.decoding_fault_of.ensures
    (read_page G c.read_any.result p q c.read_any.ensures.counts c.read_any.ensures.same c.read_any.ensures.pool)
    (λ damage. false_from_ne_true (G.honest p)
    (λ honest. rw damage at (c.in-Err-find_on.ensures (items_at pages place)
    (page_of_one pages place c.pages.result.now c.deref.result.now c.pages.ensures c.requires.one c.requires.sound (c.deref.ensures ∙ sym (ap (λ o. unwrap_or o []) (c.in-Ok.ensures.value honest))))
    c.requires.sound.counted c.requires.sound.begins)))
