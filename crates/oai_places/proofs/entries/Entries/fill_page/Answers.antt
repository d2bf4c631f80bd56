use Rattle.std.proofs.Common.{◌≡◌, ◌∙◌, ◌+◌, ◌-◌, ◌*◌, ◌<◌, ◌≤◌, false, true, List, [], ap, arith, length, length-take, pos, sym}
use Rattle.oai_item.specs.Encoding.{encoded_count}
use Rattle.oai_item.specs.Item.{ItemState}
use Rattle.oai_item.proofs.Around.{only_place}
use Rattle.oai_places.specs.Pages.{between, overflow_of}
use Rattle.oai_places.proofs.CutLemmas.{few_between}
use Rattle.oai_places.proofs.EntryLemmas.{size_is, storable-between}
use Rattle.oai_places.proofs.PageLemmas.{number_spelled}
use Rattle.oai_places.proofs.OverflowLemmas.{front_page, length-pages, long_from, one_page, overflow_page}
use Rattle.oai_places.proofs.ShortLemmas.{fit_between, fit_parts}
use Rattle.oai_places.proofs.entries.Entries.fill_page.Goals as goal

pub overflow_cast-to : goal.overflow_cast-to
overflow_cast-to c =
    omega (arith, (few_between c.args.self.now c.args.from c.args.to (omega (arith, c.requires.some)) c.requires.within c.len-all.ensures.storable c.requires.alone).1)

pub fill_with-requires : goal.fill_with-requires
fill_with-requires c =
    let d : ItemState = only_place (pos 0) [] in
    let items : List ItemState = between c.args.from c.args.to c.args.self.now in
    let fits = fit_between c.args.from c.args.to c.args.self.now d c.is_long.result false c.requires.some c.requires.within c.requires.alone (c.is_long.ensures d) c.if-not-is_long.true in
    let size = size_is c.entries-entries.result.now items c.entries-entries.ensures in
    omega (arith, (fit_parts items fits).0, ap length c.to_be_bytes-number.ensures, size)

pub returns-then-not-is_long : goal.returns-then-not-is_long
returns-then-not-is_long c =
    let d : ItemState = only_place (pos 0) [] in
    let items : List ItemState = between c.args.from c.args.to c.args.self.now in
    let fits = fit_between c.args.from c.args.to c.args.self.now d c.is_long.result false c.requires.some c.requires.within c.requires.alone (c.is_long.ensures d) c.if-not-is_long.true in
    let size = size_is c.entries-entries.result.now items c.entries-entries.ensures in
    let few = few_between c.args.self.now c.args.from c.args.to (omega (arith, c.requires.some)) c.requires.within c.len-all.ensures.storable c.requires.alone in
    let number : c.to_be_bytes-number.result ≡ encoded_count (length items) = c.to_be_bytes-number.ensures ∙ number_spelled (c.args.to - c.args.from) ∙ ap encoded_count (sym few.0) in
    λ other. c.fill_with.ensures ∙ one_page items c.to_be_bytes-number.result c.entries-entries.result.now c.args.at other number c.entries-entries.ensures fits c.requires.there

pub slice_bounds-fill_with-length : goal.slice_bounds-fill_with-length
slice_bounds-fill_with-length c =
    let d : ItemState = only_place (pos 0) [] in
    let items : List ItemState = between c.args.from c.args.to c.args.self.now in
    let more = fit_between c.args.from c.args.to c.args.self.now d c.is_long.result true c.requires.some c.requires.within c.requires.alone (c.is_long.ensures d) c.if-not-is_long.false in
    let long = long_from items (storable-between c.args.from c.args.to c.args.self.now c.len-all.ensures.storable) c.requires.alone more in
    let size = size_is c.entries-entries.result.now items c.entries-entries.ensures in
    omega (arith, size, long.low, length-take 604 c.entries-entries.result.now)

pub fill_with-requires-then-at-eq0 : goal.fill_with-requires-then-at-eq0
fill_with-requires-then-at-eq0 c =
    omega (arith, ap length c.to_be_bytes-number.ensures, length-take 604 c.entries-entries.result.now)

pub returns-then-at-eq0 : goal.returns-then-at-eq0
returns-then-at-eq0 c =
    let d : ItemState = only_place (pos 0) [] in
    let items : List ItemState = between c.args.from c.args.to c.args.self.now in
    let more = fit_between c.args.from c.args.to c.args.self.now d c.is_long.result true c.requires.some c.requires.within c.requires.alone (c.is_long.ensures d) c.if-not-is_long.false in
    let long = long_from items (storable-between c.args.from c.args.to c.args.self.now c.len-all.ensures.storable) c.requires.alone more in
    let size = size_is c.entries-entries.result.now items c.entries-entries.ensures in
    let few = few_between c.args.self.now c.args.from c.args.to (omega (arith, c.requires.some)) c.requires.within c.len-all.ensures.storable c.requires.alone in
    let number : c.to_be_bytes-number.result ≡ encoded_count (length items) = c.to_be_bytes-number.ensures ∙ number_spelled (c.args.to - c.args.from) ∙ ap encoded_count (sym few.0) in
    λ other. c.fill_with-then-at-eq0.ensures ∙ front_page items c.to_be_bytes-number.result c.entries-entries.result.now c.args.at other number c.entries-entries.ensures more c.if-at-eq0.true

pub overflow_mul-start : goal.overflow_mul-start
overflow_mul-start c =
    let d : ItemState = only_place (pos 0) [] in
    let items : List ItemState = between c.args.from c.args.to c.args.self.now in
    let more = fit_between c.args.from c.args.to c.args.self.now d c.is_long.result true c.requires.some c.requires.within c.requires.alone (c.is_long.ensures d) c.if-not-is_long.false in
    let long = long_from items (storable-between c.args.from c.args.to c.args.self.now c.len-all.ensures.storable) c.requires.alone more in
    let size = size_is c.entries-entries.result.now items c.entries-entries.ensures in
    let at : c.args.at < 1 + overflow_of items = omega (arith, c.requires.there, length-pages items) in
    omega (arith, at, long.few)

pub overflow_add-start : goal.overflow_add-start
overflow_add-start c =
    let d : ItemState = only_place (pos 0) [] in
    let items : List ItemState = between c.args.from c.args.to c.args.self.now in
    let more = fit_between c.args.from c.args.to c.args.self.now d c.is_long.result true c.requires.some c.requires.within c.requires.alone (c.is_long.ensures d) c.if-not-is_long.false in
    let long = long_from items (storable-between c.args.from c.args.to c.args.self.now c.len-all.ensures.storable) c.requires.alone more in
    let size = size_is c.entries-entries.result.now items c.entries-entries.ensures in
    let at : c.args.at < 1 + overflow_of items = omega (arith, c.requires.there, length-pages items) in
    omega (arith, at, long.few)

pub overflow_add-start-2 : goal.overflow_add-start-2
overflow_add-start-2 c =
    let d : ItemState = only_place (pos 0) [] in
    let items : List ItemState = between c.args.from c.args.to c.args.self.now in
    let more = fit_between c.args.from c.args.to c.args.self.now d c.is_long.result true c.requires.some c.requires.within c.requires.alone (c.is_long.ensures d) c.if-not-is_long.false in
    let long = long_from items (storable-between c.args.from c.args.to c.args.self.now c.len-all.ensures.storable) c.requires.alone more in
    let size = size_is c.entries-entries.result.now items c.entries-entries.ensures in
    let at : c.args.at < 1 + overflow_of items = omega (arith, c.requires.there, length-pages items) in
    omega (arith, at, long.few)

pub slice_bounds-fill_with-count-2 : goal.slice_bounds-fill_with-count-2
slice_bounds-fill_with-count-2 c =
    let d : ItemState = only_place (pos 0) [] in
    let items : List ItemState = between c.args.from c.args.to c.args.self.now in
    let more = fit_between c.args.from c.args.to c.args.self.now d c.is_long.result true c.requires.some c.requires.within c.requires.alone (c.is_long.ensures d) c.if-not-is_long.false in
    let long = long_from items (storable-between c.args.from c.args.to c.args.self.now c.len-all.ensures.storable) c.requires.alone more in
    let size = size_is c.entries-entries.result.now items c.entries-entries.ensures in
    let at : c.args.at < 1 + overflow_of items = omega (arith, c.requires.there, length-pages items) in
    omega (arith, at, long.need, long.low, size, c.min-end.ensures)

pub slice_bounds-fill_with-start : goal.slice_bounds-fill_with-start
slice_bounds-fill_with-start c =
    let d : ItemState = only_place (pos 0) [] in
    let items : List ItemState = between c.args.from c.args.to c.args.self.now in
    let more = fit_between c.args.from c.args.to c.args.self.now d c.is_long.result true c.requires.some c.requires.within c.requires.alone (c.is_long.ensures d) c.if-not-is_long.false in
    let long = long_from items (storable-between c.args.from c.args.to c.args.self.now c.len-all.ensures.storable) c.requires.alone more in
    let size = size_is c.entries-entries.result.now items c.entries-entries.ensures in
    let at : c.args.at < 1 + overflow_of items = omega (arith, c.requires.there, length-pages items) in
    let h : 604 + (c.args.at - 1) * 16384 ≤ c.min-end.result = omega (arith, at, long.need, long.low, size, c.min-end.ensures) in
    h

pub returns : goal.returns
returns c =
    let d : ItemState = only_place (pos 0) [] in
    let items : List ItemState = between c.args.from c.args.to c.args.self.now in
    let more = fit_between c.args.from c.args.to c.args.self.now d c.is_long.result true c.requires.some c.requires.within c.requires.alone (c.is_long.ensures d) c.if-not-is_long.false in
    let long = long_from items (storable-between c.args.from c.args.to c.args.self.now c.len-all.ensures.storable) c.requires.alone more in
    let size = size_is c.entries-entries.result.now items c.entries-entries.ensures in
    let few = few_between c.args.self.now c.args.from c.args.to (omega (arith, c.requires.some)) c.requires.within c.len-all.ensures.storable c.requires.alone in
    let number : c.to_be_bytes-number.result ≡ encoded_count (length items) = c.to_be_bytes-number.ensures ∙ number_spelled (c.args.to - c.args.from) ∙ ap encoded_count (sym few.0) in
    let at : c.args.at < 1 + overflow_of items = omega (arith, c.requires.there, length-pages items) in
    λ other. c.fill_with-2.ensures
    ∙ overflow_page items c.to_be_bytes-number.result c.entries-entries.result.now c.args.at c.min-end.result other number c.entries-entries.ensures more (omega (arith, c.if-at-eq0.false)) at (omega (arith, at, long.need, long.low, size)) c.min-end.ensures
