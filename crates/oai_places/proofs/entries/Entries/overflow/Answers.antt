use Rattle.std.proofs.Common.{◌∙◌, ◌+◌, ◌-◌, ◌/◌, false, true, List, [], ap, arith, pos, sym}
use Rattle.oai_item.specs.Item.{ItemState}
use Rattle.oai_item.proofs.Around.{only_place}
use Rattle.oai_places.specs.Pages.{between}
use Rattle.oai_places.proofs.EntryLemmas.{size_is, storable-between}
use Rattle.oai_places.proofs.OverflowLemmas.{long_from, overflow-long, overflow-one}
use Rattle.oai_places.proofs.ShortLemmas.{fit_between}
use Rattle.oai_places.proofs.entries.Entries.overflow.Goals as goal

pub returns-then-not-is_long : goal.returns-then-not-is_long
returns-then-not-is_long c =
    let d : ItemState = only_place (pos 0) [] in
    let items : List ItemState = between c.args.from c.args.to c.args.self.now in
    sym (overflow-one items (fit_between c.args.from c.args.to c.args.self.now d c.is_long.result false c.requires.some c.requires.within c.requires.alone (c.is_long.ensures d) c.if-not-is_long.true))

pub overflow_sub-result : goal.overflow_sub-result
overflow_sub-result c =
    let d : ItemState = only_place (pos 0) [] in
    let items : List ItemState = between c.args.from c.args.to c.args.self.now in
    let more = fit_between c.args.from c.args.to c.args.self.now d c.is_long.result true c.requires.some c.requires.within c.requires.alone (c.is_long.ensures d) c.if-not-is_long.false in
    let long = long_from items (storable-between c.args.from c.args.to c.args.self.now c.len-all.ensures.storable) c.requires.alone more in
    omega (arith, long.low, size_is c.entries-size.result.now items c.entries-size.ensures)

pub returns : goal.returns
returns c =
    let d : ItemState = only_place (pos 0) [] in
    let items : List ItemState = between c.args.from c.args.to c.args.self.now in
    let more = fit_between c.args.from c.args.to c.args.self.now d c.is_long.result true c.requires.some c.requires.within c.requires.alone (c.is_long.ensures d) c.if-not-is_long.false in
    ap (λ n. (n + 4 - 608 + 16383) / 16384) (size_is c.entries-size.result.now items c.entries-size.ensures) ∙ sym (overflow-long items more)
