use Rattle.std.proofs.Common.{◌∙◌, ◌+◌, [], arith, pos, sym}
use Rattle.oai_item.specs.Item.{ItemState}
use Rattle.oai_item.proofs.Around.{only_place}
use Rattle.oai_places.proofs.ShortLemmas.{cuts_around, length-with, short-with, size_of-with}
use Rattle.oai_places.proofs.entries.Entries.put_at.Goals as goal

pub overflow_add-around : goal.overflow_add-around
overflow_add-around c =
    omega (arith, c.requires.within, c.len-all.ensures.len, c.len-all.type_inv, length-with c.args.self.now c.in_ok-entries.entries c.args.at (c.args.at + c.args.count) c.args.item.now c.in_ok-entries.ensures (omega arith) c.requires.within)

pub returns-then-is_long-clause-cuts : goal.returns-then-is_long-clause-cuts
returns-then-is_long-clause-cuts c =
    let d : ItemState = only_place (pos 0) [] in
    cuts_around c.args.self.now c.in_ok-entries.entries c.args.at (c.args.at + c.args.count) c.args.item.now d c.in_ok-entries.ensures (omega arith) c.requires.within c.requires.one_page (sym c.if-is_long.true ∙ c.is_long.ensures d)

pub cuts-cuts-requires-clause-size : goal.cuts-cuts-requires-clause-size
cuts-cuts-requires-clause-size c =
    let d : ItemState = only_place (pos 0) [] in
    size_of-with c.args.self.now c.in_ok-entries.entries c.args.at (c.args.at + c.args.count) c.args.item.now d c.in_ok-entries.ensures (omega arith) c.requires.within c.requires.one_page (sym c.if-is_long.false ∙ c.is_long.ensures d)

pub cuts-cuts-requires-clause-short : goal.cuts-cuts-requires-clause-short
cuts-cuts-requires-clause-short c =
    let d : ItemState = only_place (pos 0) [] in
    short-with c.args.self.now c.in_ok-entries.entries c.args.at (c.args.at + c.args.count) c.args.item.now d c.in_ok-entries.ensures c.requires.within (omega arith) c.requires.one_page (sym c.if-is_long.false ∙ c.is_long.ensures d)
