use Rattle.std.proofs.Common.{Option, IsSome, [], get_or, pos, refl, subst, sym, arith}
use Rattle.oai_item.specs.Item.{ItemState}
use Rattle.oai_item.proofs.Around.{only_place}
use Rattle.oai_item.proofs.Decoded.{item_in-spelled}
use Rattle.oai_places.proofs.EntryLemmas.{fields_are, item_between, read_there, size_of-more}
use Rattle.oai_places.proofs.entries.Entries.item.Goals as goal

pub overflow_add-from : goal.overflow_add-from
overflow_add-from c =
    let d : ItemState = only_place (pos 0) [] in
    omega (arith, c.end-to.type_inv, c.start-from.ensures, c.end-to.ensures, size_of-more c.args.self.now c.args.at d c.requires)

pub held-requires-clause-order : goal.held-requires-clause-order
held-requires-clause-order c =
    let f = fields_are c.self.inside.bytes c.self.inside.ends.items c.args.self.now c.self.view_is c.self.invariant in
    (item_between c.self.inside.bytes c.args.self.now c.args.at c.start-from.result c.end-to.result f.spelling f.storable c.requires c.start-from.ensures c.end-to.ensures).order

pub held-requires-clause-within : goal.held-requires-clause-within
held-requires-clause-within c =
    let f = fields_are c.self.inside.bytes c.self.inside.ends.items c.args.self.now c.self.view_is c.self.invariant in
    (item_between c.self.inside.bytes c.args.self.now c.args.at c.start-from.result c.end-to.result f.spelling f.storable c.requires c.start-from.ensures c.end-to.ensures).within

pub held-requires-clause-item : goal.held-requires-clause-item
held-requires-clause-item c =
    let f = fields_are c.self.inside.bytes c.self.inside.ends.items c.args.self.now c.self.view_is c.self.invariant in
    let there = item_between c.self.inside.bytes c.args.self.now c.args.at c.start-from.result c.end-to.result f.spelling f.storable c.requires c.start-from.ensures c.end-to.ensures in
    let d : ItemState = only_place (pos 0) [] in
    subst (λ (found : Option ItemState). IsSome found) (sym (item_in-spelled _ (get_or c.args.self.now c.args.at d) (there.item d))) refl

pub returns : goal.returns
returns c =
    let f = fields_are c.self.inside.bytes c.self.inside.ends.items c.args.self.now c.self.view_is c.self.invariant in
    let there = item_between c.self.inside.bytes c.args.self.now c.args.at c.start-from.result c.end-to.result f.spelling f.storable c.requires c.start-from.ensures c.end-to.ensures in
    read_there c.held.result c.args.self.now c.args.at _ c.held.ensures (λ d. item_in-spelled _ (get_or c.args.self.now c.args.at d) (there.item d))
