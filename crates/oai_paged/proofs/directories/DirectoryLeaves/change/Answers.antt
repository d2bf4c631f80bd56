use Rattle.std.proofs.Common.{◌∙◌, ◌+◌, ◌++◌, List, ap, arith, drop, length, rules, take}
use Rattle.oai_item.specs.Item.{ItemState}
use Rattle.oai_item.proofs.Around.{in_order-append}
use Rattle.oai_places.specs.Places.{PlaceState, items_on, named_in}
use Rattle.oai_paged.proofs.ChangedLemmas.{is_changed}
use Rattle.oai_paged.proofs.RenamedLemmas.{added_named}
use Rattle.oai_paged.proofs.directories.DirectoryLeaves.change.Goals as goal

pub add_all-requires-clause-rising : goal.add_all-requires-clause-rising
add_all-requires-clause-rising g c =
    let pages = g.P.PagePool.pages c.args.pages.now in
    let places : List PlaceState = c.args.self.now.places.items in
    let before : List ItemState = items_on pages (take c.args.run.at places) in
    let behind : List ItemState = items_on pages (drop (c.args.run.at + c.args.run.len) places) in
    (in_order-append c.args.cut.entries.now behind (in_order-append before (c.args.cut.entries.now ++ behind) c.requires.may_stand).1).0

pub drop_all-requires : goal.drop_all-requires
drop_all-requires g c =
    let others : List PlaceState = c.in_ok-others.others.items in
    λ n. omega (arith, ap (λ ps. named_in ps n) c.reserve.ensures.others, added_named g.P.PagePool c.args.cut.entries.now others c.args.pages.now c.add_all.new.pages c.in_ok-others.ensures.added n)

pub returns-in-Ok : goal.returns-in-Ok
returns-in-Ok g c =
    let at = c.args.run.at in
    let len = c.args.run.len in
    let before : List PlaceState = c.args.self.now.places.items in
    let others : List PlaceState = c.in_ok-others.others.items in
    record {
      ok = is_changed g.P.PagePool c.args.cut.entries.now at len c.len-count.result others c.exchange.new.others.items before c.exchange.new.places.items c.args.pages.now c.add_all.new.pages c.requires.stands
          (omega (arith, c.requires.within.within, c.args.self.now.places.ok.0)) c.in_ok-others.ensures.added c.requires.may_stand
          (omega (arith, c.len-count.ensures, c.reserve.new.others.ok.0, ap length c.reserve.ensures.others))
          (c.exchange.ensures.others ∙ ap (λ ps. take len (drop at ps)) c.reserve.ensures.places)
          (c.exchange.ensures.places
          ∙ ap (λ ps. take at ps ++ (c.reserve.new.others.items ++ drop (at + len) ps)) c.reserve.ensures.places
          ∙ ap (λ os. take at before ++ (os ++ drop (at + len) before)) c.reserve.ensures.others);
      back = search rules;
      err = search rules;
      capacity = search rules;
      pool = search rules;
      groups = c.exchange-in-Ok.ensures c.args.self.now.places.items c.exchange.new.places.items (record {
        added = c.reserve.new.others.items;
        many = omega (arith, c.len-count.ensures, c.reserve.new.others.ok.0);
        within = omega (arith, c.requires.within.within, c.args.self.now.places.ok.0);
        is = c.exchange.ensures.places ∙ ap (λ ps. take at ps ++ (c.reserve.new.others.items ++ drop (at + len) ps)) c.reserve.ensures.places;
      });
    }
