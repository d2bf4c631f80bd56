use Rattle.std.proofs.Common.{◌∙◌, ◌<◌, ◌++◌, ◌∷◌, List, [], ap, arith, length, pos, sym, Vec, Global}
use Rattle.oai_item.specs.Item.{ItemState}
use Rattle.oai_item.proofs.Around.{only_place}
use Rattle.oai_places.specs.Places.{is_wanted}
use Rattle.oai_places.proofs.PartLemmas.{one_not, one_over, one_taken, taken_stopped}
use Rattle.oai_places.proofs.parts.take_in.Goals.{then-is_item_wanted+then-left-eq0+in_ok-item+in_ok-push, then-is_item_wanted+else-left-eq0, else-is_item_wanted}
use Rattle.oai_places.proofs.parts.take_in.Goals as goal

pub returns-then-len-portion : goal.returns-then-len-portion
returns-then-len-portion c =
    taken_stopped (is_wanted c.args.portion.wanted.filter.now c.args.portion.wanted.key.stamp c.args.portion.wanted.key.identifier.now) c.args.portion.most c.args.part.now.items c.entries.part.items c.args.portion.skip c.entries.left c.args.entries.now c.entries.at
    c.entries.invariant (omega (arith, c.if-len-portion.true, c.len.ensures, c.entries.part.ok.0))

pub entries-preserved : goal.entries-preserved
entries-preserved c =
    let p = is_wanted c.args.portion.wanted.filter.now c.args.portion.wanted.key.stamp c.args.portion.wanted.key.identifier.now in
    let d : ItemState = only_place (pos 0) [] in
    let items : List ItemState = c.args.entries.now in
    let mid : List ItemState = c.entries.part.items in
    let within : c.entries.at < length items = omega (arith, c.entries-test.true, c.len-at-end.ensures.len) in
    let some : length mid < c.args.portion.most = omega (arith, c.if-len-portion.false, c.len.ensures, c.entries.part.ok.0) in
    elim c.if-is_item_wanted.branch [
      | then-is_item_wanted+then-left-eq0+in_ok-item+in_ok-push w ↦
          one_taken p c.args.portion.most c.args.part.now.items mid c.if-is_item_wanted.part.items c.args.portion.skip c.entries.left c.if-is_item_wanted.left items c.entries.at d within c.entries.invariant
          (sym (c.is_item_wanted.ensures ∙ ap p (c.spelled.ensures d)) ∙ w.if-is_item_wanted.true) w.if-left-eq0.true some
          (ap (λ (v : Vec ItemState Global). v.items) w.part-is ∙ w.in_ok-push.ensures.items ∙ ap (λ item. mid ++ item ∷ []) (w.in_ok-item.ensures d)) w.left-is
      | then-is_item_wanted+else-left-eq0 w ↦
          one_over p c.args.portion.most c.args.part.now.items mid c.if-is_item_wanted.part.items c.args.portion.skip c.entries.left c.if-is_item_wanted.left items c.entries.at d within c.entries.invariant
          (sym (c.is_item_wanted.ensures ∙ ap p (c.spelled.ensures d)) ∙ w.if-is_item_wanted.true) w.if-left-eq0.false (ap (λ (v : Vec ItemState Global). v.items) w.part-is) w.left-is
      | else-is_item_wanted w ↦
          one_not p c.args.portion.most c.args.part.now.items mid c.if-is_item_wanted.part.items c.args.portion.skip c.entries.left c.if-is_item_wanted.left items c.entries.at d within c.entries.invariant
          (sym (c.is_item_wanted.ensures ∙ ap p (c.spelled.ensures d)) ∙ w.if-is_item_wanted.false) (ap (λ (v : Vec ItemState Global). v.items) w.part-is) w.left-is
    ]
