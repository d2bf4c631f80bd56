use Rattle.std.proofs.Common.{◌≡◌, ◌∙◌, ◌+◌, ◌-◌, get_or, pos, [], ap, sym, arith}
use Rattle.std.proofs.lemmas.List.{take_all}
use Rattle.oai_item.specs.Item.{ItemState}
use Rattle.oai_item.specs.Order.{are_in_order, item_cmp}
use Rattle.oai_item.proofs.Around.{only_place}
use Rattle.oai_places.proofs.RisingItems.{falls_from, one_rises, rises_from}
use Rattle.oai_places.proofs.entries.Entries.are_rising.Goals as goal

pub loop-at-init : goal.loop-at-init
loop-at-init c = record { rising = one_rises c.args.self.now; last = λ d. c.spelled-before.ensures d }

pub returns-then-ne : goal.returns-then-ne
returns-then-ne c =
    let d : ItemState = only_place (pos 0) [] in
    let before : c.order.result ≡ item_cmp (get_or c.args.self.now (c.loop-at.at - 1) d) (get_or c.args.self.now c.loop-at.at d) =
    c.order.ensures ∙ (λ k. item_cmp (c.loop-at.invariant.last d k) (c.spelled-item.ensures d k))
    in
    sym (falls_from c.args.self.now (c.loop-at.at - 1) c.loop-at.at d c.order.result (omega (arith, c.loop-at.auto.at)) (omega (arith, c.loop-at-test.true, c.len-len.ensures.len))
    before (sym c.ne.ensures ∙ c.if-ne.true))

pub loop-at-preserved : goal.loop-at-preserved
loop-at-preserved c =
    let d : ItemState = only_place (pos 0) [] in
    let before : c.order.result ≡ item_cmp (get_or c.args.self.now (c.loop-at.at - 1) d) (get_or c.args.self.now c.loop-at.at d) =
    c.order.ensures ∙ (λ k. item_cmp (c.loop-at.invariant.last d k) (c.spelled-item.ensures d k))
    in
    let here : c.loop-at.at ≡ (c.loop-at.at + 1) - 1 = omega arith in
    record {
      rising = rises_from c.args.self.now (c.loop-at.at - 1) c.loop-at.at d c.order.result (omega (arith, c.loop-at.auto.at)) (omega (arith, c.loop-at-test.true, c.len-len.ensures.len))
          before (sym c.ne.ensures ∙ c.if-ne.false) c.loop-at.invariant.rising;
      last = λ e. c.spelled-item.ensures e ∙ ap (λ n. get_or c.args.self.now n e) here;
    }

pub returns : goal.returns
returns c =
    sym (ap are_in_order (sym (take_all c.loop-at.at c.args.self.now (omega (arith, c.loop-at-test.false, c.len-len.ensures.len)))) ∙ c.loop-at.invariant.rising)
