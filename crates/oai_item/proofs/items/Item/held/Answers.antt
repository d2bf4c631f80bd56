use Rattle.std.proofs.Common.{◌≡◌, ◌∙◌, ◌+◌, ◌-◌, ◌≤◌, ℕ, List, length, take, drop, Some, ap, sym, subst, rules, FitsSigned, w64}
use Rattle.std.proofs.lemmas.Int.{to_z-of_z}
use Rattle.oai_item.specs.Decoding.{item_in}
use Rattle.oai_item.specs.Held.{AreWhole, records_in}
use Rattle.oai_item.specs.Item.{IsItem, ItemState}
use Rattle.oai_item.proofs.Decoded.{spelled-item_in}
use Rattle.oai_item.proofs.Holding.{records_at_end}
use Rattle.oai_item.proofs.Numbers.{stamp_fits}
use Rattle.oai_item.proofs.Wholes.{same_parts}
use Rattle.oai_item.proofs.items.Item.held.Goals as goal

pub overflow_sub-to : goal.overflow_sub-to
overflow_sub-to c =
    let read : item_in (take (c.args.to - c.args.from) (drop c.args.from c.args.bytes.now)) ≡ Some c.new-spelling.result = rw (← c.as_slice.ensures.value) c.new-spelling.ensures in
    let end = records_at_end c.args.bytes.now c.args.from c.args.to c.new-spelling.result c.requires.order c.requires.within (spelled-item_in _ c.new-spelling.result read) in
    subst (λ (piece : List ℕ). length piece ≤ c.args.to) (sym c.records_bytes-size.ensures.end) end.few

pub part-requires : goal.part-requires
part-requires c =
    let read : item_in (take (c.args.to - c.args.from) (drop c.args.from c.args.bytes.now)) ≡ Some c.new-spelling.result = rw (← c.as_slice.ensures.value) c.new-spelling.ensures in
    let end = records_at_end c.args.bytes.now c.args.from c.args.to c.new-spelling.result c.requires.order c.requires.within (spelled-item_in _ c.new-spelling.result read) in
    subst (λ (piece : List ℕ). c.args.to - length piece + length piece ≤ length c.args.bytes.now) (sym c.records_bytes-size.ensures.end) end.within

pub held-records-requires : goal.held-records-requires
held-records-requires c =
    let read : item_in (take (c.args.to - c.args.from) (drop c.args.from c.args.bytes.now)) ≡ Some c.new-spelling.result = rw (← c.as_slice.ensures.value) c.new-spelling.ensures in
    let end = records_at_end c.args.bytes.now c.args.from c.args.to c.new-spelling.result c.requires.order c.requires.within (spelled-item_in _ c.new-spelling.result read) in
    let same : c.in_ok-part.field-0 ≡ c.records_bytes-size.result.now =
    c.in_ok-part.ensures ∙ subst (λ (piece : List ℕ). take (length piece) (drop (c.args.to - length piece) c.args.bytes.now) ≡ piece) (sym c.records_bytes-size.ensures.end) end.is
    in
    subst AreWhole (sym same) c.records_bytes-size.ensures.spelled

pub with_records-requires : goal.with_records-requires
with_records-requires c =
    let read : item_in (take (c.args.to - c.args.from) (drop c.args.from c.args.bytes.now)) ≡ Some c.new-spelling.result = rw (← c.as_slice.ensures.value) c.new-spelling.ensures in
    let end = records_at_end c.args.bytes.now c.args.from c.args.to c.new-spelling.result c.requires.order c.requires.within (spelled-item_in _ c.new-spelling.result read) in
    let same : c.in_ok-part.field-0 ≡ c.records_bytes-size.result.now =
    c.in_ok-part.ensures ∙ subst (λ (piece : List ℕ). take (length piece) (drop (c.args.to - length piece) c.args.bytes.now) ≡ piece) (sym c.records_bytes-size.ensures.end) end.is
    in
    c.held-records.ensures ∙ ap records_in same ∙ c.records_bytes-size.ensures.records
