-- One member more, and at the end: the keys of a map ascend.
use Rattle.std.proofs.Common.{◌≡◌, String, Global, Some, map, string_bytes, ap, sym, ◌∙◌}
use Rattle.serde_json.specs.declared.value.Value.{Value}
use Rattle.oai_names.specs.Optional.{each_of}
use Rattle.oai_deposit.specs.Lines.{record_of}
use Rattle.oai_json.proofs.JsonLemmas.{seen}
use Rattle.oai_json.proofs.ReadingLemmas.{with_front, goes_on, is_done}
use Rattle.oai_deposit.proofs.RecordLemmas.{record_of-Some, rising}
use Rattle.oai_deposit.proofs.records.records_in.Goals as goal

pub loop-prefix-preserved : goal.loop-prefix-preserved
loop-prefix-preserved c =
    let forms = c.args.forms in
    let e : String Global × Value = (c.in-Some.prefix.now, c.in-Some.given.now) in
    let name : c.in_ok-prefix.prefix ≡ string_bytes e.0 = c.in_ok-prefix.ensures ∙ c.as_str.ensures.value in
    let read : record_of forms (seen e) ≡ Some (c.in_ok-prefix.prefix, c.in_ok-given_of.field-0) =
    rw name (record_of-Some forms (seen e) c.in_ok-given_of.field-0 c.in_ok-given_of.ensures) in
    let left = ap (λ es. with_front c.loop-prefix.records.items (each_of (record_of forms) (map seen es))) c.in-Some.ensures.steps in
    rw c.in_ok-push.ensures.items (goes_on (record_of forms) c.loop-prefix.records.items (seen e) (map seen c.next.new.self) _ _ read (sym left ∙ c.loop-prefix.invariant))

pub new-requires-3 : goal.new-requires-3
new-requires-3 c =
    let all = is_done (record_of c.args.forms) c.loop-prefix.records.items (map seen c.loop-prefix.prefix-iterator) _ (ap (map seen) c.in-None.ensures.steps.0) c.loop-prefix.invariant in
    rw c.new-2.ensures (rising c.args.forms c.args.members.now.entries c.loop-prefix.records.items all c.iter-prefix-items.ensures.ordered)
