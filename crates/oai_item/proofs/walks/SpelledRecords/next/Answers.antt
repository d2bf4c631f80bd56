use Rattle.std.proofs.Common.{◌≡◌, ◌≢◌, ℕ, List, arith}
use Rattle.oai_names.specs.Names.{may_be_prefix}
use Rattle.std.specs.Str.{is_utf8}
use Rattle.std.proofs.lemmas.Bool.{and_parts}
use Rattle.oai_item.specs.Decoding.{first_record}
use Rattle.oai_item.specs.Encoding.{encoded_record}
use Rattle.oai_item.specs.Item.{Metadata}
use Rattle.oai_item.specs.Walks.{are_fields, is_name_text, is_record}
use Rattle.oai_item.proofs.ReadBack.{record_back}
use Rattle.oai_item.proofs.Walking.{last_is, next_is, next_stands, none_left, none_spelled}
use Rattle.oai_item.proofs.walks.SpelledRecords.next.Goals as goal

pub returns-then-self-eq0-clause-next : goal.returns-then-self-eq0-clause-next
returns-then-self-eq0-clause-next c = rw (← c.self.view_is) (none_left first_record c.self.inside.left c.self.inside.rest.now (omega (arith, c.if-self-eq0.true)))

-- where some are to come, the next one stands
pub first_record-format-requires : goal.first_record-format-requires
first_record-format-requires c =
    let some : c.self.inside.left ≢ 0 = λ e. omega (arith, e, c.if-self-eq0.false) in
    next_stands first_record encoded_record is_record c.self.inside.rest.now c.self.inside.left some c.self.invariant

pub last_record-requires : goal.last_record-requires
last_record-requires c =
    let some : c.self.inside.left ≢ 0 = λ e. omega (arith, e, c.if-self-eq0.false) in
    next_stands first_record encoded_record is_record c.self.inside.rest.now c.self.inside.left some c.self.invariant

-- behind the last one none is to come, so that it does not matter where its bytes end
pub invariant_of-self : goal.invariant_of-self
invariant_of-self c = none_spelled first_record encoded_record is_record c.self.inside.rest.now c.self.invariant.few

pub returns-then-self-eq1-clause-next : goal.returns-then-self-eq1-clause-next
returns-then-self-eq1-clause-next c =
    let x : Metadata = (c.last_record.result.prefix.now, c.last_record.result.fields) in
    let one : c.self.inside.left ≡ 1 = omega (arith, c.if-self-eq1.true) in
    rw (← c.self.view_is) (last_is first_record encoded_record record_back c.self.inside.rest.now (first_record c.self.inside.rest.now).1 c.self.inside.left x one c.self.invariant.few c.last_record.ensures.1)

pub returns-then-self-eq1-clause-name : goal.returns-then-self-eq1-clause-name
returns-then-self-eq1-clause-name c =
    let prefix : List ℕ = c.last_record.result.prefix.now in
    let named = and_parts (is_name_text may_be_prefix prefix) (are_fields c.last_record.result.fields) c.last_record.ensures.0 in
    (and_parts (may_be_prefix prefix) (is_utf8 prefix) named.0).0

pub invariant_of-self-2 : goal.invariant_of-self-2
invariant_of-self-2 c =
    let x : Metadata = (c.first_record-format.result.0.prefix.now, c.first_record-format.result.0.fields) in
    let some : c.self.inside.left ≢ 0 = λ e. omega (arith, e, c.if-self-eq0.false) in
    (next_is first_record encoded_record is_record record_back c.self.inside.rest.now c.first_record-format.result.1.now c.self.inside.left x some c.self.invariant c.first_record-format.ensures.1).spelled_behind

pub returns-clause-next : goal.returns-clause-next
returns-clause-next c =
    let x : Metadata = (c.first_record-format.result.0.prefix.now, c.first_record-format.result.0.fields) in
    let some : c.self.inside.left ≢ 0 = λ e. omega (arith, e, c.if-self-eq0.false) in
    rw (← c.self.view_is) (next_is first_record encoded_record is_record record_back c.self.inside.rest.now c.first_record-format.result.1.now c.self.inside.left x some c.self.invariant c.first_record-format.ensures.1).is

pub returns-clause-name : goal.returns-clause-name
returns-clause-name c =
    let prefix : List ℕ = c.first_record-format.result.0.prefix.now in
    let named = and_parts (is_name_text may_be_prefix prefix) (are_fields c.first_record-format.result.0.fields) c.first_record-format.ensures.0 in
    (and_parts (may_be_prefix prefix) (is_utf8 prefix) named.0).0
