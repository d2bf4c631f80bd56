use Rattle.std.proofs.Common.{◌≢◌, ℕ, List, arith}
use Rattle.std.specs.Str.{is_utf8}
use Rattle.std.proofs.lemmas.Bool.{and_parts}
use Rattle.oai_item.specs.Decoding.{first_text}
use Rattle.oai_item.specs.Encoding.{encoded_text}
use Rattle.oai_names.specs.Sets.{may_be_set_spec}
use Rattle.oai_item.specs.Walks.{is_name_text}
use Rattle.oai_item.proofs.ReadBack.{text_back}
use Rattle.oai_item.proofs.Walking.{next_is, next_stands, none_left}
use Rattle.oai_item.proofs.walks.SpelledSets.next.Goals as goal

pub returns-then-self-eq0-clause-next : goal.returns-then-self-eq0-clause-next
returns-then-self-eq0-clause-next c = rw (← c.self.view_is) (none_left first_text c.self.inside.left c.self.inside.rest.now (omega (arith, c.if-self-eq0.true)))

-- where some are to come, the next one stands
pub first_set-requires : goal.first_set-requires
first_set-requires c =
    let some : c.self.inside.left ≢ 0 = λ e. omega (arith, e, c.if-self-eq0.false) in
    next_stands first_text encoded_text (is_name_text may_be_set_spec) c.self.inside.rest.now c.self.inside.left some c.self.invariant

pub invariant_of-self : goal.invariant_of-self
invariant_of-self c =
    let x : List ℕ = c.first_set.result.0.now in
    let some : c.self.inside.left ≢ 0 = λ e. omega (arith, e, c.if-self-eq0.false) in
    (next_is first_text encoded_text (is_name_text may_be_set_spec) text_back c.self.inside.rest.now c.first_set.result.1.now c.self.inside.left x some c.self.invariant c.first_set.ensures.1).spelled_behind

pub returns-clause-next : goal.returns-clause-next
returns-clause-next c =
    let x : List ℕ = c.first_set.result.0.now in
    let some : c.self.inside.left ≢ 0 = λ e. omega (arith, e, c.if-self-eq0.false) in
    rw (← c.self.view_is) (next_is first_text encoded_text (is_name_text may_be_set_spec) text_back c.self.inside.rest.now c.first_set.result.1.now c.self.inside.left x some c.self.invariant c.first_set.ensures.1).is

pub returns-clause-name : goal.returns-clause-name
returns-clause-name c = (and_parts (may_be_set_spec c.first_set.result.0.now) (is_utf8 c.first_set.result.0.now) c.first_set.ensures.0).0
