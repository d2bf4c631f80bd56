use Rattle.std.proofs.Common.{◌≡◌, subst, arith, true}
use Rattle.std.specs.List.{list_all}
use Rattle.oai_item.specs.Decoding.{first_text}
use Rattle.oai_item.specs.Encoding.{encoded_count, encoded_text}
use Rattle.oai_names.specs.Sets.{may_be_set_spec}
use Rattle.oai_item.specs.Walks.{is_name_text}
use Rattle.oai_item.specs.SpellingParts.{HasRead}
use Rattle.oai_item.proofs.ReadBack.{text_back}
use Rattle.oai_item.proofs.Spellings.{count_of_list, few_behind, next_in_list, no_room, text_has_four, text_is_cut}
use Rattle.oai_item.proofs.Walking.{all_spelled, list_found, none_read, one_more}
use Rattle.oai_item.proofs.decodings.read_sets.Goals as goal

pub returns-in_err-count : goal.returns-in_err-count
returns-in_err-count c = rw c.from_residual.ensures (λ s. c.in_err-count.ensures (count_of_list encoded_text text_has_four _ c.args.bytes.now s))

pub returns-then-start-count : goal.returns-then-start-count
returns-then-start-count c =
    let read = c.in_ok-count.ensures in
    no_room encoded_text 4 text_has_four text_has_four (λ xs. list_all (is_name_text may_be_set_spec) xs ≡ true) c.args.bytes.now c.in_ok-count.start.now c.in_ok-count.count read.0 read.1 (omega (arith, c.if-start-count.true))

pub loop-init : goal.loop-init
loop-init c = none_read encoded_text (is_name_text may_be_set_spec) c.in_ok-count.start.now

pub loop-preserved : goal.loop-preserved
loop-preserved c = one_more encoded_text (is_name_text may_be_set_spec) c.in_ok-count.start.now c.loop.rest.now c.in_ok-after.after.now c.loop.counter _ c.loop.invariant c.in_ok-after.ensures

pub returns-in_err-after : goal.returns-in_err-after
returns-in_err-after c =
    let read = c.in_ok-count.ensures in
    let so_far = c.loop.invariant in
    rw c.from_residual-in_err-after.ensures (λ s.
    c.in_err-after.ensures (next_in_list encoded_text text_is_cut text_has_four (is_name_text may_be_set_spec) c.args.bytes.now c.in_ok-count.start.now c.loop.rest.now so_far.elements c.in_ok-count.count read.0 read.1 so_far.parts (omega (arith, so_far.many, c.loop-test.true)) s))

pub new-requires : goal.new-requires
new-requires c =
    let few = few_behind c.args.bytes.now (encoded_count c.in_ok-count.count) c.in_ok-count.start.now c.in_ok-count.ensures.1 c.requires in
    let whole : HasRead encoded_text (is_name_text may_be_set_spec) c.in_ok-count.start.now c.in_ok-count.count c.loop.rest.now =
    subst (λ n. HasRead encoded_text (is_name_text may_be_set_spec) c.in_ok-count.start.now n c.loop.rest.now) (omega (arith, c.loop.auto.counter-end, c.loop-test.false)) c.loop.invariant in
    all_spelled first_text encoded_text (is_name_text may_be_set_spec) text_back c.in_ok-count.start.now c.loop.rest.now c.in_ok-count.count few whole

pub returns : goal.returns
returns c =
    let few = few_behind c.args.bytes.now (encoded_count c.in_ok-count.count) c.in_ok-count.start.now c.in_ok-count.ensures.1 c.requires in
    let whole : HasRead encoded_text (is_name_text may_be_set_spec) c.in_ok-count.start.now c.in_ok-count.count c.loop.rest.now =
    subst (λ n. HasRead encoded_text (is_name_text may_be_set_spec) c.in_ok-count.start.now n c.loop.rest.now) (omega (arith, c.loop.auto.counter-end, c.loop-test.false)) c.loop.invariant in
    list_found first_text encoded_text (is_name_text may_be_set_spec) text_back c.args.bytes.now c.in_ok-count.start.now c.loop.rest.now c.in_ok-count.count _ few c.in_ok-count.ensures.1 whole c.new.ensures
