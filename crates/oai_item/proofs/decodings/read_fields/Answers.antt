use Rattle.std.proofs.Common.{◌≡◌, subst, arith, true}
use Rattle.std.specs.List.{list_all}
use Rattle.oai_item.specs.Decoding.{first_field}
use Rattle.oai_item.specs.Encoding.{encoded_count, encoded_field}
use Rattle.oai_item.specs.Encoding.{is_text_field}
use Rattle.oai_item.specs.SpellingParts.{HasRead}
use Rattle.oai_item.proofs.ReadBack.{field_back}
use Rattle.oai_item.proofs.Spellings.{count_of_list, few_behind, next_in_list, no_room, field_has_eight, field_has_four, field_is_cut}
use Rattle.oai_item.proofs.Walking.{all_spelled, list_found, none_read, one_more}
use Rattle.oai_item.proofs.decodings.read_fields.Goals as goal

pub returns-in_err-count : goal.returns-in_err-count
returns-in_err-count c = rw c.from_residual.ensures (λ s. c.in_err-count.ensures (count_of_list encoded_field field_has_four _ c.args.bytes.now s))

pub returns-then-start-count : goal.returns-then-start-count
returns-then-start-count c =
    let read = c.in_ok-count.ensures in
    no_room encoded_field 8 field_has_eight field_has_four (λ xs. list_all is_text_field xs ≡ true) c.args.bytes.now c.in_ok-count.start.now c.in_ok-count.count read.0 read.1 (omega (arith, c.if-start-count.true))

pub loop-init : goal.loop-init
loop-init c = none_read encoded_field is_text_field c.in_ok-count.start.now

pub loop-preserved : goal.loop-preserved
loop-preserved c = one_more encoded_field is_text_field c.in_ok-count.start.now c.loop.rest.now c.in_ok-after.after.now c.loop.counter _ c.loop.invariant c.in_ok-after.ensures

pub returns-in_err-after : goal.returns-in_err-after
returns-in_err-after c =
    let read = c.in_ok-count.ensures in
    let so_far = c.loop.invariant in
    rw c.from_residual-in_err-after.ensures (λ s.
    c.in_err-after.ensures (next_in_list encoded_field field_is_cut field_has_four is_text_field c.args.bytes.now c.in_ok-count.start.now c.loop.rest.now so_far.elements c.in_ok-count.count read.0 read.1 so_far.parts (omega (arith, so_far.many, c.loop-test.true)) s))

pub new-requires : goal.new-requires
new-requires c =
    let few = few_behind c.args.bytes.now (encoded_count c.in_ok-count.count) c.in_ok-count.start.now c.in_ok-count.ensures.1 c.requires in
    let whole : HasRead encoded_field is_text_field c.in_ok-count.start.now c.in_ok-count.count c.loop.rest.now =
    subst (λ n. HasRead encoded_field is_text_field c.in_ok-count.start.now n c.loop.rest.now) (omega (arith, c.loop.auto.counter-end, c.loop-test.false)) c.loop.invariant in
    all_spelled first_field encoded_field is_text_field field_back c.in_ok-count.start.now c.loop.rest.now c.in_ok-count.count few whole

pub returns : goal.returns
returns c =
    let few = few_behind c.args.bytes.now (encoded_count c.in_ok-count.count) c.in_ok-count.start.now c.in_ok-count.ensures.1 c.requires in
    let whole : HasRead encoded_field is_text_field c.in_ok-count.start.now c.in_ok-count.count c.loop.rest.now =
    subst (λ n. HasRead encoded_field is_text_field c.in_ok-count.start.now n c.loop.rest.now) (omega (arith, c.loop.auto.counter-end, c.loop-test.false)) c.loop.invariant in
    list_found first_field encoded_field is_text_field field_back c.args.bytes.now c.in_ok-count.start.now c.loop.rest.now c.in_ok-count.count _ few c.in_ok-count.ensures.1 whole c.new.ensures
