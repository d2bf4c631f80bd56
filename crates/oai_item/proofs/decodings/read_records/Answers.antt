use Rattle.std.proofs.Common.{◌≡◌, subst, arith, true}
use Rattle.std.specs.List.{flat_map, list_all}
use Rattle.oai_item.specs.Decoding.{first_record}
use Rattle.oai_item.specs.Encoding.{encoded_count, encoded_record}
use Rattle.oai_item.specs.Walks.{is_record}
use Rattle.oai_item.specs.SpellingParts.{HasRead}
use Rattle.oai_item.proofs.ReadBack.{record_back}
use Rattle.oai_item.proofs.Spellings.{count_of_list, few_behind, next_in_list, no_room, record_has_eight, record_has_four, record_is_cut}
use Rattle.oai_item.proofs.Walking.{all_spelled, list_found, none_read, one_more}
use Rattle.oai_item.proofs.decodings.read_records.Goals as goal

pub returns-in_err-count : goal.returns-in_err-count
returns-in_err-count c = rw c.from_residual.ensures (λ s. c.in_err-count.ensures (count_of_list encoded_record record_has_four _ c.args.bytes.now s))

pub returns-then-start-count : goal.returns-then-start-count
returns-then-start-count c =
    let read = c.in_ok-count.ensures in
    no_room encoded_record 8 record_has_eight record_has_four (λ xs. list_all is_record xs ≡ true) c.args.bytes.now c.in_ok-count.start.now c.in_ok-count.count read.0 read.1 (omega (arith, c.if-start-count.true))

pub read_record-requires : goal.read_record-requires
read_record-requires c =
    let start_few = few_behind c.args.bytes.now (encoded_count c.in_ok-count.count) c.in_ok-count.start.now c.in_ok-count.ensures.1 c.requires in
    few_behind c.in_ok-count.start.now (flat_map encoded_record c.loop.invariant.elements) c.loop.rest.now c.loop.invariant.parts start_few

pub loop-init : goal.loop-init
loop-init c = none_read encoded_record is_record c.in_ok-count.start.now

pub loop-preserved : goal.loop-preserved
loop-preserved c = one_more encoded_record is_record c.in_ok-count.start.now c.loop.rest.now c.in_ok-after.after.now c.loop.counter _ c.loop.invariant c.in_ok-after.ensures

pub returns-in_err-after : goal.returns-in_err-after
returns-in_err-after c =
    let read = c.in_ok-count.ensures in
    let so_far = c.loop.invariant in
    rw c.from_residual-in_err-after.ensures (λ s.
    c.in_err-after.ensures (next_in_list encoded_record record_is_cut record_has_four is_record c.args.bytes.now c.in_ok-count.start.now c.loop.rest.now so_far.elements c.in_ok-count.count read.0 read.1 so_far.parts (omega (arith, so_far.many, c.loop-test.true)) s))

pub new-requires : goal.new-requires
new-requires c =
    let few = few_behind c.args.bytes.now (encoded_count c.in_ok-count.count) c.in_ok-count.start.now c.in_ok-count.ensures.1 c.requires in
    let whole : HasRead encoded_record is_record c.in_ok-count.start.now c.in_ok-count.count c.loop.rest.now =
    subst (λ n. HasRead encoded_record is_record c.in_ok-count.start.now n c.loop.rest.now) (omega (arith, c.loop.auto.counter-end, c.loop-test.false)) c.loop.invariant in
    all_spelled first_record encoded_record is_record record_back c.in_ok-count.start.now c.loop.rest.now c.in_ok-count.count few whole

pub returns : goal.returns
returns c =
    let few = few_behind c.args.bytes.now (encoded_count c.in_ok-count.count) c.in_ok-count.start.now c.in_ok-count.ensures.1 c.requires in
    let whole : HasRead encoded_record is_record c.in_ok-count.start.now c.in_ok-count.count c.loop.rest.now =
    subst (λ n. HasRead encoded_record is_record c.in_ok-count.start.now n c.loop.rest.now) (omega (arith, c.loop.auto.counter-end, c.loop-test.false)) c.loop.invariant in
    list_found first_record encoded_record is_record record_back c.args.bytes.now c.in_ok-count.start.now c.loop.rest.now c.in_ok-count.count _ few c.in_ok-count.ensures.1 whole c.new.ensures
