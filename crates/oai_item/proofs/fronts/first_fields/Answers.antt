use Rattle.std.proofs.Common.{◌≡◌, ℕ, List, Bor, true, subst, arith}
use Rattle.std.specs.List.{list_all}
use Rattle.oai_item.specs.Decoding.{first_field}
use Rattle.oai_item.specs.Encoding.{encoded_count, encoded_field, is_text_field}
use Rattle.oai_item.specs.SpellingParts.{HasRead, IsCount}
use Rattle.oai_item.proofs.ReadBack.{field_back}
use Rattle.oai_item.proofs.Spellings.{count_of_list, few_behind, field_has_four, field_is_cut, next_in_list}
use Rattle.oai_item.proofs.Walking.{all_spelled, list_found, none_read, one_more, reads_some, reads_value}
use Rattle.oai_item.proofs.fronts.first_fields.Goals as goal

pub unwrap-count-requires : goal.unwrap-count-requires
unwrap-count-requires c =
    let see : ℕ × Bor (List ℕ) → ℕ × List ℕ = λ a. (a.0, a.1.now) in
    reads_some see encoded_count IsCount c.args.bytes.now c.read_count.result c.read_count.ensures
    (count_of_list encoded_field field_has_four (λ xs. list_all is_text_field xs ≡ true) c.args.bytes.now c.requires)

pub loop-init : goal.loop-init
loop-init c = none_read encoded_field is_text_field c.unwrap-count.result.1.now

pub after_field-rest-requires : goal.after_field-rest-requires
after_field-rest-requires c =
    let see : ℕ × Bor (List ℕ) → ℕ × List ℕ = λ a. (a.0, a.1.now) in
    let read = reads_value see encoded_count IsCount c.args.bytes.now c.read_count.result c.unwrap-count.result c.unwrap-count.ensures c.read_count.ensures in
    let so_far = c.loop.invariant in
    next_in_list encoded_field field_is_cut field_has_four is_text_field c.args.bytes.now c.unwrap-count.result.1.now c.loop.rest.now so_far.elements c.unwrap-count.result.0 read.0 read.1 so_far.parts (omega (arith, so_far.many, c.loop-test.true)) c.requires

pub loop-preserved : goal.loop-preserved
loop-preserved c = one_more encoded_field is_text_field c.unwrap-count.result.1.now c.loop.rest.now c.after_field-rest.result.now c.loop.counter _ c.loop.invariant c.after_field-rest.ensures

pub new-requires : goal.new-requires
new-requires c =
    let see : ℕ × Bor (List ℕ) → ℕ × List ℕ = λ a. (a.0, a.1.now) in
    let read = reads_value see encoded_count IsCount c.args.bytes.now c.read_count.result c.unwrap-count.result c.unwrap-count.ensures c.read_count.ensures in
    let few = few_behind c.args.bytes.now (encoded_count c.unwrap-count.result.0) c.unwrap-count.result.1.now read.1 c.requires.few in
    let whole : HasRead encoded_field is_text_field c.unwrap-count.result.1.now c.unwrap-count.result.0 c.loop.rest.now =
    subst (λ n. HasRead encoded_field is_text_field c.unwrap-count.result.1.now n c.loop.rest.now) (omega (arith, c.loop.auto.counter-end, c.loop-test.false)) c.loop.invariant in
    all_spelled first_field encoded_field is_text_field field_back c.unwrap-count.result.1.now c.loop.rest.now c.unwrap-count.result.0 few whole

pub returns : goal.returns
returns c =
    let see : ℕ × Bor (List ℕ) → ℕ × List ℕ = λ a. (a.0, a.1.now) in
    let read = reads_value see encoded_count IsCount c.args.bytes.now c.read_count.result c.unwrap-count.result c.unwrap-count.ensures c.read_count.ensures in
    let few = few_behind c.args.bytes.now (encoded_count c.unwrap-count.result.0) c.unwrap-count.result.1.now read.1 c.requires.few in
    let whole : HasRead encoded_field is_text_field c.unwrap-count.result.1.now c.unwrap-count.result.0 c.loop.rest.now =
    subst (λ n. HasRead encoded_field is_text_field c.unwrap-count.result.1.now n c.loop.rest.now) (omega (arith, c.loop.auto.counter-end, c.loop-test.false)) c.loop.invariant in
    list_found first_field encoded_field is_text_field field_back c.args.bytes.now c.unwrap-count.result.1.now c.loop.rest.now c.unwrap-count.result.0 _ few read.1 whole c.new.ensures
