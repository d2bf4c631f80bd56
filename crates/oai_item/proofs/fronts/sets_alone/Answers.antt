use Rattle.std.proofs.Common.{◌≡◌, ◌∙◌, ℕ, List, Bor, true, sym}
use Rattle.std.specs.List.{list_all}
use Rattle.oai_names.specs.Sets.{may_be_set_spec}
use Rattle.oai_item.specs.Decoding.{first_text}
use Rattle.oai_item.specs.Encoding.{encoded_count, encoded_text}
use Rattle.oai_item.specs.SpellingParts.{IsCount}
use Rattle.oai_item.specs.Walks.{is_name_text}
use Rattle.oai_item.proofs.ReadBack.{text_back}
use Rattle.oai_item.proofs.Spellings.{count_of_list, text_has_four}
use Rattle.oai_item.proofs.Walking.{list_left, list_spelled, reads_some, reads_value}
use Rattle.oai_item.proofs.fronts.sets_alone.Goals as goal

pub unwrap-count-requires : goal.unwrap-count-requires
unwrap-count-requires c =
    let see : ℕ × Bor (List ℕ) → ℕ × List ℕ = λ a. (a.0, a.1.now) in
    reads_some see encoded_count IsCount c.args.bytes.now c.read_count.result c.read_count.ensures
    (count_of_list encoded_text text_has_four (λ xs. list_all (is_name_text may_be_set_spec) xs ≡ true) c.args.bytes.now c.requires)

pub new-requires : goal.new-requires
new-requires c =
    let see : ℕ × Bor (List ℕ) → ℕ × List ℕ = λ a. (a.0, a.1.now) in
    let read = reads_value see encoded_count IsCount c.args.bytes.now c.read_count.result c.unwrap-count.result c.unwrap-count.ensures c.read_count.ensures in
    list_spelled first_text encoded_text (is_name_text may_be_set_spec) text_back text_has_four c.args.bytes.now c.unwrap-count.result.1.now c.unwrap-count.result.0 read.0 read.1 c.requires

pub returns : goal.returns
returns c =
    let see : ℕ × Bor (List ℕ) → ℕ × List ℕ = λ a. (a.0, a.1.now) in
    let read = reads_value see encoded_count IsCount c.args.bytes.now c.read_count.result c.unwrap-count.result c.unwrap-count.ensures c.read_count.ensures in
    c.new.ensures ∙ sym (list_left first_text c.args.bytes.now c.unwrap-count.result.1.now c.unwrap-count.result.0 read.0 read.1)
