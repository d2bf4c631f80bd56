-- The part of a list that is answered, by the numbers that the table keeps of the list.
use Rattle.std.proofs.Common.{◌≡◌, ◌∙◌, ℕ, ℤ, ◌+◌, ◌-◌, ◌<◌, min, List, length, ap, arith}
use Rattle.oai_item.specs.Item.{ItemState}
use Rattle.oai_answers.specs.Answers.{Page}
use Rattle.oai_settings.specs.Config.{RepositoryConfig}
use Rattle.oai_repo.specs.Listing.{continued_at, items_from, part_from}
use Rattle.oai_repo.specs.State.{FrozenList}

-- the part with these items, of the list of that number, end and size
abbrev pub part_with : RepositoryConfig → ℕ → ℤ → ℕ → ℕ → List ItemState → Page
part_with config number end size cursor items = record {
  items = items;
  granularity = config.granularity;
  continuation = continued_at number end (record { size = size; cursor = cursor }) (cursor + length items);
}

pub part_is : (config : RepositoryConfig) (list : FrozenList) (items : List ItemState) (number size cursor : ℕ) (end : ℤ)
    → number ≡ list.number → size ≡ length list.items → end ≡ list.end → items ≡ items_from config list cursor
    → part_with config number end size cursor items ≡ part_from config list cursor
unfolding part_from
part_is config list items number size cursor end one two three four =
    ap (λ n. part_with config n end size cursor items) one
    ∙ ap (λ s. part_with config list.number end s cursor items) two
    ∙ ap (λ e. part_with config list.number e (length list.items) cursor items) three
    ∙ ap (part_with config list.number list.end (length list.items) cursor) four

-- the first part of a longer list ends after as many records as a part may have
pub first_end : (chunk size next : ℕ) → next ≡ 0 + min chunk (size - 0) → chunk < size → next ≡ chunk
first_end chunk size next is beyond = omega (arith, is, beyond)
