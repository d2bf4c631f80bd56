-- Bytes that no list has, whose words no filter has, or whose words are spelled otherwise.
use Rattle.std.proofs.Common.{◌≡◌, ◌∙◌, ap, inl, refl, rules, sym}
use Rattle.oai_item.specs.Selection.{Filter}
use Rattle.oai_repo.specs.Saved.{SavedListState, list_state}
use Rattle.oai_host.specs.ListReadings.{list_of_words}
use Rattle.oai_host.specs.Saved.{list_bytes}
use Rattle.oai_host.proofs.ListLemmas.{never_of, no_filter, other_bytes}
use Rattle.oai_host.proofs.list_parts.list_in.Goals as goal

pub returns-in_default : goal.returns-in_default
returns-in_default c = inl (refl, never_of c.args.bytes.now c.in_default.ensures.words)

pub returns-in-Err : goal.returns-in-Err
returns-in-Err c = no_filter _ _ _ c.in-Some.ensures.words c.in-Err.ensures

pub returns-else-eq : goal.returns-else-eq
returns-else-eq c =
    let words : SavedListState = list_of_words c.in-Some.words in
    let built : c.new-list.result ≡ words = c.new-list.ensures ∙ ap (λ (f : Filter). record words { filter = f }) c.in-Ok.ensures.0 in
    let spelled : c.as_slice-2.result.now ≡ list_bytes (list_state c.saved.result) = search rules in
    other_bytes c.args.bytes.now c.as_slice-2.result.now words c.in-Some.ensures.words (spelled ∙ ap list_bytes (c.saved.ensures ∙ built)) (sym c.eq.ensures ∙ c.if-eq.false)
