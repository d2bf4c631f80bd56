use Rattle.std.proofs.Common.{◌≡◌, true, List, map, codes, ap, ◌∙◌}
use Rattle.oai_item.specs.Givens.{GivenRecord, given_back}
use Rattle.oai_item.specs.Item.{Metadata}
use Rattle.oai_deposit.specs.Lines.{are_of_forms}
use Rattle.serde_json.specs.Data.{put, string}
use Rattle.serde_json.specs.View.{members_view, view}
use Rattle.oai_json.specs.Json.{members_of}
use Rattle.oai_deposit.specs.Shapes.{written_about, written_records, written_texts}
use Rattle.oai_deposit.specs.Dumps.{deposit_value, line_abouts, line_record}
use Rattle.oai_deposit.proofs.DumpLemmas.{deposit_asked, deposit_without}
use Rattle.oai_deposit.proofs.WrittenLemmas.{deposit_made, line_asks, line_made, shallow_deposit}
use Rattle.oai_deposit.proofs.dumps.deposit_line.Goals as goal

pub returns : goal.returns
returns c =
    let item = c.args.item.now in
    let first = c.in_ok-put.ensures.ok ∙ ap (λ es. put (codes "deposit") (view c.in_ok-text_value.field-0) (members_view es)) c.new-members.ensures.empty in
    let identifier = c.in_ok-text_value.ensures ∙ ap string (c.as_str.ensures.text ∙ c.identifier.ensures) in
    let sets = c.in_ok-texts_value.ensures ∙ ap written_texts c.sets.ensures.sets in
    let records = c.in_ok-records_value.ensures ∙ ap (λ (rs : List Metadata). written_records (map line_record (map given_back rs))) c.formats.ensures.formats in
    let abouts = c.in_ok-abouts_members.ensures ∙ ap (λ (rs : List Metadata). members_of (map written_about (line_abouts (map given_back rs)))) c.formats-2.ensures.formats in
    let given : List GivenRecord = map given_back item.formats in
    let made = deposit_made _ _ _ _ _ _ _ _ item.identifier item.sets given first c.in_ok-put-2.ensures.ok c.in_ok-put-3.ensures.ok c.in_ok-put_abouts.ensures identifier sets records abouts in
    let line = line_made c.line_of_members.result _ (deposit_value item.identifier item.sets given) made (shallow_deposit item.identifier item.sets given)
    (deposit_without item.identifier item.sets given) c.line_of_members.ensures.text c.line_of_members.ensures.value in
    record { line = line; asks = line_asks c.line_of_members.result _ (λ forms. are_of_forms forms given ≡ true) _ (λ forms formed. deposit_asked forms item.identifier item.sets given formed) line }
