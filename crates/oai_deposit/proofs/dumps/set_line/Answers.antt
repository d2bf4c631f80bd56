use Rattle.std.proofs.Common.{codes, ap, refl, ◌∙◌}
use Rattle.serde_json.specs.Data.{put, string}
use Rattle.serde_json.specs.View.{members_view, view}
use Rattle.oai_deposit.specs.Dumps.{set_value}
use Rattle.oai_deposit.proofs.DumpLemmas.{set_asked}
use Rattle.oai_deposit.proofs.WrittenLemmas.{line_asks_any, line_made, set_made, shallow_set}
use Rattle.oai_deposit.proofs.dumps.set_line.Goals as goal

pub returns : goal.returns
returns c =
    let spec = c.args.spec.now in
    let name = c.args.name.now in
    let first = c.in_ok-put.ensures.ok ∙ ap (λ es. put (codes "set") (view c.in_ok-text_value.field-0) (members_view es)) c.new-members.ensures.empty in
    let made = set_made _ _ _ _ spec name first c.in_ok-put-2.ensures.ok (c.in_ok-text_value.ensures ∙ ap string c.as_str.ensures.text) c.in_ok-text_value-2.ensures in
    let line = line_made c.line_of_members.result _ (set_value spec name) made (shallow_set spec name) refl c.line_of_members.ensures.text c.line_of_members.ensures.value in
    record { line = line; asks = line_asks_any c.line_of_members.result _ _ (λ forms. set_asked forms spec name) line }
