use Rattle.std.proofs.Common.{codes, ap, refl, ◌∙◌}
use Rattle.serde_json.specs.Data.{put, string}
use Rattle.serde_json.specs.View.{members_view, view}
use Rattle.oai_deposit.specs.Dumps.{deletion_value}
use Rattle.oai_deposit.proofs.DumpLemmas.{deletion_asked}
use Rattle.oai_deposit.proofs.WrittenLemmas.{deletion_made, line_asks_any, line_made, shallow_deletion}
use Rattle.oai_deposit.proofs.dumps.deletion_line.Goals as goal

pub returns : goal.returns
returns c =
    let identifier = c.args.identifier.now in
    let first = c.in_ok-put.ensures.ok ∙ ap (λ es. put (codes "delete") (view c.in_ok-text_value.field-0) (members_view es)) c.new-members.ensures.empty in
    let made = deletion_made _ _ identifier first (c.in_ok-text_value.ensures ∙ ap string c.as_str.ensures.text) in
    let line = line_made c.line_of_members.result _ (deletion_value identifier) made (shallow_deletion identifier) refl c.line_of_members.ensures.text c.line_of_members.ensures.value in
    record { line = line; asks = line_asks_any c.line_of_members.result _ _ (λ forms. deletion_asked forms identifier) line }
