use Rattle.serde_json.proofs.Views.{view-Object}
use Rattle.oai_deposit.proofs.WrittenLemmas.{line_text, line_value}
use Rattle.oai_deposit.proofs.dumps.line_of_members.Goals as goal

pub returns : goal.returns
returns c = record {
  text = line_text c.to_string.result _ _ (view-Object c.args.members) c.to_string.ensures.text;
  value = line_value c.to_string.result _ _ (view-Object c.args.members) c.to_string.ensures.reads_back;
}
