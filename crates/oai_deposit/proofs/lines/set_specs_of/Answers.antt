use Rattle.oai_item.specs.declared.refusals.LineRefusal.TheVariants.{BadSetSpec}
use Rattle.oai_names.specs.Sets.{may_be_set_spec}
use Rattle.oai_deposit.proofs.ReadingLemmas.{all_passed}
use Rattle.oai_deposit.proofs.lines.set_specs_of.Goals as goal

pub returns : goal.returns
returns c = all_passed BadSetSpec _ c.each_set_spec.result may_be_set_spec _ c.each_set_spec.ensures
