use Rattle.std.proofs.Common.{◌∙◌, ap}
use Rattle.oai_item.proofs.Around.{item_at-missing}
use Rattle.oai_places.specs.Pages.{fit_one}
use Rattle.oai_places.proofs.PutLemmas.{removed}
use Rattle.oai_places.proofs.ShortLemmas.{fit-without}
use Rattle.oai_places.proofs.entries.Entries.remove.Goals as goal

pub returns-in_ok-without-in-Ok-clause-removal : goal.returns-in_ok-without-in-Ok-clause-removal
returns-in_ok-without-in-Ok-clause-removal c =
    removed c.args.self.now c.in_ok-without-in-Ok.field-0 c.in-Ok.at c.args.key.stamp c.args.key.identifier.now c.in-Ok.ensures c.in_ok-without-in-Ok.ensures

pub returns-in-Err-clause-removal : goal.returns-in-Err-clause-removal
returns-in-Err-clause-removal c =
    item_at-missing c.args.key.stamp c.args.key.identifier.now c.args.self.now c.in-Err.field-0 c.in-Err.ensures

pub returns-in_ok-without-in-Ok-clause-one_page : goal.returns-in_ok-without-in-Ok-clause-one_page
returns-in_ok-without-in-Ok-clause-one_page c =
    λ fits. ap fit_one c.in_ok-without-in-Ok.ensures ∙ fit-without c.in-Ok.at c.args.self.now fits
