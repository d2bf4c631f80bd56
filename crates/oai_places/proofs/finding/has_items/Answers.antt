use Rattle.std.proofs.Common.{◌∙◌, ap, eqb}
use Rattle.oai_places.proofs.ReadLemmas.{page_read}
use Rattle.oai_places.proofs.finding.has_items.Goals as goal

pub returns : goal.returns
returns c = λ items is_page. ap (λ n. eqb n c.args.len) (c.first_number.ensures ∙ (page_read c.args.page.now items is_page).0)
