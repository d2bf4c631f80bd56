use Rattle.std.proofs.Common.{List, Option, refl, subst}
use Rattle.serde_json.specs.View.{view}
use Rattle.oai_deposit.specs.Lines.{LineAbout}
use Rattle.oai_deposit.specs.Readings.{Finds}
use Rattle.oai_deposit.proofs.AboutLemmas.{abouts_none, abouts_read}
use Rattle.oai_deposit.proofs.about_texts.abouts_at.Goals as goal

pub returns-in-Some : goal.returns-in-Some
returns-in-Some c = λ forms records is.
    subst (λ (o : Option (List LineAbout)). Finds ⊥ c.abouts_of_records.result o) (abouts_read records (view c.args.value.now) c.in-Some.abouts c.in-Some.ensures)
    (c.abouts_of_records.ensures forms records is)

pub returns-in-None : goal.returns-in-None
returns-in-None c = λ forms records is. (abouts_none records (view c.args.value.now) c.in-None.ensures, refl)
