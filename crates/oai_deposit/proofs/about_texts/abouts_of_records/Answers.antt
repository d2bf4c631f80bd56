use Rattle.std.proofs.Common.{◌≡◌, List, Option, Some, None, codes, subst, rules}
use Rattle.serde_json.specs.Find.{get}
use Rattle.serde_json.specs.View.{view}
use Rattle.oai_deposit.specs.Lines.{LineAbout}
use Rattle.oai_deposit.specs.Readings.{Finds}
use Rattle.oai_deposit.proofs.AboutLemmas.{no_records, same_test}
use Rattle.oai_deposit.proofs.about_texts.abouts_of_records.Goals as goal

pub returns-in-Some : goal.returns-in-Some
returns-in-Some c =
    let there : get (codes "records") (view c.args.value.now) ≡ Some (view c.in-Some.records.now) = search rules in
    λ forms records is. subst (λ (o : Option (List LineAbout)). Finds ⊥ c.abouts_under.result o)
    (same_test forms (view c.args.value.now) (view c.in-Some.records.now) records c.args.abouts is there) c.abouts_under.ensures

pub returns-in-None : goal.returns-in-None
returns-in-None c =
    let none : get (codes "records") (view c.args.value.now) ≡ None = search rules in
    λ forms records is. absurd (no_records forms (view c.args.value.now) records none is)
