use Rattle.std.proofs.Common.{◌≡◌, ◌∙◌, Some, None, rules}
use Rattle.serde_json.specs.Find.{as_object}
use Rattle.serde_json.specs.View.{members_view, view}
use Rattle.oai_deposit.proofs.AboutLemmas.{names_there_are, no_object}
use Rattle.oai_deposit.proofs.about_texts.are_names_under.Goals as goal

pub returns-in-Some : goal.returns-in-Some
returns-in-Some c =
    let there : as_object (view c.args.about.now) ≡ Some (members_view c.in-Some.members.now.entries) = search rules in
    λ abouts is. c.are_names_in.ensures ∙ names_there_are (view c.args.about.now) (view c.args.object.now) c.in-Some.members.now.entries abouts there is

pub returns-in-None : goal.returns-in-None
returns-in-None c =
    let none : as_object (view c.args.about.now) ≡ None = search rules in
    λ abouts is. absurd (no_object (view c.args.about.now) abouts none is)
