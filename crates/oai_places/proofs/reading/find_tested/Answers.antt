use Rattle.std.proofs.Common.{◌∙◌, ℤ, List, ℕ, ap}
use Rattle.std.proofs.lemmas.Bool.{both_ways}
use Rattle.oai_places.specs.Pages.{begins_at}
use Rattle.oai_places.proofs.reading.find_tested.Goals as goal

pub returns-then-not-begins_on_page : goal.returns-then-not-begins_on_page
returns-then-not-begins_on_page c = λ items page begins.
    both_ways c.begins_on_page.result c.if-not-begins_on_page.true
    (c.begins_on_page.ensures items page ∙ ap (λ (s : ℤ). begins_at s c.key.result.identifier.now items) c.key.ensures.stamp
    ∙ ap (λ (i : List ℕ). begins_at c.args.place.now.stamp i items) c.key.ensures.identifier ∙ begins)
