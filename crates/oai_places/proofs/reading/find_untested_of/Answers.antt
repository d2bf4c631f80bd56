use Rattle.std.proofs.Common.{◌≡◌, ◌∙◌, true, List, ℕ, ℤ, ap, sym}
use Rattle.std.proofs.lemmas.Bool.{both_ways}
use Rattle.oai_places.specs.Pages.{begins_at}
use Rattle.oai_places.proofs.FindingLemmas.{first_is_found}
use Rattle.oai_places.proofs.reading.find_untested_of.Goals as goal

pub returns-then-not-may_begin : goal.returns-then-not-may_begin
returns-then-not-may_begin c = λ items page begins.
    both_ways c.may_begin.result c.if-not-may_begin.true
    (c.may_begin.ensures items c.args.place.now.stamp page (ap (λ (i : List ℕ). begins_at c.args.place.now.stamp i items) c.key.ensures.identifier ∙ begins))

pub returns-in-Ok-None-find_untested : goal.returns-in-Ok-None-find_untested
returns-in-Ok-None-find_untested c = λ items page begins.
    let stamp = c.key-2.result.stamp in
    let identifier = c.key-2.result.identifier.now in
    let first = ap (λ (s : ℤ). begins_at s identifier items) c.key-2.ensures.stamp ∙ ap (λ (i : List ℕ). begins_at c.args.place.now.stamp i items) c.key-2.ensures.identifier ∙ begins in
    first_is_found stamp identifier items first (sym (c.in-Ok-None-find_untested.field-0-is) ∙ c.in-Ok-None-find_untested.ensures items page)
