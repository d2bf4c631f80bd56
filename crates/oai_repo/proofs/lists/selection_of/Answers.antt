-- What is selected in the format that was found; a set that is not found selects nothing.
use Rattle.std.proofs.Common.{◌≡◌, ◌∙◌, ℕ, List, is_some, refl, sym, ap}
use Rattle.oai_item.specs.Formats.{format_named}
use Rattle.oai_item.specs.Selection.{Filter}
use Rattle.std.specs.Option.{option_copied}
use Rattle.oai_repo.specs.Answers.{filter_of}
use Rattle.oai_repo.specs.declared.lists.Selection.{Selection}
use Rattle.oai_repo.proofs.ListReplyLemmas.{response_no_format, response_no_sets, response_selected, response_unknown_set}
use Rattle.oai_repo.proofs.lists.selection_of.Goals as goal

pub returns-then-lacks_sets : goal.returns-then-lacks_sets
returns-then-lacks_sets c = λ table lists indexed. response_no_sets c.args.repo.now table lists c.args.request.now (sym c.lacks_sets.ensures ∙ c.if-lacks_sets.true)

pub returns-in_default : goal.returns-in_default
returns-in_default c = λ table lists indexed.
    let sets = sym c.lacks_sets.ensures ∙ c.if-lacks_sets.false in
    let unknown = rw c.formats.ensures at (sym c.find_named.ensures.found ∙ ap option_copied c.in_default.is) in
    response_no_format c.args.repo.now table lists c.args.request.now sets unknown

pub returns-in_default-2 : goal.returns-in_default-2
returns-in_default-2 c = λ table lists indexed.
    let sets = sym c.lacks_sets.ensures ∙ c.if-lacks_sets.false in
    let known = rw c.formats.ensures at (sym c.find_named.ensures.found ∙ ap option_copied c.in-Some.is) in
    let lacks = rw c.in_default-2.is at c.in_ok-filter.ensures in
    response_unknown_set c.args.repo.now table lists c.args.request.now c.in-Some.format.now lacks.0 sets known indexed lacks.1 lacks.2 lacks.3

pub returns : goal.returns
returns c =
    let repo = c.args.repo.now in
    let request = c.args.request.now in
    let sets = sym c.lacks_sets.ensures ∙ c.if-lacks_sets.false in
    let known = rw c.formats.ensures at (sym c.find_named.ensures.found ∙ ap option_copied c.in-Some.is) in
    let filter = rw c.in-Some-2.is at c.in_ok-filter.ensures in
    let prefix : c.in-Some-2.filter.prefix ≡ c.in-Some.format.now.prefix = ap (λ (f : Filter). f.prefix) filter in
    let asked = filter ∙ ap (λ (p : List ℕ). filter_of p request.from.now request.until.now request.set.now) c.in-Some.ensures.prefix in
    let selection : Selection = record { verb = request.verb; format = c.in-Some.format; filter = c.in-Some-2.filter } in (
      record {
        prefix = prefix;
        known = ap (λ (p : List ℕ). is_some (format_named p repo.config.now.formats)) (prefix ∙ c.in-Some.ensures.prefix) ∙ ap is_some known;
        lists = c.requires;
      },
      λ table lists. response_selected repo table lists request selection sets known refl asked,
    )
