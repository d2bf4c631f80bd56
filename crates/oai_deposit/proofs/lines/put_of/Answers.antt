use Rattle.std.proofs.Common.{◌≡◌, ℕ, Bor, List, Some, codes, map, rules}
use Rattle.std.proofs.lemmas.Result.{err_from_is_err_and}
use Rattle.serde_json.specs.View.{view}
use Rattle.oai_json.specs.Json.{text_at, texts_at}
use Rattle.oai_deposit.specs.Lines.{puts}
use Rattle.oai_deposit.proofs.LineLemmas.{shape_with, shape_without}
use Rattle.oai_deposit.proofs.ShapeLemmas.{put_found}
use Rattle.oai_deposit.proofs.lines.put_of.Goals as goal

pub returns : goal.returns
returns c =
    let d = view c.args.value.now in
    let identifier : List ℕ = c.in_ok-identifier.identifier.now in
    let sets : List (List ℕ) = map (λ (text : Bor (List ℕ)). text.now) c.in_ok-sets.sets.items in
    let one : text_at (codes "put") d ≡ Some identifier = search rules in
    let two : texts_at (codes "sets") d ≡ Some sets = search rules in
    let records = c.in_ok-records.ensures in
    shape_with _ _ (puts identifier sets c.in_ok-records.records) c.in_ok-abouts.abouts c.put_from.result
    (put_found c.args.forms d identifier sets c.in_ok-records.records one two records) (c.in_ok-abouts.ensures c.args.forms c.in_ok-records.records records) c.put_from.ensures

pub returns-in_err-abouts : goal.returns-in_err-abouts
returns-in_err-abouts c =
    let d = view c.args.value.now in
    let identifier : List ℕ = c.in_ok-identifier.identifier.now in
    let sets : List (List ℕ) = map (λ (text : Bor (List ℕ)). text.now) c.in_ok-sets.sets.items in
    let one : text_at (codes "put") d ≡ Some identifier = search rules in
    let two : texts_at (codes "sets") d ≡ Some sets = search rules in
    let records = c.in_ok-records.ensures in
    let p = err_from_is_err_and c.from_residual-in_err-abouts.result c.from_residual-in_err-abouts.ensures.1 in
    rw (p.1, p.2)
    (shape_without _ _ (puts identifier sets c.in_ok-records.records) c.in_err-abouts.field-0.0
    (put_found c.args.forms d identifier sets c.in_ok-records.records one two records) (c.in_err-abouts.ensures c.args.forms c.in_ok-records.records records))
