use Rattle.std.proofs.Common.{◌≡◌, ◌∙◌, ◌≤◌, ap, arith, length, length-drop, take}
use Rattle.std.proofs.lemmas.List.{take_rest}
use Rattle.oai_places.specs.Pages.{first_number}
use Rattle.oai_places.proofs.TestedLemmas.{entry_item, entry_within}
use Rattle.oai_places.proofs.finding.spelled_entry.Goals as goal

pub slice_bounds-split_at-count : goal.slice_bounds-split_at-count
slice_bounds-split_at-count c =
    let within = entry_within c.args.bytes.now c.requires in
    omega (arith, within)

pub slice_bounds-split_at-start : goal.slice_bounds-split_at-start
slice_bounds-split_at-start c =
    let within = entry_within c.args.bytes.now c.requires in
    let h : 4 ≤ length c.args.bytes.now = omega (arith, within) in
    h

pub first_number-requires : goal.first_number-requires
first_number-requires c =
    let within = entry_within c.args.bytes.now c.requires in
    omega (arith, within)

pub split_at-requires : goal.split_at-requires
split_at-requires c =
    let within = entry_within c.args.bytes.now c.requires in
    let len : c.first_number.result ≡ first_number c.args.bytes.now = c.first_number.ensures in
    omega (arith, within, len, ap length (take_rest c.args.bytes.now 4), length-drop 4 c.args.bytes.now)

pub new-requires : goal.new-requires
new-requires c =
    let len : c.first_number.result ≡ first_number c.args.bytes.now = c.first_number.ensures in
    let rest = take_rest c.args.bytes.now 4 in
    entry_item c.args.bytes.now c.split_at.result.0.now c.requires (c.split_at.ensures.front ∙ (λ k. take (len k) (rest k)))
