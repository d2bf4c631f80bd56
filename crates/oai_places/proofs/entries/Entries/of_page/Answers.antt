use Rattle.std.proofs.Common.{rules, ◌≡◌, ◌∙◌, ap, arith, drop, length, length-drop, sym}
use Rattle.std.specs.List.{list_all}
use Rattle.std.proofs.lemmas.List.{take_rest}
use Rattle.oai_device.specs.declared.devices.TheConstants.{PAGE_BYTES}
use Rattle.oai_pool.specs.Kinds.{has_items, leading_number, spells_items}
use Rattle.oai_places.proofs.ReadLemmas.{entries_seen, is_zero, size_within}
use Rattle.oai_places.proofs.TestedLemmas.{entries_told}
use Rattle.oai_places.proofs.entries.Entries.of_page.Goals as goal

pub ends_of-requires : goal.ends_of-requires
ends_of-requires c =
    let count : c.first_number-count.result ≡ leading_number c.deref.result.now = c.first_number-count.ensures in
    let rest = take_rest c.deref.result.now 4 in
    (λ k. spells_items (count k) (rest k)) ∙ entries_told c.deref.result.now (ap has_items c.deref.ensures ∙ c.requires)

pub ending-requires-clause-entries : goal.ending-requires-clause-entries
ending-requires-clause-entries c = entries_seen c.deref.result.now _ _ _ _ (take_rest c.deref.result.now 4) c.first_number-count.ensures c.in_ok-ends.ensures.ends

pub ending-requires-clause-zeros : goal.ending-requires-clause-zeros
ending-requires-clause-zeros c = ap (λ bs. list_all is_zero (drop c.in_ok-ends.size bs)) (sym (take_rest c.deref.result.now 4)) ∙ c.in_ok-ends.ensures.zeros

pub on_page-bytes-requires : goal.on_page-bytes-requires
on_page-bytes-requires c =
    let within = size_within _ _ _ _ c.in_ok-ends.ensures.ends in
    let long : length c.deref.result.now ≡ PAGE_BYTES = search rules in
    omega (arith, within, ap length (take_rest c.deref.result.now 4), length-drop 4 c.deref.result.now, long)
