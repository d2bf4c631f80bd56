use Rattle.std.proofs.Common.{◌≡◌, ◌+◌, arith, subst, sym, ℕ}
use Rattle.oai_places.specs.Entries.{HasEntry}
use Rattle.oai_places.specs.Pages.{first_number}
use Rattle.oai_places.proofs.ReadLemmas.{number_few}
use Rattle.oai_places.proofs.TestedLemmas.{entry_known, entry_within}
use Rattle.oai_places.proofs.entry_bytes.spelled_len.Goals as goal

pub first_number-requires : goal.first_number-requires
first_number-requires c =
    let within = entry_within c.args.bytes.now c.requires in
    omega (arith, within)

pub overflow_add-result : goal.overflow_add-result
overflow_add-result c =
    let len : c.first_number.result ≡ first_number c.args.bytes.now = c.first_number.ensures in
    let few = number_few c.args.bytes.now (λ i. omega (arith, c.type_inv.bytes i)) in
    record { fits = omega (arith, len, few) }

pub returns-clause-entry : goal.returns-clause-entry
returns-clause-entry c =
    let len : c.first_number.result ≡ first_number c.args.bytes.now = c.first_number.ensures in
    subst (λ (n : ℕ). HasEntry c.args.bytes.now (4 + n)) (sym len) (entry_known c.args.bytes.now (λ i. omega (arith, c.type_inv.bytes i)) c.requires)

pub returns-clause-within : goal.returns-clause-within
returns-clause-within c =
    let len : c.first_number.result ≡ first_number c.args.bytes.now = c.first_number.ensures in
    let within = entry_within c.args.bytes.now c.requires in
    omega (arith, len, within)
