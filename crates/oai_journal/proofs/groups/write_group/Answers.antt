-- While the group is written, and while its gate is, each crash leaves the journal with all of it or none.
use Rattle.std.proofs.Common.{⊎_elim, inl, Result, Ok, Err, OnOk}
use Rattle.oai_journal.proofs.GroupLemmas.{ends_now, ends_torn, stands, ends_staged, ends_opened, settled_opened}
use Rattle.oai_journal.proofs.groups.write_group.Goals as goal

on_ok : {T E : Type 0} {P Q : Type 0} (r : Result T E) → OnOk r P → (P → Q) → OnOk r Q
on_ok (Ok x) p f = f p
on_ok (Err e) p f = p

pub returns-in_err-write_synced-clause-crash : goal.returns-in_err-write_synced-clause-crash
returns-in_err-write_synced-clause-crash g c digest first entries later settled is file left =
    ⊎_elim (λ same. inl (ends_now _ _ _ _ _ _ _ _ _ settled is file same)) (λ torn. inl (ends_torn _ _ _ _ _ _ _ _ _ settled is file torn))
    (c.write_synced.ensures.crash settled.durable file left)

pub returns-clause-settled : goal.returns-clause-settled
returns-clause-settled g c =
    on_ok c.write_synced-2.result c.write_synced-2.ensures.written (λ written digest first entries later settled is.
    settled_opened _ _ _ _ _ _ _ _ _ settled is _ (stands _ _ _ _ _ _ _ _ _ settled is _ c.in_ok-write_synced.ensures.written) _ written)

pub returns-clause-crash : goal.returns-clause-crash
returns-clause-crash g c digest first entries later settled is file left =
    let there = stands _ _ _ _ _ _ _ _ _ settled is _ c.in_ok-write_synced.ensures.written in
    ⊎_elim (λ same. inl (ends_staged _ _ _ _ _ _ _ _ _ settled is _ there file same)) (λ torn. ends_opened _ _ _ _ _ _ _ _ _ settled is _ there file torn)
    (c.write_synced-2.ensures.crash there.durable file left)
