-- Nothing waits, or a group is written; where that fails the journal is stopped, and a crash leaves the records with all of the group or none.
use Rattle.std.proofs.Common.{◌≡◌, ◌∙◌, ℕ, ◌+◌, ◌<◌, ◌==◌, Bool, true, false, Result, Ok, Err, OnErr, length, ap, sym, refl, arith}
use Rattle.std.proofs.lemmas.Bool.{eqb-true, false≢true, eq-eqb}
use Rattle.oai_journal.specs.Groups.{IsGroup, digest_of_all}
use Rattle.oai_journal.proofs.KeptLemmas.{is_group, kept_settled, kept_still, kept_stopped, leaves_before, leaves_group, survives_group}
use Rattle.oai_journal.proofs.TailLemmas.{commit_stands}
use Rattle.oai_journal.proofs.file.FileJournalJournal.commit.Goals as goal

on_err : {T E : Type 0} {P : Type 0} (r : Result T E) → P → OnErr r P
on_err (Ok x) p = tt
on_err (Err e) p = p

none_left : (b : Bool) (n size : ℕ) → b ≡ true → b ≡ (n == 0) → n ≡ size → size ≡ 0
none_left b n size is_so is same = sym same ∙ eqb-true n 0 (sym is ∙ is_so)

some_left : (b : Bool) (n size : ℕ) → b ≡ false → b ≡ (n == 0) → n ≡ size → 0 < size
some_left b n size is_not is same = let P : n ≡ 0 → ⊥ = λ e. false≢true (sym is_not ∙ is ∙ eq-eqb n 0 e) in omega (arith, P, same)

pub returns-then-is_empty-clause-ok : goal.returns-then-is_empty-clause-ok
returns-then-is_empty-clause-ok g c entries durable held =
    kept_still _ _ c.args.self.now entries durable c.if-self.false (none_left _ _ _ c.if-is_empty.true c.is_empty.ensures (c.args.self.now.pending.ok.0)) held

pub write_group-requires-clause-some : goal.write_group-requires-clause-some
write_group-requires-clause-some g c =
    let some = some_left _ _ _ c.if-is_empty.false c.is_empty.ensures (c.args.self.now.pending.ok.0) in
    omega (arith, some, c.close_group.ensures.len, ap length c.deref.ensures.value)

pub write_group-requires-clause-within : goal.write_group-requires-clause-within
write_group-requires-clause-within g c =
    omega (arith, c.in-Some.ensures.0, c.len.ensures, c.args.self.now.pending.ok.0, c.close_group.ensures.len, ap length c.deref.ensures.value)

pub returns-in_err-write_group-clause-err : goal.returns-in_err-write_group-clause-err
returns-in_err-write_group-clause-err g c =
    on_err c.from_residual.result (λ entries durable held.
    let k = held.1 in
    let some = some_left _ _ _ c.if-is_empty.false c.is_empty.ensures (c.args.self.now.pending.ok.0) in
    let group : IsGroup c.deref.result.now c.args.self.now.digest k.later =
    is_group c.args.self.now.pending.items c.deref.result.now c.args.self.now.digest c.args.self.now.last k.later (k.waits c.if-self.false) some
    (λ inner gate is. c.deref.ensures.value ∙ c.close_group.ensures.gate inner gate is) in
    kept_stopped _ _ c.args.self.now _ entries durable refl held
    (λ file left. survives_group _ _ c.args.self.now entries durable held file
    (c.write_group.ensures.crash c.args.self.now.digest held.0 k.written k.later (k.settled c.if-self.false) group file left)))

pub returns-clause-ok : goal.returns-clause-ok
returns-clause-ok g c entries durable held =
    let k = held.1 in
    let some = some_left _ _ _ c.if-is_empty.false c.is_empty.ensures (c.args.self.now.pending.ok.0) in
    let group : IsGroup c.deref.result.now c.args.self.now.digest k.later =
    is_group c.args.self.now.pending.items c.deref.result.now c.args.self.now.digest c.args.self.now.last k.later (k.waits c.if-self.false) some
    (λ inner gate is. c.deref.ensures.value ∙ c.close_group.ensures.gate inner gate is) in
    let settled = c.in_ok-write_group.ensures.settled c.args.self.now.digest held.0 k.written k.later (k.settled c.if-self.false) group in
    let end_is : c.in-Some.end ≡ c.args.self.now.end + length c.deref.result.now =
    omega (arith, c.in-Some.ensures.1, c.len.ensures, c.args.self.now.pending.ok.0, c.close_group.ensures.len, ap length c.deref.ensures.value) in
    let last_is : c.args.self.now.last ≡ digest_of_all c.args.self.now.digest k.later = (k.waits c.if-self.false).last_is in
    kept_settled _ _ c.args.self.now _ entries durable held (rw (c.forget.ensures.disk, end_is, last_is) settled) c.clear.ensures.items refl

pub returns-then-is_empty-clause-group : goal.returns-then-is_empty-clause-group
returns-then-is_empty-clause-group g c going entries durable held =
    leaves_before g.D.Disk.seen g.D.Disk.may_leave c.args.self.now entries durable going held

pub returns-in_default-clause-group : goal.returns-in_default-clause-group
returns-in_default-clause-group g c going entries durable held =
    leaves_before g.D.Disk.seen g.D.Disk.may_leave c.args.self.now entries durable going held

pub returns-in_err-write_group-clause-group : goal.returns-in_err-write_group-clause-group
returns-in_err-write_group-clause-group g c going entries durable held =
    let k = held.1 in
    let some = some_left _ _ _ c.if-is_empty.false c.is_empty.ensures c.args.self.now.pending.ok.0 in
    let group : IsGroup c.deref.result.now c.args.self.now.digest k.later =
    is_group c.args.self.now.pending.items c.deref.result.now c.args.self.now.digest c.args.self.now.last k.later (k.waits going) some
    (λ inner gate is. c.deref.ensures.value ∙ c.close_group.ensures.gate inner gate is) in
    leaves_group g.D.Disk.seen g.D.Disk.may_leave c.args.self.now c.write_group.new.disk entries durable held
    (λ file left. c.write_group.ensures.crash c.args.self.now.digest held.0 k.written k.later (k.settled going) group file left)

pub returns-clause-group : goal.returns-clause-group
returns-clause-group g c going entries durable held =
    let k = held.1 in
    let some = some_left _ _ _ c.if-is_empty.false c.is_empty.ensures c.args.self.now.pending.ok.0 in
    let group : IsGroup c.deref.result.now c.args.self.now.digest k.later =
    is_group c.args.self.now.pending.items c.deref.result.now c.args.self.now.digest c.args.self.now.last k.later (k.waits going) some
    (λ inner gate is. c.deref.ensures.value ∙ c.close_group.ensures.gate inner gate is) in
    rw (c.forget.ensures.disk) (leaves_group g.D.Disk.seen g.D.Disk.may_leave c.args.self.now c.write_group.new.disk entries durable held
    (λ file left. c.write_group.ensures.crash c.args.self.now.digest held.0 k.written k.later (k.settled going) group file left))

pub returns-clause-tails : goal.returns-clause-tails
returns-clause-tails g c entries durable held tail read stands =
    let k = held.1 in
    let some = some_left _ _ _ c.if-is_empty.false c.is_empty.ensures (c.args.self.now.pending.ok.0) in
    let group : IsGroup c.deref.result.now c.args.self.now.digest k.later =
    is_group c.args.self.now.pending.items c.deref.result.now c.args.self.now.digest c.args.self.now.last k.later (k.waits c.if-self.false) some
    (λ inner gate is. c.deref.ensures.value ∙ c.close_group.ensures.gate inner gate is) in
    let settled = c.in_ok-write_group.ensures.settled c.args.self.now.digest held.0 k.written k.later (k.settled c.if-self.false) group in
    commit_stands _ _ _ c.args.self.now _ entries durable held c.if-self.false _ _ _ settled c.forget.ensures.disk c.forget.ensures.block tail read stands
