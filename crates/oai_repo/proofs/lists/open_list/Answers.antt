-- Whether the list begins is decided by the table as by the state.
use Rattle.std.proofs.Common.{refl, FitsSigned, w64}
use Rattle.std.proofs.lemmas.Int.{to_z-of_z}
use Rattle.oai_repo.proofs.lists.open_list.Goals as goal

pub returns-in-Ok-clause-reply : goal.returns-in-Ok-clause-reply
returns-in-Ok-clause-reply g c =
    let none = c.number_or_wait.ensures.wait (g.V.Versions.lists c.args.store.now) in
    rw (none, c.in-Ok.is) c.start_list.ensures.reply

pub returns-in-Err-clause-reply : goal.returns-in-Err-clause-reply
returns-in-Err-clause-reply g c = λ honest.
    let fits : FitsSigned w64 c.in-Err.seconds = record { sfits = (rw c.in-Err.is at c.number_or_wait.type_inv).1.1.1.1.0.1 } in
    let some = c.number_or_wait.ensures.wait (g.V.Versions.lists c.args.store.now) in
    rw (simp to_z-of_z at c.later.ensures, some, c.in-Err.is) (record { written = refl; part = refl; open_lists = refl })
