-- The first of the lists that have ended is dropped at the clock, over the fields that the repository is opened to.
use Rattle.std.proofs.Common.{FitsSigned, w64, refl}
use Rattle.std.proofs.lemmas.Int.{to_z-of_z}
use Rattle.oai_repo.proofs.EndLemmas.{few_dropped}
use Rattle.oai_repo.proofs.OpenListLemmas.{table_dropped}
use Rattle.oai_repo.proofs.MoveLemmas.{held_dropped, others_dropped, stands_dropped, state_dropped}
use Rattle.oai_repo.proofs.repo.Repo.move_to.Goals as goal

pub invariant_of-self : goal.invariant_of-self
invariant_of-self g c =
    let fits : FitsSigned w64 c.now.result = record { sfits = c.now.type_inv } in
    let table = rw c.now.ensures at (simp to_z-of_z at c.drop_first_ended.ensures.table) in
    rw table (record { dated = c.requires.dated; few = c.self.invariant.few; open_lists = table_dropped c.self.inside.config c.args.clock c.self.inside.lists c.self.invariant.open_lists })

pub returns-clause-moved : goal.returns-clause-moved
returns-clause-moved g c =
    let fits : FitsSigned w64 c.now.result = record { sfits = c.now.type_inv } in
    let table = rw c.now.ensures at (simp to_z-of_z at c.drop_first_ended.ensures.table) in
    let released = rw c.now.ensures at (simp to_z-of_z at c.drop_first_ended.ensures.released) in
    let inside = c.self.inside in
    let owns = rw (← c.self.view_is) at c.requires.owns in
    let later = rw (← c.self.view_is) at c.requires.later in
    rw (← c.self.view_is, table, released)
    (state_dropped inside.config inside.clock c.args.clock inside.index inside.sets inside.lists (g.V.Versions.lists c.args.store.now) later owns.stands)

pub returns-clause-dropped : goal.returns-clause-dropped
returns-clause-dropped g c =
    let fits : FitsSigned w64 c.now.result = record { sfits = c.now.type_inv } in
    let table = rw c.now.ensures at (simp to_z-of_z at c.drop_first_ended.ensures.table) in
    rw (← c.self.view_is) (record { table = table; few = rw table (few_dropped c.args.clock c.self.inside.lists) })

pub returns-clause-keeps : goal.returns-clause-keeps
returns-clause-keeps g c =
    let fits : FitsSigned w64 c.now.result = record { sfits = c.now.type_inv } in
    let table = rw c.now.ensures at (simp to_z-of_z at c.drop_first_ended.ensures.table) in
    let released = rw c.now.ensures at (simp to_z-of_z at c.drop_first_ended.ensures.released) in
    let inside = c.self.inside in
    let all = g.V.Versions.lists c.args.store.now in
    let owns = rw (← c.self.view_is) at c.requires.owns in
    rw (← c.self.view_is, table, released) (record {
      config = refl;
      stands = stands_dropped inside.config inside.clock c.args.clock inside.index inside.sets inside.lists all owns.stands;
      held = λ honest. held_dropped inside.config inside.clock c.args.clock inside.index inside.sets inside.lists all owns.stands (owns.held honest);
      others = others_dropped inside.config inside.clock c.args.clock inside.index inside.sets inside.lists all;
    })
