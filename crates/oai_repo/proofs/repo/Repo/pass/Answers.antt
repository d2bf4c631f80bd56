-- What is left is the state of the step, over the fields that the repository is opened to.
use Rattle.std.proofs.Common.{◌≡◌, ◌∙◌, ℤ, List, ◌∷◌, sym, ap, subst, Bool, IsTrue, FitsSigned, w64}
use Rattle.std.proofs.lemmas.Int.{to_z-of_z}
use Rattle.oai_time.specs.Clock.{tick}
use Rattle.oai_item.specs.Item.{ItemState}
use Rattle.oai_args.specs.Asks.{AskOrError}
use Rattle.oai_args.specs.Pairs.{decoded_pairs}
use Rattle.oai_args.specs.Requests.{request_of}
use Rattle.oai_holdings.specs.Index.{holdings_of}
use Rattle.oai_repo.specs.Fields.{open_lists_of, numbers_of, versions_in}
use Rattle.oai_holdings.specs.Holdings.{Holdings}
use Rattle.oai_repo.specs.State.{OpenLists, RepoState}
use Rattle.oai_repo.proofs.EndLemmas.{few_asked}
use Rattle.oai_repo.proofs.OpenListLemmas.{indexed_at, still_same}
use Rattle.oai_repo.proofs.ClockLemmas.{in_years-tick}
use Rattle.oai_repo.proofs.NumberLemmas.{kept_twice}
use Rattle.oai_repo.proofs.StepLemmas.{at, step-passed}
use Rattle.oai_repo.proofs.repo.Repo.pass.Goals as goal

pub invariant_of-self-2 : goal.invariant_of-self-2
invariant_of-self-2 g c = record { dated = c.self.invariant.dated; few = c.self.invariant.few; open_lists = c.in_ok-pass_query.ensures.left.left.kept }

pub move_to-requires-clause-dated : goal.move_to-requires-clause-dated
move_to-requires-clause-dated g c =
    let fits : FitsSigned w64 c.args.moment = c.ranges.moment in
    let moved : c.tick.new.self ≡ tick c.self.inside.clock c.args.moment = simp to_z-of_z at c.tick.ensures.moved in
    rw moved (in_years-tick c.self.inside.clock c.args.moment c.self.invariant.dated)

pub move_to-requires-clause-owns : goal.move_to-requires-clause-owns
move_to-requires-clause-owns g c =
    let inside = c.self.inside in
    let before = g.V.Versions.lists c.args.store.now in
    let after = g.V.Versions.lists c.pass_query.new.store in
    let owns = rw (← c.self.view_is) at c.requires in
    record {
      stands = c.in_ok-pass_query.ensures.left.left.stands;
      held = λ honest.
          let was : IsTrue (g.V.Versions.honest c.args.store.now) = subst (λ (b : Bool). IsTrue b) c.pass_query.ensures.store.honesty.same honest in
          record { indexed = indexed_at inside.config inside.index inside.sets before after c.in_ok-pass_query.ensures.left.left.items (owns.held was).indexed; agrees = c.in_ok-pass_query.ensures.left.agrees was };
    }

pub returns-clause-step : goal.returns-clause-step
returns-clause-step g c = λ honest.
    let fits : FitsSigned w64 c.args.moment = c.ranges.moment in
    let fits_now : FitsSigned w64 c.now-moved.result = record { sfits = c.now-moved.type_inv } in
    let inside = c.self.inside in
    let before = g.V.Versions.lists c.args.store.now in
    let between = g.V.Versions.lists c.pass_query.new.store in
    let table = c.pass_query.new.lists in
    let now : ℤ = c.tick.new.self in
    let moved : now ≡ tick inside.clock c.args.moment = simp to_z-of_z at c.tick.ensures.moved in
    let passed = rw c.now-moved.ensures at (simp to_z-of_z at (c.in_ok-pass_query.ensures.passed honest)) in
    let request : AskOrError = request_of inside.config.granularity (decoded_pairs c.args.query.now) in
    let holdings = holdings_of inside.index inside.sets before in
    let done = step-passed inside.config now (tick inside.clock c.args.moment) holdings (open_lists_of inside.clock inside.lists before) (open_lists_of now inside.lists before) (open_lists_of now table between) request
    moved (sym (still_same inside.clock now inside.lists before c.tick.ensures.never_back)) passed in
    let items = c.in_ok-pass_query.ensures.left.left.items in
    rw (← c.self.view_is)
    (sym (done
    ∙ ap (λ (xs : List ItemState). at now (record { items = xs; sets = inside.sets }) (open_lists_of now table between)) (sym items)
    ∙ ap (λ (b : OpenLists). at now (holdings_of inside.index inside.sets between) b) (sym (still_same inside.clock now table between c.tick.ensures.never_back))
    ∙ sym c.move_to.ensures.moved))

pub returns-clause-kept : goal.returns-clause-kept
returns-clause-kept g c =
    let inside = c.self.inside in
    let with_items : List ItemState → Holdings = λ items. record { items = items; sets = inside.sets } in
    rw (← c.self.view_is) (ap (λ (state : RepoState). state.holdings) c.move_to.ensures.moved ∙ ap with_items c.in_ok-pass_query.ensures.left.left.items)

pub returns-clause-keeps : goal.returns-clause-keeps
returns-clause-keeps g c =
    let V = g.V.Versions in
    let inside = c.self.inside in
    rw (← c.self.view_is) (record {
      config = c.move_to.ensures.keeps.config;
      stands = c.move_to.ensures.keeps.stands;
      held = λ honest. c.move_to.ensures.keeps.held (c.pass_query.ensures.store.honesty.same ∙ honest);
      others = kept_twice (inside.index.version ∷ versions_in inside.lists) (inside.index.version ∷ versions_in c.pass_query.new.lists) (numbers_of c.move_to.new.self) (V.lists c.args.store.now) (V.lists c.pass_query.new.store) (V.lists c.move_to.new.store)
          c.in_ok-pass_query.ensures.left.left.others c.move_to.ensures.keeps.others;
    })

pub returns-clause-fields : goal.returns-clause-fields
returns-clause-fields g c =
    let fits_now : FitsSigned w64 c.now-moved.result = record { sfits = c.now-moved.type_inv } in
    let asked = rw c.now-moved.ensures at (simp to_z-of_z at c.in_ok-pass_query.ensures.left.left.asked) in
    let clock = ap (λ (s : RepoState). s.clock) c.move_to.ensures.moved in
    let dropped = rw clock at c.move_to.ensures.dropped.table in
    rw (← c.self.view_is, clock) (record {
      index = c.move_to.ensures.index;
      table = record { made = c.pass_query.new.lists; asked = asked; dropped = dropped; few = few_asked c.tick.new.self c.self.inside.lists c.pass_query.new.lists c.move_to.new.self.table asked dropped };
    })
