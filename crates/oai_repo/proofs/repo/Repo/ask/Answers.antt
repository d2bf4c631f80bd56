-- The reply is that of the step, over the fields that the repository is opened to.
use Rattle.std.proofs.Common.{◌≡◌, ◌∙◌, ℤ, List, ◌∷◌, sym, ap, subst, true, Bool, IsTrue, FitsSigned, w64}
use Rattle.std.specs.Ordering.{int_eq}
use Rattle.std.proofs.lemmas.Bool.Decides.{Decides-int_eq}
use Rattle.std.proofs.lemmas.Int.{to_z-of_z}
use Rattle.oai_time.specs.Clock.{tick}
use Rattle.oai_item.specs.Item.{ItemState}
use Rattle.oai_args.specs.Asks.{AskOrError}
use Rattle.oai_args.specs.Pairs.{decoded_pairs}
use Rattle.oai_args.specs.Requests.{request_of}
use Rattle.oai_repo.specs.Answers.{arguments_of_request}
use Rattle.oai_repo.specs.Calls.{output_of_reply}
use Rattle.oai_holdings.specs.Index.{holdings_of}
use Rattle.oai_repo.specs.Fields.{RepoFields, open_lists_of, numbers_of, state_of, versions_in}
use Rattle.oai_catalogue.specs.Store.{VersionLists}
use Rattle.oai_lists.specs.OpenLists.{Table}
use Rattle.oai_repo.specs.Listing.{request_response}
use Rattle.oai_repo.specs.Machine.{Output}
use Rattle.oai_repo.specs.Replays.{is_part, at_clock as settled_at}
use Rattle.oai_holdings.specs.Holdings.{Holdings}
use Rattle.oai_repo.specs.State.{OpenLists, RepoState, moved}
use Rattle.oai_repo.specs.State as states
use Rattle.oai_repo.proofs.EndLemmas.{few_asked}
use Rattle.oai_repo.proofs.OpenListLemmas.{indexed_at, still_same}
use Rattle.oai_repo.proofs.ClockLemmas.{in_years-tick}
use Rattle.oai_repo.proofs.NumberLemmas.{kept_twice}
use Rattle.oai_repo.proofs.ReplayLemmas.{replayed, request_at, stands_open}
use Rattle.oai_repo.proofs.StepLemmas.{at, step-asked, reply_output}
use Rattle.oai_repo.proofs.repo.Repo.ask.Goals as goal

pub invariant_of-self-2 : goal.invariant_of-self-2
invariant_of-self-2 g c = record { dated = c.self.invariant.dated; few = c.self.invariant.few; open_lists = c.in_ok-replied.ensures.left.left.kept }

pub move_to-requires-clause-dated : goal.move_to-requires-clause-dated
move_to-requires-clause-dated g c =
    let fits : FitsSigned w64 c.args.moment = c.ranges.moment in
    let moved : c.tick.new.self ≡ tick c.self.inside.clock c.args.moment = simp to_z-of_z at c.tick.ensures.moved in
    rw moved (in_years-tick c.self.inside.clock c.args.moment c.self.invariant.dated)

pub move_to-requires-clause-owns : goal.move_to-requires-clause-owns
move_to-requires-clause-owns g c =
    let inside = c.self.inside in
    let before = g.V.Versions.lists c.args.store.now in
    let after = g.V.Versions.lists c.reply_to_query.new.store in
    let owns = rw (← c.self.view_is) at c.requires in
    record {
      stands = c.in_ok-replied.ensures.left.left.stands;
      held = λ honest.
          let was : IsTrue (g.V.Versions.honest c.args.store.now) = subst (λ (b : Bool). IsTrue b) c.reply_to_query.ensures.store.honesty.same honest in
          record { indexed = indexed_at inside.config inside.index inside.sets before after c.in_ok-replied.ensures.left.left.items (owns.held was).indexed; agrees = c.in_ok-replied.ensures.left.agrees was };
    }

pub returns-clause-step : goal.returns-clause-step
returns-clause-step g c = λ honest.
    let fits : FitsSigned w64 c.args.moment = c.ranges.moment in
    let fits_now : FitsSigned w64 c.now-now.result = record { sfits = c.now-now.type_inv } in
    let inside = c.self.inside in
    let before = g.V.Versions.lists c.args.store.now in
    let between = g.V.Versions.lists c.reply_to_query.new.store in
    let table = c.reply_to_query.new.lists in
    let now : ℤ = c.tick.new.self in
    let moved : now ≡ tick inside.clock c.args.moment = simp to_z-of_z at c.tick.ensures.moved in
    let told = rw c.now-now.ensures at (simp to_z-of_z at (c.in_ok-replied.ensures.reply honest)) in
    let request : AskOrError = request_of inside.config.granularity (decoded_pairs c.args.query.now) in
    let holdings = holdings_of inside.index inside.sets before in
    let said = reply_output inside.config.granularity inside.config now (arguments_of_request request) _ c.in_ok-replied.replied.reply told.written in
    let done = step-asked inside.config now (tick inside.clock c.args.moment) holdings (open_lists_of inside.clock inside.lists before) (open_lists_of now inside.lists before) (open_lists_of now table between) request (output_of_reply c.in_ok-replied.replied.reply)
    moved (sym (still_same inside.clock now inside.lists before c.tick.ensures.never_back)) said told.open_lists in
    let telling : RepoState → Output × RepoState = λ state. (output_of_reply c.in_ok-replied.replied.reply, state) in
    let items = c.in_ok-replied.ensures.left.left.items in
    rw (← c.self.view_is, c.at_clock.ensures.reply)
    (done
    ∙ ap (λ (xs : List ItemState). telling (at now (record { items = xs; sets = inside.sets }) (open_lists_of now table between))) (sym items)
    ∙ ap (λ (b : OpenLists). telling (at now (holdings_of inside.index inside.sets between) b)) (sym (still_same inside.clock now table between c.tick.ensures.never_back))
    ∙ ap telling (sym c.move_to.ensures.moved))

pub returns-clause-kept : goal.returns-clause-kept
returns-clause-kept g c =
    let inside = c.self.inside in
    let with_items : List ItemState → Holdings = λ items. record { items = items; sets = inside.sets } in
    rw (← c.self.view_is) (ap (λ (state : RepoState). state.holdings) c.move_to.ensures.moved ∙ ap with_items c.in_ok-replied.ensures.left.left.items)

pub returns-clause-keeps : goal.returns-clause-keeps
returns-clause-keeps g c =
    let V = g.V.Versions in
    let inside = c.self.inside in
    rw (← c.self.view_is) (record {
      config = c.move_to.ensures.keeps.config;
      stands = c.move_to.ensures.keeps.stands;
      held = λ honest. c.move_to.ensures.keeps.held (c.reply_to_query.ensures.store.honesty.same ∙ honest);
      others = kept_twice (inside.index.version ∷ versions_in inside.lists) (inside.index.version ∷ versions_in c.reply_to_query.new.lists) (numbers_of c.move_to.new.self) (V.lists c.args.store.now) (V.lists c.reply_to_query.new.store) (V.lists c.move_to.new.store)
          c.in_ok-replied.ensures.left.left.others c.move_to.ensures.keeps.others;
    })

pub returns-clause-fields : goal.returns-clause-fields
returns-clause-fields g c =
    let fits_now : FitsSigned w64 c.now-now.result = record { sfits = c.now-now.type_inv } in
    let asked = rw c.now-now.ensures at (simp to_z-of_z at c.in_ok-replied.ensures.left.left.asked) in
    let clock = ap (λ (s : RepoState). s.clock) c.move_to.ensures.moved in
    let dropped = rw clock at c.move_to.ensures.dropped.table in
    rw (← c.self.view_is, clock) (record {
      index = c.move_to.ensures.index;
      table = record { made = c.reply_to_query.new.lists; asked = asked; dropped = dropped; few = few_asked c.tick.new.self c.self.inside.lists c.reply_to_query.new.lists c.move_to.new.self.table asked dropped };
    })

pub returns-clause-replay : goal.returns-clause-replay
returns-clause-replay g c = λ honest.
    let V = g.V.Versions in
    let fits : FitsSigned w64 c.args.moment = c.ranges.moment in
    let fits_now : FitsSigned w64 c.now-now.result = record { sfits = c.now-now.type_inv } in
    let fits_before : FitsSigned w64 c.now-before.result = record { sfits = c.now-before.type_inv } in
    let inside = c.self.inside in
    let before = V.lists c.args.store.now in
    let now : ℤ = c.tick.new.self in
    let moves : now ≡ tick inside.clock c.args.moment = simp to_z-of_z at c.tick.ensures.moved in
    let told = rw c.now-now.ensures at (simp to_z-of_z at (c.in_ok-replied.ensures.reply honest)) in
    let request : AskOrError = request_of inside.config.granularity (decoded_pairs c.args.query.now) in
    let holdings = holdings_of inside.index inside.sets before in
    let fields : RepoFields = record { config = inside.config; clock = inside.clock; index = inside.index; sets = inside.sets; table = inside.lists } in
    let was = state_of fields before in
    let seen : at now holdings (open_lists_of now inside.lists before) ≡ moved c.args.moment was =
    ap (at now holdings) (sym (still_same inside.clock now inside.lists before c.tick.ensures.never_back)) ∙ ap (λ (clock : ℤ). states.state_at_clock clock was) moves
    in
    let part = told.part ∙ ap (λ (state : RepoState). is_part (request_response inside.config state request).0) seen in
    let replay = c.in_ok-replied.replied.replay in
    let stood : Bool = int_eq c.now-before.result c.now-now.result in
    let settled : c.at_clock.result.replay ≡ settled_at stood replay = simp to_z-of_z at c.at_clock.ensures.replay in
    let table = c.reply_to_query.new.lists in
    let between = V.lists c.reply_to_query.new.store in
    let at_table : Table → VersionLists → RepoState = λ table all. states.state_at_clock now (state_of (record fields { table = table }) all) in
    let is_moved : table ≡ inside.lists → between ≡ before → state_of c.move_to.new.self (V.lists c.move_to.new.store) ≡ moved c.args.moment was =
    λ same all. c.move_to.ensures.moved ∙ ap (λ (t : Table). at_table t between) same ∙ ap (at_table inside.lists) all ∙ ap (λ (clock : ℤ). states.state_at_clock clock was) moves
    in
    let stands : stood ≡ true → moved c.args.moment was ≡ was =
    λ is. let clock = (Decides-int_eq c.now-before.result c.now-now.result).0 is in
    stands_open _ fields before (sym moves ∙ sym c.now-now.ensures ∙ sym clock ∙ c.now-before.ensures)
    in
    rw (← c.self.view_is, settled) (record {
      part = request_at stood replay ∙ part;
      replayed = replayed V c.args.moment stood replay was _ inside.lists c.args.store.now table c.reply_to_query.new.store c.in_ok-replied.ensures.same is_moved stands;
    })
