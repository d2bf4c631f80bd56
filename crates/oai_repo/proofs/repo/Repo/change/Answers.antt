-- Each way out gives the case of the machine, over the fields that the repository is opened to, and leaves the lists of others.
use Rattle.std.proofs.Common.{◌≡◌, ◌∙◌, ℕ, ℤ, is_some, ◌∷◌, Bool, ap, refl, sym, subst, Ok, Err, FitsSigned, w64, IsTrue}
use Rattle.std.specs.List.{list_all}
use Rattle.std.proofs.lemmas.Bool.{and_parts}
use Rattle.std.proofs.lemmas.Int.{to_z-of_z}
use Rattle.oai_item.specs.Refusals.{in_repository}
use Rattle.oai_time.specs.Clock.{tick}
use Rattle.oai_holdings.specs.Accepted.{KeepsChange, noted_stamp}
use Rattle.oai_holdings.specs.Changes.{stamp_at, told_stamp}
use Rattle.oai_holdings.specs.Index.{IsIndexed, ItemIndex, holdings_of}
use Rattle.oai_repo.specs.Fields.{open_lists_of, numbers_of, versions_in}
use Rattle.oai_repo.specs.Machine.{Outcome, accepted, refused_with}
use Rattle.oai_repo.specs.State.{OpenLists, RepoState, still_open}
use Rattle.oai_holdings.specs.Indexing.{MakesChange}
use Rattle.oai_item.specs.declared.refusals.Refusal.TheVariants as refusal
use Rattle.oai_holdings.proofs.ChangeLemmas.{stamp_fits}
use Rattle.oai_holdings.proofs.PutLemmas.{noted_told}
use Rattle.oai_repo.proofs.OpenListLemmas.{open_lists_same, table_agrees_same}
use Rattle.oai_repo.proofs.ClockLemmas.{in_years-tick}
use Rattle.oai_repo.proofs.MoveLemmas.{state_moved}
use Rattle.oai_repo.proofs.NumberLemmas.{in_use_moved, kept_moved, kept_twice, moved_others}
use Rattle.oai_repo.proofs.StepLemmas.{at_later, step-made, step-refused}
use Rattle.oai_repo.proofs.repo.Repo.change.Goals as goal

pub make_change-made-requires-clause-held : goal.make_change-made-requires-clause-held
make_change-made-requires-clause-held g c =
    let inside = c.self.inside in
    let owns = rw (← c.self.view_is) at c.requires in
    let all = g.V.Versions.lists c.args.store.now in
    record {
      stands = (and_parts (is_some (all inside.index.version)) (list_all (λ (v : ℕ). is_some (all v)) (versions_in inside.lists)) owns.stands.used).0;
      indexed = λ honest. (owns.held honest).indexed;
    }

pub move_to-requires-clause-dated : goal.move_to-requires-clause-dated
move_to-requires-clause-dated g c =
    let fits : FitsSigned w64 c.args.moment = c.ranges.moment in
    let moved : c.tick.new.self ≡ tick c.self.inside.clock c.args.moment = simp to_z-of_z at c.tick.ensures.moved in
    rw moved (in_years-tick c.self.inside.clock c.args.moment c.self.invariant.dated)

pub move_to-requires-in-Err-Refused-clause-dated : goal.move_to-requires-in-Err-Refused-clause-dated
move_to-requires-in-Err-Refused-clause-dated g c =
    let fits : FitsSigned w64 c.args.moment = c.ranges.moment in
    let moved : c.tick.new.self ≡ tick c.self.inside.clock c.args.moment = simp to_z-of_z at c.tick.ensures.moved in
    rw moved (in_years-tick c.self.inside.clock c.args.moment c.self.invariant.dated)

pub move_to-requires-clause-owns : goal.move_to-requires-clause-owns
move_to-requires-clause-owns g c =
    let inside = c.self.inside in
    let before = g.V.Versions.lists c.args.store.now in
    let after = g.V.Versions.lists c.make_change-made.new.store in
    let owns = rw (← c.self.view_is) at c.requires in
    let v = inside.index.version in
    let w = c.make_change-made.new.index.version in
    let numbers = versions_in inside.lists in
    let moved = c.make_change-made.ensures.moves.moved in
    record {
      stands = in_use_moved v w numbers before after owns.stands moved;
      held = λ honest.
          let was : IsTrue (g.V.Versions.honest c.args.store.now) = subst (λ (b : Bool). IsTrue b) c.make_change-made.ensures.store.honesty.same honest in
          record {
            indexed = c.make_change-made.ensures.made.indexed was;
            agrees = table_agrees_same inside.lists before after (moved_others v w numbers before after owns.stands moved) (owns.held was).agrees;
          };
    }

pub move_to-requires-in-Err-Refused-clause-owns : goal.move_to-requires-in-Err-Refused-clause-owns
move_to-requires-in-Err-Refused-clause-owns g c =
    let inside = c.self.inside in
    let before = g.V.Versions.lists c.args.store.now in
    let after = g.V.Versions.lists c.make_change-made.new.store in
    let owns = rw (← c.self.view_is) at c.requires in
    let v = inside.index.version in
    let w = c.make_change-made.new.index.version in
    let numbers = versions_in inside.lists in
    let moved = c.make_change-made.ensures.moves.moved in
    record {
      stands = in_use_moved v w numbers before after owns.stands moved;
      held = λ honest.
          let was : IsTrue (g.V.Versions.honest c.args.store.now) = subst (λ (b : Bool). IsTrue b) c.make_change-made.ensures.store.honesty.same honest in
          record {
            indexed = c.make_change-made.ensures.made.indexed was;
            agrees = table_agrees_same inside.lists before after (moved_others v w numbers before after owns.stands moved) (owns.held was).agrees;
          };
    }

pub returns-in-Ok-clause-changed : goal.returns-in-Ok-clause-changed
returns-in-Ok-clause-changed g c = λ honest.
    let fits : FitsSigned w64 c.args.moment = c.ranges.moment in
    let fits_now : FitsSigned w64 c.now.result = record { sfits = c.now.type_inv } in
    let fits_stamp : FitsSigned w64 c.stamp-stamp.result = record { sfits = c.stamp-stamp.type_inv } in
    let inside = c.self.inside in
    let after = c.make_change-made.new in
    let before = g.V.Versions.lists c.args.store.now in
    let between = g.V.Versions.lists after.store in
    let now : ℤ = c.tick.new.self in
    let moved : now ≡ tick inside.clock c.args.moment = simp to_z-of_z at c.tick.ensures.moved in
    let dated : c.stamp-stamp.result ≡ stamp_at inside.config now = rw (← c.now.ensures, ← c.granularity.ensures) (simp to_z-of_z at c.stamp-stamp.ensures.value) in
    let made : MakesChange inside.config c.stamp-stamp.result (holdings_of inside.index inside.sets before) c.args.change.now (Ok tt) (holdings_of after.index after.sets between) =
    simp to_z-of_z at (c.in-Ok.ensures.made.made honest)
    in
    let stands = (rw (← c.self.view_is) at c.requires).stands in
    let open_lists : open_lists_of inside.clock inside.lists between ≡ open_lists_of inside.clock inside.lists before =
    open_lists_same inside.clock inside.lists before between (moved_others inside.index.version after.index.version (versions_in inside.lists) before between stands c.make_change-made.ensures.moves.moved)
    in
    let indexed : IsIndexed inside.config after.index after.sets between = c.in-Ok.ensures.made.indexed honest in
    let answer = simp to_z-of_z at c.in-Ok.ensures.kept.1 in
    let fits_told : FitsSigned w64 c.in-Ok.told = stamp_fits c.in-Ok.told answer.writable in
    let noted : c.in-Ok.told ≡ noted_stamp c.stamp-stamp.result c.args.change.now after.index.entries = answer.is in
    let said : c.in-Ok.told ≡ told_stamp c.stamp-stamp.result c.args.change.now (holdings_of after.index after.sets between).items =
    noted ∙ noted_told c.stamp-stamp.result c.args.change.now after.index.entries (holdings_of after.index after.sets between).items indexed.agrees
    in
    let told : ℤ → RepoState → Outcome × RepoState = λ stamp state. (accepted stamp, state) in
    let done = step-made inside.config now (tick inside.clock c.args.moment) c.stamp-stamp.result (holdings_of inside.index inside.sets before) (holdings_of after.index after.sets between) (open_lists_of inside.clock inside.lists before) c.args.change.now moved dated made in
    rw (← c.self.view_is)
    (simp to_z-of_z (done ∙ ap (λ (s : ℤ). told s (at_later now (holdings_of after.index after.sets between) (open_lists_of inside.clock inside.lists before))) (sym said)
    ∙ ap (λ (b : OpenLists). told c.in-Ok.told (at_later now (holdings_of after.index after.sets between) b)) (sym open_lists) ∙ ap (told c.in-Ok.told) (sym c.move_to.ensures.moved)))

pub returns-in-Err-Refused-clause-changed : goal.returns-in-Err-Refused-clause-changed
returns-in-Err-Refused-clause-changed g c = λ honest.
    let fits : FitsSigned w64 c.args.moment = c.ranges.moment in
    let fits_now : FitsSigned w64 c.now.result = record { sfits = c.now.type_inv } in
    let fits_stamp : FitsSigned w64 c.stamp-stamp.result = record { sfits = c.stamp-stamp.type_inv } in
    let inside = c.self.inside in
    let after = c.make_change-made.new in
    let before = g.V.Versions.lists c.args.store.now in
    let between = g.V.Versions.lists after.store in
    let now : ℤ = c.tick.new.self in
    let moved : now ≡ tick inside.clock c.args.moment = simp to_z-of_z at c.tick.ensures.moved in
    let dated : c.stamp-stamp.result ≡ stamp_at inside.config now = rw (← c.now.ensures, ← c.granularity.ensures) (simp to_z-of_z at c.stamp-stamp.ensures.value) in
    let known = rw c.in-Err-Refused.is at c.in-Err-Refused.field-0-is in
    let cause : c.make_change-made.result ≡ Err (refusal.Refused c.in-Err-Refused.cause) = c.in-Err-Refused.is ∙ ap (λ r. Err r) known in
    let made : MakesChange inside.config c.stamp-stamp.result (holdings_of inside.index inside.sets before) c.args.change.now (Err (refusal.Refused c.in-Err-Refused.cause)) (holdings_of after.index after.sets between) =
    rw cause at (simp to_z-of_z at (c.make_change-made.ensures.made.made honest))
    in
    let stands = (rw (← c.self.view_is) at c.requires).stands in
    let open_lists : open_lists_of inside.clock inside.lists between ≡ open_lists_of inside.clock inside.lists before =
    open_lists_same inside.clock inside.lists before between (moved_others inside.index.version after.index.version (versions_in inside.lists) before between stands c.make_change-made.ensures.moves.moved)
    in
    let told : RepoState → Outcome × RepoState = λ state. (refused_with (in_repository c.in-Err-Refused.cause), state) in
    let done = step-refused inside.config now (tick inside.clock c.args.moment) c.stamp-stamp.result (holdings_of inside.index inside.sets before) (holdings_of after.index after.sets between) (open_lists_of inside.clock inside.lists before) c.args.change.now c.in-Err-Refused.cause moved dated made in
    rw (← c.self.view_is)
    (done ∙ ap (λ (b : OpenLists). told (at_later now (holdings_of after.index after.sets between) b)) (sym open_lists) ∙ ap told (sym c.move_to-in-Err-Refused.ensures.moved))

pub returns-in-Err-Refused-clause-refused : goal.returns-in-Err-Refused-clause-refused
returns-in-Err-Refused-clause-refused g c =
    let fits : FitsSigned w64 c.args.moment = c.ranges.moment in
    let inside = c.self.inside in
    let after = c.make_change-made.new in
    let before = g.V.Versions.lists c.args.store.now in
    let between = g.V.Versions.lists after.store in
    let now : ℤ = c.tick.new.self in
    let moved : now ≡ tick inside.clock c.args.moment = simp to_z-of_z at c.tick.ensures.moved in
    let known = rw c.in-Err-Refused.is at c.in-Err-Refused.field-0-is in
    let cause : c.make_change-made.result ≡ Err (refusal.Refused c.in-Err-Refused.cause) = c.in-Err-Refused.is ∙ ap (λ r. Err r) known in
    let same_index : after.index ≡ inside.index = rw cause at c.make_change-made.ensures.moves.err in
    let same_sets : after.sets ≡ inside.sets = rw cause at c.make_change-made.ensures.err_sets in
    let same_lists : between ≡ before = rw cause at c.make_change-made.ensures.moves.err_lists in
    rw (← c.self.view_is) (record {
      state = c.move_to-in-Err-Refused.ensures.moved
          ∙ state_moved inside.config inside.clock now (tick inside.clock c.args.moment) inside.index after.index inside.sets after.sets inside.lists before between moved same_index same_sets same_lists;
      index = c.move_to-in-Err-Refused.ensures.index ∙ same_index;
      dropped = record { table = c.move_to-in-Err-Refused.ensures.dropped.table; few = c.move_to-in-Err-Refused.ensures.dropped.few };
    })

pub returns-in-Ok-clause-keeps : goal.returns-in-Ok-clause-keeps
returns-in-Ok-clause-keeps g c =
    let V = g.V.Versions in
    let inside = c.self.inside in
    let after = c.make_change-made.new in
    let before = V.lists c.args.store.now in
    let between = V.lists after.store in
    let versions = versions_in inside.lists in
    let owns = rw (← c.self.view_is) at c.requires in
    let keeps = c.move_to.ensures.keeps in
    rw (← c.self.view_is) (record {
      config = keeps.config;
      stands = keeps.stands;
      held = λ honest. keeps.held (c.make_change-made.ensures.store.honesty.same ∙ honest);
      others = kept_twice (inside.index.version ∷ versions) (after.index.version ∷ versions) (numbers_of c.move_to.new.self) before between (V.lists c.move_to.new.store)
          (kept_moved inside.index.version after.index.version versions before between owns.stands c.make_change-made.ensures.moves.moved) keeps.others;
    })

pub returns-in-Err-Refused-clause-keeps : goal.returns-in-Err-Refused-clause-keeps
returns-in-Err-Refused-clause-keeps g c =
    let V = g.V.Versions in
    let inside = c.self.inside in
    let after = c.make_change-made.new in
    let before = V.lists c.args.store.now in
    let between = V.lists after.store in
    let versions = versions_in inside.lists in
    let owns = rw (← c.self.view_is) at c.requires in
    let keeps = c.move_to-in-Err-Refused.ensures.keeps in
    rw (← c.self.view_is) (record {
      config = keeps.config;
      stands = keeps.stands;
      held = λ honest. keeps.held (c.make_change-made.ensures.store.honesty.same ∙ honest);
      others = kept_twice (inside.index.version ∷ versions) (after.index.version ∷ versions) (numbers_of c.move_to-in-Err-Refused.new.self) before between (V.lists c.move_to-in-Err-Refused.new.store)
          (kept_moved inside.index.version after.index.version versions before between owns.stands c.make_change-made.ensures.moves.moved) keeps.others;
    })

pub returns-in-Err-Fault-clause-keeps : goal.returns-in-Err-Fault-clause-keeps
returns-in-Err-Fault-clause-keeps g c =
    let inside = c.self.inside in
    let before = g.V.Versions.lists c.args.store.now in
    let after = g.V.Versions.lists c.make_change-made.new.store in
    let v = inside.index.version in
    let w = c.make_change-made.new.index.version in
    let numbers = versions_in inside.lists in
    let owns = rw (← c.self.view_is) at c.requires in
    let moved = c.make_change-made.ensures.moves.moved in
    rw (← c.self.view_is) (record {
      config = refl;
      stands = in_use_moved v w numbers before after owns.stands moved;
      held = λ honest. record {
        indexed = c.make_change-made.ensures.made.indexed honest;
        agrees = table_agrees_same inside.lists before after (moved_others v w numbers before after owns.stands moved) (owns.held honest).agrees;
      };
      others = kept_moved v w numbers before after owns.stands moved;
    })

pub returns-in-Ok-clause-accepted : goal.returns-in-Ok-clause-accepted
returns-in-Ok-clause-accepted g c =
    let fits_now : FitsSigned w64 c.now.result = record { sfits = c.now.type_inv } in
    let fits_stamp : FitsSigned w64 c.stamp-stamp.result = record { sfits = c.stamp-stamp.type_inv } in
    let inside = c.self.inside in
    let stamped : c.stamp-stamp.result ≡ stamp_at inside.config c.tick.new.self = rw (← c.now.ensures, ← c.granularity.ensures) (simp to_z-of_z at c.stamp-stamp.ensures.value) in
    let made = simp to_z-of_z at c.in-Ok.ensures.kept.0 in
    let answer = simp to_z-of_z at c.in-Ok.ensures.kept.1 in
    let fits_told : FitsSigned w64 c.in-Ok.told = stamp_fits c.in-Ok.told answer.writable in
    let noted : c.in-Ok.told ≡ noted_stamp c.stamp-stamp.result c.args.change.now c.make_change-made.new.index.entries = answer.is in
    let fits : FitsSigned w64 c.args.moment = c.ranges.moment in
    let after = c.make_change-made.new in
    let before = g.V.Versions.lists c.args.store.now in
    let between = g.V.Versions.lists after.store in
    let moved : c.tick.new.self ≡ tick inside.clock c.args.moment = simp to_z-of_z at c.tick.ensures.moved in
    let owns = rw (← c.self.view_is) at c.requires in
    let same_open : open_lists_of inside.clock inside.lists between ≡ open_lists_of inside.clock inside.lists before =
    open_lists_same inside.clock inside.lists before between (moved_others inside.index.version after.index.version (versions_in inside.lists) before between owns.stands c.make_change-made.ensures.moves.moved) in
    let clock = ap (λ (s : RepoState). s.clock) c.move_to.ensures.moved in
    let new = c.move_to.new.self in
    let same_stamp : c.stamp-stamp.result ≡ stamp_at new.config new.clock = rw (c.move_to.ensures.keeps.config, clock) stamped in
    let kept : KeepsChange inside.config.deleted c.stamp-stamp.result c.args.change.now inside.index.entries new.index.entries inside.sets new.sets = record {
      entries = rw (← ap (λ (s : ItemIndex). s.entries) c.move_to.ensures.index) at made.entries;
      sets = ap (λ (s : RepoState). s.holdings.sets) c.move_to.ensures.moved ∙ made.sets;
    } in
    simp to_z-of_z (rw (← c.self.view_is) (record {
      writable = answer.writable;
      stamped = noted ∙ ap (λ (s : ℤ). noted_stamp s c.args.change.now c.make_change-made.new.index.entries) same_stamp
          ∙ ap (λ (index : ItemIndex). noted_stamp (stamp_at new.config new.clock) c.args.change.now index.entries) (sym c.move_to.ensures.index);
      kept = subst (λ (s : ℤ). KeepsChange inside.config.deleted s c.args.change.now inside.index.entries new.index.entries inside.sets new.sets) same_stamp kept;
      open_lists = ap (λ (s : RepoState). s.open_lists) c.move_to.ensures.moved ∙ ap (still_open c.tick.new.self) same_open ∙ ap (λ (clock : ℤ). still_open clock (open_lists_of inside.clock inside.lists before)) moved;
      dropped = record { table = c.move_to.ensures.dropped.table; few = c.move_to.ensures.dropped.few };
    }))
