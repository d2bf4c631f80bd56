-- The list that the token continues is that of the state, and what is left is the table in which it is kept open.
use Rattle.std.proofs.Common.{◌∷◌, ◌∙◌, ℕ, Option, is_some, true, ap, eqb, refl, sym, FitsSigned, w64}
use Rattle.std.proofs.lemmas.Bool.{ltb-true, or_right}
use Rattle.std.proofs.lemmas.Int.{to_z-of_z}
use Rattle.oai_answers.specs.Borrowed.{attributes_of}
use Rattle.oai_lists.specs.Tokens.{token_of}
use Rattle.oai_repo.specs.Fields.{frozen_in, has, is_counted, is_marked, open_lists_of, versions_in}
use Rattle.oai_repo.specs.Listing.{prolonged, with_carried_on}
use Rattle.oai_repo.specs.declared.responses.Replay.TheVariants.{Request, Tick}
use Rattle.oai_repo.specs.Tables.{is_of_known_format}
use Rattle.oai_repo.proofs.OpenListLemmas.{all_true, open_lists_kept, table_agrees_kept, left_kept, open_parts}
use Rattle.oai_repo.proofs.ClockLemmas.{years_fit}
use Rattle.oai_repo.proofs.NumberLemmas.{some_true, used_at}
use Rattle.oai_repo.proofs.TokenLemmas.{goes_on, records_continued, stops, token_found, valid_within}
use Rattle.oai_repo.proofs.ListReplyLemmas.{reply_as}
use Rattle.oai_repo.proofs.ReplayLemmas.{part_continued}
use Rattle.oai_repo.proofs.tokens.reply_with_next_part.Goals as goal

-- of the list that was found, what is true of each
pub reply_from-requires-clause-list : goal.reply_from-requires-clause-list
reply_from-requires-clause-list g c =
    let fits_now : FitsSigned w64 c.args.repo.now.clock = years_fit c.args.repo.now.clock c.requires.ready.dated in
    let now = c.args.repo.now.clock in
    let config = c.args.repo.now.config.now in
    let table = c.args.lists.now in
    let all = g.V.Versions.lists c.args.store.now in
    let v = c.args.repo.now.index.now.version in
    let list = c.in-Some.list.now in
    let found = token_found now c.chunk_of-chunk.result c.args.verb table.lists (token_of c.args.token.now) list c.in-Some.cursor (simp to_z-of_z at c.in-Some.ensures.found) in
    let there = found.2.there in
    let numbered = open_parts found.0.list now (λ _. true) table.lists list there (all_true table.lists) in
    record {
      within = ltb-true c.in-Some.cursor list.size (valid_within c.chunk_of-chunk.result list.size list.given c.in-Some.cursor found.2.valid);
      known = (open_parts found.0.list now (is_of_known_format config) table.lists list there c.requires.ready.kept.known).2;
      lists = records_continued list.verb c.args.verb found.2.right;
      stands = some_true _ (used_at (v ∷ versions_in table) all list.version c.requires.ready.stands.used (or_right (eqb v list.version) (has (versions_in table) list.version) numbered.3));
      counted = λ honest. (open_parts found.0.list now (is_counted all) table.lists list there (c.requires.ready.agrees honest).counted).2;
      marked = λ honest. (open_parts found.0.list now (is_marked all) table.lists list there (c.requires.ready.agrees honest).marked).2;
    }

pub carry_on-requires : goal.carry_on-requires
carry_on-requires g c = ap is_some c.in-Some.ensures.placed

pub returns-in_default-clause-reply : goal.returns-in_default-clause-reply
returns-in_default-clause-reply g c = λ honest.
    let fits_now : FitsSigned w64 c.args.repo.now.clock = years_fit c.args.repo.now.clock c.requires.ready.dated in
    let repo = c.args.repo.now in
    let table = c.args.lists.now in
    let all = g.V.Versions.lists c.args.store.now in
    let none = rw c.chunk_of-chunk.ensures.chunk at (simp to_z-of_z at c.in_default.ensures.found) in
    let stopped = stops repo.config.now repo.clock c.args.verb table all (token_of c.args.token.now) none (c.requires.ready.agrees honest).counted in
    rw c.listless.ensures
    (reply_as repo (attributes_of repo.asked) _ _ (record { reply = c.in_ok-reply.reply; replay = Tick }) table all stopped (record { written = c.in_ok-reply.ensures; part = refl; open_lists = refl }))

pub returns-clause-reply : goal.returns-clause-reply
returns-clause-reply g c = λ honest.
    let fits_now : FitsSigned w64 c.args.repo.now.clock = years_fit c.args.repo.now.clock c.requires.ready.dated in
    let fits : FitsSigned w64 c.end.result = record { sfits = c.end.type_inv } in
    let repo = c.args.repo.now in
    let config = repo.config.now in
    let table = c.args.lists.now in
    let all = g.V.Versions.lists c.args.store.now in
    let list = c.in-Some.list.now in
    let part = c.in_ok-part.part in
    let some = rw c.chunk_of-chunk.ensures.chunk at (simp to_z-of_z at c.in-Some.ensures.found) in
    let token = token_found repo.clock config.chunk c.args.verb table.lists (token_of c.args.token.now) list c.in-Some.cursor some in
    let on = goes_on config repo.clock c.args.verb table all list c.in-Some.cursor (token_of c.args.token.now) token.0 token.1 token.2 (c.requires.ready.agrees honest).counted in
    let there = open_parts token.0.list repo.clock (λ _. true) table.lists list token.2.there (all_true table.lists) in
    let opened = rw (sym there.0) at token.2.there in
    let left =
    open_lists_kept config repo.clock c.end.result part.next part.mark list.number table all list c.end.ensures.end c.end.ensures.later c.in-Some.ensures.valid opened
    ∙ ap (λ (next : Option ℕ). with_carried_on config repo.clock list.number next (open_lists_of repo.clock table all)) (c.in_ok-part.ensures.next honest)
    in
    let kept = simp to_z-of_z at (c.carry_on.ensures list c.in-Some.ensures.placed) in
    let known = (open_parts token.0.list repo.clock (is_of_known_format config) table.lists list token.2.there c.requires.ready.kept.known).2 in
    let is_part = part_continued config c.args.verb _ (prolonged config repo.clock (frozen_in all list)) c.in-Some.cursor known (records_continued list.verb c.args.verb token.2.right) in
    rw c.with_part.ensures
    (reply_as repo (attributes_of repo.asked) _ _ (record { reply = part.reply; replay = Request }) c.carry_on.new.self (g.V.Versions.lists c.reply_from.new.store) on
    (rw (kept, c.reply_from.ensures.reads.same) ((record { written = c.in_ok-part.ensures.reply honest; part = sym is_part; open_lists = left }))))

pub returns-clause-left : goal.returns-clause-left
returns-clause-left g c =
    let fits_now : FitsSigned w64 c.args.repo.now.clock = years_fit c.args.repo.now.clock c.requires.ready.dated in
    let fits : FitsSigned w64 c.end.result = record { sfits = c.end.type_inv } in
    let repo = c.args.repo.now in
    let table = c.args.lists.now in
    let all = g.V.Versions.lists c.args.store.now in
    let v = repo.index.now.version in
    let list = c.in-Some.list.now in
    let part = c.in_ok-part.part in
    let found = token_found repo.clock c.chunk_of-chunk.result c.args.verb table.lists (token_of c.args.token.now) list c.in-Some.cursor (simp to_z-of_z at c.in-Some.ensures.found) in
    let there = open_parts found.0.list repo.clock (λ _. true) table.lists list found.2.there (all_true table.lists) in
    let opened = rw (sym there.0) at found.2.there in
    let kept = simp to_z-of_z at (c.carry_on.ensures list c.in-Some.ensures.placed) in
    record {
      left =
          rw (kept, c.reply_from.ensures.reads.same)
          (left_kept repo.config.now repo.clock c.end.result part.next part.mark list.number v table all c.end.ensures.last c.requires.ready.kept c.requires.ready.stands (ap is_some opened));
      agrees = λ honest.
          rw (kept, c.reply_from.ensures.reads.same)
          (table_agrees_kept repo.clock c.end.result part.next part.mark list.number table all list c.in-Some.ensures.valid opened (c.in_ok-part.ensures.mark honest) (c.requires.ready.agrees honest));
      err = tt;
      err_lists = tt;
    }
