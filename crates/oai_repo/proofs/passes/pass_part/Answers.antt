-- The list that the token continues is that of the state, and what is left is the table in which it is kept open.
use Rattle.std.proofs.Common.{◌∙◌, ℕ, None, Option, is_some, true, ap, refl, sym, arith, FitsSigned, w64}
use Rattle.std.proofs.lemmas.Bool.{eqb-true, ltb-true}
use Rattle.std.proofs.lemmas.Int.{to_z-of_z}
use Rattle.oai_lists.specs.Tokens.{token_of}
use Rattle.oai_repo.specs.Fields.{frozen_in, is_counted, open_lists_of}
use Rattle.oai_repo.specs.Listing.{Response, cursor_behind, with_carried_on}
use Rattle.oai_repo.specs.State.{OpenLists}
use Rattle.oai_repo.proofs.OpenListLemmas.{all_true, left_kept, left_same_table, open_lists_kept, open_parts, table_agrees_kept}
use Rattle.oai_repo.proofs.ClockLemmas.{years_fit}
use Rattle.oai_repo.proofs.PassLemmas.{next_by_size}
use Rattle.oai_repo.proofs.TokenLemmas.{goes_on, stops, token_found, valid_within}
use Rattle.oai_repo.proofs.passes.pass_part.Goals as goal

pub end_of_part-requires : goal.end_of_part-requires
end_of_part-requires c =
    let fits_now : FitsSigned w64 c.args.repo.now.clock = years_fit c.args.repo.now.clock c.requires.dated in
    let list = c.in-Some.list.now in
    let found = token_found c.args.repo.now.clock c.chunk_of-chunk.result c.args.verb c.args.lists.now.lists (token_of c.args.token.now) list c.in-Some.cursor (simp to_z-of_z at c.in-Some.ensures.found) in
    let within = ltb-true c.in-Some.cursor list.size (valid_within c.chunk_of-chunk.result list.size list.given c.in-Some.cursor found.2.valid) in
    record { within = omega (arith, within) }

pub carry_on-requires : goal.carry_on-requires
carry_on-requires c = ap is_some c.in-Some.ensures.placed

pub returns-in_default-clause-passed : goal.returns-in_default-clause-passed
returns-in_default-clause-passed c = λ all agrees.
    let fits_now : FitsSigned w64 c.args.repo.now.clock = years_fit c.args.repo.now.clock c.requires.dated in
    let repo = c.args.repo.now in
    let none = rw c.chunk_of-chunk.ensures.chunk at (simp to_z-of_z at c.in_default.ensures.found) in
    sym (ap (λ (r : Response × OpenLists). r.1) (stops repo.config.now repo.clock c.args.verb c.args.lists.now all (token_of c.args.token.now) none agrees.counted))

pub returns-in_default-clause-left : goal.returns-in_default-clause-left
returns-in_default-clause-left c = λ all stands.
    left_same_table c.args.repo.now.config.now c.args.repo.now.clock c.args.repo.now.index.now.version c.args.lists.now all c.requires.kept stands

pub returns-clause-passed : goal.returns-clause-passed
returns-clause-passed c = λ all agrees.
    let fits_now : FitsSigned w64 c.args.repo.now.clock = years_fit c.args.repo.now.clock c.requires.dated in
    let fits : FitsSigned w64 c.end.result = record { sfits = c.end.type_inv } in
    let repo = c.args.repo.now in
    let config = repo.config.now in
    let table = c.args.lists.now in
    let list = c.in-Some.list.now in
    let cursor = c.in-Some.cursor in
    let some = rw c.chunk_of-chunk.ensures.chunk at (simp to_z-of_z at c.in-Some.ensures.found) in
    let token = token_found repo.clock config.chunk c.args.verb table.lists (token_of c.args.token.now) list cursor some in
    let on = goes_on config repo.clock c.args.verb table all list cursor (token_of c.args.token.now) token.0 token.1 token.2 agrees.counted in
    let there = open_parts token.0.list repo.clock (is_counted all) table.lists list token.2.there agrees.counted in
    let opened = rw (sym there.0) at token.2.there in
    let next = c.cursor_behind-next.ensures ∙ ap (cursor_behind list.size) (rw c.chunk_of-chunk.ensures.chunk at c.end_of_part.ensures) in
    let behind = next ∙ next_by_size config (frozen_in all list) list.size cursor (eqb-true list.size _ there.2) in
    let kept = simp to_z-of_z at (c.carry_on.ensures list c.in-Some.ensures.placed) in
    rw kept
    (open_lists_kept config repo.clock c.end.result c.cursor_behind-next.result None list.number table all list c.end.ensures.end c.end.ensures.later c.in-Some.ensures.valid opened
    ∙ ap (λ (next : Option ℕ). with_carried_on config repo.clock list.number next (open_lists_of repo.clock table all)) behind
    ∙ sym (ap (λ (r : Response × OpenLists). r.1) on))

pub returns-clause-left : goal.returns-clause-left
returns-clause-left c = λ all stands.
    let fits_now : FitsSigned w64 c.args.repo.now.clock = years_fit c.args.repo.now.clock c.requires.dated in
    let fits : FitsSigned w64 c.end.result = record { sfits = c.end.type_inv } in
    let repo = c.args.repo.now in
    let table = c.args.lists.now in
    let list = c.in-Some.list.now in
    let found = token_found repo.clock c.chunk_of-chunk.result c.args.verb table.lists (token_of c.args.token.now) list c.in-Some.cursor (simp to_z-of_z at c.in-Some.ensures.found) in
    let there = open_parts found.0.list repo.clock (λ _. true) table.lists list found.2.there (all_true table.lists) in
    let opened = rw (sym there.0) at found.2.there in
    let kept = simp to_z-of_z at (c.carry_on.ensures list c.in-Some.ensures.placed) in
    rw kept (left_kept repo.config.now repo.clock c.end.result c.cursor_behind-next.result None list.number repo.index.now.version table all c.end.ensures.last c.requires.kept stands (ap is_some opened))

pub returns-clause-agrees : goal.returns-clause-agrees
returns-clause-agrees c = λ all agrees.
    let fits_now : FitsSigned w64 c.args.repo.now.clock = years_fit c.args.repo.now.clock c.requires.dated in
    let fits : FitsSigned w64 c.end.result = record { sfits = c.end.type_inv } in
    let repo = c.args.repo.now in
    let table = c.args.lists.now in
    let list = c.in-Some.list.now in
    let found = token_found repo.clock c.chunk_of-chunk.result c.args.verb table.lists (token_of c.args.token.now) list c.in-Some.cursor (simp to_z-of_z at c.in-Some.ensures.found) in
    let there = open_parts found.0.list repo.clock (λ _. true) table.lists list found.2.there (all_true table.lists) in
    let opened = rw (sym there.0) at found.2.there in
    let kept = simp to_z-of_z at (c.carry_on.ensures list c.in-Some.ensures.placed) in
    rw kept (table_agrees_kept repo.clock c.end.result c.cursor_behind-next.result None list.number table all list c.in-Some.ensures.valid opened refl agrees)
