use Rattle.std.proofs.Common.{◌≡◌, ◌∙◌, ◌+◌, List, [], Option, get_or, length, take, arith, ap}
use Rattle.std.specs.Prelude.{unwrap_or}
use Rattle.std.proofs.lemmas.List.{take_all}
use Rattle.oai_blocks.specs.Calls.{listed}
use Rattle.oai_blocks.specs.Store.{block_of, line_at}
use Rattle.oai_blocks.proofs.JoinLemmas.{joined_sets, keeps_then, listed_joined, same_line}
use Rattle.oai_blocks.proofs.ShelfLemmas.{kept_on_err}
use Rattle.oai_blocks.proofs.lines.BlockLines.join.Goals as goal

pub returns-clause-line : goal.returns-clause-line
returns-clause-line g c =
    let old = c.args.self.now in
    let keeps = keeps_then old c.reserve.new.self c.reserve_more.new.self c.reserve.ensures.keeps c.reserve_more.ensures.keeps in
    let next : List g.row.T.Denot = block_of old c.args.v (c.args.j + 1) in
    let same : block_of c.reserve_more.new.self c.args.v (c.args.j + 1) ≡ next =
    ap (λ (l : List (List g.row.T.Denot)). get_or l (c.args.j + 1) []) (same_line old c.reserve_more.new.self c.args.v keeps) in
    let more : length c.block-more.result.now ≡ length next = ap (λ (l : List g.row.T.Denot). length l) c.block-more.ensures in
    let len = ap (λ (l : List g.row.T.Denot). length l) c.block-len.ensures in
    let out = c.exchange.ensures.gone ∙ ap (λ (l : List g.row.T.Denot). take (length c.block-more.result.now) l) same ∙ take_all (length c.block-more.result.now) next (omega (arith, more)) in
    joined_sets c.args.v c.args.j (length c.block-len.result.now) (length c.block-more.result.now) c.reserve.new.others.items c.exchange.new.others.items c.exchange-2.new.others.items c.take_out.result
    old c.reserve_more.new.self c.exchange.new.self c.exchange-2.new.self c.take_out.new.self keeps c.exchange.ensures.line c.exchange-2.ensures.line c.take_out.ensures.line
    c.requires.blocks (c.reserve.ensures.others ∙ c.new-others.ensures.items) out c.exchange-2.ensures.gone c.take_out.ensures.out more len

pub returns-clause-list : goal.returns-clause-list
returns-clause-list g c =
    ap (λ (o : Option (List (List g.row.T.Denot))). listed (unwrap_or o [])) (returns-clause-line g c).lines.this ∙ listed_joined (line_at c.args.self.now c.args.v) c.args.j c.requires.blocks

pub returns-in_err-reserve_more-clause-err : goal.returns-in_err-reserve_more-clause-err
returns-in_err-reserve_more-clause-err g c =
    kept_on_err c.from_residual-in_err-reserve_more.result (keeps_then c.args.self.now c.reserve.new.self c.reserve_more.new.self c.reserve.ensures.keeps c.reserve_more.ensures.keeps)
