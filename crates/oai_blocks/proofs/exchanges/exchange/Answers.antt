use Rattle.std.proofs.Common.{arith, ap, ◌∙◌, ◌≡◌, ◌+◌, ◌++◌, drop, take}
use Rattle.oai_blocks.proofs.ExchangeLemmas.{exchanged_in, exchanged_out}
use Rattle.oai_blocks.proofs.exchanges.exchange.Goals as goal

pub returns-then-count-len-clause-items : goal.returns-then-count-len-clause-items
returns-then-count-len-clause-items g c =
    let old = c.args.items.now.items in
    let others = c.args.others.now.items in
    let b = c.min-both.result in
    let same : b ≡ c.args.len = omega (arith, c.min-both.ensures, c.if-count-len.true) in
    (exchanged_in c.args.at b old others c.swap_all.new.items.items c.swap_all.new.others.items c.move_in.new.items.items c.move_in.new.others.items
    (record { places = c.swap_all.ensures.items; back = c.swap_all.ensures.others })
    (omega (arith, c.requires.within, same, c.args.items.now.ok.0)) (omega (arith, c.min-both.ensures, c.len-count.ensures, c.args.others.now.ok.0)) c.move_in.ensures.items c.move_in.ensures.others).0
    ∙ ap (λ n. take c.args.at old ++ (others ++ drop (c.args.at + n) old)) same

pub returns-else-count-len-clause-items : goal.returns-else-count-len-clause-items
returns-else-count-len-clause-items g c =
    (exchanged_out c.args.at c.args.len c.min-both.result c.args.items.now.items c.args.others.now.items c.swap_all.new.items.items c.swap_all.new.others.items c.move_out.new.items.items c.move_out.new.others.items
    (record { places = c.swap_all.ensures.items; back = c.swap_all.ensures.others })
    (omega (arith, c.requires.within, c.args.items.now.ok.0)) (omega (arith, c.min-both.ensures, c.if-count-len.false, c.len-count.ensures, c.args.others.now.ok.0)) (omega (arith, c.min-both.ensures, c.if-count-len.false))
    c.move_out.ensures.items c.move_out.ensures.others).0

pub returns-else-count-len-clause-others : goal.returns-else-count-len-clause-others
returns-else-count-len-clause-others g c =
    (exchanged_out c.args.at c.args.len c.min-both.result c.args.items.now.items c.args.others.now.items c.swap_all.new.items.items c.swap_all.new.others.items c.move_out.new.items.items c.move_out.new.others.items
    (record { places = c.swap_all.ensures.items; back = c.swap_all.ensures.others })
    (omega (arith, c.requires.within, c.args.items.now.ok.0)) (omega (arith, c.min-both.ensures, c.if-count-len.false, c.len-count.ensures, c.args.others.now.ok.0)) (omega (arith, c.min-both.ensures, c.if-count-len.false))
    c.move_out.ensures.items c.move_out.ensures.others).1
