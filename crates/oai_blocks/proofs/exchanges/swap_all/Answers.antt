use Rattle.std.proofs.Common.{arith, sym, ap, ◌∙◌, ◌+◌, get_or}
use Rattle.oai_blocks.proofs.ExchangeLemmas.{swapped_step}
use Rattle.oai_blocks.proofs.exchanges.swap_all.Goals as goal

pub swapped-preserved : goal.swapped-preserved
swapped-preserved g c =
    let h = c.swapped.invariant in (
      swapped_step c.args.at c.swapped.i c.args.items.now.items c.args.others.now.items c.swapped.items.items c.swapped.others.items c.swap.new.x c.swap.new.y h.0
          (omega (arith, c.requires.within, c.swapped-test.true, c.args.items.now.ok.0))
          (omega (arith, c.requires.others_within, c.swapped-test.true, c.args.others.now.ok.0))
          (c.swap.ensures.x_after ∙ c.index_mut-in-swapped.ensures.value ∙ ap (λ d. get_or c.swapped.others.items c.swapped.i d) (sym c.swap.ensures.x_after))
          (c.swap.ensures.y_after ∙ c.index_mut.ensures.value ∙ ap (λ d. get_or c.swapped.items.items (c.args.at + c.swapped.i) d) (sym c.swap.ensures.y_after)),
      h.1,
      h.2,
      h.3,
      h.4,
    )
