-- The numbers of the entries differ, so nothing stands under the one that was taken out.
use Rattle.oai_pool.specs.Held.{held}
use Rattle.oai_pool.proofs.CacheLemmas.{shown-removed, shown-removed_before}
use Rattle.oai_pool.proofs.cache.PageCache.forget.Goals as goal

pub returns-in-Some-clause-this : goal.returns-in-Some-clause-this
unfolding held
returns-in-Some-clause-this c =
    shown-removed (λ kept. kept.page.value) c.pop.new.self c.args.self.now.pages c.args.no c.pop.ensures.entries c.len-pages.ensures.valid.0

pub returns-in-Some-clause-others : goal.returns-in-Some-clause-others
unfolding held
returns-in-Some-clause-others c =
    shown-removed_before (λ kept. kept.page.value) c.pop.new.self c.args.self.now.pages c.args.no c.pop.ensures.entries c.len-pages.ensures.valid.0

pub returns-in-None-clause-this : goal.returns-in-None-clause-this
unfolding held
returns-in-None-clause-this c =
    shown-removed (λ kept. kept.page.value) c.pop.new.self c.args.self.now.pages c.args.no c.pop.ensures.entries c.len-pages.ensures.valid.0

pub returns-in-None-clause-others : goal.returns-in-None-clause-others
unfolding held
returns-in-None-clause-others c =
    shown-removed_before (λ kept. kept.page.value) c.pop.new.self c.args.self.now.pages c.args.no c.pop.ensures.entries c.len-pages.ensures.valid.0
