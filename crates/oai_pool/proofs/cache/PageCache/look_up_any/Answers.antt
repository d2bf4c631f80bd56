-- An entry that is moved to the front shows no other page under any number.
use Rattle.oai_pool.specs.Held.{held}
use Rattle.oai_pool.proofs.CacheLemmas.{shown-promoted}
use Rattle.oai_pool.proofs.cache.PageCache.look_up_any.Goals as goal

pub returns-in-Some-clause-kept : goal.returns-in-Some-clause-kept
unfolding held
returns-in-Some-clause-kept c = λ n.
    shown-promoted (λ kept. kept.page.value) _ c.args.self.now.pages c.args.no n c.get.follows.holds-at-none

pub returns-in-None-clause-kept : goal.returns-in-None-clause-kept
unfolding held
returns-in-None-clause-kept c = λ n.
    shown-promoted (λ kept. kept.page.value) _ c.args.self.now.pages c.args.no n c.get.follows.holds-at-none
