-- The page was put in, or the cache is as it was.
use Rattle.std.proofs.Common.{◌≡◌, ◌⊎◌, ℕ, List, Some, subst}
use Rattle.oai_pool.specs.Held.{held}
use Rattle.oai_pool.proofs.CacheLemmas.{shown, shown-pushed, shown-pushed_before}
use Rattle.oai_pool.proofs.cache.PageCache.keep.Goals as goal

pub returns-clause-this : goal.returns-clause-this
unfolding held
returns-clause-this c = λ bytes was.
    subst (λ (own : List ℕ). (shown (λ kept. kept.page.value) c.args.self.now.pages c.args.no ≡ Some bytes) ⊎ (own ≡ bytes)) c.new-kept.ensures
    (shown-pushed (λ kept. kept.page.value) c.push.result c.push.new.self c.args.self.now.pages c.args.no c.new-kept.result c.push.ensures.entries c.push.ensures.err bytes was)

pub returns-clause-others : goal.returns-clause-others
unfolding held
returns-clause-others c =
    shown-pushed_before (λ kept. kept.page.value) c.push.result c.push.new.self c.args.self.now.pages c.args.no c.new-kept.result c.push.ensures.entries c.push.ensures.err
