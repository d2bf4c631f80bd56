-- The cached pages, by their numbers.
use Rattle.std.specs.Prelude.{ℕ, List, Option, nat_eq, option_map}
use Rattle.std.specs.Map.{lookup}
use Rattle.oai_pool.specs.declared.cache.PageCache.{PageCache}

-- the bytes of the page that is cached under the number
unfoldable pub held : PageCache → ℕ → Option (List ℕ)
held cache n = option_map (λ kept. kept.page.value) (lookup (nat_eq n) cache.pages.entries)
