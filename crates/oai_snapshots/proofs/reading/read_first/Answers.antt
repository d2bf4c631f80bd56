-- From nothing all items come.
use Rattle.std.proofs.Common.{◌∙◌, List, ap, option_map}
use Rattle.std.specs.Option.{option_copied}
use Rattle.oai_item.specs.Item.{ItemState}
use Rattle.oai_catalogue.specs.Store.{list_at}
use Rattle.oai_holdings.specs.Missing.{sort_key_of}
use Rattle.oai_holdings.specs.MissingParts.{last_in_batch}
use Rattle.oai_snapshots.proofs.ReadingLemmas.{first_comes, first_further}
use Rattle.oai_snapshots.proofs.reading.read_first.Goals as goal

pub returns-clause-read : goal.returns-clause-read
returns-clause-read g c honest =
    let V = g.V.Versions in
    first_comes c.args.most (list_at (V.lists c.args.store.now) c.args.version) (option_copied c.args.behind) _ c.requires.some
    (g.met.V.Versions.rising c.args.store.now c.args.version)
    (c.in_ok-items.ensures.items honest)
    (c.in_ok-next.ensures ∙ ap (λ (xs : List ItemState). option_map sort_key_of (last_in_batch c.args.most xs)) c.as_slice.ensures)

pub returns-clause-further : goal.returns-clause-further
returns-clause-further g c honest =
    first_further c.args.most (list_at (g.V.Versions.lists c.args.store.now) c.args.version) (option_copied c.args.behind) _
    (c.in_ok-items.ensures.items honest)
    (c.in_ok-next.ensures ∙ ap (λ (xs : List ItemState). option_map sort_key_of (last_in_batch c.args.most xs)) c.as_slice.ensures)
