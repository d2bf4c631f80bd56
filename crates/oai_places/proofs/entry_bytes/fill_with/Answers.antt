use Rattle.oai_places.proofs.CutLemmas.{page_filled}
use Rattle.oai_places.proofs.entry_bytes.fill_with.Goals as goal

pub returns : goal.returns
returns c = page_filled c.args.front.now c.args.back.now c.args.page.now c.put_at.new.page c.put_at-2.new.page c.clear.new.bytes c.requires
    c.put_at-2.array_long c.put_at.ensures c.put_at-2.ensures c.clear.ensures
