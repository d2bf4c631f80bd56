use Rattle.std.proofs.Common.{◌∙◌, ◌&&◌, nat_lt, sym, ap, ap₂}
use Rattle.std.specs.List.{list_all}
use Rattle.oai_item.proofs.Ascii.{all_by_chunks}
use Rattle.oai_item.proofs.decodings.are_ascii_by.Goals as goal

pub returns-then-are_chunks_ascii : goal.returns-then-are_chunks_ascii
returns-then-are_chunks_ascii g c =
    let whole = all_by_chunks (λ byte. nat_lt byte 128) g.row.N c.args.bytes.now c.in-Some.last.now c.as_chunks.result.0.now c.requires.fits.0 c.as_chunks.ensures.front c.in-Some.ensures.cases.1.same in
    ap₂ (λ a b. a && b) (sym c.if-are_chunks_ascii.true ∙ c.are_chunks_ascii.ensures) c.is_each_ascii.ensures ∙ whole

pub returns-else-are_chunks_ascii : goal.returns-else-are_chunks_ascii
returns-else-are_chunks_ascii g c =
    let whole = all_by_chunks (λ byte. nat_lt byte 128) g.row.N c.args.bytes.now c.in-Some.last.now c.as_chunks.result.0.now c.requires.fits.0 c.as_chunks.ensures.front c.in-Some.ensures.cases.1.same in
    c.if-are_chunks_ascii.false ∙ ap (λ a. a && list_all (λ byte. nat_lt byte 128) c.in-Some.last.now) (sym c.if-are_chunks_ascii.false ∙ c.are_chunks_ascii.ensures) ∙ whole
