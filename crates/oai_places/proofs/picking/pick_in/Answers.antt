use Rattle.std.proofs.Common.{◌<◌, ℕ, Ok, Err, ap, arith, get_or, length}
use Rattle.std.proofs.lemmas.Bool.{false_from_ne_true}
use Rattle.oai_item.specs.declared.decodings.DecodeFault.TheVariants.{Damaged}
use Rattle.oai_pool.specs.Names.{times}
use Rattle.oai_places.proofs.HaveReadLemmas.{read_more, read_none}
use Rattle.oai_places.proofs.JoinedLemmas.{named_in_numbers}
use Rattle.oai_places.proofs.ReadPlaces.{reads_undecoded}
use Rattle.oai_places.proofs.SpanPicking.{span_picked}
use Rattle.oai_places.proofs.picking.pick_in.Goals as goal

pub read_span-requires-clause-named : goal.read_span-requires-clause-named
read_span-requires-clause-named g c =
    let some : 0 < length c.pages.result.now = omega (arith, c.requires.sound.many.some, ap length c.pages.ensures) in
    let n : ℕ = get_or c.pages.result.now 0 0 in
    c.requires.named n (omega (arith, named_in_numbers 0 c.pages.result.now some, ap (times n) c.pages.ensures))

pub returns-in-Ok-clause-taken : goal.returns-in-Ok-clause-taken
returns-in-Ok-clause-taken g c =
    let pages = g.P.PagePool.pages c.args.pages.now in
    λ honest. span_picked pages c.args.place.now c.pages.result.now c.in_ok-bytes.bytes.items c.deref.result.now c.args.portion.wanted.filter.now c.args.portion.wanted.key.stamp c.args.portion.wanted.key.identifier.now c.args.span c.args.portion.most
    c.args.part.now.items c.pick_entries.new.part.items c.args.portion.skip (Ok c.in-Ok.left) c.pages.ensures c.requires.sound c.requires.pickable
    (c.in_ok-bytes.ensures.bytes honest) c.deref.ensures.value c.in-Ok.ensures

pub returns-clause-pages : goal.returns-clause-pages
returns-clause-pages g c =
    let G = g.P.PagePool in
    let p = c.args.pages.now in
    let q = c.read_span.new.pages in
    reads_undecoded G c.in-Err.fault c.decoding_fault_of.result p q c.decoding_fault_of.ensures (read_more G c.read_span.result p p q (read_none G p) c.read_span.ensures.pages)
    (λ damage. false_from_ne_true (G.honest p)
    (λ honest. span_picked (G.pages p) c.args.place.now c.pages.result.now c.in_ok-bytes.bytes.items c.deref.result.now c.args.portion.wanted.filter.now c.args.portion.wanted.key.stamp c.args.portion.wanted.key.identifier.now c.args.span c.args.portion.most
    c.args.part.now.items c.pick_entries.new.part.items c.args.portion.skip (Err Damaged) c.pages.ensures c.requires.sound c.requires.pickable
    (c.in_ok-bytes.ensures.bytes honest) c.deref.ensures.value (rw damage at c.in-Err.ensures)))
