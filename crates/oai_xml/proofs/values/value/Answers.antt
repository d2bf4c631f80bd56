use Rattle.std.proofs.Common.{◌++◌, [], arith}
use Rattle.std.proofs.lemmas.Bool.{eq-eqb}
use Rattle.std.proofs.lemmas.List.{nil_from_length}
use Rattle.oai_xml.proofs.ValuePieces.{so_far_none, so_far_more, value_whole, value_cut_off, value_stops}
use Rattle.oai_xml.proofs.values.value.Goals as goal

pub loop-b-init : goal.loop-b-init
loop-b-init c = ([], so_far_none c.args.form c.args.quote c.args.bytes.now c.args.out.now.items, omega arith)

pub returns-then-b-quote-clause-leaves : goal.returns-then-b-quote-clause-leaves
returns-then-b-quote-clause-leaves c =
    value_whole c.args.form c.args.quote c.args.bytes.now c.loop-b.rest.now c.in-Some.tail.now c.args.out.now.items c.loop-b.out.items c.loop-b.invariant.0 c.in-Some.b.now c.loop-b.invariant.1
    c.in-Some.ensures.cases.0 (eq-eqb c.in-Some.b.now c.args.quote c.if-b-quote.true)

pub loop-b-preserved : goal.loop-b-preserved
loop-b-preserved c =
    let piece = c.in-Ok.ensures.leaves in
    let short = c.in-Ok.ensures.shorter in (
      c.loop-b.invariant.0 ++ piece.0,
      so_far_more c.args.form c.args.quote c.args.bytes.now c.loop-b.rest.now c.args.out.now.items c.loop-b.out.items c.loop-b.invariant.0 c.in-Ok.behind.now c.value_piece.new.out.items piece.0
          c.loop-b.invariant.1 piece.1 piece.2,
      omega (arith, short, c.loop-b.invariant.2),
    )

pub returns-in-Err-clause-leaves : goal.returns-in-Err-clause-leaves
returns-in-Err-clause-leaves c =
    value_stops c.args.form c.args.quote c.args.bytes.now c.loop-b.rest.now c.args.out.now.items c.loop-b.out.items c.loop-b.invariant.0 c.in-Err.stop c.loop-b.invariant.1 c.in-Err.ensures.leaves

pub returns-clause-leaves : goal.returns-clause-leaves
returns-clause-leaves c =
    value_cut_off c.args.form c.args.quote c.args.bytes.now c.loop-b.rest.now c.args.out.now.items c.loop-b.out.items c.loop-b.invariant.0 c.loop-b.invariant.1
    (nil_from_length c.loop-b.rest.now c.in_default.ensures.cases)
