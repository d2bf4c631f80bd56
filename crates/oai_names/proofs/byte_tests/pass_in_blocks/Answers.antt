use Rattle.std.proofs.Common.{◌∙◌, ◌-◌, ap, arith, length}
use Rattle.std.specs.List.{list_all}
use Rattle.std.specs.Prelude.{◌&&◌}
use Rattle.std.proofs.lemmas.List.{take_rest}
use Rattle.oai_names.proofs.Blocks.{all_of_blocks, all_of_next}
use Rattle.oai_names.proofs.byte_tests.pass_in_blocks.Goals as goal

pub loop-at-preserved : goal.loop-at-preserved
loop-at-preserved g c = (
  omega (arith, c.loop-at-test.true),
  (λ k. c.loop-at.invariant.1 k && c.pass-passed.ensures k) ∙ all_of_next g.T.ByteTest.passes c.args.bytes.now c.loop-at.at 64,
)

pub returns : goal.returns
returns g c =
    let last = length c.args.bytes.now - 64 in
    (λ k. c.loop-at.invariant.1 k && (c.pass.ensures ∙ ap (list_all g.T.ByteTest.passes) (take_rest c.args.bytes.now last)) k)
    ∙ all_of_blocks g.T.ByteTest.passes c.args.bytes.now c.loop-at.at last (omega (arith, c.loop-at-test.false)) c.loop-at.invariant.0
