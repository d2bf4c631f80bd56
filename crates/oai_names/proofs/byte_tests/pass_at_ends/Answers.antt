use Rattle.std.proofs.Common.{◌∙◌, ◌-◌, ap, arith, length}
use Rattle.std.specs.List.{list_all}
use Rattle.std.specs.Prelude.{◌&&◌}
use Rattle.std.proofs.lemmas.List.{take_rest}
use Rattle.oai_names.proofs.Blocks.{all_of_blocks}
use Rattle.oai_names.proofs.byte_tests.pass_at_ends.Goals as goal

pub returns : goal.returns
returns g c =
    let last = length c.args.bytes.now - c.args.len in
    (λ k. c.pass.ensures k && (c.pass-2.ensures ∙ ap (list_all g.T.ByteTest.passes) (take_rest c.args.bytes.now last)) k)
    ∙ all_of_blocks g.T.ByteTest.passes c.args.bytes.now c.args.len last (omega (arith, c.requires.enough)) c.requires.within
