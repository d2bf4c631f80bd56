use Rattle.std.proofs.Common.{◌∙◌, ◌+◌, ◌-◌, ◌++◌, sym, ap}
use Rattle.std.specs.Prelude.{map}
use Rattle.std.proofs.lemmas.List.{append-nil, take_all}
use Rattle.oai_places.proofs.PutLemmas.{map_more}
use Rattle.oai_places.proofs.entry_bytes.push_moved.Goals as goal

pub loop-end-init : goal.loop-end-init
loop-end-init c = sym (append-nil c.args.ends.now.items)

pub loop-end-preserved : goal.loop-end-preserved
loop-end-preserved c =
    c.in_ok-push.ensures.items
    ∙ map_more (λ end. end - c.args.from + c.args.to) c.args.ends.now.items c.loop-end.ends.items c.args.more.now c.loop-end.end-index c.loop-end-test.true c.loop-end.invariant

pub returns : goal.returns
returns c =
    c.loop-end.invariant
    ∙ ap (λ xs. c.args.ends.now.items ++ map (λ end. end - c.args.from + c.args.to) xs) (take_all c.loop-end.end-index c.args.more.now c.loop-end-test.false)
