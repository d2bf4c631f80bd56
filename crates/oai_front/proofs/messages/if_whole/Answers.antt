use Rattle.std.proofs.Common.{length, arith, ap, List, ℕ}
use Rattle.oai_front.proofs.MessageLemmas.{unfinished_body}
use Rattle.oai_front.proofs.messages.if_whole.Goals as goal

pub returns-then-behind_head-head : goal.returns-then-behind_head-head
returns-then-behind_head-head c =
    (unfinished_body c.args.bytes.now c.args.head c.requires (omega (arith, c.if-behind_head-head.true, ap (λ (xs : List ℕ). length xs) c.behind_head.ensures)), c.requires)

pub returns-else-behind_head-head : goal.returns-else-behind_head-head
returns-else-behind_head-head c =
    (c.requires, omega (arith, c.if-behind_head-head.false, ap (λ (xs : List ℕ). length xs) c.behind_head.ensures))
