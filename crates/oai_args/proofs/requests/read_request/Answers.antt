use Rattle.std.proofs.Common.{◌≡◌, ◌∙◌, ap, List, Result}
use Rattle.oai_time.specs.declared.granularity.Granularity.{Granularity}
use Rattle.oai_args.specs.Arguments.{arguments_in}
use Rattle.oai_args.specs.Pairs.{Pair}
use Rattle.oai_args.specs.Requests.{request_in, request_of}
use Rattle.oai_args.specs.Steps.{result_of}
use Rattle.oai_args.specs.declared.arguments.Arguments.{Arguments}
use Rattle.oai_args.specs.declared.requests.ArgFault.{ArgFault}
use Rattle.oai_args.specs.declared.requests.Ask.{Ask}
use Rattle.oai_args.proofs.RequestLemmas.{read_from, records_read}
use Rattle.oai_args.proofs.requests.read_request.Goals as goal

-- the arguments that were read are those of the pairs
answer : (granularity : Granularity) (pairs : List Pair) (given : Arguments) (result : Result Ask ArgFault)
    → result ≡ result_of (request_in granularity given) → given ≡ arguments_in pairs → result ≡ result_of (request_of granularity pairs)
unfolding request_of
answer granularity pairs given result is same = is ∙ ap (λ (a : Arguments). result_of (request_in granularity a)) same

pub returns-in-Ok-clause-read : goal.returns-in-Ok-clause-read
returns-in-Ok-clause-read c = read_from c.args.granularity _ _ (answer _ _ _ _ c.take_request.ensures (rw c.in-Ok.is at c.add_all.ensures.read))

pub returns-in-Ok-clause-lists : goal.returns-in-Ok-clause-lists
returns-in-Ok-clause-lists c =
    records_read c.args.granularity _ _ (read_from c.args.granularity _ _ (answer _ _ _ _ c.take_request.ensures (rw c.in-Ok.is at c.add_all.ensures.read)))
