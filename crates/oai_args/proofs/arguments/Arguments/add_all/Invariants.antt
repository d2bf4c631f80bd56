use Rattle.std.proofs.Common.{◌≡◌, ◌++◌, List, map}
use Rattle.form_urlencoded.specs.Parse.{raw_pairs_left}
use Rattle.oai_args.specs.Arguments.{arguments_in}
use Rattle.oai_args.specs.Pairs.{Pair, decoded_pair, decoded_pairs}
use Rattle.oai_args.proofs.arguments.Arguments.add_all.Given as goal

-- the arguments are those of the pairs in front of what is left
abbrev pub invariant-loop-name : goal.invariant-loop-name
invariant-loop-name l =
    (front : List Pair) × (decoded_pairs l.query ≡ front ++ map decoded_pair (raw_pairs_left l.name-iterator)) × (l.self ≡ arguments_in front)
