use Rattle.std.proofs.Common.{rules, ◌≡◌, [], map, Result, Ok, Err, OnErr}
use Rattle.form_urlencoded.specs.Parse.{raw_pairs_left}
use Rattle.oai_args.specs.Pairs.{decoded_pair, decoded_pairs}
use Rattle.oai_args.proofs.ArgumentLemmas.{read_on, some_pairs}
use Rattle.oai_args.proofs.arguments.Arguments.add_all.Goals as goal

on_err : {T E : Type 0} (r : Result T E) (P : Type 0) → P → OnErr r P
on_err (Ok x) P p = tt
on_err (Err e) P p = p

pub loop-name-init : goal.loop-name-init
unfolding decoded_pairs
loop-name-init c =
    let whole : decoded_pairs c.args.query.now ≡ map decoded_pair (raw_pairs_left c.into_iter-name-iterator.result) = search rules in
    ([], whole, c.requires)

pub returns-in_err-add_encoded-clause-memory : goal.returns-in_err-add_encoded-clause-memory
returns-in_err-add_encoded-clause-memory c =
    on_err _ _ (some_pairs _ c.loop-name.invariant.0 _ _ _ c.loop-name.invariant.1 c.in-Some.ensures.steps)

pub loop-name-preserved : goal.loop-name-preserved
loop-name-preserved c =
    read_on _ c.loop-name.invariant.0 _ _ _ c.loop-name.self _ c.loop-name.invariant.1 c.loop-name.invariant.2 c.in-Some.ensures.steps c.in_ok-add_encoded.ensures
