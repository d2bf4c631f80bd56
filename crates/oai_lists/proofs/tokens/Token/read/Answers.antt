-- The first full stop stands between the numbers.
use Rattle.std.proofs.Common.{decimal, None, arith}
use Rattle.std.proofs.lemmas.Str.Pattern.{split_after, split_parts}
use Rattle.oai_lists.specs.Tokens.{token_text}
use Rattle.oai_lists.proofs.Stops.{found_token, no_stop_at}
use Rattle.oai_lists.proofs.TokensRead.{read_is}
use Rattle.oai_lists.proofs.tokens.Token.read.Goals as goal

pub returns-in-Some-clause-found : goal.returns-in-Some-clause-found
returns-in-Some-clause-found c =
    let parts = split_parts 46 c.args.text.now c.split_once.result c.split_once.ensures.cases (omega arith) in
    let here = rw c.in-Some.is at parts in
    found_token c.args.text.now c.in-Some.list.now c.in-Some.cursor.now c.read_numbers.result here.0 c.read_numbers.ensures.found

pub returns-in-Some-clause-only : goal.returns-in-Some-clause-only
unfolding token_text
returns-in-Some-clause-only c = λ token is.
    let parts = split_after 46 c.args.text.now (decimal token.list) (decimal token.cursor) c.split_once.result c.split_once.ensures.cases (omega arith) is.spelled (no_stop_at token.list is.list) in
    let here = rw c.in-Some.is at parts in
    c.read_numbers.ensures.only token (is.list, is.cursor, here.0, here.1)

pub returns-in-None-clause-only : goal.returns-in-None-clause-only
unfolding token_text
returns-in-None-clause-only c = λ token is.
    let parts = split_after 46 c.args.text.now (decimal token.list) (decimal token.cursor) c.split_once.result c.split_once.ensures.cases (omega arith) is.spelled (no_stop_at token.list is.list) in
    absurd (rw c.in-None.is at parts)

pub returns-in-Some-clause-read : goal.returns-in-Some-clause-read
returns-in-Some-clause-read c = read_is c.args.text.now c.read_numbers.result (returns-in-Some-clause-found c) (returns-in-Some-clause-only c)

pub returns-in-None-clause-read : goal.returns-in-None-clause-read
returns-in-None-clause-read c = read_is c.args.text.now None tt (returns-in-None-clause-only c)
