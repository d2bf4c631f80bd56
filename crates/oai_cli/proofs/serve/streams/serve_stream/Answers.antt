-- The connection that is opened is forgotten, and what was done was done to it alone.
use Rattle.std.proofs.Common.{◌≡◌, ◌∙◌, ◌+◌, None, ℕ, subst}
use Rattle.std.specs.Io.KnownBytes.{IsAtEnd}
use Rattle.oai_front.specs.Fronts.{connection_numbered}
use Rattle.oai_cli.specs.Outputs.{OthersStay}
use Rattle.oai_cli.proofs.Apart.{equal_limit, equal_others, forgotten_so, opened_last, opened_limit, opened_others, others_then}
use Rattle.oai_cli.proofs.PieceLemmas.{served_so}
use Rattle.oai_cli.proofs.UsedLemmas.{opening_refused, used_opening, used_then}
use Rattle.oai_cli.proofs.serve.streams.serve_stream.Goals as goal

pub returns-in-Ok-clause-forgotten : goal.returns-in-Ok-clause-forgotten
returns-in-Ok-clause-forgotten g c =
    forgotten_so c.args.front.now c.forget_connection.new.front c.serve_connection-served.result c.serve_connection-served.ensures.err
    (c.forget_connection.ensures.apart.last ∙ c.serve_connection-served.ensures.apart.last
    ∙ opened_last (c.args.front.now.last + 1) (c.args.front.now.last + 1) c.args.front.now c.open.new.self c.in-Ok.ensures.3)
    (subst (λ (n : ℕ). connection_numbered n c.forget_connection.new.front.connections ≡ None) c.in-Ok.ensures.1 c.forget_connection.ensures.none)

pub returns-in-Ok-clause-others : goal.returns-in-Ok-clause-others
returns-in-Ok-clause-others g c =
    let next : ℕ = c.args.front.now.last + 1 in
    let opened : OthersStay next c.args.front.now c.open.new.self = opened_others next next c.args.front.now c.open.new.self c.in-Ok.ensures.3 in
    let served : OthersStay next c.open.new.self c.serve_connection-served.new.front =
    subst (λ (n : ℕ). OthersStay n c.open.new.self c.serve_connection-served.new.front) c.in-Ok.ensures.1 c.serve_connection-served.ensures.apart.others in
    let gone : OthersStay next c.serve_connection-served.new.front c.forget_connection.new.front =
    subst (λ (n : ℕ). OthersStay n c.serve_connection-served.new.front c.forget_connection.new.front) c.in-Ok.ensures.1 c.forget_connection.ensures.apart.others in
    others_then next c.args.front.now c.open.new.self c.forget_connection.new.front opened
    (others_then next c.open.new.self c.serve_connection-served.new.front c.forget_connection.new.front served gone)

pub returns-in-Ok-clause-limit : goal.returns-in-Ok-clause-limit
returns-in-Ok-clause-limit g c =
    c.forget_connection.ensures.apart.limit ∙ c.serve_connection-served.ensures.apart.limit
    ∙ opened_limit (c.args.front.now.last + 1) (c.args.front.now.last + 1) c.args.front.now c.open.new.self c.in-Ok.ensures.3

pub returns-in-Ok-clause-used : goal.returns-in-Ok-clause-used
returns-in-Ok-clause-used g c =
    used_then g.H.Handler.step c.args.front.now c.open.new.self c.forget_connection.new.front
    (used_opening g.H.Handler.step c.args.front.now c.open.result c.open.new.self c.open.ensures)
    (used_then g.H.Handler.step c.open.new.self c.serve_connection-served.new.front c.forget_connection.new.front c.serve_connection-served.ensures.used
    c.forget_connection.ensures.used)

pub returns-in-Ok-clause-served : goal.returns-in-Ok-clause-served
returns-in-Ok-clause-served g c =
    served_so g.H.Handler.step c.in-Ok.conn c.args.front.now c.open.new.self c.serve_connection-served.new.front c.forget_connection.new.front
    (IsAtEnd (g.S.Read.remaining c.serve_connection-served.new.stream)) c.serve_connection-served.result c.in-Ok.ensures
    c.serve_connection-served.ensures.pieces c.serve_connection-served.ensures.over c.forget_connection.ensures.handler

pub returns-in-Err-clause-used : goal.returns-in-Err-clause-used
returns-in-Err-clause-used g c = used_opening g.H.Handler.step c.args.front.now c.open.result c.open.new.self c.open.ensures

pub returns-in-Err-clause-others : goal.returns-in-Err-clause-others
returns-in-Err-clause-others g c =
    equal_others (c.args.front.now.last + 1) c.args.front.now c.open.new.self (opening_refused c.args.front.now c.in-Err.fault c.open.new.self c.in-Err.ensures)

pub returns-in-Err-clause-limit : goal.returns-in-Err-clause-limit
returns-in-Err-clause-limit g c = equal_limit c.args.front.now c.open.new.self (opening_refused c.args.front.now c.in-Err.fault c.open.new.self c.in-Err.ensures)
