use Rattle.std.proofs.Common.{rules}
use Rattle.std.proofs.lemmas.Fn.{always_returns_same}
use Rattle.oai_front.specs.Connections.{Connection}
use Rattle.oai_names.proofs.Numbered.{found_at, found_none}
use Rattle.oai_front.specs.Fronts.{connection_number}
use Rattle.oai_front.proofs.fronts.place_of.Goals as goal

pub returns-in-Ok : goal.returns-in-Ok
returns-in-Ok c =
    found_at connection_number c.args.number c.args.connections.now c.in-Ok.at c.requires c.in-Ok.ensures.bound
    (c.in-Ok.ensures.position (λ (x : Connection). x.number) (always_returns_same _ _ _ (λ a r f' k. (search rules, search rules))))

pub returns-in-Err : goal.returns-in-Err
returns-in-Err c =
    found_none connection_number c.args.number c.args.connections.now c.in-Err.field-0 c.requires c.in-Err.ensures.bound
    (c.in-Err.ensures.position (λ (x : Connection). x.number) (always_returns_same _ _ _ (λ a r f' k. (search rules, search rules))))
