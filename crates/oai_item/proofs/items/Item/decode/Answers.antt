use Rattle.std.proofs.Common.{◌≡◌, sym, subst, rules}
use Rattle.std.proofs.lemmas.Result.{err_from_is_err_and}
use Rattle.oai_item.specs.Encoding.{Spells}
use Rattle.oai_item.specs.Item.{ItemState}
use Rattle.oai_item.proofs.Decoded.{place_fails, spelled-item_in}
use Rattle.oai_item.proofs.items.Item.decode.Goals as goal

pub returns-in_err-spelling : goal.returns-in_err-spelling
returns-in_err-spelling c =
    let p = err_from_is_err_and c.from_residual.result c.from_residual.ensures.1 in
    rw (p.1, p.2) (place_fails c.args.bytes.now c.in_err-spelling.field-0.0 c.in_err-spelling.ensures)

pub returns-in_err-spelled : goal.returns-in_err-spelled
returns-in_err-spelled c =
    let p = err_from_is_err_and c.from_residual-in_err-spelled.result c.from_residual-in_err-spelled.ensures.1 in
    rw (p.1, p.2) (spelled-item_in c.args.bytes.now c.in_ok-spelling.spelling c.in_ok-spelling.ensures).few

pub returns : goal.returns
returns c =
    let copy : ItemState = c.in_ok-spelled.field-0 in
    let is : copy ≡ c.in_ok-spelling.spelling = search rules in
    subst (λ (item : ItemState). Spells c.args.bytes.now item) (sym is) (spelled-item_in c.args.bytes.now c.in_ok-spelling.spelling c.in_ok-spelling.ensures)
