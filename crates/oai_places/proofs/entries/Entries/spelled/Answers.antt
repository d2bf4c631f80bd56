use Rattle.std.proofs.Common.{◌∙◌, Option, IsSome, get_or, pos, [], refl, subst, sym}
use Rattle.std.proofs.lemmas.Option.{same_Some}
use Rattle.oai_item.specs.Item.{ItemState}
use Rattle.oai_item.proofs.Around.{only_place}
use Rattle.oai_item.proofs.Decoded.{item_in-spelled}
use Rattle.oai_places.proofs.entries.Entries.spelled.Goals as goal

pub new-requires : goal.new-requires
new-requires c =
    let d : ItemState = only_place (pos 0) [] in
    subst (λ (found : Option ItemState). IsSome found) (sym (item_in-spelled c.spelling.result.now (get_or c.args.self.now c.args.at d) (c.spelling.ensures d))) refl

pub returns : goal.returns
returns c = λ d.
    same_Some c.new.result (get_or c.args.self.now c.args.at d) (sym c.new.ensures ∙ item_in-spelled c.spelling.result.now (get_or c.args.self.now c.args.at d) (c.spelling.ensures d))
