use Rattle.oai_xml.proofs.TagPieces.{spelled_so}
use Rattle.oai_xml.proofs.attributes.spell.Goals as goal

pub returns-clause-leaves : goal.returns-clause-leaves
returns-clause-leaves c =
    let v = c.in_ok-rest.ensures.leaves in (
      v.0,
      v.1,
      (
        v.2.0,
        spelled_so c.args.name.now v.0.0 c.args.out.now.items c.push.new.self.items c.extend_from_slice.new.self.items c.extend_from_slice-2.new.self.items c.quoted.new.out.items c.push-2.new.self.items
            c.in_ok-push.ensures.items c.in_ok-extend_from_slice.ensures.items c.in_ok-extend_from_slice-2.ensures.items v.2.1 c.in_ok-push-2.ensures.items,
      ),
    )
