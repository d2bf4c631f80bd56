-- What each call left is joined to what the tag is (`Started`), and then the names are tested.
use Rattle.std.proofs.Common.{◌∙◌, ◌≤◌, ℕ, Err, length, drop, sym, ap, subst}
use Rattle.oai_xml.specs.Answers.{Tells}
use Rattle.oai_xml.specs.Whole.{are_names_whole}
use Rattle.oai_xml.proofs.TagPieces.{start_unnamed, start_stops, started, started_well, started_ill, within_long}
use Rattle.oai_xml.proofs.tags.start.Goals as goal

pub are_names_whole-requires : goal.are_names_whole-requires
are_names_whole-requires c =
    let leaves = c.in-Ok-attributes.ensures.leaves in
    let tells = subst (λ w. Tells leaves.0.0 w c.attributes.new.names.items c.args.scope.now.items c.attributes.new.scope.items c.extend_from_slice.new.self.items c.attributes.new.out.items)
    c.new-names.ensures.items leaves.2.1 in
    let so = started c.args.scope.now.items c.attributes.new.scope.items c.complete.new.scope.items c.args.bytes.now c.in-Ok.read.0.now c.in-Ok.read.1.now c.in-Ok-attributes.rest.now
    c.args.out.now.items c.push.new.self.items c.extend_from_slice.new.self.items c.attributes.new.out.items c.complete.new.out.items c.attributes.new.names.items c.complete.new.names.items
    leaves.0 c.in-Ok.ensures.gives leaves.1 leaves.2.0 c.in_ok-push.ensures.items c.in_ok-extend_from_slice.ensures.items tells c.in_ok-complete.ensures in
    let len = ap length c.as_slice-outer.ensures.value in
    subst (λ w. length c.as_slice-outer.result.now ≤ length w) (sym c.deref.ensures.value)
    (within_long c.args.scope.now.items c.complete.new.scope.items c.complete.new.names.items leaves.0.0 c.args.bytes.now c.in-Ok.read.0.now c.in-Ok.read.1.now c.in-Ok-attributes.rest.now
    c.args.out.now.items c.complete.new.out.items (length c.as_slice-outer.result.now) so len)

pub returns-then-not-are_names_whole-clause-leaves : goal.returns-then-not-are_names_whole-clause-leaves
returns-then-not-are_names_whole-clause-leaves c =
    let leaves = c.in-Ok-attributes.ensures.leaves in
    let tells = subst (λ w. Tells leaves.0.0 w c.attributes.new.names.items c.args.scope.now.items c.attributes.new.scope.items c.extend_from_slice.new.self.items c.attributes.new.out.items)
    c.new-names.ensures.items leaves.2.1 in
    let so = started c.args.scope.now.items c.attributes.new.scope.items c.complete.new.scope.items c.args.bytes.now c.in-Ok.read.0.now c.in-Ok.read.1.now c.in-Ok-attributes.rest.now
    c.args.out.now.items c.push.new.self.items c.extend_from_slice.new.self.items c.attributes.new.out.items c.complete.new.out.items c.attributes.new.names.items c.complete.new.names.items
    leaves.0 c.in-Ok.ensures.gives leaves.1 leaves.2.0 c.in_ok-push.ensures.items c.in_ok-extend_from_slice.ensures.items tells c.in_ok-complete.ensures in
    let len = ap length c.as_slice-outer.ensures.value in
    let test = ap (λ w. are_names_whole w (drop (length c.as_slice-outer.result.now) w) c.in-Ok.read.0.now c.complete.new.names.items) (sym c.deref.ensures.value)
    ∙ ap (are_names_whole c.deref.result.now (drop (length c.as_slice-outer.result.now) c.deref.result.now) c.in-Ok.read.0.now) (sym c.deref-2.ensures.value) ∙ sym c.are_names_whole.ensures in
    started_ill c.args.scope.now.items c.args.bytes.now c.in-Ok.read.0.now c.in-Ok.read.1.now c.in-Ok-attributes.rest.now leaves.0.0 c.complete.new.names.items c.complete.new.scope.items
    c.args.out.now.items c.complete.new.out.items (length c.as_slice-outer.result.now) so len (test ∙ c.if-not-are_names_whole.true) ∙ ap (λ (n : ℕ). Err n) (sym c.fault_at.ensures)

pub returns-clause-leaves : goal.returns-clause-leaves
returns-clause-leaves c =
    let leaves = c.in-Ok-attributes.ensures.leaves in
    let tells = subst (λ w. Tells leaves.0.0 w c.attributes.new.names.items c.args.scope.now.items c.attributes.new.scope.items c.extend_from_slice.new.self.items c.attributes.new.out.items)
    c.new-names.ensures.items leaves.2.1 in
    let so = started c.args.scope.now.items c.attributes.new.scope.items c.complete.new.scope.items c.args.bytes.now c.in-Ok.read.0.now c.in-Ok.read.1.now c.in-Ok-attributes.rest.now
    c.args.out.now.items c.push.new.self.items c.extend_from_slice.new.self.items c.attributes.new.out.items c.complete.new.out.items c.attributes.new.names.items c.complete.new.names.items
    leaves.0 c.in-Ok.ensures.gives leaves.1 leaves.2.0 c.in_ok-push.ensures.items c.in_ok-extend_from_slice.ensures.items tells c.in_ok-complete.ensures in
    let len = ap length c.as_slice-outer.ensures.value in
    let test = ap (λ w. are_names_whole w (drop (length c.as_slice-outer.result.now) w) c.in-Ok.read.0.now c.complete.new.names.items) (sym c.deref.ensures.value)
    ∙ ap (are_names_whole c.deref.result.now (drop (length c.as_slice-outer.result.now) c.deref.result.now) c.in-Ok.read.0.now) (sym c.deref-2.ensures.value) ∙ sym c.are_names_whole.ensures in
    started_well c.args.scope.now.items c.args.bytes.now c.in-Ok.read.0.now c.in-Ok.read.1.now c.in-Ok-attributes.rest.now leaves.0.0 c.complete.new.names.items c.complete.new.scope.items
    c.args.out.now.items c.complete.new.out.items c.push-2.new.self.items (length c.as_slice-outer.result.now) so len (test ∙ c.if-not-are_names_whole.false) c.in_ok-push-2.ensures.items

pub returns-in-Err-clause-leaves : goal.returns-in-Err-clause-leaves
returns-in-Err-clause-leaves c = start_unnamed c.args.scope.now.items c.args.bytes.now c.in-Err.fault.left c.in-Err.ensures.gives

pub returns-in-Err-attributes-clause-leaves : goal.returns-in-Err-attributes-clause-leaves
returns-in-Err-attributes-clause-leaves c =
    start_stops c.args.scope.now.items c.args.bytes.now c.in-Ok.read.0.now c.in-Ok.read.1.now c.in-Err-attributes.stop c.in-Ok.ensures.gives c.in-Err-attributes.ensures.leaves
