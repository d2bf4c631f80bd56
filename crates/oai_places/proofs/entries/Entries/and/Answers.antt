use Rattle.std.proofs.Common.{◌≡◌, ◌∙◌, [], refl, arith}
use Rattle.oai_places.specs.Pages.{size_of}
use Rattle.oai_places.proofs.EntryLemmas.{AreFields, fields_are, size_is}
use Rattle.oai_places.proofs.PageLemmas.{size_of-nil}
use Rattle.oai_places.proofs.PutLemmas.{ends_fit, joined_entries}
use Rattle.oai_places.proofs.entries.Entries.and.Goals as goal

pub push_moved-requires-clause-fits : goal.push_moved-requires-clause-fits
push_moved-requires-clause-fits c =
    let f = fields_are c.self.inside.bytes c.self.inside.ends.items c.args.self.now c.self.view_is c.self.invariant in
    let h = fields_are c.others.inside.bytes c.others.inside.ends.items c.args.others.now c.others.view_is c.others.invariant in
    let own = size_is c.as_slice.result.now c.args.self.now (c.as_slice.ensures.value ∙ f.spelling) in
    let other = size_is c.as_slice-2.result.now c.args.others.now (c.as_slice-2.ensures.value ∙ h.spelling) in
    let none : 0 ≡ size_of [] = omega (arith, size_of-nil) in
    ends_fit 0 0 c.size-start.result c.deref-2.result.now c.deref-2.result.now c.args.others.now (omega arith) (c.deref-2.ensures.value ∙ h.ending) refl none
    (omega (arith, c.size-start.ensures, own, other, c.as_slice.type_inv.1, c.as_slice-2.type_inv.1))

pub invariant_of-result : goal.invariant_of-result
invariant_of-result c =
    let f = fields_are c.self.inside.bytes c.self.inside.ends.items c.args.self.now c.self.view_is c.self.invariant in
    let h = fields_are c.others.inside.bytes c.others.inside.ends.items c.args.others.now c.others.view_is c.others.invariant in
    let own : AreFields c.as_slice.result.now c.deref.result.now c.args.self.now = record { spelling = c.as_slice.ensures.value ∙ f.spelling; ending = c.deref.ensures.value ∙ f.ending; storable = f.storable } in
    let other : AreFields c.as_slice-2.result.now c.deref-2.result.now c.args.others.now = record { spelling = c.as_slice-2.ensures.value ∙ h.spelling; ending = c.deref-2.ensures.value ∙ h.ending; storable = h.storable } in
    (joined_entries c.as_slice.result.now c.deref.result.now c.as_slice-2.result.now c.deref-2.result.now c.in_ok-bytes.bytes c.push_moved.new.ends.items c.in_ok-ends.ends.items c.args.self.now c.args.others.now
    c.size-start.result own other c.size-start.ensures c.in_ok-bytes.ensures c.in_ok-ends.ensures c.in_ok-push_moved.ensures).1

pub returns : goal.returns
returns c =
    let f = fields_are c.self.inside.bytes c.self.inside.ends.items c.args.self.now c.self.view_is c.self.invariant in
    let h = fields_are c.others.inside.bytes c.others.inside.ends.items c.args.others.now c.others.view_is c.others.invariant in
    let own : AreFields c.as_slice.result.now c.deref.result.now c.args.self.now = record { spelling = c.as_slice.ensures.value ∙ f.spelling; ending = c.deref.ensures.value ∙ f.ending; storable = f.storable } in
    let other : AreFields c.as_slice-2.result.now c.deref-2.result.now c.args.others.now = record { spelling = c.as_slice-2.ensures.value ∙ h.spelling; ending = c.deref-2.ensures.value ∙ h.ending; storable = h.storable } in
    (joined_entries c.as_slice.result.now c.deref.result.now c.as_slice-2.result.now c.deref-2.result.now c.in_ok-bytes.bytes c.push_moved.new.ends.items c.in_ok-ends.ends.items c.args.self.now c.args.others.now
    c.size-start.result own other c.size-start.ensures c.in_ok-bytes.ensures c.in_ok-ends.ensures c.in_ok-push_moved.ensures).0
