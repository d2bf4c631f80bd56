use Rattle.std.proofs.Common.{◌∙◌, arith, FitsSigned, w64, sym}
use Rattle.std.proofs.lemmas.Bool.{false≢true}
use Rattle.std.proofs.lemmas.Int.{to_z-of_z}
use Rattle.oai_item.specs.Item.{IsStamp}
use Rattle.oai_item.proofs.Numbers.{no_stamp, no_such_stamp, stamp_read}
use Rattle.oai_item.proofs.decodings.read_stamp.Goals as goal

pub returns-in_default : goal.returns-in_default
returns-in_default c = no_stamp IsStamp c.args.bytes.now c.in_default.len_below

pub returns : goal.returns
returns c =
    let z = c.from_be_bytes-stamp.result in
    let fits : FitsSigned w64 z = record { sfits = c.from_be_bytes-stamp.type_inv } in
    let is : IsStamp z = simp to_z-of_z at (c.is_stamp.ensures.0 c.if-not-is_stamp.false) in
    simp to_z-of_z (is, stamp_read c.args.bytes.now z (λ i. omega (arith, c.type_inv.bytes i)) c.in-len8-up.len_at_least c.from_be_bytes-stamp.ensures)

pub returns-then-not-is_stamp : goal.returns-then-not-is_stamp
returns-then-not-is_stamp c =
    let z = c.from_be_bytes-stamp.result in
    let fits : FitsSigned w64 z = record { sfits = c.from_be_bytes-stamp.type_inv } in
    let not : IsStamp z → ⊥ = λ h. false≢true (sym c.if-not-is_stamp.true ∙ c.is_stamp.ensures.1 (simp to_z-of_z h)) in
    no_such_stamp c.args.bytes.now _ z fits (stamp_read c.args.bytes.now z (λ i. omega (arith, c.type_inv.bytes i)) c.in-len8-up.len_at_least c.from_be_bytes-stamp.ensures) not
