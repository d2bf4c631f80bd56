use Rattle.std.proofs.Common.{ℕ, ℤ, Bool, List, Bor, FitsSigned, w64}
use Rattle.std.proofs.lemmas.Int.{to_z-of_z}
use Rattle.oai_names.specs.Names.{may_be_identifier}
use Rattle.oai_item.specs.Encoding.{encoded_bool, encoded_stamp}
use Rattle.oai_item.specs.Item.{IsStamp}
use Rattle.oai_item.specs.SpellingParts.{IsAny}
use Rattle.oai_item.proofs.Decoded.{item_in-spelled}
use Rattle.oai_item.proofs.Numbers.{stamp_fits}
use Rattle.oai_item.proofs.Placed.{item_of_bytes, placed}
use Rattle.oai_item.proofs.Spelled.{parts_spelled}
use Rattle.oai_item.proofs.Spellings.{text_of_name}
use Rattle.oai_item.proofs.Walking.{reads_some, reads_value}
use Rattle.oai_item.proofs.Wholes.{identifier_stands, live_stands, stamp_stands}
use Rattle.oai_item.proofs.in_place.Spelling.new.Goals as goal

-- an item is spelled, so each part of it is found

pub unwrap-live-requires : goal.unwrap-live-requires
unwrap-live-requires c =
    let found = item_of_bytes c.args.bytes.now c.requires in
    let s = parts_spelled c.args.bytes.now found.0 found.1 in
    let see_live : Bool × Bor (List ℕ) → Bool × List ℕ = λ a. (a.0, a.1.now) in
    reads_some see_live encoded_bool IsAny c.args.bytes.now c.read_live.result c.read_live.ensures (live_stands c.args.bytes.now found.0 s)

pub unwrap-stamp-requires : goal.unwrap-stamp-requires
unwrap-stamp-requires c =
    let found = item_of_bytes c.args.bytes.now c.requires in
    let s = parts_spelled c.args.bytes.now found.0 found.1 in
    let see_live : Bool × Bor (List ℕ) → Bool × List ℕ = λ a. (a.0, a.1.now) in
    let live = reads_value see_live encoded_bool IsAny c.args.bytes.now c.read_live.result c.unwrap-live.result c.unwrap-live.ensures c.read_live.ensures in
    let see_stamp : ℤ × Bor (List ℕ) → ℤ × List ℕ = λ a. (a.0, a.1.now) in
    reads_some see_stamp encoded_stamp IsStamp c.unwrap-live.result.1.now c.read_stamp.result c.read_stamp.ensures
    (stamp_stands c.args.bytes.now c.unwrap-live.result.1.now c.unwrap-live.result.0 live.1 found.0 s)

pub first_text-requires : goal.first_text-requires
first_text-requires c =
    let found = item_of_bytes c.args.bytes.now c.requires in
    let s = parts_spelled c.args.bytes.now found.0 found.1 in
    let see_live : Bool × Bor (List ℕ) → Bool × List ℕ = λ a. (a.0, a.1.now) in
    let live = reads_value see_live encoded_bool IsAny c.args.bytes.now c.read_live.result c.unwrap-live.result c.unwrap-live.ensures c.read_live.ensures in
    let see_stamp : ℤ × Bor (List ℕ) → ℤ × List ℕ = λ a. (a.0, a.1.now) in
    let stamp = reads_value see_stamp encoded_stamp IsStamp c.unwrap-live.result.1.now c.read_stamp.result c.unwrap-stamp.result c.unwrap-stamp.ensures c.read_stamp.ensures in
    text_of_name may_be_identifier c.unwrap-stamp.result.1.now
    (identifier_stands c.args.bytes.now c.unwrap-live.result.1.now c.unwrap-stamp.result.1.now c.unwrap-live.result.0 c.unwrap-stamp.result.0 live.1 stamp found.0 s)

pub invariant_of-result : goal.invariant_of-result
invariant_of-result c =
    let found = item_of_bytes c.args.bytes.now c.requires in
    let see_live : Bool × Bor (List ℕ) → Bool × List ℕ = λ a. (a.0, a.1.now) in
    let live = reads_value see_live encoded_bool IsAny c.args.bytes.now c.read_live.result c.unwrap-live.result c.unwrap-live.ensures c.read_live.ensures in
    let see_stamp : ℤ × Bor (List ℕ) → ℤ × List ℕ = λ a. (a.0, a.1.now) in
    let stamp = reads_value see_stamp encoded_stamp IsStamp c.unwrap-live.result.1.now c.read_stamp.result c.unwrap-stamp.result c.unwrap-stamp.ensures c.read_stamp.ensures in
    let is = placed c.args.bytes.now c.unwrap-live.result.1.now c.unwrap-stamp.result.1.now c.first_text.result.1.now c.unwrap-live.result.0 c.unwrap-stamp.result.0 c.first_text.result.0.now found.0 found.1 live.1 stamp c.first_text.ensures.1 in
    let fits : FitsSigned w64 c.unwrap-stamp.result.0 = stamp_fits c.unwrap-stamp.result.0 stamp.0 in
    simp to_z-of_z (record { spells = is.spells; rest = is.rest_is })

pub returns : goal.returns
returns c =
    let found = item_of_bytes c.args.bytes.now c.requires in
    let see_live : Bool × Bor (List ℕ) → Bool × List ℕ = λ a. (a.0, a.1.now) in
    let live = reads_value see_live encoded_bool IsAny c.args.bytes.now c.read_live.result c.unwrap-live.result c.unwrap-live.ensures c.read_live.ensures in
    let see_stamp : ℤ × Bor (List ℕ) → ℤ × List ℕ = λ a. (a.0, a.1.now) in
    let stamp = reads_value see_stamp encoded_stamp IsStamp c.unwrap-live.result.1.now c.read_stamp.result c.unwrap-stamp.result c.unwrap-stamp.ensures c.read_stamp.ensures in
    let is = placed c.args.bytes.now c.unwrap-live.result.1.now c.unwrap-stamp.result.1.now c.first_text.result.1.now c.unwrap-live.result.0 c.unwrap-stamp.result.0 c.first_text.result.0.now found.0 found.1 live.1 stamp c.first_text.ensures.1 in
    let fits : FitsSigned w64 c.unwrap-stamp.result.0 = stamp_fits c.unwrap-stamp.result.0 stamp.0 in
    simp to_z-of_z (item_in-spelled c.args.bytes.now _ is.spells)
