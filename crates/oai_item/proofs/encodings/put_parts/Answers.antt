use Rattle.std.proofs.Common.{◌+◌, ◌-◌, arith, length, FitsSigned, w64}
use Rattle.std.proofs.lemmas.Int.{to_z-of_z}
use borrow.Rule.Slice.PartMut.{put_mid}
use Rattle.oai_item.specs.Encoding.{encoded, encoded_bool, encoded_list, encoded_record, encoded_stamp, encoded_text}
use Rattle.oai_item.specs.SpellingParts.{Writes}
use Rattle.oai_item.proofs.Lengths.{length-encoded_bool}
use Rattle.oai_item.proofs.Written.{has_room, length-stamp, parts2, parts3, parts4, room_behind, writes_behind}
use Rattle.oai_item.proofs.encodings.put_parts.Goals as goal

pub put_live-at-requires : goal.put_live-at-requires
put_live-at-requires c =
    let fits : FitsSigned w64 c.args.stamp = c.ranges.stamp in
    let rooms = has_room c.args.out.now c.args.live c.args.stamp c.args.identifier.now c.args.sets.now c.args.records.now c.requires in
    omega (arith, rooms.room1, length-encoded_bool c.args.live)

pub put_stamp-at-requires : goal.put_stamp-at-requires
put_stamp-at-requires c =
    let fits : FitsSigned w64 c.args.stamp = c.ranges.stamp in
    let rooms = has_room c.args.out.now c.args.live c.args.stamp c.args.identifier.now c.args.sets.now c.args.records.now c.requires in
    omega (arith, length-stamp c.args.stamp, room_behind (encoded_bool c.args.live) (encoded_stamp c.args.stamp) c.args.out.now c.put_live-at.new.out c.put_live-at.result rooms.room2 c.put_live-at.ensures)

pub put_text-at-requires : goal.put_text-at-requires
put_text-at-requires c =
    let fits : FitsSigned w64 c.args.stamp = c.ranges.stamp in
    let rooms = has_room c.args.out.now c.args.live c.args.stamp c.args.identifier.now c.args.sets.now c.args.records.now c.requires in
    let stamp_written : Writes (encoded_stamp c.args.stamp) _ c.put_stamp-at.result c.put_stamp-at.new.out = simp to_z-of_z at c.put_stamp-at.ensures in
    let w2 = writes_behind (encoded_bool c.args.live) (encoded_stamp c.args.stamp) c.args.out.now c.put_live-at.new.out c.put_stamp-at.new.out c.put_live-at.result c.put_stamp-at.result c.put_live-at.ensures stamp_written in
    room_behind (parts2 c.args.live c.args.stamp) (encoded_text c.args.identifier.now) c.args.out.now _ (c.put_live-at.result + c.put_stamp-at.result) rooms.room3 w2

pub put_sets-at-requires : goal.put_sets-at-requires
put_sets-at-requires c =
    let fits : FitsSigned w64 c.args.stamp = c.ranges.stamp in
    let rooms = has_room c.args.out.now c.args.live c.args.stamp c.args.identifier.now c.args.sets.now c.args.records.now c.requires in
    let stamp_written : Writes (encoded_stamp c.args.stamp) _ c.put_stamp-at.result c.put_stamp-at.new.out = simp to_z-of_z at c.put_stamp-at.ensures in
    let w2 = writes_behind (encoded_bool c.args.live) (encoded_stamp c.args.stamp) c.args.out.now c.put_live-at.new.out c.put_stamp-at.new.out c.put_live-at.result c.put_stamp-at.result c.put_live-at.ensures stamp_written in
    let m2 = put_mid c.put_live-at.result (length c.put_live-at.new.out - c.put_live-at.result) c.put_live-at.new.out c.put_stamp-at.new.out in
    let w3 = writes_behind (parts2 c.args.live c.args.stamp) (encoded_text c.args.identifier.now) c.args.out.now m2 c.put_text-at.new.out (c.put_live-at.result + c.put_stamp-at.result) c.put_text-at.result w2 c.put_text-at.ensures.written in
    let m3 = put_mid (c.put_live-at.result + c.put_stamp-at.result) (length m2 - (c.put_live-at.result + c.put_stamp-at.result)) m2 c.put_text-at.new.out in
    room_behind (parts3 c.args.live c.args.stamp c.args.identifier.now) (encoded_list encoded_text c.args.sets.now) c.args.out.now m3 (c.put_live-at.result + c.put_stamp-at.result + c.put_text-at.result) rooms.room4 w3

pub put-at-requires : goal.put-at-requires
put-at-requires c =
    let fits : FitsSigned w64 c.args.stamp = c.ranges.stamp in
    let rooms = has_room c.args.out.now c.args.live c.args.stamp c.args.identifier.now c.args.sets.now c.args.records.now c.requires in
    let stamp_written : Writes (encoded_stamp c.args.stamp) _ c.put_stamp-at.result c.put_stamp-at.new.out = simp to_z-of_z at c.put_stamp-at.ensures in
    let w2 = writes_behind (encoded_bool c.args.live) (encoded_stamp c.args.stamp) c.args.out.now c.put_live-at.new.out c.put_stamp-at.new.out c.put_live-at.result c.put_stamp-at.result c.put_live-at.ensures stamp_written in
    let m2 = put_mid c.put_live-at.result (length c.put_live-at.new.out - c.put_live-at.result) c.put_live-at.new.out c.put_stamp-at.new.out in
    let w3 = writes_behind (parts2 c.args.live c.args.stamp) (encoded_text c.args.identifier.now) c.args.out.now m2 c.put_text-at.new.out (c.put_live-at.result + c.put_stamp-at.result) c.put_text-at.result w2 c.put_text-at.ensures.written in
    let m3 = put_mid (c.put_live-at.result + c.put_stamp-at.result) (length m2 - (c.put_live-at.result + c.put_stamp-at.result)) m2 c.put_text-at.new.out in
    let w4 = writes_behind (parts3 c.args.live c.args.stamp c.args.identifier.now) (encoded_list encoded_text c.args.sets.now) c.args.out.now m3 c.put_sets-at.new.out (c.put_live-at.result + c.put_stamp-at.result + c.put_text-at.result) c.put_sets-at.result w3 c.put_sets-at.ensures.written in
    let m4 = put_mid (c.put_live-at.result + c.put_stamp-at.result + c.put_text-at.result) (length m3 - (c.put_live-at.result + c.put_stamp-at.result + c.put_text-at.result)) m3 c.put_sets-at.new.out in
    room_behind (parts4 c.args.live c.args.stamp c.args.identifier.now c.args.sets.now) (encoded_list encoded_record c.args.records.now) c.args.out.now m4 (c.put_live-at.result + c.put_stamp-at.result + c.put_text-at.result + c.put_sets-at.result) rooms.room5 w4

pub returns-clause-written : goal.returns-clause-written
unfolding encoded
returns-clause-written c =
    let fits : FitsSigned w64 c.args.stamp = c.ranges.stamp in
    let stamp_written : Writes (encoded_stamp c.args.stamp) _ c.put_stamp-at.result c.put_stamp-at.new.out = simp to_z-of_z at c.put_stamp-at.ensures in
    let w2 = writes_behind (encoded_bool c.args.live) (encoded_stamp c.args.stamp) c.args.out.now c.put_live-at.new.out c.put_stamp-at.new.out c.put_live-at.result c.put_stamp-at.result c.put_live-at.ensures stamp_written in
    let m2 = put_mid c.put_live-at.result (length c.put_live-at.new.out - c.put_live-at.result) c.put_live-at.new.out c.put_stamp-at.new.out in
    let w3 = writes_behind (parts2 c.args.live c.args.stamp) (encoded_text c.args.identifier.now) c.args.out.now m2 c.put_text-at.new.out (c.put_live-at.result + c.put_stamp-at.result) c.put_text-at.result w2 c.put_text-at.ensures.written in
    let m3 = put_mid (c.put_live-at.result + c.put_stamp-at.result) (length m2 - (c.put_live-at.result + c.put_stamp-at.result)) m2 c.put_text-at.new.out in
    let w4 = writes_behind (parts3 c.args.live c.args.stamp c.args.identifier.now) (encoded_list encoded_text c.args.sets.now) c.args.out.now m3 c.put_sets-at.new.out (c.put_live-at.result + c.put_stamp-at.result + c.put_text-at.result) c.put_sets-at.result w3 c.put_sets-at.ensures.written in
    let m4 = put_mid (c.put_live-at.result + c.put_stamp-at.result + c.put_text-at.result) (length m3 - (c.put_live-at.result + c.put_stamp-at.result + c.put_text-at.result)) m3 c.put_sets-at.new.out in
    let w5 = writes_behind (parts4 c.args.live c.args.stamp c.args.identifier.now c.args.sets.now) (encoded_list encoded_record c.args.records.now) c.args.out.now m4 c.put-at.new.out (c.put_live-at.result + c.put_stamp-at.result + c.put_text-at.result + c.put_sets-at.result) c.put-at.result w4 c.put-at.ensures.written in
    w5
