use Rattle.std.proofs.Common.{length}
use Rattle.oai_answers.proofs.rooms.record_room.Given as goal

abbrev pub decreases-loop-field : goal.decreases-loop-field
decreases-loop-field l = length l.fields
