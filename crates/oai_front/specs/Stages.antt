-- The stage of a connection: this repository's own.
use Rattle.std.specs.Prelude.{Bool, true, false}
use Rattle.oai_front.specs.declared.stages.Stage.{Stage}
use Rattle.oai_front.specs.declared.stages.Stage.TheVariants.{Reading, Ended, Closed}

-- the connection reads no more input: its end came, or it is closed
abbrev pub is_closing : Stage → Bool
is_closing Reading = false
is_closing Ended = true
is_closing Closed = true

-- no more bytes come
abbrev pub stage_ended : Stage → Stage
stage_ended Reading = Ended
stage_ended Ended = Ended
stage_ended Closed = Closed
