use Rattle.std.proofs.Common.{◌≡◌, ◌≤◌, map, take, length}
use Rattle.serde_json.specs.Data.{string}
use Rattle.serde_json.specs.View.{view}
use Rattle.oai_deposit.proofs.dump_values.texts_value.Given as goal

abbrev pub invariant-loop-spec : goal.invariant-loop-spec
invariant-loop-spec l =
    (map view l.texts.items ≡ map string (take l.spec-index l.fn.specs))
    × (length l.texts.items ≡ l.spec-index)
    × (length l.fn.specs ≤ l.texts.cap)
