use Rattle.std.proofs.Common.{◌≡◌, List, ◌++◌, map, length}
use Rattle.serde_json.specs.View.{members_view}
use Rattle.oai_item.specs.Givens.{given_back}
use Rattle.oai_item.specs.Item.{Metadata}
use Rattle.oai_json.specs.Json.{members_of}
use Rattle.oai_deposit.specs.Dumps.{line_abouts}
use Rattle.oai_deposit.specs.Shapes.{written_about}
use Rattle.oai_deposit.proofs.dump_values.abouts_members.Given as goal

abbrev pub invariant-loop-record : goal.invariant-loop-record
invariant-loop-record l =
    (done : List Metadata) × (l.fn.records ≡ done ++ l.left) × (members_view l.members.entries ≡ members_of (map written_about (line_abouts (map given_back done))))

abbrev pub decreases-loop-record : goal.decreases-loop-record
decreases-loop-record l = length l.left
