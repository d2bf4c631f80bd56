use Rattle.std.proofs.Common.{◌≡◌, ◌&&◌, length, map}
use Rattle.std.specs.List.{list_all}
use Rattle.oai_item.specs.Givens.{kept as as_kept}
use Rattle.oai_item.specs.Known.{has_format, has_listed_fields, is_of_format}
use Rattle.oai_holdings.proofs.changes.deposits.check_records.Given as goal

-- what holds of those that were, and of each that is to come, is what holds of each
abbrev pub invariant-loop-record : goal.invariant-loop-record
invariant-loop-record l = record {
  known : (l.checks.known && list_all (has_format l.formats) (map as_kept l.records)) ≡ list_all (has_format l.formats) (map as_kept l.initial.records);
  listed : (l.checks.listed && list_all (has_listed_fields l.formats) l.records) ≡ list_all (has_listed_fields l.formats) l.initial.records;
  of_format : (l.checks.of_format && list_all (is_of_format l.formats) l.records) ≡ list_all (is_of_format l.formats) l.initial.records;
}

abbrev pub decreases-loop-record : goal.decreases-loop-record
decreases-loop-record l = length l.records
