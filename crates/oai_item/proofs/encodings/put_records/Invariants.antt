use Rattle.std.proofs.Common.{◌≡◌, true, take}
use Rattle.std.specs.List.{list_all}
use Rattle.oai_item.specs.Encoding.{encoded_record, is_text_record}
use Rattle.oai_item.specs.SpellingParts.{Writes}
use Rattle.oai_item.proofs.Written.{so_far}
use Rattle.oai_item.proofs.encodings.put_records.Given as goal

-- the count, and the elements so far
abbrev pub invariant-loop-format : goal.invariant-loop-format
invariant-loop-format g l = record {
  written : Writes (so_far (λ r. encoded_record (g.R.MemoryRecord.record_of r)) l.records l.format-index) l.fn.out l.at l.out;
  texts : list_all (λ r. is_text_record (g.R.MemoryRecord.record_of r)) (take l.format-index l.records) ≡ true;
}
