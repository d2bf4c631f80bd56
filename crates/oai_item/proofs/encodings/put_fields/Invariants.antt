use Rattle.std.proofs.Common.{◌≡◌, true, take}
use Rattle.std.specs.List.{list_all}
use Rattle.oai_item.specs.Encoding.{encoded_field, is_text_field}
use Rattle.oai_item.specs.SpellingParts.{Writes}
use Rattle.oai_item.proofs.Written.{so_far}
use Rattle.oai_item.proofs.encodings.put_fields.Given as goal

-- the count, and the elements so far
abbrev pub invariant-loop-field : goal.invariant-loop-field
invariant-loop-field l = record {
  written : Writes (so_far encoded_field l.fields l.field-index) l.fn.out l.at l.out;
  texts : list_all is_text_field (take l.field-index l.fields) ≡ true;
}
