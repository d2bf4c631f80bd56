use Rattle.std.proofs.Common.{◌≡◌, true, take}
use Rattle.std.specs.List.{list_all}
use Rattle.std.specs.Str.{is_utf8}
use Rattle.oai_item.specs.Encoding.{encoded_text}
use Rattle.oai_item.specs.SpellingParts.{Writes}
use Rattle.oai_item.proofs.Written.{so_far}
use Rattle.oai_item.proofs.encodings.put_sets.Given as goal

-- the count, and the elements so far
abbrev pub invariant-loop-set : goal.invariant-loop-set
invariant-loop-set l = record {
  written : Writes (so_far encoded_text l.sets l.set-index) l.fn.out l.at l.out;
  texts : list_all is_utf8 (take l.set-index l.sets) ≡ true;
}
