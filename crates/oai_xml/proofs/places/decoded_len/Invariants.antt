use Rattle.std.proofs.Common.{◌≡◌, ◌+◌, length}
use Rattle.std.specs.Str.{chars, IsUtf8}
use Rattle.std.specs.Str.Iter.{chars_rest}
use Rattle.oai_xml.specs.Documents.{legal_len}
use Rattle.oai_xml.proofs.places.decoded_len.Given as goal

-- what was passed is legal
abbrev pub invariant-loop-c : goal.invariant-loop-c
invariant-loop-c l =
    (legal_len (chars l.text) ≡ l.len + legal_len (chars (chars_rest l.c-iterator))) × (l.len + length (chars_rest l.c-iterator) ≡ length l.text) × IsUtf8 (chars_rest l.c-iterator)
