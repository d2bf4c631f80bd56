-- What contracts see of a `Spelling`, an encoded item: the item.
use Rattle.std.specs.Prelude.{◌≡◌, ◌++◌}
use Rattle.oai_item.specs.Decoding.{first_list, first_record, first_text}
use Rattle.oai_item.specs.Encoding.{Spells, encoded_list, encoded_record, encoded_text}
use Rattle.oai_item.specs.Item.{ItemState}
use Rattle.oai_item.specs.declared.in_place.Spelling.TheInside.{Inside}

-- the three parts that are decoded, and the two that are still encoded
abbrev pub spelled_item : Inside → ItemState
spelled_item spelling =
    let sets = first_list first_text spelling.rest.now in
    let formats = first_list first_record sets.1 in
    record {
      identifier = spelling.identifier.now;
      stamp = spelling.stamp;
      live = spelling.live;
      sets = sets.0;
      formats = formats.0;
    }

-- the bytes encode it, and what remains to be decoded is the end of them
pub record IsSpelling (spelling : Inside) : Type 0 where
  pub spells : Spells spelling.bytes.now (spelled_item spelling)
  pub rest : spelling.rest.now
      ≡ encoded_list encoded_text (spelled_item spelling).sets
      ++ encoded_list encoded_record (spelled_item spelling).formats
