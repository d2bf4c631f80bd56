use Rattle.std.proofs.Common.{length, arith}
use Rattle.std.proofs.lemmas.Str.{is_utf8-from_IsUtf8}
use Rattle.oai_item.specs.Encoding.{encoded_count, encoded_text}
use Rattle.oai_item.proofs.Lengths.{length-encoded_text}
use Rattle.oai_item.proofs.Written.{room_in, text_parts, written_in}
use Rattle.oai_item.proofs.encodings.put_text.Goals as goal

pub put_count-at-requires : goal.put_count-at-requires
put_count-at-requires c = omega (arith, length-encoded_text c.args.text.now)

pub put_bytes-requires : goal.put_bytes-requires
put_bytes-requires c =
    let text = c.args.text.now in
    room_in (encoded_text text) (encoded_count (length text)) c.as_bytes.result.now c.args.out.now c.put_count-at.new.out c.put_count-at.result
    (text_parts text c.as_bytes.result.now c.as_bytes.ensures.value) c.requires c.put_count-at.ensures

pub returns-clause-written : goal.returns-clause-written
returns-clause-written c =
    let text = c.args.text.now in
    written_in (encoded_text text) (encoded_count (length text)) c.as_bytes.result.now c.args.out.now c.put_count-at.new.out c.put_bytes.new.out c.put_count-at.result c.put_bytes.result
    (text_parts text c.as_bytes.result.now c.as_bytes.ensures.value) c.put_count-at.ensures c.put_bytes.ensures

pub returns-clause-texts : goal.returns-clause-texts
returns-clause-texts c = is_utf8-from_IsUtf8 c.args.text.now c.utf8.text
