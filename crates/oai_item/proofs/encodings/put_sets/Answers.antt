use Rattle.std.proofs.Common.{◌∙◌, refl, ap, arith}
use Rattle.std.specs.Str.{is_utf8}
use Rattle.oai_item.specs.Encoding.{encoded_text}
use Rattle.oai_item.proofs.Written.{all_at, count_room, count_written, element_room, element_written, list_written}
use Rattle.oai_item.proofs.encodings.put_sets.Goals as goal

pub put_count-at-requires : goal.put_count-at-requires
put_count-at-requires c = count_room encoded_text c.args.sets.now c.args.out.now c.requires

pub put_text-at-requires : goal.put_text-at-requires
put_text-at-requires c =
    element_room encoded_text c.args.sets.now c.loop-set.set-index c.set-item.result (encoded_text c.as_str.result.now) c.args.out.now c.loop-set.out c.loop-set.at
    c.loop-set-test.true c.requires (ap encoded_text (c.as_str.ensures.text ∙ c.set-item.is)) c.loop-set.invariant.written

pub loop-set-init : goal.loop-set-init
loop-set-init c = record {
  written = count_written encoded_text c.args.sets.now c.args.out.now c.put_count-at.new.out c.put_count-at.result c.put_count-at.ensures;
  texts = refl;
}

pub loop-set-preserved : goal.loop-set-preserved
loop-set-preserved c = record {
  written =
      element_written encoded_text c.args.sets.now c.loop-set.set-index c.set-item.result (encoded_text c.as_str.result.now) c.args.out.now c.loop-set.out c.put_text-at.new.out c.loop-set.at c.put_text-at.result
      c.loop-set-test.true (ap encoded_text (c.as_str.ensures.text ∙ c.set-item.is)) c.loop-set.invariant.written c.put_text-at.ensures.written;
  texts = all_at is_utf8 c.args.sets.now c.loop-set.set-index c.as_str.result.now c.set-item.result c.loop-set-test.true (c.as_str.ensures.text ∙ c.set-item.is) c.loop-set.invariant.texts c.put_text-at.ensures.texts;
}

pub returns-clause-written : goal.returns-clause-written
returns-clause-written c = list_written encoded_text c.args.sets.now c.loop-set.set-index c.args.out.now c.loop-set.out c.loop-set.at (omega arith) c.loop-set.invariant.written
