-- There is room for one text more, so it is pushed.
use Rattle.std.proofs.Common.{◌≡◌, true, ◌∷◌, [], ◌++◌, ◌<◌, ◌∙◌, length, length-append, vec_len, vec_capacity, map, take, ap, sym, refl, arith}
use Rattle.std.specs.Result.{is_ok}
use Rattle.std.proofs.lemmas.List.{map_push, map_more}
use Rattle.serde_json.specs.Data.{Data, string}
use Rattle.serde_json.specs.View.{view}
use Rattle.oai_deposit.proofs.dump_values.texts_value.Goals as goal

pub unwrap-requires : goal.unwrap-requires
unwrap-requires c =
    let l = c.loop-spec in
    let inside : l.spec-index < length c.args.specs.now = omega arith in
    let room : vec_len l.texts < vec_capacity l.texts = omega arith in
    c.push.ensures.succeeds room

pub loop-spec-preserved : goal.loop-spec-preserved
loop-spec-preserved c =
    let l = c.loop-spec in
    let specs = c.args.specs.now in
    let inside : l.spec-index < length specs = omega arith in
    let room : vec_len l.texts < vec_capacity l.texts = omega arith in
    let done : is_ok c.push.result ≡ true = c.push.ensures.succeeds room in
    let pushed : c.push.new.self.items ≡ l.texts.items ++ c.in_ok-text.text ∷ [] = rw done at c.push.ensures.items in
    let is = c.in_ok-text.ensures ∙ ap string (c.as_str.ensures.text ∙ c.spec-item.is) in
    let before = l.invariant.1 in (
      rw pushed
          (map_push view l.texts.items c.in_ok-text.text ∙ ap (λ vs. vs ++ view c.in_ok-text.text ∷ []) l.invariant.0
          ∙ ap (λ (v : Data). map string (take l.spec-index specs) ++ v ∷ []) is ∙ sym (map_more string specs l.spec-index c.spec-item.result inside)),
      rw (pushed, length-append, before) refl,
      omega arith,
    )
