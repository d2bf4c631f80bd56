use Rattle.std.proofs.Common.{◌≡◌, ◌∷◌, ℕ, List, Bor, Some, arith, rules}
use Rattle.std.proofs.lemmas.List.Folds.{flat_map-map}
use Rattle.json.specs.Json.{after_end_array}
use Rattle.json.specs.Token.{Token}
use Rattle.oai_json.specs.Tokens.{text_tokens}
use Rattle.oai_json.proofs.TokenLemmas.{array_taken}
use Rattle.oai_json.proofs.tokens.take_texts.Goals as goal

pub returns : goal.returns
returns c =
    let opened : c.args.reader.now ≡ Token.begin_array ∷ c.take_begin_array.new.reader = search rules in
    let closed : after_end_array c.loop-texts.reader ≡ Some c.take_end_array.new.self = grind arith in
    rw (flat_map-map text_tokens (λ (text : Bor (List ℕ)). text.now) c.loop-texts.texts.items)
    (array_taken (λ (text : Bor (List ℕ)). text_tokens text.now) c.loop-texts.texts.items _ _ _ _ opened c.loop-texts.invariant closed)
