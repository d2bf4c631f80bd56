use Rattle.std.proofs.Common.{◌≡◌, ◌∙◌, ◌+◌, ℕ, is_some, length, take, drop, ap, sym, arith}
use Rattle.std.proofs.lemmas.List.{length-drop, take_rest}
use Rattle.oai_item.specs.Decoding.{item_in}
use Rattle.oai_pool.specs.Kinds.{leading_number}
use Rattle.oai_pool.proofs.TestingLemmas.{none_short, none_spelled, one_spelled}
use Rattle.oai_pool.proofs.testing.entry_len.Goals as goal

pub returns-then-bytes-lt-NUMBER_BYTES : goal.returns-then-bytes-lt-NUMBER_BYTES
returns-then-bytes-lt-NUMBER_BYTES c = none_short c.args.bytes.now (omega (arith, c.if-bytes-lt-NUMBER_BYTES.true))

pub returns-then-rest-len : goal.returns-then-rest-len
returns-then-rest-len c =
    let len : c.number_in-len.result ≡ leading_number c.args.bytes.now = c.number_in-len.ensures in
    none_short c.args.bytes.now (omega (arith, c.if-bytes-lt-NUMBER_BYTES.false, c.if-rest-len.true, ap length (take_rest c.args.bytes.now 4), length-drop 4 c.args.bytes.now, len))

pub returns-then-not-branch : goal.returns-then-not-branch
returns-then-not-branch c =
    let len : c.number_in-len.result ≡ leading_number c.args.bytes.now = c.number_in-len.ensures in
    let rest = take_rest c.args.bytes.now 4 in
    none_spelled c.args.bytes.now (sym (c.in_ok-is_spelling.ensures.spells ∙ (λ k. is_some (item_in (take (len k) (rest k))))) ∙ c.if-not-branch.true)

pub returns : goal.returns
returns c =
    let len : c.number_in-len.result ≡ leading_number c.args.bytes.now = c.number_in-len.ensures in
    let rest = take_rest c.args.bytes.now 4 in
    one_spelled c.args.bytes.now c.number_in-len.result len
    (omega (arith, c.if-bytes-lt-NUMBER_BYTES.false, c.if-rest-len.false, ap length (take_rest c.args.bytes.now 4), length-drop 4 c.args.bytes.now))
    (sym (c.in_ok-is_spelling.ensures.spells ∙ (λ k. is_some (item_in (take (len k) (rest k))))) ∙ c.if-not-branch.false)
