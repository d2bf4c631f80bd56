use Rattle.std.proofs.Common.{◌≡◌, ◌∙◌, ◌+◌, ℕ, is_some, length, take, drop, ap, subst, sym, arith}
use Rattle.std.proofs.lemmas.List.{take_rest}
use Rattle.oai_item.specs.Decoding.{item_in}
use Rattle.oai_places.specs.Entries.{HasEntry}
use Rattle.oai_places.specs.Pages.{first_number}
use Rattle.oai_places.proofs.ReadLemmas.{has_entry, no_number, no_room, no_spelling, none_from, some_from}
use Rattle.oai_places.proofs.entry_bytes.entry_len.Goals as goal

pub returns-then-bytes-lt-NUMBER_BYTES : goal.returns-then-bytes-lt-NUMBER_BYTES
returns-then-bytes-lt-NUMBER_BYTES c = no_number c.args.bytes.now c.if-bytes-lt-NUMBER_BYTES.true

pub returns-then-rest-len : goal.returns-then-rest-len
returns-then-rest-len c =
    let len : c.first_number-len.result ≡ first_number c.args.bytes.now = c.first_number-len.ensures in
    no_room c.args.bytes.now (omega (arith, c.if-rest-len.true, ap length (take_rest c.args.bytes.now 4), len))

pub returns-then-not-branch : goal.returns-then-not-branch
returns-then-not-branch c =
    let len : c.first_number-len.result ≡ first_number c.args.bytes.now = c.first_number-len.ensures in
    let rest = take_rest c.args.bytes.now 4 in
    no_spelling c.args.bytes.now
    (none_from (item_in (take (first_number c.args.bytes.now) (drop 4 c.args.bytes.now)))
    (sym (c.in_ok-is_spelling.ensures.spells ∙ (λ k. is_some (item_in (take (len k) (rest k))))) ∙ c.if-not-branch.true))

pub returns : goal.returns
returns c =
    let len : c.first_number-len.result ≡ first_number c.args.bytes.now = c.first_number-len.ensures in
    let rest = take_rest c.args.bytes.now 4 in
    let found = some_from (item_in (take (first_number c.args.bytes.now) (drop 4 c.args.bytes.now)))
    (sym (c.in_ok-is_spelling.ensures.spells ∙ (λ k. is_some (item_in (take (len k) (rest k))))) ∙ c.if-not-branch.false) in
    subst (λ (n : ℕ). HasEntry c.args.bytes.now (4 + n)) (sym len)
    (has_entry c.args.bytes.now found.0 (λ i. omega (arith, c.type_inv.bytes i)) c.if-bytes-lt-NUMBER_BYTES.false (omega (arith, c.if-rest-len.false, ap length (take_rest c.args.bytes.now 4), len)) found.1)
