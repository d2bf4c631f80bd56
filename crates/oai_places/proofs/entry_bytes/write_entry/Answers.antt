-- The length, and behind it the encoded item, which fills the rest.
use Rattle.std.proofs.Common.{◌∙◌, ◌≤◌, ◌++◌, List, ℕ, ap, append-nil, arith, drop, length}
use Rattle.std.proofs.lemmas.List.{drop_all}
use Rattle.oai_item.specs.Encoding.{encoded}
use Rattle.oai_places.proofs.PageLemmas.{number_spelled}
use Rattle.oai_places.proofs.PutLemmas.{entry_encoded}
use Rattle.oai_places.proofs.entry_bytes.write_entry.Goals as goal

pub returns-clause-entry : goal.returns-clause-entry
returns-clause-entry c =
    let front = c.copy_from_slice.ensures.after ∙ c.to_be_bytes.ensures ∙ number_spelled c.args.len in
    let filled : length c.split_at_mut-number.result.1.now ≤ length (encoded c.args.item.now) = omega (arith, c.split_at_mut-number.ensures.back_len, c.requires.room, c.requires.len) in
    let behind = c.encode_measured.ensures.2 ∙ ap (λ (rest : List ℕ). encoded c.args.item.now ++ rest) (ap (λ n. drop n c.split_at_mut-number.result.1.now) c.encode_measured.ensures.1 ∙ drop_all (length (encoded c.args.item.now)) c.split_at_mut-number.result.1.now filled) ∙ append-nil (encoded c.args.item.now) in
    rw (front, behind) (entry_encoded c.args.item.now c.args.len c.requires.len)
