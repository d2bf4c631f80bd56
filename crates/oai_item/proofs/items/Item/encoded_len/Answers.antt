use Rattle.std.proofs.Common.{◌≡◌, ◌∙◌, length, ap, subst, arith}
use Rattle.std.proofs.lemmas.Result.{err_from_is_err_and}
use Rattle.oai_item.specs.Encoding.{IsMeasure, encoded_list, encoded_record, encoded_text}
use Rattle.oai_item.proofs.Lengths.{length-encoded}
use Rattle.oai_item.proofs.items.Item.encoded_len.Goals as goal

pub returns-in_err-front : goal.returns-in_err-front
returns-in_err-front c =
    let p = err_from_is_err_and c.from_residual.result c.from_residual.ensures.1 in
    let identifier : length (encoded_text c.as_str.result.now) ≡ length (encoded_text c.args.self.now.identifier) = ap (λ text. length (encoded_text text)) (c.as_str.ensures.text ∙ ap (λ i. i.identifier) c.self.view_is) in
    rw p.1 (omega (arith, length-encoded c.args.self.now, identifier, c.in_err-front.ensures))

pub returns-in_err-middle : goal.returns-in_err-middle
returns-in_err-middle c =
    let p = err_from_is_err_and c.from_residual-in_err-middle.result c.from_residual-in_err-middle.ensures.1 in
    let identifier : length (encoded_text c.as_str.result.now) ≡ length (encoded_text c.args.self.now.identifier) = ap (λ text. length (encoded_text text)) (c.as_str.ensures.text ∙ ap (λ i. i.identifier) c.self.view_is) in
    let sets : length (encoded_list encoded_text c.as_slice.result.now) ≡ length (encoded_list encoded_text c.args.self.now.sets) = ap (λ sets. length (encoded_list encoded_text sets)) (c.as_slice.ensures ∙ ap (λ i. i.sets) c.self.view_is) in
    rw p.1 (omega (arith, length-encoded c.args.self.now, identifier, sets, c.in_ok-front.ensures, c.in_err-middle.ensures))

pub returns : goal.returns
returns c =
    let identifier : length (encoded_text c.as_str.result.now) ≡ length (encoded_text c.args.self.now.identifier) = ap (λ text. length (encoded_text text)) (c.as_str.ensures.text ∙ ap (λ i. i.identifier) c.self.view_is) in
    let sets : length (encoded_list encoded_text c.as_slice.result.now) ≡ length (encoded_list encoded_text c.args.self.now.sets) = ap (λ sets. length (encoded_list encoded_text sets)) (c.as_slice.ensures ∙ ap (λ i. i.sets) c.self.view_is) in
    let formats : length (encoded_list encoded_record c.self.inside.formats) ≡ length (encoded_list encoded_record c.args.self.now.formats) = ap (λ i. length (encoded_list encoded_record i.formats)) c.self.view_is in
    subst (λ n. IsMeasure n c.measured.result) (omega (arith, length-encoded c.args.self.now, identifier, sets, formats, c.in_ok-front.ensures, c.in_ok-middle.ensures)) c.measured.ensures
