-- What is about the record stands behind the record itself.
use Rattle.std.proofs.Common.{◌≡◌, ◌++◌, List, Option, Vec, Global, length, rules}
use Rattle.std.proofs.lemmas.Result.{err_from_is_err_and}
use Rattle.oai_xml.specs.Roots.{RootName}
use Rattle.oai_item.specs.Givens.{field_texts, noted_given}
use Rattle.oai_item.specs.declared.fields.Field.{Field}
use Rattle.oai_deposit.proofs.ElementLemmas.{about_fault, kept_noted, kept_read, own_fault}
use Rattle.oai_deposit.proofs.given_elements.kept.Goals as goal

pub returns-in_err-fields-clause-given : goal.returns-in_err-fields-clause-given
returns-in_err-fields-clause-given c = λ prefix.
    let p = err_from_is_err_and c.from_residual.result c.from_residual.ensures.1 in
    rw (p.1, p.2) (own_fault (λ (own : Vec Field Global × Option RootName). noted_given own.0.items own.1) c.args.given _ c.in_err-fields.field-0.0 c.in_err-fields.ensures.given prefix)

pub returns-in_err-elements-clause-given : goal.returns-in_err-elements-clause-given
returns-in_err-elements-clause-given c = λ prefix.
    let p = err_from_is_err_and c.from_residual-in_err-elements.result c.from_residual-in_err-elements.ensures.1 in
    let about = rw c.as_slice.ensures.value at c.in_err-elements.ensures.texts in
    rw (p.1, p.2) (about_fault (λ (fields : Vec Field Global). field_texts fields.items) c.args.given _ _ c.in_err-elements.field-0.0 c.in_ok-fields.ensures.given about prefix)

pub returns : goal.returns
returns c =
    let own : List Field = c.in_ok-fields.fields.items in
    let elements : List Field = c.in_ok-elements.elements.items in
    let all : c.append.new.self.items ≡ own ++ elements = search rules in
    let many : c.len-count.result ≡ length elements = search rules in
    let about = rw c.as_slice.ensures.value at c.in_ok-elements.ensures.texts in
    record {
      given = λ prefix. rw (c.new.ensures, all, many) (kept_read prefix c.args.given _ own elements c.in_ok-fields.root c.in_ok-fields.ensures.given about);
      noted = rw (c.new.ensures, all, many) (kept_noted own elements c.in_ok-fields.root c.in_ok-fields.ensures.noted c.in_ok-elements.ensures.about);
    }
