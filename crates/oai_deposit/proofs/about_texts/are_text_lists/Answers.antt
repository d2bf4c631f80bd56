-- One list more, and one member that is none.
use Rattle.std.proofs.Common.{◌≡◌, ◌∙◌, ◌&&◌, true, false, is_some, map, String, Global, ap, sym, rules}
use Rattle.serde_json.specs.View.{view}
use Rattle.serde_json.specs.declared.value.Value.{Value}
use Rattle.oai_names.specs.Optional.{each_of}
use Rattle.oai_json.proofs.JsonLemmas.{seen}
use Rattle.oai_deposit.specs.Lines.{about_of, text_list_of}
use Rattle.oai_deposit.proofs.AboutLemmas.{lists_more}
use Rattle.oai_deposit.proofs.about_texts.are_text_lists.Goals as goal

pub loop-texts-preserved : goal.loop-texts-preserved
loop-texts-preserved c =
    let e : String Global × Value = (c.in-Some.field-0-0.now, c.in-Some.texts.now) in
    let is : is_some (text_list_of (view c.in-Some.texts.now)) ≡ true = search rules in
    sym (ap (λ es. is_some (each_of about_of (map seen es))) c.in-Some.ensures.steps ∙ lists_more e c.next.new.self
    ∙ ap (λ b. b && is_some (each_of about_of (map seen c.next.new.self))) is)
    ∙ c.loop-texts.invariant

pub returns-then-not-is_text_list : goal.returns-then-not-is_text_list
returns-then-not-is_text_list c =
    let e : String Global × Value = (c.in-Some.field-0-0.now, c.in-Some.texts.now) in
    let is : is_some (text_list_of (view c.in-Some.texts.now)) ≡ false = search rules in
    sym (ap (λ es. is_some (each_of about_of (map seen es))) c.in-Some.ensures.steps ∙ lists_more e c.next.new.self
    ∙ ap (λ b. b && is_some (each_of about_of (map seen c.next.new.self))) is)
    ∙ c.loop-texts.invariant
