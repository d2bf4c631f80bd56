use Rattle.std.proofs.Common.{◌∙◌, ◌<◌, ◌≤◌, length, sym, arith}
use Rattle.std.specs.Prelude.{codes}
use Rattle.std.proofs.lemmas.List.{nil_from_length}
use Rattle.oai_xml.proofs.Bare.{some_characters, single_character, begins_long, section_found, no_characters}
use Rattle.oai_xml.proofs.characters.characters.Goals as goal

pub returns-then-not-is_empty : goal.returns-then-not-is_empty
returns-then-not-is_empty c =
    let some : 0 < length c.split_at.result.0.now = grind (arith, c.is_empty.ensures, c.if-not-is_empty.true) in
    some_characters c.args.bytes.now c.split_at.result.0.now c.split_at.result.1.now c.args.out.now.items c.extend_from_slice.new.self.items c.bare_len.result
    c.bare_len.ensures.len c.split_at.ensures.front c.split_at.ensures.back some c.in_ok-extend_from_slice.ensures.items

pub overflow_sub-result : goal.overflow_sub-result
overflow_sub-result c =
    let long : 3 ≤ length c.args.bytes.now = begins_long (codes "]]>") c.args.bytes.now (sym c.begins.ensures ∙ c.if-begins.true) in omega (arith, long)

pub returns-then-begins : goal.returns-then-begins
returns-then-begins c = section_found c.args.bytes.now (sym c.begins.ensures ∙ c.if-begins.true)

pub returns : goal.returns
returns c =
    single_character c.args.bytes.now c.in-Some.tail.now c.args.out.now.items c.push_byte.new.out.items c.in-Some.b.now c.in-Some.ensures.cases.0
    (sym c.begins.ensures ∙ c.if-begins.false) c.in_ok-push_byte.ensures

pub returns-in_default : goal.returns-in_default
returns-in_default c = no_characters c.args.bytes.now (nil_from_length c.args.bytes.now c.in_default.ensures.cases)
