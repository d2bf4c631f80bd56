use Rattle.std.proofs.Common.{◌∙◌, ℕ, Err, sym, ap}
use Rattle.std.proofs.lemmas.Bool.{ne_eqb}
use Rattle.std.proofs.lemmas.List.{nil_from_length}
use Rattle.oai_xml.proofs.Bare.{bare_piece}
use Rattle.oai_xml.proofs.ValueLemmas.{value_ends}
use Rattle.oai_xml.proofs.ValuePieces.{marked_piece, referred_piece, single_piece}
use Rattle.oai_xml.proofs.values.value_piece.Goals as goal

pub returns-then-not-is_empty-clause-leaves : goal.returns-then-not-is_empty-clause-leaves
returns-then-not-is_empty-clause-leaves c =
    bare_piece c.args.form c.args.quote c.args.bytes.now c.split_at.result.0.now c.split_at.result.1.now c.args.out.now.items c.extend_from_slice.new.self.items c.bare_len.result
    c.requires.quote c.bare_len.ensures.len c.split_at.ensures.front c.split_at.ensures.back c.in_ok-extend_from_slice.ensures.items

pub returns-in_default-clause-leaves : goal.returns-in_default-clause-leaves
returns-in_default-clause-leaves c = value_ends c.args.quote c.args.bytes.now (nil_from_length c.args.bytes.now c.in_default.ensures.cases)

pub returns-then-b-eq60-clause-leaves : goal.returns-then-b-eq60-clause-leaves
returns-then-b-eq60-clause-leaves c =
    λ steps enough. marked_piece c.args.quote c.args.bytes.now c.in-Some.tail.now c.in-Some.b.now c.requires.quote c.in-Some.ensures.cases.0 c.if-b-eq60.true steps enough
    ∙ ap (λ (n : ℕ). Err n) (sym c.fault_at.ensures)

pub returns-then-b-eq38-clause-leaves : goal.returns-then-b-eq38-clause-leaves
returns-then-b-eq38-clause-leaves c =
    referred_piece c.args.form c.args.quote c.args.bytes.now c.in-Some.tail.now c.args.out.now.items c.character.new.out.items c.in-Some.b.now c.character.result c.requires.quote
    c.in-Some.ensures.cases.0 c.if-b-eq38.true c.character.ensures.leaves c.character.ensures.shorter

pub returns-clause-leaves : goal.returns-clause-leaves
returns-clause-leaves c =
    single_piece c.args.form c.args.quote c.args.bytes.now c.in-Some.tail.now c.args.out.now.items c.push_byte.new.out.items c.in-Some.b.now c.in-Some.ensures.cases.0 c.requires.apart
    (ne_eqb c.in-Some.b.now 60 c.if-b-eq60.false) (ne_eqb c.in-Some.b.now 38 c.if-b-eq38.false) c.in_ok-push_byte.ensures
