use Rattle.std.proofs.Common.{◌≡◌, [], ℕ, List, Bor, map, true, refl, subst, rules}
use Rattle.json.specs.Lex.{tokens}
use Rattle.oai_item.specs.Item.{are_rising}
use Rattle.oai_deposit.specs.Lines.{are_records_of}
use Rattle.oai_deposit.specs.Tokens.{IsDepositBefore}
use Rattle.oai_deposit.proofs.TokenLemmas.{is_deposit_line}
use Rattle.oai_deposit.proofs.tokens.read_deposit.Goals as goal

pub returns-clause-line : goal.returns-clause-line
returns-clause-line c =
    let line = c.args.line.now in
    let identifier = c.in_ok-texts.texts.identifier.now in
    let sets = map (λ (set : Bor (List ℕ)). set.now) c.in_ok-texts.texts.sets.items in
    let records = c.in_ok-texts.texts.records in
    let rise : are_rising records ≡ true = search rules in
    let formed : are_records_of c.args.forms records ≡ true = search rules in
    let none : c.take_deposit.new.reader ≡ [] = search rules in
    let taken : IsDepositBefore identifier sets records c.take_deposit.new.reader (tokens line) = search rules in
    is_deposit_line c.args.forms line line identifier sets records refl c.requires rise formed
    (subst (λ ts. IsDepositBefore identifier sets records ts (tokens line)) none taken)
