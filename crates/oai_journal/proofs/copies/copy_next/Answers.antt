-- The record that was read stands behind the others.
use Rattle.std.proofs.Common.{rules, ◌≡◌, ◌∙◌, ◌∷◌, ◌++◌, [], subst, sym, ap}
use Rattle.std.specs.Option.{option_map}
use Rattle.oai_journal.specs.Records.{Entry, as_entry}
use Rattle.oai_journal.proofs.FrameLemmas.{some_same}
use Rattle.oai_journal.proofs.copies.copy_next.Goals as goal

pub returns-in_ok-append_again-in-Some-clause-copied : goal.returns-in_ok-append_again-in-Some-clause-copied
returns-in_ok-append_again-in-Some-clause-copied g c some clean entries durable read behind held parts stands others lasting holds =
    let next = c.in_ok-read_next.ensures.next (search rules) clean entries durable read behind held parts stands in
    let same : as_entry c.in-Some.record ≡ next.entry = some_same _ _ (sym (ap (option_map as_entry) c.in-Some.is) ∙ c.record.ensures ∙ next.says) in
    record {
      entry = next.entry;
      rest = next.others;
      is = next.is;
      stands = next.stands;
      holds = subst (λ (e : Entry). g.K.Journal.holds c.append_again.new.copy (others ++ e ∷ []) lasting) same (c.in_ok-append_again-in-Some.ensures.appended others lasting holds);
    }
