use Rattle.std.proofs.Common.{◌≡◌, ◌∙◌, ℕ, ◌-◌, List, length, ap, arith, rules, subst}
use Rattle.std.proofs.lemmas.Int.{to_z-of_z}
use Rattle.oai_journal.specs.Files.{IsFirstRecord}
use Rattle.oai_journal.specs.Frames.{next_digest}
use Rattle.oai_journal.specs.Groups.{IsMadeDurable}
use Rattle.oai_journal.specs.Kept.{IsAtEnd}
use Rattle.oai_journal.specs.Records.{Entry, as_entry}
use Rattle.oai_journal.proofs.KeptLemmas.{created}
use Rattle.oai_journal.proofs.file.FileJournal.create.Goals as goal

pub returns : goal.returns
returns g c =
    let first : Entry = as_entry c.args.first.now in
    let begins : IsFirstRecord first = record { fit = record { moment = search (rules, to_z-of_z); fit = c.requires.fit }; kind = c.requires.kind } in
    let bytes : List ℕ = c.in_ok-bytes.bytes.items in
    let written : IsMadeDurable g.D.Disk.seen g.D.Disk.may_leave 0 bytes c.open_len.new.disk c.write_synced.new.disk =
    subst (λ (l : List ℕ). IsMadeDurable g.D.Disk.seen g.D.Disk.may_leave 0 l c.open_len.new.disk c.write_synced.new.disk) c.deref.ensures.value c.in_ok-write_synced.ensures.written in
    let place : c.at_end.result.end ≡ length bytes - 1 = c.at_end.ensures.end_is ∙ ap (λ n. n - 1) (omega (arith, c.len.ensures, c.in_ok-bytes.bytes.ok.0)) in
    let e = c.at_end.ensures in
    let at_end : IsAtEnd c.at_end.result c.write_synced.new.disk (length bytes - 1) (next_digest 0 first) =
    record { disk_is = e.disk_is; end_is = place; digest_is = e.digest_is ∙ c.in_ok-bytes.ensures.digest; none = e.none; last_is = e.last_is } in
    created _ _ c.open_len.new.disk c.write_synced.new.disk c.at_end.result first bytes begins c.in_ok-bytes.ensures.bytes written at_end
