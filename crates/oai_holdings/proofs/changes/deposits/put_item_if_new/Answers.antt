-- An item that is put and not one too many leaves no more entries than items may be.
use Rattle.std.proofs.Common.{◌≡◌, FitsSigned, length, refl, w64}
use Rattle.std.proofs.lemmas.Int.{to_z-of_z}
use Rattle.std.specs.Option.{option_copied, unwrap_or}
use Rattle.oai_holdings.specs.Entries.{count_with, stamp_in}
use Rattle.oai_holdings.proofs.ChangeLemmas.{stamp_fits}
use Rattle.oai_holdings.proofs.KeptLemmas.{few_put}
use Rattle.oai_holdings.proofs.PutLemmas.{told_known, told_new}
use Rattle.oai_holdings.proofs.changes.deposits.put_item_if_new.Goals as goal

pub returns-clause-few : goal.returns-clause-few
returns-clause-few g c = λ few.
    let config = c.args.context.now.config.now in
    let identifier = c.args.item.now.identifier in
    let entries = c.args.index.now.entries in
    let found : option_copied c.as_ref.result ≡ c.in_ok-found.found = c.as_ref.ensures.value in
    let there = rw (c.as_str-identifier.ensures.text, c.identifier.ensures) at c.in_ok-found.ensures.there in
    let room = rw (found, c.len.ensures) at (c.item_refusal.ensures.room c.in-None.is) in
    rw c.in_ok-put_known.ensures.many
    (few_put config c.in_ok-found.found (stamp_in identifier entries) (length entries) (count_with (stamp_in identifier entries) (length entries)) there room refl few)

pub returns-then-is_held_so-clause-told : goal.returns-then-is_held_so-clause-told
returns-then-is_held_so-clause-told g c =
    let identifier = c.args.item.now.identifier in
    let known : c.stamp_of-known.result ≡ stamp_in identifier c.args.index.now.entries = rw (c.as_str-identifier.ensures.text, c.identifier.ensures) at c.stamp_of-known.ensures.stamp in
    let its = told_known c.args.item.now.stamp identifier c.args.index.now.entries c.stamp_of-known.result known c.stamp_of-known.ensures.in_range c.stamp.ensures.in_range in
    let fits_own : FitsSigned w64 c.stamp.result = rw c.stamp.ensures.stamp (stamp_fits c.args.item.now.stamp c.stamp.ensures.in_range) in
    let value : c.unwrap_or.result ≡ unwrap_or c.stamp_of-known.result c.args.item.now.stamp = rw c.stamp.ensures.stamp at (simp to_z-of_z at c.unwrap_or.ensures) in
    let fits : FitsSigned w64 c.unwrap_or.result = rw value (stamp_fits (unwrap_or c.stamp_of-known.result c.args.item.now.stamp) its.1) in
    simp to_z-of_z (rw value its)

pub returns-clause-told : goal.returns-clause-told
returns-clause-told g c =
    let its = told_new c.args.item.now.stamp c.args.item.now.identifier c.args.index.now.entries c.put_known.new.self.entries c.in_ok-put_known.ensures.stamped c.stamp-2.ensures.in_range in
    let fits : FitsSigned w64 c.stamp-2.result = rw c.stamp-2.ensures.stamp (stamp_fits c.args.item.now.stamp c.stamp-2.ensures.in_range) in
    simp to_z-of_z (rw c.stamp-2.ensures.stamp its)
