use Rattle.std.proofs.Common.{◌≡◌, ◌∙◌, ℕ, List, Some, take, drop, subst, sym, ap, IfSome}
use Rattle.std.specs.Option.{option_map}
use Rattle.oai_journal.specs.Recoveries.{Checks, IsHeadOf, IsHeadRead, IsLenAt}
use Rattle.oai_journal.proofs.ReadingLemmas.{finds, heads_part}
use Rattle.oai_journal.proofs.readings.read_frame.Goals as goal

pub returns-in_ok-read-in-Some-clause-found : goal.returns-in_ok-read-in-Some-clause-found
returns-in_ok-read-in-Some-clause-found g c clean block size =
    let rest : List ℕ = drop c.args.place.at (g.D.Disk.seen c.args.reader.now.disk) in
    let len : ℕ = c.in-Some.head.len in
    let found : IsLenAt rest (Some len) =
    subst (λ x. IsLenAt rest (option_map (λ h. h.len) x)) c.in-Some.is (c.in_ok-read_head.ensures.found (c.in_ok-read-in-Some.ensures.clean clean) block size) in
    let its = subst (λ x. IfSome x (λ head. IsHeadRead (g.D.Disk.is_clean c.read_head.new.reader.disk) g.D.Disk.seen c.args.reader.now c.args.len c.args.place.at head c.read_head.new.out)) c.in-Some.is c.in_ok-read_head.ensures.head in
    let read : c.read.new.bytes.items ≡ take len rest =
    c.in_ok-read-in-Some.ensures.read clean (c.in_ok-read_head.ensures.block (c.in_ok-read-in-Some.ensures.clean clean) block) ∙ ap (λ (l : List ℕ). take len (drop c.args.place.at l)) c.in_ok-read_head.ensures.seen in
    let heads : IsHeadOf its.fields c.deref.result.now =
    subst (IsHeadOf its.fields) (sym (c.deref.ensures.value ∙ read)) (heads_part len rest its.fields (its.begins (c.in_ok-read-in-Some.ensures.clean clean) block size)) in
    let checked : Checks c.args.place.first c.args.place.before c.read.new.bytes.items c.check_frame.result =
    subst (λ (l : List ℕ). Checks c.args.place.first c.args.place.before l c.check_frame.result) c.deref.ensures.value (c.check_frame.ensures.checked its.fields its.is heads) in
    finds c.args.place.first c.args.place.before len rest c.read.new.bytes.items c.check_frame.result found read checked
