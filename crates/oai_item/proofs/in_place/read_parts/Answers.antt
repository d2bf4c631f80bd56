use Rattle.std.proofs.Common.{◌≡◌, ◌∙◌, ap, sym, arith, FitsSigned, w64, length, eqb, []}
use Rattle.std.proofs.lemmas.Bool.{eqb-true, false≢true}
use Rattle.std.proofs.lemmas.List.{nil_from_length}
use Rattle.std.proofs.lemmas.Int.{to_z-of_z}
use Rattle.oai_item.specs.Item.{ItemState}
use Rattle.oai_item.proofs.Numbers.{stamp_fits}
use Rattle.oai_item.proofs.Wholes.{AreRead, identifier_stands, live_stands, records_stand, same_item, sets_stand, stamp_stands, whole_read}
use Rattle.oai_item.proofs.in_place.read_parts.Goals as goal

-- where a part is not found, no item's parts are spelled

pub returns-in_err-live : goal.returns-in_err-live
returns-in_err-live c = rw c.from_residual.ensures (λ item s. c.in_err-live.ensures (live_stands c.args.bytes.now item s))

pub returns-in_err-stamp : goal.returns-in_err-stamp
returns-in_err-stamp c = rw c.from_residual-in_err-stamp.ensures (λ item s. c.in_err-stamp.ensures (stamp_stands c.args.bytes.now c.in_ok-live.rest.now c.in_ok-live.live c.in_ok-live.ensures.1 item s))

pub returns-in_err-identifier : goal.returns-in_err-identifier
returns-in_err-identifier c =
    rw c.from_residual-in_err-identifier.ensures (λ item s.
    c.in_err-identifier.ensures (identifier_stands c.args.bytes.now c.in_ok-live.rest.now c.in_ok-stamp.rest.now c.in_ok-live.live c.in_ok-stamp.stamp c.in_ok-live.ensures.1 c.in_ok-stamp.ensures item s))

pub returns-in_err-sets : goal.returns-in_err-sets
returns-in_err-sets c =
    rw c.from_residual-in_err-sets.ensures (λ item s.
    c.in_err-sets.ensures (sets_stand c.args.bytes.now c.in_ok-live.rest.now c.in_ok-stamp.rest.now c.in_ok-identifier.rest.now c.in_ok-live.live c.in_ok-stamp.stamp c.in_ok-identifier.identifier.now
    c.in_ok-live.ensures.1 c.in_ok-stamp.ensures c.in_ok-identifier.ensures.1 item s))

pub returns-in_err-records : goal.returns-in_err-records
returns-in_err-records c =
    rw c.from_residual-in_err-records.ensures (λ item s.
    c.in_err-records.ensures (records_stand c.args.bytes.now c.in_ok-live.rest.now c.in_ok-stamp.rest.now c.in_ok-identifier.rest.now c.in_ok-sets.rest.now c.in_ok-live.live c.in_ok-stamp.stamp c.in_ok-identifier.identifier.now c.in_ok-sets.sets
    c.in_ok-live.ensures.1 c.in_ok-stamp.ensures c.in_ok-identifier.ensures.1 c.in_ok-sets.ensures.1 item s))

pub returns-then-not-is_empty : goal.returns-then-not-is_empty
returns-then-not-is_empty c = λ item s.
    let made : ItemState = record { identifier = c.in_ok-identifier.identifier.now; stamp = c.in_ok-stamp.stamp; live = c.in_ok-live.live; sets = c.in_ok-sets.sets; formats = c.in_ok-records.records } in
    let read : AreRead c.args.bytes.now c.in_ok-live.rest.now c.in_ok-stamp.rest.now c.in_ok-identifier.rest.now c.in_ok-sets.rest.now c.in_ok-records.rest.now made = record {
      live = c.in_ok-live.ensures.1;
      stamp = c.in_ok-stamp.ensures;
      identifier = c.in_ok-identifier.ensures;
      sets = c.in_ok-sets.ensures;
      formats = c.in_ok-records.ensures;
    } in
    let same = same_item _ _ _ _ _ _ item made read s.few s.parts.stamped s.spelling in
    let none : length c.in_ok-records.rest.now ≡ 0 = sym (ap length same.1) in
    false≢true (sym c.if-not-is_empty.true ∙ c.is_empty.ensures ∙ ap (λ n. eqb n 0) none)

pub returns : goal.returns
returns c =
    let fits : FitsSigned w64 c.in_ok-stamp.stamp = stamp_fits c.in_ok-stamp.stamp c.in_ok-stamp.ensures.0 in
    let made : ItemState = record { identifier = c.in_ok-identifier.identifier.now; stamp = c.in_ok-stamp.stamp; live = c.in_ok-live.live; sets = c.in_ok-sets.sets; formats = c.in_ok-records.records } in
    let read : AreRead c.args.bytes.now c.in_ok-live.rest.now c.in_ok-stamp.rest.now c.in_ok-identifier.rest.now c.in_ok-sets.rest.now c.in_ok-records.rest.now made = record {
      live = c.in_ok-live.ensures.1;
      stamp = c.in_ok-stamp.ensures;
      identifier = c.in_ok-identifier.ensures;
      sets = c.in_ok-sets.ensures;
      formats = c.in_ok-records.ensures;
    } in
    let none : c.in_ok-records.rest.now ≡ [] = nil_from_length _ (eqb-true _ _ (sym c.is_empty.ensures ∙ c.if-not-is_empty.false)) in
    simp to_z-of_z (whole_read _ _ _ _ _ _ made (omega (arith, c.if-bytes-gt-MAX_ITEM_BYTES.false)) read none)
