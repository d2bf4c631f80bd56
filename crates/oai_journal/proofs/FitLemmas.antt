-- What a frame can hold.
use Rattle.std.proofs.Common.{◌≡◌, ◌≤◌, ℕ, List, ◌&&◌, nat_le, true, length, arith}
use Rattle.std.specs.List.{list_all}
use Rattle.std.proofs.lemmas.Bool.{and_parts, leb-true}
use Rattle.oai_journal.specs.Heads.{CanBeSpelled}
use Rattle.oai_journal.specs.Frames.{head_of}
use Rattle.oai_journal.specs.Records.{Entry, IsFit, is_within, is_visible_ascii, most_bytes}
use Rattle.oai_journal.specs.declared.records.Kind.{Kind}
use Rattle.oai_journal.specs.declared.records.Kind.TheVariants.{Journal, Oai, Deposit, Tick, Begin, Set, Item, List as OpenList, Gone}
use Rattle.oai_journal.specs.declared.records.TheConstants.{MAX_NAME, MAX_FIRST_BODY}

pub record FitParts (kind : Kind) (name : List ℕ) (size : ℕ) : Type 0 where
  pub seen : list_all is_visible_ascii name ≡ true
  pub short : length name ≤ MAX_NAME
  pub few : size ≤ most_bytes kind

pub within_parts : (kind : Kind) (name : List ℕ) (size : ℕ) → is_within kind name size ≡ true → FitParts kind name size
unfolding is_within
within_parts kind name size h =
    let q = and_parts (list_all is_visible_ascii name && nat_le (length name) MAX_NAME) (nat_le size (most_bytes kind)) h in
    let p = and_parts (list_all is_visible_ascii name) (nat_le (length name) MAX_NAME) q.0 in
    record { seen = p.0; short = leb-true _ _ p.1; few = leb-true _ _ q.1 }

pub most_is : (kind : Kind) → most_bytes kind ≤ MAX_FIRST_BODY
most_is Journal = omega arith
most_is Oai = omega arith
most_is Deposit = omega arith
most_is Tick = omega arith
most_is Begin = omega arith
most_is Set = omega arith
most_is Item = omega arith
most_is OpenList = omega arith
most_is Gone = omega arith

pub spellable : (e : Entry) → IsFit e → CanBeSpelled (head_of e)
spellable e is =
    let p = within_parts e.kind e.name (length e.body) is.fit in
    record { moment = is.moment; name = p.seen; short = p.short; size = omega (arith, p.few, most_is e.kind) }
