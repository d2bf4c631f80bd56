-- The pieces in their order; the digest is over the head that was just written.
use Rattle.std.proofs.Common.{◌≡◌, ℕ, List, ◌++◌, length, drop, sym, ◌∙◌, ap, append_assoc, arith}
use Rattle.std.proofs.lemmas.List.{drop_at, length-append}
use Rattle.sqlite_disk.specs.Digest.{digest}
use Rattle.oai_journal.specs.Frames as spec
use Rattle.oai_journal.specs.Heads.{fields_of_head, head_front, plain}
use Rattle.oai_journal.specs.Records.{Entry, as_entry}
use Rattle.oai_journal.proofs.FitLemmas.{within_parts}
use Rattle.oai_journal.proofs.frames.write_front.Goals as goal

-- a buffer gained a piece
record Adds (old new piece : List ℕ) : Type 0 where
  is : new ≡ old ++ piece

infixl 10 ◌⨾◌
◌⨾◌ : {a b c p q : List ℕ} → Adds a b p → Adds b c q → Adds a c (p ++ q)
◌⨾◌ {a} {b} {c} {p} {q} first second = record { is = second.is ∙ ap (λ (xs : List ℕ). xs ++ q) first.is ∙ append_assoc a p q }

pub write_head-requires-clause-name : goal.write_head-requires-clause-name
write_head-requires-clause-name c =
    let same : length c.head_of.result.name.now ≡ length c.args.entry.now.name.now = ap (λ h. length h.name) c.head_of.ensures in
    omega (arith, same, (within_parts _ _ _ c.requires.fit).short)

-- what was written behind the buffer is the head
behind : (old new piece : List ℕ) (at : ℕ) → new ≡ old ++ piece → at ≡ length old → drop at new ≡ piece
behind old new piece at is place = ap (drop at) is ∙ drop_at old piece at (sym place)

pub write_digest-requires-clause-within : goal.write_digest-requires-clause-within
write_digest-requires-clause-within c =
    omega (arith, c.len-start.ensures, c.args.out.now.ok.0, ap length c.write_head.ensures.items, length-append c.args.out.now.items (head_front (fields_of_head c.head_of.result)))

pub returns-clause-digest : goal.returns-clause-digest
unfolding spec.next_digest
returns-clause-digest c =
    let e : Entry = as_entry c.args.entry.now in
    let head : c.write_head.new.out.items ≡ c.args.out.now.items ++ head_front (spec.head_of e) = c.write_head.ensures.items ∙ ap (λ h. c.args.out.now.items ++ head_front h) c.head_of.ensures in
    let place : c.len-start.result ≡ length c.args.out.now.items = omega (arith, c.len-start.ensures, c.args.out.now.ok.0) in
    let same = behind c.args.out.now.items c.write_head.new.out.items (head_front (spec.head_of e)) c.len-start.result head place in
    c.write_digest.ensures.returned ∙ ap (λ (l : List ℕ). digest c.args.before (l ++ e.body)) same

pub returns-clause-items : goal.returns-clause-items
unfolding spec.frame_front spec.next_digest plain
returns-clause-items c =
    let e : Entry = as_entry c.args.entry.now in
    let head : c.write_head.new.out.items ≡ c.args.out.now.items ++ head_front (spec.head_of e) = c.write_head.ensures.items ∙ ap (λ h. c.args.out.now.items ++ head_front h) c.head_of.ensures in
    let place : c.len-start.result ≡ length c.args.out.now.items = omega (arith, c.len-start.ensures, c.args.out.now.ok.0) in
    let same = behind c.args.out.now.items c.write_head.new.out.items (head_front (spec.head_of e)) c.len-start.result head place in
    let text : List ℕ = spec.digest_text (digest c.args.before (drop c.len-start.result c.write_head.new.out.items ++ e.body)) in
    let all = record { is = head } ⨾ record { is = c.write_digest.ensures.items ∙ append_assoc c.write_head.new.out.items text spec.plain_line_end } in
    all.is ∙ ap (λ (l : List ℕ). c.args.out.now.items ++ (head_front (spec.head_of e) ++ (spec.digest_text (digest c.args.before (l ++ e.body)) ++ spec.plain_line_end))) same
    ∙ ap (λ (l : List ℕ). c.args.out.now.items ++ l) (sym (append_assoc (head_front (spec.head_of e)) (spec.digest_text (spec.next_digest c.args.before e)) spec.plain_line_end))
