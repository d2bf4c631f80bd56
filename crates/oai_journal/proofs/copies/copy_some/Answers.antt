-- Of the records behind the tail one more was copied, or none is left.
use Rattle.std.proofs.Common.{rules, ◌≡◌, ◌∙◌, ◌∷◌, ◌++◌, ◌+◌, ◌≤◌, [], ℕ, List, true, false, length, take, subst, sym, ap, arith, append_assoc}
use Rattle.std.proofs.lemmas.Bool.{false≢true}
use Rattle.std.proofs.lemmas.List.{length-append}
use Rattle.std.specs.Option.{is_some}
use Rattle.oai_journal.specs.Copies.{AreCopied, IsCopied}
use Rattle.oai_journal.specs.Records.{Entry}
use Rattle.oai_journal.proofs.copies.copy_some.Goals as goal

more_copied : (Stood Held Stands Holds : List Entry → Type 0) (read behind others : List Entry) (before after : ℕ) (a : AreCopied Stood Held read behind others before true)
    → IsCopied Stands Holds (read ++ a.some) a.rest (others ++ a.some) → AreCopied Stands Holds read behind others after true
more_copied Stood Held Stands Holds read behind others before after a c =
    let cut : length behind ≡ length a.some + length a.rest = ap length a.are ∙ length-append a.some a.rest in
    record {
      some = a.some ++ c.entry ∷ [];
      rest = c.rest;
      are = a.are ∙ ap (λ (l : List Entry). a.some ++ l) c.is ∙ sym (append_assoc a.some (c.entry ∷ []) c.rest);
      stand = subst Stands (append_assoc read a.some (c.entry ∷ [])) c.stands;
      hold = subst Holds (append_assoc others a.some (c.entry ∷ [])) c.holds;
      all = λ none. absurd (false≢true (sym none));
      fewer = λ more wanted. omega (arith, cut, ap length c.is);
    }

-- what is behind those that were copied
still_there : (durable read behind some rest : List Entry) → durable ≡ read ++ behind → behind ≡ some ++ rest → durable ≡ (read ++ some) ++ rest
still_there durable read behind some rest parts are = parts ∙ ap (λ (l : List Entry). read ++ l) are ∙ sym (append_assoc read some rest)

-- where none is left, all were copied
all_copied : (Stood Held Stands Holds : List Entry → Type 0) (read behind others : List Entry) (before bytes : ℕ) (a : AreCopied Stood Held read behind others before true)
    → a.rest ≡ [] → Stands (read ++ a.some) → Holds (others ++ a.some) → AreCopied Stands Holds read behind others bytes false
all_copied Stood Held Stands Holds read behind others before bytes a none stands holds =
    record {
      some = a.some;
      rest = a.rest;
      are = a.are;
      stand = stands;
      hold = holds;
      all = λ _. none;
      fewer = λ more wanted. absurd (false≢true more);
    }

-- where the bytes were reached, at least one was copied
enough_copied : (Stands Holds : List Entry → Type 0) (read behind others : List Entry) (copied bytes : ℕ) → bytes ≤ copied → AreCopied Stands Holds read behind others copied true
    → AreCopied Stands Holds read behind others bytes true
enough_copied Stands Holds read behind others copied bytes enough a =
    record {
      some = a.some;
      rest = a.rest;
      are = a.are;
      stand = a.stand;
      hold = a.hold;
      all = a.all;
      fewer = λ more wanted. a.fewer more (omega (arith, enough, wanted));
    }

pub loop-copied-preserved : goal.loop-copied-preserved
loop-copied-preserved g c =
    let before = c.loop-copied.invariant in
    let s = c.in_ok-size.ensures in (
      λ entries durable held. s.same entries durable (before.0 entries durable held),
      λ clean. before.1 (s.clean clean),
      λ clean entries durable read behind held parts stands others lasting holds.
          let a = before.2 (s.clean clean) entries durable read behind held parts stands others lasting holds in
          more_copied _ _ _ _ read behind others _ _ a
          (s.copied (ap is_some c.in-Some.is) clean entries durable (read ++ a.some) a.rest (before.0 entries durable held) (still_there (take durable entries) read behind a.some a.rest parts a.are) a.stand
          (others ++ a.some) lasting a.hold),
      λ others lasting holds.
          let k = before.3 others lasting holds in
          let more = s.grows (others ++ k.0) lasting k.1 in
          (k.0 ++ more.0, subst (λ (l : List Entry). g.K.Journal.holds c.copy_next.new.copy l lasting) (append_assoc others k.0 more.0) more.1),
    )

pub returns-in-None-clause-copied : goal.returns-in-None-clause-copied
returns-in-None-clause-copied g c clean entries durable read behind held parts stands others lasting holds =
    let before = c.loop-copied.invariant in
    let s = c.in_ok-size.ensures in
    let a = before.2 (s.clean clean) entries durable read behind held parts stands others lasting holds in
    let end = s.end c.in-None.is entries durable (read ++ a.some) a.rest (before.0 entries durable held) (still_there (take durable entries) read behind a.some a.rest parts a.are) a.stand in
    all_copied _ _ (g.J.Journal.stands c.copy_next.new.journal c.copy_next.new.tail) (λ (records : List Entry). g.K.Journal.holds c.copy_next.new.copy records lasting) read behind others _ c.args.bytes a
    end.0 end.1 (s.none c.in-None.is (others ++ a.some) lasting a.hold)

pub returns-clause-copied : goal.returns-clause-copied
returns-clause-copied g c clean entries durable read behind held parts stands others lasting holds =
    enough_copied _ _ read behind others _ c.args.bytes (search rules) (c.loop-copied.invariant.2 clean entries durable read behind held parts stands others lasting holds)
