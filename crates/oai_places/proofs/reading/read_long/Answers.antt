use Rattle.std.proofs.Common.{◌≡◌, ◌∙◌, ◌==◌, ◌-◌, ◌++◌, IsTrue, List, ℕ, [], ap, arith, drop, get_or, length, subst, sym, take, unwrap_or}
use Rattle.std.specs.List.{list_all}
use Rattle.std.proofs.lemmas.Bool.{false_from_ne_true}
use Rattle.std.proofs.lemmas.List.{take_rest}
use Rattle.oai_item.specs.Item.{ItemState}
use Rattle.oai_pool.specs.Names.{times}
use Rattle.oai_places.specs.Pages.{IsPage, items_in}
use Rattle.oai_places.specs.Places.{bytes_on}
use Rattle.oai_places.specs.declared.sizes.TheConstants.{FRONT_BYTES}
use Rattle.oai_places.proofs.HaveReadLemmas.{read_more, read_page}
use Rattle.oai_places.proofs.JoinedLemmas.{bytes_read, named_in_numbers, times-drop-le, zeros-take}
use Rattle.oai_places.proofs.PageLemmas.{items_in-page}
use Rattle.oai_places.proofs.ReadPlaces.{not_honest_from, reads_damaged}
use Rattle.oai_places.proofs.reading.read_long.Goals as goal

pub read-requires-clause-named : goal.read-requires-clause-named
read-requires-clause-named g c = c.requires.named (get_or c.args.numbers.now 0 0) (named_in_numbers 0 c.args.numbers.now (omega (arith, c.requires.long)))

pub returns-then-not-are_zeros-clause-pages : goal.returns-then-not-are_zeros-clause-pages
returns-then-not-are_zeros-clause-pages g c =
    let G = g.P.PagePool in
    let p = c.args.pages.now in
    let q = c.read.new.self in
    let numbers : List ℕ = c.args.numbers.now in
    reads_damaged G p q (read_page G c.read.result p q c.read.ensures.counts c.read.ensures.same c.read.ensures.pool)
    (not_honest_from (G.honest p) c.are_zeros.result
    (λ honest. c.are_zeros.ensures ∙ zeros-take 15776 (drop FRONT_BYTES c.deref.result.now)
    (ap (λ (page : List ℕ). list_all (λ byte. byte == 0) (drop FRONT_BYTES page)) (c.deref.ensures ∙ sym (ap (λ o. unwrap_or o []) (c.in-Ok.ensures.value honest))) ∙ c.requires.many.zeros c.requires.long))
    c.if-not-are_zeros.true)

pub read_overflow-requires : goal.read_overflow-requires
read_overflow-requires g c =
    let G = g.P.PagePool in
    let numbers : List ℕ = c.args.numbers.now in
    λ n named. rw c.read.ensures.counts (c.requires.named n (omega (arith, named, ap (times n) (take_rest numbers 1), times-drop-le n 1 numbers)))

pub returns-in-Ok-read-clause-items : goal.returns-in-Ok-read-clause-items
returns-in-Ok-read-clause-items g c =
    let G = g.P.PagePool in
    let p = c.args.pages.now in
    let q = c.read.new.self in
    let numbers : List ℕ = c.args.numbers.now in
    let bytes : IsTrue (G.honest p) → c.as_slice.result.now ≡ bytes_on (G.pages p) numbers =
    λ honest. c.as_slice.ensures.value
    ∙ bytes_read (G.pages p) (G.pages q) numbers c.deref.result.now c.extend_from_slice.new.self.items c.read_overflow.new.bytes.items (take (length numbers - 1) (drop 1 numbers)) c.requires.long c.read.ensures.same
    (ap (λ o. unwrap_or o []) (c.in-Ok.ensures.value honest) ∙ sym c.deref.ensures)
    (c.in_ok-extend_from_slice.ensures.items ∙ (λ i. c.in_ok-bytes.ensures.items i ++ take FRONT_BYTES ((c.deref-2.ensures ∙ sym c.deref.ensures) i)))
    (take_rest numbers 1) (c.in_ok-read_overflow.ensures.bytes (c.read.ensures.pool.honesty ∙ honest)) in
    λ honest. sym (items_in-page c.as_slice.result.now c.in-Ok-read.entries c.in-Ok-read.ensures) ∙ ap items_in (bytes honest)

pub returns-in-Err-Damaged-clause-pages : goal.returns-in-Err-Damaged-clause-pages
returns-in-Err-Damaged-clause-pages g c =
    let G = g.P.PagePool in
    let p = c.args.pages.now in
    let q = c.read.new.self in
    let numbers : List ℕ = c.args.numbers.now in
    let bytes : IsTrue (G.honest p) → c.as_slice.result.now ≡ bytes_on (G.pages p) numbers =
    λ honest. c.as_slice.ensures.value
    ∙ bytes_read (G.pages p) (G.pages q) numbers c.deref.result.now c.extend_from_slice.new.self.items c.read_overflow.new.bytes.items (take (length numbers - 1) (drop 1 numbers)) c.requires.long c.read.ensures.same
    (ap (λ o. unwrap_or o []) (c.in-Ok.ensures.value honest) ∙ sym c.deref.ensures)
    (c.in_ok-extend_from_slice.ensures.items ∙ (λ i. c.in_ok-bytes.ensures.items i ++ take FRONT_BYTES ((c.deref-2.ensures ∙ sym c.deref.ensures) i)))
    (take_rest numbers 1) (c.in_ok-read_overflow.ensures.bytes (c.read.ensures.pool.honesty ∙ honest)) in
    let r = c.read_overflow.new.pages in
    reads_damaged G p r
    (read_more G c.read_overflow.result p q r (read_page G c.read.result p q c.read.ensures.counts c.read.ensures.same c.read.ensures.pool) c.read_overflow.ensures.pages)
    (false_from_ne_true (G.honest p) (λ honest.
    let own : List ItemState = items_in (bytes_on (G.pages p) numbers) in
    let none = rw c.in-Err-Damaged.field-0-is at c.in-Err-Damaged.ensures in
    none own (subst (λ (bs : List ℕ). IsPage bs own) (sym (bytes honest)) c.requires.page)))
