-- What was read of both versions decides what one lacks up to the next key.
use Rattle.std.proofs.Common.{◌≡◌, ◌∙◌, ◌+◌, ◌≤◌, IfSome, Some, subst, List, Option, length, option_map, take, ap, sym}
use Rattle.std.proofs.lemmas.Bool.{both_ways}
use Rattle.std.specs.Option.{option_copied}
use Rattle.oai_item.specs.Item.{ItemState}
use Rattle.oai_catalogue.specs.Store.{list_at}
use Rattle.oai_holdings.specs.Missing.{items_past, items_up_to, sort_key_of, left_after, missing_in}
use Rattle.oai_holdings.specs.MissingParts.{earlier_of, is_further, last_in_batch}
use Rattle.oai_holdings.specs.declared.differences.OwnedKey.{OwnedKey}
use Rattle.oai_holdings.proofs.BatchLemmas.{batch_read, damaged_reads, few_up_to, goes_past, is_next_further, next_of, read_ordered, up_to_ordered}
use Rattle.oai_holdings.proofs.differences.read_missing.Goals as goal

pub returns-then-not-is_further-clause-reads : goal.returns-then-not-is_further-clause-reads
returns-then-not-is_further-clause-reads g c =
    let V = g.V.Versions in
    let behind : Option OwnedKey = option_copied c.args.behind in
    let items : List ItemState = list_at (V.lists c.args.store.now) c.args.version in
    let others : List ItemState = list_at (V.lists c.args.store.now) c.args.other in
    let first = c.in_ok-items.ensures.reads in
    damaged_reads V c.in_ok-items.items c.in_ok-others.others c.args.store.now c.read_batch.new.store c.read_batch-2.new.store first c.in_ok-others.ensures.reads
    (λ honest.
    let others_read : c.in_ok-others.others ≡ take c.args.most (items_past behind others) =
    c.in_ok-others.ensures.batch (first.store.honesty.same ∙ honest) ∙ ap (λ lists. take c.args.most (items_past behind (list_at lists c.args.other))) first.same in
    let further = is_next_further c.args.most behind items others c.in_ok-items.items c.in_ok-others.others (c.in_ok-items.ensures.batch honest) others_read in
    let last : option_copied c.earlier-last.result ≡ earlier_of (last_in_batch c.args.most c.in_ok-items.items) (last_in_batch c.args.most c.in_ok-others.others) =
    rw (c.last_in_batch.ensures, c.last_in_batch-2.ensures, c.as_slice.ensures, c.as_slice-2.ensures) at c.earlier-last.ensures in
    both_ways (is_further (option_copied c.earlier-last.result) behind) (sym c.is_further.ensures ∙ c.if-not-is_further.true) (ap (λ (o : Option ItemState). is_further o behind) last ∙ further))

pub returns-clause-batch : goal.returns-clause-batch
returns-clause-batch g c honest =
    let V = g.V.Versions in
    let behind : Option OwnedKey = option_copied c.args.behind in
    let items : List ItemState = list_at (V.lists c.args.store.now) c.args.version in
    let others : List ItemState = list_at (V.lists c.args.store.now) c.args.other in
    let rising = g.met.V.Versions.rising c.args.store.now in
    let first = c.in_ok-items.ensures.reads in
    let read = c.in_ok-items.ensures.batch honest in
    let others_read : c.in_ok-others.others ≡ take c.args.most (items_past behind others) =
    c.in_ok-others.ensures.batch (first.store.honesty.same ∙ honest) ∙ ap (λ lists. take c.args.most (items_past behind (list_at lists c.args.other))) first.same in
    let last : option_copied c.earlier-last.result ≡ earlier_of (last_in_batch c.args.most c.in_ok-items.items) (last_in_batch c.args.most c.in_ok-others.others) =
    rw (c.last_in_batch.ensures, c.last_in_batch-2.ensures, c.as_slice.ensures, c.as_slice-2.ensures) at c.earlier-last.ensures in
    let next : c.in_ok-next.next ≡ next_of c.args.most c.in_ok-items.items c.in_ok-others.others = c.in_ok-next.ensures ∙ ap (option_map sort_key_of) last in
    let missing = rw (c.up_to-decided.ensures, c.as_slice-3.ensures) at c.in_ok-items-2.ensures.missing in
    missing (up_to_ordered c.in_ok-next.next c.in_ok-items.items (read_ordered c.args.most behind items c.in_ok-items.items (rising c.args.version) read))
    (read_ordered c.args.most behind others c.in_ok-others.others (rising c.args.other) others_read)
    ∙ ap (λ (o : Option OwnedKey). missing_in c.in_ok-others.others (items_up_to o c.in_ok-items.items)) next
    ∙ batch_read c.args.most behind items others c.in_ok-items.items c.in_ok-others.others c.requires.some (rising c.args.version) (rising c.args.other) read others_read
    ∙ ap (λ (o : Option OwnedKey). missing_in others (items_up_to o (items_past behind items))) (sym next)

pub returns-clause-past : goal.returns-clause-past
returns-clause-past g c honest =
    let V = g.V.Versions in
    let behind : Option OwnedKey = option_copied c.args.behind in
    let items : List ItemState = list_at (V.lists c.args.store.now) c.args.version in
    let others : List ItemState = list_at (V.lists c.args.store.now) c.args.other in
    let rising = g.met.V.Versions.rising c.args.store.now in
    let first = c.in_ok-items.ensures.reads in
    let others_read : c.in_ok-others.others ≡ take c.args.most (items_past behind others) =
    c.in_ok-others.ensures.batch (first.store.honesty.same ∙ honest) ∙ ap (λ lists. take c.args.most (items_past behind (list_at lists c.args.other))) first.same in
    let last : option_copied c.earlier-last.result ≡ earlier_of (last_in_batch c.args.most c.in_ok-items.items) (last_in_batch c.args.most c.in_ok-others.others) =
    rw (c.last_in_batch.ensures, c.last_in_batch-2.ensures, c.as_slice.ensures, c.as_slice-2.ensures) at c.earlier-last.ensures in
    let next : c.in_ok-next.next ≡ next_of c.args.most c.in_ok-items.items c.in_ok-others.others = c.in_ok-next.ensures ∙ ap (option_map sort_key_of) last in
    subst (λ (o : Option OwnedKey). IfSome o (λ next. left_after items others (Some next) + c.args.most ≤ left_after items others behind)) (sym next)
    (goes_past c.args.most behind items others c.in_ok-items.items c.in_ok-others.others (rising c.args.version) (rising c.args.other) (c.in_ok-items.ensures.batch honest) others_read)

pub returns-clause-few : goal.returns-clause-few
returns-clause-few g c =
    few_up_to c.in_ok-next.next c.in_ok-items.items (length c.in_ok-items-2.items) c.args.most c.in_ok-items.ensures.few (rw c.up_to-decided.ensures at c.in_ok-items-2.ensures.few)
