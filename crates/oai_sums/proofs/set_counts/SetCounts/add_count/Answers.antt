use Rattle.std.proofs.Common.{◌≡◌, ◌∙◌, ◌+◌, ◌++◌, ◌∷◌, [], List, ℕ, if◌then◌else◌, ap, subst, sym, slice_set}
use Rattle.std.specs.Str.{bytes_eq}
use Rattle.oai_sums.specs.Sums.{IsFirstAt, SetTotal, counted_in, lacks}
use Rattle.oai_sums.proofs.CountLemmas.{counts_at, counts_new, on_some_map}
use Rattle.oai_sums.proofs.set_counts.SetCounts.add_count.Goals as goal

pub returns-in-Some : goal.returns-in-Some
returns-in-Some c =
    let set = c.args.set.now in
    let own : SetTotal = c.index_mut.result.now in
    let items : List SetTotal = c.self.inside.counts.items in
    let same : items ≡ c.args.self.now = c.self.view_is in
    let first : IsFirstAt set items c.in-Some.at = subst (λ (zs : List SetTotal). IsFirstAt set zs c.in-Some.at) (sym same) (subst (λ (s : List ℕ). IsFirstAt s c.args.self.now c.in-Some.at) c.as_str.ensures c.in-Some.ensures) in
    on_some_map (c.add.new.self ≡ record { set = own.set; count = own.count + c.args.more; span = own.span })
    ((q : List ℕ) → counted_in q (slice_set items c.in-Some.at c.add.new.self) ≡ counted_in q c.args.self.now + (if bytes_eq q set then c.args.more else 0)) c.add.result
    (λ more q. counts_at set q c.args.more own.span items c.in-Some.at own c.add.new.self first.within first.none c.index_mut.ensures.value
    (ap (λ (t : SetTotal). bytes_eq set t.set) c.index_mut.ensures.value ∙ first.own own) more
    ∙ ap (λ zs. counted_in q zs + (if bytes_eq q set then c.args.more else 0)) same)
    c.add.ensures

pub returns-in_ok-copy-in-None : goal.returns-in_ok-copy-in-None
returns-in_ok-copy-in-None c =
    let set = c.args.set.now in
    let totals : List SetTotal = c.args.self.now in
    on_some_map _ ((q : List ℕ) → counted_in q c.push.new.self ≡ counted_in q totals + (if bytes_eq q set then c.args.more else 0)) c.push.result
    (λ more q. ap (counted_in q) (more ∙ ap (λ s. totals ++ record { set = s; count = c.args.more; span = record { from = 0; to = 0 } } ∷ []) c.in_ok-copy-in-None.ensures)
    ∙ counts_new set q c.args.more (record { from = 0; to = 0 }) totals (ap (λ s. lacks s totals) (sym c.as_str.ensures) ∙ c.in-None.ensures))
    c.push.ensures
