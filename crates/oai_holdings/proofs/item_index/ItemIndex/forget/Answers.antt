-- Without an entry of the map nothing is indexed under its key.
use Rattle.std.proofs.Common.{◌≡◌, ◌∙◌, ◌≤◌, ◌+◌, ℕ, Bool, true, false, cond, None, is_some, length, sym, ap, subst, arith}
use Rattle.oai_holdings.specs.Index.{ItemIndex}
use Rattle.oai_holdings.specs.Entries.{SetsStamp, stamp_in, entries_in}
use Rattle.oai_holdings.proofs.IndexLemmas.{dated_set, many_view, noted_view, updates_noted}
use Rattle.oai_holdings.proofs.item_index.ItemIndex.forget.Goals as goal

pub invariant_of-self : goal.invariant_of-self
invariant_of-self c =
    dated_set c.args.identifier.now None (entries_in c.self.inside.stamps) (entries_in c.remove.new.self)
    (updates_noted c.self.inside.stamps c.remove.new.self c.args.identifier.now None c.remove.ensures.updates) tt c.self.invariant

pub returns-clause-entries : goal.returns-clause-entries
returns-clause-entries c =
    subst (λ (s : ItemIndex). SetsStamp c.args.identifier.now None s.entries (entries_in c.remove.new.self)) c.self.view_is (updates_noted c.self.inside.stamps c.remove.new.self c.args.identifier.now None c.remove.ensures.updates)

no_more : (gone : Bool) (new old noted all : ℕ) → new + cond gone 1 0 ≡ old → noted ≡ new → all ≡ old → noted ≤ all
no_more true new old noted all gone is was = omega (arith, gone, is, was)
no_more false new old noted all gone is was = omega (arith, gone, is, was)

pub returns-clause-fewer : goal.returns-clause-fewer
returns-clause-fewer c =
    let old = c.self.inside.stamps in
    let size : length c.args.self.now.entries ≡ length old.entries = ap (λ (s : ItemIndex). length s.entries) (sym c.self.view_is) ∙ many_view old in
    no_more (is_some c.remove.result) (length c.remove.new.self.entries) (length old.entries) (length (entries_in c.remove.new.self)) (length c.args.self.now.entries) c.remove.ensures.len (many_view c.remove.new.self) size

pub returns-clause-many : goal.returns-clause-many
returns-clause-many c = λ some.
    let old = c.self.inside.stamps in
    let here : stamp_in c.args.identifier.now c.args.self.now.entries ≡ c.remove.result = ap (λ (s : ItemIndex). stamp_in c.args.identifier.now s.entries) (sym c.self.view_is) ∙ noted_view old c.args.identifier.now ∙ sym c.remove.ensures.value in
    let was : is_some c.remove.result ≡ true = sym (ap is_some here) ∙ some in
    let size : length c.args.self.now.entries ≡ length old.entries = ap (λ (s : ItemIndex). length s.entries) (sym c.self.view_is) ∙ many_view old in
    let less = rw was at c.remove.ensures.len in
    omega (arith, size, many_view c.remove.new.self, less)
