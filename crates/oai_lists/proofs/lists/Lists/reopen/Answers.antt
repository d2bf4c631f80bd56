-- The list stands behind the others, and its end is looked at with theirs.
use Rattle.std.proofs.Common.{rules, ◌≡◌, ◌∙◌, ◌++◌, ◌∷◌, [], true, ℤ, FitsSigned, List, ap, subst, sym, w64}
use Rattle.std.specs.Int.{int_min}
use Rattle.std.proofs.lemmas.Int.{to_z-of_z}
use Rattle.oai_lists.specs.HeldTable.{IsHeldTable}
use Rattle.oai_lists.specs.OpenLists.{Table, may_reopen}
use Rattle.oai_lists.specs.declared.open_lists.OpenList.{OpenList}
use Rattle.oai_lists.proofs.Ends.{held_reopened}
use Rattle.oai_lists.proofs.lists.Lists.reopen.Goals as goal

pub invariant_of-self-2 : goal.invariant_of-self-2
invariant_of-self-2 c =
    let fits_old : FitsSigned w64 c.self.inside.earliest = search rules in
    let fits_new : FitsSigned w64 c.min-self-inside.result = record { sfits = c.min-self-inside.type_inv } in
    let fits_end : FitsSigned w64 c.args.list.end = search rules in
    let inside = c.self.inside in
    let list : OpenList = c.args.list in
    let items : List OpenList = inside.lists.items in
    let table : Table = record { limit = inside.limit; next = inside.next; lists = items } in
    let pushed : c.push.new.self.items ≡ items ++ list ∷ [] = c.in-Ok.ensures.items in
    let bound : c.min-self-inside.result ≡ int_min inside.earliest list.end = simp to_z-of_z at c.min-self-inside.ensures.value in
    let may : may_reopen table list.number ≡ true =
    ap (λ (t : Table). may_reopen t list.number) c.self.view_is ∙ sym c.may_reopen.ensures ∙ c.if-not-may_reopen.false in
    let held = held_reopened table inside.earliest list c.self.invariant may in
    simp to_z-of_z
    (subst (λ (e : ℤ). IsHeldTable (record { limit = inside.limit; next = inside.next; lists = c.push.new.self.items }) e) (sym bound)
    (subst (λ (lists : List OpenList). IsHeldTable (record { limit = inside.limit; next = inside.next; lists = lists }) (int_min inside.earliest list.end)) (sym pushed) held))
