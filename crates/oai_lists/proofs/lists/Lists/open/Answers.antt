use Rattle.std.proofs.Common.{rules, ◌≡◌, ◌≢◌, ◌∙◌, ◌+◌, ◌++◌, ◌∷◌, [], ℕ, ℤ, FitsSigned, Fits, List, ap, arith, subst, sym, w64}
use Rattle.std.specs.Int.{int_min}
use Rattle.std.proofs.lemmas.Int.{to_z-of_z}
use Rattle.oai_lists.specs.HeldTable.{IsHeldTable}
use Rattle.oai_lists.specs.OpenLists.{Table, opened_list, with_opened}
use Rattle.oai_lists.specs.declared.open_lists.NewList.{NewList}
use Rattle.oai_lists.specs.declared.open_lists.OpenList.{OpenList}
use Rattle.oai_lists.specs.declared.lists.TheConstants.{LAST_NUMBER}
use Rattle.oai_lists.proofs.Ends.{held_push, opening_free, opening_refused}
use Rattle.oai_lists.proofs.lists.Lists.open.Goals as goal

pub returns-in-Err-clause-opened : goal.returns-in-Err-clause-opened
returns-in-Err-clause-opened c =
    let fits : FitsSigned w64 c.args.now = c.ranges.now in
    opening_refused c.args.self.now c.args.now (opened_list c.args.self.now.next c.args.list) c.in-Err.fault (simp to_z-of_z at c.in-Err.ensures)

pub overflow_add-self : goal.overflow_add-self
overflow_add-self c =
    let fits : FitsSigned w64 c.args.now = c.ranges.now in
    let free = opening_free c.args.self.now c.args.now c.in-Ok.number (simp to_z-of_z at c.in-Ok.ensures) in
    let last : c.in-Ok.number ≢ LAST_NUMBER = λ e. free.2 (sym free.1 ∙ e) in
    let small : Fits w64 c.in-Ok.number = search rules in
    record { fits = omega (arith, small.fits, last) }

pub invariant_of-self-2 : goal.invariant_of-self-2
invariant_of-self-2 c =
    let fits : FitsSigned w64 c.args.now = c.ranges.now in
    let fits_old : FitsSigned w64 c.self.inside.earliest = search rules in
    let fits_new : FitsSigned w64 c.min-self-inside.result = record { sfits = c.min-self-inside.type_inv } in
    let free = opening_free c.args.self.now c.args.now c.in-Ok.number (simp to_z-of_z at c.in-Ok.ensures) in
    let fits_end : FitsSigned w64 c.args.list.end = search rules in
    let given : NewList = c.args.list in
    let items : List OpenList = c.self.inside.lists.items in
    let list : OpenList = opened_list c.in-Ok.number given in
    let same : c.in-Ok.number ≡ c.self.inside.next = free.1 ∙ sym (ap (λ (t : Table). t.next) c.self.view_is) in
    let pushed : c.push.new.self.items ≡ items ++ list ∷ [] = c.in-Ok-push.ensures.items ∙ ap (λ (l : OpenList). items ++ l ∷ []) c.opened_list.ensures in
    let bound : c.min-self-inside.result ≡ int_min c.self.inside.earliest c.args.list.end = simp to_z-of_z at c.min-self-inside.ensures.value in
    let table : Table = record { limit = c.self.inside.limit; next = c.self.inside.next; lists = items } in
    let held = held_push table c.self.inside.earliest list c.self.invariant same in
    simp to_z-of_z
    (subst (λ (e : ℤ). IsHeldTable (record { limit = c.self.inside.limit; next = c.in-Ok.number + 1; lists = c.push.new.self.items }) e) (sym bound)
    (subst (λ (lists : List OpenList). IsHeldTable (record { limit = c.self.inside.limit; next = c.in-Ok.number + 1; lists = lists }) (int_min c.self.inside.earliest c.args.list.end)) (sym pushed)
    (subst (λ (n : ℕ). IsHeldTable (record { limit = c.self.inside.limit; next = n + 1; lists = items ++ list ∷ [] }) (int_min c.self.inside.earliest c.args.list.end)) (sym same) held)))

pub returns-clause-opened : goal.returns-clause-opened
returns-clause-opened c =
    let fits : FitsSigned w64 c.args.now = c.ranges.now in
    let free = opening_free c.args.self.now c.args.now c.in-Ok.number (simp to_z-of_z at c.in-Ok.ensures) in
    let fits_end : FitsSigned w64 c.args.list.end = search rules in
    let given : NewList = c.args.list in
    let items : List OpenList = c.self.inside.lists.items in
    let same : c.in-Ok.number ≡ c.self.inside.next = free.1 ∙ sym (ap (λ (t : Table). t.next) c.self.view_is) in
    let named : ℕ → OpenList = λ n. opened_list n given in
    let pushed : c.push.new.self.items ≡ items ++ named c.in-Ok.number ∷ [] = c.in-Ok-push.ensures.items ∙ ap (λ (l : OpenList). items ++ l ∷ []) c.opened_list.ensures in (
      free.0,
      free.1,
      ap (λ (lists : List OpenList). record { limit = c.self.inside.limit; next = c.in-Ok.number + 1; lists = lists }) pushed
          ∙ ap (λ (n : ℕ). record { limit = c.self.inside.limit; next = n + 1; lists = items ++ named n ∷ [] }) same
          ∙ ap (λ (t : Table). with_opened t (named t.next)) c.self.view_is,
    )
