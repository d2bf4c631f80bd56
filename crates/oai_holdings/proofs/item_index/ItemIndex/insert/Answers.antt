-- An item of a new identifier is indexed and put; where it is not put, it is indexed no more.
use Rattle.std.proofs.Common.{◌≡◌, ◌∙◌, ◌+◌, ℕ, List, None, Some, IsTrue, length, rules, sym, ap, subst, FitsSigned, w64}
use Rattle.std.proofs.lemmas.Int.{to_z-of_z}
use Rattle.std.specs.BTreeMap.{get_by_text}
use Rattle.std.specs.String.{string_bytes}
use Rattle.oai_item.specs.Items.{with_item}
use Rattle.oai_catalogue.specs.Store.{list_at}
use Rattle.oai_holdings.specs.Changes.{with_new}
use Rattle.oai_holdings.specs.Index.{IndexAgrees, ItemIndex, stored_items}
use Rattle.oai_holdings.specs.Entries.{AreDated, SetsStamp, IndexEntries, stamp_in, entries_in}
use Rattle.oai_holdings.proofs.IndexLemmas.{dated_set, many_view, noted_view, put_first, undone, updates_noted}
use Rattle.oai_holdings.proofs.item_index.ItemIndex.insert.Goals as goal

pub returns-in-Ok-clause-made : goal.returns-in-Ok-clause-made
returns-in-Ok-clause-made g c =
    let fits : FitsSigned w64 c.stamp.result = record { sfits = c.stamp.type_inv } in
    let item = c.args.item.now in
    let old = c.self.inside.stamps in
    let key : string_bytes c.in_ok-key.key ≡ item.identifier = c.in_ok-key.ensures.ok ∙ c.as_str-identifier.ensures.text ∙ c.identifier.ensures in
    let put : SetsStamp (string_bytes c.in_ok-key.key) (Some item.stamp) (entries_in old) (entries_in c.insert.new.self) =
    updates_noted old c.insert.new.self (string_bytes c.in_ok-key.key) (Some item.stamp) (rw c.stamp.ensures.stamp at (simp to_z-of_z at c.in_ok-insert.ensures.updates)) in
    let noting : SetsStamp item.identifier (Some item.stamp) (entries_in old) (entries_in c.insert.new.self) = subst (λ (t : List ℕ). SetsStamp t (Some item.stamp) (entries_in old) (entries_in c.insert.new.self)) key put in
    let index = c.args.self.now in
    let before = g.V.Versions.lists c.args.store.now in
    let after = g.V.Versions.lists c.put.new.self in
    let here : c.self.inside.version ≡ index.version = ap (λ (s : ItemIndex). s.version) c.self.view_is in
    let olds : entries_in old ≡ index.entries = ap (λ (s : ItemIndex). s.entries) c.self.view_is in
    let new : IndexEntries = entries_in c.insert.new.self in
    let none : get_by_text old (string_bytes c.in_ok-key.key) ≡ None = sym (noted_view old (string_bytes c.in_ok-key.key)) ∙ ap (λ (t : List ℕ). stamp_in t (entries_in old)) key ∙ ap (λ (xs : IndexEntries). stamp_in item.identifier xs) olds ∙ c.requires.first in
    let first : c.in_ok-insert.field-0 ≡ None = c.in_ok-insert.ensures.old ∙ none in
    let more : length new ≡ length index.entries + 1 =
    let len = rw first at c.in_ok-insert.ensures.len in
    many_view c.insert.new.self ∙ len ∙ ap (λ (n : ℕ). n + 1) (sym (many_view old) ∙ ap (λ (xs : IndexEntries). length xs) olds) in
    let both : IsTrue (g.V.Versions.honest c.args.store.now) → (list_at after c.self.inside.version ≡ with_new item (stored_items index before)) × IndexAgrees new (list_at after c.self.inside.version) =
    λ honest.
    let there : list_at after c.self.inside.version ≡ with_item item (stored_items index before) = c.in-Ok.ensures.list honest ∙ ap (λ (v : ℕ). with_item item (list_at before v)) here in
    put_first item index.entries new (stored_items index before) (list_at after c.self.inside.version) (c.requires.stands.agrees honest) c.requires.first (rw olds at noting) more there
    in
    record { list = λ honest. (both honest).0; agrees = λ honest. (both honest).1 }

pub returns-in-Ok-clause-many : goal.returns-in-Ok-clause-many
returns-in-Ok-clause-many g c =
    let old = c.self.inside.stamps in
    let key : string_bytes c.in_ok-key.key ≡ c.args.item.now.identifier = c.in_ok-key.ensures.ok ∙ c.as_str-identifier.ensures.text ∙ c.identifier.ensures in
    let olds : entries_in old ≡ c.args.self.now.entries = ap (λ (s : ItemIndex). s.entries) c.self.view_is in
    let none : get_by_text old (string_bytes c.in_ok-key.key) ≡ None =
    sym (noted_view old (string_bytes c.in_ok-key.key)) ∙ ap (λ (t : List ℕ). stamp_in t (entries_in old)) key ∙ ap (λ (xs : IndexEntries). stamp_in c.args.item.now.identifier xs) olds ∙ c.requires.first in
    let first : c.in_ok-insert.field-0 ≡ None = c.in_ok-insert.ensures.old ∙ none in
    let len = rw first at c.in_ok-insert.ensures.len in
    many_view c.insert.new.self ∙ len ∙ ap (λ (n : ℕ). n + 1) (sym (many_view old) ∙ ap (λ (xs : IndexEntries). length xs) olds)

pub returns-in-Ok-clause-stamped : goal.returns-in-Ok-clause-stamped
returns-in-Ok-clause-stamped g c =
    let fits : FitsSigned w64 c.stamp.result = record { sfits = c.stamp.type_inv } in
    let item = c.args.item.now in
    let old = c.self.inside.stamps in
    let key : string_bytes c.in_ok-key.key ≡ item.identifier = c.in_ok-key.ensures.ok ∙ c.as_str-identifier.ensures.text ∙ c.identifier.ensures in
    let put : SetsStamp (string_bytes c.in_ok-key.key) (Some item.stamp) (entries_in old) (entries_in c.insert.new.self) =
    updates_noted old c.insert.new.self (string_bytes c.in_ok-key.key) (Some item.stamp) (rw c.stamp.ensures.stamp at (simp to_z-of_z at c.in_ok-insert.ensures.updates)) in
    let noting : SetsStamp item.identifier (Some item.stamp) (entries_in old) (entries_in c.insert.new.self) = subst (λ (t : List ℕ). SetsStamp t (Some item.stamp) (entries_in old) (entries_in c.insert.new.self)) key put in
    subst (λ (s : ItemIndex). SetsStamp item.identifier (Some item.stamp) s.entries (entries_in c.insert.new.self)) c.self.view_is noting

pub returns-in-Err-clause-moves : goal.returns-in-Err-clause-moves
returns-in-Err-clause-moves g c =
    let olds : entries_in c.self.inside.stamps ≡ c.args.self.now.entries = ap (λ (s : ItemIndex). s.entries) c.self.view_is in
    let key : string_bytes c.in_ok-key.key ≡ c.args.item.now.identifier = c.in_ok-key.ensures.ok ∙ c.as_str-identifier.ensures.text ∙ c.identifier.ensures in
    let text : c.as_str-identifier.result.now ≡ c.args.item.now.identifier = c.as_str-identifier.ensures.text ∙ c.identifier.ensures in
    let none : stamp_in c.args.item.now.identifier (entries_in c.self.inside.stamps) ≡ None = ap (λ (xs : IndexEntries). stamp_in c.args.item.now.identifier xs) olds ∙ c.requires.first in
    let back : entries_in c.remove.new.self ≡ entries_in c.self.inside.stamps =
    undone c.self.inside.stamps c.insert.new.self c.remove.new.self c.in_ok-key.key c.args.item.now.identifier _ key none c.in_ok-insert.ensures.entries (rw text at c.remove.ensures.entries) in
    let same = ap (λ (xs : IndexEntries). index_of c.self.inside.version xs) back ∙ c.self.view_is in
    record { moved = search rules; err = same; err_lists = search rules }
  where
    index_of : ℕ → IndexEntries → ItemIndex
    index_of version entries = record { version = version; entries = entries }

pub invariant_of-self-in-Ok : goal.invariant_of-self-in-Ok
invariant_of-self-in-Ok g c =
    let fits : FitsSigned w64 c.stamp.result = record { sfits = c.stamp.type_inv } in
    let item = c.args.item.now in
    let old = c.self.inside.stamps in
    let key : string_bytes c.in_ok-key.key ≡ item.identifier = c.in_ok-key.ensures.ok ∙ c.as_str-identifier.ensures.text ∙ c.identifier.ensures in
    let put : SetsStamp (string_bytes c.in_ok-key.key) (Some item.stamp) (entries_in old) (entries_in c.insert.new.self) =
    updates_noted old c.insert.new.self (string_bytes c.in_ok-key.key) (Some item.stamp) (rw c.stamp.ensures.stamp at (simp to_z-of_z at c.in_ok-insert.ensures.updates)) in
    dated_set (string_bytes c.in_ok-key.key) (Some item.stamp) (entries_in old) (entries_in c.insert.new.self) put c.stamp.ensures.in_range c.self.invariant

pub invariant_of-self-in-Err : goal.invariant_of-self-in-Err
invariant_of-self-in-Err g c =
    let olds : entries_in c.self.inside.stamps ≡ c.args.self.now.entries = ap (λ (s : ItemIndex). s.entries) c.self.view_is in
    let key : string_bytes c.in_ok-key.key ≡ c.args.item.now.identifier = c.in_ok-key.ensures.ok ∙ c.as_str-identifier.ensures.text ∙ c.identifier.ensures in
    let text : c.as_str-identifier.result.now ≡ c.args.item.now.identifier = c.as_str-identifier.ensures.text ∙ c.identifier.ensures in
    let none : stamp_in c.args.item.now.identifier (entries_in c.self.inside.stamps) ≡ None = ap (λ (xs : IndexEntries). stamp_in c.args.item.now.identifier xs) olds ∙ c.requires.first in
    let back : entries_in c.remove.new.self ≡ entries_in c.self.inside.stamps =
    undone c.self.inside.stamps c.insert.new.self c.remove.new.self c.in_ok-key.key c.args.item.now.identifier _ key none c.in_ok-insert.ensures.entries (rw text at c.remove.ensures.entries) in
    subst (λ (xs : IndexEntries). AreDated xs) (sym back) c.self.invariant
