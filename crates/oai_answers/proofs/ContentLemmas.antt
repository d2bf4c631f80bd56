-- The fields of a record are written one by one, as far as they are the record itself.
use Rattle.std.proofs.Common.{◌≡◌, ◌∙◌, ℕ, List, ◌∷◌, ◌++◌, sym, ap, append_assoc}
use Rattle.std.specs.List.{before_first, flat_map}
use Rattle.oai_item.specs.Elements.{is_nameless}
use Rattle.oai_item.specs.Walks.{IsAfterNamed}
use Rattle.oai_item.specs.declared.fields.Field.{Field}
use Rattle.oai_item.proofs.Contents.{named_before}
use Rattle.oai_answers.specs.Appends.{Appends}

-- one more field with a name was written
pub named_written : (write : Field → List ℕ) (a b all : List ℕ) (old new : List Field) (field : Field) → IsAfterNamed old field new → Appends a b (write field)
    → a ++ flat_map write (before_first is_nameless old) ≡ all → b ++ flat_map write (before_first is_nameless new) ≡ all
named_written write a b all old new field is one so =
    let taken : before_first is_nameless old ≡ field ∷ before_first is_nameless new = ap (before_first is_nameless) is.taken ∙ named_before field new is.named in
    ap (λ (w : List ℕ). w ++ flat_map write (before_first is_nameless new)) one.is ∙ append_assoc a (write field) (flat_map write (before_first is_nameless new))
    ∙ ap (λ (fs : List Field). a ++ flat_map write fs) (sym taken) ∙ so
