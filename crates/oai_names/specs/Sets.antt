-- Sets: their names, which of them lies within which, and the tree that they make. OAI-PMH 2.0, section 2.6.
use Rattle.std.specs.Prelude.{◌≡◌, ◌<◌, ◌≤◌, ℕ, Bool, true, false, nat_eq, ◌||◌, List, [], ◌∷◌, ◌++◌, ◌⊎◌, length, take, Option, None, Some, Result, Ok, Err, if◌then◌else◌}
use Rattle.std.specs.List.{list_all, list_any, slice_split, slice_get, starts_with, before_last}
use Rattle.std.specs.Str.{bytes_eq}
use Rattle.oai_names.specs.Names.{is_prefix, is_colon, is_name_of}
use Rattle.oai_names.specs.declared.limits.TheConstants.{MAX_SET_SPEC_BYTES, MAX_SETS}
use Rattle.oai_names.specs.declared.set_trees.SetFault.{SetFault}
use Rattle.oai_names.specs.declared.set_trees.SetFault.TheVariants.{Exists, NoParent, TooMany, NoMemory}

-- a setSpec is the colon-separated path from a root of the hierarchy (section 2.6): each part is of the characters of a
-- metadataPrefix, one or more
unfoldable pub is_set_spec : List ℕ → Bool
is_set_spec text = list_all is_prefix (slice_split is_colon text)

-- a text that a setSpec may be
abbrev pub may_be_set_spec : List ℕ → Bool
may_be_set_spec text = is_name_of is_set_spec MAX_SET_SPEC_BYTES text

-- the setSpec t lies in the set s: it is s, or s, a colon, and the rest of a path (sections 2.6 and 2.7.2)
abbrev pub Covers : List ℕ → List ℕ → Type 0
Covers s t = (t ≡ s) ⊎ ((rest : List ℕ) × (t ≡ s ++ 58 ∷ rest))

-- `Covers` as a test, for definitions that compute
unfoldable pub covers : List ℕ → List ℕ → Bool
covers s t = bytes_eq s t || starts_with nat_eq t (s ++ 58 ∷ [])

-- the setSpec of the parent: everything before the last colon. A set of one part is a root, and has no parent
unfoldable pub parent_of : List ℕ → Option (List ℕ)
parent_of spec = if list_any is_colon spec then Some (before_last is_colon spec) else None

-- one of the sets, each a setSpec and a setName, has this setSpec
abbrev pub has_set : List (List ℕ × List ℕ) → List ℕ → Bool
has_set sets spec = list_any (λ set. bytes_eq spec set.0) sets

-- there is no setSpec, or one of the sets has it
abbrev pub is_none_or_has : List (List ℕ × List ℕ) → Option (List ℕ) → Bool
is_none_or_has sets None = true
is_none_or_has sets (Some spec) = has_set sets spec

-- the parent of this set, unless it is a root, is one of the sets
abbrev pub has_parent : List (List ℕ × List ℕ) → List ℕ → Bool
has_parent sets spec = is_none_or_has sets (parent_of spec)

-- the sets of a repository in order of addition: the setSpecs are distinct, each set's parent stands before it, and
-- there are not too many
pub record IsSetTree (sets : List (List ℕ × List ℕ)) : Type 0 where
  pub distinct : (i : ℕ) (set : List ℕ × List ℕ)
      → slice_get sets i ≡ Some set → has_set (take i sets) set.0 ≡ false
  pub parents : (i : ℕ) (set : List ℕ × List ℕ)
      → slice_get sets i ≡ Some set → has_parent (take i sets) set.0 ≡ true
  pub few : length sets ≤ MAX_SETS

-- the law of the hierarchy: if a set's last part follows another setSpec and a colon, a set with that setSpec stands
-- before it
abbrev pub HasParentsBefore : List (List ℕ × List ℕ) → Type 0
HasParentsBefore sets = (i : ℕ) (parent last name : List ℕ)
    → slice_get sets i ≡ Some (parent ++ 58 ∷ last, name)
    → list_any is_colon last ≡ false → has_set (take i sets) parent ≡ true

-- and for every ancestor: if a set lies in another one, that one is a set too
abbrev pub HasSetsAbove : List (List ℕ × List ℕ) → Type 0
HasSetsAbove sets = (above spec : List ℕ) → has_set sets spec ≡ true → Covers above spec → has_set sets above ≡ true

-- the result of adding a set, and the sets afterwards: it is the last one; or the first cause that applies is returned,
-- and the sets are unchanged
abbrev pub IsAdding : List (List ℕ × List ℕ) → List ℕ → List ℕ
    → Result (Unit {0}) SetFault → List (List ℕ × List ℕ) → Type 0
IsAdding old spec name (Ok _) new =
    (has_set old spec ≡ false) × (has_parent old spec ≡ true) × (length old < MAX_SETS)
    × (new ≡ old ++ (spec, name) ∷ [])
IsAdding old spec name (Err Exists) new = (has_set old spec ≡ true) × (new ≡ old)
IsAdding old spec name (Err NoParent) new =
    (has_set old spec ≡ false) × (has_parent old spec ≡ false) × (new ≡ old)
IsAdding old spec name (Err TooMany) new =
    (has_set old spec ≡ false) × (has_parent old spec ≡ true) × (MAX_SETS ≤ length old)
    × (new ≡ old)
IsAdding old spec name (Err NoMemory) new =
    (has_set old spec ≡ false) × (has_parent old spec ≡ true) × (length old < MAX_SETS)
    × (new ≡ old)
