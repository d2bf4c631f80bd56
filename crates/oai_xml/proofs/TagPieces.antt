-- Attributes and start tags, as the code reads them.
use Rattle.std.proofs.Common.{◌≡◌, ◌∙◌, ◌<◌, ◌≤◌, ℕ, suc, true, false, cond, List, [], ◌∷◌, ◌++◌, Ok, Err, length, map, drop, refl, sym, ap, subst, arith, append_assoc, append-nil}
use Rattle.std.specs.Prelude.{codes}
use Rattle.std.specs.List.{flat_map}
use Rattle.std.proofs.lemmas.Bool.{cond-true, cond-false}
use Rattle.std.proofs.lemmas.List.{drop_at, length-append}
use Rattle.oai_names.specs.Escapes.{escaped, escaped_attribute}
use Rattle.oai_xml.specs.Answers.{Goes, StopsIn, Stops, Tells}
use Rattle.oai_xml.specs.Readings.{◌>>=◌, read}
use Rattle.oai_xml.specs.Parts.{past_spaces, past_space, past_equals, qname_in}
use Rattle.oai_xml.specs.Tags.{Start, quoted_in, attribute_in, attributes_in, spaced_attribute_in, ends_tag, start_in}
use Rattle.oai_xml.specs.Trees.{Attribute, spelled_attribute, start_tag}
use Rattle.oai_xml.specs.Namespaces.{Declaration, Scope, declared, declaration_of, declared_prefix, is_declaring}
use Rattle.oai_xml.specs.Whole.{names_of, within, has_default, are_names_whole}
use Rattle.oai_xml.specs.Contents.{completion, completed, completed_start, closed_start, whole_start_in}
use Rattle.oai_xml.specs.declared.faults.ParseStop.{ParseStop}
use Rattle.oai_xml.specs.declared.faults.ParseStop.TheVariants.{At, NoMemory}
use Rattle.oai_xml.proofs.Goings.{goes_none, goes_then, goes_end, goes_wrong}
use Rattle.oai_xml.proofs.ValueLemmas.{cat, cat_joins}
use Rattle.oai_xml.proofs.AttributeLemmas.{attribute_goes, attribute_wrong, attributes_closed, tells_none, tells_then}

-- ---- attributes

-- what is read so far: these attributes, and what they leave
pub record AttributesSoFar (bytes rest : List ℕ) (names now_names : List (List ℕ)) (scope now_scope : Scope) (out now_out : List ℕ) (done : List Attribute) : Type 0 where
  pub goes : Goes cat attributes_in bytes rest done
  pub tells : Tells done names now_names scope now_scope out now_out

pub attributes_none : (bytes : List ℕ) (names : List (List ℕ)) (scope : Scope) (out : List ℕ) → AttributesSoFar bytes bytes names names scope scope out out []
attributes_none bytes names scope out = record { goes = goes_none cat [] (λ a. refl) attributes_in bytes; tells = tells_none names scope out }

pub attributes_more : (bytes rest behind : List ℕ) (n n1 n2 : List (List ℕ)) (s s1 s2 : Scope) (o o1 o2 : List ℕ) (done : List Attribute) (a : Attribute × List ℕ)
    → AttributesSoFar bytes rest n n1 s s1 o o1 done → ends_tag (past_spaces rest) ≡ false → length behind < length rest → spaced_attribute_in rest ≡ Ok a → behind ≡ a.1
    → Tells (a.0 ∷ []) n1 n2 s1 s2 o1 o2 → AttributesSoFar bytes behind n n2 s s2 o o2 (done ++ a.0 ∷ [])
attributes_more bytes rest behind n n1 n2 s s1 s2 o o1 o2 done a so apart shorter is at tells = record {
  goes = goes_then cat cat_joins attributes_in bytes rest behind done (a.0 ∷ []) so.goes
      (attribute_goes rest behind a.0 apart shorter (is ∙ ap (λ (w : List ℕ). Ok (a.0, w)) (sym at)));
  tells = tells_then done (a.0 ∷ []) n n1 n2 s s1 s2 o o1 o2 so.tells tells;
}

pub attributes_whole : (bytes rest next : List ℕ) (n n1 : List (List ℕ)) (s s1 : Scope) (o o1 : List ℕ) (done : List Attribute)
    → AttributesSoFar bytes rest n n1 s s1 o o1 done → next ≡ past_spaces rest → ends_tag next ≡ true
    → (a : List Attribute × List ℕ) × ((steps : ℕ) → length bytes < steps → attributes_in steps bytes ≡ Ok a) × ((next ≡ a.1) × Tells a.0 n n1 s s1 o o1)
attributes_whole bytes rest next n n1 s s1 o o1 done so at here = (
  (done ++ [], past_spaces rest),
  goes_end cat attributes_in bytes rest (past_spaces rest) done [] so.goes (attributes_closed rest (ap ends_tag (sym at) ∙ here)),
  (at, subst (λ w. Tells w n n1 s s1 o o1) (sym (append-nil done)) so.tells),
)

pub attributes_stop : (bytes rest : List ℕ) (n n1 : List (List ℕ)) (s s1 : Scope) (o o1 : List ℕ) (done : List Attribute) (stop : ParseStop)
    → AttributesSoFar bytes rest n n1 s s1 o o1 done → ends_tag (past_spaces rest) ≡ false → Stops (spaced_attribute_in rest) stop → StopsIn (λ steps. attributes_in steps bytes) bytes stop
attributes_stop bytes rest n n1 s s1 o o1 done (At fault) so apart wrong = goes_wrong cat attributes_in bytes rest done fault.left so.goes (attribute_wrong rest fault.left apart wrong)
attributes_stop bytes rest n n1 s s1 o o1 done NoMemory so apart wrong = tt

-- ---- what is added to a root

no_declaration : declared [] ≡ []
unfolding declared
no_declaration = refl

pub added_none : (names : List (List ℕ)) (scope : Scope) (out : List ℕ) → has_default scope ≡ true → Tells (completion scope) names names scope scope out out
unfolding completion
added_none names scope out is =
    subst (λ w. Tells w names names scope scope out out) (sym (cond-true (has_default scope) [] (record { name = codes "xmlns"; value = [] } ∷ []) is)) (tells_none names scope out)

one_added : (names : List (List ℕ)) (scope : Scope) (out : List ℕ)
    → Tells (record { name = codes "xmlns"; value = [] } ∷ []) names (names ++ codes "xmlns" ∷ []) scope (scope ++ record { prefix = []; namespace = [] } ∷ []) out (out ++ codes " xmlns=\"\"")
unfolding declared is_declaring spelled_attribute escaped
one_added names scope out = record { names_are = refl; scope_is = refl; out_is = refl }

pub added_one : (names new_names : List (List ℕ)) (scope new_scope : Scope) (out new_out : List ℕ) → has_default scope ≡ false → new_names ≡ names ++ codes "xmlns" ∷ []
    → new_scope ≡ scope ++ record { prefix = []; namespace = [] } ∷ [] → new_out ≡ out ++ codes " xmlns=\"\"" → Tells (completion scope) names new_names scope new_scope out new_out
unfolding completion
added_one names new_names scope new_scope out new_out is n s o =
    let t = one_added names scope out in
    subst (λ w. Tells w names new_names scope new_scope out new_out) (sym (cond-false (has_default scope) [] (record { name = codes "xmlns"; value = [] } ∷ []) is))
    (record { names_are = n ∙ t.names_are; scope_is = s ∙ t.scope_is; out_is = o ∙ t.out_is })

-- ---- start tags

-- what the parts of a start tag left: its name, its attributes, and what was added to them
pub record Started (scope : Scope) (bytes name behind rest : List ℕ) (attributes : List Attribute) (names : List (List ℕ)) (new_scope : Scope) (old new : List ℕ) : Type 0 where
  pub named : qname_in bytes ≡ Ok (name, behind)
  pub read_so : (steps : ℕ) → length behind < steps → attributes_in steps behind ≡ Ok (attributes, rest)
  pub tells : Tells (completed scope attributes) [] names scope new_scope (old ++ 60 ∷ name) new

start_of : (bytes name behind rest : List ℕ) (attributes : List Attribute) → qname_in bytes ≡ Ok (name, behind) → attributes_in (suc (length behind)) behind ≡ Ok (attributes, rest)
    → start_in bytes ≡ Ok (record { name = name; attributes = attributes }, rest)
unfolding start_in
start_of bytes name behind rest attributes named so =
    ap (λ r. r >>= λ n. attributes_in (suc (length n.1)) n.1 >>= λ a. read (record { name = n.0; attributes = a.0 }) a.1) named
    ∙ ap (λ r. r >>= λ a. read (record { name = name; attributes = a.0 }) a.1) so

closing : (scope : Scope) (bytes name rest : List ℕ) (attributes : List Attribute) → start_in bytes ≡ Ok (record { name = name; attributes = attributes }, rest)
    → whole_start_in scope bytes ≡ closed_start scope (record { name = name; attributes = completed scope attributes }) rest
unfolding whole_start_in completed_start
closing scope bytes name rest attributes is = ap (λ r. r >>= λ s. closed_start scope (completed_start scope s.0) s.1) is

closed_well : (scope : Scope) (s : Start) (rest : List ℕ) → are_names_whole (within scope s.attributes) (declared s.attributes) s.name (names_of s.attributes) ≡ true
    → closed_start scope s rest ≡ Ok (s, rest)
unfolding closed_start
closed_well scope s rest is = cond-true (are_names_whole (within scope s.attributes) (declared s.attributes) s.name (names_of s.attributes)) _ _ is

closed_ill : (scope : Scope) (s : Start) (rest : List ℕ) → are_names_whole (within scope s.attributes) (declared s.attributes) s.name (names_of s.attributes) ≡ false
    → closed_start scope s rest ≡ Err (length rest)
unfolding closed_start
closed_ill scope s rest is = cond-false (are_names_whole (within scope s.attributes) (declared s.attributes) s.name (names_of s.attributes)) _ _ is

-- what the code tests is what is asked of the tag
tested : (scope new_scope : Scope) (name : List ℕ) (names : List (List ℕ)) (attributes : List Attribute) (outer : ℕ) → outer ≡ length scope → new_scope ≡ within scope attributes
    → names ≡ names_of attributes → are_names_whole new_scope (drop outer new_scope) name names ≡ are_names_whole (within scope attributes) (declared attributes) name (names_of attributes)
tested scope new_scope name names attributes outer len is same =
    let back : drop outer new_scope ≡ declared attributes = ap (drop outer) is ∙ drop_at scope (declared attributes) outer (sym len) in
    ap (λ w. are_names_whole w (drop outer new_scope) name names) is ∙ ap (λ w. are_names_whole (within scope attributes) w name names) back
    ∙ ap (are_names_whole (within scope attributes) (declared attributes) name) same

tag_split : (name : List ℕ) (attributes : List Attribute) (old : List ℕ) → ((old ++ 60 ∷ name) ++ flat_map spelled_attribute attributes) ++ 62 ∷ [] ≡ old ++ start_tag name attributes
unfolding start_tag
tag_split name attributes old =
    append_assoc (old ++ 60 ∷ name) (flat_map spelled_attribute attributes) (62 ∷ []) ∙ append_assoc old (60 ∷ name) (flat_map spelled_attribute attributes ++ 62 ∷ [])

pub started_well : (scope : Scope) (bytes name behind rest : List ℕ) (attributes : List Attribute) (names : List (List ℕ)) (new_scope : Scope) (old new last : List ℕ) (outer : ℕ)
    → Started scope bytes name behind rest attributes names new_scope old new → outer ≡ length scope → are_names_whole new_scope (drop outer new_scope) name names ≡ true → last ≡ new ++ 62 ∷ []
    → (s : Start × List ℕ) × (whole_start_in scope bytes ≡ Ok s)
    × ((name ≡ s.0.name) × (rest ≡ s.1) × (new_scope ≡ within scope s.0.attributes) × (last ≡ old ++ start_tag s.0.name s.0.attributes))
started_well scope bytes name behind rest attributes names new_scope old new last outer so len whole grown =
    let all = completed scope attributes in
    let start : Start = record { name = name; attributes = all } in
    let is = sym (tested scope new_scope name names all outer len so.tells.scope_is so.tells.names_are) ∙ whole in (
      (start, rest),
      closing scope bytes name rest attributes (start_of bytes name behind rest attributes so.named (so.read_so (suc (length behind)) (omega arith))) ∙ closed_well scope start rest is,
      (refl, refl, so.tells.scope_is, grown ∙ ap (λ (w : List ℕ). w ++ 62 ∷ []) so.tells.out_is ∙ tag_split name all old),
    )

pub started_ill : (scope : Scope) (bytes name behind rest : List ℕ) (attributes : List Attribute) (names : List (List ℕ)) (new_scope : Scope) (old new : List ℕ) (outer : ℕ)
    → Started scope bytes name behind rest attributes names new_scope old new → outer ≡ length scope → are_names_whole new_scope (drop outer new_scope) name names ≡ false
    → whole_start_in scope bytes ≡ Err (length rest)
started_ill scope bytes name behind rest attributes names new_scope old new outer so len ill =
    let all = completed scope attributes in
    closing scope bytes name rest attributes (start_of bytes name behind rest attributes so.named (so.read_so (suc (length behind)) (omega arith)))
    ∙ closed_ill scope (record { name = name; attributes = all }) rest (sym (tested scope new_scope name names all outer len so.tells.scope_is so.tells.names_are) ∙ ill)

pub started : (scope scope1 scope2 : Scope) (bytes name behind rest old o1 o2 o3 o4 : List ℕ) (names1 names2 : List (List ℕ)) (a : List Attribute × List ℕ)
    → qname_in bytes ≡ Ok (name, behind) → ((steps : ℕ) → length behind < steps → attributes_in steps behind ≡ Ok a) → rest ≡ a.1
    → o1 ≡ old ++ 60 ∷ [] → o2 ≡ o1 ++ name → Tells a.0 [] names1 scope scope1 o2 o3 → Tells (completion scope1) names1 names2 scope1 scope2 o3 o4
    → Started scope bytes name behind rest a.0 names2 scope2 old o4
started scope scope1 scope2 bytes name behind rest old o1 o2 o3 o4 names1 names2 a is reading at one two tells more = record {
  named = is;
  read_so = λ steps enough. reading steps enough ∙ ap (λ (w : List ℕ). Ok (a.0, w)) (sym at);
  tells = subst (λ w. Tells (a.0 ++ completion w) [] names2 scope scope2 (old ++ 60 ∷ name) o4) tells.scope_is
      (subst (λ w. Tells (a.0 ++ completion scope1) [] names2 scope scope2 w o4) (two ∙ ap (λ (w : List ℕ). w ++ name) one ∙ append_assoc old (60 ∷ []) name)
      (tells_then a.0 (completion scope1) [] names1 names2 scope scope1 scope2 o2 o3 o4 tells more));
}

pub within_long : (scope new_scope : Scope) (names : List (List ℕ)) (attributes : List Attribute) (bytes name behind rest old new : List ℕ) (outer : ℕ)
    → Started scope bytes name behind rest attributes names new_scope old new → outer ≡ length scope → outer ≤ length new_scope
within_long scope new_scope names attributes bytes name behind rest old new outer so len =
    let long = ap length so.tells.scope_is in
    let parts = length-append scope (declared (completed scope attributes)) in omega (arith, long, parts, len)

-- ---- start tags that cannot be read

unstarted : (scope : Scope) (bytes : List ℕ) (left : ℕ) → start_in bytes ≡ Err left → whole_start_in scope bytes ≡ Err left
unfolding whole_start_in
unstarted scope bytes left is = ap (λ r. r >>= λ s. closed_start scope (completed_start scope s.0) s.1) is

unnamed : (bytes : List ℕ) (left : ℕ) → qname_in bytes ≡ Err left → start_in bytes ≡ Err left
unfolding start_in
unnamed bytes left is = ap (λ r. r >>= λ n. attributes_in (suc (length n.1)) n.1 >>= λ a. read (record { name = n.0; attributes = a.0 }) a.1) is

pub start_unnamed : (scope : Scope) (bytes : List ℕ) (left : ℕ) → qname_in bytes ≡ Err left → whole_start_in scope bytes ≡ Err left
start_unnamed scope bytes left is = unstarted scope bytes left (unnamed bytes left is)

unattributed : (bytes name behind : List ℕ) (left : ℕ) → qname_in bytes ≡ Ok (name, behind) → attributes_in (suc (length behind)) behind ≡ Err left → start_in bytes ≡ Err left
unfolding start_in
unattributed bytes name behind left is wrong =
    ap (λ r. r >>= λ n. attributes_in (suc (length n.1)) n.1 >>= λ a. read (record { name = n.0; attributes = a.0 }) a.1) is
    ∙ ap (λ r. r >>= λ a. read (record { name = name; attributes = a.0 }) a.1) wrong

pub start_stops : (scope : Scope) (bytes name behind : List ℕ) (stop : ParseStop) → qname_in bytes ≡ Ok (name, behind) → StopsIn (λ steps. attributes_in steps behind) behind stop
    → Stops (whole_start_in scope bytes) stop
start_stops scope bytes name behind (At fault) is wrong =
    unstarted scope bytes fault.left (unattributed bytes name behind fault.left is (wrong (suc (length behind)) (omega arith)))
start_stops scope bytes name behind NoMemory is wrong = tt

-- ---- one attribute

undeclared : (name value : List ℕ) → is_declaring name ≡ false → declared (record { name = name; value = value } ∷ []) ≡ []
unfolding declared
undeclared name value is = ap (λ t. map declaration_of (cond t (record { name = name; value = value } ∷ []) [])) is

declared_one : (name value : List ℕ) → is_declaring name ≡ true → declared (record { name = name; value = value } ∷ []) ≡ record { prefix = declared_prefix name; namespace = value } ∷ []
unfolding declared
declared_one name value is = ap (λ t. map declaration_of (cond t (record { name = name; value = value } ∷ []) [])) is

pub declares_none : (name value : List ℕ) (scope : Scope) → is_declaring name ≡ false → scope ≡ scope ++ declared (record { name = name; value = value } ∷ [])
declares_none name value scope is = sym (ap (λ w. scope ++ w) (undeclared name value is) ∙ append-nil scope)

pub declares_one : (name prefix value namespace : List ℕ) (scope new : Scope) → is_declaring name ≡ true → prefix ≡ declared_prefix name → namespace ≡ value
    → new ≡ scope ++ record { prefix = prefix; namespace = namespace } ∷ [] → new ≡ scope ++ declared (record { name = name; value = value } ∷ [])
declares_one name prefix value namespace scope new is same bound grown =
    let pair : Declaration → Scope = λ d. scope ++ d ∷ [] in
    grown ∙ ap (λ (w : List ℕ). pair (record { prefix = w; namespace = namespace })) same ∙ ap (λ (w : List ℕ). pair (record { prefix = declared_prefix name; namespace = w })) bound
    ∙ ap (λ w. scope ++ w) (sym (declared_one name value is))

pub spelled_so : (name value old o1 o2 o3 o4 o5 : List ℕ) → o1 ≡ old ++ 32 ∷ [] → o2 ≡ o1 ++ name → o3 ≡ o2 ++ 61 ∷ 34 ∷ [] → o4 ≡ o3 ++ escaped_attribute value → o5 ≡ o4 ++ 34 ∷ []
    → o5 ≡ old ++ spelled_attribute (record { name = name; value = value })
unfolding spelled_attribute
spelled_so name value old o1 o2 o3 o4 o5 one two three four five =
    five ∙ ap (λ (w : List ℕ). w ++ 34 ∷ []) (four ∙ ap (λ (w : List ℕ). w ++ escaped_attribute value) (three ∙ ap (λ (w : List ℕ). w ++ 61 ∷ 34 ∷ []) (two ∙ ap (λ (w : List ℕ). w ++ name) one)))
    ∙ append_assoc (((old ++ 32 ∷ []) ++ name) ++ 61 ∷ 34 ∷ []) (escaped_attribute value) (34 ∷ [])
    ∙ append_assoc ((old ++ 32 ∷ []) ++ name) (61 ∷ 34 ∷ []) (escaped_attribute value ++ 34 ∷ [])
    ∙ append_assoc (old ++ 32 ∷ []) name (61 ∷ 34 ∷ (escaped_attribute value ++ 34 ∷ []))
    ∙ append_assoc old (32 ∷ []) (name ++ 61 ∷ 34 ∷ (escaped_attribute value ++ 34 ∷ []))

pub attribute_so : (bytes name behind value : List ℕ) (v : List ℕ × List ℕ) → qname_in bytes ≡ Ok (name, behind) → past_equals behind ≡ Ok value → quoted_in value ≡ Ok v
    → attribute_in bytes ≡ Ok (record { name = name; value = v.0 }, v.1)
unfolding attribute_in
attribute_so bytes name behind value v one two three =
    ap (λ r. r >>= λ n. past_equals n.1 >>= λ rest. quoted_in rest >>= λ v. read (record { name = n.0; value = v.0 }) v.1) one
    ∙ ap (λ r. r >>= λ rest. quoted_in rest >>= λ v. read (record { name = name; value = v.0 }) v.1) two
    ∙ ap (λ r. r >>= λ v. read (record { name = name; value = v.0 }) v.1) three

pub tells_one : (name value : List ℕ) (names new_names : List (List ℕ)) (scope new_scope : Scope) (out new_out : List ℕ) → new_names ≡ names ++ name ∷ []
    → new_scope ≡ scope ++ declared (record { name = name; value = value } ∷ []) → new_out ≡ out ++ spelled_attribute (record { name = name; value = value })
    → Tells (record { name = name; value = value } ∷ []) names new_names scope new_scope out new_out
tells_one name value names new_names scope new_scope out new_out n s o = record {
  names_are = n;
  scope_is = s;
  out_is = o ∙ ap (λ (w : List ℕ). out ++ w) (sym (append-nil (spelled_attribute (record { name = name; value = value }))));
}

pub spaced_as : (bytes rest : List ℕ) → past_space bytes ≡ Ok rest → spaced_attribute_in bytes ≡ attribute_in rest
unfolding spaced_attribute_in
spaced_as bytes rest is = ap (λ r. r >>= λ rest. attribute_in rest) is

pub unspaced : (bytes : List ℕ) (left : ℕ) → past_space bytes ≡ Err left → spaced_attribute_in bytes ≡ Err left
unfolding spaced_attribute_in
unspaced bytes left is = ap (λ r. r >>= λ rest. attribute_in rest) is
