-- Elements and pieces of content, as the code reads them.
use Rattle.std.proofs.Common.{◌≡◌, ◌∙◌, ◌-◌, ◌<◌, ⊎_elim, ℕ, true, false, eqb, List, ◌++◌, Result, Ok, Err, IfOk, length, take, refl, sym, ap, subst, arith, append_assoc, append-nil}
use Rattle.std.specs.Prelude.{codes}
use Rattle.std.proofs.lemmas.Bool.{cond-true, cond-false}
use Rattle.std.proofs.lemmas.List.{take_at, length-append}
use denote.Ref.{Bor}
use Rattle.oai_names.specs.Escapes.{escaped_text}
use Rattle.oai_xml.specs.Answers.{Goes, Leaves, LeavesIn, LeavesPiece, Stops, StopsIn, AreCharacters}
use Rattle.oai_xml.specs.Readings.{Reading, ◌>>=◌, read, begins, behind, past}
use Rattle.oai_xml.specs.Parts.{reference_in}
use Rattle.oai_xml.specs.Tags.{Start, end_in}
use Rattle.oai_xml.specs.Trees.{Content, Tree, nothing, followed_by, text_of, alone, spelled_content, spelled, start_tag, end_tag}
use Rattle.oai_xml.specs.Namespaces.{Scope, declared}
use Rattle.oai_xml.specs.Whole.{within}
use Rattle.oai_xml.specs.Contents.{ReadsContent, whole_start_in, inside_in, element_in, section_in, left_out_in, left_out_comment_in, cdata_section_in, markup_in, content_in}
use Rattle.oai_xml.specs.declared.faults.ParseStop.{ParseStop}
use Rattle.oai_xml.specs.declared.faults.ParseStop.TheVariants.{At, NoMemory}
use Rattle.oai_xml.proofs.Goings.{goes_none, goes_then, goes_end, goes_wrong}
use Rattle.oai_xml.proofs.Spellings.{nothing_spelled, tree_spelled, followed_spelled, text_spelled, alone_spelled, followed_none, followed_joins}
use Rattle.oai_xml.proofs.Pieces.{contents, piece_goes, piece_wrong, content_closed, piece_markup, piece_reference, piece_character, run_goes}

-- ---- elements

abbrev pub tree_of : Start → Content → Tree
tree_of s c = record { name = s.name; attributes = s.attributes; content = c }

pub too_deep : (content : ReadsContent) (levels : ℕ) (scope : Scope) (bytes : List ℕ) → eqb levels 0 ≡ true → element_in content levels scope bytes ≡ Err (length bytes)
unfolding element_in
too_deep content levels scope bytes is = cond-true (eqb levels 0) _ _ is

element_steps : (content : ReadsContent) (levels : ℕ) (scope : Scope) (bytes : List ℕ) (s : Reading Start) → eqb levels 0 ≡ false → whole_start_in scope bytes ≡ s
    → element_in content levels scope bytes ≡ (s >>= λ s. inside_in content (levels - 1) (within scope s.0.attributes) s.0.name s.1 >>= λ c. read (tree_of s.0 c.0) c.1)
unfolding element_in
element_steps content levels scope bytes s some is =
    cond-false (eqb levels 0) _ _ some
    ∙ ap (λ s. s >>= λ s. inside_in content (levels - 1) (within scope s.0.attributes) s.0.name s.1 >>= λ c. read (tree_of s.0 c.0) c.1) is

pub element_whole : (content : ReadsContent) (levels : ℕ) (scope : Scope) (bytes : List ℕ) (s : Start × List ℕ) (c : Content × List ℕ) → eqb levels 0 ≡ false → whole_start_in scope bytes ≡ Ok s
    → inside_in content (levels - 1) (within scope s.0.attributes) s.0.name s.1 ≡ Ok c → element_in content levels scope bytes ≡ Ok (tree_of s.0 c.0, c.1)
element_whole content levels scope bytes s c some is inside =
    element_steps content levels scope bytes (Ok s) some is ∙ ap (λ r. r >>= λ c. read (tree_of s.0 c.0) c.1) inside

pub element_ill_start : (content : ReadsContent) (levels : ℕ) (scope : Scope) (bytes : List ℕ) (left : ℕ) → eqb levels 0 ≡ false → whole_start_in scope bytes ≡ Err left
    → element_in content levels scope bytes ≡ Err left
element_ill_start content levels scope bytes left some is = element_steps content levels scope bytes (Err left) some is

pub element_ill_inside : (content : ReadsContent) (levels : ℕ) (scope : Scope) (bytes : List ℕ) (s : Start × List ℕ) (left : ℕ) → eqb levels 0 ≡ false → whole_start_in scope bytes ≡ Ok s
    → inside_in content (levels - 1) (within scope s.0.attributes) s.0.name s.1 ≡ Err left → element_in content levels scope bytes ≡ Err left
element_ill_inside content levels scope bytes s left some is inside =
    element_steps content levels scope bytes (Ok s) some is ∙ ap (λ r. r >>= λ c. read (tree_of s.0 c.0) c.1) inside

-- as the code does it
pub element_start_stops : (levels : ℕ) (scope : Scope) (bytes : List ℕ) (stop : ParseStop) → eqb levels 0 ≡ false → Stops (whole_start_in scope bytes) stop
    → StopsIn (λ steps. element_in (content_in steps) levels scope bytes) bytes stop
element_start_stops levels scope bytes (At fault) some is = λ steps enough. element_ill_start (content_in steps) levels scope bytes fault.left some is
element_start_stops levels scope bytes NoMemory some is = tt

pub element_inside_stops : (levels : ℕ) (scope inner : Scope) (bytes name closing : List ℕ) (s : Start × List ℕ) (stop : ParseStop) → eqb levels 0 ≡ false → whole_start_in scope bytes ≡ Ok s
    → name ≡ s.0.name → closing ≡ s.1 → inner ≡ within scope s.0.attributes → length closing < length bytes
    → StopsIn (λ steps. inside_in (content_in steps) (levels - 1) inner name closing) closing stop → StopsIn (λ steps. element_in (content_in steps) levels scope bytes) bytes stop
element_inside_stops levels scope inner bytes name closing s (At fault) some is named at scoped shorter wrong =
    λ steps enough. element_ill_inside (content_in steps) levels scope bytes s fault.left some is
    (ap (λ w. inside_in (content_in steps) (levels - 1) w s.0.name s.1) (sym scoped) ∙ ap (λ w. inside_in (content_in steps) (levels - 1) inner w s.1) (sym named)
    ∙ ap (λ w. inside_in (content_in steps) (levels - 1) inner name w) (sym at) ∙ wrong steps (omega arith))
element_inside_stops levels scope inner bytes name closing s NoMemory some is named at scoped shorter wrong = tt

whole_spelled : (s : Start) (c : Content) (old o1 o2 o3 : List ℕ) → o1 ≡ old ++ start_tag s.name s.attributes → o2 ≡ o1 ++ spelled_content c → o3 ≡ o2 ++ end_tag s.name → o3 ≡ old ++ spelled (tree_of s c)
whole_spelled s c old o1 o2 o3 one two three =
    three ∙ ap (λ (w : List ℕ). w ++ end_tag s.name) (two ∙ ap (λ (w : List ℕ). w ++ spelled_content c) one)
    ∙ append_assoc (old ++ start_tag s.name s.attributes) (spelled_content c) (end_tag s.name) ∙ append_assoc old (start_tag s.name s.attributes) (spelled_content c ++ end_tag s.name)
    ∙ ap (λ (w : List ℕ). old ++ w) (sym (tree_spelled (tree_of s c)))

pub element_done : (levels : ℕ) (scope inner inner2 last : Scope) (bytes name closing rest old o1 o2 o3 : List ℕ) (s : Start × List ℕ) (c : Content × List ℕ) (outer : ℕ) → eqb levels 0 ≡ false
    → whole_start_in scope bytes ≡ Ok s → name ≡ s.0.name → closing ≡ s.1 → inner ≡ within scope s.0.attributes → o1 ≡ old ++ start_tag s.0.name s.0.attributes → length closing < length bytes
    → ((steps : ℕ) → length closing < steps → inside_in (content_in steps) (levels - 1) inner name closing ≡ Ok c) → rest ≡ c.1 → inner2 ≡ inner → o2 ≡ o1 ++ spelled_content c.0
    → o3 ≡ o2 ++ end_tag name → outer ≡ length scope → last ≡ take outer inner2
    → (e : Tree × List ℕ) × ((steps : ℕ) → length bytes < steps → element_in (content_in steps) levels scope bytes ≡ Ok e) × ((rest ≡ e.1) × (last ≡ scope) × (o3 ≡ old ++ spelled e.0))
element_done levels scope inner inner2 last bytes name closing rest old o1 o2 o3 s c outer some is named at scoped one shorter inside behind_is same two three len cut = (
  (tree_of s.0 c.0, c.1),
  λ steps enough. element_whole (content_in steps) levels scope bytes s c some is
      (ap (λ w. inside_in (content_in steps) (levels - 1) w s.0.name s.1) (sym scoped) ∙ ap (λ w. inside_in (content_in steps) (levels - 1) inner w s.1) (sym named)
      ∙ ap (λ w. inside_in (content_in steps) (levels - 1) inner name w) (sym at) ∙ inside steps (omega arith)),
  (
    behind_is,
    cut ∙ ap (take outer) (same ∙ scoped) ∙ take_at scope (declared s.0.attributes) outer (sym len),
    whole_spelled s.0 c.0 old o1 o2 o3 one two (three ∙ ap (λ (w : List ℕ). o2 ++ end_tag w) named),
  ),
)

-- ---- inside an element

pub inside_empty : (content : ReadsContent) (levels : ℕ) (scope : Scope) (name bytes : List ℕ) (r : Result (List ℕ) ℕ) → begins (codes "/") bytes ≡ true → past (codes "/>") bytes ≡ r
    → inside_in content levels scope name bytes ≡ (r >>= λ rest. read nothing rest)
unfolding inside_in
inside_empty content levels scope name bytes r here is = cond-true (begins (codes "/") bytes) _ _ here ∙ ap (λ r. r >>= λ rest. read nothing rest) is

pub inside_full : (content : ReadsContent) (levels : ℕ) (scope : Scope) (name bytes : List ℕ) (r : Result (List ℕ) ℕ) → begins (codes "/") bytes ≡ false → past (codes ">") bytes ≡ r
    → inside_in content levels scope name bytes ≡ (r >>= λ rest. content levels scope rest >>= λ c. end_in name c.1 >>= λ rest. read c.0 rest)
unfolding inside_in
inside_full content levels scope name bytes r none is =
    cond-false (begins (codes "/") bytes) _ _ none ∙ ap (λ r. r >>= λ rest. content levels scope rest >>= λ c. end_in name c.1 >>= λ rest. read c.0 rest) is

pub inside_stops : (levels : ℕ) (scope : Scope) (name bytes inner : List ℕ) (stop : ParseStop) → begins (codes "/") bytes ≡ false → past (codes ">") bytes ≡ Ok inner → length inner < length bytes
    → StopsIn (λ steps. content_in steps levels scope inner) inner stop → StopsIn (λ steps. inside_in (content_in steps) levels scope name bytes) bytes stop
inside_stops levels scope name bytes inner (At fault) none is shorter wrong =
    λ steps enough. inside_full (content_in steps) levels scope name bytes (Ok inner) none is
    ∙ ap (λ r. r >>= λ c. end_in name c.1 >>= λ rest. read c.0 rest) (wrong steps (omega arith))
inside_stops levels scope name bytes inner NoMemory none is shorter wrong = tt

pub inside_read : (levels : ℕ) (scope : Scope) (name bytes inner : List ℕ) (c : Content × List ℕ) (r : Result (List ℕ) ℕ) → begins (codes "/") bytes ≡ false → past (codes ">") bytes ≡ Ok inner
    → length inner < length bytes → ((steps : ℕ) → length inner < steps → content_in steps levels scope inner ≡ Ok c) → end_in name c.1 ≡ r
    → (steps : ℕ) → length bytes < steps → inside_in (content_in steps) levels scope name bytes ≡ (r >>= λ rest. read c.0 rest)
inside_read levels scope name bytes inner c r none is shorter inside end steps enough =
    inside_full (content_in steps) levels scope name bytes (Ok inner) none is
    ∙ ap (λ r. r >>= λ c. end_in name c.1 >>= λ rest. read c.0 rest) (inside steps (omega arith)) ∙ ap (λ r. r >>= λ rest. read c.0 rest) end

-- ---- content so far

pub record ContentSoFar (levels : ℕ) (scope : Scope) (bytes rest : List ℕ) (now_scope : Scope) (old now : List ℕ) (done : Content) : Type 0 where
  pub goes : Goes followed_by (contents levels scope) bytes rest done
  pub same : now_scope ≡ scope
  pub left : now ≡ old ++ spelled_content done

pub content_none : (levels : ℕ) (scope : Scope) (bytes out : List ℕ) → ContentSoFar levels scope bytes bytes scope out out nothing
content_none levels scope bytes out = record {
  goes = goes_none followed_by nothing followed_none (contents levels scope) bytes;
  same = refl;
  left = sym (ap (λ (w : List ℕ). out ++ w) nothing_spelled ∙ append-nil out);
}

pub content_more : (levels : ℕ) (scope now_scope new_scope : Scope) (bytes rest behind_is old now new : List ℕ) (done piece : Content) → ContentSoFar levels scope bytes rest now_scope old now done
    → Goes followed_by (contents levels now_scope) rest behind_is piece → new_scope ≡ now_scope → new ≡ now ++ spelled_content piece
    → ContentSoFar levels scope bytes behind_is new_scope old new (followed_by done piece)
content_more levels scope now_scope new_scope bytes rest behind_is old now new done piece so goes same left = record {
  goes = goes_then followed_by followed_joins (contents levels scope) bytes rest behind_is done piece so.goes (subst (λ s. Goes followed_by (contents levels s) rest behind_is piece) so.same goes);
  same = same ∙ so.same;
  left = left ∙ ap (λ (w : List ℕ). w ++ spelled_content piece) so.left ∙ append_assoc old (spelled_content done) (spelled_content piece)
      ∙ ap (λ (w : List ℕ). old ++ w) (sym (followed_spelled done piece));
}

pub content_done : (levels : ℕ) (scope now_scope : Scope) (bytes rest tag old now : List ℕ) (done : Content) → ContentSoFar levels scope bytes rest now_scope old now done
    → begins (codes "</") rest ≡ true → tag ≡ behind (codes "</") rest
    → (c : Content × List ℕ) × ((steps : ℕ) → length bytes < steps → content_in steps levels scope bytes ≡ Ok c) × ((tag ≡ c.1) × (now_scope ≡ scope) × (now ≡ old ++ spelled_content c.0))
content_done levels scope now_scope bytes rest tag old now done so here is = (
  (followed_by done nothing, behind (codes "</") rest),
  goes_end followed_by (contents levels scope) bytes rest (behind (codes "</") rest) done nothing so.goes (content_closed levels scope rest here),
  (
    is,
    so.same,
    so.left ∙ ap (λ (w : List ℕ). old ++ w) (sym (followed_spelled done nothing ∙ ap (λ (w : List ℕ). spelled_content done ++ w) nothing_spelled ∙ append-nil (spelled_content done))),
  ),
)

pub content_stops : (levels : ℕ) (scope now_scope : Scope) (bytes rest old now : List ℕ) (done : Content) (stop : ParseStop) → ContentSoFar levels scope bytes rest now_scope old now done
    → StopsIn (λ steps. content_in steps levels now_scope rest) rest stop → StopsIn (λ steps. content_in steps levels scope bytes) bytes stop
content_stops levels scope now_scope bytes rest old now done (At fault) so wrong =
    goes_wrong followed_by (contents levels scope) bytes rest done fault.left so.goes
    (λ steps enough. ap (λ s. content_in steps levels s rest) (sym so.same) ∙ wrong steps enough)
content_stops levels scope now_scope bytes rest old now done NoMemory so wrong = tt

-- ---- one piece

pub markup_piece : (levels : ℕ) (scope new_scope : Scope) (bytes tag old new : List ℕ) (result : Result (Bor (List ℕ)) ParseStop) → begins (codes "</") bytes ≡ false → begins (codes "<") bytes ≡ true
    → tag ≡ behind (codes "<") bytes → length tag < length bytes → IfOk result (λ rest. length rest.now < length tag)
    → LeavesIn (λ rest c. (rest.now ≡ c.1) × (new_scope ≡ scope) × (new ≡ old ++ spelled_content c.0)) (λ steps. markup_in (content_in steps) levels scope tag) tag result
    → LeavesPiece followed_by (contents levels scope) (λ rest. rest.now) (λ rest piece. (new_scope ≡ scope) × (new ≡ old ++ spelled_content piece)) bytes result
markup_piece levels scope new_scope bytes tag old new (Ok rest) apart here is shorter within leaves =
    let c = leaves.0 in (
      c.0,
      piece_goes levels scope bytes rest.now c.0 apart (omega arith)
          (λ steps enough. piece_markup (content_in steps) levels scope bytes here ∙ ap (markup_in (content_in steps) levels scope) (sym is)
          ∙ leaves.1 steps (omega arith) ∙ ap (λ (w : List ℕ). Ok (c.0, w)) (sym leaves.2.0)),
      (leaves.2.1, leaves.2.2),
    )
markup_piece levels scope new_scope bytes tag old new (Err (At fault)) apart here is shorter within leaves =
    piece_wrong levels scope bytes fault.left apart
    (λ steps enough. piece_markup (content_in steps) levels scope bytes here ∙ ap (markup_in (content_in steps) levels scope) (sym is) ∙ leaves steps (omega arith))
markup_piece levels scope new_scope bytes tag old new (Err NoMemory) apart here is shorter within leaves = tt

pub reference_piece : (levels : ℕ) (scope : Scope) (bytes name old new : List ℕ) (result : Result (Bor (List ℕ)) ParseStop) → begins (codes "</") bytes ≡ false → begins (codes "<") bytes ≡ false
    → begins (codes "&") bytes ≡ true → name ≡ behind (codes "&") bytes → length name < length bytes → IfOk result (λ rest. length rest.now < length name)
    → Leaves (λ rest c. (rest.now ≡ c.1) × (new ≡ old ++ escaped_text c.0)) (reference_in name) result
    → LeavesPiece followed_by (contents levels scope) (λ rest. rest.now) (λ rest piece. (scope ≡ scope) × (new ≡ old ++ spelled_content piece)) bytes result
reference_piece levels scope bytes name old new (Ok rest) apart none here is shorter within leaves =
    let c = leaves.0 in (
      text_of c.0,
      piece_goes levels scope bytes rest.now (text_of c.0) apart (omega arith)
          (λ steps enough. piece_reference (content_in steps) levels scope bytes none here ∙ ap (λ w. reference_in w >>= λ r. read (text_of r.0) r.1) (sym is)
          ∙ ap (λ r. r >>= λ r. read (text_of r.0) r.1) leaves.1 ∙ ap (λ (w : List ℕ). Ok (text_of c.0, w)) (sym leaves.2.0)),
      (refl, leaves.2.1 ∙ ap (λ (w : List ℕ). old ++ w) (sym (text_spelled c.0))),
    )
reference_piece levels scope bytes name old new (Err (At fault)) apart none here is shorter within leaves =
    piece_wrong levels scope bytes fault.left apart
    (λ steps enough. piece_reference (content_in steps) levels scope bytes none here ∙ ap (λ w. reference_in w >>= λ r. read (text_of r.0) r.1) (sym is)
    ∙ ap (λ r. r >>= λ r. read (text_of r.0) r.1) leaves)
reference_piece levels scope bytes name old new (Err NoMemory) apart none here is shorter within leaves = tt

pub characters_piece : (levels : ℕ) (scope : Scope) (bytes old new : List ℕ) (result : Result (Bor (List ℕ)) ParseStop) → begins (codes "</") bytes ≡ false → begins (codes "<") bytes ≡ false
    → begins (codes "&") bytes ≡ false → AreCharacters bytes old new result
    → LeavesPiece followed_by (contents levels scope) (λ rest. rest.now) (λ rest piece. (scope ≡ scope) × (new ≡ old ++ spelled_content piece)) bytes result
characters_piece levels scope bytes old new (Ok rest) apart none other are =
    let run = are.0 in (
      text_of run,
      ⊎_elim
          (λ bare. subst (λ w. Goes followed_by (contents levels scope) w rest.now (text_of run)) (sym are.1) (run_goes levels scope run rest.now bare))
          (λ is. piece_goes levels scope bytes rest.now (text_of run) apart
          (let long = ap length are.1 in let parts = length-append run rest.now in let some = are.2 in omega (arith, long, parts, some))
          (λ steps enough. piece_character (content_in steps) levels scope bytes none other ∙ is))
          are.4,
      (refl, are.3 ∙ ap (λ (w : List ℕ). old ++ w) (sym (text_spelled run))),
    )
characters_piece levels scope bytes old new (Err (At fault)) apart none other are =
    piece_wrong levels scope bytes fault.left apart (λ steps enough. piece_character (content_in steps) levels scope bytes none other ∙ are)
characters_piece levels scope bytes old new (Err NoMemory) apart none other are = tt

-- ---- markup

pub markup_section : (content : ReadsContent) (levels : ℕ) (scope : Scope) (bytes : List ℕ) → begins (codes "!") bytes ≡ true → markup_in content levels scope bytes ≡ section_in bytes
unfolding markup_in
markup_section content levels scope bytes here = cond-true (begins (codes "!") bytes) _ _ here

pub markup_left_out : (content : ReadsContent) (levels : ℕ) (scope : Scope) (bytes : List ℕ) → begins (codes "!") bytes ≡ false → begins (codes "?") bytes ≡ true
    → markup_in content levels scope bytes ≡ left_out_in bytes
unfolding markup_in
markup_left_out content levels scope bytes none here = cond-false (begins (codes "!") bytes) _ _ none ∙ cond-true (begins (codes "?") bytes) _ _ here

pub markup_element : (content : ReadsContent) (levels : ℕ) (scope : Scope) (bytes : List ℕ) → begins (codes "!") bytes ≡ false → begins (codes "?") bytes ≡ false
    → markup_in content levels scope bytes ≡ (element_in content levels scope bytes >>= λ e. read (alone e.0) e.1)
unfolding markup_in
markup_element content levels scope bytes none other = cond-false (begins (codes "!") bytes) _ _ none ∙ cond-false (begins (codes "?") bytes) _ _ other

pub section_leaves : (levels : ℕ) (scope : Scope) (bytes old new : List ℕ) (result : Result (Bor (List ℕ)) ParseStop) → begins (codes "!") bytes ≡ true
    → Leaves (λ rest c. (rest.now ≡ c.1) × (new ≡ old ++ spelled_content c.0)) (section_in bytes) result
    → LeavesIn (λ rest c. (rest.now ≡ c.1) × (scope ≡ scope) × (new ≡ old ++ spelled_content c.0)) (λ steps. markup_in (content_in steps) levels scope bytes) bytes result
section_leaves levels scope bytes old new (Ok rest) here leaves =
    (leaves.0, λ steps enough. markup_section (content_in steps) levels scope bytes here ∙ leaves.1, (leaves.2.0, refl, leaves.2.1))
section_leaves levels scope bytes old new (Err (At fault)) here leaves = λ steps enough. markup_section (content_in steps) levels scope bytes here ∙ leaves
section_leaves levels scope bytes old new (Err NoMemory) here leaves = tt

pub left_out_leaves : (levels : ℕ) (scope : Scope) (bytes rest out : List ℕ) → begins (codes "!") bytes ≡ false → begins (codes "?") bytes ≡ true → left_out_in bytes ≡ Ok (nothing, rest)
    → (c : Content × List ℕ) × ((steps : ℕ) → length bytes < steps → markup_in (content_in steps) levels scope bytes ≡ Ok c) × ((rest ≡ c.1) × (scope ≡ scope) × (out ≡ out ++ spelled_content c.0))
left_out_leaves levels scope bytes rest out none here is = (
  (nothing, rest),
  λ steps enough. markup_left_out (content_in steps) levels scope bytes none here ∙ is,
  (refl, refl, sym (ap (λ (w : List ℕ). out ++ w) nothing_spelled ∙ append-nil out)),
)

pub left_out_fails : (levels : ℕ) (scope : Scope) (bytes : List ℕ) (left : ℕ) → begins (codes "!") bytes ≡ false → begins (codes "?") bytes ≡ true → left_out_in bytes ≡ Err left
    → (steps : ℕ) → length bytes < steps → markup_in (content_in steps) levels scope bytes ≡ Err left
left_out_fails levels scope bytes left none here is steps enough = markup_left_out (content_in steps) levels scope bytes none here ∙ is

pub element_leaves : (levels : ℕ) (scope new_scope : Scope) (bytes old new : List ℕ) (result : Result (Bor (List ℕ)) ParseStop) → begins (codes "!") bytes ≡ false → begins (codes "?") bytes ≡ false
    → LeavesIn (λ rest e. (rest.now ≡ e.1) × (new_scope ≡ scope) × (new ≡ old ++ spelled e.0)) (λ steps. element_in (content_in steps) levels scope bytes) bytes result
    → LeavesIn (λ rest c. (rest.now ≡ c.1) × (new_scope ≡ scope) × (new ≡ old ++ spelled_content c.0)) (λ steps. markup_in (content_in steps) levels scope bytes) bytes result
element_leaves levels scope new_scope bytes old new (Ok rest) none other leaves =
    let e = leaves.0 in (
      (alone e.0, e.1),
      λ steps enough. markup_element (content_in steps) levels scope bytes none other ∙ ap (λ r. r >>= λ e. read (alone e.0) e.1) (leaves.1 steps enough),
      (leaves.2.0, leaves.2.1, leaves.2.2 ∙ ap (λ (w : List ℕ). old ++ w) (sym (alone_spelled e.0))),
    )
element_leaves levels scope new_scope bytes old new (Err (At fault)) none other leaves =
    λ steps enough. markup_element (content_in steps) levels scope bytes none other ∙ ap (λ r. r >>= λ e. read (alone e.0) e.1) (leaves steps enough)
element_leaves levels scope new_scope bytes old new (Err NoMemory) none other leaves = tt

-- ---- comments and CDATA

pub section_comment : (bytes rest out : List ℕ) → begins (codes "!-") bytes ≡ true → left_out_comment_in bytes ≡ Ok (nothing, rest)
    → (c : Content × List ℕ) × (section_in bytes ≡ Ok c) × ((rest ≡ c.1) × (out ≡ out ++ spelled_content c.0))
unfolding section_in
section_comment bytes rest out here is = (
  (nothing, rest),
  cond-true (begins (codes "!-") bytes) _ _ here ∙ is,
  (refl, sym (ap (λ (w : List ℕ). out ++ w) nothing_spelled ∙ append-nil out)),
)

pub section_cdata : (bytes text rest old new : List ℕ) → begins (codes "!-") bytes ≡ false → cdata_section_in bytes ≡ Ok (text, rest) → new ≡ old ++ escaped_text text
    → (c : Content × List ℕ) × (section_in bytes ≡ Ok c) × ((rest ≡ c.1) × (new ≡ old ++ spelled_content c.0))
unfolding section_in
section_cdata bytes text rest old new none is grown = (
  (text_of text, rest),
  cond-false (begins (codes "!-") bytes) _ _ none ∙ ap (λ r. r >>= λ t. read (text_of t.0) t.1) is,
  (refl, grown ∙ ap (λ (w : List ℕ). old ++ w) (sym (text_spelled text))),
)

-- ---- inside an element, as the code reads it

pub inside_none : (levels : ℕ) (scope : Scope) (name bytes rest out : List ℕ) → begins (codes "/") bytes ≡ true → past (codes "/>") bytes ≡ Ok rest
    → (c : Content × List ℕ) × ((steps : ℕ) → length bytes < steps → inside_in (content_in steps) levels scope name bytes ≡ Ok c) × ((rest ≡ c.1) × (scope ≡ scope) × (out ≡ out ++ spelled_content c.0))
inside_none levels scope name bytes rest out here is = (
  (nothing, rest),
  λ steps enough. inside_empty (content_in steps) levels scope name bytes (Ok rest) here is,
  (refl, refl, sym (ap (λ (w : List ℕ). out ++ w) nothing_spelled ∙ append-nil out)),
)

pub inside_unclosed : (levels : ℕ) (scope : Scope) (name bytes : List ℕ) (left : ℕ) → begins (codes "/") bytes ≡ true → past (codes "/>") bytes ≡ Err left
    → (steps : ℕ) → length bytes < steps → inside_in (content_in steps) levels scope name bytes ≡ Err left
inside_unclosed levels scope name bytes left here is steps enough = inside_empty (content_in steps) levels scope name bytes (Err left) here is

pub inside_unopened : (levels : ℕ) (scope : Scope) (name bytes : List ℕ) (left : ℕ) → begins (codes "/") bytes ≡ false → past (codes ">") bytes ≡ Err left
    → (steps : ℕ) → length bytes < steps → inside_in (content_in steps) levels scope name bytes ≡ Err left
inside_unopened levels scope name bytes left none is steps enough = inside_full (content_in steps) levels scope name bytes (Err left) none is

pub inside_done : (levels : ℕ) (scope new_scope : Scope) (name bytes inner behind_is rest old new : List ℕ) (c : Content × List ℕ) → begins (codes "/") bytes ≡ false → past (codes ">") bytes ≡ Ok inner
    → length inner < length bytes → ((steps : ℕ) → length inner < steps → content_in steps levels scope inner ≡ Ok c) → behind_is ≡ c.1 → new_scope ≡ scope → new ≡ old ++ spelled_content c.0
    → end_in name behind_is ≡ Ok rest
    → (i : Content × List ℕ) × ((steps : ℕ) → length bytes < steps → inside_in (content_in steps) levels scope name bytes ≡ Ok i) × ((rest ≡ i.1) × (new_scope ≡ scope) × (new ≡ old ++ spelled_content i.0))
inside_done levels scope new_scope name bytes inner behind_is rest old new c none is shorter reading at same left end =
    ((c.0, rest), inside_read levels scope name bytes inner c (Ok rest) none is shorter reading (ap (end_in name) (sym at) ∙ end), (refl, same, left))

pub inside_unended : (levels : ℕ) (scope : Scope) (name bytes inner behind_is : List ℕ) (c : Content × List ℕ) (left : ℕ) → begins (codes "/") bytes ≡ false → past (codes ">") bytes ≡ Ok inner
    → length inner < length bytes → ((steps : ℕ) → length inner < steps → content_in steps levels scope inner ≡ Ok c) → behind_is ≡ c.1 → end_in name behind_is ≡ Err left
    → (steps : ℕ) → length bytes < steps → inside_in (content_in steps) levels scope name bytes ≡ Err left
inside_unended levels scope name bytes inner behind_is c left none is shorter reading at end =
    inside_read levels scope name bytes inner c (Err left) none is shorter reading (ap (end_in name) (sym at) ∙ end)
