-- Pieces of values, as the code appends them.
use Rattle.std.proofs.Common.{◌≡◌, ◌∙◌, ◌<◌, ℕ, true, false, ◌||◌, eqb, List, [], ◌∷◌, ◌++◌, Result, Ok, Err, IfOk, length, refl, sym, ap, subst, arith, append_assoc, append-nil}
use Rattle.std.proofs.lemmas.Bool.Decides.{nat_tests}
use Rattle.std.proofs.lemmas.Grind.{flat_map-append}
use denote.Ref.{Bor}
use Rattle.oai_names.specs.Escapes.{escaped, escaped_attribute, attribute_spelling}
use Rattle.oai_xml.specs.Answers.{Goes, Leaves, LeavesPiece, StopsIn, formed, is_closed}
use Rattle.oai_xml.specs.Parts.{reference_in}
use Rattle.oai_xml.specs.Tags.{value_in, value_byte}
use Rattle.oai_xml.specs.declared.faults.ParseStop.{ParseStop}
use Rattle.oai_xml.specs.declared.faults.ParseStop.TheVariants.{At, NoMemory}
use Rattle.oai_xml.specs.declared.values.Form.{Form}
use Rattle.oai_xml.specs.declared.values.Form.TheVariants.{Plain, Spelled}
use Rattle.oai_xml.proofs.Goings.{goes_none, goes_then, goes_end, goes_wrong}
use Rattle.oai_xml.proofs.ValueLemmas.{cat, cat_joins, values, value_plain, value_referred, value_unreferred, value_marked, value_closed, value_ends}

attribute_cat : (a b : List ℕ) → escaped_attribute (a ++ b) ≡ escaped_attribute a ++ escaped_attribute b
unfolding escaped
attribute_cat a b = flat_map-append attribute_spelling a b

pub formed_cat : (form : Form) (a b : List ℕ) → formed form (a ++ b) ≡ formed form a ++ formed form b
formed_cat Plain a b = refl
formed_cat Spelled a b = attribute_cat a b

no_attribute : escaped_attribute [] ≡ []
unfolding escaped
no_attribute = refl

pub formed_none : (form : Form) → formed form [] ≡ []
formed_none Plain = refl
formed_none Spelled = no_attribute

pub reference_apart : (quote : ℕ) → (eqb quote 34 || eqb quote 39) ≡ true → eqb 38 quote ≡ false
reference_apart quote is = grind (arith, nat_tests)

pub markup_apart : (quote : ℕ) → (eqb quote 34 || eqb quote 39) ≡ true → eqb 60 quote ≡ false
markup_apart quote is = grind (arith, nat_tests)

-- a fault at markup
pub marked_piece : (quote : ℕ) (bytes tail : List ℕ) (b : ℕ) → (eqb quote 34 || eqb quote 39) ≡ true → bytes ≡ b ∷ tail → b ≡ 60
    → (steps : ℕ) → length bytes < steps → value_in steps quote bytes ≡ Err (length bytes)
marked_piece quote bytes tail b is cut same =
    let P : List ℕ → Type 0 = λ w. (steps : ℕ) → length w < steps → value_in steps quote w ≡ Err (length w) in
    subst P (ap (λ (x : ℕ). x ∷ tail) (sym same) ∙ sym cut) (value_marked quote tail (markup_apart quote is))

-- a reference
pub referred_piece : (form : Form) (quote : ℕ) (bytes tail old new : List ℕ) (b : ℕ) (result : Result (Bor (List ℕ)) ParseStop) → (eqb quote 34 || eqb quote 39) ≡ true → bytes ≡ b ∷ tail → b ≡ 38
    → Leaves (λ rest c. (rest.now ≡ c.1) × (new ≡ old ++ formed form c.0)) (reference_in tail) result → IfOk result (λ rest. length rest.now < length tail)
    → LeavesPiece cat (values quote) (λ rest. rest.now) (λ rest piece. new ≡ old ++ formed form piece) bytes result
referred_piece form quote bytes tail old new b (Ok rest) is cut same leaves shorter =
    let whole : bytes ≡ 38 ∷ tail = cut ∙ ap (λ (x : ℕ). x ∷ tail) same in
    let c = leaves.0 in
    let reading : reference_in tail ≡ Ok (c.0, rest.now) = leaves.1 ∙ ap (λ (w : List ℕ). Ok (c.0, w)) (sym leaves.2.0) in (
      c.0,
      subst (λ w. Goes cat (values quote) w rest.now c.0) (sym whole) (value_referred quote tail rest.now c.0 (reference_apart quote is) shorter reading),
      leaves.2.1,
    )
referred_piece form quote bytes tail old new b (Err (At fault)) is cut same leaves shorter =
    let whole : bytes ≡ 38 ∷ tail = cut ∙ ap (λ (x : ℕ). x ∷ tail) same in
    let P : List ℕ → Type 0 = λ w. (steps : ℕ) → length w < steps → value_in steps quote w ≡ Err fault.left in
    subst P (sym whole) (value_unreferred quote tail fault.left (reference_apart quote is) leaves)
referred_piece form quote bytes tail old new b (Err NoMemory) is cut same leaves shorter = tt

-- another byte
pub single_piece : (form : Form) (quote : ℕ) (bytes tail old new : List ℕ) (b : ℕ) → bytes ≡ b ∷ tail → is_closed quote bytes ≡ false → eqb b 60 ≡ false → eqb b 38 ≡ false
    → new ≡ old ++ formed form (value_byte b ∷ []) → (piece : List ℕ) × Goes cat (values quote) bytes tail piece × (new ≡ old ++ formed form piece)
single_piece form quote bytes tail old new b cut apart markup reference grown =
    let other : eqb b quote ≡ false = ap (is_closed quote) (sym cut) ∙ apart in
    (value_byte b ∷ [], subst (λ w. Goes cat (values quote) w tail (value_byte b ∷ [])) (sym cut) (value_plain quote b tail other markup reference), grown)

-- ---- a whole value

-- what is read so far: these bytes, and what they leave
pub record SoFar (form : Form) (quote : ℕ) (bytes rest old new done : List ℕ) : Type 0 where
  pub goes : Goes cat (values quote) bytes rest done
  pub left : new ≡ old ++ formed form done

pub so_far_more : (form : Form) (quote : ℕ) (bytes rest old now done : List ℕ) (behind new piece : List ℕ) → SoFar form quote bytes rest old now done → Goes cat (values quote) rest behind piece
    → new ≡ now ++ formed form piece → SoFar form quote bytes behind old new (done ++ piece)
so_far_more form quote bytes rest old now done behind new piece so goes left = record {
  goes = goes_then cat cat_joins (values quote) bytes rest behind done piece so.goes goes;
  left = left ∙ ap (λ (w : List ℕ). w ++ formed form piece) so.left ∙ append_assoc old (formed form done) (formed form piece) ∙ ap (λ (w : List ℕ). old ++ w) (sym (formed_cat form done piece));
}

pub value_whole : (form : Form) (quote : ℕ) (bytes rest tail old new done : List ℕ) (b : ℕ) → SoFar form quote bytes rest old new done → rest ≡ b ∷ tail → eqb b quote ≡ true
    → (v : List ℕ × List ℕ) × ((steps : ℕ) → length bytes < steps → value_in steps quote bytes ≡ Ok v) × ((tail ≡ v.1) × (new ≡ old ++ formed form v.0))
value_whole form quote bytes rest tail old new done b so cut closed =
    let P : List ℕ → Type 0 = λ w. (steps : ℕ) → length w < steps → value_in steps quote w ≡ Ok ([], tail) in (
      (done ++ [], tail),
      goes_end cat (values quote) bytes rest tail done [] so.goes (subst P (sym cut) (value_closed quote b tail closed)),
      (refl, so.left ∙ ap (λ (w : List ℕ). old ++ formed form w) (sym (append-nil done))),
    )

pub value_cut_off : (form : Form) (quote : ℕ) (bytes rest old new done : List ℕ) → SoFar form quote bytes rest old new done → rest ≡ []
    → (steps : ℕ) → length bytes < steps → value_in steps quote bytes ≡ Err 0
value_cut_off form quote bytes rest old new done so none = goes_wrong cat (values quote) bytes rest done 0 so.goes (value_ends quote rest none)

pub value_stops : (form : Form) (quote : ℕ) (bytes rest old new done : List ℕ) (stop : ParseStop) → SoFar form quote bytes rest old new done
    → StopsIn (λ steps. value_in steps quote rest) rest stop → StopsIn (λ steps. value_in steps quote bytes) bytes stop
value_stops form quote bytes rest old new done (At fault) so wrong = goes_wrong cat (values quote) bytes rest done fault.left so.goes wrong
value_stops form quote bytes rest old new done NoMemory so wrong = tt

pub so_far_none : (form : Form) (quote : ℕ) (bytes out : List ℕ) → SoFar form quote bytes bytes out out []
so_far_none form quote bytes out = record {
  goes = goes_none cat [] (λ a. refl) (values quote) bytes;
  left = sym (ap (λ (w : List ℕ). out ++ w) (formed_none form) ∙ append-nil out);
}
