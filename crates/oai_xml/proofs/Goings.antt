-- Readings in steps: one piece after another.
use Rattle.std.proofs.Common.{◌≡◌, ◌∙◌, ◌<◌, ℕ, List, Ok, Err, length, refl, sym, ap}
use Rattle.oai_xml.specs.Answers.{before, Goes, ContinuesAs}
use Rattle.oai_xml.specs.Readings.{Reading, Passing}

-- pieces that are joined in whatever order are joined the same way
pub record Joins {A : Type 0} (join : A → A → A) : Type 0 where
  pub joins : (a b c : A) → join (join a b) c ≡ join a (join b c)

before_join : {A : Type 0} (join : A → A → A) → Joins join → (a b : A) (r : Reading A) → before join a (before join b r) ≡ before join (join a b) r
before_join {A} join j a b (Ok r) = ap (λ (w : A). Ok (w, r.1)) (sym (j.joins a b r.0))
before_join join j a b (Err left) = refl

-- nothing so far
pub goes_none : {A : Type 0} (join : A → A → A) (none : A) → ((a : A) → join none a ≡ a) → (reading : ℕ → List ℕ → Reading A) (bytes : List ℕ) → Goes join reading bytes bytes none
goes_none {A} join none is reading bytes = record { goes = λ steps enough. (steps, enough, sym (same (reading steps bytes))) }
  where
    same : (r : Reading A) → before join none r ≡ r
    same (Ok r) = ap (λ (w : A). Ok (w, r.1)) (is r.0)
    same (Err left) = refl

-- a piece more
pub goes_then : {A : Type 0} (join : A → A → A) → Joins join → (reading : ℕ → List ℕ → Reading A) (bytes mid rest : List ℕ) (a b : A)
    → Goes join reading bytes mid a → Goes join reading mid rest b → Goes join reading bytes rest (join a b)
goes_then join j reading bytes mid rest a b first second = record {
  goes = λ steps enough.
      let one = first.goes steps enough in
      let two = second.goes one.0 one.1 in
      (two.0, two.1, one.2 ∙ ap (before join a) two.2 ∙ before_join join j a b (reading two.0 rest));
}

-- the last piece, and what stands behind it
pub goes_end : {A : Type 0} (join : A → A → A) (reading : ℕ → List ℕ → Reading A) (bytes rest behind : List ℕ) (a b : A)
    → Goes join reading bytes rest a → ((steps : ℕ) → length rest < steps → reading steps rest ≡ Ok (b, behind))
    → (steps : ℕ) → length bytes < steps → reading steps bytes ≡ Ok (join a b, behind)
goes_end join reading bytes rest behind a b first last steps enough =
    let one = first.goes steps enough in one.2 ∙ ap (before join a) (last one.0 one.1)

-- a fault
pub goes_wrong : {A : Type 0} (join : A → A → A) (reading : ℕ → List ℕ → Reading A) (bytes rest : List ℕ) (a : A) (left : ℕ)
    → Goes join reading bytes rest a → ((steps : ℕ) → length rest < steps → reading steps rest ≡ Err left)
    → (steps : ℕ) → length bytes < steps → reading steps bytes ≡ Err left
goes_wrong join reading bytes rest a left first last steps enough =
    let one = first.goes steps enough in one.2 ∙ ap (before join a) (last one.0 one.1)

-- ---- where nothing is kept

pub on_none : (passing : ℕ → List ℕ → Passing) (bytes : List ℕ) → ContinuesAs passing bytes bytes
on_none passing bytes = record { goes_on = λ steps enough. (steps, enough, refl) }

pub on_then : (passing : ℕ → List ℕ → Passing) (bytes mid rest : List ℕ) → ContinuesAs passing bytes mid → ContinuesAs passing mid rest → ContinuesAs passing bytes rest
on_then passing bytes mid rest first second = record {
  goes_on = λ steps enough.
      let one = first.goes_on steps enough in
      let two = second.goes_on one.0 one.1 in
      (two.0, two.1, one.2 ∙ two.2);
}

pub on_end : (passing : ℕ → List ℕ → Passing) (bytes rest : List ℕ) (end : Passing) → ContinuesAs passing bytes rest → ((steps : ℕ) → length rest < steps → passing steps rest ≡ end)
    → (steps : ℕ) → length bytes < steps → passing steps bytes ≡ end
on_end passing bytes rest end first last steps enough = let one = first.goes_on steps enough in one.2 ∙ last one.0 one.1
