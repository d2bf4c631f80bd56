-- The readings of members undo their writing.
use Rattle.std.proofs.Common.{◌≡◌, ◌∙◌, ℕ, Option, Some, List, [], ◌∷◌, ap, refl, subst}
use Rattle.std.specs.List.{AllZip}
use Rattle.serde_json.specs.Data.{Data}
use Rattle.oai_names.specs.Optional.{◌>>=◌, each_of}
use Rattle.oai_json.specs.Json.{elements_at}
use Rattle.oai_json.proofs.MemberLemmas.{elements_again, elements_take}
use Rattle.oai_json.proofs.ReadingLemmas.{Some-injective, bind-Some}
use Rattle.oai_config.specs.Written.{HasList}

-- what the reading takes is written so, and what is written so is read
pub record IsUndone {A : Type 0} (read : Data → Option A) (IsWritten : A → Data → Type 0) : Type 0 where
  pub takes : (d : Data) (x : A) → read d ≡ Some x → IsWritten x d
  pub again : (d : Data) (x : A) → IsWritten x d → read d ≡ Some x

each_takes : {A : Type 0} (read : Data → Option A) (IsWritten : A → Data → Type 0) → IsUndone read IsWritten → (ds : List Data) (xs : List A) → each_of read ds ≡ Some xs → AllZip IsWritten xs ds
each_takes read IsWritten one [] [] is = tt
each_takes read IsWritten one [] (x ∷ xs) is = absurd cc
each_takes read IsWritten one (d ∷ ds) xs is =
    let p = bind-Some (read d) (λ y. each_of read ds >>= λ ys. Some (y ∷ ys)) xs is in
    let q = bind-Some (each_of read ds) (λ ys. Some (p.0 ∷ ys)) xs p.2 in
    subst (λ zs. AllZip IsWritten zs (d ∷ ds)) (Some-injective (p.0 ∷ q.0) xs q.2) (one.takes d p.0 p.1, each_takes read IsWritten one ds q.0 q.1)

each_again : {A : Type 0} (read : Data → Option A) (IsWritten : A → Data → Type 0) → IsUndone read IsWritten → (ds : List Data) (xs : List A) → AllZip IsWritten xs ds → each_of read ds ≡ Some xs
each_again read IsWritten one [] [] are = refl
each_again read IsWritten one [] (x ∷ xs) are = absurd are
each_again read IsWritten one (d ∷ ds) [] are = absurd are
each_again read IsWritten one (d ∷ ds) (x ∷ xs) are =
    ap (λ r. r >>= λ y. each_of read ds >>= λ ys. Some (y ∷ ys)) (one.again d x are.0)
    ∙ ap (λ r. r >>= λ ys. Some (x ∷ ys)) (each_again read IsWritten one ds xs are.1)

-- a list of what one reading undoes
pub list_takes : {A : Type 0} (read : Data → Option A) (IsWritten : A → Data → Type 0) → IsUndone read IsWritten → (name : List ℕ) (d : Data) (xs : List A)
    → (elements_at name d >>= each_of read) ≡ Some xs → HasList name IsWritten xs d
list_takes read IsWritten one name d xs is =
    let p = bind-Some (elements_at name d) (each_of read) xs is in
    (p.0, elements_take name d p.0 p.1, each_takes read IsWritten one p.0 xs p.2)

pub list_again : {A : Type 0} (read : Data → Option A) (IsWritten : A → Data → Type 0) → IsUndone read IsWritten → (name : List ℕ) (d : Data) (xs : List A)
    → HasList name IsWritten xs d → (elements_at name d >>= each_of read) ≡ Some xs
list_again read IsWritten one name d xs is =
    ap (λ o. o >>= each_of read) (elements_again name d is.0 is.1) ∙ each_again read IsWritten one is.0 xs is.2
