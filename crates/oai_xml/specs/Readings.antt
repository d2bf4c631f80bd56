-- Reading from the front of bytes. What a reading gives is what was read and the bytes behind it; or, where the bytes cannot be read, how many
-- of them there are from the first one on that cannot stand there.
use Rattle.std.specs.Prelude.{ℕ, Bool, true, false, ◌==◌, ◌&&◌, List, [], ◌∷◌, length, drop, Result, Ok, Err, if◌then◌else◌}

abbrev pub Reading : Type 0 → Type 0
Reading A = Result (A × List ℕ) ℕ

-- a reading of which nothing is kept but the bytes behind it
abbrev pub Passing : Type 0
Passing = Result (List ℕ) ℕ

-- a reading after a reading: a fault of the first is a fault of both
infixl 10 ◌>>=◌
abbrev pub ◌>>=◌ : {A B : Type 0} → Result A ℕ → (A → Result B ℕ) → Result B ℕ
(Ok a) >>= f = f a
(Err left) >>= f = Err left

-- what was read, and the bytes behind it
abbrev pub read : {A : Type 0} → A → List ℕ → Reading A
read a rest = Ok (a, rest)

-- ---- literals

-- the bytes begin with the literal
unfoldable pub begins : List ℕ → List ℕ → Bool
begins [] bytes = true
begins (x ∷ literal) [] = false
begins (x ∷ literal) (b ∷ bytes) = b == x && begins literal bytes

-- what stands behind a literal that they begin with
abbrev pub behind : List ℕ → List ℕ → List ℕ
behind literal bytes = drop (length literal) bytes

-- the literal has to stand here; a fault is at the first byte that is another
unfoldable pub past : List ℕ → List ℕ → Passing
past [] bytes = Ok bytes
past (x ∷ literal) [] = Err 0
past (x ∷ literal) (b ∷ bytes) = if b == x then past literal bytes else Err (length (b ∷ bytes))

-- the text up to the first place where the mark stands, and what stands behind the mark
unfoldable pub up_to : List ℕ → List ℕ → Reading (List ℕ)
up_to mark [] = Err 0
up_to mark (b ∷ bytes) = if begins mark (b ∷ bytes) then read [] (behind mark (b ∷ bytes)) else (up_to mark bytes >>= λ r. read (b ∷ r.0) r.1)
