-- The tokens of a list and of a text. RFC 8259, sections 2, 5 and 7.
use Rattle.std.specs.Prelude.{ℕ, List, [], ◌∷◌, ◌++◌}
use Rattle.std.specs.List.{flat_map}
use Rattle.json.specs.Token.{Token}

-- the array of these elements, each by its tokens
abbrev pub array_tokens : {A : Type 0} → (A → List Token) → List A → List Token
array_tokens tokens elements = Token.begin_array ∷ (flat_map tokens elements ++ Token.end_array ∷ [])

-- TEXT
abbrev pub text_tokens : List ℕ → List Token
text_tokens text = Token.string text ∷ []
