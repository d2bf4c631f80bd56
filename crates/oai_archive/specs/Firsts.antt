-- The first record of a journal. This repository's own.
use Rattle.std.specs.Prelude.{◌≡◌, ◌⊎◌, ◌≤◌, ℕ, List, ◌++◌, ◌∷◌, codes, Some}
use Rattle.oai_item.specs.declared.forms.Forms.{Forms}
use Rattle.oai_item.specs.declared.forms.Forms.TheVariants.{Fields, Elements}
use Rattle.serde_json.specs.Data.{Data, Members, depth, null, object, put}
use Rattle.serde_json.specs.Read.{max_depth, read}
use Rattle.oai_json.specs.Json.{json_in}

-- its name
abbrev pub program : List ℕ
program = codes "oaihostd"

-- the version: 1 of a journal whose records are lists of fields alone, 2 of one whose records may be elements
abbrev pub version_of : Forms → List ℕ
version_of Fields = codes "1"
version_of Elements = codes "2"

-- its body: the version, a line end, and the bytes of the configuration
abbrev pub versioned_body : Forms → List ℕ → List ℕ
versioned_body forms config = version_of forms ++ 10 ∷ config

-- that of a journal that is begun, or is a checkpoint
abbrev pub first_body : List ℕ → List ℕ
first_body config = versioned_body Elements config

-- a configuration without its cache: null takes its place
abbrev pub but_cache : Members → Data
but_cache members = object (put (codes "cache") null members)

-- two values are equal, as far as they nest no deeper than the parser reads
abbrev pub AreSame : Data → Data → Type 0
AreSame d e = depth d ≤ max_depth → depth e ≤ max_depth → d ≡ e

-- two configurations are the same, or JSON objects that are equal, ignoring the size of the cache
abbrev pub IsSameConfig : List ℕ → List ℕ → Type 0
IsSameConfig config other =
    (config ≡ other)
    ⊎ ((ms ns : Members) × (json_in config ≡ Some (object ms)) × (json_in other ≡ Some (object ns)) × AreSame (but_cache ms) (but_cache ns))

-- the first record of a journal has this program's name, the version whose records have these forms, and the configuration, ignoring the size
-- of the cache
abbrev pub IsOf : Forms → List ℕ → List ℕ → List ℕ → Type 0
IsOf forms name body text = (name ≡ program) × (config : List ℕ) × (body ≡ versioned_body forms config) × IsSameConfig config text

-- the text is a JSON object, and this is what is written for it without its cache, which parses as the same
abbrev pub IsWrittenFor : List ℕ → List ℕ → Type 0
IsWrittenFor text written =
    (ms : Members) × (json_in text ≡ Some (object ms)) × (depth (but_cache ms) ≤ max_depth → read written ≡ Some (but_cache ms))
