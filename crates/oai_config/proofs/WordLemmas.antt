-- The words for what is kept of deleted records, and for how fine the datestamps are.
use Rattle.std.proofs.Common.{◌≡◌, ℕ, Bool, true, false, cond, Some, None, List, codes, refl, ap, ◌∙◌}
use Rattle.std.specs.Str.{bytes_eq}
use Rattle.std.proofs.lemmas.Slice.Eq.{bytes_eq-Decides}
use Rattle.serde_json.specs.Data.{Data, string}
use Rattle.oai_time.specs.declared.granularity.Granularity.{Granularity}
use Rattle.oai_time.specs.declared.granularity.Granularity.TheVariants.{Day, Second}
use Rattle.oai_answers.specs.Documents.{deleted_text}
use Rattle.oai_item.specs.declared.deleted_record.DeletedRecord.{DeletedRecord}
use Rattle.oai_item.specs.declared.deleted_record.DeletedRecord.TheVariants.{No, Transient, Persistent}
use Rattle.oai_names.specs.Optional.{◌>>=◌}
use Rattle.oai_config.specs.Shapes.{deleted_of, deleted_at, granularity_of, granularity_at, granularity_word}
use Rattle.oai_config.specs.Written.{HasText}
use Rattle.oai_json.specs.Json.{text_at}
use Rattle.oai_json.proofs.MemberLemmas.{text_again, text_takes}
use Rattle.oai_json.proofs.ReadingLemmas.{Some-injective, bind-Some}

-- ---- what is kept

deleted_among : (t : List ℕ) (x : DeletedRecord) (no transient persistent : Bool) → bytes_eq t (codes "no") ≡ no → bytes_eq t (codes "transient") ≡ transient → bytes_eq t (codes "persistent") ≡ persistent
    → cond no (Some No) (cond transient (Some Transient) (cond persistent (Some Persistent) None)) ≡ Some x → t ≡ deleted_text x
deleted_among t x true transient persistent a b c is = (bytes_eq-Decides t (codes "no")).0 a ∙ ap deleted_text (Some-injective No x is)
deleted_among t x false true persistent a b c is = (bytes_eq-Decides t (codes "transient")).0 b ∙ ap deleted_text (Some-injective Transient x is)
deleted_among t x false false true a b c is = (bytes_eq-Decides t (codes "persistent")).0 c ∙ ap deleted_text (Some-injective Persistent x is)
deleted_among t x false false false a b c is = absurd cc

pub deleted_takes : (d : Data) (x : DeletedRecord) → deleted_at d ≡ Some x → HasText (codes "deletedRecord") (deleted_text x) d
unfolding deleted_at deleted_of
deleted_takes d x is =
    let p = bind-Some (text_at (codes "deletedRecord") d) deleted_of x is in
    text_takes (codes "deletedRecord") d p.0 p.1 ∙ ap (λ t. Some (string t)) (deleted_among p.0 x _ _ _ refl refl refl p.2)

deleted_text-read : (x : DeletedRecord) → deleted_of (deleted_text x) ≡ Some x
unfolding deleted_of
deleted_text-read No = refl
deleted_text-read Transient = refl
deleted_text-read Persistent = refl

pub deleted_again : (d : Data) (x : DeletedRecord) → HasText (codes "deletedRecord") (deleted_text x) d → deleted_at d ≡ Some x
unfolding deleted_at
deleted_again d x is = ap (λ o. o >>= deleted_of) (text_again (codes "deletedRecord") d (deleted_text x) is) ∙ deleted_text-read x

-- ---- how fine

granularity_among : (t : List ℕ) (x : Granularity) (days seconds : Bool) → bytes_eq t (codes "days") ≡ days → bytes_eq t (codes "seconds") ≡ seconds
    → cond days (Some Day) (cond seconds (Some Second) None) ≡ Some x → t ≡ granularity_word x
granularity_among t x true seconds a b is = (bytes_eq-Decides t (codes "days")).0 a ∙ ap granularity_word (Some-injective Day x is)
granularity_among t x false true a b is = (bytes_eq-Decides t (codes "seconds")).0 b ∙ ap granularity_word (Some-injective Second x is)
granularity_among t x false false a b is = absurd cc

pub granularity_takes : (d : Data) (x : Granularity) → granularity_at d ≡ Some x → HasText (codes "granularity") (granularity_word x) d
unfolding granularity_at granularity_of
granularity_takes d x is =
    let p = bind-Some (text_at (codes "granularity") d) granularity_of x is in
    text_takes (codes "granularity") d p.0 p.1 ∙ ap (λ t. Some (string t)) (granularity_among p.0 x _ _ refl refl p.2)

granularity_word-read : (x : Granularity) → granularity_of (granularity_word x) ≡ Some x
unfolding granularity_of
granularity_word-read Day = refl
granularity_word-read Second = refl

pub granularity_again : (d : Data) (x : Granularity) → HasText (codes "granularity") (granularity_word x) d → granularity_at d ≡ Some x
unfolding granularity_at
granularity_again d x is = ap (λ o. o >>= granularity_of) (text_again (codes "granularity") d (granularity_word x) is) ∙ granularity_word-read x
