-- A line of these tokens is the deposit that they spell.
use Rattle.std.proofs.Common.{◌≡◌, ℕ, suc, ◌-◌, Bool, true, false, ◌&&◌, Option, Some, inl, inr, List, [], ◌∷◌, ◌++◌, map, length, codes, refl, sym, ap, ◌∙◌, arith, append_assoc}
use Rattle.std.proofs.lemmas.List.{append-nil}
use Rattle.std.specs.Prelude.{option_and_then, option_map, slice_get}
use Rattle.std.specs.List.{flat_map}
use Rattle.std.specs.Str.{IsUtf8}
use Rattle.json.specs.Token.{Token}
use Rattle.json.specs.Json as json
use Rattle.json.specs.Lex.{tokens}
use Rattle.json.specs.Tree as tree
use Rattle.json.proofs.Printed.Trees.{value-json_tokens}
use Rattle.serde_json.specs.Data.{Data, string, object, put}
use Rattle.serde_json.specs.Read.{of_json, of_members, read}
use Rattle.oai_item.specs.declared.fields.Field.{Field}
use Rattle.oai_item.specs.Item.{is_before, are_rising}
use Rattle.oai_item.specs.declared.forms.Forms.{Forms}
use Rattle.oai_item.specs.declared.forms.Forms.TheVariants.{Elements, Fields}
use Rattle.oai_item.specs.declared.givens.Given.{Given}
use Rattle.oai_item.specs.declared.givens.Given.TheVariants.{Listed, Whole}
use Rattle.oai_json.specs.Json.{array_of, members_of, object_of}
use Rattle.oai_json.specs.Tokens.{array_tokens, text_tokens}
use Rattle.oai_json.proofs.JsonLemmas.{json_in-Some}
use Rattle.oai_json.proofs.TokenLemmas.{Spell, SpellMembers, array_spelled, text_spelled}
use Rattle.oai_deposit.specs.Lines.{LineRecord, are_records_of, deposits, is_of_forms, shape_of}
use Rattle.oai_deposit.specs.Shapes.{IsDeposit, written_field, written_given, written_record, written_records, written_texts}
use Rattle.oai_deposit.specs.Tokens.{field_tokens, given_tokens, record_tokens, records_tokens, sets_member, records_member, ArePartsBefore, IsDepositBefore, is_none_or_before, may_follow, IsDepositLine}
use Rattle.oai_deposit.proofs.ShapeLemmas.{shape_law_holds}
use Rattle.oai_deposit.proofs.ValueLemmas.{put_above}

-- ---- fields

field_spelled : (field : Field) → Spell 1 (field_tokens field) (written_field field)
field_spelled field = array_spelled 0 text_tokens string text_spelled (field.name ∷ field.text ∷ [])

fields_spelled : (fields : List Field) → Spell 2 (array_tokens field_tokens fields) (array_of (map written_field fields))
fields_spelled fields = array_spelled 1 field_tokens written_field field_spelled fields

-- ---- records, whose prefixes rise

left_true : (a b : Bool) → (a && b) ≡ true → a ≡ true
left_true true b h = refl
left_true false b h = absurd cc

right_true : (a b : Bool) → (a && b) ≡ true → b ≡ true
right_true true b h = h
right_true false b h = absurd cc

given_spelled : (given : Given) → Spell 2 (given_tokens given) (written_given given)
given_spelled (Listed fields) = fields_spelled fields
given_spelled (Whole text) = let one = text_spelled text in (one.0, one.1, one.2, omega (arith, one.3))

rising_rest : (a : LineRecord) (rs : List LineRecord) → are_rising (a ∷ rs) ≡ true → are_rising rs ≡ true
rising_rest a [] h = refl
rising_rest a (b ∷ rs) h = right_true (is_before a.0 b.0) (are_rising (b ∷ rs)) h

members_spelled : (done rs : List LineRecord) → are_rising (done ++ rs) ≡ true
    → SpellMembers 2 (flat_map record_tokens rs ++ Token.end_object ∷ []) (members_of (map written_record done)) (members_of (map written_record (done ++ rs)))
members_spelled done [] rise = (json.no_members, refl, ap (λ rs. Some (members_of (map written_record rs))) (sym (append-nil done)), omega arith)
members_spelled done (r ∷ rs) rise =
    let regroup : (done ++ r ∷ []) ++ rs ≡ done ++ r ∷ rs = append_assoc done (r ∷ []) rs in
    let one = given_spelled r.1 in
    let others = members_spelled (done ++ r ∷ []) rs (ap are_rising regroup ∙ rise) in (
      json.member r.0 one.0 others.0,
      ap (λ ts. Token.key r.0 ∷ (ts ++ tree.members_tokens others.0)) one.1
          ∙ ap (λ ts. Token.key r.0 ∷ (given_tokens r.1 ++ ts)) others.1
          ∙ sym (append_assoc (record_tokens r) (flat_map record_tokens rs) (Token.end_object ∷ [])),
      ap (option_and_then (λ d. of_members others.0 (put r.0 d (members_of (map written_record done))))) one.2
          ∙ ap (of_members others.0) (put_above done r rs (written_record r).1 refl rise)
          ∙ others.2
          ∙ ap (λ rs. Some (members_of (map written_record rs))) regroup,
      omega (arith, one.3, others.3),
    )

records_spelled : (rs : List LineRecord) → are_rising rs ≡ true → Spell 3 (records_tokens rs) (written_records rs)
records_spelled rs rise =
    let inside = members_spelled [] rs rise in
    (json.object inside.0, ap (λ ts. Token.begin_object ∷ ts) inside.1, ap (option_map object) inside.2, omega (arith, inside.3))

-- ---- the deposit

-- its value, of the members in the order of their names
abbrev alone_value : List ℕ → List (List ℕ) → List LineRecord → Data
alone_value i s r = object_of ((codes "deposit", string i) ∷ (codes "records", written_records r) ∷ (codes "sets", written_texts s) ∷ [])

-- its tokens, with those of its other members, in either order
abbrev deposit_tokens : List ℕ → List Token → List Token
deposit_tokens i parts = Token.begin_object ∷ Token.key (codes "deposit") ∷ Token.string i ∷ parts

deposit_spelled : (i : List ℕ) (s : List (List ℕ)) (r : List LineRecord) (parts : List Token) → are_rising r ≡ true
    → ArePartsBefore s r (Token.end_object ∷ []) parts → Spell 4 (deposit_tokens i parts) (alone_value i s r)
deposit_spelled i s r parts rise (inl are) =
    let sets = array_spelled 0 text_tokens string text_spelled s in
    let records = records_spelled r rise in (
      json.object (json.member (codes "deposit") (json.string i) (json.member (codes "sets") sets.0 (json.member (codes "records") records.0 json.no_members))),
      ap (λ ts. deposit_tokens i (Token.key (codes "sets") ∷ (ts ++ Token.key (codes "records") ∷ (tree.json_tokens records.0 ++ Token.end_object ∷ [])))) sets.1
          ∙ ap (λ ts. deposit_tokens i (sets_member s ++ Token.key (codes "records") ∷ (ts ++ Token.end_object ∷ []))) records.1
          ∙ ap (deposit_tokens i) (sym are),
      rw (sets.2, records.2) refl,
      omega (arith, sets.3, records.3),
    )
deposit_spelled i s r parts rise (inr are) =
    let sets = array_spelled 0 text_tokens string text_spelled s in
    let records = records_spelled r rise in (
      json.object (json.member (codes "deposit") (json.string i) (json.member (codes "records") records.0 (json.member (codes "sets") sets.0 json.no_members))),
      ap (λ ts. deposit_tokens i (Token.key (codes "records") ∷ (ts ++ Token.key (codes "sets") ∷ (tree.json_tokens sets.0 ++ Token.end_object ∷ [])))) records.1
          ∙ ap (λ ts. deposit_tokens i (records_member r ++ Token.key (codes "sets") ∷ (ts ++ Token.end_object ∷ []))) sets.1
          ∙ ap (deposit_tokens i) (sym are),
      rw (sets.2, records.2) refl,
      omega (arith, sets.3, records.3),
    )

alone_deposit : (forms : Forms) (i : List ℕ) (s : List (List ℕ)) (r : List LineRecord) → are_records_of forms r ≡ true → IsDeposit forms i s r [] (alone_value i s r)
alone_deposit Fields i s r formed = record { deposit = refl; sets = refl; records = refl; about = refl; under = refl; formed = formed; no_other = refl }
alone_deposit Elements i s r formed = record { deposit = refl; sets = refl; records = refl; about = refl; under = refl; formed = formed; no_other = refl }

deposit_shape_is : (forms : Forms) (i : List ℕ) (s : List (List ℕ)) (r : List LineRecord) → are_records_of forms r ≡ true
    → shape_of forms (alone_value i s r) ≡ Some (deposits i s r [])
deposit_shape_is forms i s r formed = ((shape_law_holds forms (alone_value i s r)).fits (deposits i s r [])).1 (alone_deposit forms i s r formed)

-- the value of a text whose tokens were read
abbrev whole : Option (json.Json × List Token) → Option Data
whole o = option_and_then of_json (option_and_then (λ p. json.if_last p.0 p.1) o)

spelled_reads : (text : List ℕ) (ts : List Token) (d : Data) → tokens text ≡ ts → Spell 4 ts d → read text ≡ Some d
spelled_reads text ts d same spelled =
    ap whole (ap (json.value 127) (same ∙ sym spelled.1 ∙ sym (append-nil (tree.json_tokens spelled.0))) ∙ value-json_tokens spelled.0 127 [] (omega (arith, spelled.3)))
    ∙ spelled.2

pub is_deposit_line : (forms : Forms) (line text : List ℕ) (i : List ℕ) (s : List (List ℕ)) (r : List LineRecord) → text ≡ line → IsUtf8 line → are_rising r ≡ true
    → are_records_of forms r ≡ true → IsDepositBefore i s r [] (tokens text) → IsDepositLine forms line i s r
is_deposit_line forms line text i s r same utf8 rise formed before =
    let reads = spelled_reads text (deposit_tokens i before.0) (alone_value i s r) before.1 (deposit_spelled i s r before.0 rise before.2) in
    (alone_value i s r, json_in-Some line (alone_value i s r) utf8 (ap read (sym same) ∙ reads), deposit_shape_is forms i s r formed)

-- ---- loops

-- the prefix behind the last one
pub rising_more : (rs : List LineRecord) (r : LineRecord) → are_rising rs ≡ true → may_follow rs r.0 ≡ true → are_rising (rs ++ r ∷ []) ≡ true
rising_more [] r rise follows = refl
rising_more (a ∷ []) r rise follows = rw follows refl
rising_more (a ∷ b ∷ rs) r rise follows =
    let place : suc (suc (length rs) - 1) ≡ suc (suc (length rs)) - 1 = omega arith in
    let follows : may_follow (b ∷ rs) r.0 ≡ true = ap (λ n. is_none_or_before (slice_get (a ∷ b ∷ rs) n) r.0) place ∙ follows in
    rw (left_true (is_before a.0 b.0) (are_rising (b ∷ rs)) rise) (rising_more (b ∷ rs) r (rising_rest a (b ∷ rs) rise) follows)

-- and of the forms
pub formed_more : (forms : Forms) (rs : List LineRecord) (r : LineRecord) → are_records_of forms rs ≡ true → is_of_forms forms r.1 ≡ true
    → are_records_of forms (rs ++ r ∷ []) ≡ true
formed_more forms [] r formed is = rw is refl
formed_more forms (a ∷ rs) r formed is =
    rw (left_true (is_of_forms forms a.1) (are_records_of forms rs) formed) (formed_more forms rs r (right_true (is_of_forms forms a.1) (are_records_of forms rs) formed) is)
