-- Formats that keep their rules, and what is kept of theirs, are written so that they can be cut off; so equal documents show the same.
use Rattle.std.proofs.Common.{◌≡◌, ◌∙◌, true, List, [], ◌∷◌, append-nil, refl, sym}
use Rattle.std.specs.List.{list_all}
use Rattle.std.proofs.lemmas.Bool.{and_from, and_parts}
use Rattle.oai_item.specs.Item.{ItemState, fields_in}
use Rattle.oai_item.specs.declared.formats.Format.{Format}
use Rattle.oai_answers.specs.Answers.{Dissemination, Document, Page, VerbAnswer, fails, gives_record, identifies, lists_formats, lists_headers, lists_records, lists_sets}
use Rattle.oai_answers.specs.Documents.{document}
use Rattle.oai_answers.specs.Seen.{IsGoodFormat, IsRegular, document_seen, has_own_fields}
use Rattle.oai_answers.proofs.DocumentCuts.{document_cut, is_plain_answer, is_plain_record}
use Rattle.oai_answers.proofs.NamedTrees.{plain_content}

plain_record : (d : Dissemination) → IsGoodFormat d.format → has_own_fields d.format d.item ≡ true → is_plain_record d ≡ true
plain_record d good own = plain_content d.format (fields_in d.format.prefix d.item.formats) good own

plain_records : (format : Format) (page : Page) (items : List ItemState) → IsGoodFormat format → list_all (has_own_fields format) items ≡ true
    → list_all (λ (item : ItemState). is_plain_record (record { item = item; granularity = page.granularity; format = format })) items ≡ true
plain_records format page [] good h = refl
plain_records format page (item ∷ items) good h =
    let parts = and_parts (has_own_fields format item) (list_all (has_own_fields format) items) h in
    and_from _ _ (plain_record (record { item = item; granularity = page.granularity; format = format }) good parts.0) (plain_records format page items good parts.1)

regular_plain : (answer : VerbAnswer) → IsRegular answer → is_plain_answer answer ≡ true
regular_plain (fails code) h = refl
regular_plain (identifies d) h = h
regular_plain (lists_formats formats) h = refl
regular_plain (lists_sets sets) h = h
regular_plain (gives_record d) h = plain_record d h.0 h.1
regular_plain (lists_headers page) h = refl
regular_plain (lists_records format page) h = plain_records format page page.items h.0 h.1

-- ---- documents

pub same_seen : (a b : Document) → IsRegular a.answer → IsRegular b.answer → document a ≡ document b → document_seen a ≡ document_seen b
same_seen a b ga gb same =
    (document_cut.cut a b [] [] (regular_plain a.answer ga) (regular_plain b.answer gb) refl refl (append-nil (document a) ∙ same ∙ sym (append-nil (document b)))).0
