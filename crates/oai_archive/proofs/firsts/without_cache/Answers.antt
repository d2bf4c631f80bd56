use Rattle.std.proofs.Common.{◌≡◌, codes, Some, ap, ◌∙◌, option_map, string_bytes}
use Rattle.serde_json.specs.Data.{object, put}
use Rattle.serde_json.specs.Read.{read}
use Rattle.serde_json.specs.View.{members_view, view}
use Rattle.serde_json.specs.declared.value.Value.{Null, Object}
use Rattle.serde_json.proofs.Views.{view-Object}
use Rattle.oai_archive.specs.Firsts.{but_cache}
use Rattle.oai_archive.proofs.FirstLemmas.{read_again, view-Null}
use Rattle.oai_archive.proofs.firsts.without_cache.Goals as goal

pub returns-in-Some-Object : goal.returns-in-Some-Object
returns-in-Some-Object c =
    let read_so = c.in_ok-members.ensures.ok ∙ ap (option_map view) (c.in-Some-Object.is ∙ ap Some c.in-Some-Object.field-0-is)
    ∙ ap Some (view-Object c.in-Some-Object.members) in
    let ms = members_view c.in-Some-Object.members.entries in
    let made : view (Object c.put.new.map) ≡ but_cache ms = view-Object c.put.new.map ∙ ap object (c.in_ok-put-in-Some-Object.ensures.ok
    ∙ ap (λ m. put (codes "cache") (view Null) (members_view m.entries)) c.in-Some-Object.members-is ∙ ap (λ d. put (codes "cache") d ms) view-Null) in
    (ms, read_so, read_again (view (Object c.put.new.map)) (but_cache ms) (read (string_bytes c.in_ok-to_string-in-Some-Object.field-0)) made c.in_ok-to_string-in-Some-Object.ensures.reads_back)
