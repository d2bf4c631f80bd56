use Rattle.std.proofs.Common.{drop, map, take, ap, ◌∙◌}
use Rattle.std.specs.Prelude.{codes}
use Rattle.httparse.specs.Spans.{header_bytes, span_bytes}
use Rattle.oai_http.specs.Targets.{parsed_path}
use Rattle.oai_http.specs.declared.targets.TargetPath.{TargetPath}
use Rattle.oai_front.proofs.HeadLemmas.{read_begins, read_framing, read_value, within_len}
use Rattle.oai_front.proofs.request_heads.kept_of.Goals as goal

pub returns-in-Refused : goal.returns-in-Refused
returns-in-Refused c =
    let bytes = c.args.bytes.now in
    let headers = c.args.headers.now in
    let spans = c.args.spans.now in
    let at = c.requires.read.1 in
    let path = c.parse_path-path.ensures ∙ ap parsed_path c.of.ensures in
    let endpoint = ap (λ (p : TargetPath). p.endpoint) path in
    let framing = c.framing_of.ensures (span_bytes bytes spans.path) (map (header_bytes bytes) (take spans.headers headers)) endpoint c.read_fields-fields.ensures in
    record {
      head = c.requires.read.0;
      behind = drop spans.len bytes;
      begins = read_begins bytes headers spans c.requires.read.0 c.requires.short c.requires.few c.requires.within at;
      framing = read_framing bytes headers spans c.requires.read.0 c.framing_of.result at framing ∙ c.in-Refused.is;
    }

pub returns-in-Body : goal.returns-in-Body
returns-in-Body c =
    let bytes = c.args.bytes.now in
    let headers = c.args.headers.now in
    let spans = c.args.spans.now in
    let at = c.requires.read.1 in
    let fits = c.requires.within.section.len_fits in
    let path = c.parse_path-path.ensures ∙ ap parsed_path c.of.ensures in
    let endpoint = ap (λ (p : TargetPath). p.endpoint) path in
    let read = c.read_fields-fields.ensures in
    let framing = c.framing_of.ensures (span_bytes bytes spans.path) (map (header_bytes bytes) (take spans.headers headers)) endpoint read in
    record {
      head = c.requires.read.0;
      behind = drop spans.len bytes;
      begins = read_begins bytes headers spans c.requires.read.0 c.requires.short c.requires.few c.requires.within at;
      framing = read_framing bytes headers spans c.requires.read.0 c.framing_of.result at framing ∙ c.in-Body.is;
      start = at.len;
      method_in = within_len bytes spans.len spans.method fits c.requires.within.method;
      method = at.method;
      target_in = within_len bytes spans.len spans.path fits c.requires.within.path;
      target = at.path;
      path = path ∙ ap parsed_path at.path;
      type_in = read.content_type.within;
      content_type = read_value (codes "Content-Type") bytes headers spans c.requires.read.0 _ at read.content_type.first;
      key_in = read.authorization.within;
      authorization = read_value (codes "Authorization") bytes headers spans c.requires.read.0 _ at read.authorization.first;
    }
