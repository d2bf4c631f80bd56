use Rattle.std.proofs.Common.{◌≡◌, ◌∙◌, ◌||◌, ◌∷◌, [], refl, sym, ap, Bool}
use Rattle.httparse.specs.Spans.{header_bytes}
use Rattle.oai_front.specs.Fields.{any_close}
use Rattle.oai_front.proofs.FieldLemmas.{close_more}
use Rattle.oai_front.proofs.fields.HeadFields.add.Goals as goal
use Rattle.oai_front.proofs.fields.HeadFields.add.Goals.{then-self, else-self}

pub returns : goal.returns
returns c = λ fields read.
    let field = header_bytes c.args.bytes.now c.args.header.now in
    let joined : c.if-self.self ≡ (c.args.self.now.is_close || any_close (field ∷ [])) = elim c.if-self.branch [ then-self w ↦ rw (w.self-is, w.if-self.true) refl | else-self w ↦ rw (w.self-is, w.if-self.false) w.closes-self.ensures ] in
    record {
      host = c.add.ensures fields read.host;
      transfer_encoding = c.add-2.ensures fields read.transfer_encoding;
      content_length = c.add-3.ensures fields read.content_length;
      content_type = c.add-4.ensures fields read.content_type;
      authorization = c.add-5.ensures fields read.authorization;
      close = joined ∙ ap (λ (b : Bool). b || any_close (field ∷ [])) read.close ∙ sym (close_more fields field);
    }
