use Rattle.oai_front.proofs.fields.read_fields.Goals as goal

pub loop-header-init : goal.loop-header-init
loop-header-init c = c.new-fields.ensures c.args.bytes.now
