-- Over an honest store what is left can be stored.
use Rattle.std.proofs.Common.{◌∙◌, refl, rules, sym}
use Rattle.std.proofs.lemmas.Bool.{false_from_ne_true}
use Rattle.oai_holdings.proofs.KeptLemmas.{small_fits}
use Rattle.oai_holdings.proofs.changes.deletions.put_left.Goals as goal

pub returns-then-is_err-clause-store : goal.returns-then-is_err-clause-store
returns-then-is_err-clause-store g c = record {
  room = search rules;
  device = search rules;
  honesty = record {
    same = refl;
    damaged = λ e. false_from_ne_true _ (λ honest. small_fits c.args.left.now c.encoded_len.result (c.requires.small honest) c.encoded_len.ensures (sym c.is_err.ensures.value ∙ c.if-is_err.true));
  };
}
