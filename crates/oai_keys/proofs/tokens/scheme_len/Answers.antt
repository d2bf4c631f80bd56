-- Where no place is found, all stands before the first white space.
use Rattle.std.proofs.Common.{◌≡◌, ℕ, ◌≤◌, nat_lt, length, None, Some, cond, arith, sym, ◌∙◌}
use Rattle.std.specs.List.{position_or_len}
use Rattle.std.proofs.lemmas.List.Sums.{prefix_len-le-length}
use Rattle.std.proofs.lemmas.Bool.{lt-ltb}
use Rattle.httparse.specs.Grammar.{is_ows}
use Rattle.oai_keys.proofs.tokens.scheme_len.Goals as goal

none_at : (a b : ℕ) → a ≤ b → None ≡ cond (nat_lt a b) (Some a) None → b ≡ a
none_at a b within is = grind (arith, lt-ltb)

pub returns-in-None-clause-length : goal.returns-in-None-clause-length
returns-in-None-clause-length c =
    let text = c.args.credentials.now in
    none_at (position_or_len is_ows text) (length text) (prefix_len-le-length _ text) (sym c.in-None.is ∙ c.first_space.ensures)
