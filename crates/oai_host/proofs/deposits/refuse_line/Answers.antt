-- The clock is moved, and the cause is the answer.
use Rattle.std.proofs.Common.{◌++◌, ◌∷◌, [], List, ℕ, FitsSigned, w64, refl, sym, ap}
use Rattle.std.proofs.lemmas.Int.{to_z-of_z}
use Rattle.oai_item.specs.Refusals.{in_line, refusal_line}
use Rattle.oai_repo.specs.Machine.{act, outcome_output}
use Rattle.oai_repo.specs.State.{RepoState}
use Rattle.oai_host.proofs.RoomLemmas.{spends_none}
use Rattle.oai_host.proofs.deposits.refuse_line.Goals as goal

pub returns : goal.returns
unfolding outcome_output act
returns g c =
    let fits : FitsSigned w64 c.args.moment = c.ranges.moment in
    let text : List ℕ = refusal_line (in_line c.args.cause) ++ 10 ∷ [] in
    let state = simp to_z-of_z at c.advance.ensures.moved in
    let store = spends_none g.V.Versions c.args.store.now c.advance.new.store c.advance.ensures.store in record {
      ok = record { so = record { told = refl; state = state }; exact = λ _. ap (λ (s : RepoState). (text, s)) (sym state) };
      writable = tt;
      err = tt;
      kept = c.advance.ensures.keeps;
      store = record {
        room = record { enough = tt; used = store.room.used };
        device = record { count = store.device.count; device = tt };
        honesty = record { same = store.honesty.same; damaged = tt };
      };
    }
