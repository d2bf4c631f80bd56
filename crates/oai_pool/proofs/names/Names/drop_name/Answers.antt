-- A number that is named no more goes behind the free ones, for which there is room: it was no free one, so they are fewer than the counts.
use Rattle.std.proofs.Common.{◌≡◌, ◌+◌, ◌-◌, ◌<◌, ◌++◌, ◌∷◌, [], arith, vec_len, vec_capacity, is_ok, true}
use Rattle.oai_pool.proofs.NamesLemmas.{listed_renamed, listed_dropped, used-dropped, used-renamed}
use Rattle.oai_pool.proofs.names.Names.drop_name.Goals as goal

pub invariant_of-self-clause-listed : goal.invariant_of-self-clause-listed
invariant_of-self-clause-listed c =
    let names = c.args.self.now in
    let room : vec_len names.free < vec_capacity names.free =
    omega (arith, names.parted, names.free_has_room, used-dropped names.counts.items c.args.no c.requires) in
    let done : is_ok c.push.result ≡ true = c.push.ensures.succeeds room in
    let pushed : c.push.new.self.items ≡ names.free.items ++ c.args.no ∷ [] = rw done at c.push.ensures.items in
    listed_dropped names.counts.items names.free.items c.push.new.self.items c.args.no _ c.if-count-eq0.true pushed c.requires names.listed

pub invariant_of-self-else-count-eq0-clause-listed : goal.invariant_of-self-else-count-eq0-clause-listed
invariant_of-self-else-count-eq0-clause-listed c =
    let names = c.args.self.now in
    listed_renamed names.counts.items names.free.items c.args.no _ c.requires (omega (arith, c.if-count-eq0.false)) names.listed

pub invariant_of-self-clause-parted : goal.invariant_of-self-clause-parted
invariant_of-self-clause-parted c =
    let names = c.args.self.now in
    let room : vec_len names.free < vec_capacity names.free =
    omega (arith, names.parted, names.free_has_room, used-dropped names.counts.items c.args.no c.requires) in
    let done : is_ok c.push.result ≡ true = c.push.ensures.succeeds room in
    let pushed : vec_len c.push.new.self ≡ vec_len names.free + 1 = rw done at c.push.ensures.len in
    rw c.if-count-eq0.true (omega (arith, names.parted, pushed, used-dropped names.counts.items c.args.no c.requires))

pub invariant_of-self-else-count-eq0-clause-parted :
    goal.invariant_of-self-else-count-eq0-clause-parted
invariant_of-self-else-count-eq0-clause-parted c =
    let names = c.args.self.now in
    omega (arith, names.parted, used-renamed names.counts.items c.args.no (c.index.result.now - 1) c.requires (omega (arith, c.if-count-eq0.false)))
