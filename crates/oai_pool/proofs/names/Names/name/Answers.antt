-- The last of the free numbers is one that was given, and is named by nobody. Where none is free, the next is the one behind all counts.
use Rattle.std.proofs.Common.{◌≡◌, ◌+◌, ◌++◌, ◌∷◌, [], arith, ap, ◌∙◌, append-nil, vec_len, is_ok, true}
use Rattle.oai_pool.proofs.NamesLemmas.{listed_taken, listed_added, names_taken, names_added, last_is_given, used-added, used-taken}
use Rattle.oai_pool.specs.Counts.{used_of}
use Rattle.oai_pool.proofs.names.Names.name.Goals as goal

pub index_mut-requires : goal.index_mut-requires
index_mut-requires c =
    let names = c.args.self.now in
    let given = last_is_given names.counts.items names.free.items c.pop.new.self.items c.in-Some.no c.in-Some.ensures.items names.listed in
    omega (arith, given.0, names.counts.ok.0)

pub invariant_of-self-clause-listed : goal.invariant_of-self-clause-listed
invariant_of-self-clause-listed c =
    let names = c.args.self.now in
    listed_taken names.counts.items names.free.items c.pop.new.self.items c.in-Some.no c.in-Some.ensures.items names.listed

pub invariant_of-self-in-None-clause-listed : goal.invariant_of-self-in-None-clause-listed
invariant_of-self-in-None-clause-listed c =
    let names = c.args.self.now in
    let done : is_ok c.push.result ≡ true = c.push.ensures.succeeds (c.requires.room c.in-None.ensures.cases.0) in
    let pushed : c.push.new.self.items ≡ names.counts.items ++ 1 ∷ [] = rw done at c.push.ensures.items in
    let same : names.free.items ≡ c.pop.new.self.items = c.in-None.ensures.items ∙ append-nil c.pop.new.self.items in
    listed_added names.counts.items c.push.new.self.items names.free.items c.pop.new.self.items pushed same names.listed

pub returns-in-Some-clause-counts : goal.returns-in-Some-clause-counts
returns-in-Some-clause-counts c =
    let names = c.args.self.now in
    names_taken names.counts.items names.free.items c.pop.new.self.items c.in-Some.no c.in-Some.ensures.items names.listed

pub returns-in-None-clause-counts : goal.returns-in-None-clause-counts
returns-in-None-clause-counts c =
    let names = c.args.self.now in
    let done : is_ok c.push.result ≡ true = c.push.ensures.succeeds (c.requires.room c.in-None.ensures.cases.0) in
    let pushed : c.push.new.self.items ≡ names.counts.items ++ 1 ∷ [] = rw done at c.push.ensures.items in
    names_added names.counts.items c.push.new.self.items names.free.items pushed (omega (arith, c.in-None.ensures.cases.0, names.free.ok.0))

pub invariant_of-self-clause-parted : goal.invariant_of-self-clause-parted
invariant_of-self-clause-parted c =
    let names = c.args.self.now in
    let given = last_is_given names.counts.items names.free.items c.pop.new.self.items c.in-Some.no c.in-Some.ensures.items names.listed in
    omega (arith, names.parted, c.in-Some.ensures.cases, used-taken names.counts.items c.in-Some.no given.0 given.1)

pub invariant_of-self-in-None-clause-parted : goal.invariant_of-self-in-None-clause-parted
invariant_of-self-in-None-clause-parted c =
    let names = c.args.self.now in
    let done : is_ok c.push.result ≡ true = c.push.ensures.succeeds (c.requires.room c.in-None.ensures.cases.0) in
    let pushed : c.push.new.self.items ≡ names.counts.items ++ 1 ∷ [] = rw done at c.push.ensures.items in
    let len : vec_len c.push.new.self ≡ vec_len names.counts + 1 = rw done at c.push.ensures.len in
    let used : used_of c.push.new.self.items ≡ used_of names.counts.items + 1 = ap used_of pushed ∙ used-added names.counts.items in
    omega (arith, names.parted, c.in-None.ensures.cases, used, len)
