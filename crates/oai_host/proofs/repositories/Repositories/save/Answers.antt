-- Each repository hands its parts over behind those before it.
use Rattle.std.proofs.Common.{◌≡◌, ◌∙◌, ◌<◌, ◌≤◌, List, ap, get_or, length, refl, subst, sym}
use Rattle.std.proofs.SliceLists.{take_long}
use Rattle.oai_catalogue.specs.Store.{VersionLists}
use Rattle.oai_repo.specs.Fields.{HasNumbersIn, IsStored}
use Rattle.oai_host.specs.NamedRepos.{repositories_of}
use Rattle.oai_host.specs.Saving.{TakesAll}
use Rattle.oai_host.specs.declared.repositories.NamedRepo.{NamedRepo}
use Rattle.oai_host.proofs.NamedRepoLemmas.{held_at, stands_at}
use Rattle.oai_host.proofs.RestoreLemmas.{got_there}
use Rattle.oai_host.proofs.SavedLemmas.{all_more, all_none}
use Rattle.oai_host.proofs.repositories.Repositories.save.Goals as goal

pub loop-one-init : goal.loop-one-init
loop-one-init g c = record {
  items = c.deref-one-items.ensures.value ∙ c.self.view_is;
  same = refl;
  honesty = refl;
  saved = λ _. all_none g.S.Sink.has c.args.raise c.args.sink.now;
}

pub save-requires : goal.save-requires
save-requires g c =
    let V = g.V.Versions in
    let repos : List NamedRepo = c.args.self.now in
    let one : NamedRepo = c.one-item.result in
    let i = c.loop-one.one-index in
    let inv = c.loop-one.invariant in
    let within : i < length repos = subst (λ (xs : List NamedRepo). i < length xs) inv.items c.loop-one-test.true in
    let is : one ≡ get_or repos i one = c.one-item.is ∙ ap (λ (xs : List NamedRepo). get_or xs i one) inv.items in
    let there = got_there repos i one within is in
    let lists : VersionLists = V.lists c.args.store.now in
    record {
      stands = subst (λ (l : VersionLists). HasNumbersIn one.repo l) (sym inv.same) (stands_at repos i one lists there c.requires.stand);
      held = λ honest. subst (λ (l : VersionLists). IsStored one.repo l) (sym inv.same) (held_at repos i one lists there (c.requires.held (sym inv.honesty ∙ honest)));
    }

pub loop-one-preserved : goal.loop-one-preserved
loop-one-preserved g c =
    let V = g.V.Versions in
    let repos : List NamedRepo = c.args.self.now in
    let one : NamedRepo = c.one-item.result in
    let i = c.loop-one.one-index in
    let inv = c.loop-one.invariant in
    let within : i < length repos = subst (λ (xs : List NamedRepo). i < length xs) inv.items c.loop-one-test.true in
    let is : one ≡ get_or repos i one = c.one-item.is ∙ ap (λ (xs : List NamedRepo). get_or xs i one) inv.items in
    record {
      items = inv.items;
      same = c.save.ensures.same ∙ inv.same;
      honesty = c.save.ensures.honesty ∙ inv.honesty;
      saved = λ honest.
          all_more g.S.Sink.has c.args.raise repos (V.lists c.args.store.now) (V.lists c.loop-one.store) i one c.args.sink.now c.loop-one.sink c.save.new.sink within is inv.same (inv.saved honest)
          (c.in_ok-save.ensures.saved (inv.honesty ∙ honest));
    }

pub returns-clause-saved : goal.returns-clause-saved
returns-clause-saved g c =
    λ honest.
    let repos : List NamedRepo = c.args.self.now in
    let i = c.loop-one.one-index in
    let end : length repos ≤ i = subst (λ (xs : List NamedRepo). length xs ≤ i) c.loop-one.invariant.items c.loop-one-test.false in
    subst (λ (xs : List NamedRepo). TakesAll g.S.Sink.has c.args.raise (repositories_of xs (g.V.Versions.lists c.args.store.now)) c.args.sink.now c.loop-one.sink) (take_long repos i end)
    (c.loop-one.invariant.saved honest)
