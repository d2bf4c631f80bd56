-- Whether a further list may begin, by the table and by the state that it stands for.
use Rattle.std.proofs.Common.{◌≡◌, ◌∙◌, ℕ, ℤ, pos, Bool, true, false, eqb, cond, length, Option, None, Some, Ok, Err, ◌<◌, refl, sym, ap, arith}
use Rattle.std.specs.Prelude.{nat_le}
use Rattle.std.proofs.lemmas.Bool.{leb-false}
use Rattle.std.proofs.lemmas.List.{length-map}
use Rattle.oai_catalogue.specs.Store.{VersionLists}
use Rattle.oai_lists.specs.OpenLists.{IsListOpening, Table, number_or_fault, open_fault, open_ones}
use Rattle.oai_lists.specs.declared.lists.OpenListFault.{OpenListFault}
use Rattle.oai_lists.specs.declared.lists.OpenListFault.TheVariants.{Full, NumbersSpent, NoMemory}
use Rattle.oai_lists.specs.declared.open_lists.OpenList.{OpenList}
use Rattle.oai_lists.specs.declared.lists.TheConstants.{LAST_NUMBER}
use Rattle.oai_settings.specs.Config.{RepositoryConfig}
use Rattle.oai_repo.specs.Fields.{open_lists_of, frozen_in}
use Rattle.oai_repo.specs.Listing.{seconds_to_end, wait_at}

-- the cause, by the two tests
fault_of : Bool → Bool → Option OpenListFault
fault_of full spent = cond full (Some Full) (cond spent (Some NumbersSpent) None)

waits_of : Bool → Bool → ℤ → ℤ → Option ℤ
waits_of full spent end life = cond full (Some end) (cond spent (Some life) None)

-- may it begin, it has the next number
begins_if : (full spent : Bool) (next number : ℕ) (end life : ℤ) → number_or_fault (fault_of full spent) next ≡ Ok number → (waits_of full spent end life ≡ None) × (number ≡ next)
unfolding fault_of waits_of
begins_if true spent next number end life h = cc
begins_if false true next number end life h = cc
begins_if false false next number end life h = (refl, cc)

waits_if_full : (full spent : Bool) (next : ℕ) (end life : ℤ) → number_or_fault (fault_of full spent) next ≡ Err Full → waits_of full spent end life ≡ Some end
unfolding fault_of waits_of
waits_if_full true spent next end life h = refl
waits_if_full false true next end life h = cc
waits_if_full false false next end life h = cc

waits_if_spent : (full spent : Bool) (next : ℕ) (end life : ℤ) → number_or_fault (fault_of full spent) next ≡ Err NumbersSpent → waits_of full spent end life ≡ Some life
unfolding fault_of waits_of
waits_if_spent true spent next end life h = cc
waits_if_spent false true next end life h = refl
waits_if_spent false false next end life h = cc

full_in : Table → ℤ → Bool
full_in table now = nat_le table.limit (length (open_ones now table.lists))

fault_is : (table : Table) (now : ℤ) → open_fault table now ≡ fault_of (full_in table now) (eqb table.next LAST_NUMBER)
unfolding open_fault fault_of full_in
fault_is table now = refl

waits_is : (config : RepositoryConfig) (now : ℤ) (table : Table) (all : VersionLists) → table.limit ≡ config.lists
    → wait_at config now (open_lists_of now table all) ≡ waits_of (full_in table now) (eqb table.next LAST_NUMBER) (seconds_to_end now (open_lists_of now table all).lists) (pos config.lifetime)
unfolding wait_at waits_of full_in
waits_is config now table all limit =
    ap (λ n. cond (nat_le config.lists n) (Some (seconds_to_end now (open_lists_of now table all).lists)) (cond (eqb table.next LAST_NUMBER) (Some (pos config.lifetime)) None)) (length-map (open_ones now table.lists) (frozen_in all))
    ∙ ap (λ n. cond (nat_le n (length (open_ones now table.lists))) (Some (seconds_to_end now (open_lists_of now table all).lists)) (cond (eqb table.next LAST_NUMBER) (Some (pos config.lifetime)) None)) (sym limit)

-- where none refuses a list, fewer are open than may be
not_full : (full spent : Bool) → fault_of full spent ≡ None → full ≡ false
unfolding fault_of
not_full true spent h = cc
not_full false spent h = refl

pub room_for_one : (table : Table) (now : ℤ) → open_fault table now ≡ None → length (open_ones now table.lists) < table.limit
unfolding full_in
room_for_one table now h =
    omega (arith, leb-false table.limit (length (open_ones now table.lists)) (not_full (full_in table now) (eqb table.next LAST_NUMBER) (sym (fault_is table now) ∙ h)))

pub may_begin : (config : RepositoryConfig) (now : ℤ) (table : Table) (all : VersionLists) (number : ℕ) → table.limit ≡ config.lists → number_or_fault (open_fault table now) table.next ≡ Ok number
    → (wait_at config now (open_lists_of now table all) ≡ None) × (number ≡ table.next)
may_begin config now table all number limit h =
    let parts = begins_if (full_in table now) (eqb table.next LAST_NUMBER) table.next number (seconds_to_end now (open_lists_of now table all).lists) (pos config.lifetime) (sym (ap (λ f. number_or_fault f table.next) (fault_is table now)) ∙ h) in
    (waits_is config now table all limit ∙ parts.0, parts.1)

pub waits_full : (config : RepositoryConfig) (now : ℤ) (table : Table) (all : VersionLists) → table.limit ≡ config.lists → number_or_fault (open_fault table now) table.next ≡ Err Full
    → wait_at config now (open_lists_of now table all) ≡ Some (seconds_to_end now (open_lists_of now table all).lists)
waits_full config now table all limit h =
    waits_is config now table all limit
    ∙ waits_if_full (full_in table now) (eqb table.next LAST_NUMBER) table.next (seconds_to_end now (open_lists_of now table all).lists) (pos config.lifetime) (sym (ap (λ f. number_or_fault f table.next) (fault_is table now)) ∙ h)

pub waits_spent : (config : RepositoryConfig) (now : ℤ) (table : Table) (all : VersionLists) → table.limit ≡ config.lists → number_or_fault (open_fault table now) table.next ≡ Err NumbersSpent
    → wait_at config now (open_lists_of now table all) ≡ Some (pos config.lifetime)
waits_spent config now table all limit h =
    waits_is config now table all limit
    ∙ waits_if_spent (full_in table now) (eqb table.next LAST_NUMBER) table.next (seconds_to_end now (open_lists_of now table all).lists) (pos config.lifetime) (sym (ap (λ f. number_or_fault f table.next) (fault_is table now)) ∙ h)

-- to look whether it may begin takes no memory
spends_nothing : (full spent : Bool) (next : ℕ) → number_or_fault (fault_of full spent) next ≡ Err NoMemory → ⊥
unfolding fault_of
spends_nothing true spent next h = cc
spends_nothing false true next h = cc
spends_nothing false false next h = cc

pub takes_no_memory : (table : Table) (now : ℤ) → number_or_fault (open_fault table now) table.next ≡ Err NoMemory → ⊥
takes_no_memory table now h =
    spends_nothing (full_in table now) (eqb table.next LAST_NUMBER) table.next (sym (ap (λ f. number_or_fault f table.next) (fault_is table now)) ∙ h)

-- a list that was not opened has left the table as it was
pub opening_failed : (old : Table) (now : ℤ) (list : OpenList) (fault : OpenListFault) (new : Table) → IsListOpening old now list (Err fault) new → new ≡ old
opening_failed old now list Full new h = h.1
opening_failed old now list NumbersSpent new h = h.1
opening_failed old now list NoMemory new h = h.1
