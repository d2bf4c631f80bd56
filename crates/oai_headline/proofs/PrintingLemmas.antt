-- What prints a token is the answer to a request: the answer to a deposit does not begin as a document does.
use Rattle.std.proofs.Common.{◌≡◌, ◌∙◌, inl, inr, ℕ, ℤ, List, [], ◌∷◌, ◌++◌, codes, Option, None, Some, Result, Ok, Err, refl, sym, ap, subst, arith}
use Rattle.oai_item.specs.Refusals.{Cause, in_line, in_repository, refusal_line}
use Rattle.oai_deposit.specs.declared.changes.Change.{Change}
use Rattle.oai_item.specs.declared.refusals.ChangeRefusal.{ChangeRefusal}
use Rattle.oai_item.specs.declared.refusals.ChangeRefusal.TheVariants.{AlreadyDeleted, BadDate, DropsFormat, NoDc, NoParent, NoSuchItem, NotOfFormat, NotTransient, SetExists, TooLarge, TooManyItems, TooManySets, UnknownField, UnknownFormat, UnknownSet}
use Rattle.oai_item.specs.declared.refusals.LineRefusal.{LineRefusal}
use Rattle.oai_item.specs.declared.refusals.LineRefusal.TheVariants.{BadCommand, BadIdentifier, BadJson, BadSetSpec, BadText, BadXml}
use Rattle.oai_answers.specs.Answers.{Document}
use Rattle.oai_answers.specs.Documents.{document}
use Rattle.oai_answers.specs.Documents as doc
use Rattle.oai_deposit.specs.Lines.{line_of}
use Rattle.oai_settings.specs.Config.{RepositoryConfig}
use Rattle.oai_holdings.specs.Changes.{refusal_of, stamp_at}
use Rattle.oai_repo.specs.Machine.{Outcome, accepted, act, act_on_change, command_of, documented, later, line, outcome_output, refused_with}
use Rattle.oai_repo.specs.State.{RepoState, moved}
use Rattle.oai_laws.specs.Following.{TokenOffer}
use Rattle.oai_laws.specs.Runs.{IsPart}
use Rattle.oai_time.specs.TimeTexts.{datestamp_text}
use Rattle.oai_time.specs.declared.granularity.Granularity.{Granularity}
use Rattle.oai_http.specs.declared.exchanges.Answer.{Answer}
use Rattle.oai_http.specs.declared.exchanges.Call.{Call}
use Rattle.oai_host.specs.Alone.{after_line, after_lines, done_alone, exchanged_alone, with_end}
use Rattle.oai_host.specs.Tasks.{Task, asking, depositing, refusing, task_of}
use Rattle.oai_headline.specs.Chains.{IsPrinted}
use Rattle.oai_headline.specs.Visits.{Visit, visit_in, visits}
use Rattle.oai_headline.proofs.TakenLemmas.{IsAsking}

-- ---- the first byte

abbrev first_of : List ℕ → ℕ
first_of [] = 0
first_of (byte ∷ others) = byte

document_first : (its : Document) → first_of (document its) ≡ 60
unfolding document doc.head
document_first its = refl

refusal_first : (cause : Cause) (others : List ℕ) → first_of ((refusal_line cause ++ 10 ∷ []) ++ others) ≡ 114
refusal_first (in_line BadJson) others = refl
refusal_first (in_line BadCommand) others = refl
refusal_first (in_line (BadXml offset)) others = refl
refusal_first (in_line BadIdentifier) others = refl
refusal_first (in_line BadSetSpec) others = refl
refusal_first (in_line BadText) others = refl
refusal_first (in_repository UnknownSet) others = refl
refusal_first (in_repository UnknownFormat) others = refl
refusal_first (in_repository NoDc) others = refl
refusal_first (in_repository UnknownField) others = refl
refusal_first (in_repository NotOfFormat) others = refl
refusal_first (in_repository DropsFormat) others = refl
refusal_first (in_repository TooLarge) others = refl
refusal_first (in_repository TooManyItems) others = refl
refusal_first (in_repository NoSuchItem) others = refl
refusal_first (in_repository AlreadyDeleted) others = refl
refusal_first (in_repository NotTransient) others = refl
refusal_first (in_repository BadDate) others = refl
refusal_first (in_repository SetExists) others = refl
refusal_first (in_repository NoParent) others = refl
refusal_first (in_repository TooManySets) others = refl

-- ---- a deposit

-- a line is accepted or refused
abbrev IsOfLine : Outcome → Type 0
IsOfLine (documented its) = ⊥
IsOfLine (later seconds) = ⊥
IsOfLine (accepted stamp) = Unit {0}
IsOfLine (refused_with cause) = Unit {0}

changed_line : (config : RepositoryConfig) (state : RepoState) (stamp : ℤ) (change : Change) (refusal : Option ChangeRefusal) → IsOfLine (act_on_change config state stamp change refusal).0
changed_line config state stamp change (Some cause) = tt
changed_line config state stamp change None = tt

line_outcome : (config : RepositoryConfig) (state : RepoState) (read : Result Change LineRefusal) → IsOfLine (act config state (command_of config.granularity (line read))).0
unfolding act
line_outcome config state (Ok change) =
    changed_line config state (stamp_at config state.clock) change (refusal_of config (stamp_at config state.clock) state.holdings change)
line_outcome config state (Err cause) = tt

not_ok : (byte : ℕ) → byte ≡ 111 → byte ≡ 60 → ⊥
not_ok byte is first = omega (arith, is, first)

not_refused : (byte : ℕ) → byte ≡ 114 → byte ≡ 60 → ⊥
not_refused byte is first = omega (arith, is, first)

ok_first : (text others : List ℕ) → first_of (((codes "ok " ++ text) ++ 10 ∷ []) ++ others) ≡ 60 → ⊥
ok_first text others first = not_ok 111 refl first

refused_first : (cause : Cause) (others : List ℕ) → first_of ((refusal_line cause ++ 10 ∷ []) ++ others) ≡ 60 → ⊥
refused_first cause others first = not_refused (first_of ((refusal_line cause ++ 10 ∷ []) ++ others)) (refusal_first cause others) first

not_first : (g : Granularity) (outcome : Outcome) (others : List ℕ) → IsOfLine outcome → first_of (with_end (outcome_output g outcome) ++ others) ≡ 60 → ⊥
unfolding outcome_output
not_first g (documented its) others of_line first = of_line
not_first g (later seconds) others of_line first = of_line
not_first g (accepted stamp) others of_line first = ok_first (datestamp_text g stamp) others first
not_first g (refused_with cause) others of_line first = refused_first cause others first

lines_first : (config : RepositoryConfig) (moment : ℤ) (state : RepoState) (lines : List (List ℕ)) → first_of (after_lines config moment state lines).0 ≡ 60 → ⊥
lines_first config moment state [] first = cc
lines_first config moment state (text ∷ lines) first =
    not_first config.granularity (act config (moved moment state) (command_of config.granularity (line (line_of config.forms text)))).0
    (after_lines config moment (after_line config moment state text).1 lines).0 (line_outcome config (moved moment state) (line_of config.forms text)) first

-- ---- a visit

pub alone_visit : (config : RepositoryConfig) (state : RepoState) (calls : List Call) (visit : Visit) → IsPart (visit ∷ []) (visits config state calls)
    → visit.answer ≡ (exchanged_alone config visit.before visit.call).0
alone_visit config state [] visit part = cc
alone_visit config state (call ∷ calls) visit (inl part) = alone_visit config (exchanged_alone config state call).1 calls visit part
alone_visit config state (call ∷ calls) visit (inr here) =
    let is : visit_in config state call ≡ visit = cc in
    subst (λ (v : Visit). v.answer ≡ (exchanged_alone config v.before v.call).0) is refl

pub printing_asks : (config : RepositoryConfig) (visit : Visit) (offer : TokenOffer) → visit.answer ≡ (exchanged_alone config visit.before visit.call).0 → IsPrinted visit.answer offer → IsAsking visit
printing_asks config visit offer is printed = by (task_of visit.call) refl
  where
    begins : (task : Task) → task_of visit.call ≡ task → first_of (done_alone config visit.before visit.call.moment task).0.body ≡ 60
    begins task its =
        ap (λ (t : Task). first_of (done_alone config visit.before visit.call.moment t).0.body) (sym its)
        ∙ ap (λ (a : Answer). first_of a.body) (sym is ∙ printed.written)
        ∙ document_first printed.its

    by : (task : Task) → task_of visit.call ≡ task → IsAsking visit
    by (refusing status) its = absurd (omega (arith, begins (refusing status) its))
    by (asking arguments) its = record { arguments = arguments; asked = its }
    by (depositing lines) its = absurd (lines_first config visit.call.moment visit.before lines (begins (depositing lines) its))
