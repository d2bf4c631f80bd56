-- Configurations that are the same, ignoring the size of the cache, have the same repositories.
use Rattle.std.proofs.Common.{◌≡◌, ◌∙◌, ◌⊎◌, inl, inr, ℕ, ℤ, List, [], ◌∷◌, Option, Some, None, Bool, true, false, Ordering, Less, Equal, Greater, cond, codes, drop, length, lit<, refl, sym, ap, subst, suc, ◌<◌, ◌≤◌, arith}
use Rattle.std.specs.Ordering.{match_ordering}
use Rattle.serde_json.specs.Data.{Data, Members, depth, member, members_depth, no_members, null, object, put}
use Rattle.serde_json.specs.Find.{as_object, as_str, get, get_member}
use Rattle.serde_json.specs.Read.{max_depth, read}
use Rattle.serde_json.proofs.Nesting.{depth-read}
use Rattle.serde_json.proofs.Views.{get_member-put_other}
use Rattle.oai_item.specs.ShortTexts.{is_short_text}
use Rattle.oai_item.specs.declared.formats.Format.{Format}
use Rattle.oai_item.specs.declared.forms.Forms.{Forms}
use Rattle.oai_item.specs.declared.forms.Forms.TheVariants.{Fields, Elements}
use Rattle.oai_item.specs.declared.deleted_record.DeletedRecord.{DeletedRecord}
use Rattle.oai_time.specs.declared.granularity.Granularity.{Granularity}
use Rattle.oai_names.specs.Optional.{◌>>=◌, each_of, tested}
use Rattle.oai_json.specs.Json.{elements_at, elements_of, has_members, json_in, number_at, text_at}
use Rattle.oai_json.proofs.ReadingLemmas.{Some-injective, bind-Some}
use Rattle.oai_xml.specs.Named.{NamedList}
use Rattle.oai_settings.specs.Config.{RepositoryConfig}
use Rattle.oai_settings.specs.Settings.{Configures, earliest_of}
use Rattle.oai_settings.specs.declared.settings.Settings.{Settings}
use Rattle.oai_config.specs.Configs.{HostConfig, NamedConfig}
use Rattle.oai_config.specs.Reading.{HasSettings, HaveSettings, IsConfigOf}
use Rattle.oai_config.specs.Shapes.{base_at, host_members, repositories_at, settings_of, told_from, told_in, told_of}
use Rattle.oai_archive.specs.Firsts.{AreSame, IsOf, IsSameConfig, versioned_body, but_cache}

-- ---- a configuration is determined by its settings

made : List ℕ → List ℕ → List (List ℕ) → ℤ → DeletedRecord → Granularity → ℕ → ℕ → ℕ → ℕ → List Format → Forms → List (List ℕ) → List NamedList → RepositoryConfig
made base name addresses earliest deleted granularity chunk lifetime lists items formats forms descriptions set_descriptions = record {
  base = base;
  repository_name = name;
  addresses = addresses;
  earliest = earliest;
  deleted = deleted;
  granularity = granularity;
  chunk = chunk;
  lifetime = lifetime;
  lists = lists;
  items = items;
  formats = formats;
  forms = forms;
  descriptions = descriptions;
  set_descriptions = set_descriptions;
}

same_made : (b b' n n' : List ℕ) (a a' : List (List ℕ)) (e e' : ℤ) (d d' : DeletedRecord) (g g' : Granularity) (c c' t t' l l' i i' : ℕ) (f f' : List Format) (h h' : Forms) (x x' : List (List ℕ)) (y y' : List NamedList)
    → b ≡ b' → n ≡ n' → a ≡ a' → e ≡ e' → d ≡ d' → g ≡ g' → c ≡ c' → t ≡ t' → l ≡ l' → i ≡ i' → f ≡ f' → h ≡ h' → x ≡ x' → y ≡ y'
    → made b n a e d g c t l i f h x y ≡ made b' n' a' e' d' g' c' t' l' i' f' h' x' y'
same_made b b' n n' a a' e e' d d' g g' c c' t t' l l' i i' f f' h h' x x' y y' p1 p2 p3 p4 p5 p6 p7 p8 p9 p10 p11 p12 p13 p14 =
    rw (p1, p2, p3, p4, p5, p6, p7, p8, p9, p10, p11, p12, p13, p14) refl

-- what two values are, where one thing is some of both
both_some : {A : Type 0} (o : Option A) (x y : A) → o ≡ Some x → o ≡ Some y → x ≡ y
both_some o x y p q = Some-injective x y (sym p ∙ q)

one_config : (s : Settings) (c d : RepositoryConfig) → Configures s c → Configures s d → c ≡ d
unfolding made
one_config s c d p q =
    same_made c.base d.base c.repository_name d.repository_name c.addresses d.addresses c.earliest d.earliest c.deleted d.deleted c.granularity d.granularity
    c.chunk d.chunk c.lifetime d.lifetime c.lists d.lists c.items d.items c.formats d.formats c.forms d.forms c.descriptions d.descriptions c.set_descriptions d.set_descriptions
    (p.base ∙ sym q.base) (p.repository_name ∙ sym q.repository_name) (p.addresses ∙ sym q.addresses) (both_some _ _ _ p.earliest q.earliest)
    (p.deleted ∙ sym q.deleted) (p.granularity ∙ sym q.granularity) (both_some _ _ _ p.chunk q.chunk) (both_some _ _ _ p.lifetime q.lifetime)
    (both_some _ _ _ p.lists q.lists) (both_some _ _ _ p.items q.items) (p.formats ∙ sym q.formats) (p.forms ∙ sym q.forms) (p.descriptions ∙ sym q.descriptions) (p.set_descriptions ∙ sym q.set_descriptions)

named : List ℕ → RepositoryConfig → NamedConfig
named name config = record { name = name; config = config }

same_named : (n n' : List ℕ) (c c' : RepositoryConfig) → n ≡ n' → c ≡ c' → named n c ≡ named n' c'
same_named n n' c c' p q = rw (p, q) refl

one_named : (s : Settings) (a b : NamedConfig) → HasSettings s a → HasSettings s b → a ≡ b
unfolding named
one_named s a b p q =
    same_named a.name b.name a.config b.config (p.name ∙ sym q.name) (one_config s a.config b.config p.config q.config)

same_both : {A : Type 0} (x y : A) (xs ys : List A) → x ≡ y → xs ≡ ys → x ∷ xs ≡ y ∷ ys
same_both x y xs ys p q = rw (p, q) refl

one_list : (settings : List Settings) (one other : List NamedConfig) → HaveSettings settings one → HaveSettings settings other → one ≡ other
one_list [] [] [] p q = refl
one_list [] [] (b ∷ bs) p q = absurd q
one_list [] (a ∷ one) other p q = absurd p
one_list (s ∷ settings) [] other p q = absurd p
one_list (s ∷ settings) (a ∷ one) [] p q = absurd q
one_list (s ∷ settings) (a ∷ one) (b ∷ other) p q = same_both a b one other (one_named s a b p.0 q.0) (one_list settings one other p.1 q.1)

-- ---- the settings of repositories, without the cache

tested_read : {A : Type 0} (b : Bool) (d : Data) (f : Data → Option A) (x : A) → (cond b (Some d) None >>= f) ≡ Some x → f d ≡ Some x
tested_read true d f x is = is
tested_read false d f x is = absurd cc

-- the settings of repositories come from two members
repositories_told : (forms : Forms) (d : Data) (told : _) → told_of forms d ≡ Some told → (base : List ℕ) × (base_at d ≡ Some base) × (repositories_at forms base d ≡ Some told.repositories)
unfolding told_of
repositories_told forms d told is =
    let from : told_from forms d ≡ Some told = tested_read (has_members host_members d) d (told_from forms) told is in
    let base = bind-Some (base_at d) _ told from in
    let cache = bind-Some (number_at (codes "cache") d) _ told base.2 in
    let list = bind-Some (repositories_at forms base.0 d) _ told cache.2 in
    let same = Some-injective _ told list.2 in
    let last : Some list.0 ≡ Some told.repositories = λ i. Some ((same i).repositories) in
    (base.0, base.1, list.1 ∙ last)

same_base : (d e : Data) → get (codes "base") d ≡ get (codes "base") e → base_at d ≡ base_at e
unfolding base_at text_at
same_base d e same = ap (λ (o : Option Data). (o >>= as_str) >>= tested is_short_text) same

same_repositories_at : (forms : Forms) (base : List ℕ) (d e : Data) → get (codes "repositories") d ≡ get (codes "repositories") e → repositories_at forms base d ≡ repositories_at forms base e
unfolding repositories_at elements_at
same_repositories_at forms base d e same = ap (λ (o : Option Data). (o >>= elements_of) >>= each_of (settings_of forms base)) same

same_told : (forms : Forms) (d e : Data) (one : _) (other : _) → get (codes "base") d ≡ get (codes "base") e → get (codes "repositories") d ≡ get (codes "repositories") e
    → told_of forms d ≡ Some one → told_of forms e ≡ Some other → one.repositories ≡ other.repositories
same_told forms d e one other based listed p q =
    let a = repositories_told forms d one p in
    let b = repositories_told forms e other q in
    let base : a.0 ≡ b.0 = Some-injective a.0 b.0 (sym a.1 ∙ same_base d e based ∙ b.1) in
    Some-injective one.repositories other.repositories
    (sym a.2 ∙ same_repositories_at forms a.0 d e listed ∙ ap (λ (x : List ℕ). repositories_at forms x e) base ∙ b.2)

-- ---- two texts

object-injective : (ms ns : Members) → object ms ≡ object ns → ms ≡ ns
object-injective ms ns is = Some-injective ms ns (ap as_object is)

smaller : (m n : ℕ) → m < n → m ≡ n → ⊥
smaller m n low same = omega arith

base_is_another : codes "base" ≡ codes "cache" → ⊥
base_is_another same = smaller 4 5 (lit< tt) (ap length same)

repositories_are_another : codes "repositories" ≡ codes "cache" → ⊥
repositories_are_another same = smaller 5 12 (lit< tt) (sym (ap length same))

-- another member is the same
same_member : (q : List ℕ) (ms ns : Members) → (q ≡ codes "cache" → ⊥) → but_cache ms ≡ but_cache ns → get q (object ms) ≡ get q (object ns)
same_member q ms ns other same =
    sym (get_member-put_other q (codes "cache") null ms other)
    ∙ ap (get_member q) (object-injective (put (codes "cache") null ms) (put (codes "cache") null ns) same)
    ∙ get_member-put_other q (codes "cache") null ns other

-- a text that is read nests no deeper than the parser reads, without the cache too
depth_of_choice : (o : Ordering) (a b c : Members) (n : ℕ) → members_depth a ≤ n → members_depth b ≤ n → members_depth c ≤ n → members_depth (match_ordering o a b c) ≤ n
depth_of_choice Less a b c n p q r = p
depth_of_choice Equal a b c n p q r = q
depth_of_choice Greater a b c n p q r = r

depth_of_put : (k : List ℕ) (ms : Members) (n : ℕ) → members_depth ms ≤ n → members_depth (put k null ms) ≤ n
depth_of_put k no_members n p = omega arith
depth_of_put k (member l e ms) n p =
    depth_of_choice _ (member k null (member l e ms)) (member l null ms) (member l e (put k null ms)) n (omega arith) (omega arith) (omega (arith, depth_of_put k ms n (omega arith)))

read_so : (b : Bool) (o : Option Data) (d : Data) → cond b o None ≡ Some d → o ≡ Some d
read_so true o d is = is
read_so false o d is = absurd cc

read_in : (text : List ℕ) (d : Data) → json_in text ≡ Some d → read text ≡ Some d
unfolding json_in
read_in text d is = read_so _ (read text) d is

shallow : (text : List ℕ) (ms : Members) → json_in text ≡ Some (object ms) → depth (but_cache ms) ≤ max_depth
shallow text ms is =
    let deep : suc (members_depth ms) ≤ max_depth = depth-read text (object ms) (read_in text (object ms) is) in
    let put_so : members_depth (put (codes "cache") null ms) ≤ members_depth ms = depth_of_put (codes "cache") ms (members_depth ms) (omega arith) in
    omega arith

-- the settings of a text that is an object are those of the object
told_in_object : (forms : Forms) (text : List ℕ) (d : Data) (told : _) → json_in text ≡ Some d → told_in forms text ≡ Some told → told_of forms d ≡ Some told
unfolding told_in
told_in_object forms text d told is tells = ap (λ (o : Option Data). o >>= told_of forms) (sym is) ∙ tells

repositories_of_text : (forms : Forms) (text : List ℕ) (a b : HostConfig) → IsConfigOf forms text a → IsConfigOf forms text b → a.repositories ≡ b.repositories
repositories_of_text forms text a b p q =
    let told : p.told ≡ q.told = both_some (told_in forms text) p.told q.told p.tells q.tells in
    let settings : p.told.repositories ≡ q.told.repositories = λ i. (told i).repositories in
    let are : HaveSettings q.told.repositories a.repositories = subst (λ (ss : List Settings). HaveSettings ss a.repositories) settings p.repositories in
    one_list q.told.repositories a.repositories b.repositories are q.repositories

repositories_of_objects : (forms : Forms) (one other : List ℕ) (ms ns : Members) (a b : HostConfig) → json_in one ≡ Some (object ms) → json_in other ≡ Some (object ns)
    → AreSame (but_cache ms) (but_cache ns) → IsConfigOf forms one a → IsConfigOf forms other b → a.repositories ≡ b.repositories
repositories_of_objects forms one other ms ns a b is too same p q =
    let equal : but_cache ms ≡ but_cache ns = same (shallow one ms is) (shallow other ns too) in
    let settings : p.told.repositories ≡ q.told.repositories =
    same_told forms (object ms) (object ns) p.told q.told (same_member (codes "base") ms ns base_is_another equal) (same_member (codes "repositories") ms ns repositories_are_another equal)
    (told_in_object forms one (object ms) p.told is p.tells) (told_in_object forms other (object ns) q.told too q.tells) in
    let are : HaveSettings q.told.repositories a.repositories = subst (λ (ss : List Settings). HaveSettings ss a.repositories) settings p.repositories in
    one_list q.told.repositories a.repositories b.repositories are q.repositories

-- both are read to the same repositories
pub same_repositories : (forms : Forms) (one other : List ℕ) (a b : HostConfig) → IsSameConfig one other → IsConfigOf forms one a → IsConfigOf forms other b → a.repositories ≡ b.repositories
same_repositories forms one other a b (inl same) p q = repositories_of_text forms other a b (subst (λ (text : List ℕ). IsConfigOf forms text a) same p) q
same_repositories forms one other a b (inr same) p q = repositories_of_objects forms one other same.0 same.1 a b same.2 same.3 same.4 p q

-- ---- one journal

same_symmetric : (one other : List ℕ) → IsSameConfig one other → IsSameConfig other one
same_symmetric one other (inl same) = inl (sym same)
same_symmetric one other (inr same) = inr (same.1, same.0, same.3, same.2, λ d e. sym (same.4 e d))

same_transitive : (one between other : List ℕ) → IsSameConfig one between → IsSameConfig between other → IsSameConfig one other
same_transitive one between other (inl same) is = subst (λ (text : List ℕ). IsSameConfig text other) (sym same) is
same_transitive one between other (inr same) (inl is) = subst (λ (text : List ℕ). IsSameConfig one text) is (inr same)
same_transitive one between other (inr same) (inr is) =
    let both : same.1 ≡ is.0 = object-injective same.1 is.0 (Some-injective (object same.1) (object is.0) (sym same.3 ∙ is.2)) in
    inr (same.0, is.1, same.2, is.3, λ d e. same.4 d (shallow between same.1 same.3) ∙ ap but_cache both ∙ is.4 (shallow between is.0 is.2) e)

-- a first record tells the forms, and its text is that of its body
first_of : List ℕ → ℕ
first_of [] = 0
first_of (b ∷ bs) = b

same_body : (forms found : Forms) (one other : List ℕ) → versioned_body forms one ≡ versioned_body found other → (forms ≡ found) × (one ≡ other)
unfolding first_of
same_body Fields Fields one other same = (refl, ap (drop 2) same)
same_body Elements Elements one other same = (refl, ap (drop 2) same)
same_body Fields Elements one other same = absurd (smaller 49 50 (lit< tt) (ap first_of same))
same_body Elements Fields one other same = absurd (smaller 49 50 (lit< tt) (sym (ap first_of same)))

-- texts of which one first record is are the same, and the forms of its records
pub same_of_first : (forms found : Forms) (name body one other : List ℕ) → IsOf forms name body one → IsOf found name body other → (forms ≡ found) × IsSameConfig one other
same_of_first forms found name body one other p q =
    let same = same_body forms found p.1 q.1 (sym p.2 ∙ q.2) in
    (same.0, same_transitive one p.1 other (same_symmetric p.1 one p.3) (subst (λ (text : List ℕ). IsSameConfig text other) (sym same.1) q.3))

pub same_of_journal : (forms found : Forms) (name body one other : List ℕ) (a b : HostConfig) → IsOf forms name body one → IsOf found name body other
    → IsConfigOf forms one a → IsConfigOf found other b → a.repositories ≡ b.repositories
same_of_journal forms found name body one other a b p q read again =
    let same = same_of_first forms found name body one other p q in
    same_repositories found one other a b same.1 (subst (λ (forms : Forms). IsConfigOf forms one a) same.0 read) again
