-- Links under keys: a change of one of them, and what it leaves of the others.
use Rattle.std.proofs.Common.{◌≡◌, ◌∙◌, inl, inr, ℕ, ℤ, true, false, cond, List, [], ◌∷◌, ◌++◌, append_assoc, length, map, ◌+◌, ◌<◌, arith, Option, Some, None, is_some, refl, sym, ap, subst}
use Rattle.std.specs.Prelude.{◌==◌, Contains}
use Rattle.std.proofs.lemmas.Bool.{cases_Bool, cases_eq, eq-eqb, eqb-true}
use Rattle.std.proofs.lemmas.List.{append-nil}
use Rattle.std.proofs.lemmas.List.Elements.{Contains-append_left, Contains-push, Contains-push_cases}
use Rattle.std.proofs.lemmas.List.Sums.{sum_by-set}
use Rattle.slab.specs.Slab.{Slab, Updates, ContainsKey, get, slab_len, with_value}
use Rattle.slab.proofs.SlabLemmas.{ContainsKey-within, Updates-with_value}
use Rattle.oai_front.proofs.RunLemmas.{done_away, done_here, done_join, serves_join, serves_run}
use Rattle.oai_front.specs.Connections.{Connection}
use Rattle.oai_front.specs.Performing.{AnsweredMessage, Steps}
use Rattle.oai_front.specs.Runs.{Piece, Served, done_on, served_with}
use Rattle.oai_serving.proofs.KnownBytes.{consumes_none, consumes_then, keeps_same, keeps_then}
use Rattle.oai_serving.proofs.PassLemmas.{passes_then}
use Rattle.oai_serving.proofs.TurnLemmas.{received_still, sent_follows, sent_none, sent_then}
use Rattle.oai_serving.specs.Accepted.{Known, Passes}
use Rattle.oai_serving.specs.Links.{IsLinkFollowed, IsLinkStep, IsSent, Link}
use Rattle.oai_serving.specs.Received.{IsReceived}
use Rattle.oai_serving.specs.Tables.{AreAllAnswered, AreAllKept, AreAllThere, AreAt, AreGoneAnswered, AreLinksAnswered, AreLinksDropped, AreLinksKept, AreSent, AreTurned, HasLinkOf, IsAnswered, IsLinkKept, IsNumbered, IsUnwritten}

pub none_there : {A : Type 0} (a : A) → None ≡ Some a → ⊥
none_there a e = cc

value_or : {A : Type 0} → A → Option A → A
value_or d None = d
value_or d (Some a) = a

pub same_value : {A : Type 0} (a b : A) → Some a ≡ Some b → a ≡ b
unfolding value_or
same_value a b e = ap (value_or a) e

-- ---- one link is changed

present : {T : Type 0} (s : Slab T) (key : ℕ) (value : T) → get s key ≡ Some value → ContainsKey s key
present s key value found = subst (λ (o : Option _). is_some o ≡ true) (sym found) refl

count_changed : {T : Type 0} (s : Slab T) (key : ℕ) (before after : T) → get s key ≡ Some before → slab_len (with_value s key after) ≡ slab_len s
count_changed {T} s key before after found =
    let one : Option T → ℕ = λ o. cond (is_some o) 1 0 in
    omega (arith, sum_by-set one s.slots key (Some after) None (ContainsKey-within s key (present s key before found)), ap one found)

-- what stands under each key, once the link of one is changed
at_each : {T : Type 0} (P : ℕ → T → Type 0) (s : Slab T) (key : ℕ) (before after : T) → get s key ≡ Some before → P key after
    → ((other : ℕ) (value : T) → (other ≡ key → ⊥) → get s other ≡ Some value → P other value) → (other : ℕ) (value : T) → get (with_value s key after) other ≡ Some value → P other value
at_each {T} P s key before after found here there other value is =
    let u = Updates-with_value s key after (present s key before found) in
    elim (cases_eq other key) [
      | inl same ↦
          let e : after ≡ value = same_value after value (sym u.changed ∙ sym (ap (get (with_value s key after)) same) ∙ is) in
          subst (λ (k : ℕ). P k value) (sym same) (subst (λ (v : T). P key v) e here)
      | inr differs ↦ there other value differs (sym (u.others other differs) ∙ is)
    ]

-- a link that has a number stays, once one link is changed
link_stays : {S : Type 0} (links : Slab (Link S)) (key : ℕ) (before after : Link S) → get links key ≡ Some before → after.connection.number ≡ before.connection.number
    → (number : ℕ) → HasLinkOf number links → HasLinkOf number (with_value links key after)
link_stays {S} links key before after found same number h =
    let u = Updates-with_value links key after (present links key before found) in
    elim (cases_eq h.key key) [
      | inl here ↦
          let e : h.link ≡ before = same_value h.link before (sym h.stands ∙ ap (get links) here ∙ found) in
          record { key = key; link = after; stands = u.changed; is = same ∙ sym (ap (λ (l : Link S). l.connection.number) e) ∙ h.is }
      | inr differs ↦ record { key = h.key; link = h.link; stands = u.others h.key differs ∙ h.stands; is = h.is }
    ]

-- each stream stands under a link or was let go, where each link stays
pub there_still : {S : Type 0} (accepted : List S) (gone : List (ℕ × S)) (old new : Slab (Link S)) → ((number : ℕ) → HasLinkOf number old → HasLinkOf number new)
    → AreAllThere accepted gone old → AreAllThere accepted gone new
there_still accepted gone old new stay all number low high = elim (all number low high) [
  | inl h ↦ inl (stay number h)
  | inr g ↦ inr g
]

module _ {S : Type 0} (contents remaining : S → Option (List ℕ)) where
  number_sent : (a b : Link S) → IsSent contents remaining a b → b.connection.number ≡ a.connection.number
  number_sent a b s = ap (λ (c : Connection). c.number) s.others

  pub sent_same : (links : Slab (Link S)) → AreSent contents remaining links links
  sent_same links = record { each = λ key link is. (link, is, sent_none contents remaining link); stay = λ number h. h; count = omega arith }

  pub sent_on : (a b c : Slab (Link S)) → AreSent contents remaining a b → AreSent contents remaining b c → AreSent contents remaining a c
  sent_on a b c s t = record {
    each = λ key link is.
        let second = t.each key link is in
        let first = s.each key second.0 second.1 in
        (first.0, first.1, sent_then contents remaining first.0 second.0 link first.2 second.2);
    stay = λ number h. t.stay number (s.stay number h);
    count = omega (arith, s.count, t.count);
  }

  pub sent_at : (links : Slab (Link S)) (key : ℕ) (before after : Link S) → get links key ≡ Some before → IsSent contents remaining before after
      → AreSent contents remaining links (with_value links key after)
  sent_at links key before after found sent = record {
    each = at_each (λ (k : ℕ) (link : Link S). (b : Link S) × (get links k ≡ Some b) × IsSent contents remaining b link) links key before after found (before, found, sent)
        (λ other value differs is. (value, is, sent_none contents remaining value));
    stay = link_stays links key before after found (number_sent before after sent);
    count = omega (arith, count_changed links key before after found);
  }

  -- one is taken away
  gone_each : (old new : Slab (Link S)) (key : ℕ) → Updates old new key None → (other : ℕ) (link : Link S) → get new other ≡ Some link → get old other ≡ Some link
  gone_each old new key u other link is = elim (cases_eq other key) [
    | inl same ↦ absurd (none_there link (sym u.changed ∙ sym (ap (get new) same) ∙ is))
    | inr differs ↦ sym (u.others other differs) ∙ is
  ]

  -- a link that has a number had it before
  gone_back : (old new : Slab (Link S)) (key : ℕ) → Updates old new key None → (number : ℕ) → HasLinkOf number new → HasLinkOf number old
  gone_back old new key u number h = record { key = h.key; link = h.link; stands = gone_each old new key u h.key h.link h.stands; is = h.is }

  -- ---- what is kept

  pub sent_kept : (accepted : List S) (served : List Served) (old new : Slab (Link S)) → AreSent contents remaining old new → AreLinksKept contents remaining accepted served old
      → AreLinksKept contents remaining accepted served new
  sent_kept accepted served old new s k = record {
    each = λ key link is.
        let b = s.each key link is in
        let kept = k.each key b.0 b.1 in
        let same = number_sent b.0 link b.2 in
        record {
          first = kept.first;
          numbered = subst (λ (n : ℕ). IsNumbered accepted n kept.first) (sym same) kept.numbered;
          follows = subst (λ (n : ℕ). IsLinkFollowed contents remaining kept.first (done_on n served) link) (sym same)
              (sent_follows contents remaining kept.first (done_on b.0.connection.number served) b.0 link b.2 kept.follows);
        };
    one = λ key other a b is js same.
        let p = s.each key a is in
        let q = s.each other b js in
        k.one key other p.0 q.0 p.1 q.1 (sym (number_sent p.0 a p.2) ∙ same ∙ number_sent q.0 b q.2);
    later = k.later;
  }

  pub kept_answered : (accepted : List S) (served : List Served) (links : Slab (Link S)) → AreLinksKept contents remaining accepted served links → AreLinksAnswered contents remaining accepted served links
  kept_answered accepted served links k key link is =
      let kept = k.each key link is in
      record { first = kept.first; numbered = kept.numbered; received = kept.follows.received }

  pub all_answered : (accepted : List S) (gone : List (ℕ × S)) (served : List Served) (links : Slab (Link S)) → AreAllKept contents remaining accepted gone served links
      → AreAllAnswered contents remaining accepted gone served links
  all_answered accepted gone served links k = record { linked = kept_answered accepted served links k.kept; over = k.over; all = k.all }

  -- of as many streams, let go and served as before
  pub all_as : (accepted others : List S) (gone away : List (ℕ × S)) (served more : List Served) (links : Slab (Link S)) → accepted ≡ others → gone ≡ away → served ≡ more
      → AreAllKept contents remaining accepted gone served links → AreAllKept contents remaining others away more links
  all_as accepted others gone away served more links a g s k =
      subst (λ (xs : List S). AreAllKept contents remaining xs away more links) a
      (subst (λ (ps : List (ℕ × S)). AreAllKept contents remaining accepted ps more links) g
      (subst (λ (ds : List Served). AreAllKept contents remaining accepted gone ds links) s k))

  pub answered_as : (accepted others : List S) (gone away : List (ℕ × S)) (served : List Served) (links : Slab (Link S)) → accepted ≡ others → gone ≡ away
      → AreAllAnswered contents remaining accepted gone served links → AreAllAnswered contents remaining others away served links
  answered_as accepted others gone away served links a g k =
      subst (λ (xs : List S). AreAllAnswered contents remaining xs away served links) a
      (subst (λ (ps : List (ℕ × S)). AreAllAnswered contents remaining accepted ps served links) g k)

  pub all_sent : (accepted : List S) (gone : List (ℕ × S)) (served : List Served) (old new : Slab (Link S)) → AreSent contents remaining old new
      → AreAllKept contents remaining accepted gone served old → AreAllKept contents remaining accepted gone served new
  all_sent accepted gone served old new s k = record {
    kept = sent_kept accepted served old new s k.kept;
    over = k.over;
    apart = λ number last is h.
        let b = s.each h.key h.link h.stands in
        k.apart number last is (record { key = h.key; link = b.0; stands = b.1; is = sym (number_sent b.0 h.link b.2) ∙ h.is });
    all = there_still accepted gone old new s.stay k.all;
  }

  -- ---- what is let go

  -- one more was let go
  pub over_more : (accepted : List S) (gone : List (ℕ × S)) (served : List Served) (number : ℕ) (stream : S) → AreGoneAnswered contents remaining accepted gone served
      → IsAnswered contents remaining accepted served number stream → AreGoneAnswered contents remaining accepted (gone ++ (number, stream) ∷ []) served
  over_more accepted gone served number stream over own n last is = elim (Contains-push_cases gone (number, stream) (n, last) is) [
    | inl before ↦ over n last before
    | inr same ↦ subst (λ (p : ℕ × S). IsAnswered contents remaining accepted served p.0 p.1) same own
  ]

  away_there : (accepted : List S) (gone : List (ℕ × S)) (old new : Slab (Link S)) (key : ℕ) (link : Link S) → get old key ≡ Some link → Updates old new key None
      → AreAllThere accepted gone old → AreAllThere accepted (gone ++ (link.connection.number, link.stream) ∷ []) new
  away_there accepted gone old new key link found u all number low high = elim (all number low high) [
    | inl h ↦ elim (cases_eq h.key key) [
      | inl here ↦
          let e : h.link ≡ link = same_value h.link link (sym h.stands ∙ ap (get old) here ∙ found) in
          let is : link.connection.number ≡ number = sym (ap (λ (l : Link S). l.connection.number) e) ∙ h.is in
          inr (link.stream, subst (λ (n : ℕ). Contains (gone ++ (link.connection.number, link.stream) ∷ []) (n, link.stream)) is (Contains-push gone (link.connection.number, link.stream)))
      | inr differs ↦ inl (record { key = h.key; link = h.link; stands = u.others h.key differs ∙ h.stands; is = h.is })
    ]
    | inr g ↦ inr (g.0, Contains-append_left gone ((link.connection.number, link.stream) ∷ []) (number, g.0) g.1)
  ]

  away_all : (accepted : List S) (gone : List (ℕ × S)) (served : List Served) (old new : Slab (Link S)) (key : ℕ) (link : Link S) → get old key ≡ Some link
      → Updates old new key None → AreAllKept contents remaining accepted gone served old
      → AreAllKept contents remaining accepted (gone ++ (link.connection.number, link.stream) ∷ []) served new
  away_all accepted gone served old new key link found u k =
      let own = k.kept.each key link found in
      record {
        kept = record {
          each = λ other l is. k.kept.each other l (gone_each old new key u other l is);
          one = λ other third a b is js same. k.kept.one other third a b (gone_each old new key u other a is) (gone_each old new key u third b js) same;
          later = k.kept.later;
        };
        over = over_more accepted gone served link.connection.number link.stream k.over (record { first = own.first; numbered = own.numbered; received = own.follows.received });
        apart = λ number last is h. elim (Contains-push_cases gone (link.connection.number, link.stream) (number, last) is) [
          | inl before ↦ k.apart number last before (gone_back old new key u number h)
          | inr same ↦
              let e : link.connection.number ≡ number = ap (λ (p : ℕ × S). p.0) same in
              let one : h.key ≡ key = k.kept.one h.key key h.link link (gone_each old new key u h.key h.link h.stands) found (h.is ∙ sym e) in
              none_there h.link (sym u.changed ∙ sym (ap (get new) one) ∙ h.stands)
        ];
        all = away_there accepted gone old new key link found u k.all;
      }

  pub ended_none : (known later : Known S) (links : Slab (Link S)) → Passes known later [] [] → AreLinksDropped contents remaining known later links links
  ended_none known later links passes = record {
    parted = [];
    passes = passes;
    kept = λ accepted gone served k. all_as accepted accepted gone (gone ++ []) served served links refl (sym (append-nil gone)) refl k;
    count = omega arith;
  }

  pub ended_then : (known mid later : Known S) (a b c : Slab (Link S)) → AreLinksDropped contents remaining known mid a b → AreLinksDropped contents remaining mid later b c
      → AreLinksDropped contents remaining known later a c
  ended_then known mid later a b c s t = record {
    parted = s.parted ++ t.parted;
    passes = passes_then known mid later [] [] s.parted t.parted s.passes t.passes;
    kept = λ accepted gone served k.
        all_as accepted accepted ((gone ++ s.parted) ++ t.parted) (gone ++ (s.parted ++ t.parted)) served served c refl (append_assoc gone s.parted t.parted) refl
        (t.kept accepted (gone ++ s.parted) served (s.kept accepted gone served k));
    count = omega (arith, s.count, t.count);
  }

  pub ended_away : (known later : Known S) (old new : Slab (Link S)) (key : ℕ) (link : Link S) → get old key ≡ Some link → Updates old new key None
      → slab_len new + 1 ≡ slab_len old → Passes known later [] ((link.connection.number, link.stream) ∷ []) → AreLinksDropped contents remaining known later old new
  ended_away known later old new key link found u less passes = record {
    parted = (link.connection.number, link.stream) ∷ [];
    passes = passes;
    kept = λ accepted gone served k. away_all accepted gone served old new key link found u k;
    count = omega (arith, less);
  }

-- ---- turns

at_join : (moment : ℤ) (first others : List Served) → AreAt moment first → AreAt moment others → AreAt moment (first ++ others)
at_join moment [] others a b = b
at_join moment (s ∷ first) others a b = (a.0, at_join moment first others a.1 b)

piece_at : ℕ → ℤ → Piece
piece_at number moment = record { number = number; moment = moment; bytes = []; whole = true }

at_piece : (number : ℕ) (moment : ℤ) (done : List AnsweredMessage) → AreAt moment (map (served_with (piece_at number moment)) done)
unfolding piece_at
at_piece number moment [] = tt
at_piece number moment (d ∷ done) = (refl, at_piece number moment done)

module _ {S H : Type 0} (step : Steps H) (contents remaining : S → Option (List ℕ)) (moment : ℤ) where
  unwritten_none : (old : Slab (Link S)) (key : ℕ) (link : Link S) → get old key ≡ Some link → IsUnwritten contents remaining old key link
  unwritten_none old key link is = record {
    before = link;
    stood = is;
    same = refl;
    unwritten = keeps_same (contents link.stream);
    read = [];
    consumed = consumes_none (remaining link.stream);
  }

  pub turned_none : (links : Slab (Link S)) (handler : H) → AreTurned step contents remaining moment links handler links handler
  turned_none links handler = record {
    served = [];
    run = refl;
    at = tt;
    unwritten = unwritten_none links;
    stay = λ number h. h;
    follows = λ accepted gone earlier k. all_as contents remaining accepted accepted gone gone earlier (earlier ++ []) links refl refl (sym (append-nil earlier)) k;
    count = refl;
  }

  pub turned_then : (a b c : Slab (Link S)) (h k l : H) → AreTurned step contents remaining moment a h b k → AreTurned step contents remaining moment b k c l
      → AreTurned step contents remaining moment a h c l
  turned_then a b c h k l s t = record {
    served = s.served ++ t.served;
    run = serves_join step h k l s.served t.served s.run t.run;
    at = at_join moment s.served t.served s.at t.at;
    unwritten = λ key link is.
        let second = t.unwritten key link is in
        let first = s.unwritten key second.before second.stood in
        record {
          before = first.before;
          stood = first.stood;
          same = second.same ∙ first.same;
          unwritten = keeps_then (contents first.before.stream) (contents second.before.stream) (contents link.stream) first.unwritten second.unwritten;
          read = first.read ++ second.read;
          consumed = consumes_then (remaining first.before.stream) (remaining second.before.stream) (remaining link.stream) first.read second.read first.consumed second.consumed;
        };
    stay = λ number h. t.stay number (s.stay number h);
    follows = λ accepted gone earlier kept.
        all_as contents remaining accepted accepted gone gone ((earlier ++ s.served) ++ t.served) (earlier ++ (s.served ++ t.served)) c refl refl
        (append_assoc earlier s.served t.served) (t.follows accepted gone (earlier ++ s.served) (s.follows accepted gone earlier kept));
    count = t.count ∙ s.count;
  }

  -- the numbers stay, once one link is changed
  numbers_stay : (links : Slab (Link S)) (key : ℕ) (before after : Link S) → get links key ≡ Some before → after.connection.number ≡ before.connection.number
      → (other : ℕ) (link : Link S) → get (with_value links key after) other ≡ Some link → (was : Link S) × (get links other ≡ Some was) × (link.connection.number ≡ was.connection.number)
  numbers_stay links key before after found same =
      at_each (λ (k : ℕ) (link : Link S). (was : Link S) × (get links k ≡ Some was) × (link.connection.number ≡ was.connection.number)) links key before after found
      (before, found, same) (λ other value differs is. (value, is, refl))

  -- what was served on one connection is nothing on another
  served_own : (number : ℕ) (served : List Served) (done : List AnsweredMessage) → done_on number (served ++ map (served_with (piece_at number moment)) done) ≡ done_on number served ++ done
  unfolding piece_at
  served_own number served done =
      done_join number served (map (served_with (piece_at number moment)) done)
      ∙ ap (λ (ds : List AnsweredMessage). done_on number served ++ ds) (done_here number (piece_at number moment) done (eq-eqb number number refl))

  served_other : (number other : ℕ) (served : List Served) (done : List AnsweredMessage) → (number == other) ≡ false
      → done_on other (served ++ map (served_with (piece_at number moment)) done) ≡ done_on other served
  unfolding piece_at
  served_other number other served done away =
      done_join other served (map (served_with (piece_at number moment)) done)
      ∙ ap (λ (ds : List AnsweredMessage). done_on other served ++ ds) (done_away other (piece_at number moment) done away) ∙ append-nil (done_on other served)

  apart : (n m : ℕ) → (n ≡ m → ⊥) → (n == m) ≡ false
  apart n m differs = elim (cases_Bool (n == m)) [
    | inl same ↦ absurd (differs (eqb-true n m same))
    | inr away ↦ away
  ]

  turn_kept : (accepted : List S) (earlier : List Served) (links : Slab (Link S)) (key : ℕ) (before after : Link S) (h k : H) → get links key ≡ Some before
      → (t : IsLinkStep step contents remaining moment before h after k) → AreLinksKept contents remaining accepted earlier links
      → AreLinksKept contents remaining accepted (earlier ++ map (served_with (piece_at before.connection.number moment)) t.done) (with_value links key after)
  turn_kept accepted earlier links key before after h k found t kept =
      let number : ℕ = before.connection.number in
      let served : List Served = earlier ++ map (served_with (piece_at number moment)) t.done in
      let own = kept.each key before found in
      record {
        each = at_each (λ (k : ℕ) (link : Link S). IsLinkKept contents remaining accepted served link) links key before after found
            (record {
              first = own.first;
              numbered = subst (λ (n : ℕ). IsNumbered accepted n own.first) (sym t.same) own.numbered;
              follows = subst (λ (n : ℕ). IsLinkFollowed contents remaining own.first (done_on n served) after) (sym t.same)
                  (subst (λ (ds : List AnsweredMessage). IsLinkFollowed contents remaining own.first ds after) (sym (served_own number earlier t.done))
                  (t.follows own.first (done_on number earlier) own.follows));
            })
            (λ other link differs is.
            let mine = kept.each other link is in
            let away = apart number link.connection.number (λ same. differs (sym (kept.one key other before link found is same))) in
            record {
              first = mine.first;
              numbered = mine.numbered;
              follows = subst (λ (ds : List AnsweredMessage). IsLinkFollowed contents remaining mine.first ds link) (sym (served_other number link.connection.number earlier t.done away)) mine.follows;
            });
        one = λ key_a key_b a b is js same.
            let p = numbers_stay links key before after found t.same key_a a is in
            let q = numbers_stay links key before after found t.same key_b b js in
            kept.one key_a key_b p.0 q.0 p.1 q.1 (sym p.2 ∙ same ∙ q.2);
        later = λ other above.
            let near : number < other = omega (arith, above, own.numbered.at, ap (λ (xs : List S). length xs) own.numbered.stands, lengths own.numbered.front own.first own.numbered.later) in
            served_other number other earlier t.done (apart number other (λ same. omega (arith, near, same))) ∙ kept.later other above;
      }
    where
      lengths : (front : List S) (first : S) (later : List S) → length (front ++ first ∷ later) ≡ length front + 1 + length later
      lengths [] first later = omega arith
      lengths (x ∷ front) first later = omega (arith, lengths front first later)

  -- and those that were let go had no turn
  turn_all : (accepted : List S) (gone : List (ℕ × S)) (earlier : List Served) (links : Slab (Link S)) (key : ℕ) (before after : Link S) (h k : H) → get links key ≡ Some before
      → (t : IsLinkStep step contents remaining moment before h after k) → AreAllKept contents remaining accepted gone earlier links
      → AreAllKept contents remaining accepted gone (earlier ++ map (served_with (piece_at before.connection.number moment)) t.done) (with_value links key after)
  turn_all accepted gone earlier links key before after h k found t all = record {
    kept = turn_kept accepted earlier links key before after h k found t all.kept;
    over = λ number last is.
        let a = all.over number last is in
        let away = apart before.connection.number number (λ same. all.apart number last is (record { key = key; link = before; stands = found; is = same })) in
        record {
          first = a.first;
          numbered = a.numbered;
          received = subst (λ (ds : List AnsweredMessage). IsReceived contents remaining a.first last ds) (sym (served_other before.connection.number number earlier t.done away)) a.received;
        };
    apart = λ number last is l.
        let p = numbers_stay links key before after found t.same l.key l.link l.stands in
        all.apart number last is (record { key = l.key; link = p.0; stands = p.1; is = sym p.2 ∙ l.is });
    all = there_still accepted gone links (with_value links key after) (link_stays links key before after found t.same) all.all;
  }

  pub turned_at : (links : Slab (Link S)) (key : ℕ) (before after : Link S) (h k : H) → get links key ≡ Some before → IsLinkStep step contents remaining moment before h after k
      → AreTurned step contents remaining moment links h (with_value links key after) k
  unfolding piece_at
  turned_at links key before after h k found t = record {
    served = map (served_with (piece_at before.connection.number moment)) t.done;
    run = serves_run step (piece_at before.connection.number moment) h k t.done t.run;
    at = at_piece before.connection.number moment t.done;
    unwritten = at_each (λ (key : ℕ) (link : Link S). IsUnwritten contents remaining links key link) links key before after found
        (record { before = before; stood = found; same = t.same; unwritten = t.unwritten; read = t.read; consumed = t.consumed })
        (λ other link differs is. unwritten_none links other link is);
    stay = link_stays links key before after found t.same;
    follows = λ accepted gone earlier kept. turn_all accepted gone earlier links key before after h k found t kept;
    count = count_changed links key before after found;
  }

  -- what was received stays
  links_answered : (accepted : List S) (served : List Served) (old new : Slab (Link S)) (h k : H) → AreTurned step contents remaining moment old h new k
      → AreLinksAnswered contents remaining accepted served old → AreLinksAnswered contents remaining accepted served new
  links_answered accepted served old new h k t a key link is =
      let u = t.unwritten key link is in
      let b = a key u.before u.stood in
      record {
        first = b.first;
        numbered = subst (λ (n : ℕ). IsNumbered accepted n b.first) (sym u.same) b.numbered;
        received = subst (λ (n : ℕ). IsReceived contents remaining b.first link.stream (done_on n served)) (sym u.same)
            (received_still step contents remaining moment b.first u.before.stream link.stream (done_on u.before.connection.number served) u.read u.unwritten u.consumed b.received);
      }

  pub turned_answered : (accepted : List S) (gone : List (ℕ × S)) (served : List Served) (old new : Slab (Link S)) (h k : H) → AreTurned step contents remaining moment old h new k
      → AreAllAnswered contents remaining accepted gone served old → AreAllAnswered contents remaining accepted gone served new
  turned_answered accepted gone served old new h k t a = record {
    linked = links_answered accepted served old new h k t a.linked;
    over = a.over;
    all = there_still accepted gone old new t.stay a.all;
  }
