-- Rounds: what is accepted, what is kept through a round, and many of them.
use Rattle.std.proofs.Common.{get_or, ◌≡◌, ◌∙◌, inl, inr, ℕ, ℤ, true, List, [], ◌∷◌, ◌++◌, append_assoc, length, ◌+◌, ◌<◌, ◌≤◌, arith, Option, Some, None, refl, sym, ap, subst}
use Rattle.std.specs.Prelude.{◌⊎◌, Contains, Result, Ok, Err, IfOk, OnErr}
use Rattle.std.proofs.lemmas.Bool.{cases_eq, cases_lt}
use Rattle.std.proofs.lemmas.List.{append-nil, length-append}
use Rattle.std.proofs.lemmas.List.Concat.{flat_map-append}
use Rattle.std.proofs.lemmas.List.Elements.{Contains-append_left, Contains-push, Contains-push_cases}
use Rattle.std.specs.Io.KnownBytes.{Keeps}
use Rattle.slab.specs.Slab.{SameValues, Slab, Updates, get}
use Rattle.oai_http.specs.declared.handlers.SettleFault.{SettleFault}
use Rattle.oai_front.proofs.RunLemmas.{none_unfinished}
use Rattle.oai_front.specs.Messages.{waits}
use Rattle.oai_front.specs.Performing.{AnsweredMessage, Steps, answers_of}
use Rattle.oai_front.specs.Runs.{Served, Serves, done_on}
use Rattle.oai_serving.proofs.KnownBytes.{appends_kept, consumes_kept}
use Rattle.oai_serving.proofs.PassLemmas.{passes_none, passes_then}
use Rattle.oai_serving.proofs.TableLemmas.{all_answered, all_as, all_sent, answered_as, none_there, over_more, same_value, sent_on, sent_same, there_still, turned_answered}
use Rattle.oai_serving.specs.Accepted.{Known, Passes}
use Rattle.oai_serving.specs.Links.{IsLinkFollowed, Link, opened}
use Rattle.oai_serving.specs.Received.{IsReceived}
use Rattle.oai_serving.specs.Rounds.{AreAccepted, AreLinksEnded, AreLinksWritten, AreRounds, AreSettled, HasOneMore, IsAdmitted, IsPerformance, IsRound, IsRoundSettled, IsService, IsStoredOrDropped, RoundOutcome, Settles, World, served_in}
use Rattle.oai_serving.specs.Tables.{AreAllKept, AreAllThere, AreGoneAnswered, AreLinksKept, AreTurned, HasLinkOf, IsLinkKept, IsNumbered}
use Rattle.oai_serving.specs.declared.faults.ServeFault.{ServeFault}
use Rattle.oai_serving.specs.declared.faults.ServeFault.TheVariants.{Unsettled}

-- ---- numbers

number_within : {S : Type 0} (accepted : List S) (number : ℕ) (stream : S) → IsNumbered accepted number stream → number ≤ length accepted
number_within {S} accepted number stream n =
    omega (arith, n.at, ap (λ (xs : List S). length xs) n.stands, length-append n.front (stream ∷ n.later))

numbered_grown : {S : Type 0} (accepted more : List S) (number : ℕ) (stream : S) → IsNumbered accepted number stream → IsNumbered (accepted ++ more) number stream
numbered_grown {S} accepted more number stream n = record {
  front = n.front;
  later = n.later ++ more;
  stands = ap (λ (xs : List S). xs ++ more) n.stands ∙ append_assoc n.front (stream ∷ n.later) more;
  at = n.at;
}

numbered_last : {S : Type 0} (accepted : List S) (stream : S) → IsNumbered (accepted ++ stream ∷ []) (length accepted + 1) stream
numbered_last accepted stream = record { front = accepted; later = []; stands = refl; at = refl }

-- ---- a link more

module _ {S : Type 0} (contents remaining : S → Option (List ℕ)) where
  fresh_follows : (number : ℕ) (stream watched : S) → Keeps (contents stream) (contents watched) → Keeps (remaining stream) (remaining watched)
      → IsLinkFollowed contents remaining stream [] (opened number watched)
  unfolding answers_of
  fresh_follows number stream watched unwritten unread = record {
    received = record {
      came = [];
      others = [];
      whole = true;
      end = waits [];
      sent = [];
      waiting = [];
      read = consumes_kept (remaining stream) (remaining watched) unread;
      performed = (refl, none_unfinished);
      answers = refl;
      written = appends_kept (contents stream) (contents watched) unwritten;
    };
    waiting = refl;
    rest = refl;
    stage = refl;
    all = λ able. refl;
  }

  kept_grown : (accepted more : List S) (served : List Served) (links : Slab (Link S)) → AreLinksKept contents remaining accepted served links
      → AreLinksKept contents remaining (accepted ++ more) served links
  kept_grown accepted more served links k = record {
    each = λ key link is.
        let kept = k.each key link is in
        record { first = kept.first; numbered = numbered_grown accepted more link.connection.number kept.first kept.numbered; follows = kept.follows };
    one = k.one;
    later = λ number above. k.later number (omega (arith, above, length-append accepted more));
  }

  kept_alike : (accepted : List S) (served : List Served) (old new : Slab (Link S)) → SameValues old new → AreLinksKept contents remaining accepted served old
      → AreLinksKept contents remaining accepted served new
  kept_alike accepted served old new same k = record {
    each = λ key link is. k.each key link (sym (same key) ∙ is);
    one = λ key other a b is js. k.one key other a b (sym (same key) ∙ is) (sym (same other) ∙ js);
    later = k.later;
  }

  -- what stands under each key, once one more is there
  more_each : (P : ℕ → Link S → Type 0) (old new : Slab (Link S)) (key : ℕ) (link : Link S) → Updates old new key (Some link) → P key link
      → ((other : ℕ) (value : Link S) → (other ≡ key → ⊥) → get old other ≡ Some value → P other value) → (other : ℕ) (value : Link S) → get new other ≡ Some value → P other value
  more_each P old new key link u here there other value is = elim (cases_eq other key) [
    | inl same ↦
        let e : link ≡ value = same_value link value (sym u.changed ∙ sym (ap (get new) same) ∙ is) in
        subst (λ (k : ℕ). P k value) (sym same) (subst (λ (v : Link S). P key v) e here)
    | inr differs ↦ there other value differs (sym (u.others other differs) ∙ is)
  ]

  kept_more : (accepted : List S) (stream watched : S) (served : List Served) (old new : Slab (Link S)) (key : ℕ) → Keeps (contents stream) (contents watched)
      → Keeps (remaining stream) (remaining watched) → Updates old new key (Some (opened (length accepted + 1) watched)) → AreLinksKept contents remaining accepted served old
      → AreLinksKept contents remaining (accepted ++ stream ∷ []) served new
  kept_more accepted stream watched served old new key unwritten unread u k =
      let number : ℕ = length accepted + 1 in
      let link : Link S = opened number watched in
      let all = accepted ++ stream ∷ [] in
      let grown = kept_grown accepted (stream ∷ []) served old k in
      let above : (other : ℕ) (value : Link S) → get old other ≡ Some value → value.connection.number < number = λ other value is.
      let kept = k.each other value is in let near = number_within accepted value.connection.number kept.first kept.numbered in omega (arith, near) in
      let own : IsLinkKept contents remaining all served link = record {
        first = stream;
        numbered = numbered_last accepted stream;
        follows = subst (λ (ds : List AnsweredMessage). IsLinkFollowed contents remaining stream ds link) (sym (k.later number (omega arith))) (fresh_follows number stream watched unwritten unread);
      } in
      record {
        each = more_each (λ (j : ℕ) (value : Link S). IsLinkKept contents remaining all served value) old new key link u own (λ other value differs is. grown.each other value is);
        one = λ j l a b is js same.
            more_each (λ (j : ℕ) (value : Link S). value.connection.number ≡ b.connection.number → j ≡ l) old new key link u
            (λ mine. more_each (λ (l : ℕ) (value : Link S). number ≡ value.connection.number → key ≡ l) old new key link u (λ e. refl)
            (λ other value differs is_there e. absurd (omega (arith, above other value is_there, e))) l b js mine)
            (λ other value differs is_there e.
            more_each (λ (l : ℕ) (second : Link S). value.connection.number ≡ second.connection.number → other ≡ l) old new key link u
            (λ mine. absurd (omega (arith, above other value is_there, mine)))
            (λ l second apart stands even. k.one other l value second is_there stands even) l b js e)
            j a is same;
        later = grown.later;
      }

  -- ---- those that were let go

  over_grown : (accepted more : List S) (gone : List (ℕ × S)) (served : List Served) → AreGoneAnswered contents remaining accepted gone served
      → AreGoneAnswered contents remaining (accepted ++ more) gone served
  over_grown accepted more gone served over number last is =
      let a = over number last is in
      record { first = a.first; numbered = numbered_grown accepted more number a.first a.numbered; received = a.received }

  -- the next number is that of the stream that comes, or one that was given before
  there_more : (accepted : List S) (stream : S) (gone away : List (ℕ × S)) (old new : Slab (Link S))
      → ((number : ℕ) → number ≡ length accepted + 1 → HasLinkOf number new ⊎ ((last : S) × Contains away (number, last)))
      → ((number : ℕ) → HasLinkOf number old → HasLinkOf number new) → ((number : ℕ) (last : S) → Contains gone (number, last) → Contains away (number, last))
      → AreAllThere accepted gone old → AreAllThere (accepted ++ stream ∷ []) away new
  there_more accepted stream gone away old new own stay still all number low high = elim (cases_lt (length accepted) number) [
    | inl above ↦ own number (omega (arith, above, high, length-append accepted (stream ∷ [])))
    | inr within ↦ elim (all number low within) [
      | inl h ↦ inl (stay number h)
      | inr g ↦ inr (g.0, still number g.0 g.1)
    ]
  ]

  link_put : (old new : Slab (Link S)) (key : ℕ) (link : Link S) → get old key ≡ None → Updates old new key (Some link) → (number : ℕ) → HasLinkOf number old → HasLinkOf number new
  link_put old new key link vacant u number h = record {
    key = h.key;
    link = h.link;
    stands = u.others h.key (λ same. none_there h.link (sym vacant ∙ sym (ap (get old) same) ∙ h.stands)) ∙ h.stands;
    is = h.is;
  }

  link_alike : (old new : Slab (Link S)) → SameValues old new → (number : ℕ) → HasLinkOf number old → HasLinkOf number new
  link_alike old new same number h = record { key = h.key; link = h.link; stands = same h.key ∙ h.stands; is = h.is }

  all_alike : (accepted : List S) (gone : List (ℕ × S)) (served : List Served) (old new : Slab (Link S)) → SameValues old new → AreAllKept contents remaining accepted gone served old
      → AreAllKept contents remaining accepted gone served new
  all_alike accepted gone served old new same k = record {
    kept = kept_alike accepted served old new same k.kept;
    over = k.over;
    apart = λ number last is h. k.apart number last is (record { key = h.key; link = h.link; stands = sym (same h.key) ∙ h.stands; is = h.is });
    all = there_still accepted gone old new (link_alike old new same) k.all;
  }

  all_put : (accepted : List S) (gone : List (ℕ × S)) (stream watched : S) (served : List Served) (old new : Slab (Link S)) (key : ℕ) → Keeps (contents stream) (contents watched)
      → Keeps (remaining stream) (remaining watched) → get old key ≡ None → Updates old new key (Some (opened (length accepted + 1) watched))
      → AreAllKept contents remaining accepted gone served old → AreAllKept contents remaining (accepted ++ stream ∷ []) gone served new
  all_put accepted gone stream watched served old new key unwritten unread vacant u k =
      let link : Link S = opened (length accepted + 1) watched in
      record {
        kept = kept_more accepted stream watched served old new key unwritten unread u k.kept;
        over = over_grown accepted (stream ∷ []) gone served k.over;
        apart = λ number last is h.
            more_each (λ (j : ℕ) (value : Link S). value.connection.number ≡ number → ⊥) old new key link u
            (λ mine. let a = k.over number last is in let near = number_within accepted number a.first a.numbered in absurd (omega (arith, near, mine)))
            (λ other value differs there mine. k.apart number last is (record { key = other; link = value; stands = there; is = mine }))
            h.key h.link h.stands h.is;
        all = there_more accepted stream gone gone old new (λ number mine. inl (record { key = key; link = link; stands = u.changed; is = sym mine }))
            (link_put old new key link vacant u) (λ number last is. is) k.all;
      }

  all_let_go : (accepted : List S) (gone : List (ℕ × S)) (stream watched : S) (served : List Served) (links : Slab (Link S)) → Keeps (contents stream) (contents watched)
      → Keeps (remaining stream) (remaining watched) → AreAllKept contents remaining accepted gone served links
      → AreAllKept contents remaining (accepted ++ stream ∷ []) (gone ++ (length accepted + 1, watched) ∷ []) served links
  all_let_go accepted gone stream watched served links unwritten unread k =
      let number : ℕ = length accepted + 1 in
      let follows = fresh_follows number stream watched unwritten unread in
      record {
        kept = kept_grown accepted (stream ∷ []) served links k.kept;
        over = over_more contents remaining (accepted ++ stream ∷ []) gone served number watched (over_grown accepted (stream ∷ []) gone served k.over) (record {
          first = stream;
          numbered = numbered_last accepted stream;
          received = subst (λ (ds : List AnsweredMessage). IsReceived contents remaining stream watched ds) (sym (k.kept.later number (omega arith))) follows.received;
        });
        apart = λ n last is h. elim (Contains-push_cases gone (number, watched) (n, last) is) [
          | inl before ↦ k.apart n last before h
          | inr same ↦
              let e : number ≡ n = ap (λ (p : ℕ × S). p.0) same in
              let own = k.kept.each h.key h.link h.stands in
              let near = number_within accepted h.link.connection.number own.first own.numbered in
              absurd (omega (arith, near, e, h.is))
        ];
        all = there_more accepted stream gone (gone ++ (number, watched) ∷ []) links links
            (λ n mine. inr (watched, subst (λ (m : ℕ). Contains (gone ++ (number, watched) ∷ []) (m, watched)) (sym mine) (Contains-push gone (number, watched))))
            (λ n h. h) (λ n last is. Contains-append_left gone ((number, watched) ∷ []) (n, last) is) k.all;
      }

  -- the stream was let go at once
  pub let_go_all : (accepted : List S) (gone : List (ℕ × S)) (stream watched : S) (served : List Served) (links : Slab (Link S)) (last : ℕ) → last ≡ length accepted
      → Keeps (contents stream) (contents watched) → Keeps (remaining stream) (remaining watched) → AreAllKept contents remaining accepted gone served links
      → AreAllKept contents remaining (accepted ++ stream ∷ []) (gone ++ (last + 1, watched) ∷ []) served links
  let_go_all accepted gone stream watched served links last count unwritten unread k =
      subst (λ (n : ℕ). AreAllKept contents remaining (accepted ++ stream ∷ []) (gone ++ (n + 1, watched) ∷ []) served links) (sym count)
      (all_let_go accepted gone stream watched served links unwritten unread k)

  put_all : (accepted : List S) (gone : List (ℕ × S)) (stream watched : S) (served : List Served) (old new : Slab (Link S)) (last : ℕ) → last ≡ length accepted
      → Keeps (contents stream) (contents watched) → Keeps (remaining stream) (remaining watched) → HasOneMore (opened (last + 1) watched) old new
      → AreAllKept contents remaining accepted gone served old → AreAllKept contents remaining (accepted ++ stream ∷ []) (gone ++ []) served new
  put_all accepted gone stream watched served old new last count unwritten unread more k =
      all_as contents remaining (accepted ++ stream ∷ []) (accepted ++ stream ∷ []) gone (gone ++ []) served served new refl (sym (append-nil gone)) refl
      (all_put accepted gone stream watched served old new more.0 unwritten unread more.1
      (subst (λ (n : ℕ). Updates old new more.0 (Some (opened (n + 1) watched))) count more.2) k)

count_none : (n : ℕ) → n ≡ n + 0
count_none n = omega arith

module _ {S H : Type 0} (contents remaining : S → Option (List ℕ)) where
  -- ---- steps of a round

  pub written_none : (world : World S H) → AreLinksWritten contents remaining world world
  written_none world = record { handler = refl; last = refl; links = sent_same contents remaining world.links }

  pub written_then : (a b c : World S H) → AreLinksWritten contents remaining a b → AreLinksWritten contents remaining b c → AreLinksWritten contents remaining a c
  written_then a b c s t = record {
    handler = t.handler ∙ s.handler;
    last = t.last ∙ s.last;
    links = sent_on contents remaining a.links b.links c.links s.links t.links;
  }

  pub accepted_none : (known later : Known S) (world : World S H) → Passes known later [] [] → AreAccepted contents remaining known later world world
  accepted_none known later world passes = record {
    streams = [];
    parted = [];
    passes = passes;
    handler = refl;
    last = count_none world.last;
    kept = λ accepted gone served count k.
        all_as contents remaining accepted (accepted ++ []) gone (gone ++ []) served served world.links (sym (append-nil accepted)) (sym (append-nil gone)) refl k;
  }

  pub accepted_one : (known mid later : Known S) (stream : S) (old new : World S H) → Passes known mid (stream ∷ []) [] → IsAdmitted contents remaining mid later stream old new
      → AreAccepted contents remaining known later old new
  accepted_one known mid later stream old new passes d = record {
    streams = stream ∷ [];
    parted = d.parted;
    passes = passes_then known mid later (stream ∷ []) [] [] d.parted passes d.passes;
    handler = d.handler;
    last = d.last;
    kept = d.kept;
  }

  pub accepted_then : (known mid later : Known S) (a b c : World S H) → AreAccepted contents remaining known mid a b → AreAccepted contents remaining mid later b c
      → AreAccepted contents remaining known later a c
  accepted_then known mid later a b c s t = record {
    streams = s.streams ++ t.streams;
    parted = s.parted ++ t.parted;
    passes = passes_then known mid later s.streams t.streams s.parted t.parted s.passes t.passes;
    handler = t.handler ∙ s.handler;
    last = omega (arith, s.last, t.last, length-append s.streams t.streams);
    kept = λ accepted gone served count k.
        all_as contents remaining ((accepted ++ s.streams) ++ t.streams) (accepted ++ (s.streams ++ t.streams)) ((gone ++ s.parted) ++ t.parted) (gone ++ (s.parted ++ t.parted))
        served served c.links (append_assoc accepted s.streams t.streams) (append_assoc gone s.parted t.parted) refl
        (t.kept (accepted ++ s.streams) (gone ++ s.parted) served (omega (arith, count, s.last, length-append accepted s.streams)) (s.kept accepted gone served count k));
  }

  -- the stream was let go, since it could not be watched
  pub admitted_not : (known later : Known S) (stream watched : S) (old new : World S H) → new.handler ≡ old.handler → new.last ≡ old.last + 1 → new.links ≡ old.links
      → Keeps (contents stream) (contents watched) → Keeps (remaining stream) (remaining watched) → Passes known later [] ((old.last + 1, watched) ∷ [])
      → IsAdmitted contents remaining known later stream old new
  admitted_not known later stream watched old new handler last links unwritten unread passes = record {
    parted = (old.last + 1, watched) ∷ [];
    passes = passes;
    handler = handler;
    last = last;
    kept = λ accepted gone served count k.
        subst (λ (ls : Slab (Link S)). AreAllKept contents remaining (accepted ++ stream ∷ []) (gone ++ (old.last + 1, watched) ∷ []) served ls) (sym links)
        (let_go_all contents remaining accepted gone stream watched served old.links old.last count unwritten unread k);
  }

  -- a link was made of it, which was kept or not
  pub admitted : (known mid later : Known S) (stream watched : S) (old new : World S H) → new.handler ≡ old.handler → new.last ≡ old.last + 1
      → Keeps (contents stream) (contents watched) → Keeps (remaining stream) (remaining watched) → Passes known mid [] []
      → IsStoredOrDropped mid later (opened (old.last + 1) watched) old.links new.links → IsAdmitted contents remaining known later stream old new
  admitted known mid later stream watched old new handler last unwritten unread passes (inl put) = record {
    parted = [];
    passes = passes_then known mid later [] [] [] [] passes put.0;
    handler = handler;
    last = last;
    kept = λ accepted gone served count k. put_all contents remaining accepted gone stream watched served old.links new.links old.last count unwritten unread put.1 k;
  }
  admitted known mid later stream watched old new handler last unwritten unread passes (inr refused) = record {
    parted = (old.last + 1, watched) ∷ [];
    passes = passes_then known mid later [] [] [] ((old.last + 1, watched) ∷ []) passes refused.0;
    handler = handler;
    last = last;
    kept = λ accepted gone served count k.
        let_go_all contents remaining accepted gone stream watched served new.links old.last count unwritten unread
        (all_alike contents remaining accepted gone served old.links new.links refused.1 k);
  }

module _ {S H : Type 0} (step : Steps H) (settled : Settles H) (contents remaining : S → Option (List ℕ)) where
  -- ---- a round

  pub performed_ok : (moment : ℤ) (old new : World S H) (links : Slab (Link S)) (mid after : H) → AreTurned step contents remaining moment old.links old.handler links mid
      → settled mid (Ok tt) after → AreLinksWritten contents remaining (record { handler = after; links = links; last = old.last }) new
      → IsPerformance step settled contents remaining old (Ok tt) new
  performed_ok moment old new links mid after t s w = record {
    served = t.served;
    mid = mid;
    run = t.run;
    settles = subst (λ (h : H). settled mid (Ok tt) h) (sym w.handler) s;
    last = w.last;
    outcome = λ accepted gone earlier k. all_sent contents remaining accepted gone (earlier ++ t.served) links new.links w.links (t.follows accepted gone earlier k);
  }

  pub performed_not : (moment : ℤ) (old : World S H) (links : Slab (Link S)) (mid after : H) (cause : SettleFault) → AreTurned step contents remaining moment old.links old.handler links mid
      → settled mid (Err cause) after → IsPerformance step settled contents remaining old (Err Unsettled) (record { handler = after; links = links; last = old.last })
  performed_not moment old links mid after cause t s = record {
    served = t.served;
    mid = mid;
    run = t.run;
    settles = (cause, s);
    last = refl;
    outcome = λ accepted gone earlier k.
        turned_answered step contents remaining moment accepted gone earlier old.links links old.handler mid t (all_answered contents remaining accepted gone earlier old.links k);
  }

  outcome_as : (accepted others : List S) (gone away : List (ℕ × S)) (earlier served : List Served) (result : Result Unit ServeFault) (links : Slab (Link S)) → accepted ≡ others
      → gone ≡ away → RoundOutcome contents remaining accepted gone earlier served result links → RoundOutcome contents remaining others away earlier served result links
  outcome_as accepted others gone away earlier served result links a g o =
      subst (λ (xs : List S). RoundOutcome contents remaining xs away earlier served result links) a
      (subst (λ (ps : List (ℕ × S)). RoundOutcome contents remaining accepted ps earlier served result links) g o)

  pub round_of : (known mid over later : Known S) (a b c d e : World S H) (result : Result Unit ServeFault) → Passes known mid [] [] → AreLinksWritten contents remaining a b
      → AreLinksEnded contents remaining mid over b c → AreAccepted contents remaining over later c d → IsPerformance step settled contents remaining d result e
      → IsRound step settled contents remaining known later a result e
  round_of known mid over later a b c d e result waited written ended accepted performed =
      let away = ended.links in
      record {
        served = performed.served;
        mid = performed.mid;
        run = subst (λ (h : H). Serves step h performed.served performed.mid) (accepted.handler ∙ ended.handler ∙ written.handler) performed.run;
        settles = performed.settles;
        streams = accepted.streams;
        parted = away.parted ++ accepted.parted;
        passes = passes_then known mid later [] accepted.streams [] (away.parted ++ accepted.parted) waited
            (passes_then mid over later [] accepted.streams away.parted accepted.parted away.passes accepted.passes);
        last = performed.last ∙ accepted.last ∙ ap (λ (n : ℕ). n + length accepted.streams) (ended.last ∙ written.last);
        outcome = λ streams gone earlier count k.
            outcome_as (streams ++ accepted.streams) (streams ++ accepted.streams) ((gone ++ away.parted) ++ accepted.parted) (gone ++ (away.parted ++ accepted.parted))
            earlier performed.served result e.links refl (append_assoc gone away.parted accepted.parted)
            (performed.outcome (streams ++ accepted.streams) ((gone ++ away.parted) ++ accepted.parted) earlier
            (accepted.kept streams (gone ++ away.parted) earlier (ended.last ∙ written.last ∙ count)
            (away.kept streams gone earlier (all_sent contents remaining streams gone earlier a.links b.links written.links k))));
      }

  -- one that came to nothing
  pub round_none : (known later : Known S) (world : World S H) (fault : ServeFault) → Passes known later [] [] → IsRoundSettled settled world.handler (Err fault) world.handler
      → IsRound step settled contents remaining known later world (Err fault) world
  round_none known later world fault passes s = record {
    served = [];
    mid = world.handler;
    run = refl;
    settles = s;
    streams = [];
    parted = [];
    passes = passes;
    last = omega arith;
    outcome = λ streams gone earlier count k.
        answered_as contents remaining streams (streams ++ []) gone (gone ++ []) earlier world.links (sym (append-nil streams)) (sym (append-nil gone))
        (all_answered contents remaining streams gone earlier world.links k);
  }

  -- ---- rounds

  settled_more : (rounds : List (List Served)) (served : List Served) (old mid new : H) → AreSettled step settled rounds old mid
      → (performed : H) × Serves step mid served performed × settled performed (Ok tt) new → AreSettled step settled (rounds ++ served ∷ []) old new
  settled_more [] served old mid new a b =
      (new, subst (λ (h : H). (performed : H) × Serves step h served performed × settled performed (Ok tt) new) a b, refl)
  settled_more (r ∷ rounds) served old mid new a b = (a.0, a.1, settled_more rounds served a.0 mid new a.2 b)

  served_more : (rounds : List (List Served)) (served : List Served) → served_in (rounds ++ served ∷ []) ≡ served_in rounds ++ served
  served_more rounds served =
      flat_map-append (λ (xs : List Served). xs) rounds (served ∷ []) ∙ ap (λ (xs : List Served). served_in rounds ++ xs) (append-nil served)

  pub rounds_none : (known : Known S) (world : World S H) → AreRounds step settled contents remaining 0 known known world world
  rounds_none known world = record {
    rounds = [];
    many = refl;
    settles = refl;
    streams = [];
    parted = [];
    passes = passes_none known;
    last = omega arith;
    kept = λ accepted gone earlier count k.
        all_as contents remaining accepted (accepted ++ []) gone (gone ++ []) earlier (earlier ++ []) world.links (sym (append-nil accepted)) (sym (append-nil gone))
        (sym (append-nil earlier)) k;
  }

  pub rounds_more : (count : ℕ) (known mid later : Known S) (a b c : World S H) → AreRounds step settled contents remaining count known mid a b
      → IsRound step settled contents remaining mid later b (Ok tt) c → AreRounds step settled contents remaining (count + 1) known later a c
  rounds_more count known mid later a b c s r = record {
    rounds = s.rounds ++ r.served ∷ [];
    many = length-append s.rounds (r.served ∷ []) ∙ ap (λ (n : ℕ). n + 1) s.many;
    settles = settled_more s.rounds r.served a.handler b.handler c.handler s.settles (r.mid, r.run, r.settles);
    streams = s.streams ++ r.streams;
    parted = s.parted ++ r.parted;
    passes = passes_then known mid later s.streams r.streams s.parted r.parted s.passes r.passes;
    last = omega (arith, s.last, r.last, length-append s.streams r.streams);
    kept = λ accepted gone earlier before k.
        all_as contents remaining ((accepted ++ s.streams) ++ r.streams) (accepted ++ (s.streams ++ r.streams)) ((gone ++ s.parted) ++ r.parted) (gone ++ (s.parted ++ r.parted))
        ((earlier ++ served_in s.rounds) ++ r.served) (earlier ++ served_in (s.rounds ++ r.served ∷ [])) c.links (append_assoc accepted s.streams r.streams)
        (append_assoc gone s.parted r.parted)
        (append_assoc earlier (served_in s.rounds) r.served ∙ ap (λ (xs : List Served). earlier ++ xs) (sym (served_more s.rounds r.served)))
        (r.outcome (accepted ++ s.streams) (gone ++ s.parted) (earlier ++ served_in s.rounds) (omega (arith, before, s.last, length-append accepted s.streams))
        (s.kept accepted gone earlier before k));
  }

  pub service_ended : (count : ℕ) (known mid later : Known S) (a b c : World S H) (fault : ServeFault) → AreRounds step settled contents remaining count known mid a b
      → IsRound step settled contents remaining mid later b (Err fault) c → IsService step settled contents remaining known later a (Err fault) c
  service_ended count known mid later a b c fault s r = record {
    rounds = s.rounds;
    many = tt;
    mid = b.handler;
    settles = s.settles;
    ends = record { served = r.served; performed = r.mid; run = r.run; settles = r.settles };
    streams = s.streams ++ r.streams;
    parted = s.parted ++ r.parted;
    passes = passes_then known mid later s.streams r.streams s.parted r.parted s.passes r.passes;
    answered = λ accepted gone earlier before k.
        answered_as contents remaining ((accepted ++ s.streams) ++ r.streams) (accepted ++ (s.streams ++ r.streams)) ((gone ++ s.parted) ++ r.parted)
        (gone ++ (s.parted ++ r.parted)) (earlier ++ served_in s.rounds) c.links (append_assoc accepted s.streams r.streams) (append_assoc gone s.parted r.parted)
        (r.outcome (accepted ++ s.streams) (gone ++ s.parted) (earlier ++ served_in s.rounds) (omega (arith, before, s.last, length-append accepted s.streams))
        (s.kept accepted gone earlier before k));
  }

  pub service_over : (count : ℕ) (known later : Known S) (a b : World S H) → 18_446_744_073_709_551_615 ≤ count → AreRounds step settled contents remaining count known later a b
      → IsService step settled contents remaining known later a (Ok tt) b
  service_over count known later a b enough s = record {
    rounds = s.rounds;
    many = subst (λ (n : ℕ). 18_446_744_073_709_551_615 ≤ n) (sym s.many) enough;
    mid = b.handler;
    settles = s.settles;
    ends = refl;
    streams = s.streams;
    parted = s.parted;
    passes = s.passes;
    answered = λ accepted gone earlier before k.
        all_answered contents remaining (accepted ++ s.streams) (gone ++ s.parted) (earlier ++ served_in s.rounds) b.links (s.kept accepted gone earlier before k);
  }

-- ---- a link that was put in

pub put_in : {S E : Type 0} (link : Link S) (old new : Slab (Link S)) (result : Result ℕ E) (key : ℕ) → result ≡ Ok key → IfOk result (λ key. get old key ≡ None)
    → IfOk result (λ key. Updates old new key (Some link)) → HasOneMore link old new
put_in link old new result key is = rw is (λ none updates. (key, none, updates))

pub not_put : {S E : Type 0} (old new : Slab (Link S)) (result : Result ℕ E) (fault : E) → result ≡ Err fault → OnErr result (new ≡ record old { capacity = new.capacity }) → SameValues old new
not_put {S} old new result fault is = rw is (λ err key. ap (λ (s : Slab (Link S)). get s key) err)

-- ---- before the first

no_link : {S : Type 0} (slots : List (Option (Link S))) (key : ℕ) (link : Link S) → slots ≡ [] → get_or slots key None ≡ Some link → ⊥
no_link [] key link e is = none_there link is
no_link (x ∷ slots) key link e is = cc

kept_none : {S : Type 0} (contents remaining : S → Option (List ℕ)) (links : Slab (Link S)) → links.slots ≡ [] → AreLinksKept contents remaining [] [] links
unfolding done_on
kept_none contents remaining links none = record {
  each = λ key link is. absurd (no_link links.slots key link none is);
  one = λ key other a b is js same. absurd (no_link links.slots key a none is);
  later = λ number above. refl;
}

nobody : {A : Type 0} (a : A) → Contains [] a → ⊥
nobody a is = omega (arith, is.1)

pub all_none : {S : Type 0} (contents remaining : S → Option (List ℕ)) (links : Slab (Link S)) → links.slots ≡ [] → AreAllKept contents remaining [] [] [] links
all_none {S} contents remaining links none = record {
  kept = kept_none contents remaining links none;
  over = λ number last is. absurd (nobody {A = ℕ × S} (number, last) is);
  apart = λ number last is h. nobody {A = ℕ × S} (number, last) is;
  all = λ number low high. absurd (omega (arith, low, high));
}
