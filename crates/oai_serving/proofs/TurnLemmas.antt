-- Turns of a link: what came of it before stays, and more comes behind it.
use Rattle.std.proofs.Common.{◌≡◌, ◌∙◌, inl, inr, ℕ, ℤ, Bool, true, false, cond, List, [], ◌∷◌, ◌++◌, append_assoc, length, take, drop, ◌≤◌, arith, Option, refl, sym, ap, subst}
use Rattle.std.specs.Prelude.{Result, Ok, Err}
use Rattle.std.proofs.lemmas.Bool.{false≢true}
use Rattle.std.proofs.lemmas.List.{append-nil, drop-append-le, take-append-drop}
use Rattle.std.specs.Io.KnownBytes.{Appends, Consumes, Keeps}
use Rattle.oai_front.proofs.RunLemmas.{messages_join, performed_join, splits_in, told_join}
use Rattle.oai_front.specs.Connections.{Connection, IsGoneOver, IsTakenIn, bytes_with, connection_at, rest_at, stage_at}
use Rattle.oai_front.specs.Messages.{End, Message, closes, faults, waits}
use Rattle.oai_front.specs.Performing.{AnsweredMessage, Run, Steps, answers_of, end_bytes, messages_of}
use Rattle.oai_front.specs.Runs.{ArePerformed}
use Rattle.oai_front.specs.Stages.{is_closing}
use Rattle.oai_front.specs.declared.faults.PieceFault.{PieceFault}
use Rattle.oai_front.specs.declared.faults.PieceFault.TheVariants.{NoSuchConnection, NoMemory, Unfinished}
use Rattle.oai_front.specs.declared.stages.Stage.{Stage}
use Rattle.oai_front.specs.declared.stages.Stage.TheVariants.{Reading}
use Rattle.oai_serving.proofs.KnownBytes.{appends_kept, appends_none, appends_then, consumes_none, consumes_then, keeps_appends, keeps_consumes, keeps_same, keeps_then}
use Rattle.oai_serving.specs.Inside.{with_gathered}
use Rattle.std.proofs.Math.Seq.{drop-append_seam}
use Rattle.oai_serving.specs.Links.{IsLinkBehind, IsLinkFollowed, IsLinkStep, IsPassedOn, IsSent, IsStill, Link}
use Rattle.oai_serving.specs.Received.{IsReceived}

module _ {S H : Type 0} (step : Steps H) (contents remaining : S → Option (List ℕ)) (moment : ℤ) where
  -- nothing changes
  pub turn_none : (link : Link S) (handler : H) → IsLinkStep step contents remaining moment link handler link handler
  turn_none link handler = record {
    done = [];
    run = refl;
    same = refl;
    unwritten = keeps_same (contents link.stream);
    read = [];
    consumed = consumes_none (remaining link.stream);
    idle = inr refl;
    follows = λ first earlier f. subst (λ (ds : List AnsweredMessage). IsLinkFollowed contents remaining first ds link) (sym (append-nil earlier)) f;
  }

  -- bytes may have been read, and none was written
  pub received_still : (first before after : S) (done : List AnsweredMessage) (read : List ℕ) → Keeps (contents before) (contents after) → Consumes (remaining before) (remaining after) read
      → IsReceived contents remaining first before done → IsReceived contents remaining first after done
  received_still first before after done read unwritten consumes r = record {
    came = r.came;
    others = r.others ++ read;
    whole = r.whole;
    end = r.end;
    sent = r.sent;
    waiting = r.waiting;
    read = subst (λ (xs : List ℕ). Consumes (remaining first) (remaining after) xs) (append_assoc r.came r.others read)
        (consumes_then (remaining first) (remaining before) (remaining after) (r.came ++ r.others) read r.read consumes);
    performed = r.performed;
    answers = r.answers;
    written = keeps_appends (contents first) (contents before) (contents after) r.sent r.written unwritten;
  }

  -- bytes of the stream were read behind those that were passed on
  read_behind : (first : S) (done : List AnsweredMessage) (old mid : Link S) (last : List ℕ) → mid.connection ≡ old.connection → (mid.able ≡ true → old.able ≡ true)
      → Keeps (contents old.stream) (contents mid.stream) → Consumes (remaining old.stream) (remaining mid.stream) last
      → IsLinkFollowed contents remaining first done old → IsLinkBehind contents remaining first done last mid
  unfolding received_still
  read_behind first done old mid last same able unwritten consumes f = record {
    received = received_still first old.stream mid.stream done last unwritten consumes f.received;
    waiting = f.waiting ∙ sym (ap (λ (c : Connection). c.output) same);
    rest = ap (λ (c : Connection). c.rest) same ∙ f.rest;
    stage = ap (λ (c : Connection). c.stage) same ∙ f.stage;
    all = λ a. ap (λ (xs : List ℕ). xs ++ last) (f.all (able a));
  }

  -- bytes were read, and passed on
  pub read_turn : (old mid new : Link S) (before after : H) (last : List ℕ) → mid.connection ≡ old.connection → (mid.able ≡ true → old.able ≡ true)
      → Keeps (contents old.stream) (contents mid.stream) → Consumes (remaining old.stream) (remaining mid.stream) last → IsPassedOn step contents remaining moment last mid before new after
      → old.connection.output ≡ [] → IsLinkStep step contents remaining moment old before new after
  read_turn old mid new before after last same able unwritten consumes p none = record {
    done = p.done;
    run = p.run;
    same = p.same ∙ ap (λ (c : Connection). c.number) same;
    unwritten = subst (λ (s : S). Keeps (contents old.stream) (contents s)) (sym p.stream) unwritten;
    read = last;
    consumed = subst (λ (s : S). Consumes (remaining old.stream) (remaining s) last) (sym p.stream) consumes;
    idle = inl none;
    follows = λ first earlier f. p.follows first earlier (read_behind first earlier old mid last same able unwritten consumes f);
  }

  still_behind : (first : S) (done : List AnsweredMessage) (last : List ℕ) (old new : Link S) → IsStill old new → (new.able ≡ true → last ≡ []) → IsLinkBehind contents remaining first done last old
      → IsLinkFollowed contents remaining first done new
  still_behind first done last old new still none f =
      subst (λ (s : S). IsLinkFollowed contents remaining first done (record { stream = s; connection = new.connection; able = new.able })) (sym still.stream)
      (record {
        received = f.received;
        waiting = f.waiting ∙ sym (ap (λ (c : Connection). c.output) still.connection);
        rest = ap (λ (c : Connection). c.rest) still.connection ∙ f.rest;
        stage = ap (λ (c : Connection). c.stage) still.connection ∙ f.stage;
        all = λ a. f.all (still.able a) ∙ none a;
      })

  -- nothing is passed on: there was nothing, or nothing more is performed
  pub still_passed : (last : List ℕ) (old new : Link S) (handler : H) → IsStill old new → (new.able ≡ true → last ≡ []) → IsPassedOn step contents remaining moment last old handler new handler
  still_passed last old new handler still none = record {
    done = [];
    run = refl;
    same = ap (λ (c : Connection). c.number) still.connection;
    stream = still.stream;
    follows = λ first earlier f. subst (λ (ds : List AnsweredMessage). IsLinkFollowed contents remaining first ds new) (sym (append-nil earlier)) (still_behind first earlier last old new still none f);
  }

-- ---- a piece

-- what came of a piece: these messages were performed, up to that end
record Came {H : Type 0} (step : Steps H) (moment : ℤ) (bytes : List ℕ) (x : Connection) (before : H) (y : Connection) (after : H) : Type 0 where
  done : List AnsweredMessage
  whole : Bool
  end : End
  run : Run step moment before done after
  performed : ArePerformed whole bytes (messages_of done) end
  is : y ≡ connection_at (record x { rest = bytes }) end (answers_of done ++ end_bytes end)

module _ {H : Type 0} (step : Steps H) (moment : ℤ) where
  came_whole : (bytes : List ℕ) (x y : Connection) (before after : H) → IsGoneOver step moment (record x { rest = bytes }) before (Ok tt) y after → Came step moment bytes x before y after
  came_whole bytes x y before after t =
      let comp = t.2 in record {
        done = comp.done;
        whole = true;
        end = t.0;
        run = comp.run;
        performed = comp.stream;
        is = t.3 ∙ ap (connection_at (record x { rest = bytes }) t.0) comp.told;
      }

  came_part : (bytes : List ℕ) (x y : Connection) (before after : H) → IsGoneOver step moment (record x { rest = bytes }) before (Err Unfinished) y after → Came step moment bytes x before y after
  came_part bytes x y before after t =
      let part = t.2 in record {
        done = part.done;
        whole = false;
        end = waits t.0;
        run = part.run;
        performed = (part.splits, t.3);
        is = t.4 ∙ ap (connection_at (record x { rest = bytes }) (waits t.0)) (part.told ∙ sym (append-nil (answers_of part.done)));
      }

reads_at : (c : Connection) (piece : List ℕ) → is_closing c.stage ≡ false → bytes_with c piece ≡ c.rest ++ piece
reads_at c piece open_ = ap (λ (b : Bool). cond b c.rest (c.rest ++ piece)) open_

module _ {S H : Type 0} (step : Steps H) (contents remaining : S → Option (List ℕ)) (moment : ℤ) where
  -- the messages of a piece go behind those of the bytes before it
  abbrev came_received : (first last : S) (came others piece tail sent out : List ℕ) (before whole : Bool) (rest : List ℕ) (end : End) (earlier now : List AnsweredMessage)
      → Consumes (remaining first) (remaining last) (came ++ others) → others ≡ piece ++ tail → ArePerformed before came (messages_of earlier) (waits rest)
      → answers_of earlier ++ [] ≡ sent ++ out → Appends (contents first) (contents last) sent → ArePerformed whole (rest ++ piece) (messages_of now) end
      → IsReceived contents remaining first last (earlier ++ now)
  came_received first last came others piece tail sent out before whole rest end earlier now read split performed answers written next =
      let more = answers_of now ++ end_bytes end in record {
        came = came ++ piece;
        others = tail;
        whole = whole;
        end = end;
        sent = sent;
        waiting = out ++ more;
        read = subst (λ (xs : List ℕ). Consumes (remaining first) (remaining last) xs) (ap (λ (xs : List ℕ). came ++ xs) split ∙ sym (append_assoc came piece tail)) read;
        performed = subst (λ (ms : List Message). ArePerformed whole (came ++ piece) ms end) (sym (messages_join earlier now))
            (performed_join whole came rest piece (messages_of earlier) (messages_of now) end (splits_in before came rest (messages_of earlier) performed) next);
        answers = sym (told_join [] earlier now end) ∙ ap (λ (xs : List ℕ). xs ++ more) answers ∙ append_assoc sent out more;
        written = written;
      }

  -- a link that reads
  came_at : (first : S) (earlier : List AnsweredMessage) (piece : List ℕ) (old new : Link S) (before after : H)
      (g : Came step moment (old.connection.rest ++ piece) old.connection before new.connection after) → new.stream ≡ old.stream
      → (came others sent waiting : List ℕ) (whole : Bool) (end : End)
      → Consumes (remaining first) (remaining old.stream) (came ++ others) → ArePerformed whole came (messages_of earlier) end
      → answers_of earlier ++ end_bytes end ≡ sent ++ waiting → Appends (contents first) (contents old.stream) sent → waiting ≡ old.connection.output
      → old.connection.rest ≡ rest_at end → old.connection.stage ≡ stage_at Reading end → is_closing old.connection.stage ≡ false → others ≡ piece ++ []
      → IsLinkFollowed contents remaining first (earlier ++ g.done) new
  came_at first earlier piece old new before after g stream came others sent waiting whole (waits rest) read performed answers written out left stage open_ split =
      let received = came_received first old.stream came others piece [] sent waiting whole g.whole rest g.end earlier g.done read split performed answers written
      (subst (λ (xs : List ℕ). ArePerformed g.whole (xs ++ piece) (messages_of g.done) g.end) left g.performed) in
      let more = answers_of g.done ++ end_bytes g.end in
      subst (λ (s : S). IsLinkFollowed contents remaining first (earlier ++ g.done) (record { stream = s; connection = new.connection; able = new.able })) (sym stream)
      (record {
        received = received;
        waiting = ap (λ (xs : List ℕ). xs ++ more) out ∙ sym (ap (λ (c : Connection). c.output) g.is);
        rest = ap (λ (c : Connection). c.rest) g.is;
        stage = ap (λ (c : Connection). c.stage) g.is ∙ ap (λ (s : Stage). stage_at s g.end) stage;
        all = λ able. refl;
      })
  came_at first earlier piece old new before after g stream came others sent waiting whole closes read performed answers written out left stage open_ split =
      absurd (false≢true (sym open_ ∙ ap is_closing stage))
  came_at first earlier piece old new before after g stream came others sent waiting whole (faults status) read performed answers written out left stage open_ split =
      absurd (false≢true (sym open_ ∙ ap is_closing stage))

  came_passed : (piece : List ℕ) (old new : Link S) (before after : H) → Came step moment (old.connection.rest ++ piece) old.connection before new.connection after
      → new.stream ≡ old.stream → old.able ≡ true → is_closing old.connection.stage ≡ false → IsPassedOn step contents remaining moment piece old before new after
  came_passed piece old new before after g stream able open_ = record {
    done = g.done;
    run = g.run;
    same = ap (λ (c : Connection). c.number) g.is;
    stream = stream;
    follows = λ first earlier f.
        let r = f.received in came_at first earlier piece old new before after g stream r.came r.others r.sent r.waiting r.whole r.end r.read r.performed r.answers r.written f.waiting f.rest f.stage open_
        (f.all able ∙ sym (append-nil piece));
  }

  -- a piece, of a link that reads
  piece_passed : (piece : List ℕ) (result : Result Unit PieceFault) (old new : Link S) (before after : H) → IsTakenIn step moment piece old.connection before result new.connection after
      → new.stream ≡ old.stream → old.able ≡ true → is_closing old.connection.stage ≡ false → (new.able ≡ true → result ≡ Err NoMemory → ⊥)
      → IsPassedOn step contents remaining moment piece old before new after
  piece_passed piece (Ok done) old new before after taken stream able open_ keeps =
      let bytes = reads_at old.connection piece open_ in
      came_passed piece old new before after
      (came_whole step moment (old.connection.rest ++ piece) old.connection new.connection before after
      (subst (λ (xs : List ℕ). IsGoneOver step moment (record old.connection { rest = xs }) before (Ok tt) new.connection after) bytes taken))
      stream able open_
  piece_passed piece (Err Unfinished) old new before after taken stream able open_ keeps =
      let bytes = reads_at old.connection piece open_ in
      came_passed piece old new before after
      (came_part step moment (old.connection.rest ++ piece) old.connection new.connection before after
      (subst (λ (xs : List ℕ). IsGoneOver step moment (record old.connection { rest = xs }) before (Err Unfinished) new.connection after) bytes taken))
      stream able open_
  piece_passed piece (Err NoSuchConnection) old new before after taken stream able open_ keeps = absurd taken
  piece_passed piece (Err NoMemory) old new before after taken stream able open_ keeps =
      subst (λ (h : H). IsPassedOn step contents remaining moment piece old before new h) (sym taken.1)
      (still_passed step contents remaining moment piece old new before (record { stream = stream; connection = taken.0; able = λ a. able }) (λ a. absurd (keeps a refl)))

others_of : (c d : Connection) → d ≡ c → d ≡ record c { output = d.output }
others_of c d same = same ∙ sym (ap (λ (e : Connection). record c { output = e.output }) same)

-- ---- writing

module _ {S : Type 0} (contents remaining : S → Option (List ℕ)) where
  -- what is written is the front of what waits
  pub sent_follows : (first : S) (done : List AnsweredMessage) (old new : Link S) → IsSent contents remaining old new → IsLinkFollowed contents remaining first done old
      → IsLinkFollowed contents remaining first done new
  sent_follows first done old new s f =
      let r = f.received in record {
        received = record {
          came = r.came;
          others = r.others;
          whole = r.whole;
          end = r.end;
          sent = r.sent ++ s.sent;
          waiting = new.connection.output;
          read = keeps_consumes (remaining first) (remaining old.stream) (remaining new.stream) (r.came ++ r.others) r.read s.unread;
          performed = r.performed;
          answers = r.answers ∙ ap (λ (xs : List ℕ). r.sent ++ xs) (f.waiting ∙ s.waiting) ∙ sym (append_assoc r.sent s.sent new.connection.output);
          written = appends_then (contents first) (contents old.stream) (contents new.stream) r.sent s.sent r.written s.written;
        };
        waiting = refl;
        rest = ap (λ (c : Connection). c.rest) s.others ∙ f.rest;
        stage = ap (λ (c : Connection). c.stage) s.others ∙ f.stage;
        all = λ a. f.all (s.able a);
      }

-- ---- writes behind each other

module _ {S : Type 0} (contents remaining : S → Option (List ℕ)) where
  pub sent_none : (link : Link S) → IsSent contents remaining link link
  sent_none link = record {
    sent = [];
    written = appends_none (contents link.stream);
    waiting = refl;
    unread = keeps_same (remaining link.stream);
    others = refl;
    able = λ a. a;
  }

  pub sent_then : (a b c : Link S) → IsSent contents remaining a b → IsSent contents remaining b c → IsSent contents remaining a c
  sent_then a b c s t = record {
    sent = s.sent ++ t.sent;
    written = appends_then (contents a.stream) (contents b.stream) (contents c.stream) s.sent t.sent s.written t.written;
    waiting = s.waiting ∙ ap (λ (xs : List ℕ). s.sent ++ xs) t.waiting ∙ sym (append_assoc s.sent t.sent c.connection.output);
    unread = keeps_then (remaining a.stream) (remaining b.stream) (remaining c.stream) s.unread t.unread;
    others = t.others ∙ ap (λ (d : Connection). record d { output = c.connection.output }) s.others;
    able = λ a. s.able (t.able a);
  }

  -- nothing but how far it has come changes
  pub still_sent : (old new : Link S) → IsStill old new → IsSent contents remaining old new
  still_sent old new h = record {
    sent = [];
    written = subst (λ (s : S). Appends (contents old.stream) (contents s) []) (sym h.stream) (appends_none (contents old.stream));
    waiting = ap (λ (c : Connection). c.output) (sym h.connection);
    unread = subst (λ (s : S). Keeps (remaining old.stream) (remaining s)) (sym h.stream) (keeps_same (remaining old.stream));
    others = others_of old.connection new.connection h.connection;
    able = h.able;
  }

-- ---- a write

module _ {S : Type 0} (contents remaining : S → Option (List ℕ)) where
  -- so many bytes of what waits were written
  pub written_sent : (old new : Link S) (bytes later : List ℕ) (count : ℕ) → old.connection.output ≡ bytes ++ later → count ≤ length bytes
      → Appends (contents old.stream) (contents new.stream) (take count bytes) → Keeps (remaining old.stream) (remaining new.stream)
      → new.connection ≡ record old.connection { output = drop count old.connection.output } → (new.able ≡ true → old.able ≡ true)
      → IsSent contents remaining old new
  written_sent old new bytes later count front within appends unread taken able =
      let out : new.connection.output ≡ drop count bytes ++ later = ap (λ (c : Connection). c.output) taken ∙ ap (drop count) front ∙ drop-append-le count bytes later within in
      record {
        sent = take count bytes;
        written = appends;
        waiting = front ∙ ap (λ (xs : List ℕ). xs ++ later) (sym (take-append-drop count bytes)) ∙ append_assoc (take count bytes) (drop count bytes) later
            ∙ ap (λ (xs : List ℕ). take count bytes ++ xs) (sym out);
        unread = unread;
        others = taken ∙ sym (ap (λ (c : Connection). record old.connection { output = c.output }) taken);
        able = able;
      }

  -- nothing was written
  pub kept_sent : (old new : Link S) → Keeps (contents old.stream) (contents new.stream) → Keeps (remaining old.stream) (remaining new.stream) → new.connection ≡ old.connection
      → (new.able ≡ true → old.able ≡ true) → IsSent contents remaining old new
  kept_sent old new unwritten unread same able = record {
    sent = [];
    written = appends_kept (contents old.stream) (contents new.stream) unwritten;
    waiting = ap (λ (c : Connection). c.output) (sym same);
    unread = unread;
    others = others_of old.connection new.connection same;
    able = able;
  }

-- ---- what was gathered

not_none : (b : ℕ) (bytes : List ℕ) → b ∷ bytes ≡ [] → ⊥
not_none b bytes e = cc

module _ {S H : Type 0} (step : Steps H) (contents remaining : S → Option (List ℕ)) (moment : ℤ) where
  -- a piece, where nothing waits
  pub piece_gathered : (gathered piece : List ℕ) (result : Result Unit PieceFault) (stream : S) (x y : Connection) (able still : Bool) (before after : H)
      → gathered ++ x.output ≡ [] → IsTakenIn step moment piece x before result y after → able ≡ true → is_closing x.stage ≡ false → (still ≡ true → result ≡ Err NoMemory → ⊥)
      → IsPassedOn step contents remaining moment piece (record { stream = stream; connection = with_gathered gathered x; able = able }) before
      (record { stream = stream; connection = with_gathered gathered y; able = still }) after
  piece_gathered [] piece result stream x y able still before after none taken is_able open_ keeps =
      piece_passed step contents remaining moment piece result (record { stream = stream; connection = x; able = able })
      (record { stream = stream; connection = y; able = still }) before after taken refl is_able open_ keeps
  piece_gathered (b ∷ gathered) piece result stream x y able still before after none taken is_able open_ keeps = absurd (not_none b (gathered ++ x.output) none)

  -- and then the link stays as it is
  pub passed_still : (last : List ℕ) (old mid new : Link S) (before after : H) → IsPassedOn step contents remaining moment last old before mid after → IsStill mid new
      → IsPassedOn step contents remaining moment last old before new after
  passed_still last old mid new before after p still = record {
    done = p.done;
    run = p.run;
    same = ap (λ (c : Connection). c.number) still.connection ∙ p.same;
    stream = still.stream ∙ p.stream;
    follows = λ first earlier f. still_behind step contents remaining moment first (earlier ++ p.done) [] mid new still (λ a. refl) (p.follows first earlier f);
  }

module _ {S : Type 0} (contents remaining : S → Option (List ℕ)) where
  -- an output is written, where nothing was gathered
  pub written_output : (gathered bytes later : List ℕ) (count : ℕ) (stream after : S) (x y : Connection) (able : Bool) → gathered ≡ [] → x.output ≡ bytes ++ later
      → count ≤ length bytes → Appends (contents stream) (contents after) (take count bytes) → Keeps (remaining stream) (remaining after) → y ≡ record x { output = drop count x.output }
      → IsSent contents remaining (record { stream = stream; connection = with_gathered gathered x; able = able })
      (record { stream = after; connection = with_gathered gathered y; able = able })
  written_output [] bytes later count stream after x y able none front within appends unread taken =
      written_sent contents remaining (record { stream = stream; connection = x; able = able }) (record { stream = after; connection = y; able = able })
      bytes later count front within appends unread taken (λ a. a)
  written_output (b ∷ gathered) bytes later count stream after x y able none front within appends unread taken = absurd (not_none b gathered none)

  -- what was gathered is written
  pub written_gathered : (gathered : List ℕ) (count : ℕ) (stream after : S) (x : Connection) (able : Bool) → count ≤ length gathered
      → Appends (contents stream) (contents after) (take count gathered) → Keeps (remaining stream) (remaining after)
      → IsSent contents remaining (record { stream = stream; connection = with_gathered gathered x; able = able })
      (record { stream = after; connection = with_gathered (drop count gathered) x; able = able })
  written_gathered gathered count stream after x able within appends unread =
      written_sent contents remaining (record { stream = stream; connection = with_gathered gathered x; able = able })
      (record { stream = after; connection = with_gathered (drop count gathered) x; able = able })
      gathered x.output count refl within appends unread (ap (λ (xs : List ℕ). record x { output = xs }) (sym (drop-append-le count gathered x.output within))) (λ a. a)

  -- no byte was written, and nothing more is performed
  pub over_sent : (bytes : List ℕ) (count : ℕ) (stream after : S) (x : Connection) (able : Bool) → count ≡ 0 → Appends (contents stream) (contents after) (take count bytes)
      → Keeps (remaining stream) (remaining after)
      → IsSent contents remaining (record { stream = stream; connection = x; able = able }) (record { stream = after; connection = x; able = false })
  over_sent bytes count stream after x able none appends unread =
      let nothing : Appends (contents stream) (contents after) [] = subst (λ (n : ℕ). Appends (contents stream) (contents after) (take n bytes)) none appends in
      written_sent contents remaining (record { stream = stream; connection = x; able = able }) (record { stream = after; connection = x; able = false })
      [] x.output 0 refl (omega arith) nothing unread refl (λ a. absurd (false≢true a))

  -- nothing was written
  pub unwritten_sent : (stream after : S) (x : Connection) (able : Bool) (new : Link S) → Keeps (contents stream) (contents after) → Keeps (remaining stream) (remaining after)
      → IsStill (record { stream = after; connection = x; able = able }) new
      → IsSent contents remaining (record { stream = stream; connection = x; able = able }) new
  unwritten_sent stream after x able new unwritten unread h =
      let old : Link S = record { stream = stream; connection = x; able = able } in
      let mid : Link S = record { stream = after; connection = x; able = able } in
      sent_then contents remaining old mid new (kept_sent contents remaining old mid unwritten unread refl (λ a. a)) (still_sent contents remaining mid new h)

-- ---- a read

module _ {S H : Type 0} (step : Steps H) (contents remaining : S → Option (List ℕ)) (moment : ℤ) where
  -- what was read is passed on
  pub input_turn : (bytes : List ℕ) (stream after : S) (x : Connection) (able : Bool) (new : Link S) (handler later : H) → Consumes (remaining stream) (remaining after) bytes
      → Keeps (contents stream) (contents after) → x.output ≡ [] → IsPassedOn step contents remaining moment bytes (record { stream = after; connection = x; able = able }) handler new later
      → IsLinkStep step contents remaining moment (record { stream = stream; connection = x; able = able }) handler new later
  input_turn bytes stream after x able new handler later consumes unwritten none p =
      read_turn step contents remaining moment (record { stream = stream; connection = x; able = able }) (record { stream = after; connection = x; able = able }) new handler later
      bytes refl (λ a. a) unwritten consumes p none

  -- nothing was read
  pub unread_turn : (stream after : S) (x : Connection) (able : Bool) (new : Link S) (handler : H) → Consumes (remaining stream) (remaining after) [] → Keeps (contents stream) (contents after)
      → x.output ≡ [] → IsStill (record { stream = after; connection = x; able = able }) new
      → IsLinkStep step contents remaining moment (record { stream = stream; connection = x; able = able }) handler new handler
  unread_turn stream after x able new handler consumes unwritten none still =
      input_turn [] stream after x able new handler handler consumes unwritten none
      (still_passed step contents remaining moment [] (record { stream = after; connection = x; able = able }) new handler still (λ a. refl))

  -- the input ended
  pub ended_turn : (bytes : List ℕ) (count : ℕ) (stream after : S) (x : Connection) (able still : Bool) (handler : H) → count ≡ 0 → still ≡ false
      → Consumes (remaining stream) (remaining after) (take count bytes) → Keeps (contents stream) (contents after) → x.output ≡ []
      → IsLinkStep step contents remaining moment (record { stream = stream; connection = x; able = able }) handler (record { stream = after; connection = x; able = still }) handler
  ended_turn bytes count stream after x able still handler zero_ is consumes unwritten none =
      let nothing : Consumes (remaining stream) (remaining after) [] = subst (λ (n : ℕ). Consumes (remaining stream) (remaining after) (take n bytes)) zero_ consumes in
      unread_turn stream after x able (record { stream = after; connection = x; able = still }) handler nothing unwritten none
      (record { stream = refl; connection = refl; able = λ a. absurd (false≢true (sym is ∙ a)) })

  -- what is read is dropped, and nothing more is performed
  pub dropped_passed : (last : List ℕ) (stream : S) (x : Connection) (able still : Bool) (handler : H) → still ≡ false
      → IsPassedOn step contents remaining moment last (record { stream = stream; connection = x; able = able }) handler (record { stream = stream; connection = x; able = still }) handler
  dropped_passed last stream x able still handler is =
      still_passed step contents remaining moment last (record { stream = stream; connection = x; able = able }) (record { stream = stream; connection = x; able = still }) handler
      (record { stream = refl; connection = refl; able = λ a. absurd (false≢true (sym is ∙ a)) }) (λ a. absurd (false≢true (sym is ∙ a)))

-- an answer that is Ok or Unfinished is not out of memory
pub ok_not_memory : (r : Result Unit PieceFault) → r ≡ Ok tt → r ≡ Err NoMemory → ⊥
ok_not_memory (Ok done) e f = cc
ok_not_memory (Err fault) e f = cc

pub unfinished_not_memory : (r : Result Unit PieceFault) → r ≡ Err Unfinished → r ≡ Err NoMemory → ⊥
unfinished_not_memory (Ok done) e f = cc
unfinished_not_memory (Err fault) e f = cc

-- what is gathered waits as before
pub gathered_more : (gathered bytes later : List ℕ) (x y : Connection) → x.output ≡ bytes ++ later → y ≡ record x { output = drop (length bytes) x.output }
    → with_gathered (gathered ++ bytes) y ≡ with_gathered gathered x
gathered_more gathered bytes later x y front taken =
    let out : y.output ≡ later = ap (λ (c : Connection). c.output) taken ∙ ap (drop (length bytes)) front ∙ drop-append_seam bytes later in
    let all : (gathered ++ bytes) ++ y.output ≡ gathered ++ x.output =
    ap (λ (xs : List ℕ). (gathered ++ bytes) ++ xs) out ∙ append_assoc gathered bytes later ∙ ap (λ (xs : List ℕ). gathered ++ xs) (sym front) in
    ap (λ (c : Connection). record c { output = (gathered ++ bytes) ++ y.output }) taken ∙ ap (λ (xs : List ℕ). record x { output = xs }) all
