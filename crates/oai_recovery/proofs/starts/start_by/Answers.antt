-- All records were read, to the end, and replayed.
use Rattle.oai_recovery.specs.ServedDisks.{file_of}
use Rattle.oai_recovery.proofs.StartLemmas.{same_file}
use Rattle.oai_recovery.proofs.starts.start_by.Goals as goal

pub keep-requires : goal.keep-requires
keep-requires g c = record {
  synced = λ clean.
      let begun = c.requires.begun (c.in_ok-replay.ensures.clean clean) in
      let done = c.in_ok-replay.ensures.recovered clean begun.0 begun.1 in
      record { first = begun.0; entries = done.entries; has = done.has.read; whole = done.undamaged };
}

pub returns-clause-replayed : goal.returns-clause-replayed
returns-clause-replayed g c = record {
  file = same_file (file_of g.P.Place.held g.P.Place.held_begun c.args.prepared.origin) _ _ c.in_ok-replay.ensures.seen c.requires.file;
  fresh = c.in_ok-keep.ensures.fresh;
  redone = λ clean.
      let begun = c.requires.begun (c.in_ok-replay.ensures.clean clean) in
      (begun.0, begun.3, c.in_ok-replay.ensures.recovered clean begun.0 begun.1);
}
