-- What a whole session costs.
use Rattle.std.proofs.Common.{ℕ, List, refl, inl, arith}
use Rattle.drm_frames.specs.Grammar.{FrameValue}
use Rattle.drm_frames.specs.Streams.{SourceTrace, SinkTrace}
use Rattle.drm_frames.specs.Turns.{NeverFall}
use Rattle.drm_frames.proofs.Traces.{NeverFall-none}
use Rattle.drm_sessions.specs.declared.end.SessionEnd.{SessionEnd}
use Rattle.drm_sessions.specs.declared.end.SessionEnd.TheVariants as ends
use Rattle.drm_sessions.specs.Reading.{Comes, Uses, StopsAt, ReadShows, SourceTells}
use Rattle.drm_sessions.specs.Ends.{IoCost, Shows, TellsStop}
use Rattle.drm_sessions.specs.Serving.{Costs}
use Rattle.drm_sessions.proofs.SessionEnds.{shows-read, IoCost-read, IoCost-then}
use Rattle.drm_sessions.proofs.Telling.{TellsStop-later, Untold-none, tells-read}

shows-later : (e : SessionEnd) (in0 in1 in2 : SourceTrace) (out0 out1 : SinkTrace) (has : ℕ)
    → NeverFall in0.counts in1.counts → Shows e in1 in2 out0 out1 has → Shows e in0 in2 out0 out1 has
shows-later ends.Ended in0 in1 in2 out0 out1 has n h = (h.0, omega arith)
shows-later ends.Truncated in0 in1 in2 out0 out1 has n h = (h.0, omega arith)
shows-later ends.TooLong in0 in1 in2 out0 out1 has n h = h
shows-later ends.ReadFault in0 in1 in2 out0 out1 has n h = omega arith
shows-later ends.TurnsUsed in0 in1 in2 out0 out1 has n h = h
shows-later ends.WriteFault in0 in1 in2 out0 out1 has n h = h
shows-later ends.BadHello in0 in1 in2 out0 out1 has n h = h
shows-later (ends.OpenRefused rule) in0 in1 in2 out0 out1 has n h = h
shows-later (ends.Apart apart) in0 in1 in2 out0 out1 has n h = h

-- A session that ends before its first frame costs at most its turns.
pub costs-read : (e : SessionEnd) (sink : SinkTrace) {in0 in1 : SourceTrace} {waited waits : List ℕ} {t u : ℕ}
    → Comes in0 in1 waited waits t u → StopsAt e waits → ReadShows e in0 in1 u → SourceTells e in0.counts in1.counts
    → Costs in0 in1 sink sink t e
costs-read e sink {in0} {in1} {waits} {u} m h shows told = record {
  unused = u;
  moves = IoCost-read sink m.spends;
  shows = shows-read e waits in0 in0 in1 sink sink u h (NeverFall-none in0.counts) shows;
  tells =
      record
      { stopped = e; same = inl refl; tells = tells-read e waits h (Untold-none in0.counts) (Untold-none sink.counts) told };
}

-- A session whose first frame is no hello costs at most its turns.
pub costs-no-hello : (sink : SinkTrace) {in0 in1 : SourceTrace} {waited waits : List ℕ} {t u : ℕ} {frame : FrameValue}
    → Uses in0 in1 waited waits t u frame → Costs in0 in1 sink sink t ends.BadHello
costs-no-hello sink {u} m = record {
  unused = u;
  moves = IoCost-read sink m.spends;
  shows = tt;
  tells =
      record
      { stopped = ends.BadHello; same = inl refl; tells = record { source = m.untold; sink = Untold-none sink.counts } };
}

-- A session with an opening costs at most its turns.
pub costs-session : (e : SessionEnd) {in0 in1 in2 : SourceTrace} {out0 out1 : SinkTrace} {waited waits : List ℕ} {s t u : ℕ} {frame : FrameValue}
    → Uses in0 in1 waited waits s t frame → IoCost in1 in2 out0 out1 t u → Shows e in1 in2 out0 out1 u
    → TellsStop e in1.counts in2.counts out0.counts out1.counts → Costs in0 in2 out0 out1 s e
costs-session e {in0} {in1} {in2} {out0} {out1} {u} m moves shows tells = record {
  unused = u;
  moves = IoCost-then (IoCost-read out0 m.spends) moves;
  shows = shows-later e in0 in1 in2 out0 out1 u m.spends.gave.counts shows;
  tells = TellsStop-later m.untold (Untold-none out0.counts) tells;
}
