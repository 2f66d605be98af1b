-- What a session's calls do to its gate.
use Rattle.std.proofs.Common.{ℕ, List, [], ◌∷◌, ◌++◌, ap}
use Rattle.drm_table.specs.declared.events.Event.{Event}
use Rattle.drm_frames.specs.Answers.{CallResult}
use Rattle.drm_frames.specs.Streams.{SourceTrace, SinkTrace}
use Rattle.drm_sessions.specs.declared.class.Class.{Class}
use Rattle.drm_sessions.specs.declared.end.Session.{Session}
use Rattle.drm_sessions.specs.Gates.{Gated, LetsAllPass}
use Rattle.drm_sessions.specs.Runs.{RequestReply, Runs, events}
use Rattle.drm_sessions.specs.Serving.{Serves, calls_made}
use Rattle.drm_sessions.proofs.Mapping.{Serves-map}

module _ {A G : Type 0} (answers : A → Event → CallResult → A → Type 0) (passes : G → ℕ → G → Type 0) where
  Runs-gate : (a b : A × G) (log : List RequestReply) → Runs (Gated answers passes) a log b
      → LetsAllPass passes a.1 (events log) b.1
  Runs-gate a b [] e = ap (λ (p : A × G). p.1) e
  Runs-gate a b (call ∷ log) r = (r.0.1, r.1.1, Runs-gate r.0 b log r.2)

  -- A session with a gate is one without it, and the gate lets each request pass.
  pub Serves-gated : {class : Class} {a0 a1 : A} {g0 g1 : G} {in0 in1 : SourceTrace} {out0 out1 : SinkTrace} {s : Session}
      → Serves (Gated answers passes) class (a0, g0) (a1, g1) in0 in1 out0 out1 s
      → (serves : Serves answers class a0 a1 in0 in1 out0 out1 s) × LetsAllPass passes g0 (calls_made serves) g1
  unfolding Serves-map
  Serves-gated {a0} {a1} {g0} {g1} h = (
    Serves-map (λ (p : A × G). p.0) (Gated answers passes) answers (λ a event result b step. step.0) h,
    Runs-gate (a0, g0) (a1, g1) (h.answered ++ h.closing) h.made,
  )
