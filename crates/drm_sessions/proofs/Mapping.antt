-- A session seen through a view of its access.
use Rattle.std.proofs.Common.{◌≡◌, List, [], ◌∷◌, ◌++◌, ap, ◌∙◌}
use Rattle.drm_table.specs.declared.events.Event.{Event}
use Rattle.drm_frames.specs.Answers.{CallResult}
use Rattle.drm_frames.specs.Streams.{SourceTrace, SinkTrace}
use Rattle.drm_sessions.specs.declared.class.Class.{Class}
use Rattle.drm_sessions.specs.declared.end.Session.{Session}
use Rattle.drm_sessions.specs.Runs.{RequestReply, Runs}
use Rattle.drm_sessions.specs.Serving.{Serves}

module _ {A B : Type 0} (view : A → B) (p : A → Event → CallResult → A → Type 0) (q : B → Event → CallResult → B → Type 0) (seen : (a : A) (event : Event) (result : CallResult) (b : A) → p a event result b → q (view a) event result (view b)) where
  -- A session's calls are those of what is seen of its access.
  pub Runs-map : (a b : A) (log : List RequestReply) → Runs p a log b → Runs q (view a) log (view b)
  Runs-map a b [] e = ap view e
  Runs-map a b (call ∷ log) r = (view r.0, seen a call.event call.outcome r.0 r.1, Runs-map r.0 b log r.2)

  unfoldable pub Serves-map : {class : Class} {a b : A} {in0 in1 : SourceTrace} {out0 out1 : SinkTrace} {s : Session}
      → Serves p class a b in0 in1 out0 out1 s → Serves q class (view a) (view b) in0 in1 out0 out1 s
  Serves-map {a} {b} h = record {
    read = h.read;
    frames = h.frames;
    rest = h.rest;
    answered = h.answered;
    closing = h.closing;
    front = h.front;
    later = h.later;
    taken = h.taken;
    parts = h.parts;
    fit = h.fit;
    made = Runs-map a b (h.answered ++ h.closing) h.made;
    makes = h.makes;
    counted = h.counted;
    puts = h.puts;
    end_condition = h.end_condition;
    ended = h.ended;
    chunks = h.chunks;
    in_turn = h.in_turn;
    prompt = h.prompt;
    handed = h.handed;
  }

-- what each call keeps, a session keeps
module _ {A X : Type 0} (name : A → X) (p : A → Event → CallResult → A → Type 0) (same : (a : A) (event : Event) (result : CallResult) (b : A) → p a event result b → name b ≡ name a) where
  -- What each call keeps, all calls of a session keep.
  pub Runs-same : (a b : A) (log : List RequestReply) → Runs p a log b → name b ≡ name a
  Runs-same a b [] e = ap name e
  Runs-same a b (call ∷ log) r = Runs-same r.0 b log r.2 ∙ same a call.event call.outcome r.0 r.1
