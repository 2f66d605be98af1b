-- A whole session from its parts.
use Rattle.std.proofs.Common.{◌≡◌, ℕ, Bool, false, ◌+◌, ◌⊎◌, List, [], ◌∷◌, ◌++◌, Option, Some, None, Ok, Err, refl, sym, ap, ◌∙◌, subst, inl, inr, append_assoc}
use Rattle.std.specs.List.{flat_map}
use Rattle.std.proofs.lemmas.List.{append-nil}
use Rattle.std.proofs.KnownBytes.{Appends-nil, Appends-trans, Consumes-nil, Consumes-trans}
use Rattle.drm_table.specs.declared.events.Event.{Event}
use Rattle.drm_table.specs.declared.events.Event.TheVariants.{Open, Close}
use Rattle.drm_table.specs.declared.events.Opening.{Opening}
use Rattle.drm_table.specs.declared.rules.Rule.{Rule}
use Rattle.drm_table.specs.declared.answers.Answer.TheVariants.{Opened, Denied}
use Rattle.drm_table.specs.declared.apart.Apart.{Apart}
use Rattle.drm_table.specs.declared.apart.Apart.TheVariants as aparts
use Rattle.drm_frames.specs.Grammar.{FrameValue, frame_text}
use Rattle.drm_frames.specs.Answers.{CallResult, answer_text}
use Rattle.drm_frames.specs.Streams.{SourceTrace, SinkTrace}
use Rattle.drm_frames.specs.Turns.{WriteCost, PartialWriteCost}
use Rattle.drm_sessions.specs.declared.class.Class.{Class}
use Rattle.drm_sessions.specs.declared.end.Session.{Session}
use Rattle.drm_sessions.specs.declared.end.SessionEnd.{SessionEnd}
use Rattle.drm_sessions.specs.declared.end.SessionEnd.TheVariants as ends
use Rattle.drm_sessions.specs.Opening.{opening_in}
use Rattle.drm_sessions.specs.ReadChunks.{Used, Takes, ends_in_chunk}
use Rattle.drm_sessions.specs.Reading.{Comes, HandsLater, Uses, StopsAt, WriteShows}
use Rattle.drm_sessions.specs.Runs.{RequestReply, request_reply, outcomes, session_text, journaled, one_if_journaled}
use Rattle.drm_sessions.specs.Ends.{TruncatesLastAnswer, Leaves, Ends, Refuses, EndsClosed, EndsRequests, EndsUnopened, EndsWriting, EndsRefused}
use Rattle.drm_sessions.specs.Serving.{Follows, EndCondition, EndsAfter, Serves, Continues}
use Rattle.drm_sessions.proofs.Taking.{Takes-none, Takes-then, Uses-takes, ends_in_chunk-then}
use Rattle.drm_sessions.proofs.Composing.{none-yet, Runs-push, journaled-push, outcomes-push}
use Rattle.drm_sessions.proofs.SessionEnds.{leaves-write, not-behind}
use Rattle.drm_sessions.proofs.Telling.{hands-closed, hands-read}

-- ---- causes

TruncatesLastAnswer-cons : (first : CallResult) {results : List CallResult} {later : List ℕ}
    → TruncatesLastAnswer results later → TruncatesLastAnswer (first ∷ results) later
TruncatesLastAnswer-cons first h = record {
  before = first ∷ h.before;
  last = h.last;
  sent = h.sent;
  whole = ap (λ (x : List CallResult). first ∷ x) h.whole;
  parts = h.parts;
  more = h.more;
}

leaves-cons : (e : SessionEnd) (first : CallResult) (waits : List ℕ) (results : List CallResult) (later : List ℕ)
    → Leaves e waits results later → Leaves e waits (first ∷ results) later
leaves-cons ends.Ended first waits results later h = h
leaves-cons ends.Truncated first waits results later h = h
leaves-cons ends.TooLong first waits results later h = h
leaves-cons ends.ReadFault first waits results later h = h
leaves-cons ends.WriteFault first waits results later h = TruncatesLastAnswer-cons first h
leaves-cons ends.TurnsUsed first waits results later (inl h) = inl h
leaves-cons ends.TurnsUsed first waits results later (inr h) = inr (TruncatesLastAnswer-cons first h)
leaves-cons ends.BadHello first waits results later h = h
leaves-cons (ends.OpenRefused rule) first waits results later h = h
leaves-cons (ends.Apart apart) first waits results later h = h

whole-or-cut : (e : SessionEnd) (waits : List ℕ) (results : List CallResult) (later : List ℕ)
    → Leaves e waits results later → (later ≡ []) ⊎ TruncatesLastAnswer results later
whole-or-cut ends.Ended waits results later h = inl h.1
whole-or-cut ends.Truncated waits results later h = inl h.1
whole-or-cut ends.TooLong waits results later h = inl h.1
whole-or-cut ends.ReadFault waits results later h = inl h.1
whole-or-cut ends.WriteFault waits results later h = inr h
whole-or-cut ends.TurnsUsed waits results later (inl h) = inl h.1
whole-or-cut ends.TurnsUsed waits results later (inr h) = inr h
whole-or-cut ends.BadHello waits results later h = absurd h
whole-or-cut (ends.OpenRefused rule) waits results later h = absurd h
whole-or-cut (ends.Apart apart) waits results later h = absurd h

end_condition-left : (e : SessionEnd) (class : Class) (rest : List ℕ) (answered closing : List RequestReply) (later : List ℕ)
    → Leaves e rest (outcomes answered) later → EndCondition e class rest answered closing later
end_condition-left ends.Ended class rest answered closing later h = h
end_condition-left ends.Truncated class rest answered closing later h = h
end_condition-left ends.TooLong class rest answered closing later h = h
end_condition-left ends.ReadFault class rest answered closing later h = h
end_condition-left ends.WriteFault class rest answered closing later h = h
end_condition-left ends.TurnsUsed class rest answered closing later h = h
end_condition-left ends.BadHello class rest answered closing later h = absurd h
end_condition-left (ends.OpenRefused rule) class rest answered closing later h = absurd h
end_condition-left (ends.Apart apart) class rest answered closing later h = absurd h

end_condition-closed : (e : SessionEnd) (client : ℕ) (r : CallResult) (end : SessionEnd) (class : Class) (rest : List ℕ) (answered : List RequestReply) (later : List ℕ)
    → Leaves e rest (outcomes answered) later → EndsClosed e r end
    → EndCondition end class rest answered (request_reply (Close client) r ∷ []) later
end_condition-closed e client (Ok answer) end class rest answered later h is =
    subst (λ (x : SessionEnd). EndCondition x class rest answered (request_reply (Close client) (Ok answer) ∷ []) later)
    (sym is) (end_condition-left e class rest answered _ later h)
end_condition-closed e client (Err aparts.JournalFull) end class rest answered later h is =
    subst
    (λ (x : SessionEnd). EndCondition x class rest answered (request_reply (Close client) (Err aparts.JournalFull) ∷ []) later)
    (sym is) (end_condition-left e class rest answered _ later h)
end_condition-closed e client (Err aparts.NoMemory) end class rest answered later h is =
    subst
    (λ (x : SessionEnd). EndCondition x class rest answered (request_reply (Close client) (Err aparts.NoMemory) ∷ []) later)
    (sym is) (end_condition-left e class rest answered _ later h)
end_condition-closed e client (Err aparts.Worn) end class rest answered later h is =
    subst
    (λ (x : SessionEnd). EndCondition x class rest answered (request_reply (Close client) (Err aparts.Worn) ∷ []) later)
    (sym is)
    (inr ((client, refl), refl, whole-or-cut e rest (outcomes answered) later h))

-- no end by reading alone has an answer after it
end_condition-read : (e : SessionEnd) (class : Class) (rest : List ℕ) → StopsAt e rest
    → EndCondition e class rest [] [] []
end_condition-read ends.Ended class rest h = (h, refl)
end_condition-read ends.Truncated class rest h = (h, refl)
end_condition-read ends.TooLong class rest h = (h, refl)
end_condition-read ends.ReadFault class rest h = (h, refl)
end_condition-read ends.TurnsUsed class rest h = inl (h, refl)
end_condition-read ends.WriteFault class rest h = absurd h
end_condition-read ends.BadHello class rest h = absurd h
end_condition-read (ends.OpenRefused rule) class rest h = absurd h
end_condition-read (ends.Apart apart) class rest h = absurd h

-- ---- the ends by how the opening was answered

ends-requests : (e : SessionEnd) (waits : List ℕ) (results : List CallResult) (later : List ℕ)
    → Leaves e waits results later → EndsRequests e
ends-requests ends.Ended waits results later h = tt
ends-requests ends.Truncated waits results later h = tt
ends-requests ends.TooLong waits results later h = tt
ends-requests ends.ReadFault waits results later h = tt
ends-requests ends.WriteFault waits results later h = tt
ends-requests ends.TurnsUsed waits results later h = tt
ends-requests ends.BadHello waits results later h = h
ends-requests (ends.OpenRefused rule) waits results later h = h
ends-requests (ends.Apart apart) waits results later h = h

ends-unopened : (e : SessionEnd) (rest : List ℕ) → StopsAt e rest → EndsUnopened e
ends-unopened ends.Ended rest h = tt
ends-unopened ends.Truncated rest h = tt
ends-unopened ends.TooLong rest h = tt
ends-unopened ends.ReadFault rest h = tt
ends-unopened ends.TurnsUsed rest h = tt
ends-unopened ends.BadHello rest h = tt
ends-unopened ends.WriteFault rest h = h
ends-unopened (ends.OpenRefused rule) rest h = h
ends-unopened (ends.Apart apart) rest h = h

ends-writing : (e : SessionEnd) (from to : SinkTrace) (has : ℕ) → WriteShows e from to has → EndsWriting e
ends-writing ends.WriteFault from to has h = tt
ends-writing ends.TurnsUsed from to has h = tt
ends-writing ends.Ended from to has h = h
ends-writing ends.Truncated from to has h = h
ends-writing ends.TooLong from to has h = h
ends-writing ends.ReadFault from to has h = h
ends-writing ends.BadHello from to has h = h
ends-writing (ends.OpenRefused rule) from to has h = h
ends-writing (ends.Apart apart) from to has h = h

-- ---- the parts joined

cut-of-part : (result : CallResult) {out0 out1 : SinkTrace} {said : List ℕ} {t u : ℕ} → said ≡ answer_text result
    → (p : PartialWriteCost out0 out1 said t u) → TruncatesLastAnswer (result ∷ []) p.rest
cut-of-part result is p =
    record { before = []; last = result; sent = p.front; whole = refl; parts = sym is ∙ p.parts; more = p.more }

module _ {A : Type 0} (answers : A → Event → CallResult → A → Type 0) where
  -- If the answer to the opening is written whole, a session's requests end as they do after it.
  pub said-whole : {client : ℕ} {a0 a1 : A} {in0 in1 : SourceTrace} {out0 out1 out2 : SinkTrace} {said waited : List ℕ} {steps t u : ℕ} {e : SessionEnd} (result : CallResult)
      → said ≡ answer_text result → WriteCost out0 out1 said t u
      → Ends answers client a0 a1 in0 in1 out1 out2 [] waited steps e
      → Ends answers client a0 a1 in0 in1 out0 out2 (result ∷ []) waited steps e
  said-whole {out0} {out1} {out2} {said} {t} {u} {e} result is p h =
      let pays : WriteCost out0 out1 (answer_text result) t u =
      subst (λ (x : List ℕ). WriteCost out0 out1 x t u) is p in
      record {
        waits = h.waits;
        results = h.results;
        front = answer_text result ++ h.front;
        later = h.later;
        did = h.did;
        puts = record {
          parts =
              ap (λ (x : List ℕ). answer_text result ++ x) h.puts.parts
              ∙ sym (append_assoc (answer_text result) h.front h.later);
          commits =
              Appends-trans out0.written out1.written out2.written (answer_text result) h.front pays.took.taken
              h.puts.commits;
        };
        leaves = leaves-cons e result h.waits h.results h.later h.leaves;
        behind = h.behind;
        prompt = h.prompt;
        handed = h.handed;
      }

  -- If the answer to the opening is written in part, the session ends with no request.
  pub said-in-part : {client : ℕ} {a : A} {source : SourceTrace} {out0 out1 : SinkTrace} {said : List ℕ} {waited : List ℕ} {t u : ℕ} {e : SessionEnd} (result : CallResult)
      → said ≡ answer_text result → (p : PartialWriteCost out0 out1 said t u) → WriteShows e out0 out1 u
      → HandsLater e out1 p.rest → Ends answers client a a source source out0 out1 (result ∷ []) waited 0 e
  said-in-part {client} {a} {source} {out0} {out1} {said} {waited} {t} {u} {e} result is p shows handed = record {
    waits = waited;
    results = [];
    front = p.front;
    later = p.rest;
    did = none-yet answers client a source waited;
    puts = record { parts = append-nil (answer_text result) ∙ sym is ∙ p.parts; commits = p.pays.took.taken };
    leaves = leaves-write e waited (result ∷ []) p.rest out0 out1 u shows (cut-of-part result is p);
    behind = false;
    prompt = λ wrong. absurd (not-behind wrong);
    handed = handed;
  }

  -- An opened client's session is its opening, its requests and its closing.
  pub continues-client : {class : Class} {opening : Opening} {client : ℕ} {a0 a1 a2 a3 : A} {in0 in1 : SourceTrace} {out0 out1 : SinkTrace} {waited : List ℕ} {steps : ℕ} {e : SessionEnd} {r : CallResult} {s : Session}
      → answers a0 (Open opening) (Ok (Opened client)) a1
      → Ends answers client a1 a2 in0 in1 out0 out1 (Ok (Opened client) ∷ []) waited steps e
      → answers a2 (Close client) r a3 → s.client ≡ client → s.steps ≡ 1 + (steps + one_if_journaled r)
      → EndsClosed e r s.end
      → Continues answers class opening a0 a3 in0 in1 out0 out1 waited s
  continues-client {class} {opening} {client} {a1} {a2} {a3} {out0} {out1} {e} {r} {s} opened h close c n ended =
      let log : List RequestReply = h.did.log in
      let first : RequestReply = request_reply (Open opening) (Ok (Opened client)) in
      let last : RequestReply = request_reply (Close client) r in
      let same : Ok (Opened client) ∷ h.results ≡ outcomes (first ∷ log) =
      ap (λ (x : List CallResult). Ok (Opened client) ∷ x) (sym h.did.answered) in
      record {
        read = h.did.read;
        frames = h.did.frames;
        rest = h.waits;
        result = Ok (Opened client);
        asks = log;
        closing = last ∷ [];
        front = h.front;
        later = h.later;
        taken = h.did.taken;
        parts = h.did.parts;
        fit = h.did.fit;
        made = (a1, opened, Runs-push answers a1 a2 a3 log last h.did.made close);
        follows = (h.did.asks, (r, refl), c);
        counted = ap (λ (k : ℕ). 1 + k) (
            ap journaled (outcomes-push log last) ∙ journaled-push (outcomes log) r
            ∙ ap (λ (x : List CallResult). journaled x + one_if_journaled r) h.did.answered
            ∙ ap (λ (k : ℕ). k + one_if_journaled r) h.did.counted
            ) ∙ sym n;
        puts = record { parts = ap session_text (sym same) ∙ h.puts.parts; commits = h.puts.commits };
        end_condition =
            end_condition-closed e client r s.end class h.waits (first ∷ log) h.later
            (subst (λ (x : List CallResult). Leaves e h.waits x h.later) same h.leaves) ended;
        ended = (r, e, refl, ends-requests e h.waits (Ok (Opened client) ∷ h.results) h.later h.leaves, ended);
        chunks = h.did.chunks;
        in_turn = h.did.takes;
        prompt = λ behind. (tt, h.prompt (sym h.did.last ∙ behind));
        handed = hands-closed e r s.end out1 h.later ended h.handed;
      }

  continues-refused : {class : Class} {opening : Opening} (result : CallResult) {a0 a1 : A} {source : SourceTrace} {out0 out1 : SinkTrace} {waited said : List ℕ} (meant : SessionEnd) {s : Session} {t u : ℕ}
      → answers a0 (Open opening) result a1 → said ≡ answer_text result → Follows result [] [] [] s.client
      → journaled (result ∷ []) ≡ s.steps
      → EndCondition meant class waited (request_reply (Open opening) result ∷ []) [] []
      → ((end : SessionEnd) (later : List ℕ) → EndsRefused meant later end → EndsAfter result [] later end)
      → HandsLater meant out1 [] → Refuses meant s.end out0 out1 said t u
      → Continues answers class opening a0 a1 source source out0 out1 waited s
  continues-refused {class} {opening} result {a1} {source} {out1} {waited} {said} meant {s} opened is f n b after plain (inl p) = record {
    read = [];
    frames = [];
    rest = waited;
    result = result;
    asks = [];
    closing = [];
    front = said;
    later = [];
    taken = Consumes-nil source.left;
    parts = append-nil waited;
    fit = tt;
    made = (a1, opened, refl);
    follows = f;
    counted = n;
    puts =
        record { parts = append-nil (answer_text result) ∙ sym is ∙ sym (append-nil said); commits = p.1.took.taken };
    end_condition =
        subst (λ (x : SessionEnd). EndCondition x class waited (request_reply (Open opening) result ∷ []) [] [])
        (sym p.0) b;
    ended = after s.end [] (inl (p.0, refl));
    chunks = [];
    in_turn = Takes-none source waited;
    prompt = λ wrong. absurd (not-behind wrong);
    handed = subst (λ (x : SessionEnd). HandsLater x out1 []) (sym p.0) plain;
  }
  continues-refused {class} {opening} result {a1} {source} {out0} {out1} {waited} meant {s} {u} opened is f n b after plain (inr p) = record {
    read = [];
    frames = [];
    rest = waited;
    result = result;
    asks = [];
    closing = [];
    front = p.0.front;
    later = p.0.rest;
    taken = Consumes-nil source.left;
    parts = append-nil waited;
    fit = tt;
    made = (a1, opened, refl);
    follows = f;
    counted = n;
    puts = record { parts = append-nil (answer_text result) ∙ sym is ∙ p.0.parts; commits = p.0.pays.took.taken };
    end_condition = end_condition-left s.end class waited (request_reply (Open opening) result ∷ []) [] p.0.rest
        (leaves-write s.end waited (result ∷ []) p.0.rest out0 out1 u p.1 (cut-of-part result is p.0));
    ended = after s.end p.0.rest (inr (ends-writing s.end out0 out1 u p.1, p.0.more));
    chunks = [];
    in_turn = Takes-none source waited;
    prompt = λ wrong. absurd (not-behind wrong);
    handed = p.2;
  }

  -- A session with a denied opening ends as refused by its rule, unless writing stops it. The client sends no
  -- request.
  pub continues-denied : {class : Class} {opening : Opening} (rule : Rule) {a0 a1 : A} {source : SourceTrace} {out0 out1 : SinkTrace} {waited said : List ℕ} {s : Session} {t u : ℕ}
      → answers a0 (Open opening) (Ok (Denied rule)) a1 → said ≡ answer_text (Ok (Denied rule)) → s.client ≡ 0
      → s.steps ≡ 1 → Refuses (ends.OpenRefused rule) s.end out0 out1 said t u
      → Continues answers class opening a0 a1 source source out0 out1 waited s
  continues-denied {opening} rule opened is c n r =
      continues-refused (Ok (Denied rule)) (ends.OpenRefused rule) opened is (refl, refl, refl, c) (sym n)
      ((opening, refl), refl) (λ end later h. h) tt r

  -- A session whose opening has a fault ends with this fault, unless writing stops it. The client sends no request.
  pub continues-apart : {class : Class} {opening : Opening} (apart : Apart) {a0 a1 : A} {source : SourceTrace} {out0 out1 : SinkTrace} {waited said : List ℕ} {s : Session} {t u : ℕ}
      → answers a0 (Open opening) (Err apart) a1 → said ≡ answer_text (Err apart) → s.client ≡ 0 → s.steps ≡ 0
      → Refuses (ends.Apart apart) s.end out0 out1 said t u
      → Continues answers class opening a0 a1 source source out0 out1 waited s
  continues-apart {opening} apart opened is c n r =
      continues-refused (Err apart) (ends.Apart apart) opened is (refl, refl, refl, c) (sym n)
      (inl ((opening, refl), refl)) (λ end later h. h) tt r

  -- ---- from the first frame

  -- A session that ends before its first frame changes nothing.
  pub serves-unread : (class : Class) (a : A) (sink : SinkTrace) {in0 in1 : SourceTrace} {rest : List ℕ} {t u : ℕ} (e : SessionEnd)
      → Comes in0 in1 [] rest t u → StopsAt e rest
      → Serves answers class a a in0 in1 sink sink (record { end = e; client = 0; steps = 0 })
  serves-unread class a sink {in0} {in1} {rest} e m h = record {
    read = m.more;
    frames = [];
    rest = m.more;
    answered = [];
    closing = [];
    front = [];
    later = [];
    taken = m.spends.gave.given;
    parts = refl;
    fit = tt;
    made = refl;
    makes = (refl, refl, refl);
    counted = refl;
    puts = record { parts = refl; commits = Appends-nil sink.written };
    end_condition = end_condition-read e class m.more (subst (λ (x : List ℕ). StopsAt e x) m.parts h);
    ended = ends-unopened e rest h;
    chunks = m.chunks;
    in_turn = subst (λ (w : List ℕ). Takes in0 in1 [] w m.chunks m.more []) m.parts m.takes;
    prompt = λ _. tt;
    handed = hands-read e rest sink h;
  }

  -- A session whose first frame is no hello ends as such and changes nothing.
  pub serves-no-hello : (class : Class) (a : A) (sink : SinkTrace) {in0 in1 : SourceTrace} {waits : List ℕ} {t u : ℕ} {frame : FrameValue} {found : Option Opening}
      → Uses in0 in1 [] waits t u frame → found ≡ opening_in class frame → found ≡ None
      → Serves answers class a a in0 in1 sink sink (record { end = ends.BadHello; client = 0; steps = 0 })
  serves-no-hello class a sink {in0} {in1} {waits} {frame} m is none = record {
    read = m.more;
    frames = [];
    rest = m.more;
    answered = [];
    closing = [];
    front = [];
    later = [];
    taken = m.spends.gave.given;
    parts = refl;
    fit = tt;
    made = refl;
    makes = (refl, refl, refl);
    counted = refl;
    puts = record { parts = refl; commits = Appends-nil sink.written };
    end_condition = ((frame, waits, m.parts, m.fits, sym is ∙ none), refl, refl);
    ended = tt;
    chunks = m.chunks;
    in_turn = subst (λ (w : List ℕ). Takes in0 in1 [] w m.chunks m.more []) (sym m.parts) m.takes;
    prompt = λ _. tt;
    handed = tt;
  }

  -- A session whose first frame is a hello continues with its opening.
  pub serves-session : {class : Class} {opening : Opening} {a0 a1 : A} {in0 in1 in2 : SourceTrace} {out0 out1 : SinkTrace} {waits : List ℕ} {t u : ℕ} {frame : FrameValue} {found : Option Opening} {s : Session}
      → Uses in0 in1 [] waits t u frame → found ≡ opening_in class frame → found ≡ Some opening
      → Continues answers class opening a0 a1 in1 in2 out0 out1 waits s
      → Serves answers class a0 a1 in0 in2 out0 out1 s
  serves-session {opening} {in0} {in1} {in2} {waits} {frame} m is some h =
      let frames : List ℕ = flat_map frame_text h.frames in
      record {
        read = m.more ++ h.read;
        frames = frame ∷ h.frames;
        rest = h.rest;
        answered = request_reply (Open opening) h.result ∷ h.asks;
        closing = h.closing;
        front = h.front;
        later = h.later;
        taken = Consumes-trans in0.left in1.left in2.left m.more h.read m.spends.gave.given h.taken;
        parts =
            ap (λ (x : List ℕ). x ++ h.read) m.parts ∙ append_assoc (frame_text frame) waits h.read
            ∙ ap (λ (x : List ℕ). frame_text frame ++ x) h.parts
            ∙ sym (append_assoc (frame_text frame) frames h.rest);
        fit = (m.fits, h.fit);
        made = h.made;
        makes = (opening, h.result, h.asks, sym is ∙ some, refl, h.follows);
        counted = h.counted;
        puts = h.puts;
        end_condition = h.end_condition;
        ended = h.ended;
        chunks = (m.chunks ++ Used frame ∷ []) ++ h.chunks;
        in_turn = Takes-then (Uses-takes m) h.in_turn;
        prompt = λ behind. h.prompt (
            sym (ap (λ (was : Bool). ends_in_chunk h.chunks was) (ends_in_chunk-then m.chunks (Used frame ∷ []) false))
            ∙ sym (ends_in_chunk-then (m.chunks ++ Used frame ∷ []) h.chunks false) ∙ behind
            );
        handed = h.handed;
      }
