-- Two sessions over the same bytes write the same, up to where one of them was cut.
use Rattle.std.proofs.Common.{◌≡◌, ℕ, List, [], ◌∷◌, ◌++◌, length, Option, Some, None, Ok, Err, refl, sym, ap, ◌∙◌, subst, arith, inl, inr, append_assoc}
use Rattle.std.specs.List.{flat_map, AllByRecursion}
use Rattle.std.proofs.lemmas.List.{append-nil, map-append}
use Rattle.std.proofs.lemmas.Grind.{flat_map-append}
use Rattle.drm_table.specs.declared.events.Event.{Event}
use Rattle.drm_table.specs.declared.events.Event.TheVariants.{Open}
use Rattle.drm_table.specs.declared.events.Opening.{Opening}
use Rattle.drm_table.specs.declared.answers.Answer.TheVariants.{Opened}
use Rattle.drm_model.specs.Rows.{Rows}
use Rattle.drm_model.specs.Run.{no_room, rows_of}
use Rattle.drm_model.specs.Results.{rows_by, results}
use Rattle.drm_frames.specs.Grammar.{FrameValue, frame_text, IsFrame, IsPart, IsTooLong}
use Rattle.drm_frames.specs.Answers.{CallResult, answer_text}
use Rattle.drm_frames.specs.Decoding.{Decodes}
use Rattle.drm_frames.specs.declared.decoding.Decoded.{Decoded}
use Rattle.drm_frames.specs.declared.decoding.Decoded.TheVariants.{Whole, NeedMore, TooLong}
use Rattle.drm_frames.proofs.DecodingLaws.{one-decoding, text-reads}
use Rattle.drm_frames.proofs.FrameLaws.{one-text}
use Rattle.drm_turns.specs.Turns.{DeviceSteps}
use Rattle.drm_sessions.specs.declared.class.Class.{Class}
use Rattle.drm_sessions.specs.declared.end.SessionEnd.{SessionEnd}
use Rattle.drm_sessions.specs.declared.end.SessionEnd.TheVariants as ends
use Rattle.drm_sessions.specs.Opening.{opening_in}
use Rattle.drm_sessions.specs.Reading.{StopsAt}
use Rattle.drm_sessions.specs.Runs.{RequestReply, asked, outcomes, session_text}
use Rattle.drm_sessions.specs.Serving.{EndCondition}
use Rattle.drm_sessions.specs.Device.{HasMemory, result_of, asks_after, results_from, session_results, DeviceSession, HaveSameInput, OneBegins, IsReadOut}
use Rattle.drm_sessions.proofs.DeviceRuns.{Runs-front, session-results-found}

-- ---- one list begins another

OneBegins-cons : {A : Type 0} (z : A) (xs ys : List A) → OneBegins xs ys → OneBegins (z ∷ xs) (z ∷ ys)
OneBegins-cons z xs ys (inl h) = inl (h.0, ap (λ zs. z ∷ zs) h.1)
OneBegins-cons z xs ys (inr h) = inr (h.0, ap (λ zs. z ∷ zs) h.1)

-- Of two fronts of one list, one begins the other.
fronts-begin : (xs ys a b : List ℕ) → xs ++ a ≡ ys ++ b → OneBegins xs ys
fronts-begin [] ys a b e = inl (ys, refl)
fronts-begin (x ∷ xs) [] a b e = inr (x ∷ xs, refl)
fronts-begin (x ∷ xs) (y ∷ ys) a b e =
    let head : x ≡ y = cc in
    let tail : xs ++ a ≡ ys ++ b = cc in
    subst (λ (z : ℕ). OneBegins (x ∷ xs) (z ∷ ys)) head (OneBegins-cons x xs ys (fronts-begin xs ys a b tail))

-- so also of a front each of two lists of which one begins the other
cuts-begin : (xs ys x a y b : List ℕ) → xs ≡ x ++ a → ys ≡ y ++ b → OneBegins xs ys → OneBegins x y
cuts-begin xs ys x a y b p q (inl h) =
    fronts-begin x y (a ++ h.0) b (sym (append_assoc x a h.0) ∙ ap (λ (z : List ℕ). z ++ h.0) (sym p) ∙ sym h.1 ∙ q)
cuts-begin xs ys x a y b p q (inr h) =
    fronts-begin x y a (b ++ h.0) (sym p ∙ h.1 ∙ ap (λ (z : List ℕ). z ++ h.0) q ∙ append_assoc y b h.0)

-- ---- frames

frames-begin : (fs gs : List FrameValue) (x y : List ℕ) → AllByRecursion IsFrame fs → AllByRecursion IsFrame gs
    → flat_map frame_text fs ++ x ≡ flat_map frame_text gs ++ y → OneBegins fs gs
frames-begin [] gs x y p q e = inl (gs, refl)
frames-begin (f ∷ fs) [] x y p q e = inr (f ∷ fs, refl)
frames-begin (f ∷ fs) (g ∷ gs) x y p q e =
    let one = one-text f g (flat_map frame_text fs ++ x) (flat_map frame_text gs ++ y) p.0 q.0
    (sym (append_assoc (frame_text f) (flat_map frame_text fs) x) ∙ e ∙ append_assoc (frame_text g) (flat_map frame_text gs) y) in
    subst (λ (k : FrameValue). OneBegins (f ∷ fs) (k ∷ gs)) one.0
    (OneBegins-cons f fs gs (frames-begin fs gs x y p.1 q.1 one.1))

-- ---- results

results-begin : (w : Rows) (xs ys : List Event)
    → (more : List CallResult) × (results w (xs ++ ys) ≡ results w xs ++ more)
unfolding results
results-begin w [] ys = (results w ys, refl)
results-begin w (event ∷ xs) ys =
    let rest = results-begin (rows_by (no_room w event) w event) xs ys in
    (rest.0, ap (λ (zs : List CallResult). result_of w event ∷ zs) rest.1)

asks-more : (result : CallResult) (fs more : List FrameValue)
    → asks_after result (fs ++ more) ≡ asks_after result fs ++ asks_after result more
asks-more (Ok (Opened c)) fs more = map-append (asked c) fs more
asks-more (Ok _) fs more = refl
asks-more (Err apart) fs more = refl

results_from-begin : (w : Rows) (found : Option Opening) (fs more : List FrameValue)
    → (rest : List CallResult) × (results_from w found (fs ++ more) ≡ results_from w found fs ++ rest)
results_from-begin w None fs more = ([], refl)
results_from-begin w (Some opening) fs more =
    let result : CallResult = result_of w (Open opening) in
    let begin = results-begin w (Open opening ∷ asks_after result fs) (asks_after result more) in
    (begin.0, ap (λ (x : List Event). results w (Open opening ∷ x)) (asks-more result fs more) ∙ begin.1)

session-results-begin : (w : Rows) (class : Class) (fs more : List FrameValue)
    → (rest : List CallResult) × (session_results w class (fs ++ more) ≡ session_results w class fs ++ rest)
session-results-begin w class [] more = (session_results w class more, refl)
session-results-begin w class (hello ∷ fs) more = results_from-begin w (opening_in class hello) fs more

text-begins : (w : Rows) (class : Class) (fs more : List FrameValue)
    → (rest : List ℕ) × (session_text (session_results w class (fs ++ more)) ≡ session_text (session_results w class fs) ++ rest)
text-begins w class fs more =
    let begin = session-results-begin w class fs more in
    (session_text begin.0, ap session_text begin.1 ∙ flat_map-append answer_text (session_results w class fs) begin.0)

texts-begin : (w : Rows) (class : Class) (fs gs : List FrameValue) → OneBegins fs gs
    → OneBegins (session_text (session_results w class fs)) (session_text (session_results w class gs))
texts-begin w class fs gs (inl h) =
    let begin = text-begins w class fs h.0 in inl (begin.0, ap (λ (x : List FrameValue). session_text (session_results w class x)) h.1 ∙ begin.1)
texts-begin w class fs gs (inr h) =
    let begin = text-begins w class gs h.0 in inr (begin.0, ap (λ (x : List FrameValue). session_text (session_results w class x)) h.1 ∙ begin.1)

-- ---- where all whole frames are used

-- Where a frame is in front, nothing else is found.
frame-found : (rest x : List ℕ) (f : FrameValue) (other : Decoded) → IsFrame f → rest ≡ frame_text f ++ x
    → Decodes rest other → other ≡ Whole f (length (frame_text f))
frame-found rest x f other fits is h =
    one-decoding (frame_text f ++ x) other (Whole f (length (frame_text f)))
    (subst (λ (bytes : List ℕ). Decodes bytes other) is h) (text-reads f fits x)

no-frame-part : (rest x : List ℕ) (f : FrameValue) → IsFrame f → rest ≡ frame_text f ++ x → IsPart rest → ⊥
no-frame-part rest x f fits is h = let e = frame-found rest x f NeedMore fits is h in cc

no-frame-long : (rest x : List ℕ) (f : FrameValue) → IsFrame f → rest ≡ frame_text f ++ x → IsTooLong rest → ⊥
no-frame-long rest x f fits is h = let e = frame-found rest x f TooLong fits is h in cc

no-frame : (e : SessionEnd) (rest x : List ℕ) (f : FrameValue) → IsFrame f → rest ≡ frame_text f ++ x → StopsAt e rest
    → ⊥
no-frame ends.Ended rest x f fits is h = no-frame-part rest x f fits is (subst IsPart (sym h) (inl (omega arith)))
no-frame ends.Truncated rest x f fits is h = no-frame-part rest x f fits is h.1
no-frame ends.TooLong rest x f fits is h = no-frame-long rest x f fits is h
no-frame ends.ReadFault rest x f fits is h = no-frame-part rest x f fits is h
no-frame ends.TurnsUsed rest x f fits is h = no-frame-part rest x f fits is h
no-frame ends.WriteFault rest x f fits is h = h
no-frame ends.BadHello rest x f fits is h = h
no-frame (ends.OpenRefused rule) rest x f fits is h = h
no-frame (ends.Apart apart) rest x f fits is h = h

same-frames : (d e : SessionEnd) (fs gs : List FrameValue) (x y : List ℕ) → AllByRecursion IsFrame fs
    → AllByRecursion IsFrame gs → StopsAt d x → StopsAt e y
    → flat_map frame_text fs ++ x ≡ flat_map frame_text gs ++ y → fs ≡ gs
same-frames d e [] [] x y p q h k is = refl
same-frames d e [] (g ∷ gs) x y p q h k is =
    absurd
    (no-frame d x (flat_map frame_text gs ++ y) g q.0 (is ∙ append_assoc (frame_text g) (flat_map frame_text gs) y) h)
same-frames d e (f ∷ fs) [] x y p q h k is =
    absurd
    (no-frame e y (flat_map frame_text fs ++ x) f p.0 (sym is ∙ append_assoc (frame_text f) (flat_map frame_text fs) x) k)
same-frames d e (f ∷ fs) (g ∷ gs) x y p q h k is =
    let one = one-text f g (flat_map frame_text fs ++ x) (flat_map frame_text gs ++ y) p.0 q.0
    (sym (append_assoc (frame_text f) (flat_map frame_text fs) x) ∙ is ∙ append_assoc (frame_text g) (flat_map frame_text gs) y) in
    ap (λ (k : FrameValue). k ∷ fs) one.0
    ∙ ap (λ (ks : List FrameValue). g ∷ ks) (same-frames d e fs gs x y p.1 q.1 h k one.1)

read-outstanding : (e : SessionEnd) (class : Class) (rest : List ℕ) (answered closing : List RequestReply) (later : List ℕ)
    → IsReadOut e → EndCondition e class rest answered closing later → StopsAt e rest × (later ≡ [])
read-outstanding ends.Ended class rest answered closing later i h = h
read-outstanding ends.Truncated class rest answered closing later i h = h
read-outstanding ends.TooLong class rest answered closing later i h = h
read-outstanding ends.ReadFault class rest answered closing later i h = h
read-outstanding ends.WriteFault class rest answered closing later i h = absurd i
read-outstanding ends.TurnsUsed class rest answered closing later i h = absurd i
read-outstanding ends.BadHello class rest answered closing later i h = absurd i
read-outstanding (ends.OpenRefused rule) class rest answered closing later i h = absurd i
read-outstanding (ends.Apart apart) class rest answered closing later i h = absurd i

-- ---- the laws

-- If no memory is refused, a session's results follow from the rows before it and from its frames.
pub results-found : (class : Class) (one : DeviceSession class) → AllByRecursion HasMemory (outcomes one.did.answered)
    → outcomes one.did.answered ≡ session_results (rows_of one.before) class one.did.frames
results-found class one memory =
    let run = Runs-front DeviceSteps one.before one.after one.did.answered one.did.closing one.did.made in
    session-results-found class one.before run.0 one.did.frames one.did.answered one.did.closing one.session.client
    one.did.makes run.1 memory

text-found : (class : Class) (one : DeviceSession class) (w : Rows) → rows_of one.before ≡ w
    → AllByRecursion HasMemory (outcomes one.did.answered)
    → session_text (session_results w class one.did.frames) ≡ one.did.front ++ one.did.later
text-found class one w e memory =
    ap (λ (v : Rows). session_text (session_results v class one.did.frames)) (sym e)
    ∙ ap session_text (sym (results-found class one memory)) ∙ one.did.puts.parts

-- Two sessions from the same rows over the same bytes write the same, up to the end of the shorter text.
pub fronts-one-begins : (class : Class) (one other : DeviceSession class) → HaveSameInput one other
    → OneBegins one.did.front other.did.front
fronts-one-begins class one other same =
    let w : Rows = rows_of other.before in
    let begin =
    frames-begin one.did.frames other.did.frames one.did.rest other.did.rest one.did.fit other.did.fit
    (sym one.did.parts ∙ same.read ∙ other.did.parts) in
    cuts-begin _ _ one.did.front one.did.later other.did.front other.did.later
    (text-found class one w same.rows same.memory_of_one) (text-found class other w refl same.memory_of_other)
    (texts-begin w class one.did.frames other.did.frames begin)

-- Two sessions from the same rows over the same bytes write the same text if both used all whole frames.
pub fronts-same : (class : Class) (one other : DeviceSession class) → HaveSameInput one other
    → IsReadOut one.session.end → IsReadOut other.session.end → one.did.front ≡ other.did.front
fronts-same class one other same i j =
    let w : Rows = rows_of other.before in
    let stopped =
    read-outstanding one.session.end class one.did.rest one.did.answered one.did.closing one.did.later i
    one.did.end_condition in
    let halted =
    read-outstanding other.session.end class other.did.rest other.did.answered other.did.closing other.did.later j
    other.did.end_condition in
    let frames =
    same-frames one.session.end other.session.end one.did.frames other.did.frames one.did.rest other.did.rest
    one.did.fit other.did.fit stopped.0 halted.0 (sym one.did.parts ∙ same.read ∙ other.did.parts) in
    sym (append-nil one.did.front) ∙ ap (λ (x : List ℕ). one.did.front ++ x) (sym stopped.1)
    ∙ sym (text-found class one w same.rows same.memory_of_one)
    ∙ ap (λ (x : List FrameValue). session_text (session_results w class x)) frames
    ∙ text-found class other w refl same.memory_of_other
    ∙ ap (λ (x : List ℕ). other.did.front ++ x) halted.1 ∙ append-nil other.did.front
