-- What is encoded is read back.
use Rattle.std.proofs.Common.{◌≡◌, true, ℕ, List, Some, sym, subst}
use Rattle.drm_table.specs.declared.calls.Call.{Call}
use Rattle.drm_frames.specs.declared.hello.Hello.{Hello}
use Rattle.drm_frames.specs.Grammar.{FrameValue}
use Rattle.drm_frames.specs.Decoding.{ReadsAs}
use Rattle.drm_frames.specs.Requests.{WritesCall, request_of}
use Rattle.drm_frames.specs.Hellos.{IsToken, is_version, hello_frame, hello_text, hello_in}
use Rattle.drm_frames.specs.Answers.{CallResult, FitsFields, answer_frame, answer_text, answer_in}
use Rattle.drm_frames.proofs.DecodingLaws.{text-reads}
use Rattle.drm_frames.proofs.CallTexts.{row-found}
use Rattle.drm_frames.proofs.HelloLaws as hellos
use Rattle.drm_frames.proofs.AnswerTexts as answers

-- The text of a call is read as a frame that asks this call.
pub call-back : (call : Call) (text : List ℕ) → WritesCall call text
    → (f : FrameValue) × ReadsAs text f × (request_of f ≡ call)
call-back call text w =
    (w.frame, subst (λ (t : List ℕ). ReadsAs t w.frame) (sym w.whole) (text-reads w.frame w.fits), row-found w.frame call w.asks)

-- The text of a hello with a known version and a token that fits is read as its frame, and the hello is found there.
pub hello-back : (hello : Hello) → is_version hello.version ≡ true → IsToken hello.lease
    → ReadsAs (hello_text hello) (hello_frame hello) × (hello_in (hello_frame hello) ≡ Some hello)
unfolding hello_text
hello-back hello version token =
    (text-reads (hello_frame hello) (hellos.hello-fits hello), hellos.written-found hello version token)

-- The text of a result that fits is read as its frame, and the result is found there.
pub answer-back : (outcome : CallResult) → FitsFields outcome
    → ReadsAs (answer_text outcome) (answer_frame outcome) × (answer_in (answer_frame outcome) ≡ Some outcome)
unfolding answer_text
answer-back outcome fits =
    (text-reads (answer_frame outcome) (answers.answer-fits outcome fits), answers.written-found outcome fits)
