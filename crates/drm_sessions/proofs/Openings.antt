-- How a device answers an opening.
use Rattle.std.proofs.Common.{◌≡◌, Option, Some, None, Ok, Err, ap, sym, ◌∙◌, subst}
use Rattle.drm_table.specs.declared.events.Event.{Event}
use Rattle.drm_table.specs.declared.events.Event.TheVariants.{Open, Ask, Close}
use Rattle.drm_table.specs.declared.events.Opening.{Opening}
use Rattle.drm_table.specs.declared.answers.Answer.{Answer}
use Rattle.drm_table.specs.declared.rules.Rule.{Rule}
use Rattle.drm_model.specs.Rows.{Rows}
use Rattle.drm_model.specs.Reply.{answer_of, reply_by, reply}
use Rattle.drm_model.specs.Verdict.{verdict}
use Rattle.drm_model.specs.Run.{DeviceValue, Step}
use Rattle.drm_turns.specs.Turns.{Answered}
use Rattle.drm_frames.specs.Answers.{CallResult}
use Rattle.drm_frames.specs.declared.hello.Hello.{Hello}
use Rattle.drm_frames.specs.Grammar.{FrameValue}
use Rattle.drm_frames.specs.Hellos.{hello_in}
use Rattle.drm_sessions.specs.declared.class.Class.{Class}
use Rattle.drm_sessions.specs.Opening.{IsOpeningAnswer, AnswersOpening, opening_by, opening_in}

answers-by : (found : Option Rule) (w : Rows) (opening : Opening)
    → IsOpeningAnswer (Ok (reply_by found w (Open opening)))
unfolding answer_of
answers-by None w opening = tt
answers-by (Some rule) w opening = tt

-- A device answers an opening with a client, a denial or a fault.
pub Step-opening : (w : Rows) (event : Event) (result : CallResult) (v : Rows) → Step w event result v
    → AnswersOpening event result
unfolding Step reply
Step-opening w (Open opening) (Ok answer) v h =
    subst (λ (x : Answer). IsOpeningAnswer (Ok x)) (sym h.1) (answers-by (verdict w (Open opening)) w opening)
Step-opening w (Open opening) (Err apart) v h = tt
Step-opening w (Ask client call) result v h = tt
Step-opening w (Close client) result v h = tt

-- A shared device answers an opening with a client, a denial or a fault.
pub Answered-opening : (device : DeviceValue) (event : Event) (result : CallResult) → Answered device event result
    → AnswersOpening event result
Answered-opening device (Open opening) (Ok answer) h = Step-opening _ (Open opening) (Ok answer) _ h.steps.step
Answered-opening device (Open opening) (Err apart) h = tt
Answered-opening device (Ask client call) result h = tt
Answered-opening device (Close client) result h = tt

-- The opening that a hello requests is that of its frame.
pub opening-said : (class : Class) (frame : FrameValue) (hello : Option Hello) (found : Option Opening)
    → hello ≡ hello_in frame → found ≡ opening_by class hello → found ≡ opening_in class frame
unfolding opening_in
opening-said class frame hello found said is = is ∙ ap (opening_by class) said
