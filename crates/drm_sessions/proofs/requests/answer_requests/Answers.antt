use Rattle.std.proofs.Common.{◌≡◌, ℕ, refl, sym, ◌∙◌, ap, arith}
use Rattle.drm_table.specs.declared.calls.Call.TheVariants.{Version}
use Rattle.drm_table.specs.declared.events.Event.{Event}
use Rattle.drm_table.specs.declared.events.Event.TheVariants.{Ask}
use Rattle.drm_sessions.specs.Gates.{Gated}
use Rattle.drm_sessions.proofs.SessionEnds.{one_if_journaled-at-most, SoFar-none, SoFar-more, IoCost-none, IoCost-then, IoCost-read, IoCost-write, stopped-reading, stopped-writing}
use Rattle.drm_sessions.proofs.Telling.{Untold-none, Untold-then, tells-read, tells-write}
use Rattle.drm_sessions.proofs.requests.answer_requests.Goals as goal

-- the client of a request
abbrev caller_in : Event → ℕ
caller_in (Ask client call) = client
caller_in _ = 0

pub asking-init : goal.asking-init
asking-init g c =
    (SoFar-none (Gated g.A.Access.answers g.G.Gate.passes) c.args.client _ _ _ _, IoCost-none _ _ _, omega arith, Untold-none _, Untold-none _, (Version, refl))

pub returns-in-Err-clause-ends : goal.returns-in-Err-clause-ends
returns-in-Err-clause-ends g c =
    stopped-reading (Gated g.A.Access.answers g.G.Gate.passes) _ _ c.asking.invariant.0 c.in-Err.ensures.reads.0
    c.in-Err.ensures.reads.1

pub returns-in-Err-clause-tells : goal.returns-in-Err-clause-tells
returns-in-Err-clause-tells g c =
    tells-read _ _ c.in-Err.ensures.reads.1 c.asking.invariant.3 c.asking.invariant.4 c.in-Err.ensures.reads.3

pub returns-in-Err-wrote-clause-ends : goal.returns-in-Err-wrote-clause-ends
returns-in-Err-wrote-clause-ends g c =
    let answered = c.answer_call-answered.ensures in
    let wrote = rw c.in-Err-wrote.is at answered.wrote in
    let same : c.in-Ask.field-0 ≡ c.args.client = ap caller_in (sym c.in-Ask.is ∙ c.asking.invariant.5.1) in
    let made = rw same at (rw c.in_default-next_message.ensures.reads.2 at answered.answers) in
    stopped-writing (Gated g.A.Access.answers g.G.Gate.passes) _ _ c.asking.invariant.0 c.in_default-next_message.ensures.reads.1
    (made, c.before-in-asking.ensures.passes) answered.steps wrote.0 wrote.1 wrote.2

pub returns-in-Err-wrote-clause-tells : goal.returns-in-Err-wrote-clause-tells
returns-in-Err-wrote-clause-tells g c =
    let answered = c.answer_call-answered.ensures in
    let wrote = rw c.in-Err-wrote.is at answered.wrote in
    tells-write _ _ _ _ wrote.1 (Untold-then c.asking.invariant.3 c.in_default-next_message.ensures.reads.1.untold) c.asking.invariant.4 wrote.3

pub asking-preserved : goal.asking-preserved
asking-preserved g c =
    let answered = c.answer_call-answered.ensures in
    let wrote = rw c.in_default-wrote.is at answered.wrote in
    let journaled = answered.steps in
    let few = one_if_journaled-at-most c.answer_call-answered.new.outcome in
    let less = wrote.1 answered.some in
    let spent = c.in_default-next_message.ensures.reads.1.spends in
    let same : c.in-Ask.field-0 ≡ c.args.client = ap caller_in (sym c.in-Ask.is ∙ c.asking.invariant.5.1) in
    let made = rw same at (rw c.in_default-next_message.ensures.reads.2 at answered.answers) in
    let so_far = c.asking.invariant.2 in (
      SoFar-more (Gated g.A.Access.answers g.G.Gate.passes) _ c.asking.invariant.0 c.in_default-next_message.ensures.reads.1
          (made, c.before-in-asking.ensures.passes) answered.steps wrote.0,
      IoCost-then c.asking.invariant.1 (IoCost-then (IoCost-read _ c.in_default-next_message.ensures.reads.1.spends) (IoCost-write _ wrote.0)),
      omega arith,
      Untold-then c.asking.invariant.3 c.in_default-next_message.ensures.reads.1.untold,
      Untold-then c.asking.invariant.4 wrote.2,
      (c.next_message.new.place, ap (λ (client : ℕ). Ask client c.next_message.new.place) same),
    )
