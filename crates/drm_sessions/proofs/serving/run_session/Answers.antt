use Rattle.std.proofs.Common.{◌≡◌, ◌∙◌, refl, ap, Ok, Err}
use Rattle.drm_table.specs.declared.answers.Answer.TheVariants.{Opened, Denied}
use Rattle.drm_frames.specs.Answers.{answer_text}
use Rattle.drm_sessions.specs.Gates.{Gated}
use Rattle.drm_sessions.proofs.Telling.{Untold-none, tells-closed, tells-refused}
use Rattle.drm_sessions.proofs.Finishing.{continues-client, continues-denied, continues-apart}
use Rattle.drm_sessions.proofs.serving.run_session.Goals as goal

pub returns-in-Client-clause-continues : goal.returns-in-Client-clause-continues
returns-in-Client-clause-continues g c =
    let closed = c.close_client.ensures in
    let is : c.call_at.new.outcome ≡ Ok (Opened c.in-Client.client) = c.in-Client.ensures in
    let opened = rw is at c.call_at.ensures.answers in
    continues-client (Gated g.A.Access.answers g.G.Gate.passes) (opened, refl) c.serve_client-stopped.ensures.ends
    (closed.answers, refl) closed.client closed.steps closed.closed

pub returns-in-Denied-clause-continues : goal.returns-in-Denied-clause-continues
returns-in-Denied-clause-continues g c =
    let refused = c.refuse.ensures in
    let is : c.call_at.new.outcome ≡ Ok (Denied c.in-Denied.rule) = c.in-Denied.ensures in
    let denied = rw is at c.call_at.ensures.answers in
    let said = c.as_slice.ensures.bytes ∙ c.write.ensures.text ∙ ap answer_text is in
    continues-denied (Gated g.A.Access.answers g.G.Gate.passes) _ (denied, refl) said refused.client refused.steps
    refused.refuses

pub returns-in-Apart-clause-continues : goal.returns-in-Apart-clause-continues
returns-in-Apart-clause-continues g c =
    let refused = c.refuse-in-Apart.ensures in
    let is : c.call_at.new.outcome ≡ Err c.in-Apart.apart = c.in-Apart.ensures in
    let denied = rw is at c.call_at.ensures.answers in
    let said = c.as_slice-in-Apart.ensures.bytes ∙ c.write.ensures.text ∙ ap answer_text is in
    continues-apart (Gated g.A.Access.answers g.G.Gate.passes) _ (denied, refl) said refused.client refused.steps
    refused.refuses

pub returns-in-Client-clause-tells : goal.returns-in-Client-clause-tells
returns-in-Client-clause-tells g c = tells-closed _ _ _ c.close_client.ensures.closed c.serve_client-stopped.ensures.tells

pub returns-in-Denied-clause-tells : goal.returns-in-Denied-clause-tells
returns-in-Denied-clause-tells g c = tells-refused _ _ (Untold-none _) (λ told. told) c.refuse.ensures.refuses

pub returns-in-Apart-clause-tells : goal.returns-in-Apart-clause-tells
returns-in-Apart-clause-tells g c = tells-refused _ _ (Untold-none _) (λ told. told) c.refuse-in-Apart.ensures.refuses
