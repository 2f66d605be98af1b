use Rattle.std.proofs.Common.{◌∙◌}
use Rattle.drm_sessions.specs.Gates.{Gated}
use Rattle.drm_sessions.proofs.Finishing.{said-whole, said-in-part}
use Rattle.drm_sessions.proofs.Telling.{Tells-later, Untold-none, tells-write}
use Rattle.drm_sessions.proofs.serving.serve_client.Goals as goal

pub returns-in-Ok-clause-ends : goal.returns-in-Ok-clause-ends
returns-in-Ok-clause-ends g c =
    said-whole (Gated g.A.Access.answers g.G.Gate.passes) _ (c.as_slice.ensures.bytes ∙ c.requires.said) c.in-Ok.ensures.0
    c.answer_requests.ensures.ends

pub returns-in-Err-clause-ends : goal.returns-in-Err-clause-ends
returns-in-Err-clause-ends g c =
    said-in-part (Gated g.A.Access.answers g.G.Gate.passes) _ (c.as_slice.ensures.bytes ∙ c.requires.said) c.in-Err.ensures.0 c.in-Err.ensures.1
    c.in-Err.ensures.2

pub returns-in-Ok-clause-tells : goal.returns-in-Ok-clause-tells
returns-in-Ok-clause-tells g c = Tells-later _ (Untold-none _) c.in-Ok.ensures.2 c.answer_requests.ensures.tells

pub returns-in-Err-clause-tells : goal.returns-in-Err-clause-tells
returns-in-Err-clause-tells g c =
    tells-write _ _ _ _ c.in-Err.ensures.1 (Untold-none _) (Untold-none _) c.in-Err.ensures.3
