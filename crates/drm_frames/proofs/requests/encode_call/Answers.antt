use Rattle.std.proofs.Common.{refl, sym}
use Rattle.drm_frames.proofs.BehindHead.{behind-head}
use Rattle.drm_frames.proofs.CallTexts.{writes-row}
use Rattle.drm_frames.proofs.requests.encode_call.Goals as goal

pub returns-clause-text : goal.returns-clause-text
returns-clause-text c =
    writes-row c.args.call.now c.in-Some.kind c.in-Some.fields _ _ _ _ _ _ (sym c.in-Some.ensures)
    c.as_slice.ensures.fields c.as_slice.ensures.within c.layout.ensures.layout c.number.ensures refl
    c.push_fields.ensures.fits (behind-head c.begin.new.self _ _ c.begin.ensures c.push_fields.ensures.text)
    c.finish.ensures.text
