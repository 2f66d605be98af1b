use Rattle.std.proofs.Common.{◌∙◌}
use Rattle.drm_script.specs.Faults.{line_places}
use Rattle.drm_script.specs.Words.{words_of}
use Rattle.drm_script.proofs.FaultLemmas.{misfit_at}
use Rattle.drm_script.proofs.reading.malformed.Goals as goal

pub returns-clause-fault : goal.returns-clause-fault
returns-clause-fault c =
    let words =
    c.at_fault.ensures.place
    ∙ misfit_at (line_places (words_of c.args.line.now)) (words_of c.args.line.now) _ _ c.requires.misfit in
    rw
    (c.requires.short, c.requires.ascii, ← c.place_of.ensures.place, c.in_default.is, ← c.place_of-2.ensures.place, c.in_default-place_of.is, c.at_fault.ensures.cause)
    (record { first = rw words c.requires.misfit; word = c.at_fault.ensures.told })
