use Rattle.std.proofs.Common.{rules}
use Rattle.drm_script.specs.Words.{words_of}
use Rattle.drm_script.proofs.FaultLaws.{kind_fits, kind_unfit, kind_unread}
use Rattle.drm_script.proofs.calls.known_kind.Goals as goal

pub returns-clause-reading : goal.returns-clause-reading
returns-clause-reading c =
    rw c.in-Audit.is
    (kind_unread (words_of c.args.text.now) (c.in-Ok.number, words_of c.in-Ok.field-0-1.now) c.in-Ok.ensures.reading (search rules))

pub returns-clause-fault : goal.returns-clause-fault
returns-clause-fault c =
    rw (c.in-Audit.is, c.unfit.ensures.cause, c.unfit.ensures.at)
    (kind_unfit (words_of c.args.text.now) (c.in-Ok.number, words_of c.in-Ok.field-0-1.now) c.in-Ok.ensures.reading (search rules))

pub returns-then-is_some-clause-passed : goal.returns-then-is_some-clause-passed
returns-then-is_some-clause-passed c =
    rw c.in-Audit.is
    (kind_fits (words_of c.args.text.now) (c.in-Ok.number, words_of c.in-Ok.field-0-1.now) c.in-Ok.ensures.reading (search rules))
