use Rattle.drm_checks.proofs.JournalLemmas.{names_asked, names_closed, nobody}
use Rattle.drm_checks.proofs.writer.place_for.Goals as goal

pub returns-in-Close-clause-names : goal.returns-in-Close-clause-names
returns-in-Close-clause-names c =
    rw c.in-Close.is (names_closed c.in-Close.client c.args.namings.now c.place_of.result c.place_of.ensures.place)

pub returns-in-Ask-clause-names : goal.returns-in-Ask-clause-names
returns-in-Ask-clause-names c =
    rw c.in-Ask.is
    (names_asked c.in-Ask.client c.in-Ask.field-1 c.args.namings.now c.place_of-in-Ask.result c.place_of-in-Ask.ensures.place)

pub returns-in-Ask-clause-none : goal.returns-in-Ask-clause-none
returns-in-Ask-clause-none c =
    rw c.in-Ask.is (nobody c.in-Ask.client c.args.namings.now c.place_of-in-Ask.result c.place_of-in-Ask.ensures.place)
