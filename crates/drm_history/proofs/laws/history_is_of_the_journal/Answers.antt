use Rattle.drm_history.proofs.AnsweredJournals.{events_of_journal, history_grows, history_of_answers}
use Rattle.drm_history.proofs.laws.history_is_of_the_journal.Goals as goal

pub returns-clause-events : goal.returns-clause-events
returns-clause-events c = events_of_journal

pub returns-clause-grows : goal.returns-clause-grows
returns-clause-grows c = history_grows

pub returns-clause-answers : goal.returns-clause-answers
returns-clause-answers c = history_of_answers
