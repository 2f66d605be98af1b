-- The answers that a connection takes (own).
use Rattle.std.specs.Prelude.{ℕ, List, Option}
use Rattle.drm_connections.specs.declared.answers.Answers.{Answers}

-- what the writer of a connection's answers holds
abbrev pub answers_written : {W R : Type 0} → (W → Option (List ℕ)) → Answers W R → Option (List ℕ)
answers_written contents a = contents a.writer
