-- The effect of a session's calls on its gate (own).
use Rattle.std.specs.Prelude.{◌≡◌, ℕ, List, [], ◌∷◌}
use Rattle.drm_table.specs.declared.events.Event.{Event}
use Rattle.drm_table.specs.declared.events.Event.TheVariants.{Open, Ask, Close}
use Rattle.drm_frames.specs.Answers.{CallResult}

-- The gate is called once before a request, for its client, and not before an opening or a closing.
abbrev pub LetsPass : {G : Type 0} → (G → ℕ → G → Type 0) → G → Event → G → Type 0
LetsPass passes old (Open opening) new = new ≡ old
LetsPass passes old (Ask client call) new = passes old client new
LetsPass passes old (Close client) new = new ≡ old

-- From `old` the gate is led to `new` by these calls, one after the other.
abbrev pub LetsAllPass : {G : Type 0} → (G → ℕ → G → Type 0) → G → List Event → G → Type 0
LetsAllPass passes old [] new = new ≡ old
LetsAllPass {G = G} passes old (event ∷ more) new =
    (mid : G) × LetsPass passes old event mid × LetsAllPass passes mid more new

-- one call of an access that has a gate before it
abbrev pub Gated : {A G : Type 0} → (A → Event → CallResult → A → Type 0) → (G → ℕ → G → Type 0) → A × G → Event
    → CallResult → A × G → Type 0
Gated answers passes old event outcome new = answers old.0 event outcome new.0 × LetsPass passes old.1 event new.1
