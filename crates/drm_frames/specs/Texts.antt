-- Writing a text whole, or a front of it (own).
use Rattle.std.specs.Prelude.{◌≡◌, ℕ, ◌<◌, List}
use Rattle.std.specs.Borrow.{Bor}
use Rattle.std.specs.List.{flat_map}
use Rattle.drm_frames.specs.Streams.{SinkTrace}
use Rattle.drm_frames.specs.Turns.{WriteCost, PartialWriteCost}
use Rattle.drm_frames.specs.declared.turns.Written.{Written}
use Rattle.drm_frames.specs.declared.turns.Written.TheVariants as written

-- the result of writing a text: the whole was written, or a front that is not the whole; each call used a turn
abbrev pub WritesOut : Written → SinkTrace → SinkTrace → List ℕ → ℕ → ℕ → Type 0
WritesOut written.Whole old new text had has = WriteCost old new text had has
WritesOut written.Fault old new text had has =
    PartialWriteCost old new text had has × (old.counts.faults < new.counts.faults)
WritesOut written.TurnsUsed old new text had has = PartialWriteCost old new text had has × (has ≡ 0)

-- texts, joined
abbrev pub joined_texts : List (Bor (List ℕ)) → List ℕ
joined_texts texts = flat_map (λ t. t.now) texts
