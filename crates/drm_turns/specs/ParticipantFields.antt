-- The participants and notes that the fields represent (own).
use Rattle.std.specs.Prelude.{◌≡◌, ◌≢◌, [], ◌∷◌}
use Rattle.drm_turns.specs.declared.seat.Seat.TheInside.{Inside}
use Rattle.drm_turns.specs.declared.seat.Note.TheInside.{Inside as NoteInside}
use Rattle.drm_turns.specs.declared.history.Stage.TheVariants.{Idle}
use Rattle.drm_turns.specs.History.{IsLegal, calls_by}
use Rattle.drm_turns.specs.History.{AllDiffer}
use Rattle.drm_turns.specs.Participants.{ParticipantView, Witness}

-- the value of a participant
abbrev pub participant_view_of : Inside → ParticipantView
participant_view_of a = let v = a.place.me.0 in record { table = a.place.table_id; number = v.number; parent = v.parent; outstanding = v.outstanding; origin = v.origin; seen = v.seen; mine = v.mine; merged = v.kept; drawn = v.drawn; journaled = v.journaled; found = v.ticket }

-- the facts about a participant's fields
pub record IsSeated (a : Inside) : Type 0 where
  pub empty : a.place.me.1 ≡ []
  pub idle : a.place.me.0.stage ≡ Idle
  pub untold : a.place.me.0.told ≡ []
  pub numbered : a.place.me.0.number ≢ 0
  pub legal : IsLegal a.place.me.0.origin a.place.me.0.seen
  pub apart : AllDiffer (a.place.me.0.number ∷ a.place.me.0.kept)
  pub own : calls_by a.place.me.0.number a.place.me.0.seen ≡ a.place.me.0.mine

-- the value of a note
abbrev pub witness_of : NoteInside → Witness
witness_of a = let v = a.place.me.0 in record { table = a.place.table_id; parent = v.parent; origin = v.origin; seen = v.seen }

-- the facts about a note's fields
pub record IsNoted (a : NoteInside) : Type 0 where
  pub empty : a.place.me.1 ≡ []
  pub idle : a.place.me.0.stage ≡ Idle
  pub none_outstanding : a.place.me.0.outstanding ≡ 0
  pub undrawn : a.place.me.0.drawn ≡ 0
  pub unjournaled : a.place.me.0.journaled ≡ 0
