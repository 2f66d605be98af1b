-- The knowledge of a participant, from step to step (own).
use Rattle.std.specs.Prelude.{◌≡◌, ℕ, ◌+◌, ◌-◌, ◌==◌, ◌&&◌, cond, List, [], ◌∷◌, ◌++◌, length}
use Rattle.drm_model.specs.Run.{DeviceValue}
use Rattle.drm_turns.specs.declared.history.Entry.{Entry}
use Rattle.drm_turns.specs.declared.history.View.{View}
use Rattle.drm_turns.specs.declared.history.Stage.TheVariants.{Idle, Waiting, Serving, Spent}
use Rattle.drm_turns.specs.History.{IsLegal, calls_by, journaled_before}

-- the view of the first participant, of a device that is shared
abbrev pub opening_view : DeviceValue → View
opening_view origin = record {
  origin = origin;
  number = 1;
  parent = 0;
  outstanding = 0;
  seen = journaled_before origin;
  mine = [];
  told = [];
  kept = [];
  drawn = 0;
  journaled = 0;
  ticket = 0;
  stage = Idle;
}

-- the view after a number was found in TICKET
abbrev pub found_at : View → ℕ → View
found_at v ticket = record v { ticket = ticket; stage = Idle }

-- the view after a ticket was drawn
abbrev pub waiting : View → ℕ → View
waiting v ticket = record v { ticket = ticket; stage = Waiting; drawn = v.drawn + 1 }

-- the view after its ticket is served
abbrev pub serving : View → List Entry → View
serving v seen = record v { seen = seen; stage = Serving }

-- the view after an entry was counted
abbrev pub counted : View → Entry → View
counted v e = record v { seen = v.seen ++ e ∷ []; mine = v.mine ++ e ∷ []; journaled = v.journaled + 1 }

-- the view after the turn was passed on
abbrev pub passed : View → View
passed v = record v { stage = Idle }

-- one more is split off it
abbrev pub lending : View → View
lending v = record v { outstanding = v.outstanding + 1 }

-- what a participant that is split off begins with
abbrev pub child : View → View
child v = record {
  origin = v.origin;
  number = 0;
  parent = v.number;
  outstanding = 0;
  seen = v.seen;
  mine = [];
  told = [];
  kept = [];
  drawn = 0;
  journaled = 0;
  ticket = 0;
  stage = Idle;
}

-- the view with a number
abbrev pub numbered : View → ℕ → View
numbered v number = record v { number = number }

-- How many are out of a participant of this number, once one with this parent is returned, of which this many are out
-- itself. It counts if it was split off this participant and all that were split off it are returned.
abbrev pub outstanding_after : ℕ → ℕ → ℕ → ℕ → ℕ
outstanding_after number outstanding parent theirs =
    cond ((parent == number) && (theirs == 0)) (outstanding - 1) outstanding

-- the view after another was merged into it
abbrev pub told_of : View → View → View
told_of v w =
    record v
    { told = w.seen; kept = v.kept ++ w.number ∷ w.kept; outstanding = outstanding_after v.number v.outstanding w.parent w.outstanding; drawn = v.drawn + w.drawn; journaled = v.journaled + w.journaled }

-- the same of a note, which has no number
abbrev pub met_of : View → View → View
met_of v w =
    record v
    { told = w.seen; outstanding = outstanding_after v.number v.outstanding w.parent w.outstanding; drawn = v.drawn + w.drawn; journaled = v.journaled + w.journaled }

-- some device, where a view knows none
abbrev pub no_device : DeviceValue
no_device = record {
  topology = record { crtcs = 0; planes = []; kinds = []; encoders = []; connectors = [] };
  limits =
      record
      { clients = 0; handles = 0; names = 0; tokens = 0; objects = 0; framebuffers = 0; lessees = 0; journal = 0 };
  journal = [];
}

-- the view of a participant that ended
abbrev pub spent_view : View
spent_view = record {
  origin = no_device;
  number = 0;
  parent = 0;
  outstanding = 0;
  seen = [];
  mine = [];
  told = [];
  kept = [];
  drawn = 0;
  journaled = 0;
  ticket = 0;
  stage = Spent;
}

-- the view after the history was read
abbrev pub informed : View → List Entry → View
informed v seen = record v { seen = seen; told = [] }

-- the view with more entries, which are its own
abbrev pub grown : View → List Entry → View
grown v more = record v { seen = v.seen ++ more; mine = v.mine ++ more; journaled = v.journaled + length more }

-- What was seen is legal, and has of the participant's entries just its own.
abbrev pub IsOwn : View → Type 0
IsOwn v = IsLegal v.origin v.seen × (calls_by v.number v.seen ≡ v.mine)

-- the view grew by entries, and they are its own
abbrev pub Grows : View → View → Type 0
Grows v w = ((more : List Entry) × (w ≡ grown v more)) × IsOwn w
