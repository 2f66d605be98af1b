-- A frame: its length, its number and its fields (own; the numbers are those of drm-uapi).
use Rattle.std.specs.Prelude.{ℕ, ◌+◌, ◌^◌, ◌<◌, ◌≤◌, ◌⊎◌, if◌then◌else◌, nat_eq, List, ◌++◌, length, Option, Some, None}
use Rattle.drm_frames.specs.Number.{u16, u32, u32_in, AreBytes}

-- a number and the fields that go with it
pub record FrameValue : Type 0 where
  pub number : ℕ
  pub fields : List ℕ

-- a frame with a number and fields
abbrev pub frame_value : ℕ → List ℕ → FrameValue
frame_value number fields = record { number = number; fields = fields }

-- The length counts the number and the fields.
abbrev pub frame_text : FrameValue → List ℕ
frame_text f = u32 (2 + length f.fields) ++ u16 f.number ++ f.fields

-- what a frame can have
pub record IsFrame (f : FrameValue) : Type 0 where
  pub number : f.number < 2 ^ 16
  pub short : length f.fields ≤ 1022
  pub bytes : AreBytes f.fields

-- a length that no frame has
abbrev pub IsWrongLength : ℕ → Type 0
IsWrongLength n = (n < 2) ⊎ (1024 < n)

-- bytes that begin with such a length
pub record IsTooLong (bytes : List ℕ) : Type 0 where
  pub has_length : 4 ≤ length bytes
  pub wrong : IsWrongLength (u32_in bytes)

-- fewer bytes than a length takes, or than the length at their front says
abbrev pub IsPart : List ℕ → Type 0
IsPart bytes = (length bytes < 4) ⊎ ((2 ≤ u32_in bytes) × (u32_in bytes ≤ 1024) × (length bytes < 4 + u32_in bytes))

-- a value if there are exactly n bytes
abbrev pub if_size : {A : Type 0} → ℕ → List ℕ → A → Option A
if_size n fields said = if nat_eq (length fields) n then Some said else None
