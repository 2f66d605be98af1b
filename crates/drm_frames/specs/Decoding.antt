-- The frame at the front of bytes (own).
use Rattle.std.specs.Prelude.{◌≡◌, ℕ, ◌≤◌, List, ◌++◌, length, take}
use Rattle.drm_frames.specs.Grammar.{FrameValue, frame_text, IsFrame, IsTooLong, IsPart}
use Rattle.drm_frames.specs.declared.decoding.Decoded.{Decoded}
use Rattle.drm_frames.specs.declared.decoding.Decoded.TheVariants.{Whole, NeedMore, TooLong}

-- The frame is in the first `used` bytes.
pub record StandsAtFront (bytes : List ℕ) (f : FrameValue) (used : ℕ) : Type 0 where
  pub within : used ≤ length bytes
  pub text : take used bytes ≡ frame_text f
  pub fits : IsFrame f

-- a frame, less than a frame, or a length that no frame has
abbrev pub Decodes : List ℕ → Decoded → Type 0
Decodes bytes (Whole f used) = StandsAtFront bytes f used
Decodes bytes NeedMore = IsPart bytes
Decodes bytes TooLong = IsTooLong bytes

-- Whatever follows the text, the frame is at the front of both, and it takes the whole text.
abbrev pub ReadsAs : List ℕ → FrameValue → Type 0
ReadsAs text f = (rest : List ℕ) → Decodes (text ++ rest) (Whole f (length text))
