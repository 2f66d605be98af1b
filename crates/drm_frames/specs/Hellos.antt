-- Which frames are hellos (own).
use Rattle.std.specs.Prelude.{◌≡◌, ℕ, ◌<◌, ◌^◌, Bool, true, ◌&&◌, ◌||◌, if◌then◌else◌, nat_eq, List, ◌++◌, length, drop, Option, Some, None}
use Rattle.drm_frames.specs.declared.hello.Hello.{Hello}
use Rattle.drm_frames.specs.Number.{u32, u32_in}
use Rattle.drm_frames.specs.Grammar.{FrameValue, frame_value, frame_text}

-- the versions that there are
abbrev pub is_version : ℕ → Bool
is_version version = nat_eq version 1 || nat_eq version 2

-- a hello with a version and a lease token
abbrev pub hello : ℕ → Option ℕ → Hello
hello version lease = record { version = version; lease = lease }

-- ---- the grammar

-- the version, 0 for a node or 1 for a lease, and the token, which is 0 for a node
abbrev pub hello_fields : ℕ → Option ℕ → List ℕ
hello_fields version None = u32 version ++ u32 0 ++ u32 0
hello_fields version (Some token) = u32 version ++ u32 1 ++ u32 token

-- the hello of a node, or of a lease token
abbrev pub hello_frame : Hello → FrameValue
hello_frame hello = frame_value 0x0100 (hello_fields hello.version hello.lease)

-- The token fits its field.
abbrev pub IsToken : Option ℕ → Type 0
IsToken None = Unit {0}
IsToken (Some token) = token < 2 ^ 32

-- The frame is this hello.
abbrev pub IsHello : FrameValue → Hello → Type 0
IsHello f hello = (is_version hello.version ≡ true) × IsToken hello.lease × (f ≡ hello_frame hello)

-- Every frame is one hello or none.
abbrev pub Greets : FrameValue → Option Hello → Type 0
Greets f None = (hello : Hello) → IsHello f hello → ⊥
Greets f (Some hello) = IsHello f hello

-- the bytes of a hello
unfoldable pub hello_text : Hello → List ℕ
hello_text hello = frame_text (hello_frame hello)

-- ---- the same as a function

-- what the second and the third number say
abbrev pub lease_in : ℕ → ℕ → ℕ → Option Hello
lease_in version what token =
    if nat_eq what 0 && nat_eq token 0 then Some (hello version None)
    else if nat_eq what 1 then Some (hello version (Some token))
    else None

-- the hello that the frame is
unfoldable pub hello_in : FrameValue → Option Hello
hello_in f =
    if nat_eq f.number 0x0100 && nat_eq (length f.fields) 12 && is_version (u32_in f.fields)
    then lease_in (u32_in f.fields) (u32_in (drop 4 f.fields)) (u32_in (drop 8 f.fields))
    else None
