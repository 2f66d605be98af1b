-- Which hello a frame is, both ways.
use Rattle.std.proofs.Common.{◌≡◌, ℕ, ◌^◌, ◌<◌, ◌⊎◌, inl, inr, Bool, true, false, cond, ◌++◌, length, drop, Option, Some, None, refl, sym, ap, ◌∙◌, subst, arith}
use Rattle.std.specs.Prelude.{◌&&◌, ◌||◌, nat_eq}
use Rattle.std.proofs.lemmas.Bool.{false≢true, eqb-true}
use Rattle.std.proofs.lemmas.Option.{none-some}
use Rattle.drm_frames.specs.declared.hello.Hello.{Hello}
use Rattle.drm_frames.specs.Number.{u32, u32_in, AreBytes}
use Rattle.drm_frames.specs.Grammar.{FrameValue, frame_value, IsFrame}
use Rattle.drm_frames.specs.Hellos.{is_version, hello as greeting, hello_fields, hello_frame, IsToken, IsHello, Greets, lease_in, hello_in}
use Rattle.drm_frames.proofs.NumberBytes.{AreBytes-drop}
use Rattle.drm_frames.proofs.FieldLaws.{three-bytes, u32_in-alone, u32_in-below, length-three, first-is, second-is, behind-is, three-again}
use Rattle.drm_frames.proofs.Sizes.{cond-some, some-is, both-true, frame_value-is}

three-fits : (a b c : ℕ) → IsFrame (frame_value 0x0100 (u32 a ++ u32 b ++ u32 c))
three-fits a b c = record {
  number = omega arith;
  short = omega (arith, length-three a b c);
  bytes = three-bytes a b c;
}

-- The frame of a hello fits the format of frames.
pub hello-fits : (hello : Hello) → IsFrame (hello_frame hello)
hello-fits hello = by_lease hello.version hello.lease
  where
    by_lease : (version : ℕ) (lease : Option ℕ) → IsFrame (frame_value 0x0100 (hello_fields version lease))
    by_lease version None = three-fits version 0 0
    by_lease version (Some token) = three-fits version 1 token

version-fits : (version : ℕ) → is_version version ≡ true → version < 2 ^ 32
version-fits version h = either (nat_eq version 1) (nat_eq version 2) refl refl h
  where
    either : (one two : Bool) → nat_eq version 1 ≡ one → nat_eq version 2 ≡ two → (one || two) ≡ true → version < 2 ^ 32
    either true two e f h = let is = eqb-true version 1 e in omega (arith, is)
    either false true e f h = let is = eqb-true version 2 f in omega (arith, is)
    either false false e f h = absurd (false≢true h)

three-found : (version what token : ℕ) → is_version version ≡ true → what < 2 ^ 32 → token < 2 ^ 32
    → hello_in (frame_value 0x0100 (u32 version ++ u32 what ++ u32 token)) ≡ lease_in version what token
unfolding hello_in
three-found version what token v w t =
    let len : length (u32 version ++ u32 what ++ u32 token) ≡ 12 = length-three version what token in
    let first : u32_in (u32 version ++ u32 what ++ u32 token) ≡ version =
    first-is version what (u32 token) (version-fits version v) in
    let second = second-is version what (u32 token) w in
    let third : u32_in (drop 8 (u32 version ++ u32 what ++ u32 token)) ≡ token =
    ap u32_in (behind-is version what (u32 token)) ∙ u32_in-alone token t in
    rw (len, first, v, second, third) refl

-- A hello with a known version and a token that fits is found in its frame.
pub written-found : (hello : Hello) → is_version hello.version ≡ true → IsToken hello.lease
    → hello_in (hello_frame hello) ≡ Some hello
written-found hello v t = by_lease hello.lease t
  where
    by_lease : (lease : Option ℕ) → IsToken lease
        → hello_in (frame_value 0x0100 (hello_fields hello.version lease)) ≡ Some (greeting hello.version lease)
    by_lease None h = three-found hello.version 0 0 v (omega arith) (omega arith)
    by_lease (Some token) h = three-found hello.version 1 token v (omega arith) h

-- The hello of a frame is found in it.
pub hello-found : (f : FrameValue) (hello : Hello) → IsHello f hello → hello_in f ≡ Some hello
hello-found f hello h = ap hello_in h.2 ∙ written-found hello h.0 h.1

-- ---- what is found is a hello

node-or-lease : (version what token : ℕ) (hello : Hello) (node lease : Bool) → nat_eq what 0 && nat_eq token 0 ≡ node
    → nat_eq what 1 ≡ lease
    → cond node (Some (greeting version None)) (cond lease (Some (greeting version (Some token))) None) ≡ Some hello
    → ((what ≡ 0) × (token ≡ 0) × (greeting version None ≡ hello)) ⊎ ((what ≡ 1) × (greeting version (Some token) ≡ hello))
node-or-lease version what token hello true lease n l e =
    let t = both-true (nat_eq what 0) (nat_eq token 0) n in
    inl (eqb-true what 0 t.0, eqb-true token 0 t.1, some-is (greeting version None) hello e)
node-or-lease version what token hello false true n l e =
    inr (eqb-true what 1 l, some-is (greeting version (Some token)) hello e)
node-or-lease version what token hello false false n l e = absurd cc

as-hello : (f : FrameValue) (hello : Hello) (version what token : ℕ) → is_version version ≡ true
    → f ≡ frame_value 0x0100 (u32 version ++ u32 what ++ u32 token) → token < 2 ^ 32
    → ((what ≡ 0) × (token ≡ 0) × (greeting version None ≡ hello)) ⊎ ((what ≡ 1) × (greeting version (Some token) ≡ hello))
    → IsHello f hello
as-hello f hello version what token v same small (inl (w, t, h)) =
    subst (λ (k : Hello). IsHello f k) h
    (v, tt, same ∙ ap (λ (n : ℕ). frame_value 0x0100 (u32 version ++ u32 n ++ u32 token)) w ∙ ap (λ (n : ℕ). frame_value 0x0100 (u32 version ++ u32 0 ++ u32 n)) t)
as-hello f hello version what token v same small (inr (w, h)) =
    subst (λ (k : Hello). IsHello f k) h
    (v, small, same ∙ ap (λ (n : ℕ). frame_value 0x0100 (u32 version ++ u32 n ++ u32 token)) w)

found-hello : (f : FrameValue) (hello : Hello) → AreBytes f.fields → hello_in f ≡ Some hello → IsHello f hello
unfolding hello_in
found-hello f hello b e =
    let version : ℕ = u32_in f.fields in
    let what : ℕ = u32_in (drop 4 f.fields) in
    let token : ℕ = u32_in (drop 8 f.fields) in
    let test : Bool = nat_eq f.number 0x0100 && nat_eq (length f.fields) 12 && is_version version in
    let passed = cond-some test (lease_in version what token) hello e in
    let front = both-true (nat_eq f.number 0x0100 && nat_eq (length f.fields) 12) (is_version version) passed.0 in
    let sized = both-true (nat_eq f.number 0x0100) (nat_eq (length f.fields) 12) front.0 in
    let fields : f.fields ≡ u32 version ++ u32 what ++ u32 token =
    three-again f.fields (eqb-true (length f.fields) 12 sized.1) b in
    as-hello f hello version what token front.1
    (frame_value-is f 0x0100 (u32 version ++ u32 what ++ u32 token) (eqb-true f.number 0x0100 sized.0) fields)
    (u32_in-below (drop 8 f.fields) (AreBytes-drop 8 f.fields b))
    (node-or-lease version what token hello _ _ refl refl passed.1)

greets-by : (f : FrameValue) (found : Option Hello) → hello_in f ≡ found
    → ((hello : Hello) → found ≡ Some hello → IsHello f hello) → Greets f found
greets-by f None e each = λ hello h. none-some hello (sym e ∙ hello-found f hello h)
greets-by f (Some hello) e each = each hello refl

-- The hello found in a frame is the frame's, and a frame in which none is found has none.
pub greets : (f : FrameValue) → IsFrame f → Greets f (hello_in f)
greets f fits = greets-by f (hello_in f) refl (λ hello e. found-hello f hello fits.bytes e)
