-- Bytes are frames, and a rest, in one way.
use Rattle.std.proofs.Common.{◌≡◌, ℕ, ◌+◌, List, [], ◌∷◌, ◌++◌, length, take, drop, refl, sym, ap, ◌∙◌, arith, inl, inr}
use Rattle.std.specs.List.{flat_map, AllByRecursion}
use Rattle.std.proofs.lemmas.List.{append_assoc, append_cancel_left, length-append, take_at, drop_at}
use Rattle.drm_frames.specs.Number.{u16, u32, u16_in, u32_in}
use Rattle.drm_frames.specs.Grammar.{FrameValue, frame_text, IsFrame, IsPart}
use Rattle.drm_frames.proofs.Sizes.{frame_value-is}
use Rattle.drm_frames.proofs.NumberBytes.{length-u16, length-u32, u16_in-u16, u32_in-u32}

-- A frame's text is its length, its number and its fields.
pub frame_value-text : (f : FrameValue) (x : List ℕ)
    → frame_text f ++ x ≡ u32 (2 + length f.fields) ++ (u16 f.number ++ (f.fields ++ x))
frame_value-text f x = simp append_assoc

-- If two frames are at the front of the same bytes, they are equal, and so is what follows.
pub one-text : (f g : FrameValue) (x y : List ℕ) → IsFrame f → IsFrame g → frame_text f ++ x ≡ frame_text g ++ y
    → (f ≡ g) × (x ≡ y)
one-text f g x y fits gits e =
    let same : u32 (2 + length f.fields) ++ (u16 f.number ++ (f.fields ++ x)) ≡ u32 (2 + length g.fields) ++ (u16 g.number ++ (g.fields ++ y)) =
    sym (frame_value-text f x) ∙ e ∙ frame_value-text g y in
    let fs = fits.short in
    let gs = gits.short in
    let f-len = u32_in-u32 (2 + length f.fields) (u16 f.number ++ (f.fields ++ x)) (omega arith) in
    let g-len = u32_in-u32 (2 + length g.fields) (u16 g.number ++ (g.fields ++ y)) (omega arith) in
    let len : length f.fields ≡ length g.fields = omega (arith, f-len, g-len, ap u32_in same) in
    let cut : u16 f.number ++ (f.fields ++ x) ≡ u16 g.number ++ (g.fields ++ y) =
    append_cancel_left (u32 (2 + length f.fields)) _ _ (same ∙ ap (λ (k : ℕ). u32 (2 + k) ++ (u16 g.number ++ (g.fields ++ y))) (sym len)) in
    let number : f.number ≡ g.number =
    sym (u16_in-u16 f.number (f.fields ++ x) fits.number) ∙ ap u16_in cut
    ∙ u16_in-u16 g.number (g.fields ++ y) gits.number in
    let rest : f.fields ++ x ≡ g.fields ++ y =
    append_cancel_left (u16 f.number) _ _ (cut ∙ ap (λ (k : ℕ). u16 k ++ (g.fields ++ y)) (sym number)) in
    let fields : f.fields ≡ g.fields =
    sym (take_at f.fields x (length f.fields) refl) ∙ ap (take (length f.fields)) rest
    ∙ take_at g.fields y (length f.fields) (sym len) in
    let more : x ≡ y =
    sym (drop_at f.fields x (length f.fields) refl) ∙ ap (drop (length f.fields)) rest
    ∙ drop_at g.fields y (length f.fields) (sym len) in
    (frame_value-is f g.number g.fields number fields, more)

-- ---- bytes are frames and a rest in one way

length-text : (f : FrameValue) (r : List ℕ) → length (frame_text f ++ r) ≡ 6 + (length f.fields + length r)
length-text f r =
    ap length (frame_value-text f r)
    ∙ omega
    (arith, length-append (u32 (2 + length f.fields)) (u16 f.number ++ (f.fields ++ r)), length-append (u16 f.number) (f.fields ++ r), length-append f.fields r, length-u32 (2 + length f.fields), length-u16 f.number)

-- Less than a frame does not begin with a frame.
pub part-no-frame : (y r : List ℕ) (f : FrameValue) → IsFrame f → IsPart y → y ≡ frame_text f ++ r → ⊥
part-no-frame y r f fits (inl short) e = let len = ap length e ∙ length-text f r in omega (arith, len, short)
part-no-frame y r f fits (inr part) e =
    let len = ap length e ∙ length-text f r in
    let few = fits.short in
    let says =
    ap u32_in (e ∙ frame_value-text f r)
    ∙ u32_in-u32 (2 + length f.fields) (u16 f.number ++ (f.fields ++ r)) (omega (arith, few)) in
    omega (arith, len, says, part.2)

-- Bytes are frames and less than a frame in only one way.
pub one-reading : (fs gs : List FrameValue) (x y : List ℕ) → AllByRecursion IsFrame fs → AllByRecursion IsFrame gs
    → IsPart x → IsPart y
    → flat_map frame_text fs ++ x ≡ flat_map frame_text gs ++ y → (fs ≡ gs) × (x ≡ y)
one-reading [] [] x y a b p q e = (refl, e)
one-reading [] (g ∷ gs) x y a b p q e =
    absurd
    (part-no-frame x (flat_map frame_text gs ++ y) g b.0 p (e ∙ append_assoc (frame_text g) (flat_map frame_text gs) y))
one-reading (f ∷ fs) [] x y a b p q e =
    absurd
    (part-no-frame y (flat_map frame_text fs ++ x) f a.0 q (sym e ∙ append_assoc (frame_text f) (flat_map frame_text fs) x))
one-reading (f ∷ fs) (g ∷ gs) x y a b p q e =
    let t =
    one-text f g (flat_map frame_text fs ++ x) (flat_map frame_text gs ++ y) a.0 b.0
    (sym (append_assoc (frame_text f) (flat_map frame_text fs) x) ∙ e ∙ append_assoc (frame_text g) (flat_map frame_text gs) y)
    in
    let r = one-reading fs gs x y a.1 b.1 p q t.1 in
    (ap (λ (k : FrameValue). k ∷ fs) t.0 ∙ ap (λ (ks : List FrameValue). g ∷ ks) r.0, r.1)
