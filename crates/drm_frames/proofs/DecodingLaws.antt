-- At the front of bytes is one thing, and a frame's text is found there.
use Rattle.std.proofs.Common.{◌≡◌, ℕ, ◌+◌, ◌≤◌, List, ◌++◌, length, drop, refl, sym, ap, ◌∙◌, arith, inl, inr}
use Rattle.std.proofs.lemmas.List.{length-append, length-take-le, take-append-drop, take_at}
use Rattle.drm_frames.specs.declared.decoding.Decoded.{Decoded}
use Rattle.drm_frames.specs.declared.decoding.Decoded.TheVariants.{Whole, NeedMore, TooLong}
use Rattle.drm_frames.specs.Number.{u16, u32_in}
use Rattle.drm_frames.specs.Grammar.{FrameValue, frame_text, IsFrame, IsWrongLength, IsTooLong, IsPart}
use Rattle.drm_frames.specs.Decoding.{StandsAtFront, Decodes, ReadsAs}
use Rattle.drm_frames.proofs.NumberBytes.{u32_in-u32}
use Rattle.drm_frames.proofs.FrameLaws.{one-text, frame_value-text, part-no-frame}

stands : (bytes : List ℕ) (f : FrameValue) (used : ℕ) → StandsAtFront bytes f used
    → bytes ≡ frame_text f ++ drop used bytes
stands bytes f used h = sym (take-append-drop used bytes) ∙ ap (λ (xs : List ℕ). xs ++ drop used bytes) h.text

used-is : (bytes : List ℕ) (f : FrameValue) (used : ℕ) → StandsAtFront bytes f used → used ≡ length (frame_text f)
used-is bytes f used h = sym (length-take-le used bytes h.within) ∙ ap length h.text

whole-is : (f g : FrameValue) (u v : ℕ) → f ≡ g → u ≡ v → Whole f u ≡ Whole g v
whole-is f g u v a b = cc

one-frame : (bytes : List ℕ) (f g : FrameValue) (u v : ℕ) → StandsAtFront bytes f u → StandsAtFront bytes g v
    → Whole f u ≡ Whole g v
one-frame bytes f g u v a b =
    let same =
    one-text f g (drop u bytes) (drop v bytes) a.fits b.fits (sym (stands bytes f u a) ∙ stands bytes g v b) in
    whole-is f g u v same.0
    (used-is bytes f u a ∙ ap (λ (k : FrameValue). length (frame_text k)) same.0 ∙ sym (used-is bytes g v b))

no-part : (bytes : List ℕ) (f : FrameValue) (used : ℕ) → StandsAtFront bytes f used → IsPart bytes → ⊥
no-part bytes f used h part = part-no-frame bytes (drop used bytes) f h.fits part (stands bytes f used h)

right-length : (n : ℕ) → 2 ≤ n → n ≤ 1024 → IsWrongLength n → ⊥
right-length n a b (inl h) = omega (arith, h)
right-length n a b (inr h) = omega (arith, h)

not-too-long : (bytes : List ℕ) (f : FrameValue) (used : ℕ) → StandsAtFront bytes f used → IsTooLong bytes → ⊥
not-too-long bytes f used h long =
    let few = h.fits.short in
    let says : u32_in bytes ≡ 2 + length f.fields =
    ap u32_in (stands bytes f used h ∙ frame_value-text f (drop used bytes)) ∙ u32_in-u32 (2 + length f.fields) (u16 f.number ++ (f.fields ++ drop used bytes)) (omega (arith, few)) in
    right-length (u32_in bytes) (omega (arith, says)) (omega (arith, says, few)) long.wrong

part-not-too-long : (bytes : List ℕ) → IsPart bytes → IsTooLong bytes → ⊥
part-not-too-long bytes (inl short) long = let h = long.has_length in omega (arith, short, h)
part-not-too-long bytes (inr part) long = right-length (u32_in bytes) part.0 part.1 long.wrong

-- Bytes are decoded in only one way.
pub one-decoding : (bytes : List ℕ) (d e : Decoded) → Decodes bytes d → Decodes bytes e → d ≡ e
one-decoding bytes (Whole f u) (Whole g v) a b = one-frame bytes f g u v a b
one-decoding bytes (Whole f u) NeedMore a b = absurd (no-part bytes f u a b)
one-decoding bytes (Whole f u) TooLong a b = absurd (not-too-long bytes f u a b)
one-decoding bytes NeedMore (Whole g v) a b = absurd (no-part bytes g v b a)
one-decoding bytes NeedMore NeedMore a b = refl
one-decoding bytes NeedMore TooLong a b = absurd (part-not-too-long bytes a b)
one-decoding bytes TooLong (Whole g v) a b = absurd (not-too-long bytes g v b a)
one-decoding bytes TooLong NeedMore a b = absurd (part-not-too-long bytes b a)
one-decoding bytes TooLong TooLong a b = refl

-- A frame's text, with any bytes after it, is read as this frame.
pub text-reads : (f : FrameValue) → IsFrame f → ReadsAs (frame_text f) f
text-reads f fits rest = record {
  within = omega (arith, length-append (frame_text f) rest);
  text = take_at (frame_text f) rest (length (frame_text f)) refl;
  fits = fits;
}
