-- A frame at the front of bytes.
use Rattle.std.proofs.Common.{◌≡◌, ℕ, ◌+◌, ◌^◌, ◌<◌, ◌≤◌, List, ◌++◌, length, take, drop, sym, ap, ◌∙◌, subst, arith}
use Rattle.std.proofs.lemmas.List.{length-take, length-drop, length-take-le, append_assoc}
use Rattle.std.proofs.Math.Seq.{take-add}
use Rattle.byteorder.specs.Numbers.{little_from-lt}
use Rattle.drm_frames.specs.Number.{u16, u32, u16_in, u32_in, AreBytes}
use Rattle.drm_frames.specs.Grammar.{FrameValue, frame_text}
use Rattle.drm_frames.specs.Decoding.{StandsAtFront}
use Rattle.drm_frames.proofs.NumberBytes.{AreBytes-drop, AreBytes-take, u16-front, u32-again, u32_in-take}

u16_in-below : (bytes : List ℕ) → AreBytes bytes → u16_in bytes < 2 ^ 16
unfolding u16_in
u16_in-below bytes h = little_from-lt 0 2 bytes h

abbrev pub frame_of : List ℕ → FrameValue
frame_of body = record { number = u16_in body; fields = drop 2 body }

body_text : (body : List ℕ) (n : ℕ) → AreBytes body → length body ≡ n → 2 ≤ n
    → frame_text (frame_of body) ≡ u32 n ++ body
body_text body n h len two =
    let l : 2 + length (drop 2 body) ≡ n = omega (arith, length-drop 2 body) in
    let front : body ≡ u16 (u16_in body) ++ drop 2 body = u16-front body (omega arith) h in
    append_assoc (u32 (2 + length (drop 2 body))) (u16 (u16_in body)) (drop 2 body)
    ∙ ap (λ (k : ℕ). u32 k ++ (u16 (u16_in body) ++ drop 2 body)) l ∙ ap (λ (x : List ℕ). u32 n ++ x) (sym front)

-- If a length from 2 to 1,024 and as many bytes are at the front, a frame is there.
pub frame_here : (bytes : List ℕ) (n : ℕ) → AreBytes bytes → n ≡ u32_in bytes → 2 ≤ n → n ≤ 1024 → 4 + n ≤ length bytes
    → StandsAtFront bytes (frame_of (take n (drop 4 bytes))) (4 + n)
frame_here bytes n h is two most long =
    let rest : List ℕ = drop 4 bytes in
    let body : List ℕ = take n rest in
    let body_bytes : AreBytes body = AreBytes-take n rest (AreBytes-drop 4 bytes h) in
    let body_len : length body ≡ n = omega (arith, length-take n rest, length-drop 4 bytes) in
    let head : take 4 bytes ≡ u32 n =
    sym
    (ap u32 is ∙ ap u32 (sym (u32_in-take bytes (omega arith))) ∙ u32-again (take 4 bytes) (length-take-le 4 bytes (omega arith)) (AreBytes-take 4 bytes h))
    in
    record {
      within = long;
      text = take-add 4 n bytes ∙ ap (λ (x : List ℕ). x ++ body) head ∙ sym (body_text body n body_bytes body_len two);
      fits =
          record
          { number = u16_in-below body body_bytes; short = omega (arith, length-drop 2 body); bytes = AreBytes-drop 2 body body_bytes };
    }

-- If the parts cut out of the bytes are a frame's, this frame is at the front.
pub frame_cut : (bytes rest body fields : List ℕ) (n number : ℕ) (f : FrameValue) → AreBytes bytes → n ≡ u32_in bytes
    → 2 ≤ n → n ≤ 1024 → 4 + n ≤ length bytes
    → rest ≡ drop 4 bytes → body ≡ take n rest → fields ≡ drop 2 body → number ≡ u16_in body
    → f ≡ record { number = number; fields = fields } → StandsAtFront bytes f (4 + n)
frame_cut bytes rest body fields n number f h is two most long r b e m same =
    let whole : body ≡ take n (drop 4 bytes) = b ∙ ap (take n) r in
    let there : f ≡ frame_of (take n (drop 4 bytes)) =
    same ∙ ap (λ (k : ℕ). record { number = k; fields = fields }) m ∙ ap (λ (x : List ℕ). record { number = u16_in body; fields = x }) e ∙ ap frame_of whole in
    subst (λ (g : FrameValue). StandsAtFront bytes g (4 + n)) (sym there) (frame_here bytes n h is two most long)
