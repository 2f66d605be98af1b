use Rattle.std.proofs.Common.{◌≡◌, ◌≤◌, ◌<◌, ◌+◌, ℕ, List, ◌∷◌, ◌++◌, length, take, drop, arith, ap, sym, subst, ◌∙◌, refl, Some, None}
use Rattle.std.specs.List.{position}
use Rattle.std.proofs.lemmas.List.{drop-drop}
use Rattle.drm_runs.specs.Lines.{is_end, IsBare}
use Rattle.drm_runs.specs.Reader.{Buffered, IsTooLong}
use Rattle.drm_runs.proofs.LineLemmas.{scan_long_line, scan_long_rest, scan_line, bare_front, bare_all, IsBare-append, few_pending, few_left}
use Rattle.drm_runs.proofs.reader.LineReader.scan.Goals as goal

-- the first 256 bytes of a line that is too long
Long : Buffered → Type 0
Long s = (front : List ℕ) × (rest : List ℕ) × IsTooLong (s.held ++ s.pending) front rest

pub returns-then-not-extend_line : goal.returns-then-not-extend_line
unfolding Long
returns-then-not-extend_line c bare =
    let h = c.self.inside.line.items in
    let p = c.split_at-2.result.1.now in
    let same : p ≡ drop c.self.inside.next (take c.self.inside.end c.self.inside.chunk) =
    c.split_at-2.ensures.back ∙ ap (drop c.self.inside.next) c.split_at.ensures.front in
    let few : length p ≤ 256 =
    few_pending p c.self.inside.chunk c.self.inside.next c.self.inside.end same c.self.invariant.1 in
    let place : position is_end p ≡ Some c.in-Some.len = sym c.end_of_line.ensures ∙ c.in-Some.is in
    let over : 255 < length h + length c.split_at-in-Some.result.0.now = c.if-not-extend_line.ensures.none refl in
    let many : 255 < length h + c.in-Some.len = omega (arith, over, c.split_at-in-Some.ensures.front_len) in
    let bare_held : IsBare h = subst (λ (s : Buffered). IsBare s.held) (sym c.self.view_is) bare in
    let long = scan_long_line h p c.in-Some.len place c.extend_line.ensures.short few many bare_held in
    subst Long c.self.view_is
    (subst (λ (z : List ℕ). (front : List ℕ) × (rest : List ℕ) × IsTooLong (h ++ z) front rest) same long)

pub returns-then-not-extend_line-2 : goal.returns-then-not-extend_line-2
unfolding Long
returns-then-not-extend_line-2 c bare =
    let h = c.self.inside.line.items in
    let p = c.split_at-2.result.1.now in
    let same : p ≡ drop c.self.inside.next (take c.self.inside.end c.self.inside.chunk) =
    c.split_at-2.ensures.back ∙ ap (drop c.self.inside.next) c.split_at.ensures.front in
    let few : length p ≤ 256 =
    few_pending p c.self.inside.chunk c.self.inside.next c.self.inside.end same c.self.invariant.1 in
    let place : position is_end p ≡ None = sym c.end_of_line.ensures ∙ c.in-None.is in
    let bare_held : IsBare h = subst (λ (s : Buffered). IsBare s.held) (sym c.self.view_is) bare in
    let long =
    scan_long_rest h p place c.extend_line-in-None.ensures.short few (c.if-not-extend_line-2.ensures.none refl)
    bare_held in
    subst Long c.self.view_is
    (subst (λ (z : List ℕ). (front : List ℕ) × (rest : List ℕ) × IsTooLong (h ++ z) front rest) same long)

pub returns-else-not-extend_line : goal.returns-else-not-extend_line
returns-else-not-extend_line c =
    let h = c.self.inside.line.items in
    let p = c.split_at-2.result.1.now in
    let n = c.in-Some.len in
    let at_hand : List ℕ = take c.self.inside.end c.self.inside.chunk in
    let same : p ≡ drop c.self.inside.next at_hand =
    c.split_at-2.ensures.back ∙ ap (drop c.self.inside.next) c.split_at.ensures.front in
    let place : position is_end p ≡ Some n = sym c.end_of_line.ensures ∙ c.in-Some.is in
    let room = c.if-not-extend_line.ensures.room refl in
    let grown : c.extend_line.new.line.items ≡ h ++ take n p =
    room.0 ∙ ap (λ z. h ++ z) c.split_at-in-Some.ensures.front in
    let rest : drop (n + 1) p ≡ drop (c.self.inside.next + (n + 1)) at_hand =
    ap (drop (n + 1)) same ∙ drop-drop (n + 1) c.self.inside.next _ in
    let held : h ≡ c.args.self.now.held = ap (λ (s : Buffered). s.held) c.self.view_is in
    let pending : drop c.self.inside.next at_hand ≡ c.args.self.now.pending =
    ap (λ (s : Buffered). s.pending) c.self.view_is in
    let whole : h ++ p ≡ c.extend_line.new.line.items ++ 10 ∷ drop (c.self.inside.next + (n + 1)) at_hand =
    scan_line h p n place ∙ ap (λ z. z ++ 10 ∷ drop (n + 1) p) (sym grown) ∙ ap (λ z. c.extend_line.new.line.items ++ 10 ∷ z) rest in (
      ap (λ z. z ++ c.args.self.now.pending) (sym held) ∙ ap (λ z. h ++ z) (sym (same ∙ pending)) ∙ whole,
      λ bare. subst IsBare (sym grown)
          (IsBare-append h (take n p) (subst IsBare (sym held) bare) (bare_front p n place)),
      room.1,
      few_left c.self.inside.chunk c.self.inside.next n c.self.inside.end c.self.invariant.1,
    )

pub returns-else-not-extend_line-2 : goal.returns-else-not-extend_line-2
returns-else-not-extend_line-2 c =
    let h = c.self.inside.line.items in
    let p = c.split_at-2.result.1.now in
    let at_hand : List ℕ = take c.self.inside.end c.self.inside.chunk in
    let same : p ≡ drop c.self.inside.next at_hand =
    c.split_at-2.ensures.back ∙ ap (drop c.self.inside.next) c.split_at.ensures.front in
    let place : position is_end p ≡ None = sym c.end_of_line.ensures ∙ c.in-None.is in
    let room = c.if-not-extend_line-2.ensures.room refl in
    let held : h ≡ c.args.self.now.held = ap (λ (s : Buffered). s.held) c.self.view_is in
    let pending : drop c.self.inside.next at_hand ≡ c.args.self.now.pending = ap (λ (s : Buffered). s.pending) c.self.view_is in (
      ap (λ z. z ++ c.args.self.now.pending) (sym held) ∙ ap (λ z. h ++ z) (sym (same ∙ pending)) ∙ sym room.0,
      refl,
      λ bare. subst IsBare (sym room.0) (IsBare-append h p (subst IsBare (sym held) bare) (bare_all p place)),
      room.1,
    )
