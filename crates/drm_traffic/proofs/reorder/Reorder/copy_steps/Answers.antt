use Rattle.std.proofs.Common.{◌≡◌, ◌∙◌, ℕ, ◌+◌, suc, List, [], ◌∷◌, ◌++◌, Option, None, Some, length, length-append, map, sym, ap, take, drop, append_assoc, arith, subst}
use Rattle.std.proofs.Math.ListN.{get_or}
use Rattle.std.proofs.Math.Seq.{take-suc}
use Rattle.std.proofs.lemmas.List.{get_or-drop, length-drop, map_push}
use Rattle.std.proofs.lemmas.Option.{get_or_from_slice_get, slice_get_within}
use Rattle.std.specs.List.{slice_get}
use Rattle.drm_traffic.specs.declared.batch.WatchedCall.{WatchedCall}
use Rattle.drm_traffic.specs.Reports.{HasCopied}
use Rattle.drm_traffic.proofs.reorder.Reorder.copy_steps.Goals as goal

one-more : {A : Type 0} (places : List (Option A)) (place at : ℕ) (taken now : List A) (item : A)
    → HasCopied places place taken now → at + length taken ≡ place + length now → slice_get places at ≡ Some (Some item)
    → HasCopied places place taken (now ++ item ∷ [])
one-more {A} places place at taken now item h count is =
    let n : ℕ = length h.copied in
    let total = ap (λ (l : List A). length l) h.are ∙ length-append taken h.copied in
    let here : at ≡ place + n = omega (arith, total, count) in
    let within = slice_get_within places at (Some item) is in
    let left = length-drop place places in
    let last : get_or (drop place places) n None ≡ Some item =
    get_or-drop place places n None ∙ ap (λ (k : ℕ). get_or places k None) (sym here) ∙ get_or_from_slice_get places at (Some item) None is in
    let long : length (h.copied ++ item ∷ []) ≡ suc n = (let l = length-append h.copied (item ∷ []) in omega (arith, l)) in
    record {
      copied = h.copied ++ item ∷ [];
      are = ap (λ (l : List A). l ++ item ∷ []) h.are ∙ append_assoc taken h.copied (item ∷ []);
      places_are =
          map_push Some h.copied item
          ∙ ap (λ (l : List (Option A)). l ++ Some item ∷ []) h.places_are
          ∙ ap (λ (x : Option A). take n (drop place places) ++ x ∷ []) (sym last)
          ∙ sym (take-suc (drop place places) n None (omega (arith, within, left, here)))
          ∙ ap (λ (k : ℕ). take k (drop place places)) (sym long);
    }

pub loop-at-preserved : goal.loop-at-preserved
loop-at-preserved c =
    let places = c.args.self.now.steps.items in
    let before = c.args.steps.now.items in
    let now = c.loop-at.steps.items in
    let step : WatchedCall = c.in-Some.step.now in
    let items : c.push_reserved.new.self.items ≡ now ++ step ∷ [] =
    c.push_reserved.ensures.items ∙ ap (λ (s : WatchedCall). now ++ s ∷ []) c.copy.ensures in
    let longer = ap (λ (l : List WatchedCall). length l) items ∙ length-append now (step ∷ []) in
    let count = c.loop-at.invariant.count in record {
      copied =
          subst (λ (l : List WatchedCall). HasCopied places c.args.place before l) (sym items)
          (one-more places c.args.place c.loop-at.at before now step c.loop-at.invariant.copied count c.in-Some.ensures);
      count = omega (arith, longer, count);
    }
