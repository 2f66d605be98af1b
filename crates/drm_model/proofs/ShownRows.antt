-- A CRTC and a plane show one framebuffer at most, which exists.
use Rattle.std.proofs.Common.{◌≡◌, ℕ, ◌==◌, true, not, Option, None, Some, sym, subst, ap}
use Rattle.std.specs.Prelude.{IfSome}
use Rattle.drm_index_array.specs.Orders.{InOrder}
use Rattle.drm_index_array.proofs.Lists.{filter_true, all_each}
use Rattle.drm_index_array.proofs.Orders.{in_order_filter}
use Rattle.drm_table.specs.declared.calls.Call.TheVariants.{SetCrtc, SetPlane}
use Rattle.drm_table.specs.declared.events.Event.{Event}
use Rattle.drm_table.specs.declared.events.Event.TheVariants.{Open, Ask, Close}
use Rattle.drm_model.specs.Rows.{Rows, ShownRow, empty_rows, is_framebuffer}
use Rattle.drm_model.specs.Shown.{IsOtherEngine, EachShowsOne}
use Rattle.drm_model.specs.Change.{changed, swept, journaled, after}
use Rattle.drm_model.specs.Run.{DeviceValue, rows_of}
use Rattle.drm_model.proofs.EventChanges.{along, by_verdict, new_shown_row, now_shown, shown_stays, each_edits}
use Rattle.drm_index_array.proofs.Edits.{either, in_order_edited}
use Rattle.std.proofs.lemmas.Bool.{not-true}

abbrev ShowOnce : Rows → Type 0
ShowOnce w = InOrder IsOtherEngine w.shown

-- ---- one that shows something else

-- what shows something now is another than those that stay
abbrev IsOther : Event → ShownRow → Type 0
IsOther event row = shown_stays event row ≡ true → IfSome (new_shown_row event) (IsOtherEngine row)

now-other : (x f : ℕ) (row : ShownRow) → not (row.engine == x) ≡ true → IfSome (now_shown x f) (IsOtherEngine row)
now-other x f row e =
    either (λ (o : Option ShownRow). IfSome o (IsOtherEngine row)) (f == 0) None
    (Some (record { engine = x; framebuffer = f })) tt (not-true (row.engine == x) e)

new-other : (event : Event) (row : ShownRow) → IsOther event row
new-other (Ask c (SetCrtc crtc f connector)) row e = now-other crtc f row e
new-other (Ask c (SetPlane plane crtc f)) row e = now-other plane f row e
new-other (Ask c call) row e = tt
new-other (Open opening) row e = tt
new-other (Close c) row e = tt

changed-shown : (w : Rows) (event : Event) → ShowOnce w → ShowOnce (changed w event)
changed-shown w event h =
    subst (InOrder IsOtherEngine) (sym (ap (λ (v : Rows). v.shown) (each_edits w event)))
    (in_order_edited (shown_stays event) (λ row. row) (new_shown_row event) w.shown IsOtherEngine (λ x y k. k) (all_each (λ row. shown_stays event row ≡ true → IfSome (new_shown_row event) (IsOtherEngine row)) (new-other event) w.shown) h)

-- what shows a framebuffer that went becomes dark
swept-shown : (w : Rows) → ShowOnce w → EachShowsOne (journaled (swept w))
unfolding swept
swept-shown w h = record {
  one = in_order_filter IsOtherEngine (λ (row : ShownRow). is_framebuffer w row.framebuffer) w.shown h;
  there = filter_true (λ (row : ShownRow). is_framebuffer w row.framebuffer) w.shown;
}

after-shown : (w : Rows) (event : Event) → EachShowsOne w → EachShowsOne (after w event)
after-shown w event h =
    by_verdict EachShowsOne w event (record { one = h.one; there = h.there })
    (λ accepted. swept-shown (changed w event) (changed-shown w event h.one))

-- In the rows of any history each CRTC and each plane shows one framebuffer at most, which exists.
pub each_shows_one : (h : DeviceValue) → EachShowsOne (rows_of h)
unfolding rows_of
each_shows_one h =
    along EachShowsOne after-shown h.journal (empty_rows h.topology h.limits) (record { one = tt; there = tt })
