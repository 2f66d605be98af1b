use Rattle.std.proofs.Common.{◌≡◌, ◌+◌, None, Some, [], ◌∷◌, ◌++◌, map, take, drop, length, length-append, sym, ◌∙◌, ap, arith}
use Rattle.std.specs.Prelude.{slice_get}
use Rattle.drm_index_array.proofs.Pages.{page-more, page-end}
use Rattle.drm_model.specs.Audit.{handle_audit}
use Rattle.drm_state.specs.Parts.{holds_of}
use Rattle.drm_state.proofs.Represented.{holds_rise}
use Rattle.drm_device.proofs.AuditRows.{among_at, after_place, hold_there, hold_at_end}
use Rattle.drm_device.proofs.audits.handles_page.Goals as goal

pub loop-turn-init : goal.loop-turn-init
loop-turn-init c = record {
  rows = c.new-page.ensures;
  length = ap length c.new-page.ensures;
  next_is =
      let same : c.args.from ≡ c.args.from + 0 = omega arith in
      c.nth_handle-next.ensures ∙ ap (slice_get c.args.state.now.files.holds) same;
}

-- no handle is left
pub returns-in_default : goal.returns-in_default
returns-in_default c =
    let none : None ≡ slice_get c.args.state.now.files.holds (c.args.from + c.loop-turn._turn) =
    sym c.in_default.is ∙ c.loop-turn.invariant.next_is in
    c.loop-turn.invariant.rows
    ∙ page-end (map handle_audit (holds_of c.args.state.now)) c.args.from c.loop-turn._turn 16
    (hold_at_end c.args.state.now.objects.objects c.args.state.now.files.holds (c.args.from + c.loop-turn._turn) none)
    (omega arith)

pub handle_row-requires-clause-held : goal.handle_row-requires-clause-held
handle_row-requires-clause-held c =
    among_at c.args.state.now.files.holds (c.args.from + c.loop-turn._turn) c.in-Some.hold
    (sym c.loop-turn.invariant.next_is ∙ c.in-Some.is)

pub push-requires : goal.push-requires
push-requires c = omega (arith, c.loop-turn.invariant.length)

pub loop-turn-preserved : goal.loop-turn-preserved
loop-turn-preserved c =
    let s = c.args.state.now in
    let place = c.args.from + c.loop-turn._turn in
    let there = sym c.loop-turn.invariant.next_is ∙ c.in-Some.is in
    let above : place + 1 ≡ c.args.from + (c.loop-turn._turn + 1) = omega arith in
    record {
      rows =
          c.push.ensures ∙ ap (λ rows. rows ++ c.handle_row.result ∷ []) c.loop-turn.invariant.rows
          ∙ page-more (map handle_audit (holds_of s)) c.args.from c.loop-turn._turn c.handle_row.result
          (ap Some c.handle_row.ensures ∙ hold_there s.objects.objects s.files.holds place c.in-Some.hold there);
      length =
          ap length c.push.ensures ∙ length-append c.loop-turn.page (c.handle_row.result ∷ [])
          ∙ ap (λ n. n + 1) c.loop-turn.invariant.length;
      next_is =
          c.handle_after-next.ensures
          ∙ after_place s.files.holds (holds_rise s c.requires) place c.in-Some.hold there
          ∙ ap (slice_get s.files.holds) above;
    }

-- 16 turns are done
pub returns : goal.returns
returns c =
    let all : c.loop-turn._turn ≡ 16 = omega arith in
    c.loop-turn.invariant.rows ∙ ap (λ n. take n (drop c.args.from (map handle_audit (holds_of c.args.state.now)))) all
