use Rattle.std.proofs.Common.{◌^◌, ◌<◌, length, sym, ◌∙◌, arith}
use Rattle.drm_index_array.proofs.Orders.{length-sorted}
use Rattle.drm_model.specs.Audit.{audit_rows, is_before, rising_rows}
use Rattle.drm_model.specs.Run.{rows_of}
use Rattle.drm_model.proofs.StepNumbers.{step_numbers_rise}
use Rattle.drm_model.proofs.FewAdded.{few_rows, few_audit_rows}
use Rattle.drm_model.proofs.Journals.{rows_of-steps}
use Rattle.drm_device.specs.Device.{value_of}
use Rattle.drm_device.specs.Audits.{IsPage}
use Rattle.drm_device.proofs.Devices.{fixed_topology}
use Rattle.drm_device.proofs.device.Device.audit.Goals as goal

pub returns-clause-page : goal.returns-clause-page
unfolding IsPage
returns-clause-page c =
    let d = c.self.inside in
    rw (← c.self.view_is) (c.page_of.ensures (rows_of (value_of d)) (record {
      rows = c.self.invariant.rows;
      step_numbers = step_numbers_rise (value_of d);
      steps_are = rows_of-steps (value_of d) ∙ sym c.len.ensures;
    }))

pub returns-clause-few : goal.returns-clause-few
returns-clause-few c =
    let d = c.self.inside in
    let few =
    few_audit_rows (rows_of (value_of d)) _ (few_rows (value_of d) (fixed_topology d c.self.invariant)) c.args.kind
    in
    let steps = rows_of-steps (value_of d) in
    let same = length-sorted is_before (audit_rows (rows_of (value_of d)) c.args.kind) in
    let small : length (rising_rows (audit_rows (rows_of (value_of d)) c.args.kind)) < 2 ^ 31 =
    omega (arith, few, same, steps, c.self.invariant.places, c.self.invariant.journal_fits) in
    rw (← c.self.view_is) small
