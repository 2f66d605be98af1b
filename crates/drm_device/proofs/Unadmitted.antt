-- A call without a family has no row, and is never admitted.
use Rattle.std.proofs.Common.{◌≡◌, ℕ, None}
use Rattle.drm_table.specs.declared.calls.Call.{Call}
use Rattle.drm_table.specs.declared.calls.Call.TheVariants.{Unknown, BadLayout}
use Rattle.drm_table.specs.Permit.{first_failing}
use Rattle.drm_table.specs.Table.{call_row, family_of}
use Rattle.drm_model.specs.Rows.{Rows}
use Rattle.drm_model.specs.Verdict.{admission_checks}

-- A call without a family is never admitted.
pub never_admitted : (w : Rows) (c : ℕ) (call : Call) → family_of call ≡ None
    → first_failing (admission_checks w c call) ≡ None → ⊥
unfolding family_of call_row admission_checks
never_admitted w c (Unknown number) none a = cc
never_admitted w c (BadLayout number) none a = cc
never_admitted w c _ none a = cc
