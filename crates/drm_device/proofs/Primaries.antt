-- Render clients make no call of masters, modes, framebuffers or leases, so the caller of one has a master.
use Rattle.std.proofs.Common.{◌≡◌, Bool, true, false, not, ◌||◌, List, Option, None, Some, refl, sym, ap, ◌∙◌}
use Rattle.std.specs.Option.{is_some, option_map}
use Rattle.drm_table.specs.declared.calls.Call.{Call}
use Rattle.drm_table.specs.declared.calls.CallKind.{CallKind}
use Rattle.drm_table.specs.declared.calls.CallKind.TheVariants as kinds
use Rattle.drm_table.specs.declared.fields.Field.{Field}
use Rattle.drm_table.specs.declared.flags.RowFlags.{RowFlags}
use Rattle.drm_table.specs.declared.permits.Standing.{Standing}
use Rattle.drm_table.specs.declared.rows.Family.{Family}
use Rattle.drm_table.specs.declared.rows.Family.TheVariants.{Device, Buffers, Sharing}
use Rattle.drm_table.specs.Permit.{first_failing, has_flag, permit_checks, render_allow}
use Rattle.drm_table.specs.Table.{call_row, family_of, flags_of, kind_family, kind_row}
use Rattle.drm_table.proofs.TableRows.{flags-by-kind}
use Rattle.drm_model.proofs.FewLeased.{all_hold}
use Rattle.drm_state.specs.declared.state.State.{State}
use Rattle.drm_state.specs.declared.caller.Caller.{Caller}
use Rattle.drm_state.specs.Callers.{IsCaller}
use Rattle.drm_state.specs.Invariants.{MeetsInvariants}
use Rattle.drm_state.proofs.Callers.{caller_member}

-- whether render clients may make some of a family's calls
abbrev pub is_for_render : Family → Bool
is_for_render Device = true
is_for_render Buffers = true
is_for_render Sharing = true
is_for_render _ = false

kind_allows : (kind : CallKind) → is_for_render (kind_family kind) ≡ false
    → has_flag (kind_row kind).flags render_allow ≡ false
unfolding kind_row
kind_allows kinds.Version e = cc
kind_allows _ e = cc

module _ (call : Call) (family : Family) (none : is_for_render family ≡ false) where
  allows_none : family_of call ≡ Some family → has_flag (flags_of call) render_allow ≡ false
  unfolding family_of
  allows_none e = by_row (call_row call) refl e
    where
      by_row : (row : Option (CallKind × List Field)) → call_row call ≡ row
          → option_map (λ (row : CallKind × List Field). kind_family row.0) row ≡ Some family
          → has_flag (flags_of call) render_allow ≡ false
      by_row None is e = absurd (let n : None ≡ Some family = e in cc)
      by_row (Some row) is e =
          let its : kind_family row.0 ≡ family = cc in
          ap (λ (flags : RowFlags). has_flag flags render_allow)
          (flags-by-kind call row.0 (ap (option_map (λ (row : CallKind × List Field). row.0)) is))
          ∙ kind_allows row.0 (ap is_for_render its ∙ none)

  -- The caller of a call that render clients may not make has a master.
  pub stands_to_master : (s : State) (k : Caller) → MeetsInvariants s → IsCaller s k
      → (k.flags.render ≡ true → has_flag (flags_of call) render_allow ≡ true) → family_of call ≡ Some family
      → is_some k.member ≡ true
  stands_to_master s k t is render its = caller_member s k is t (by_flag k.flags.render refl)
    where
      by_flag : (b : Bool) → k.flags.render ≡ b → k.flags.render ≡ false
      by_flag true e = absurd (let no : false ≡ true = sym (allows_none its) ∙ render e in cc)
      by_flag false e = e

-- If a render client is permitted a call, render clients may make this call.
pub permits_render : (flags : RowFlags) (credentials : Standing)
    → first_failing (permit_checks flags credentials) ≡ None → credentials.render ≡ true
    → has_flag flags render_allow ≡ true
permits_render flags credentials none render =
    let last = (all_hold (permit_checks flags credentials) none).1.1.1.0 in
    either (has_flag flags render_allow) (ap (λ b. has_flag flags render_allow || not b) (sym render) ∙ last)
  where
    either : (b : Bool) → (b || false) ≡ true → b ≡ true
    either true e = refl
    either false e = absurd (let no : false ≡ true = e in cc)
