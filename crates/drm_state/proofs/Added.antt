-- What a fresh handle came to, by the handle.
use Rattle.std.proofs.Common.{◌≡◌, ℕ, [], ◌∷◌, Option, None, Some, Ok, inr, inl, arith, subst, length-append}
use Rattle.std.specs.Prelude.{unwrap_or}
use Rattle.drm_model.specs.Rows.{Rows, free_handle, with_handle_row}
use Rattle.drm_model.specs.Run.{IsLonger}
use Rattle.drm_state.specs.declared.state.State.{State}
use Rattle.drm_state.specs.Refinement.{AddedHandle}

-- If no handle was free, adding one failed, and the state is the one of that case.
pub added_none : (w : Rows) (c o : ℕ) (export_order : Option ℕ) (s : State) (r : Option ℕ) → r ≡ None
    → AddedHandle w c o export_order (Ok r) s → AddedHandle w c o export_order (Ok None) s
added_none w c o export_order s r e h = subst (λ x. AddedHandle w c o export_order (Ok x) s) e h

-- If a handle was free, adding one returned it, and the state is the one of that case.
pub added_some : (w : Rows) (c o : ℕ) (export_order : Option ℕ) (s : State) (r : Option ℕ) (handle : ℕ)
    → r ≡ Some handle → AddedHandle w c o export_order (Ok r) s → AddedHandle w c o export_order (Ok (Some handle)) s
added_some w c o export_order s r handle e h = subst (λ x. AddedHandle w c o export_order (Ok x) s) e h

-- A handle more makes the list of handles longer.
pub longer : (w : Rows) (c o : ℕ) (export_order : Option ℕ)
    → IsLonger w (record w { holds = with_handle_row w c o export_order })
longer w c o export_order =
    inr
    (inr (inr (inl (omega (arith, length-append w.holds (record { client = c; handle = unwrap_or (free_handle w c) 0; object = o; export_order = export_order } ∷ []))))))
