-- Made by tools/worked_rows.py: worked rows, as the definitions compute them. Mode objects, framebuffers and what is shown.
use Rattle.std.proofs.Common.{◌≡◌, true, false, List, ◌∷◌, map, Result, Ok, refl, []}
use Rattle.drm_table.specs.declared.answers.Answer.{Answer}
use Rattle.drm_table.specs.declared.answers.Answer.TheVariants.{Done, Opened, Number, Dumb, Resources, Plane, Framebuffer, List as ListIs, Audit as AuditIs, Closed, Denied}
use Rattle.drm_table.specs.declared.apart.Apart.{Apart}
use Rattle.drm_table.specs.declared.rules.Rule.TheVariants.{BadRoute as DeniedBadRoute, BadSize as DeniedBadSize, Full as DeniedFull, Master as DeniedMaster, NoFb as DeniedNoFb, NoHandle as DeniedNoHandle, NoModeObject as DeniedNoModeObject, NoName as DeniedNoName, RenderAllow as DeniedRenderAllow}
use Rattle.drm_table.specs.declared.calls.Call.TheVariants.{GemClose, GemFlink, GemOpen, DropMaster, PrimeHandleToFd, StampWrite, StampRead, ListHandles, Audit, GetResources, GetCrtc, SetCrtc, GetEncoder, GetConnector, GetFb, AddFb, RmFb, CreateDumb, DestroyDumb, GetPlaneResources, GetPlane, SetPlane}
use Rattle.drm_table.specs.declared.events.Event.{Event}
use Rattle.drm_table.specs.declared.events.Event.TheVariants.{Open, Ask, Close}
use Rattle.drm_table.specs.declared.events.Opening.TheVariants.{Primary, Render}
use Rattle.drm_table.specs.declared.limits.Limits.{Limits}
use Rattle.drm_table.specs.declared.audits.AuditKind.TheVariants.{Object as OfObject, Framebuffer as OfFramebuffer, Shown as OfShown}
use Rattle.drm_index_array.specs.Chains.{chain_within}
use Rattle.drm_index_array.specs.Least.{first_passing, least}
use Rattle.drm_index_array.specs.Orders.{sorted_by}
use Rattle.drm_modes.specs.Numbers.{numbers_from}
use Rattle.drm_table.specs.Answers.{answer_kind_row, told, answer_with, answer_kind_of}
use Rattle.drm_table.specs.Audits.{kind_number, kind_of, kind_name}
use Rattle.drm_table.specs.Limits.{are_in_range}
use Rattle.drm_table.specs.Rules.{rule_of_number, apart_of_number}
use Rattle.drm_table.specs.Table.{kind_row, call_row, call_with, call_kind_of, call_kind_of_word, row_of, call_number, flags_of}
use Rattle.drm_model.specs.Audit.{audit_rows, audit_page}
use Rattle.drm_model.specs.Buffers.{dumb_pitch, dumb_size, buffer_size, with_object, with_stamp}
use Rattle.drm_model.specs.Calls.{meaning}
use Rattle.drm_model.specs.Capabilities.{with_client_capability}
use Rattle.drm_model.specs.Change.{changed, swept, after}
use Rattle.drm_model.specs.Clients.{opening_checks, opened, closed}
use Rattle.drm_model.specs.Leases.{ended}
use Rattle.drm_model.specs.Magics.{with_spent, with_authenticated, with_master}
use Rattle.drm_model.specs.Parts.{count_in}
use Rattle.drm_model.specs.Reply.{answer_of, reply}
use Rattle.drm_model.specs.Results.{results}
use Rattle.drm_model.specs.Run.{no_room, run, rows_of}
use Rattle.drm_model.specs.Sees.{controls, sees}
use Rattle.drm_model.specs.Sharing.{with_export_order, prime_handle}
use Rattle.drm_model.specs.Verdict.{admission_checks, checks, verdict}
use Rattle.drm_model.specs.Audit.{audit_row}
use Rattle.drm_model.specs.Rows.{empty_rows}
use Rattle.drm_modes.specs.declared.kinds.PlaneKind.TheVariants.{Overlay as OverlayPlane, Primary as PrimaryPlane}
use Rattle.drm_modes.specs.Topology.{Topology}

abbrev test_topology : Topology
test_topology = record { crtcs = 2; planes = 1 ∷ 2 ∷ []; kinds = PrimaryPlane 1 ∷ OverlayPlane ∷ []; encoders = 3 ∷ 2 ∷ []; connectors = 5 ∷ 6 ∷ [] }

abbrev program_limits : Limits
program_limits = record { clients = 64; handles = 65535; names = 65535; tokens = 65535; objects = 65535; framebuffers = 64; lessees = 64; journal = 100000 }

-- on a new device of these limits each event gets its answer
abbrev Gives : Limits → List (Event × Result Answer Apart) → Type 0
Gives limits steps = results (empty_rows test_topology limits) (map (λ step. step.0) steps) ≡ map (λ step. step.1) steps

abbrev framebuffers_are_shown_on_crtcs-steps : List (Event × Result Answer Apart)
framebuffers_are_shown_on_crtcs-steps =
    (Open (Primary false true), Ok (Opened 1)) ∷
    (Ask 1 (CreateDumb 64 64 32), Ok (Dumb 1 256 16384)) ∷
    (Ask 1 (AddFb 64 64 256 32 1), Ok (Number 9)) ∷
    (Ask 1 (AddFb 64 65 256 32 1), Ok (Denied DeniedBadSize)) ∷
    (Ask 1 (SetCrtc 1 9 7), Ok Done) ∷
    (Ask 1 (SetCrtc 1 9 8), Ok (Denied DeniedBadRoute)) ∷
    (Ask 1 (GetCrtc 1), Ok (Number 9)) ∷
    (Ask 1 (GemClose 1), Ok Done) ∷
    (Open (Primary false true), Ok (Opened 9)) ∷
    (Ask 9 (GetFb 9), Ok (Framebuffer 64 64 256 32 0)) ∷
    (Ask 1 (GetFb 9), Ok (Framebuffer 64 64 256 32 1)) ∷
    (Ask 9 (RmFb 9), Ok (Denied DeniedNoFb)) ∷
    (Ask 1 (SetPlane 4 1 9), Ok (Denied DeniedBadRoute)) ∷
    (Ask 1 (RmFb 9), Ok Done) ∷
    (Ask 1 (GetCrtc 1), Ok (Number 0)) ∷
    (Ask 1 (GetFb 9), Ok (Denied DeniedNoFb)) ∷
    []

pub framebuffers_are_shown_on_crtcs : Gives program_limits framebuffers_are_shown_on_crtcs-steps
unfolding chain_within first_passing least sorted_by numbers_from answer_kind_row told answer_with answer_kind_of kind_number kind_of kind_name are_in_range rule_of_number apart_of_number kind_row call_row call_with call_kind_of call_kind_of_word row_of call_number flags_of audit_rows audit_page dumb_pitch dumb_size buffer_size with_object with_stamp meaning with_client_capability changed swept after opening_checks opened closed ended with_spent with_authenticated with_master count_in answer_of reply results no_room run rows_of controls sees with_export_order prime_handle admission_checks checks verdict
framebuffers_are_shown_on_crtcs = refl

abbrev mode_objects_and_what_planes_show-steps : List (Event × Result Answer Apart)
mode_objects_and_what_planes_show-steps =
    (Open (Primary false true), Ok (Opened 1)) ∷
    (Ask 1 GetResources, Ok (Resources (1 ∷ 2 ∷ []) (7 ∷ 8 ∷ []) (5 ∷ 6 ∷ []) ([]))) ∷
    (Ask 1 GetPlaneResources, Ok (ListIs (3 ∷ 4 ∷ []))) ∷
    (Ask 1 (GetEncoder 6), Ok (Number 2)) ∷
    (Ask 1 (GetConnector 7), Ok (Number 5)) ∷
    (Ask 1 (GetCrtc 7), Ok (Denied DeniedNoModeObject)) ∷
    (Ask 1 (CreateDumb 64 64 32), Ok (Dumb 1 256 16384)) ∷
    (Ask 1 (AddFb 64 64 256 32 1), Ok (Number 9)) ∷
    (Ask 1 (SetPlane 3 1 9), Ok Done) ∷
    (Ask 1 (GetPlane 3), Ok (Plane 9 1)) ∷
    (Ask 1 (DestroyDumb 1), Ok Done) ∷
    (Ask 1 (GetPlane 3), Ok (Plane 9 1)) ∷
    (Ask 1 (SetPlane 3 99 0), Ok Done) ∷
    (Ask 1 (GetPlane 3), Ok (Plane 0 1)) ∷
    []

pub mode_objects_and_what_planes_show : Gives program_limits mode_objects_and_what_planes_show-steps
unfolding chain_within first_passing least sorted_by numbers_from answer_kind_row told answer_with answer_kind_of kind_number kind_of kind_name are_in_range rule_of_number apart_of_number kind_row call_row call_with call_kind_of call_kind_of_word row_of call_number flags_of audit_rows audit_page dumb_pitch dumb_size buffer_size with_object with_stamp meaning with_client_capability changed swept after opening_checks opened closed ended with_spent with_authenticated with_master count_in answer_of reply results no_room run rows_of controls sees with_export_order prime_handle admission_checks checks verdict
mode_objects_and_what_planes_show = refl

abbrev mode_objects_are_of_their_kinds-steps : List (Event × Result Answer Apart)
mode_objects_are_of_their_kinds-steps =
    (Open (Primary false true), Ok (Opened 1)) ∷
    (Ask 1 (GetCrtc 0), Ok (Denied DeniedNoModeObject)) ∷
    (Ask 1 (GetCrtc 3), Ok (Denied DeniedNoModeObject)) ∷
    (Ask 1 (GetPlane 2), Ok (Denied DeniedNoModeObject)) ∷
    (Ask 1 (GetPlane 5), Ok (Denied DeniedNoModeObject)) ∷
    (Ask 1 (GetEncoder 4), Ok (Denied DeniedNoModeObject)) ∷
    (Ask 1 (GetEncoder 7), Ok (Denied DeniedNoModeObject)) ∷
    (Ask 1 (GetConnector 6), Ok (Denied DeniedNoModeObject)) ∷
    (Ask 1 (GetConnector 9), Ok (Denied DeniedNoModeObject)) ∷
    (Ask 1 (GetPlane 4), Ok (Plane 0 2)) ∷
    (Ask 1 (GetEncoder 5), Ok (Number 3)) ∷
    (Ask 1 (GetConnector 8), Ok (Number 6)) ∷
    (Ask 1 (GetCrtc 2), Ok (Number 0)) ∷
    []

pub mode_objects_are_of_their_kinds : Gives program_limits mode_objects_are_of_their_kinds-steps
unfolding chain_within first_passing least sorted_by numbers_from answer_kind_row told answer_with answer_kind_of kind_number kind_of kind_name are_in_range rule_of_number apart_of_number kind_row call_row call_with call_kind_of call_kind_of_word row_of call_number flags_of audit_rows audit_page dumb_pitch dumb_size buffer_size with_object with_stamp meaning with_client_capability changed swept after opening_checks opened closed ended with_spent with_authenticated with_master count_in answer_of reply results no_room run rows_of controls sees with_export_order prime_handle admission_checks checks verdict
mode_objects_are_of_their_kinds = refl

abbrev mode_objects_of_guests_and_render_clients-steps : List (Event × Result Answer Apart)
mode_objects_of_guests_and_render_clients-steps =
    (Open (Primary false true), Ok (Opened 1)) ∷
    (Open (Primary false true), Ok (Opened 2)) ∷
    (Open Render, Ok (Opened 3)) ∷
    (Ask 2 GetResources, Ok (Resources (1 ∷ 2 ∷ []) (7 ∷ 8 ∷ []) (5 ∷ 6 ∷ []) ([]))) ∷
    (Ask 2 GetPlaneResources, Ok (ListIs (3 ∷ 4 ∷ []))) ∷
    (Ask 2 (GetEncoder 5), Ok (Number 3)) ∷
    (Ask 2 (GetCrtc 2), Ok (Number 0)) ∷
    (Ask 2 (SetCrtc 2 0 0), Ok (Denied DeniedMaster)) ∷
    (Ask 2 (SetPlane 3 1 0), Ok (Denied DeniedMaster)) ∷
    (Ask 3 GetResources, Ok (Denied DeniedRenderAllow)) ∷
    (Ask 3 (GetFb 9), Ok (Denied DeniedRenderAllow)) ∷
    (Ask 3 (AddFb 1 1 4 32 1), Ok (Denied DeniedRenderAllow)) ∷
    (Ask 3 (SetPlane 3 1 0), Ok (Denied DeniedMaster)) ∷
    (Ask 1 DropMaster, Ok Done) ∷
    (Ask 1 (SetCrtc 2 0 0), Ok (Denied DeniedMaster)) ∷
    (Ask 1 GetPlaneResources, Ok (ListIs (3 ∷ 4 ∷ []))) ∷
    []

pub mode_objects_of_guests_and_render_clients : Gives program_limits mode_objects_of_guests_and_render_clients-steps
unfolding chain_within first_passing least sorted_by numbers_from answer_kind_row told answer_with answer_kind_of kind_number kind_of kind_name are_in_range rule_of_number apart_of_number kind_row call_row call_with call_kind_of call_kind_of_word row_of call_number flags_of audit_rows audit_page dumb_pitch dumb_size buffer_size with_object with_stamp meaning with_client_capability changed swept after opening_checks opened closed ended with_spent with_authenticated with_master count_in answer_of reply results no_room run rows_of controls sees with_export_order prime_handle admission_checks checks verdict
mode_objects_of_guests_and_render_clients = refl

abbrev framebuffers_are_their_clients_to_remove-steps : List (Event × Result Answer Apart)
framebuffers_are_their_clients_to_remove-steps =
    (Open (Primary false true), Ok (Opened 1)) ∷
    (Open (Primary false true), Ok (Opened 2)) ∷
    (Ask 2 (CreateDumb 1 1 32), Ok (Dumb 1 64 4096)) ∷
    (Ask 2 (AddFb 1 1 4 32 1), Ok (Number 9)) ∷
    (Ask 1 (RmFb 9), Ok (Denied DeniedNoFb)) ∷
    (Ask 1 GetResources, Ok (Resources (1 ∷ 2 ∷ []) (7 ∷ 8 ∷ []) (5 ∷ 6 ∷ []) ([]))) ∷
    (Ask 2 GetResources, Ok (Resources (1 ∷ 2 ∷ []) (7 ∷ 8 ∷ []) (5 ∷ 6 ∷ []) (9 ∷ []))) ∷
    (Ask 2 (RmFb 8), Ok (Denied DeniedNoFb)) ∷
    (Ask 2 (RmFb 10), Ok (Denied DeniedNoFb)) ∷
    (Ask 2 (RmFb 9), Ok Done) ∷
    (Ask 2 (RmFb 9), Ok (Denied DeniedNoFb)) ∷
    (Ask 2 GetResources, Ok (Resources (1 ∷ 2 ∷ []) (7 ∷ 8 ∷ []) (5 ∷ 6 ∷ []) ([]))) ∷
    []

pub framebuffers_are_their_clients_to_remove : Gives program_limits framebuffers_are_their_clients_to_remove-steps
unfolding chain_within first_passing least sorted_by numbers_from answer_kind_row told answer_with answer_kind_of kind_number kind_of kind_name are_in_range rule_of_number apart_of_number kind_row call_row call_with call_kind_of call_kind_of_word row_of call_number flags_of audit_rows audit_page dumb_pitch dumb_size buffer_size with_object with_stamp meaning with_client_capability changed swept after opening_checks opened closed ended with_spent with_authenticated with_master count_in answer_of reply results no_room run rows_of controls sees with_export_order prime_handle admission_checks checks verdict
framebuffers_are_their_clients_to_remove = refl

abbrev what_is_shown_goes_dark-steps : List (Event × Result Answer Apart)
what_is_shown_goes_dark-steps =
    (Open (Primary false true), Ok (Opened 1)) ∷
    (Open (Primary false true), Ok (Opened 2)) ∷
    (Ask 2 (CreateDumb 64 64 32), Ok (Dumb 1 256 16384)) ∷
    (Ask 2 (AddFb 64 64 256 32 1), Ok (Number 9)) ∷
    (Ask 2 (AddFb 64 64 256 32 1), Ok (Number 10)) ∷
    (Ask 1 (SetCrtc 1 9 7), Ok Done) ∷
    (Ask 1 (SetCrtc 2 10 8), Ok Done) ∷
    (Ask 1 (SetPlane 3 1 9), Ok Done) ∷
    (Ask 1 (SetPlane 4 2 10), Ok Done) ∷
    (Ask 2 (RmFb 9), Ok Done) ∷
    (Ask 1 (GetCrtc 1), Ok (Number 0)) ∷
    (Ask 1 (GetPlane 3), Ok (Plane 0 1)) ∷
    (Ask 1 (GetCrtc 2), Ok (Number 10)) ∷
    (Ask 1 (GetPlane 4), Ok (Plane 10 2)) ∷
    (Close 2, Ok Closed) ∷
    (Ask 1 (GetCrtc 2), Ok (Number 0)) ∷
    (Ask 1 (GetPlane 4), Ok (Plane 0 2)) ∷
    (Ask 1 (GetFb 10), Ok (Denied DeniedNoFb)) ∷
    []

pub what_is_shown_goes_dark : Gives program_limits what_is_shown_goes_dark-steps
unfolding chain_within first_passing least sorted_by numbers_from answer_kind_row told answer_with answer_kind_of kind_number kind_of kind_name are_in_range rule_of_number apart_of_number kind_row call_row call_with call_kind_of call_kind_of_word row_of call_number flags_of audit_rows audit_page dumb_pitch dumb_size buffer_size with_object with_stamp meaning with_client_capability changed swept after opening_checks opened closed ended with_spent with_authenticated with_master count_in answer_of reply results no_room run rows_of controls sees with_export_order prime_handle admission_checks checks verdict
what_is_shown_goes_dark = refl

abbrev planes_go_dark_on_any_crtc-steps : List (Event × Result Answer Apart)
planes_go_dark_on_any_crtc-steps =
    (Open (Primary false true), Ok (Opened 1)) ∷
    (Ask 1 (CreateDumb 64 64 32), Ok (Dumb 1 256 16384)) ∷
    (Ask 1 (AddFb 64 64 256 32 1), Ok (Number 9)) ∷
    (Ask 1 (SetPlane 3 1 9), Ok Done) ∷
    (Ask 1 (SetPlane 3 99 9), Ok (Denied DeniedNoModeObject)) ∷
    (Ask 1 (SetPlane 3 99 77), Ok (Denied DeniedNoModeObject)) ∷
    (Ask 1 (SetPlane 3 2 77), Ok (Denied DeniedNoFb)) ∷
    (Ask 1 (SetPlane 3 2 9), Ok (Denied DeniedBadRoute)) ∷
    (Ask 1 (SetPlane 1 1 9), Ok (Denied DeniedNoModeObject)) ∷
    (Ask 1 (SetPlane 9 1 0), Ok (Denied DeniedNoModeObject)) ∷
    (Ask 1 (GetPlane 3), Ok (Plane 9 1)) ∷
    (Ask 1 (SetPlane 3 99 0), Ok Done) ∷
    (Ask 1 (GetPlane 3), Ok (Plane 0 1)) ∷
    (Ask 1 (SetPlane 3 1 0), Ok Done) ∷
    (Ask 1 (SetPlane 4 2 9), Ok Done) ∷
    (Ask 1 (SetPlane 4 2 9), Ok Done) ∷
    (Ask 1 (GetPlane 4), Ok (Plane 9 2)) ∷
    []

pub planes_go_dark_on_any_crtc : Gives program_limits planes_go_dark_on_any_crtc-steps
unfolding chain_within first_passing least sorted_by numbers_from answer_kind_row told answer_with answer_kind_of kind_number kind_of kind_name are_in_range rule_of_number apart_of_number kind_row call_row call_with call_kind_of call_kind_of_word row_of call_number flags_of audit_rows audit_page dumb_pitch dumb_size buffer_size with_object with_stamp meaning with_client_capability changed swept after opening_checks opened closed ended with_spent with_authenticated with_master count_in answer_of reply results no_room run rows_of controls sees with_export_order prime_handle admission_checks checks verdict
planes_go_dark_on_any_crtc = refl

abbrev crtcs_want_a_framebuffer_and_a_connector-steps : List (Event × Result Answer Apart)
crtcs_want_a_framebuffer_and_a_connector-steps =
    (Open (Primary false true), Ok (Opened 1)) ∷
    (Ask 1 (CreateDumb 64 64 32), Ok (Dumb 1 256 16384)) ∷
    (Ask 1 (AddFb 64 64 256 32 1), Ok (Number 9)) ∷
    (Ask 1 (SetCrtc 7 0 0), Ok (Denied DeniedNoModeObject)) ∷
    (Ask 1 (SetCrtc 1 77 99), Ok (Denied DeniedNoModeObject)) ∷
    (Ask 1 (SetCrtc 1 77 8), Ok (Denied DeniedNoFb)) ∷
    (Ask 1 (SetCrtc 1 77 0), Ok (Denied DeniedNoFb)) ∷
    (Ask 1 (SetCrtc 1 9 8), Ok (Denied DeniedBadRoute)) ∷
    (Ask 1 (SetCrtc 1 9 0), Ok (Denied DeniedBadRoute)) ∷
    (Ask 1 (SetCrtc 1 0 99), Ok (Denied DeniedNoModeObject)) ∷
    (Ask 1 (SetCrtc 1 0 7), Ok (Denied DeniedBadRoute)) ∷
    (Ask 1 (GetCrtc 1), Ok (Number 0)) ∷
    (Ask 1 (SetCrtc 1 9 7), Ok Done) ∷
    (Ask 1 (SetCrtc 2 9 7), Ok Done) ∷
    (Ask 1 (GetCrtc 2), Ok (Number 9)) ∷
    (Ask 1 (SetCrtc 1 0 0), Ok Done) ∷
    (Ask 1 (GetCrtc 1), Ok (Number 0)) ∷
    (Ask 1 (GetCrtc 2), Ok (Number 9)) ∷
    []

pub crtcs_want_a_framebuffer_and_a_connector : Gives program_limits crtcs_want_a_framebuffer_and_a_connector-steps
unfolding chain_within first_passing least sorted_by numbers_from answer_kind_row told answer_with answer_kind_of kind_number kind_of kind_name are_in_range rule_of_number apart_of_number kind_row call_row call_with call_kind_of call_kind_of_word row_of call_number flags_of audit_rows audit_page dumb_pitch dumb_size buffer_size with_object with_stamp meaning with_client_capability changed swept after opening_checks opened closed ended with_spent with_authenticated with_master count_in answer_of reply results no_room run rows_of controls sees with_export_order prime_handle admission_checks checks verdict
crtcs_want_a_framebuffer_and_a_connector = refl

abbrev framebuffers_fit_their_objects-steps : List (Event × Result Answer Apart)
framebuffers_fit_their_objects-steps =
    (Open (Primary false true), Ok (Opened 1)) ∷
    (Ask 1 (CreateDumb 64 64 32), Ok (Dumb 1 256 16384)) ∷
    (Ask 1 (AddFb 64 64 255 32 1), Ok (Denied DeniedBadSize)) ∷
    (Ask 1 (AddFb 64 65 256 32 1), Ok (Denied DeniedBadSize)) ∷
    (Ask 1 (AddFb 64 64 257 32 1), Ok (Denied DeniedBadSize)) ∷
    (Ask 1 (AddFb 0 64 256 32 1), Ok (Denied DeniedBadSize)) ∷
    (Ask 1 (AddFb 64 0 256 32 1), Ok (Denied DeniedBadSize)) ∷
    (Ask 1 (AddFb 64 64 256 0 1), Ok (Denied DeniedBadSize)) ∷
    (Ask 1 (AddFb 1 1 16 65 1), Ok (Denied DeniedBadSize)) ∷
    (Ask 1 (AddFb 65536 1 65536 8 1), Ok (Denied DeniedBadSize)) ∷
    (Ask 1 (AddFb 0 0 0 0 2), Ok (Denied DeniedNoHandle)) ∷
    (Ask 1 (AddFb 64 64 256 25 1), Ok (Number 9)) ∷
    (Ask 1 (AddFb 64 64 255 24 1), Ok (Number 10)) ∷
    (Ask 1 (GetFb 10), Ok (Framebuffer 64 64 255 24 2)) ∷
    (Ask 1 (AddFb 16384 1 16384 8 1), Ok (Number 11)) ∷
    (Ask 1 (AddFb 1 16384 1 1 1), Ok (Number 12)) ∷
    []

pub framebuffers_fit_their_objects : Gives program_limits framebuffers_fit_their_objects-steps
unfolding chain_within first_passing least sorted_by numbers_from answer_kind_row told answer_with answer_kind_of kind_number kind_of kind_name are_in_range rule_of_number apart_of_number kind_row call_row call_with call_kind_of call_kind_of_word row_of call_number flags_of audit_rows audit_page dumb_pitch dumb_size buffer_size with_object with_stamp meaning with_client_capability changed swept after opening_checks opened closed ended with_spent with_authenticated with_master count_in answer_of reply results no_room run rows_of controls sees with_export_order prime_handle admission_checks checks verdict
framebuffers_fit_their_objects = refl

abbrev framebuffer_ids_are_the_lowest_free-steps : List (Event × Result Answer Apart)
framebuffer_ids_are_the_lowest_free-steps =
    (Open (Primary false true), Ok (Opened 1)) ∷
    (Ask 1 (CreateDumb 1 1 32), Ok (Dumb 1 64 4096)) ∷
    (Ask 1 (AddFb 1 1 4 32 1), Ok (Number 9)) ∷
    (Ask 1 (AddFb 1 1 4 32 1), Ok (Number 10)) ∷
    (Ask 1 (AddFb 1 1 4 32 1), Ok (Number 11)) ∷
    (Ask 1 (RmFb 9), Ok Done) ∷
    (Ask 1 GetResources, Ok (Resources (1 ∷ 2 ∷ []) (7 ∷ 8 ∷ []) (5 ∷ 6 ∷ []) (10 ∷ 11 ∷ []))) ∷
    (Ask 1 (AddFb 1 1 4 32 1), Ok (Number 9)) ∷
    (Ask 1 GetResources, Ok (Resources (1 ∷ 2 ∷ []) (7 ∷ 8 ∷ []) (5 ∷ 6 ∷ []) (9 ∷ 10 ∷ 11 ∷ []))) ∷
    (Ask 1 (AddFb 1 1 4 32 1), Ok (Number 12)) ∷
    []

pub framebuffer_ids_are_the_lowest_free : Gives program_limits framebuffer_ids_are_the_lowest_free-steps
unfolding chain_within first_passing least sorted_by numbers_from answer_kind_row told answer_with answer_kind_of kind_number kind_of kind_name are_in_range rule_of_number apart_of_number kind_row call_row call_with call_kind_of call_kind_of_word row_of call_number flags_of audit_rows audit_page dumb_pitch dumb_size buffer_size with_object with_stamp meaning with_client_capability changed swept after opening_checks opened closed ended with_spent with_authenticated with_master count_in answer_of reply results no_room run rows_of controls sees with_export_order prime_handle admission_checks checks verdict
framebuffer_ids_are_the_lowest_free = refl

abbrev framebuffers_keep_objects-steps : List (Event × Result Answer Apart)
framebuffers_keep_objects-steps =
    (Open (Primary true true), Ok (Opened 1)) ∷
    (Ask 1 (CreateDumb 64 64 32), Ok (Dumb 1 256 16384)) ∷
    (Ask 1 (GemFlink 1), Ok (Number 1)) ∷
    (Ask 1 (AddFb 64 64 256 32 1), Ok (Number 9)) ∷
    (Ask 1 (GemClose 1), Ok Done) ∷
    (Ask 1 (GemOpen 1), Ok (Denied DeniedNoName)) ∷
    (Ask 1 (Audit OfObject 0), Ok (AuditIs ((audit_row 2 16384 0 1) ∷ []))) ∷
    (Ask 1 (GetFb 9), Ok (Framebuffer 64 64 256 32 1)) ∷
    (Ask 1 (StampWrite 1 77), Ok Done) ∷
    (Ask 1 (GemClose 1), Ok Done) ∷
    (Ask 1 (GetFb 9), Ok (Framebuffer 64 64 256 32 1)) ∷
    (Ask 1 (StampRead 1), Ok (Number 77)) ∷
    (Ask 1 (GemClose 1), Ok Done) ∷
    (Ask 1 (RmFb 9), Ok Done) ∷
    (Ask 1 (Audit OfObject 0), Ok (AuditIs ([]))) ∷
    []

pub framebuffers_keep_objects : Gives program_limits framebuffers_keep_objects-steps
unfolding chain_within first_passing least sorted_by numbers_from answer_kind_row told answer_with answer_kind_of kind_number kind_of kind_name are_in_range rule_of_number apart_of_number kind_row call_row call_with call_kind_of call_kind_of_word row_of call_number flags_of audit_rows audit_page dumb_pitch dumb_size buffer_size with_object with_stamp meaning with_client_capability changed swept after opening_checks opened closed ended with_spent with_authenticated with_master count_in answer_of reply results no_room run rows_of controls sees with_export_order prime_handle admission_checks checks verdict
framebuffers_keep_objects = refl

abbrev framebuffers_are_limited-steps : List (Event × Result Answer Apart)
framebuffers_are_limited-steps =
    (Open (Primary false true), Ok (Opened 1)) ∷
    (Open (Primary false true), Ok (Opened 2)) ∷
    (Ask 1 (CreateDumb 1 1 32), Ok (Dumb 1 64 4096)) ∷
    (Ask 2 (CreateDumb 1 1 32), Ok (Dumb 1 64 4096)) ∷
    (Ask 1 (AddFb 1 1 4 32 1), Ok (Number 9)) ∷
    (Ask 2 (AddFb 1 1 4 32 1), Ok (Number 10)) ∷
    (Ask 1 (AddFb 1 1 4 32 1), Ok (Denied DeniedFull)) ∷
    (Ask 1 (AddFb 1 1 3 32 1), Ok (Denied DeniedBadSize)) ∷
    (Ask 2 (RmFb 10), Ok Done) ∷
    (Ask 1 (AddFb 1 1 4 32 1), Ok (Number 10)) ∷
    (Ask 1 (GetFb 9), Ok (Framebuffer 1 1 4 32 2)) ∷
    (Ask 1 (GetFb 9), Ok (Denied DeniedFull)) ∷
    (Ask 1 (GetFb 11), Ok (Denied DeniedNoFb)) ∷
    (Ask 2 (CreateDumb 1 1 32), Ok (Dumb 2 64 4096)) ∷
    (Ask 2 (GetFb 9), Ok (Framebuffer 1 1 4 32 0)) ∷
    []

pub framebuffers_are_limited : Gives (record { clients = 4; handles = 2; names = 8; tokens = 8; objects = 8; framebuffers = 2; lessees = 4; journal = 50 }) framebuffers_are_limited-steps
unfolding chain_within first_passing least sorted_by numbers_from answer_kind_row told answer_with answer_kind_of kind_number kind_of kind_name are_in_range rule_of_number apart_of_number kind_row call_row call_with call_kind_of call_kind_of_word row_of call_number flags_of audit_rows audit_page dumb_pitch dumb_size buffer_size with_object with_stamp meaning with_client_capability changed swept after opening_checks opened closed ended with_spent with_authenticated with_master count_in answer_of reply results no_room run rows_of controls sees with_export_order prime_handle admission_checks checks verdict
framebuffers_are_limited = refl

abbrev framebuffers_give_handles_to_current_and_root_clients-steps : List (Event × Result Answer Apart)
framebuffers_give_handles_to_current_and_root_clients-steps =
    (Open (Primary false true), Ok (Opened 1)) ∷
    (Open (Primary false true), Ok (Opened 2)) ∷
    (Open (Primary true true), Ok (Opened 3)) ∷
    (Ask 2 (CreateDumb 1 1 32), Ok (Dumb 1 64 4096)) ∷
    (Ask 2 (StampWrite 1 5), Ok Done) ∷
    (Ask 2 (AddFb 1 1 4 32 1), Ok (Number 9)) ∷
    (Ask 2 (GetFb 9), Ok (Framebuffer 1 1 4 32 0)) ∷
    (Ask 2 (ListHandles 0), Ok (ListIs (1 ∷ []))) ∷
    (Ask 3 (GetFb 9), Ok (Framebuffer 1 1 4 32 1)) ∷
    (Ask 3 (GetFb 9), Ok (Framebuffer 1 1 4 32 2)) ∷
    (Ask 3 (StampRead 2), Ok (Number 5)) ∷
    (Ask 1 (GetFb 9), Ok (Framebuffer 1 1 4 32 1)) ∷
    (Ask 1 DropMaster, Ok Done) ∷
    (Ask 1 (GetFb 9), Ok (Framebuffer 1 1 4 32 0)) ∷
    (Ask 1 (ListHandles 0), Ok (ListIs (1 ∷ []))) ∷
    (Ask 3 (GetFb 9), Ok (Framebuffer 1 1 4 32 3)) ∷
    []

pub framebuffers_give_handles_to_current_and_root_clients : Gives program_limits framebuffers_give_handles_to_current_and_root_clients-steps
unfolding chain_within first_passing least sorted_by numbers_from answer_kind_row told answer_with answer_kind_of kind_number kind_of kind_name are_in_range rule_of_number apart_of_number kind_row call_row call_with call_kind_of call_kind_of_word row_of call_number flags_of audit_rows audit_page dumb_pitch dumb_size buffer_size with_object with_stamp meaning with_client_capability changed swept after opening_checks opened closed ended with_spent with_authenticated with_master count_in answer_of reply results no_room run rows_of controls sees with_export_order prime_handle admission_checks checks verdict
framebuffers_give_handles_to_current_and_root_clients = refl

abbrev audits_of_framebuffers_and_what_is_shown-steps : List (Event × Result Answer Apart)
audits_of_framebuffers_and_what_is_shown-steps =
    (Open (Primary true true), Ok (Opened 1)) ∷
    (Open (Primary false true), Ok (Opened 2)) ∷
    (Ask 2 (CreateDumb 1 1 32), Ok (Dumb 1 64 4096)) ∷
    (Ask 1 (CreateDumb 1 1 32), Ok (Dumb 1 64 4096)) ∷
    (Ask 2 (AddFb 1 1 4 32 1), Ok (Number 9)) ∷
    (Ask 1 (AddFb 1 1 4 32 1), Ok (Number 10)) ∷
    (Ask 1 (PrimeHandleToFd 1), Ok (Number 1)) ∷
    (Ask 1 (SetPlane 4 2 9), Ok Done) ∷
    (Ask 1 (SetCrtc 2 10 8), Ok Done) ∷
    (Ask 1 (SetCrtc 1 9 7), Ok Done) ∷
    (Ask 1 (Audit OfFramebuffer 0), Ok (AuditIs ((audit_row 9 2 3 0) ∷ (audit_row 10 1 4 0) ∷ []))) ∷
    (Ask 1 (Audit OfShown 0), Ok (AuditIs ((audit_row 1 9 0 0) ∷ (audit_row 2 10 0 0) ∷ (audit_row 4 9 0 0) ∷ []))) ∷
    (Ask 1 (Audit OfShown 1), Ok (AuditIs ((audit_row 2 10 0 0) ∷ (audit_row 4 9 0 0) ∷ []))) ∷
    (Ask 1 (Audit OfObject 0), Ok (AuditIs ((audit_row 3 4096 1 1) ∷ (audit_row 4 4096 1 2) ∷ []))) ∷
    (Close 2, Ok Closed) ∷
    (Ask 1 (Audit OfFramebuffer 0), Ok (AuditIs ((audit_row 10 1 4 0) ∷ []))) ∷
    (Ask 1 (Audit OfShown 0), Ok (AuditIs ((audit_row 2 10 0 0) ∷ []))) ∷
    (Ask 1 (Audit OfObject 0), Ok (AuditIs ((audit_row 4 4096 1 2) ∷ []))) ∷
    []

pub audits_of_framebuffers_and_what_is_shown : Gives program_limits audits_of_framebuffers_and_what_is_shown-steps
unfolding chain_within first_passing least sorted_by numbers_from answer_kind_row told answer_with answer_kind_of kind_number kind_of kind_name are_in_range rule_of_number apart_of_number kind_row call_row call_with call_kind_of call_kind_of_word row_of call_number flags_of audit_rows audit_page dumb_pitch dumb_size buffer_size with_object with_stamp meaning with_client_capability changed swept after opening_checks opened closed ended with_spent with_authenticated with_master count_in answer_of reply results no_room run rows_of controls sees with_export_order prime_handle admission_checks checks verdict
audits_of_framebuffers_and_what_is_shown = refl
