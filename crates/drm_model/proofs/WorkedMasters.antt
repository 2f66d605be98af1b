-- Made by tools/worked_rows.py: worked rows, as the definitions compute them. Masters and magics.
use Rattle.std.proofs.Common.{◌≡◌, true, false, List, ◌∷◌, map, Result, Ok, refl, []}
use Rattle.drm_table.specs.declared.answers.Answer.{Answer}
use Rattle.drm_table.specs.declared.answers.Answer.TheVariants.{Done, Opened, Number, Audit as AuditIs, Closed, Denied}
use Rattle.drm_table.specs.declared.apart.Apart.{Apart}
use Rattle.drm_table.specs.declared.rules.Rule.TheVariants.{Auth as DeniedAuth, Master as DeniedMaster, MasterBusy as DeniedMasterBusy, MasterPerm as DeniedMasterPerm, NoHandle as DeniedNoHandle, NoMagic as DeniedNoMagic, NotCurrent as DeniedNotCurrent, RenderAllow as DeniedRenderAllow}
use Rattle.drm_table.specs.declared.calls.Call.TheVariants.{GetMagic, GemFlink, AuthMagic, SetMaster, DropMaster, Audit}
use Rattle.drm_table.specs.declared.events.Event.{Event}
use Rattle.drm_table.specs.declared.events.Event.TheVariants.{Open, Ask, Close}
use Rattle.drm_table.specs.declared.events.Opening.TheVariants.{Primary, Render}
use Rattle.drm_table.specs.declared.limits.Limits.{Limits}
use Rattle.drm_table.specs.declared.audits.AuditKind.TheVariants.{Client as OfClient, Master as OfMaster, Device as OfDevice}
use Rattle.drm_index_array.specs.Chains.{chain_within}
use Rattle.drm_index_array.specs.Least.{first_passing, least}
use Rattle.drm_index_array.specs.Orders.{sorted_by}
use Rattle.drm_modes.specs.Numbers.{numbers_from}
use Rattle.drm_table.specs.Answers.{answer_kind_row, told, answer_with, answer_kind_of}
use Rattle.drm_table.specs.Audits.{kind_number, kind_of, kind_name}
use Rattle.drm_table.specs.Limits.{are_in_range}
use Rattle.drm_table.specs.Rules.{rule_of_number, apart_of_number}
use Rattle.drm_table.specs.Table.{kind_row, call_row, call_with, call_kind_of, call_kind_of_word, row_of, call_number, flags_of}
use Rattle.drm_model.specs.Audit.{audit_rows, audit_page}
use Rattle.drm_model.specs.Buffers.{dumb_pitch, dumb_size, buffer_size, with_object, with_stamp}
use Rattle.drm_model.specs.Calls.{meaning}
use Rattle.drm_model.specs.Capabilities.{with_client_capability}
use Rattle.drm_model.specs.Change.{changed, swept, after}
use Rattle.drm_model.specs.Clients.{opening_checks, opened, closed}
use Rattle.drm_model.specs.Leases.{ended}
use Rattle.drm_model.specs.Magics.{with_spent, with_authenticated, with_master}
use Rattle.drm_model.specs.Parts.{count_in}
use Rattle.drm_model.specs.Reply.{answer_of, reply}
use Rattle.drm_model.specs.Results.{results}
use Rattle.drm_model.specs.Run.{no_room, run, rows_of}
use Rattle.drm_model.specs.Sees.{controls, sees}
use Rattle.drm_model.specs.Sharing.{with_export_order, prime_handle}
use Rattle.drm_model.specs.Verdict.{admission_checks, checks, verdict}
use Rattle.drm_model.specs.Audit.{audit_row}
use Rattle.drm_model.specs.Rows.{empty_rows}
use Rattle.drm_modes.specs.declared.kinds.PlaneKind.TheVariants.{Overlay as OverlayPlane, Primary as PrimaryPlane}
use Rattle.drm_modes.specs.Topology.{Topology}

abbrev test_topology : Topology
test_topology = record { crtcs = 2; planes = 1 ∷ 2 ∷ []; kinds = PrimaryPlane 1 ∷ OverlayPlane ∷ []; encoders = 3 ∷ 2 ∷ []; connectors = 5 ∷ 6 ∷ [] }

abbrev program_limits : Limits
program_limits = record { clients = 64; handles = 65535; names = 65535; tokens = 65535; objects = 65535; framebuffers = 64; lessees = 64; journal = 100000 }

-- on a new device of these limits each event gets its answer
abbrev Gives : Limits → List (Event × Result Answer Apart) → Type 0
Gives limits steps = results (empty_rows test_topology limits) (map (λ step. step.0) steps) ≡ map (λ step. step.1) steps

abbrev magics_are_spent_once-steps : List (Event × Result Answer Apart)
magics_are_spent_once-steps =
    (Open (Primary false true), Ok (Opened 1)) ∷
    (Open (Primary false true), Ok (Opened 2)) ∷
    (Ask 2 GetMagic, Ok (Number 1)) ∷
    (Ask 2 GetMagic, Ok (Number 1)) ∷
    (Ask 1 (AuthMagic 1), Ok Done) ∷
    (Ask 1 (AuthMagic 1), Ok (Denied DeniedNoMagic)) ∷
    (Ask 2 GetMagic, Ok (Number 1)) ∷
    (Close 2, Ok Closed) ∷
    (Open (Primary false true), Ok (Opened 9)) ∷
    (Ask 9 GetMagic, Ok (Number 1)) ∷
    []

pub magics_are_spent_once : Gives program_limits magics_are_spent_once-steps
unfolding chain_within first_passing least sorted_by numbers_from answer_kind_row told answer_with answer_kind_of kind_number kind_of kind_name are_in_range rule_of_number apart_of_number kind_row call_row call_with call_kind_of call_kind_of_word row_of call_number flags_of audit_rows audit_page dumb_pitch dumb_size buffer_size with_object with_stamp meaning with_client_capability changed swept after opening_checks opened closed ended with_spent with_authenticated with_master count_in answer_of reply results no_room run rows_of controls sees with_export_order prime_handle admission_checks checks verdict
magics_are_spent_once = refl

abbrev magics_are_the_lowest_free-steps : List (Event × Result Answer Apart)
magics_are_the_lowest_free-steps =
    (Open (Primary false true), Ok (Opened 1)) ∷
    (Open (Primary false true), Ok (Opened 2)) ∷
    (Open (Primary false true), Ok (Opened 3)) ∷
    (Ask 2 GetMagic, Ok (Number 1)) ∷
    (Ask 3 GetMagic, Ok (Number 2)) ∷
    (Ask 1 (AuthMagic 1), Ok Done) ∷
    (Close 2, Ok Closed) ∷
    (Open (Primary false true), Ok (Opened 8)) ∷
    (Open (Primary false true), Ok (Opened 9)) ∷
    (Ask 8 GetMagic, Ok (Number 1)) ∷
    (Ask 9 GetMagic, Ok (Number 3)) ∷
    (Ask 1 (AuthMagic 2), Ok Done) ∷
    (Ask 3 GetMagic, Ok (Number 2)) ∷
    (Ask 1 GetMagic, Ok (Number 4)) ∷
    (Ask 8 (AuthMagic 3), Ok (Denied DeniedMaster)) ∷
    (Ask 1 (AuthMagic 0), Ok (Denied DeniedNoMagic)) ∷
    (Ask 1 (AuthMagic 4294967295), Ok (Denied DeniedNoMagic)) ∷
    (Ask 3 (GemFlink 1), Ok (Denied DeniedNoHandle)) ∷
    (Ask 8 (GemFlink 1), Ok (Denied DeniedAuth)) ∷
    []

pub magics_are_the_lowest_free : Gives program_limits magics_are_the_lowest_free-steps
unfolding chain_within first_passing least sorted_by numbers_from answer_kind_row told answer_with answer_kind_of kind_number kind_of kind_name are_in_range rule_of_number apart_of_number kind_row call_row call_with call_kind_of call_kind_of_word row_of call_number flags_of audit_rows audit_page dumb_pitch dumb_size buffer_size with_object with_stamp meaning with_client_capability changed swept after opening_checks opened closed ended with_spent with_authenticated with_master count_in answer_of reply results no_room run rows_of controls sees with_export_order prime_handle admission_checks checks verdict
magics_are_the_lowest_free = refl

abbrev magics_are_those_of_the_own_master-steps : List (Event × Result Answer Apart)
magics_are_those_of_the_own_master-steps =
    (Open (Primary false true), Ok (Opened 1)) ∷
    (Ask 1 DropMaster, Ok Done) ∷
    (Open (Primary false true), Ok (Opened 3)) ∷
    (Ask 3 GetMagic, Ok (Number 1)) ∷
    (Ask 1 GetMagic, Ok (Number 1)) ∷
    (Ask 3 (AuthMagic 2), Ok (Denied DeniedNoMagic)) ∷
    (Ask 1 (AuthMagic 1), Ok (Denied DeniedMaster)) ∷
    (Ask 1 SetMaster, Ok (Denied DeniedMasterBusy)) ∷
    (Close 3, Ok Closed) ∷
    (Ask 1 SetMaster, Ok Done) ∷
    (Ask 1 (AuthMagic 1), Ok Done) ∷
    []

pub magics_are_those_of_the_own_master : Gives program_limits magics_are_those_of_the_own_master-steps
unfolding chain_within first_passing least sorted_by numbers_from answer_kind_row told answer_with answer_kind_of kind_number kind_of kind_name are_in_range rule_of_number apart_of_number kind_row call_row call_with call_kind_of call_kind_of_word row_of call_number flags_of audit_rows audit_page dumb_pitch dumb_size buffer_size with_object with_stamp meaning with_client_capability changed swept after opening_checks opened closed ended with_spent with_authenticated with_master count_in answer_of reply results no_room run rows_of controls sees with_export_order prime_handle admission_checks checks verdict
magics_are_those_of_the_own_master = refl

abbrev old_magic_is_not_accepted-steps : List (Event × Result Answer Apart)
old_magic_is_not_accepted-steps =
    (Open (Primary false true), Ok (Opened 1)) ∷
    (Open (Primary false true), Ok (Opened 2)) ∷
    (Open (Primary true true), Ok (Opened 3)) ∷
    (Ask 2 GetMagic, Ok (Number 1)) ∷
    (Ask 3 GetMagic, Ok (Number 2)) ∷
    (Ask 1 DropMaster, Ok Done) ∷
    (Ask 3 SetMaster, Ok Done) ∷
    (Ask 3 GetMagic, Ok (Number 1)) ∷
    (Ask 3 DropMaster, Ok Done) ∷
    (Ask 1 SetMaster, Ok Done) ∷
    (Ask 1 (AuthMagic 2), Ok (Denied DeniedNoMagic)) ∷
    (Ask 1 (AuthMagic 1), Ok Done) ∷
    []

pub old_magic_is_not_accepted : Gives program_limits old_magic_is_not_accepted-steps
unfolding chain_within first_passing least sorted_by numbers_from answer_kind_row told answer_with answer_kind_of kind_number kind_of kind_name are_in_range rule_of_number apart_of_number kind_row call_row call_with call_kind_of call_kind_of_word row_of call_number flags_of audit_rows audit_page dumb_pitch dumb_size buffer_size with_object with_stamp meaning with_client_capability changed swept after opening_checks opened closed ended with_spent with_authenticated with_master count_in answer_of reply results no_room run rows_of controls sees with_export_order prime_handle admission_checks checks verdict
old_magic_is_not_accepted = refl

abbrev new_master_takes_the_magic-steps : List (Event × Result Answer Apart)
new_master_takes_the_magic-steps =
    (Open (Primary false true), Ok (Opened 1)) ∷
    (Open (Primary true true), Ok (Opened 2)) ∷
    (Ask 2 GetMagic, Ok (Number 1)) ∷
    (Ask 1 (AuthMagic 1), Ok Done) ∷
    (Ask 2 (Audit OfClient 0), Ok (AuditIs ((audit_row 1 28 1 0) ∷ (audit_row 2 38 1 1) ∷ []))) ∷
    (Ask 1 DropMaster, Ok Done) ∷
    (Ask 2 SetMaster, Ok Done) ∷
    (Ask 2 (Audit OfClient 0), Ok (AuditIs ((audit_row 1 28 1 0) ∷ (audit_row 2 30 7 0) ∷ []))) ∷
    (Ask 2 (Audit OfMaster 0), Ok (AuditIs ((audit_row 1 0 0 0) ∷ (audit_row 7 0 0 0) ∷ []))) ∷
    (Ask 2 (Audit OfDevice 0), Ok (AuditIs ((audit_row 7 0 0 9) ∷ []))) ∷
    (Ask 2 GetMagic, Ok (Number 1)) ∷
    (Ask 2 (Audit OfClient 1), Ok (AuditIs ((audit_row 2 30 7 1) ∷ []))) ∷
    (Ask 2 DropMaster, Ok Done) ∷
    (Ask 1 SetMaster, Ok Done) ∷
    (Ask 2 (Audit OfDevice 0), Ok (AuditIs ((audit_row 1 0 0 14) ∷ []))) ∷
    (Ask 1 (AuthMagic 1), Ok (Denied DeniedNoMagic)) ∷
    (Close 1, Ok Closed) ∷
    (Ask 2 (Audit OfMaster 0), Ok (AuditIs ((audit_row 7 0 0 0) ∷ []))) ∷
    (Ask 2 SetMaster, Ok Done) ∷
    (Ask 2 (Audit OfDevice 0), Ok (AuditIs ((audit_row 7 0 0 19) ∷ []))) ∷
    []

pub new_master_takes_the_magic : Gives program_limits new_master_takes_the_magic-steps
unfolding chain_within first_passing least sorted_by numbers_from answer_kind_row told answer_with answer_kind_of kind_number kind_of kind_name are_in_range rule_of_number apart_of_number kind_row call_row call_with call_kind_of call_kind_of_word row_of call_number flags_of audit_rows audit_page dumb_pitch dumb_size buffer_size with_object with_stamp meaning with_client_capability changed swept after opening_checks opened closed ended with_spent with_authenticated with_master count_in answer_of reply results no_room run rows_of controls sees with_export_order prime_handle admission_checks checks verdict
new_master_takes_the_magic = refl

abbrev masters_and_magics_are_not_for_render_clients-steps : List (Event × Result Answer Apart)
masters_and_magics_are_not_for_render_clients-steps =
    (Open (Primary false true), Ok (Opened 1)) ∷
    (Open Render, Ok (Opened 2)) ∷
    (Ask 2 GetMagic, Ok (Denied DeniedRenderAllow)) ∷
    (Ask 2 (AuthMagic 1), Ok (Denied DeniedMaster)) ∷
    (Ask 2 SetMaster, Ok (Denied DeniedRenderAllow)) ∷
    (Ask 2 DropMaster, Ok (Denied DeniedRenderAllow)) ∷
    []

pub masters_and_magics_are_not_for_render_clients : Gives program_limits masters_and_magics_are_not_for_render_clients-steps
unfolding chain_within first_passing least sorted_by numbers_from answer_kind_row told answer_with answer_kind_of kind_number kind_of kind_name are_in_range rule_of_number apart_of_number kind_row call_row call_with call_kind_of call_kind_of_word row_of call_number flags_of audit_rows audit_page dumb_pitch dumb_size buffer_size with_object with_stamp meaning with_client_capability changed swept after opening_checks opened closed ended with_spent with_authenticated with_master count_in answer_of reply results no_room run rows_of controls sees with_export_order prime_handle admission_checks checks verdict
masters_and_magics_are_not_for_render_clients = refl

abbrev masters_are_set_and_dropped-steps : List (Event × Result Answer Apart)
masters_are_set_and_dropped-steps =
    (Open (Primary false true), Ok (Opened 1)) ∷
    (Open (Primary true true), Ok (Opened 2)) ∷
    (Ask 2 SetMaster, Ok (Denied DeniedMasterBusy)) ∷
    (Ask 1 DropMaster, Ok Done) ∷
    (Ask 2 SetMaster, Ok Done) ∷
    (Ask 1 SetMaster, Ok (Denied DeniedMasterBusy)) ∷
    (Close 2, Ok Closed) ∷
    (Ask 1 SetMaster, Ok Done) ∷
    (Ask 1 SetMaster, Ok Done) ∷
    (Open (Primary false true), Ok (Opened 10)) ∷
    (Ask 10 SetMaster, Ok (Denied DeniedMasterPerm)) ∷
    (Ask 10 DropMaster, Ok (Denied DeniedMasterPerm)) ∷
    (Open (Primary true true), Ok (Opened 13)) ∷
    (Ask 13 DropMaster, Ok (Denied DeniedNotCurrent)) ∷
    []

pub masters_are_set_and_dropped : Gives program_limits masters_are_set_and_dropped-steps
unfolding chain_within first_passing least sorted_by numbers_from answer_kind_row told answer_with answer_kind_of kind_number kind_of kind_name are_in_range rule_of_number apart_of_number kind_row call_row call_with call_kind_of call_kind_of_word row_of call_number flags_of audit_rows audit_page dumb_pitch dumb_size buffer_size with_object with_stamp meaning with_client_capability changed swept after opening_checks opened closed ended with_spent with_authenticated with_master count_in answer_of reply results no_room run rows_of controls sees with_export_order prime_handle admission_checks checks verdict
masters_are_set_and_dropped = refl

abbrev root_may_be_master-steps : List (Event × Result Answer Apart)
root_may_be_master-steps =
    (Open (Primary false true), Ok (Opened 1)) ∷
    (Open (Primary true true), Ok (Opened 2)) ∷
    (Open (Primary false true), Ok (Opened 3)) ∷
    (Ask 3 DropMaster, Ok (Denied DeniedMasterPerm)) ∷
    (Ask 2 DropMaster, Ok (Denied DeniedNotCurrent)) ∷
    (Ask 1 DropMaster, Ok Done) ∷
    (Ask 3 SetMaster, Ok (Denied DeniedMasterPerm)) ∷
    (Ask 2 SetMaster, Ok Done) ∷
    (Ask 2 DropMaster, Ok Done) ∷
    (Ask 3 SetMaster, Ok (Denied DeniedMasterPerm)) ∷
    []

pub root_may_be_master : Gives program_limits root_may_be_master-steps
unfolding chain_within first_passing least sorted_by numbers_from answer_kind_row told answer_with answer_kind_of kind_number kind_of kind_name are_in_range rule_of_number apart_of_number kind_row call_row call_with call_kind_of call_kind_of_word row_of call_number flags_of audit_rows audit_page dumb_pitch dumb_size buffer_size with_object with_stamp meaning with_client_capability changed swept after opening_checks opened closed ended with_spent with_authenticated with_master count_in answer_of reply results no_room run rows_of controls sees with_export_order prime_handle admission_checks checks verdict
root_may_be_master = refl

abbrev audits_of_masters_and_magics-steps : List (Event × Result Answer Apart)
audits_of_masters_and_magics-steps =
    (Open (Primary true true), Ok (Opened 1)) ∷
    (Open (Primary false true), Ok (Opened 2)) ∷
    (Ask 2 GetMagic, Ok (Number 1)) ∷
    (Ask 1 (Audit OfClient 0), Ok (AuditIs ((audit_row 1 30 1 0) ∷ (audit_row 2 0 1 1) ∷ []))) ∷
    (Ask 1 (AuthMagic 1), Ok Done) ∷
    (Ask 1 (Audit OfClient 0), Ok (AuditIs ((audit_row 1 30 1 0) ∷ (audit_row 2 36 1 1) ∷ []))) ∷
    (Ask 1 DropMaster, Ok Done) ∷
    (Ask 1 (Audit OfDevice 0), Ok (AuditIs ((audit_row 0 0 0 7) ∷ []))) ∷
    (Ask 2 SetMaster, Ok (Denied DeniedMasterPerm)) ∷
    (Open (Primary true true), Ok (Opened 10)) ∷
    (Ask 1 SetMaster, Ok (Denied DeniedMasterBusy)) ∷
    (Ask 1 (Audit OfMaster 0), Ok (AuditIs ((audit_row 1 0 0 0) ∷ (audit_row 10 0 0 0) ∷ []))) ∷
    (Close 10, Ok Closed) ∷
    (Ask 1 (Audit OfDevice 0), Ok (AuditIs ((audit_row 0 0 0 13) ∷ []))) ∷
    (Ask 1 SetMaster, Ok Done) ∷
    (Ask 1 (Audit OfDevice 0), Ok (AuditIs ((audit_row 1 0 0 15) ∷ []))) ∷
    (Close 2, Ok Closed) ∷
    (Ask 1 (Audit OfClient 0), Ok (AuditIs ((audit_row 1 30 1 0) ∷ []))) ∷
    []

pub audits_of_masters_and_magics : Gives program_limits audits_of_masters_and_magics-steps
unfolding chain_within first_passing least sorted_by numbers_from answer_kind_row told answer_with answer_kind_of kind_number kind_of kind_name are_in_range rule_of_number apart_of_number kind_row call_row call_with call_kind_of call_kind_of_word row_of call_number flags_of audit_rows audit_page dumb_pitch dumb_size buffer_size with_object with_stamp meaning with_client_capability changed swept after opening_checks opened closed ended with_spent with_authenticated with_master count_in answer_of reply results no_room run rows_of controls sees with_export_order prime_handle admission_checks checks verdict
audits_of_masters_and_magics = refl
