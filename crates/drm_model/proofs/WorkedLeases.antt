-- Made by tools/worked_rows.py: worked rows, as the definitions compute them. Leases, their tokens and what ends them.
use Rattle.std.proofs.Common.{◌≡◌, true, false, List, ◌∷◌, map, Result, Ok, refl, []}
use Rattle.drm_table.specs.declared.answers.Answer.{Answer}
use Rattle.drm_table.specs.declared.answers.Answer.TheVariants.{Done, Opened, Number, Dumb, Resources, Plane, Framebuffer, Lease as LeaseIs, List as ListIs, Audit as AuditIs, Closed, Denied}
use Rattle.drm_table.specs.declared.apart.Apart.{Apart}
use Rattle.drm_table.specs.declared.rules.Rule.TheVariants.{Full as DeniedFull, IsLessee as DeniedIsLessee, LeaseShape as DeniedLeaseShape, LeasedOut as DeniedLeasedOut, Master as DeniedMaster, MasterBusy as DeniedMasterBusy, MasterPerm as DeniedMasterPerm, NoLeaseToken as DeniedNoLeaseToken, NoLessee as DeniedNoLessee, NoModeObject as DeniedNoModeObject, NotCurrent as DeniedNotCurrent, NotLeasable as DeniedNotLeasable, NotYourLessee as DeniedNotYourLessee, Repeated as DeniedRepeated, RootOnly as DeniedRootOnly, SubLease as DeniedSubLease}
use Rattle.drm_table.specs.declared.calls.Call.TheVariants.{SetMaster, DropMaster, Audit, GetResources, GetCrtc, SetCrtc, GetEncoder, GetConnector, GetFb, AddFb, CreateDumb, GetPlaneResources, GetPlane, SetPlane, CreateLease, ListLessees, GetLease, RevokeLease}
use Rattle.drm_table.specs.declared.events.Event.{Event}
use Rattle.drm_table.specs.declared.events.Event.TheVariants.{Open, Ask, Close}
use Rattle.drm_table.specs.declared.events.Opening.TheVariants.{Primary, Render, Lease}
use Rattle.drm_table.specs.declared.limits.Limits.{Limits}
use Rattle.drm_table.specs.declared.audits.AuditKind.TheVariants.{Client as OfClient, Master as OfMaster, Grant as OfGrant, Device as OfDevice}
use Rattle.drm_index_array.specs.Chains.{chain_within}
use Rattle.drm_index_array.specs.Least.{first_passing, least}
use Rattle.drm_index_array.specs.Orders.{sorted_by}
use Rattle.drm_modes.specs.Numbers.{numbers_from}
use Rattle.drm_table.specs.Answers.{answer_kind_row, told, answer_with, answer_kind_of}
use Rattle.drm_table.specs.Audits.{kind_number, kind_of, kind_name}
use Rattle.drm_table.specs.Limits.{are_in_range}
use Rattle.drm_table.specs.Rules.{rule_of_number, apart_of_number}
use Rattle.drm_table.specs.Table.{kind_row, call_row, call_with, call_kind_of, call_kind_of_word, row_of, call_number, flags_of}
use Rattle.drm_model.specs.Audit.{audit_rows, audit_page}
use Rattle.drm_model.specs.Buffers.{dumb_pitch, dumb_size, buffer_size, with_object, with_stamp}
use Rattle.drm_model.specs.Calls.{meaning}
use Rattle.drm_model.specs.Capabilities.{with_client_capability}
use Rattle.drm_model.specs.Change.{changed, swept, after}
use Rattle.drm_model.specs.Clients.{opening_checks, opened, closed}
use Rattle.drm_model.specs.Leases.{ended}
use Rattle.drm_model.specs.Magics.{with_spent, with_authenticated, with_master}
use Rattle.drm_model.specs.Parts.{count_in}
use Rattle.drm_model.specs.Reply.{answer_of, reply}
use Rattle.drm_model.specs.Results.{results}
use Rattle.drm_model.specs.Run.{no_room, run, rows_of}
use Rattle.drm_model.specs.Sees.{controls, sees}
use Rattle.drm_model.specs.Sharing.{with_export_order, prime_handle}
use Rattle.drm_model.specs.Verdict.{admission_checks, checks, verdict}
use Rattle.drm_model.specs.Audit.{audit_row}
use Rattle.drm_model.specs.Rows.{empty_rows}
use Rattle.drm_modes.specs.declared.kinds.PlaneKind.TheVariants.{Overlay as OverlayPlane, Primary as PrimaryPlane}
use Rattle.drm_modes.specs.Topology.{Topology}

abbrev test_topology : Topology
test_topology = record { crtcs = 2; planes = 1 ∷ 2 ∷ []; kinds = PrimaryPlane 1 ∷ OverlayPlane ∷ []; encoders = 3 ∷ 2 ∷ []; connectors = 5 ∷ 6 ∷ [] }

abbrev program_limits : Limits
program_limits = record { clients = 64; handles = 65535; names = 65535; tokens = 65535; objects = 65535; framebuffers = 64; lessees = 64; journal = 100000 }

-- on a new device of these limits each event gets its answer
abbrev Gives : Limits → List (Event × Result Answer Apart) → Type 0
Gives limits steps = results (empty_rows test_topology limits) (map (λ step. step.0) steps) ≡ map (λ step. step.1) steps

abbrev lessees_behind_their_owner-steps : List (Event × Result Answer Apart)
lessees_behind_their_owner-steps =
    (Open (Primary false true), Ok (Opened 1)) ∷
    (Ask 1 (CreateLease (2 ∷ 4 ∷ 8 ∷ [])), Ok (LeaseIs 1 1)) ∷
    (Open (Lease 1 false true), Ok (Opened 3)) ∷
    (Ask 3 GetResources, Ok (Resources (2 ∷ []) (8 ∷ []) (5 ∷ 6 ∷ []) ([]))) ∷
    (Ask 3 GetPlaneResources, Ok (ListIs (4 ∷ []))) ∷
    (Ask 3 (GetEncoder 5), Ok (Number 1)) ∷
    (Ask 3 SetMaster, Ok (Denied DeniedMasterPerm)) ∷
    (Ask 1 GetLease, Ok (ListIs (1 ∷ 2 ∷ 3 ∷ 4 ∷ 7 ∷ 8 ∷ []))) ∷
    (Close 1, Ok Closed) ∷
    (Open (Primary false true), Ok (Opened 10)) ∷
    (Ask 3 (SetCrtc 2 0 0), Ok (Denied DeniedMaster)) ∷
    (Ask 3 (GetCrtc 2), Ok (Denied DeniedNoModeObject)) ∷
    (Ask 10 (GetEncoder 5), Ok (Number 3)) ∷
    []

pub lessees_behind_their_owner : Gives program_limits lessees_behind_their_owner-steps
unfolding chain_within first_passing least sorted_by numbers_from answer_kind_row told answer_with answer_kind_of kind_number kind_of kind_name are_in_range rule_of_number apart_of_number kind_row call_row call_with call_kind_of call_kind_of_word row_of call_number flags_of audit_rows audit_page dumb_pitch dumb_size buffer_size with_object with_stamp meaning with_client_capability changed swept after opening_checks opened closed ended with_spent with_authenticated with_master count_in answer_of reply results no_room run rows_of controls sees with_export_order prime_handle admission_checks checks verdict
lessees_behind_their_owner = refl

abbrev leases_are_refused_in_order-steps : List (Event × Result Answer Apart)
leases_are_refused_in_order-steps =
    (Open (Primary false true), Ok (Opened 1)) ∷
    (Ask 1 (CreateLease ([])), Ok (Denied DeniedLeaseShape)) ∷
    (Ask 1 (CreateLease (2 ∷ 2 ∷ 4 ∷ 8 ∷ [])), Ok (Denied DeniedRepeated)) ∷
    (Ask 1 (CreateLease (2 ∷ 8 ∷ [])), Ok (Denied DeniedLeaseShape)) ∷
    (Ask 1 (CreateLease (5 ∷ [])), Ok (Denied DeniedNotLeasable)) ∷
    (Ask 1 (CreateLease (99 ∷ [])), Ok (Denied DeniedNoModeObject)) ∷
    (Ask 1 (CreateLease (2 ∷ 4 ∷ 8 ∷ [])), Ok (LeaseIs 1 1)) ∷
    (Ask 1 (CreateLease (2 ∷ 4 ∷ 8 ∷ [])), Ok (Denied DeniedLeasedOut)) ∷
    (Ask 1 (CreateLease (1 ∷ 3 ∷ 8 ∷ [])), Ok (Denied DeniedLeasedOut)) ∷
    (Open (Lease 1 false true), Ok (Opened 10)) ∷
    (Ask 10 (CreateLease (2 ∷ 4 ∷ 8 ∷ [])), Ok (LeaseIs 2 2)) ∷
    (Ask 10 (RevokeLease 1), Ok (Denied DeniedNotYourLessee)) ∷
    (Ask 10 (RevokeLease 7), Ok (Denied DeniedNoLessee)) ∷
    (Ask 10 GetLease, Ok (ListIs (2 ∷ 4 ∷ 8 ∷ []))) ∷
    (Ask 1 ListLessees, Ok (ListIs (1 ∷ []))) ∷
    (Ask 1 (RevokeLease 1), Ok Done) ∷
    (Ask 1 ListLessees, Ok (ListIs ([]))) ∷
    (Ask 10 (GetCrtc 2), Ok (Denied DeniedNoModeObject)) ∷
    (Ask 1 (CreateLease (2 ∷ 4 ∷ 8 ∷ [])), Ok (LeaseIs 2 3)) ∷
    []

pub leases_are_refused_in_order : Gives program_limits leases_are_refused_in_order-steps
unfolding chain_within first_passing least sorted_by numbers_from answer_kind_row told answer_with answer_kind_of kind_number kind_of kind_name are_in_range rule_of_number apart_of_number kind_row call_row call_with call_kind_of call_kind_of_word row_of call_number flags_of audit_rows audit_page dumb_pitch dumb_size buffer_size with_object with_stamp meaning with_client_capability changed swept after opening_checks opened closed ended with_spent with_authenticated with_master count_in answer_of reply results no_room run rows_of controls sees with_export_order prime_handle admission_checks checks verdict
leases_are_refused_in_order = refl

abbrev lessees_lease_in_their_turn-steps : List (Event × Result Answer Apart)
lessees_lease_in_their_turn-steps =
    (Open (Primary false true), Ok (Opened 1)) ∷
    (Ask 1 (CreateLease (1 ∷ 2 ∷ 3 ∷ 4 ∷ 7 ∷ 8 ∷ [])), Ok (LeaseIs 1 1)) ∷
    (Open (Lease 1 false true), Ok (Opened 3)) ∷
    (Ask 3 (CreateLease (2 ∷ 4 ∷ 8 ∷ [])), Ok (LeaseIs 2 2)) ∷
    (Ask 3 (CreateLease (2 ∷ 3 ∷ 7 ∷ [])), Ok (Denied DeniedLeasedOut)) ∷
    (Open (Lease 2 false true), Ok (Opened 6)) ∷
    (Ask 6 GetResources, Ok (Resources (2 ∷ []) (8 ∷ []) (5 ∷ 6 ∷ []) ([]))) ∷
    (Ask 1 (RevokeLease 2), Ok (Denied DeniedNotYourLessee)) ∷
    (Ask 1 ListLessees, Ok (ListIs (1 ∷ []))) ∷
    (Ask 3 ListLessees, Ok (ListIs (2 ∷ []))) ∷
    (Ask 6 (CreateLease (1 ∷ 3 ∷ 7 ∷ [])), Ok (Denied DeniedNoModeObject)) ∷
    (Ask 1 (RevokeLease 1), Ok Done) ∷
    (Ask 6 (GetCrtc 2), Ok (Denied DeniedNoModeObject)) ∷
    (Ask 3 GetLease, Ok (ListIs ([]))) ∷
    (Ask 1 (CreateLease (2 ∷ 4 ∷ 8 ∷ [])), Ok (LeaseIs 3 3)) ∷
    []

pub lessees_lease_in_their_turn : Gives program_limits lessees_lease_in_their_turn-steps
unfolding chain_within first_passing least sorted_by numbers_from answer_kind_row told answer_with answer_kind_of kind_number kind_of kind_name are_in_range rule_of_number apart_of_number kind_row call_row call_with call_kind_of call_kind_of_word row_of call_number flags_of audit_rows audit_page dumb_pitch dumb_size buffer_size with_object with_stamp meaning with_client_capability changed swept after opening_checks opened closed ended with_spent with_authenticated with_master count_in answer_of reply results no_room run rows_of controls sees with_export_order prime_handle admission_checks checks verdict
lessees_lease_in_their_turn = refl

abbrev chains_of_lessees_have_an_end-steps : List (Event × Result Answer Apart)
chains_of_lessees_have_an_end-steps =
    (Open (Primary false true), Ok (Opened 1)) ∷
    (Ask 1 (CreateLease (1 ∷ 3 ∷ 7 ∷ [])), Ok (LeaseIs 1 1)) ∷
    (Open (Lease 1 false true), Ok (Opened 3)) ∷
    (Ask 3 (CreateLease (1 ∷ 3 ∷ 7 ∷ [])), Ok (LeaseIs 2 2)) ∷
    (Open (Lease 2 false true), Ok (Opened 5)) ∷
    (Ask 5 (CreateLease (1 ∷ 3 ∷ 7 ∷ [])), Ok (LeaseIs 3 3)) ∷
    (Open (Lease 3 false true), Ok (Opened 7)) ∷
    (Ask 7 (CreateLease (1 ∷ 3 ∷ 7 ∷ [])), Ok (LeaseIs 4 4)) ∷
    (Open (Lease 4 false true), Ok (Opened 9)) ∷
    (Ask 9 (CreateLease (1 ∷ 3 ∷ 7 ∷ [])), Ok (LeaseIs 5 5)) ∷
    (Open (Lease 5 false true), Ok (Opened 11)) ∷
    (Ask 11 (CreateLease (1 ∷ 3 ∷ 7 ∷ [])), Ok (LeaseIs 6 6)) ∷
    (Open (Lease 6 false true), Ok (Opened 13)) ∷
    (Ask 13 (CreateLease (1 ∷ 3 ∷ 7 ∷ [])), Ok (LeaseIs 7 7)) ∷
    (Open (Lease 7 false true), Ok (Opened 15)) ∷
    (Ask 15 (CreateLease (1 ∷ 3 ∷ 7 ∷ [])), Ok (LeaseIs 8 8)) ∷
    (Open (Lease 8 false true), Ok (Opened 17)) ∷
    (Ask 17 (CreateLease (1 ∷ 3 ∷ 7 ∷ [])), Ok (Denied DeniedSubLease)) ∷
    []

pub chains_of_lessees_have_an_end : Gives program_limits chains_of_lessees_have_an_end-steps
unfolding chain_within first_passing least sorted_by numbers_from answer_kind_row told answer_with answer_kind_of kind_number kind_of kind_name are_in_range rule_of_number apart_of_number kind_row call_row call_with call_kind_of call_kind_of_word row_of call_number flags_of audit_rows audit_page dumb_pitch dumb_size buffer_size with_object with_stamp meaning with_client_capability changed swept after opening_checks opened closed ended with_spent with_authenticated with_master count_in answer_of reply results no_room run rows_of controls sees with_export_order prime_handle admission_checks checks verdict
chains_of_lessees_have_an_end = refl

abbrev a_closed_lessor_stays_under_its_lessee-steps : List (Event × Result Answer Apart)
a_closed_lessor_stays_under_its_lessee-steps =
    (Open (Primary true true), Ok (Opened 1)) ∷
    (Ask 1 (CreateLease (2 ∷ 4 ∷ 8 ∷ [])), Ok (LeaseIs 1 1)) ∷
    (Open (Lease 1 false true), Ok (Opened 3)) ∷
    (Ask 3 (CreateLease (2 ∷ 4 ∷ 8 ∷ [])), Ok (LeaseIs 2 2)) ∷
    (Open (Lease 2 false true), Ok (Opened 5)) ∷
    (Ask 5 (GetCrtc 2), Ok (Number 0)) ∷
    (Close 3, Ok Closed) ∷
    (Ask 5 (GetCrtc 2), Ok (Denied DeniedNoModeObject)) ∷
    (Ask 5 GetLease, Ok (ListIs ([]))) ∷
    (Ask 1 (CreateLease (2 ∷ 4 ∷ 8 ∷ [])), Ok (LeaseIs 3 3)) ∷
    (Ask 1 (Audit OfMaster 0), Ok (AuditIs ((audit_row 1 0 0 0) ∷ (audit_row 2 1 1 0) ∷ (audit_row 4 2 2 0) ∷ (audit_row 10 1 3 3) ∷ []))) ∷
    (Close 5, Ok Closed) ∷
    (Ask 1 (Audit OfMaster 0), Ok (AuditIs ((audit_row 1 0 0 0) ∷ (audit_row 10 1 3 3) ∷ []))) ∷
    []

pub a_closed_lessor_stays_under_its_lessee : Gives program_limits a_closed_lessor_stays_under_its_lessee-steps
unfolding chain_within first_passing least sorted_by numbers_from answer_kind_row told answer_with answer_kind_of kind_number kind_of kind_name are_in_range rule_of_number apart_of_number kind_row call_row call_with call_kind_of call_kind_of_word row_of call_number flags_of audit_rows audit_page dumb_pitch dumb_size buffer_size with_object with_stamp meaning with_client_capability changed swept after opening_checks opened closed ended with_spent with_authenticated with_master count_in answer_of reply results no_room run rows_of controls sees with_export_order prime_handle admission_checks checks verdict
a_closed_lessor_stays_under_its_lessee = refl

abbrev lease_tokens_and_revocations-steps : List (Event × Result Answer Apart)
lease_tokens_and_revocations-steps =
    (Open (Primary false true), Ok (Opened 1)) ∷
    (Ask 1 (CreateLease (1 ∷ 3 ∷ 7 ∷ [])), Ok (LeaseIs 1 1)) ∷
    (Ask 1 (RevokeLease 1), Ok Done) ∷
    (Open (Lease 1 false true), Ok (Denied DeniedNoLeaseToken)) ∷
    (Ask 1 ListLessees, Ok (ListIs ([]))) ∷
    (Ask 1 (CreateLease (1 ∷ 3 ∷ 7 ∷ [])), Ok (LeaseIs 1 2)) ∷
    (Open (Lease 2 false true), Ok (Opened 7)) ∷
    (Open (Lease 2 false true), Ok (Denied DeniedNoLeaseToken)) ∷
    (Ask 1 DropMaster, Ok Done) ∷
    (Ask 7 (GetCrtc 1), Ok (Number 0)) ∷
    []

pub lease_tokens_and_revocations : Gives program_limits lease_tokens_and_revocations-steps
unfolding chain_within first_passing least sorted_by numbers_from answer_kind_row told answer_with answer_kind_of kind_number kind_of kind_name are_in_range rule_of_number apart_of_number kind_row call_row call_with call_kind_of call_kind_of_word row_of call_number flags_of audit_rows audit_page dumb_pitch dumb_size buffer_size with_object with_stamp meaning with_client_capability changed swept after opening_checks opened closed ended with_spent with_authenticated with_master count_in answer_of reply results no_room run rows_of controls sees with_export_order prime_handle admission_checks checks verdict
lease_tokens_and_revocations = refl

abbrev leases_are_tested_rule_by_rule-steps : List (Event × Result Answer Apart)
leases_are_tested_rule_by_rule-steps =
    (Open (Primary false true), Ok (Opened 1)) ∷
    (Ask 1 (CreateLease (5 ∷ 99 ∷ [])), Ok (Denied DeniedNoModeObject)) ∷
    (Ask 1 (CreateLease (5 ∷ 5 ∷ [])), Ok (Denied DeniedNotLeasable)) ∷
    (Ask 1 (CreateLease (8 ∷ 8 ∷ [])), Ok (Denied DeniedRepeated)) ∷
    (Ask 1 (CreateDumb 64 64 32), Ok (Dumb 1 256 16384)) ∷
    (Ask 1 (AddFb 64 64 256 32 1), Ok (Number 9)) ∷
    (Ask 1 (CreateLease (2 ∷ 4 ∷ 8 ∷ 9 ∷ [])), Ok (Denied DeniedNotLeasable)) ∷
    (Ask 1 (RevokeLease 0), Ok (Denied DeniedNoLessee)) ∷
    (Open Render, Ok (Opened 9)) ∷
    (Ask 9 (CreateLease ([])), Ok (Denied DeniedMaster)) ∷
    (Ask 9 GetLease, Ok (Denied DeniedMaster)) ∷
    (Ask 1 DropMaster, Ok Done) ∷
    (Ask 1 ListLessees, Ok (Denied DeniedMaster)) ∷
    []

pub leases_are_tested_rule_by_rule : Gives program_limits leases_are_tested_rule_by_rule-steps
unfolding chain_within first_passing least sorted_by numbers_from answer_kind_row told answer_with answer_kind_of kind_number kind_of kind_name are_in_range rule_of_number apart_of_number kind_row call_row call_with call_kind_of call_kind_of_word row_of call_number flags_of audit_rows audit_page dumb_pitch dumb_size buffer_size with_object with_stamp meaning with_client_capability changed swept after opening_checks opened closed ended with_spent with_authenticated with_master count_in answer_of reply results no_room run rows_of controls sees with_export_order prime_handle admission_checks checks verdict
leases_are_tested_rule_by_rule = refl

abbrev leases_are_limited-steps : List (Event × Result Answer Apart)
leases_are_limited-steps =
    (Open (Primary false true), Ok (Opened 1)) ∷
    (Ask 1 (CreateLease (2 ∷ 4 ∷ 8 ∷ [])), Ok (LeaseIs 1 1)) ∷
    (Ask 1 (CreateLease (1 ∷ 3 ∷ 7 ∷ [])), Ok (Denied DeniedFull)) ∷
    (Open (Lease 1 false true), Ok (Opened 4)) ∷
    (Ask 1 (RevokeLease 1), Ok Done) ∷
    (Ask 1 (CreateLease (1 ∷ 3 ∷ 7 ∷ [])), Ok (Denied DeniedFull)) ∷
    (Close 4, Ok Closed) ∷
    (Ask 1 (CreateLease (1 ∷ 3 ∷ 7 ∷ [])), Ok (LeaseIs 1 2)) ∷
    (Ask 1 (RevokeLease 1), Ok Done) ∷
    (Ask 1 (CreateLease (1 ∷ 3 ∷ 7 ∷ [])), Ok (LeaseIs 1 1)) ∷
    []

pub leases_are_limited : Gives (record { clients = 64; handles = 8; names = 8; tokens = 2; objects = 8; framebuffers = 4; lessees = 1; journal = 100 }) leases_are_limited-steps
unfolding chain_within first_passing least sorted_by numbers_from answer_kind_row told answer_with answer_kind_of kind_number kind_of kind_name are_in_range rule_of_number apart_of_number kind_row call_row call_with call_kind_of call_kind_of_word row_of call_number flags_of audit_rows audit_page dumb_pitch dumb_size buffer_size with_object with_stamp meaning with_client_capability changed swept after opening_checks opened closed ended with_spent with_authenticated with_master count_in answer_of reply results no_room run rows_of controls sees with_export_order prime_handle admission_checks checks verdict
leases_are_limited = refl

abbrev audits_of_leases-steps : List (Event × Result Answer Apart)
audits_of_leases-steps =
    (Open (Primary true true), Ok (Opened 1)) ∷
    (Ask 1 (CreateLease (8 ∷ 4 ∷ 2 ∷ [])), Ok (LeaseIs 1 1)) ∷
    (Ask 1 (Audit OfMaster 0), Ok (AuditIs ((audit_row 1 0 0 0) ∷ (audit_row 2 1 1 1) ∷ []))) ∷
    (Ask 1 (Audit OfGrant 0), Ok (AuditIs ((audit_row 2 2 0 0) ∷ (audit_row 2 4 0 0) ∷ (audit_row 2 8 0 0) ∷ []))) ∷
    (Ask 1 (Audit OfDevice 0), Ok (AuditIs ((audit_row 1 0 1 4) ∷ []))) ∷
    (Open (Lease 1 false true), Ok (Opened 6)) ∷
    (Ask 1 (Audit OfClient 0), Ok (AuditIs ((audit_row 1 30 1 0) ∷ (audit_row 6 20 2 0) ∷ []))) ∷
    (Ask 1 (Audit OfMaster 0), Ok (AuditIs ((audit_row 1 0 0 0) ∷ (audit_row 2 1 1 0) ∷ []))) ∷
    (Ask 1 (RevokeLease 1), Ok Done) ∷
    (Ask 1 (Audit OfGrant 0), Ok (AuditIs ([]))) ∷
    (Ask 1 (Audit OfMaster 1), Ok (AuditIs ((audit_row 2 1 1 0) ∷ []))) ∷
    (Close 6, Ok Closed) ∷
    (Ask 1 (Audit OfMaster 0), Ok (AuditIs ((audit_row 1 0 0 0) ∷ []))) ∷
    []

pub audits_of_leases : Gives program_limits audits_of_leases-steps
unfolding chain_within first_passing least sorted_by numbers_from answer_kind_row told answer_with answer_kind_of kind_number kind_of kind_name are_in_range rule_of_number apart_of_number kind_row call_row call_with call_kind_of call_kind_of_word row_of call_number flags_of audit_rows audit_page dumb_pitch dumb_size buffer_size with_object with_stamp meaning with_client_capability changed swept after opening_checks opened closed ended with_spent with_authenticated with_master count_in answer_of reply results no_room run rows_of controls sees with_export_order prime_handle admission_checks checks verdict
audits_of_leases = refl

abbrev leases_are_refused_over_all_ids-steps : List (Event × Result Answer Apart)
leases_are_refused_over_all_ids-steps =
    (Open (Primary false true), Ok (Opened 1)) ∷
    (Ask 1 (CreateLease (5 ∷ 99 ∷ [])), Ok (Denied DeniedNoModeObject)) ∷
    (Ask 1 (CreateLease (5 ∷ 5 ∷ [])), Ok (Denied DeniedNotLeasable)) ∷
    (Ask 1 (CreateLease (8 ∷ 8 ∷ [])), Ok (Denied DeniedRepeated)) ∷
    (Open (Primary false true), Ok (Opened 5)) ∷
    (Ask 5 (CreateDumb 64 64 32), Ok (Dumb 1 256 16384)) ∷
    (Ask 5 (AddFb 64 64 256 32 1), Ok (Number 9)) ∷
    (Ask 1 (CreateLease (2 ∷ 4 ∷ 8 ∷ 9 ∷ [])), Ok (Denied DeniedNotLeasable)) ∷
    (Ask 1 (CreateLease (2 ∷ 4 ∷ 8 ∷ 10 ∷ [])), Ok (Denied DeniedNoModeObject)) ∷
    (Ask 1 (RevokeLease 0), Ok (Denied DeniedNoLessee)) ∷
    (Ask 1 (CreateLease (2 ∷ 4 ∷ 8 ∷ [])), Ok (LeaseIs 1 1)) ∷
    (Open (Lease 1 false true), Ok (Opened 12)) ∷
    (Ask 12 (CreateLease (99 ∷ [])), Ok (Denied DeniedNoModeObject)) ∷
    (Ask 5 (CreateLease (99 ∷ [])), Ok (Denied DeniedMaster)) ∷
    (Ask 5 ListLessees, Ok (Denied DeniedMaster)) ∷
    (Ask 5 GetLease, Ok (Denied DeniedMaster)) ∷
    (Ask 5 (RevokeLease 9), Ok (Denied DeniedMaster)) ∷
    (Open Render, Ok (Opened 18)) ∷
    (Ask 18 (CreateLease ([])), Ok (Denied DeniedMaster)) ∷
    (Ask 18 ListLessees, Ok (Denied DeniedMaster)) ∷
    (Ask 18 GetLease, Ok (Denied DeniedMaster)) ∷
    (Ask 18 (RevokeLease 1), Ok (Denied DeniedMaster)) ∷
    []

pub leases_are_refused_over_all_ids : Gives program_limits leases_are_refused_over_all_ids-steps
unfolding chain_within first_passing least sorted_by numbers_from answer_kind_row told answer_with answer_kind_of kind_number kind_of kind_name are_in_range rule_of_number apart_of_number kind_row call_row call_with call_kind_of call_kind_of_word row_of call_number flags_of audit_rows audit_page dumb_pitch dumb_size buffer_size with_object with_stamp meaning with_client_capability changed swept after opening_checks opened closed ended with_spent with_authenticated with_master count_in answer_of reply results no_room run rows_of controls sees with_export_order prime_handle admission_checks checks verdict
leases_are_refused_over_all_ids = refl

abbrev lessees_show_what_they_lease-steps : List (Event × Result Answer Apart)
lessees_show_what_they_lease-steps =
    (Open (Primary false true), Ok (Opened 1)) ∷
    (Ask 1 (CreateLease (2 ∷ 4 ∷ 8 ∷ [])), Ok (LeaseIs 1 1)) ∷
    (Open (Lease 1 false true), Ok (Opened 3)) ∷
    (Ask 3 (CreateDumb 64 64 32), Ok (Dumb 1 256 16384)) ∷
    (Ask 3 (AddFb 64 64 256 32 1), Ok (Number 9)) ∷
    (Ask 3 (SetCrtc 2 9 8), Ok Done) ∷
    (Ask 3 (SetPlane 4 2 9), Ok Done) ∷
    (Ask 3 (SetCrtc 1 9 7), Ok (Denied DeniedNoModeObject)) ∷
    (Ask 3 (SetCrtc 2 9 7), Ok (Denied DeniedNoModeObject)) ∷
    (Ask 3 (SetPlane 3 1 0), Ok (Denied DeniedNoModeObject)) ∷
    (Ask 3 (SetPlane 4 1 9), Ok (Denied DeniedNoModeObject)) ∷
    (Ask 3 (GetPlane 4), Ok (Plane 9 1)) ∷
    (Ask 1 (GetPlane 4), Ok (Plane 9 2)) ∷
    (Ask 3 (GetEncoder 6), Ok (Number 1)) ∷
    (Ask 3 (GetConnector 8), Ok (Number 6)) ∷
    (Ask 3 (GetConnector 7), Ok (Denied DeniedNoModeObject)) ∷
    (Ask 3 (GetFb 9), Ok (Framebuffer 64 64 256 32 2)) ∷
    (Ask 1 (SetCrtc 2 9 8), Ok Done) ∷
    (Ask 1 (RevokeLease 1), Ok Done) ∷
    (Ask 3 (SetCrtc 2 0 0), Ok (Denied DeniedNoModeObject)) ∷
    (Ask 3 (GetFb 9), Ok (Framebuffer 64 64 256 32 3)) ∷
    (Ask 1 (GetCrtc 2), Ok (Number 9)) ∷
    (Close 3, Ok Closed) ∷
    (Ask 1 (GetCrtc 2), Ok (Number 0)) ∷
    (Ask 1 (GetPlane 4), Ok (Plane 0 2)) ∷
    []

pub lessees_show_what_they_lease : Gives program_limits lessees_show_what_they_lease-steps
unfolding chain_within first_passing least sorted_by numbers_from answer_kind_row told answer_with answer_kind_of kind_number kind_of kind_name are_in_range rule_of_number apart_of_number kind_row call_row call_with call_kind_of call_kind_of_word row_of call_number flags_of audit_rows audit_page dumb_pitch dumb_size buffer_size with_object with_stamp meaning with_client_capability changed swept after opening_checks opened closed ended with_spent with_authenticated with_master count_in answer_of reply results no_room run rows_of controls sees with_export_order prime_handle admission_checks checks verdict
lessees_show_what_they_lease = refl

abbrev dropping_master_leaves_leases-steps : List (Event × Result Answer Apart)
dropping_master_leaves_leases-steps =
    (Open (Primary false true), Ok (Opened 1)) ∷
    (Ask 1 (CreateLease (2 ∷ 4 ∷ 8 ∷ [])), Ok (LeaseIs 1 1)) ∷
    (Open (Lease 1 true true), Ok (Opened 3)) ∷
    (Ask 3 SetMaster, Ok Done) ∷
    (Ask 3 DropMaster, Ok (Denied DeniedIsLessee)) ∷
    (Ask 3 (SetCrtc 2 0 0), Ok Done) ∷
    (Ask 1 DropMaster, Ok Done) ∷
    (Ask 3 (GetCrtc 2), Ok (Number 0)) ∷
    (Ask 3 (SetCrtc 2 0 0), Ok (Denied DeniedMaster)) ∷
    (Ask 3 GetLease, Ok (Denied DeniedMaster)) ∷
    (Ask 3 SetMaster, Ok (Denied DeniedIsLessee)) ∷
    (Ask 3 DropMaster, Ok (Denied DeniedNotCurrent)) ∷
    (Open (Primary false true), Ok (Opened 13)) ∷
    (Ask 3 SetMaster, Ok (Denied DeniedMasterBusy)) ∷
    (Ask 3 (GetCrtc 2), Ok (Number 0)) ∷
    (Close 13, Ok Closed) ∷
    (Ask 1 SetMaster, Ok Done) ∷
    (Ask 3 (SetCrtc 2 0 0), Ok Done) ∷
    (Ask 3 GetLease, Ok (ListIs (2 ∷ 4 ∷ 8 ∷ []))) ∷
    (Ask 1 ListLessees, Ok (ListIs (1 ∷ []))) ∷
    []

pub dropping_master_leaves_leases : Gives program_limits dropping_master_leaves_leases-steps
unfolding chain_within first_passing least sorted_by numbers_from answer_kind_row told answer_with answer_kind_of kind_number kind_of kind_name are_in_range rule_of_number apart_of_number kind_row call_row call_with call_kind_of call_kind_of_word row_of call_number flags_of audit_rows audit_page dumb_pitch dumb_size buffer_size with_object with_stamp meaning with_client_capability changed swept after opening_checks opened closed ended with_spent with_authenticated with_master count_in answer_of reply results no_room run rows_of controls sees with_export_order prime_handle admission_checks checks verdict
dropping_master_leaves_leases = refl

abbrev lessee_ids_are_limited-steps : List (Event × Result Answer Apart)
lessee_ids_are_limited-steps =
    (Open (Primary false true), Ok (Opened 1)) ∷
    (Ask 1 (CreateLease (2 ∷ 4 ∷ 8 ∷ [])), Ok (LeaseIs 1 1)) ∷
    (Ask 1 (CreateLease (1 ∷ 3 ∷ 7 ∷ [])), Ok (LeaseIs 2 2)) ∷
    (Ask 1 (CreateLease (2 ∷ 4 ∷ 8 ∷ [])), Ok (Denied DeniedLeasedOut)) ∷
    (Ask 1 (RevokeLease 1), Ok Done) ∷
    (Ask 1 (CreateLease (2 ∷ 4 ∷ 8 ∷ [])), Ok (LeaseIs 1 1)) ∷
    (Open (Lease 1 false true), Ok (Opened 7)) ∷
    (Ask 1 (RevokeLease 1), Ok Done) ∷
    (Ask 1 (CreateLease (2 ∷ 4 ∷ 8 ∷ [])), Ok (Denied DeniedFull)) ∷
    (Ask 1 ListLessees, Ok (ListIs (2 ∷ []))) ∷
    (Close 7, Ok Closed) ∷
    (Ask 1 (CreateLease (2 ∷ 4 ∷ 8 ∷ [])), Ok (LeaseIs 1 1)) ∷
    []

pub lessee_ids_are_limited : Gives (record { clients = 4; handles = 8; names = 8; tokens = 2; objects = 8; framebuffers = 4; lessees = 2; journal = 50 }) lessee_ids_are_limited-steps
unfolding chain_within first_passing least sorted_by numbers_from answer_kind_row told answer_with answer_kind_of kind_number kind_of kind_name are_in_range rule_of_number apart_of_number kind_row call_row call_with call_kind_of call_kind_of_word row_of call_number flags_of audit_rows audit_page dumb_pitch dumb_size buffer_size with_object with_stamp meaning with_client_capability changed swept after opening_checks opened closed ended with_spent with_authenticated with_master count_in answer_of reply results no_room run rows_of controls sees with_export_order prime_handle admission_checks checks verdict
lessee_ids_are_limited = refl

abbrev lease_tokens_are_limited-steps : List (Event × Result Answer Apart)
lease_tokens_are_limited-steps =
    (Open (Primary false true), Ok (Opened 1)) ∷
    (Ask 1 (CreateLease (2 ∷ 4 ∷ 8 ∷ [])), Ok (LeaseIs 1 1)) ∷
    (Ask 1 (CreateLease (1 ∷ 3 ∷ 7 ∷ [])), Ok (Denied DeniedFull)) ∷
    (Open Render, Ok (Opened 4)) ∷
    (Open Render, Ok (Opened 5)) ∷
    (Open (Lease 1 false true), Ok (Denied DeniedFull)) ∷
    (Open (Lease 2 false true), Ok (Denied DeniedNoLeaseToken)) ∷
    (Close 5, Ok Closed) ∷
    (Open (Lease 1 false true), Ok (Opened 9)) ∷
    (Ask 1 (CreateLease (1 ∷ 3 ∷ 7 ∷ [])), Ok (LeaseIs 2 1)) ∷
    (Ask 1 ListLessees, Ok (ListIs (1 ∷ 2 ∷ []))) ∷
    []

pub lease_tokens_are_limited : Gives (record { clients = 3; handles = 8; names = 8; tokens = 1; objects = 8; framebuffers = 4; lessees = 4; journal = 50 }) lease_tokens_are_limited-steps
unfolding chain_within first_passing least sorted_by numbers_from answer_kind_row told answer_with answer_kind_of kind_number kind_of kind_name are_in_range rule_of_number apart_of_number kind_row call_row call_with call_kind_of call_kind_of_word row_of call_number flags_of audit_rows audit_page dumb_pitch dumb_size buffer_size with_object with_stamp meaning with_client_capability changed swept after opening_checks opened closed ended with_spent with_authenticated with_master count_in answer_of reply results no_room run rows_of controls sees with_export_order prime_handle admission_checks checks verdict
lease_tokens_are_limited = refl

abbrev leases_go_with_their_owner-steps : List (Event × Result Answer Apart)
leases_go_with_their_owner-steps =
    (Open (Primary false true), Ok (Opened 1)) ∷
    (Open (Primary false true), Ok (Opened 2)) ∷
    (Ask 1 (CreateLease (2 ∷ 4 ∷ 8 ∷ [])), Ok (LeaseIs 1 1)) ∷
    (Ask 1 (CreateLease (1 ∷ 3 ∷ 7 ∷ [])), Ok (LeaseIs 2 2)) ∷
    (Open (Lease 2 false true), Ok (Opened 5)) ∷
    (Ask 2 (CreateLease (2 ∷ 4 ∷ 8 ∷ [])), Ok (Denied DeniedMaster)) ∷
    (Close 2, Ok Closed) ∷
    (Ask 1 ListLessees, Ok (ListIs (1 ∷ 2 ∷ []))) ∷
    (Ask 5 (GetCrtc 1), Ok (Number 0)) ∷
    (Close 1, Ok Closed) ∷
    (Open (Lease 1 false true), Ok (Denied DeniedNoLeaseToken)) ∷
    (Ask 5 GetResources, Ok (Resources ([]) ([]) (5 ∷ 6 ∷ []) ([]))) ∷
    (Ask 5 GetPlaneResources, Ok (ListIs ([]))) ∷
    (Ask 5 (GetEncoder 5), Ok (Number 0)) ∷
    (Ask 5 GetLease, Ok (Denied DeniedMaster)) ∷
    (Open (Primary false true), Ok (Opened 16)) ∷
    (Ask 16 ListLessees, Ok (ListIs ([]))) ∷
    (Ask 16 (RevokeLease 2), Ok (Denied DeniedNoLessee)) ∷
    (Ask 16 (CreateLease (1 ∷ 3 ∷ 7 ∷ [])), Ok (LeaseIs 1 3)) ∷
    (Close 5, Ok Closed) ∷
    []

pub leases_go_with_their_owner : Gives program_limits leases_go_with_their_owner-steps
unfolding chain_within first_passing least sorted_by numbers_from answer_kind_row told answer_with answer_kind_of kind_number kind_of kind_name are_in_range rule_of_number apart_of_number kind_row call_row call_with call_kind_of call_kind_of_word row_of call_number flags_of audit_rows audit_page dumb_pitch dumb_size buffer_size with_object with_stamp meaning with_client_capability changed swept after opening_checks opened closed ended with_spent with_authenticated with_master count_in answer_of reply results no_room run rows_of controls sees with_export_order prime_handle admission_checks checks verdict
leases_go_with_their_owner = refl

abbrev audits_of_leases_and_root_lessees-steps : List (Event × Result Answer Apart)
audits_of_leases_and_root_lessees-steps =
    (Open (Primary true true), Ok (Opened 1)) ∷
    (Ask 1 (CreateLease (8 ∷ 4 ∷ 2 ∷ [])), Ok (LeaseIs 1 1)) ∷
    (Ask 1 (Audit OfMaster 0), Ok (AuditIs ((audit_row 1 0 0 0) ∷ (audit_row 2 1 1 1) ∷ []))) ∷
    (Ask 1 (Audit OfGrant 0), Ok (AuditIs ((audit_row 2 2 0 0) ∷ (audit_row 2 4 0 0) ∷ (audit_row 2 8 0 0) ∷ []))) ∷
    (Ask 1 (Audit OfDevice 0), Ok (AuditIs ((audit_row 1 0 1 4) ∷ []))) ∷
    (Open (Lease 1 false true), Ok (Opened 6)) ∷
    (Ask 1 (Audit OfClient 0), Ok (AuditIs ((audit_row 1 30 1 0) ∷ (audit_row 6 20 2 0) ∷ []))) ∷
    (Ask 1 (Audit OfMaster 0), Ok (AuditIs ((audit_row 1 0 0 0) ∷ (audit_row 2 1 1 0) ∷ []))) ∷
    (Ask 6 (Audit OfMaster 0), Ok (Denied DeniedRootOnly)) ∷
    (Open (Lease 1 true true), Ok (Denied DeniedNoLeaseToken)) ∷
    (Ask 1 (RevokeLease 1), Ok Done) ∷
    (Ask 1 (RevokeLease 1), Ok Done) ∷
    (Ask 1 (Audit OfGrant 0), Ok (AuditIs ([]))) ∷
    (Ask 1 (Audit OfMaster 1), Ok (AuditIs ((audit_row 2 1 1 0) ∷ []))) ∷
    (Ask 1 (CreateLease (2 ∷ 4 ∷ 8 ∷ [])), Ok (LeaseIs 2 2)) ∷
    (Open (Lease 2 true true), Ok (Opened 16)) ∷
    (Ask 16 (Audit OfClient 0), Ok (AuditIs ((audit_row 1 30 1 0) ∷ (audit_row 6 20 2 0) ∷ (audit_row 16 22 15 0) ∷ []))) ∷
    (Ask 16 (Audit OfGrant 0), Ok (AuditIs ((audit_row 15 2 0 0) ∷ (audit_row 15 4 0 0) ∷ (audit_row 15 8 0 0) ∷ []))) ∷
    (Close 6, Ok Closed) ∷
    (Ask 16 (Audit OfMaster 0), Ok (AuditIs ((audit_row 1 0 0 0) ∷ (audit_row 15 1 2 0) ∷ []))) ∷
    []

pub audits_of_leases_and_root_lessees : Gives program_limits audits_of_leases_and_root_lessees-steps
unfolding chain_within first_passing least sorted_by numbers_from answer_kind_row told answer_with answer_kind_of kind_number kind_of kind_name are_in_range rule_of_number apart_of_number kind_row call_row call_with call_kind_of call_kind_of_word row_of call_number flags_of audit_rows audit_page dumb_pitch dumb_size buffer_size with_object with_stamp meaning with_client_capability changed swept after opening_checks opened closed ended with_spent with_authenticated with_master count_in answer_of reply results no_room run rows_of controls sees with_export_order prime_handle admission_checks checks verdict
audits_of_leases_and_root_lessees = refl
