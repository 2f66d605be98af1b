-- Made by tools/worked_rows.py: worked rows, as the definitions compute them. Which planes a client sees, and which come along with a lease.
use Rattle.std.proofs.Common.{◌≡◌, true, false, List, ◌∷◌, map, Result, Ok, refl, []}
use Rattle.drm_table.specs.declared.answers.Answer.{Answer}
use Rattle.drm_table.specs.declared.answers.Answer.TheVariants.{Done, Opened, Lease as LeaseIs, List as ListIs, Audit as AuditIs, Denied}
use Rattle.drm_table.specs.declared.apart.Apart.{Apart}
use Rattle.drm_table.specs.declared.rules.Rule.TheVariants.{BadCap as DeniedBadCap, LeaseShape as DeniedLeaseShape, LeasedOut as DeniedLeasedOut, NoModeObject as DeniedNoModeObject, RenderAllow as DeniedRenderAllow}
use Rattle.drm_table.specs.declared.calls.Call.TheVariants.{SetClientCap, Audit, GetPlaneResources, GetPlane, CreateLease, GetLease}
use Rattle.drm_table.specs.declared.events.Event.{Event}
use Rattle.drm_table.specs.declared.events.Event.TheVariants.{Open, Ask}
use Rattle.drm_table.specs.declared.events.Opening.TheVariants.{Primary, Render, Lease}
use Rattle.drm_table.specs.declared.limits.Limits.{Limits}
use Rattle.drm_table.specs.declared.audits.AuditKind.TheVariants.{Client as OfClient}
use Rattle.drm_index_array.specs.Chains.{chain_within}
use Rattle.drm_index_array.specs.Least.{first_passing, least}
use Rattle.drm_index_array.specs.Orders.{sorted_by}
use Rattle.drm_modes.specs.Numbers.{numbers_from}
use Rattle.drm_table.specs.Answers.{answer_kind_row, told, answer_with, answer_kind_of}
use Rattle.drm_table.specs.Audits.{kind_number, kind_of, kind_name}
use Rattle.drm_table.specs.Limits.{are_in_range}
use Rattle.drm_table.specs.Rules.{rule_of_number, apart_of_number}
use Rattle.drm_table.specs.Table.{kind_row, call_row, call_with, call_kind_of, call_kind_of_word, row_of, call_number, flags_of}
use Rattle.drm_model.specs.Audit.{audit_rows, audit_page}
use Rattle.drm_model.specs.Buffers.{dumb_pitch, dumb_size, buffer_size, with_object, with_stamp}
use Rattle.drm_model.specs.Calls.{meaning}
use Rattle.drm_model.specs.Capabilities.{with_client_capability}
use Rattle.drm_model.specs.Change.{changed, swept, after}
use Rattle.drm_model.specs.Clients.{opening_checks, opened, closed}
use Rattle.drm_model.specs.Leases.{ended}
use Rattle.drm_model.specs.Magics.{with_spent, with_authenticated, with_master}
use Rattle.drm_model.specs.Parts.{count_in}
use Rattle.drm_model.specs.Reply.{answer_of, reply}
use Rattle.drm_model.specs.Results.{results}
use Rattle.drm_model.specs.Run.{no_room, run, rows_of}
use Rattle.drm_model.specs.Sees.{controls, sees}
use Rattle.drm_model.specs.Sharing.{with_export_order, prime_handle}
use Rattle.drm_model.specs.Verdict.{admission_checks, checks, verdict}
use Rattle.drm_model.specs.Audit.{audit_row}
use Rattle.drm_model.specs.Rows.{empty_rows}
use Rattle.drm_modes.specs.declared.kinds.PlaneKind.TheVariants.{Overlay as OverlayPlane, Primary as PrimaryPlane}
use Rattle.drm_modes.specs.Topology.{Topology}

abbrev test_topology : Topology
test_topology = record { crtcs = 2; planes = 1 ∷ 2 ∷ []; kinds = PrimaryPlane 1 ∷ OverlayPlane ∷ []; encoders = 3 ∷ 2 ∷ []; connectors = 5 ∷ 6 ∷ [] }

abbrev program_limits : Limits
program_limits = record { clients = 64; handles = 65535; names = 65535; tokens = 65535; objects = 65535; framebuffers = 64; lessees = 64; journal = 100000 }

-- on a new device of these limits each event gets its answer
abbrev Gives : Limits → List (Event × Result Answer Apart) → Type 0
Gives limits steps = results (empty_rows test_topology limits) (map (λ step. step.0) steps) ≡ map (λ step. step.1) steps

abbrev planes_seen_and_brought_along-steps : List (Event × Result Answer Apart)
planes_seen_and_brought_along-steps =
    (Open (Primary false false), Ok (Opened 1)) ∷
    (Ask 1 GetPlaneResources, Ok (ListIs (4 ∷ []))) ∷
    (Ask 1 (GetPlane 3), Ok (Denied DeniedNoModeObject)) ∷
    (Ask 1 (SetClientCap 2 2), Ok (Denied DeniedBadCap)) ∷
    (Ask 1 (CreateLease (1 ∷ 7 ∷ [])), Ok (LeaseIs 1 1)) ∷
    (Open (Lease 1 false true), Ok (Opened 6)) ∷
    (Ask 6 GetLease, Ok (ListIs (1 ∷ 3 ∷ 7 ∷ []))) ∷
    (Ask 6 GetPlaneResources, Ok (ListIs (3 ∷ []))) ∷
    (Ask 1 (CreateLease (1 ∷ 8 ∷ [])), Ok (Denied DeniedLeasedOut)) ∷
    (Ask 1 (CreateLease (3 ∷ 2 ∷ 8 ∷ [])), Ok (Denied DeniedNoModeObject)) ∷
    (Ask 1 (SetClientCap 2 1), Ok Done) ∷
    (Ask 1 GetPlaneResources, Ok (ListIs (3 ∷ 4 ∷ []))) ∷
    (Ask 1 (CreateLease (2 ∷ 8 ∷ [])), Ok (Denied DeniedLeaseShape)) ∷
    (Ask 1 (SetClientCap 2 0), Ok Done) ∷
    (Ask 1 (CreateLease (2 ∷ 8 ∷ [])), Ok (LeaseIs 2 2)) ∷
    (Open (Lease 2 false false), Ok (Opened 16)) ∷
    (Ask 16 GetLease, Ok (ListIs (2 ∷ 8 ∷ []))) ∷
    (Open (Primary false true), Ok (Opened 18)) ∷
    (Ask 18 GetPlaneResources, Ok (ListIs (3 ∷ 4 ∷ []))) ∷
    []

pub planes_seen_and_brought_along : Gives program_limits planes_seen_and_brought_along-steps
unfolding chain_within first_passing least sorted_by numbers_from answer_kind_row told answer_with answer_kind_of kind_number kind_of kind_name are_in_range rule_of_number apart_of_number kind_row call_row call_with call_kind_of call_kind_of_word row_of call_number flags_of audit_rows audit_page dumb_pitch dumb_size buffer_size with_object with_stamp meaning with_client_capability changed swept after opening_checks opened closed ended with_spent with_authenticated with_master count_in answer_of reply results no_room run rows_of controls sees with_export_order prime_handle admission_checks checks verdict
planes_seen_and_brought_along = refl

abbrev planes_brought_along_are_leased_out-steps : List (Event × Result Answer Apart)
planes_brought_along_are_leased_out-steps =
    (Open (Primary false false), Ok (Opened 1)) ∷
    (Ask 1 (SetClientCap 2 1), Ok Done) ∷
    (Ask 1 (CreateLease (2 ∷ 3 ∷ 8 ∷ [])), Ok (LeaseIs 1 1)) ∷
    (Ask 1 (SetClientCap 2 0), Ok Done) ∷
    (Ask 1 (CreateLease (1 ∷ 7 ∷ [])), Ok (Denied DeniedLeasedOut)) ∷
    []

pub planes_brought_along_are_leased_out : Gives program_limits planes_brought_along_are_leased_out-steps
unfolding chain_within first_passing least sorted_by numbers_from answer_kind_row told answer_with answer_kind_of kind_number kind_of kind_name are_in_range rule_of_number apart_of_number kind_row call_row call_with call_kind_of call_kind_of_word row_of call_number flags_of audit_rows audit_page dumb_pitch dumb_size buffer_size with_object with_stamp meaning with_client_capability changed swept after opening_checks opened closed ended with_spent with_authenticated with_master count_in answer_of reply results no_room run rows_of controls sees with_export_order prime_handle admission_checks checks verdict
planes_brought_along_are_leased_out = refl

abbrev universal_planes_of_each_client-steps : List (Event × Result Answer Apart)
universal_planes_of_each_client-steps =
    (Open (Primary true false), Ok (Opened 1)) ∷
    (Ask 1 (Audit OfClient 0), Ok (AuditIs ((audit_row 1 94 1 0) ∷ []))) ∷
    (Open Render, Ok (Opened 3)) ∷
    (Open (Primary false false), Ok (Opened 4)) ∷
    (Open (Primary false true), Ok (Opened 5)) ∷
    (Ask 1 (Audit OfClient 0), Ok (AuditIs ((audit_row 1 94 1 0) ∷ (audit_row 3 1 0 0) ∷ (audit_row 4 64 1 0) ∷ (audit_row 5 0 1 0) ∷ []))) ∷
    (Ask 3 (SetClientCap 2 0), Ok (Denied DeniedRenderAllow)) ∷
    (Ask 4 (SetClientCap 1 1), Ok (Denied DeniedBadCap)) ∷
    (Ask 4 (SetClientCap 2 1), Ok Done) ∷
    (Ask 4 GetPlaneResources, Ok (ListIs (3 ∷ 4 ∷ []))) ∷
    (Ask 4 (SetClientCap 2 1), Ok Done) ∷
    (Ask 5 (SetClientCap 2 0), Ok Done) ∷
    (Ask 1 (SetClientCap 2 1), Ok Done) ∷
    (Ask 1 (Audit OfClient 0), Ok (AuditIs ((audit_row 1 30 1 0) ∷ (audit_row 3 1 0 0) ∷ (audit_row 4 0 1 0) ∷ (audit_row 5 64 1 0) ∷ []))) ∷
    []

pub universal_planes_of_each_client : Gives program_limits universal_planes_of_each_client-steps
unfolding chain_within first_passing least sorted_by numbers_from answer_kind_row told answer_with answer_kind_of kind_number kind_of kind_name are_in_range rule_of_number apart_of_number kind_row call_row call_with call_kind_of call_kind_of_word row_of call_number flags_of audit_rows audit_page dumb_pitch dumb_size buffer_size with_object with_stamp meaning with_client_capability changed swept after opening_checks opened closed ended with_spent with_authenticated with_master count_in answer_of reply results no_room run rows_of controls sees with_export_order prime_handle admission_checks checks verdict
universal_planes_of_each_client = refl
