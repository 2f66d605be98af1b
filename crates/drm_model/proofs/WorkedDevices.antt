-- Made by tools/worked_rows.py: worked rows, as the definitions compute them. Clients, what a device notes, and calls that it doesn't know.
use Rattle.std.proofs.Common.{◌≡◌, true, false, List, ◌∷◌, map, Result, Ok, Err, refl, []}
use Rattle.drm_table.specs.declared.answers.Answer.{Answer}
use Rattle.drm_table.specs.declared.answers.Answer.TheVariants.{Done, Opened, Version as VersionIs, Number, Dumb, Buffer, Audit as AuditIs, Closed, Denied}
use Rattle.drm_table.specs.declared.apart.Apart.{Apart}
use Rattle.drm_table.specs.declared.apart.Apart.TheVariants.{JournalFull}
use Rattle.drm_table.specs.declared.rules.Rule.TheVariants.{Auth as DeniedAuth, BadCap as DeniedBadCap, Layout as DeniedLayout, Master as DeniedMaster, NoClient as DeniedNoClient, NoHandleToClose as DeniedNoHandleToClose, NoLeaseToken as DeniedNoLeaseToken, RenderAllow as DeniedRenderAllow, RootOnly as DeniedRootOnly, Unknown as DeniedUnknown}
use Rattle.drm_table.specs.declared.calls.Call.TheVariants.{Unknown as UnknownCall, BadLayout, Version, GemClose, GemFlink, GetCap, SetClientCap, AuthMagic, BufCreate, Audit, SetCrtc, CreateDumb}
use Rattle.drm_table.specs.declared.events.Event.{Event}
use Rattle.drm_table.specs.declared.events.Event.TheVariants.{Open, Ask, Close}
use Rattle.drm_table.specs.declared.events.Opening.TheVariants.{Primary, Render, Lease}
use Rattle.drm_table.specs.declared.limits.Limits.{Limits}
use Rattle.drm_table.specs.declared.audits.AuditKind.TheVariants.{Client as OfClient, Master as OfMaster, Object as OfObject, Hold as OfHold, Device as OfDevice}
use Rattle.drm_index_array.specs.Chains.{chain_within}
use Rattle.drm_index_array.specs.Least.{first_passing, least}
use Rattle.drm_index_array.specs.Orders.{sorted_by}
use Rattle.drm_modes.specs.Numbers.{numbers_from}
use Rattle.drm_table.specs.Answers.{answer_kind_row, told, answer_with, answer_kind_of}
use Rattle.drm_table.specs.Audits.{kind_number, kind_of, kind_name}
use Rattle.drm_table.specs.Limits.{are_in_range}
use Rattle.drm_table.specs.Rules.{rule_of_number, apart_of_number}
use Rattle.drm_table.specs.Table.{kind_row, call_row, call_with, call_kind_of, call_kind_of_word, row_of, call_number, flags_of}
use Rattle.drm_model.specs.Audit.{audit_rows, audit_page}
use Rattle.drm_model.specs.Buffers.{dumb_pitch, dumb_size, buffer_size, with_object, with_stamp}
use Rattle.drm_model.specs.Calls.{meaning}
use Rattle.drm_model.specs.Capabilities.{with_client_capability}
use Rattle.drm_model.specs.Change.{changed, swept, after}
use Rattle.drm_model.specs.Clients.{opening_checks, opened, closed}
use Rattle.drm_model.specs.Leases.{ended}
use Rattle.drm_model.specs.Magics.{with_spent, with_authenticated, with_master}
use Rattle.drm_model.specs.Parts.{count_in}
use Rattle.drm_model.specs.Reply.{answer_of, reply}
use Rattle.drm_model.specs.Results.{results}
use Rattle.drm_model.specs.Run.{no_room, run, rows_of}
use Rattle.drm_model.specs.Sees.{controls, sees}
use Rattle.drm_model.specs.Sharing.{with_export_order, prime_handle}
use Rattle.drm_model.specs.Verdict.{admission_checks, checks, verdict}
use Rattle.drm_model.specs.Audit.{audit_row}
use Rattle.drm_model.specs.Rows.{empty_rows}
use Rattle.drm_modes.specs.declared.kinds.PlaneKind.TheVariants.{Overlay as OverlayPlane, Primary as PrimaryPlane}
use Rattle.drm_modes.specs.Topology.{Topology}

abbrev test_topology : Topology
test_topology = record { crtcs = 2; planes = 1 ∷ 2 ∷ []; kinds = PrimaryPlane 1 ∷ OverlayPlane ∷ []; encoders = 3 ∷ 2 ∷ []; connectors = 5 ∷ 6 ∷ [] }

abbrev program_limits : Limits
program_limits = record { clients = 64; handles = 65535; names = 65535; tokens = 65535; objects = 65535; framebuffers = 64; lessees = 64; journal = 100000 }

-- on a new device of these limits each event gets its answer
abbrev Gives : Limits → List (Event × Result Answer Apart) → Type 0
Gives limits steps = results (empty_rows test_topology limits) (map (λ step. step.0) steps) ≡ map (λ step. step.1) steps

abbrev buffer_is_made_and_closed-steps : List (Event × Result Answer Apart)
buffer_is_made_and_closed-steps =
    (Open (Primary false true), Ok (Opened 1)) ∷
    (Ask 1 Version, Ok (VersionIs 1 0 0)) ∷
    (Ask 1 (CreateDumb 64 64 32), Ok (Dumb 1 256 16384)) ∷
    (Ask 1 (GemClose 1), Ok Done) ∷
    (Ask 1 (GemClose 1), Ok (Denied DeniedNoHandleToClose)) ∷
    (Close 1, Ok Closed) ∷
    []

pub buffer_is_made_and_closed : Gives program_limits buffer_is_made_and_closed-steps
unfolding chain_within first_passing least sorted_by numbers_from answer_kind_row told answer_with answer_kind_of kind_number kind_of kind_name are_in_range rule_of_number apart_of_number kind_row call_row call_with call_kind_of call_kind_of_word row_of call_number flags_of audit_rows audit_page dumb_pitch dumb_size buffer_size with_object with_stamp meaning with_client_capability changed swept after opening_checks opened closed ended with_spent with_authenticated with_master count_in answer_of reply results no_room run rows_of controls sees with_export_order prime_handle admission_checks checks verdict
buffer_is_made_and_closed = refl

abbrev full_journal-steps : List (Event × Result Answer Apart)
full_journal-steps =
    (Open (Primary false true), Ok (Opened 1)) ∷
    (Open Render, Ok (Opened 2)) ∷
    (Ask 1 Version, Ok (VersionIs 1 0 0)) ∷
    (Ask 2 Version, Ok (VersionIs 1 0 0)) ∷
    (Ask 1 Version, Err JournalFull) ∷
    (Open Render, Err JournalFull) ∷
    (Close 2, Ok Closed) ∷
    (Close 1, Ok Closed) ∷
    (Close 1, Err JournalFull) ∷
    []

pub full_journal : Gives (record { clients = 2; handles = 8; names = 8; tokens = 8; objects = 8; framebuffers = 4; lessees = 4; journal = 6 }) full_journal-steps
unfolding chain_within first_passing least sorted_by numbers_from answer_kind_row told answer_with answer_kind_of kind_number kind_of kind_name are_in_range rule_of_number apart_of_number kind_row call_row call_with call_kind_of call_kind_of_word row_of call_number flags_of audit_rows audit_page dumb_pitch dumb_size buffer_size with_object with_stamp meaning with_client_capability changed swept after opening_checks opened closed ended with_spent with_authenticated with_master count_in answer_of reply results no_room run rows_of controls sees with_export_order prime_handle admission_checks checks verdict
full_journal = refl

abbrev render_and_lease_openings-steps : List (Event × Result Answer Apart)
render_and_lease_openings-steps =
    (Open (Primary false true), Ok (Opened 1)) ∷
    (Open Render, Ok (Opened 2)) ∷
    (Ask 2 (CreateDumb 1 1 32), Ok (Denied DeniedRenderAllow)) ∷
    (Ask 2 (BufCreate 4096), Ok (Buffer 1 4096)) ∷
    (Open (Lease 1 false true), Ok (Denied DeniedNoLeaseToken)) ∷
    (Ask 0 Version, Ok (Denied DeniedNoClient)) ∷
    (Close 2, Ok Closed) ∷
    (Ask 2 Version, Ok (Denied DeniedNoClient)) ∷
    []

pub render_and_lease_openings : Gives program_limits render_and_lease_openings-steps
unfolding chain_within first_passing least sorted_by numbers_from answer_kind_row told answer_with answer_kind_of kind_number kind_of kind_name are_in_range rule_of_number apart_of_number kind_row call_row call_with call_kind_of call_kind_of_word row_of call_number flags_of audit_rows audit_page dumb_pitch dumb_size buffer_size with_object with_stamp meaning with_client_capability changed swept after opening_checks opened closed ended with_spent with_authenticated with_master count_in answer_of reply results no_room run rows_of controls sees with_export_order prime_handle admission_checks checks verdict
render_and_lease_openings = refl

abbrev clients_of_render_nodes-steps : List (Event × Result Answer Apart)
clients_of_render_nodes-steps =
    (Open (Primary false true), Ok (Opened 1)) ∷
    (Open Render, Ok (Opened 2)) ∷
    (Ask 2 (CreateDumb 1 1 32), Ok (Denied DeniedRenderAllow)) ∷
    (Open (Lease 1 false true), Ok (Denied DeniedNoLeaseToken)) ∷
    (Ask 0 Version, Ok (Denied DeniedNoClient)) ∷
    (Close 2, Ok Closed) ∷
    (Ask 2 Version, Ok (Denied DeniedNoClient)) ∷
    []

pub clients_of_render_nodes : Gives program_limits clients_of_render_nodes-steps
unfolding chain_within first_passing least sorted_by numbers_from answer_kind_row told answer_with answer_kind_of kind_number kind_of kind_name are_in_range rule_of_number apart_of_number kind_row call_row call_with call_kind_of call_kind_of_word row_of call_number flags_of audit_rows audit_page dumb_pitch dumb_size buffer_size with_object with_stamp meaning with_client_capability changed swept after opening_checks opened closed ended with_spent with_authenticated with_master count_in answer_of reply results no_room run rows_of controls sees with_export_order prime_handle admission_checks checks verdict
clients_of_render_nodes = refl

abbrev numbers_without_a_row-steps : List (Event × Result Answer Apart)
numbers_without_a_row-steps =
    (Open (Primary false true), Ok (Opened 1)) ∷
    (Ask 1 (UnknownCall 65535), Ok (Denied DeniedUnknown)) ∷
    (Ask 1 (BadLayout 0), Ok (Denied DeniedLayout)) ∷
    (Ask 0 Version, Ok (Denied DeniedNoClient)) ∷
    []

pub numbers_without_a_row : Gives program_limits numbers_without_a_row-steps
unfolding chain_within first_passing least sorted_by numbers_from answer_kind_row told answer_with answer_kind_of kind_number kind_of kind_name are_in_range rule_of_number apart_of_number kind_row call_row call_with call_kind_of call_kind_of_word row_of call_number flags_of audit_rows audit_page dumb_pitch dumb_size buffer_size with_object with_stamp meaning with_client_capability changed swept after opening_checks opened closed ended with_spent with_authenticated with_master count_in answer_of reply results no_room run rows_of controls sees with_export_order prime_handle admission_checks checks verdict
numbers_without_a_row = refl

abbrev unknown_calls_of_nobody-steps : List (Event × Result Answer Apart)
unknown_calls_of_nobody-steps =
    (Ask 0 (UnknownCall 65535), Ok (Denied DeniedUnknown)) ∷
    (Ask 0 (BadLayout 0), Ok (Denied DeniedLayout)) ∷
    []

pub unknown_calls_of_nobody : Gives program_limits unknown_calls_of_nobody-steps
unfolding chain_within first_passing least sorted_by numbers_from answer_kind_row told answer_with answer_kind_of kind_number kind_of kind_name are_in_range rule_of_number apart_of_number kind_row call_row call_with call_kind_of call_kind_of_word row_of call_number flags_of audit_rows audit_page dumb_pitch dumb_size buffer_size with_object with_stamp meaning with_client_capability changed swept after opening_checks opened closed ended with_spent with_authenticated with_master count_in answer_of reply results no_room run rows_of controls sees with_export_order prime_handle admission_checks checks verdict
unknown_calls_of_nobody = refl

abbrev closings_and_tokens_of_nobody-steps : List (Event × Result Answer Apart)
closings_and_tokens_of_nobody-steps =
    (Close 0, Ok (Denied DeniedNoClient)) ∷
    (Open (Primary true true), Ok (Opened 2)) ∷
    (Open (Lease 7 true true), Ok (Denied DeniedNoLeaseToken)) ∷
    []

pub closings_and_tokens_of_nobody : Gives program_limits closings_and_tokens_of_nobody-steps
unfolding chain_within first_passing least sorted_by numbers_from answer_kind_row told answer_with answer_kind_of kind_number kind_of kind_name are_in_range rule_of_number apart_of_number kind_row call_row call_with call_kind_of call_kind_of_word row_of call_number flags_of audit_rows audit_page dumb_pitch dumb_size buffer_size with_object with_stamp meaning with_client_capability changed swept after opening_checks opened closed ended with_spent with_authenticated with_master count_in answer_of reply results no_room run rows_of controls sees with_export_order prime_handle admission_checks checks verdict
closings_and_tokens_of_nobody = refl

abbrev closings_that_are_denied_are_noted-steps : List (Event × Result Answer Apart)
closings_that_are_denied_are_noted-steps =
    (Close 0, Ok (Denied DeniedNoClient)) ∷
    (Open (Lease 9 false true), Ok (Denied DeniedNoLeaseToken)) ∷
    (Open (Primary false true), Ok (Opened 3)) ∷
    (Ask 3 Version, Err JournalFull) ∷
    (Close 3, Ok Closed) ∷
    []

pub closings_that_are_denied_are_noted : Gives (record { clients = 2; handles = 8; names = 8; tokens = 8; objects = 8; framebuffers = 4; lessees = 4; journal = 4 }) closings_that_are_denied_are_noted-steps
unfolding chain_within first_passing least sorted_by numbers_from answer_kind_row told answer_with answer_kind_of kind_number kind_of kind_name are_in_range rule_of_number apart_of_number kind_row call_row call_with call_kind_of call_kind_of_word row_of call_number flags_of audit_rows audit_page dumb_pitch dumb_size buffer_size with_object with_stamp meaning with_client_capability changed swept after opening_checks opened closed ended with_spent with_authenticated with_master count_in answer_of reply results no_room run rows_of controls sees with_export_order prime_handle admission_checks checks verdict
closings_that_are_denied_are_noted = refl

abbrev capabilities_and_unknown_calls-steps : List (Event × Result Answer Apart)
capabilities_and_unknown_calls-steps =
    (Open (Primary false true), Ok (Opened 1)) ∷
    (Ask 1 (GetCap 1), Ok (Number 1)) ∷
    (Ask 1 (GetCap 5), Ok (Number 3)) ∷
    (Ask 1 (GetCap 2), Ok (Denied DeniedBadCap)) ∷
    (Ask 1 (SetClientCap 2 1), Ok Done) ∷
    (Ask 1 (UnknownCall 65535), Ok (Denied DeniedUnknown)) ∷
    (Ask 1 (BadLayout 0), Ok (Denied DeniedLayout)) ∷
    (Ask 0 Version, Ok (Denied DeniedNoClient)) ∷
    []

pub capabilities_and_unknown_calls : Gives program_limits capabilities_and_unknown_calls-steps
unfolding chain_within first_passing least sorted_by numbers_from answer_kind_row told answer_with answer_kind_of kind_number kind_of kind_name are_in_range rule_of_number apart_of_number kind_row call_row call_with call_kind_of call_kind_of_word row_of call_number flags_of audit_rows audit_page dumb_pitch dumb_size buffer_size with_object with_stamp meaning with_client_capability changed swept after opening_checks opened closed ended with_spent with_authenticated with_master count_in answer_of reply results no_room run rows_of controls sees with_export_order prime_handle admission_checks checks verdict
capabilities_and_unknown_calls = refl

abbrev audit_is_for_root-steps : List (Event × Result Answer Apart)
audit_is_for_root-steps =
    (Open (Primary false true), Ok (Opened 1)) ∷
    (Open (Primary false true), Ok (Opened 2)) ∷
    (Ask 2 (GemFlink 1), Ok (Denied DeniedAuth)) ∷
    (Ask 2 (SetCrtc 1 0 0), Ok (Denied DeniedMaster)) ∷
    (Ask 2 (AuthMagic 1), Ok (Denied DeniedMaster)) ∷
    (Ask 2 (Audit OfClient 0), Ok (Denied DeniedRootOnly)) ∷
    (Open (Primary true true), Ok (Opened 7)) ∷
    (Ask 7 (Audit OfClient 0), Ok (AuditIs ((audit_row 1 28 1 0) ∷ (audit_row 2 0 1 0) ∷ (audit_row 7 6 1 0) ∷ []))) ∷
    []

pub audit_is_for_root : Gives program_limits audit_is_for_root-steps
unfolding chain_within first_passing least sorted_by numbers_from answer_kind_row told answer_with answer_kind_of kind_number kind_of kind_name are_in_range rule_of_number apart_of_number kind_row call_row call_with call_kind_of call_kind_of_word row_of call_number flags_of audit_rows audit_page dumb_pitch dumb_size buffer_size with_object with_stamp meaning with_client_capability changed swept after opening_checks opened closed ended with_spent with_authenticated with_master count_in answer_of reply results no_room run rows_of controls sees with_export_order prime_handle admission_checks checks verdict
audit_is_for_root = refl

abbrev audit_pages-steps : List (Event × Result Answer Apart)
audit_pages-steps =
    (Open (Primary true true), Ok (Opened 1)) ∷
    (Open Render, Ok (Opened 2)) ∷
    (Ask 2 (Audit OfClient 0), Ok (Denied DeniedRootOnly)) ∷
    (Ask 1 (CreateDumb 64 64 32), Ok (Dumb 1 256 16384)) ∷
    (Ask 1 (CreateDumb 1 1 32), Ok (Dumb 2 64 4096)) ∷
    (Ask 1 (Audit OfClient 1), Ok (AuditIs ((audit_row 2 1 0 0) ∷ []))) ∷
    (Ask 1 (Audit OfMaster 0), Ok (AuditIs ((audit_row 1 0 0 0) ∷ []))) ∷
    (Ask 1 (Audit OfObject 0), Ok (AuditIs ((audit_row 4 16384 1 0) ∷ (audit_row 5 4096 1 0) ∷ []))) ∷
    (Ask 1 (Audit OfHold 0), Ok (AuditIs ((audit_row 1 1 4 0) ∷ (audit_row 1 2 5 0) ∷ []))) ∷
    (Ask 1 (Audit OfHold 2), Ok (AuditIs ([]))) ∷
    (Ask 1 (Audit OfDevice 0), Ok (AuditIs ((audit_row 1 0 0 10) ∷ []))) ∷
    (Ask 1 (GemClose 1), Ok Done) ∷
    (Ask 1 (CreateDumb 1 1 8), Ok (Dumb 1 64 4096)) ∷
    (Ask 1 (Audit OfHold 0), Ok (AuditIs ((audit_row 1 1 13 0) ∷ (audit_row 1 2 5 0) ∷ []))) ∷
    []

pub audit_pages : Gives program_limits audit_pages-steps
unfolding chain_within first_passing least sorted_by numbers_from answer_kind_row told answer_with answer_kind_of kind_number kind_of kind_name are_in_range rule_of_number apart_of_number kind_row call_row call_with call_kind_of call_kind_of_word row_of call_number flags_of audit_rows audit_page dumb_pitch dumb_size buffer_size with_object with_stamp meaning with_client_capability changed swept after opening_checks opened closed ended with_spent with_authenticated with_master count_in answer_of reply results no_room run rows_of controls sees with_export_order prime_handle admission_checks checks verdict
audit_pages = refl
