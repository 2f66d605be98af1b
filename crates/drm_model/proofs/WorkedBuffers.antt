-- Made by tools/worked_rows.py: worked rows, as the definitions compute them. Buffers, their handles and stamps.
use Rattle.std.proofs.Common.{◌≡◌, true, false, List, ◌∷◌, map, Result, Ok, refl, []}
use Rattle.drm_table.specs.declared.answers.Answer.{Answer}
use Rattle.drm_table.specs.declared.answers.Answer.TheVariants.{Done, Opened, Number, Dumb, Buffer, List as ListIs, Audit as AuditIs, Denied}
use Rattle.drm_table.specs.declared.apart.Apart.{Apart}
use Rattle.drm_table.specs.declared.rules.Rule.TheVariants.{BadSize as DeniedBadSize, Full as DeniedFull, NoHandle as DeniedNoHandle, NoHandleToClose as DeniedNoHandleToClose, RenderAllow as DeniedRenderAllow}
use Rattle.drm_table.specs.declared.calls.Call.TheVariants.{GemClose, GemFlink, GemOpen, PrimeHandleToFd, BufCreate, StampWrite, StampRead, TokenClose, ListHandles, Audit, CreateDumb, DestroyDumb}
use Rattle.drm_table.specs.declared.events.Event.{Event}
use Rattle.drm_table.specs.declared.events.Event.TheVariants.{Open, Ask}
use Rattle.drm_table.specs.declared.events.Opening.TheVariants.{Primary, Render}
use Rattle.drm_table.specs.declared.limits.Limits.{Limits}
use Rattle.drm_table.specs.declared.audits.AuditKind.TheVariants.{Object as OfObject}
use Rattle.drm_index_array.specs.Chains.{chain_within}
use Rattle.drm_index_array.specs.Least.{first_passing, least}
use Rattle.drm_index_array.specs.Orders.{sorted_by}
use Rattle.drm_modes.specs.Numbers.{numbers_from}
use Rattle.drm_table.specs.Answers.{answer_kind_row, told, answer_with, answer_kind_of}
use Rattle.drm_table.specs.Audits.{kind_number, kind_of, kind_name}
use Rattle.drm_table.specs.Limits.{are_in_range}
use Rattle.drm_table.specs.Rules.{rule_of_number, apart_of_number}
use Rattle.drm_table.specs.Table.{kind_row, call_row, call_with, call_kind_of, call_kind_of_word, row_of, call_number, flags_of}
use Rattle.drm_model.specs.Audit.{audit_rows, audit_page}
use Rattle.drm_model.specs.Buffers.{dumb_pitch, dumb_size, buffer_size, with_object, with_stamp}
use Rattle.drm_model.specs.Calls.{meaning}
use Rattle.drm_model.specs.Capabilities.{with_client_capability}
use Rattle.drm_model.specs.Change.{changed, swept, after}
use Rattle.drm_model.specs.Clients.{opening_checks, opened, closed}
use Rattle.drm_model.specs.Leases.{ended}
use Rattle.drm_model.specs.Magics.{with_spent, with_authenticated, with_master}
use Rattle.drm_model.specs.Parts.{count_in}
use Rattle.drm_model.specs.Reply.{answer_of, reply}
use Rattle.drm_model.specs.Results.{results}
use Rattle.drm_model.specs.Run.{no_room, run, rows_of}
use Rattle.drm_model.specs.Sees.{controls, sees}
use Rattle.drm_model.specs.Sharing.{with_export_order, prime_handle}
use Rattle.drm_model.specs.Verdict.{admission_checks, checks, verdict}
use Rattle.drm_model.specs.Audit.{audit_row}
use Rattle.drm_model.specs.Rows.{empty_rows}
use Rattle.drm_modes.specs.declared.kinds.PlaneKind.TheVariants.{Overlay as OverlayPlane, Primary as PrimaryPlane}
use Rattle.drm_modes.specs.Topology.{Topology}

abbrev test_topology : Topology
test_topology = record { crtcs = 2; planes = 1 ∷ 2 ∷ []; kinds = PrimaryPlane 1 ∷ OverlayPlane ∷ []; encoders = 3 ∷ 2 ∷ []; connectors = 5 ∷ 6 ∷ [] }

abbrev program_limits : Limits
program_limits = record { clients = 64; handles = 65535; names = 65535; tokens = 65535; objects = 65535; framebuffers = 64; lessees = 64; journal = 100000 }

-- on a new device of these limits each event gets its answer
abbrev Gives : Limits → List (Event × Result Answer Apart) → Type 0
Gives limits steps = results (empty_rows test_topology limits) (map (λ step. step.0) steps) ≡ map (λ step. step.1) steps

abbrev dumb_shapes-steps : List (Event × Result Answer Apart)
dumb_shapes-steps =
    (Open (Primary false true), Ok (Opened 1)) ∷
    (Ask 1 (CreateDumb 1 1 32), Ok (Dumb 1 64 4096)) ∷
    (Ask 1 (CreateDumb 0 1 32), Ok (Denied DeniedBadSize)) ∷
    (Ask 1 (CreateDumb 65535 65535 64), Ok (Dumb 2 524288 34359214080)) ∷
    (Ask 1 (CreateDumb 65536 1 32), Ok (Denied DeniedBadSize)) ∷
    []

pub dumb_shapes : Gives program_limits dumb_shapes-steps
unfolding chain_within first_passing least sorted_by numbers_from answer_kind_row told answer_with answer_kind_of kind_number kind_of kind_name are_in_range rule_of_number apart_of_number kind_row call_row call_with call_kind_of call_kind_of_word row_of call_number flags_of audit_rows audit_page dumb_pitch dumb_size buffer_size with_object with_stamp meaning with_client_capability changed swept after opening_checks opened closed ended with_spent with_authenticated with_master count_in answer_of reply results no_room run rows_of controls sees with_export_order prime_handle admission_checks checks verdict
dumb_shapes = refl

abbrev buffers_and_their_handles-steps : List (Event × Result Answer Apart)
buffers_and_their_handles-steps =
    (Open (Primary false true), Ok (Opened 1)) ∷
    (Ask 1 (BufCreate 1), Ok (Buffer 1 4096)) ∷
    (Ask 1 (BufCreate 1), Ok (Buffer 2 4096)) ∷
    (Ask 1 (BufCreate 1), Ok (Buffer 3 4096)) ∷
    (Ask 1 (GemClose 2), Ok Done) ∷
    (Ask 1 (BufCreate 4097), Ok (Buffer 2 8192)) ∷
    (Ask 1 (GemClose 2), Ok Done) ∷
    (Ask 1 (GemClose 2), Ok (Denied DeniedNoHandleToClose)) ∷
    (Ask 1 (ListHandles 0), Ok (ListIs (1 ∷ 3 ∷ []))) ∷
    []

pub buffers_and_their_handles : Gives program_limits buffers_and_their_handles-steps
unfolding chain_within first_passing least sorted_by numbers_from answer_kind_row told answer_with answer_kind_of kind_number kind_of kind_name are_in_range rule_of_number apart_of_number kind_row call_row call_with call_kind_of call_kind_of_word row_of call_number flags_of audit_rows audit_page dumb_pitch dumb_size buffer_size with_object with_stamp meaning with_client_capability changed swept after opening_checks opened closed ended with_spent with_authenticated with_master count_in answer_of reply results no_room run rows_of controls sees with_export_order prime_handle admission_checks checks verdict
buffers_and_their_handles = refl

abbrev buffers_of_bad_sizes-steps : List (Event × Result Answer Apart)
buffers_of_bad_sizes-steps =
    (Open (Primary false true), Ok (Opened 1)) ∷
    (Ask 1 (BufCreate 0), Ok (Denied DeniedBadSize)) ∷
    (Ask 1 (BufCreate 68719476737), Ok (Denied DeniedBadSize)) ∷
    (Ask 1 (BufCreate 68719476736), Ok (Buffer 1 68719476736)) ∷
    (Ask 1 (ListHandles 1), Ok (ListIs (1 ∷ []))) ∷
    (Ask 1 (ListHandles 2), Ok (ListIs ([]))) ∷
    (Ask 1 (DestroyDumb 1), Ok Done) ∷
    (Ask 1 (DestroyDumb 1), Ok (Denied DeniedNoHandleToClose)) ∷
    []

pub buffers_of_bad_sizes : Gives program_limits buffers_of_bad_sizes-steps
unfolding chain_within first_passing least sorted_by numbers_from answer_kind_row told answer_with answer_kind_of kind_number kind_of kind_name are_in_range rule_of_number apart_of_number kind_row call_row call_with call_kind_of call_kind_of_word row_of call_number flags_of audit_rows audit_page dumb_pitch dumb_size buffer_size with_object with_stamp meaning with_client_capability changed swept after opening_checks opened closed ended with_spent with_authenticated with_master count_in answer_of reply results no_room run rows_of controls sees with_export_order prime_handle admission_checks checks verdict
buffers_of_bad_sizes = refl

abbrev stamps_of_buffers-steps : List (Event × Result Answer Apart)
stamps_of_buffers-steps =
    (Open (Primary false true), Ok (Opened 1)) ∷
    (Open Render, Ok (Opened 2)) ∷
    (Ask 1 (BufCreate 5000), Ok (Buffer 1 8192)) ∷
    (Ask 1 (StampRead 1), Ok (Number 0)) ∷
    (Ask 1 (StampWrite 1 77), Ok Done) ∷
    (Ask 1 (StampRead 1), Ok (Number 77)) ∷
    (Ask 1 (StampRead 2), Ok (Denied DeniedNoHandle)) ∷
    (Ask 2 (StampWrite 1 5), Ok (Denied DeniedNoHandle)) ∷
    (Ask 2 (BufCreate 4096), Ok (Buffer 1 4096)) ∷
    (Ask 2 (StampRead 1), Ok (Number 0)) ∷
    (Ask 1 (StampRead 1), Ok (Number 77)) ∷
    (Ask 2 (DestroyDumb 1), Ok (Denied DeniedRenderAllow)) ∷
    []

pub stamps_of_buffers : Gives program_limits stamps_of_buffers-steps
unfolding chain_within first_passing least sorted_by numbers_from answer_kind_row told answer_with answer_kind_of kind_number kind_of kind_name are_in_range rule_of_number apart_of_number kind_row call_row call_with call_kind_of call_kind_of_word row_of call_number flags_of audit_rows audit_page dumb_pitch dumb_size buffer_size with_object with_stamp meaning with_client_capability changed swept after opening_checks opened closed ended with_spent with_authenticated with_master count_in answer_of reply results no_room run rows_of controls sees with_export_order prime_handle admission_checks checks verdict
stamps_of_buffers = refl

abbrev handles_are_limited-steps : List (Event × Result Answer Apart)
handles_are_limited-steps =
    (Open (Primary false true), Ok (Opened 1)) ∷
    (Ask 1 (CreateDumb 1 1 8), Ok (Dumb 1 64 4096)) ∷
    (Ask 1 (CreateDumb 1 1 8), Ok (Dumb 2 64 4096)) ∷
    (Ask 1 (CreateDumb 1 1 8), Ok (Denied DeniedFull)) ∷
    []

pub handles_are_limited : Gives (record { clients = 2; handles = 2; names = 1; tokens = 8; objects = 8; framebuffers = 4; lessees = 4; journal = 40 }) handles_are_limited-steps
unfolding chain_within first_passing least sorted_by numbers_from answer_kind_row told answer_with answer_kind_of kind_number kind_of kind_name are_in_range rule_of_number apart_of_number kind_row call_row call_with call_kind_of call_kind_of_word row_of call_number flags_of audit_rows audit_page dumb_pitch dumb_size buffer_size with_object with_stamp meaning with_client_capability changed swept after opening_checks opened closed ended with_spent with_authenticated with_master count_in answer_of reply results no_room run rows_of controls sees with_export_order prime_handle admission_checks checks verdict
handles_are_limited = refl

abbrev handles_that_are_gone-steps : List (Event × Result Answer Apart)
handles_that_are_gone-steps =
    (Open (Primary false true), Ok (Opened 1)) ∷
    (Ask 1 (BufCreate 5000), Ok (Buffer 1 8192)) ∷
    (Ask 1 (StampWrite 1 77), Ok Done) ∷
    (Ask 1 (StampRead 1), Ok (Number 77)) ∷
    (Ask 1 (StampRead 2), Ok (Denied DeniedNoHandle)) ∷
    (Ask 1 (DestroyDumb 1), Ok Done) ∷
    (Ask 1 (DestroyDumb 1), Ok (Denied DeniedNoHandleToClose)) ∷
    (Ask 1 (ListHandles 0), Ok (ListIs ([]))) ∷
    []

pub handles_that_are_gone : Gives program_limits handles_that_are_gone-steps
unfolding chain_within first_passing least sorted_by numbers_from answer_kind_row told answer_with answer_kind_of kind_number kind_of kind_name are_in_range rule_of_number apart_of_number kind_row call_row call_with call_kind_of call_kind_of_word row_of call_number flags_of audit_rows audit_page dumb_pitch dumb_size buffer_size with_object with_stamp meaning with_client_capability changed swept after opening_checks opened closed ended with_spent with_authenticated with_master count_in answer_of reply results no_room run rows_of controls sees with_export_order prime_handle admission_checks checks verdict
handles_that_are_gone = refl

abbrev objects_go_with_the_last_that_refers_to_them-steps : List (Event × Result Answer Apart)
objects_go_with_the_last_that_refers_to_them-steps =
    (Open (Primary true true), Ok (Opened 1)) ∷
    (Ask 1 (BufCreate 4096), Ok (Buffer 1 4096)) ∷
    (Ask 1 (BufCreate 8192), Ok (Buffer 2 8192)) ∷
    (Ask 1 (BufCreate 12288), Ok (Buffer 3 12288)) ∷
    (Ask 1 (GemFlink 2), Ok (Number 1)) ∷
    (Ask 1 (GemOpen 1), Ok (Buffer 4 8192)) ∷
    (Ask 1 (PrimeHandleToFd 2), Ok (Number 1)) ∷
    (Ask 1 (PrimeHandleToFd 2), Ok (Number 2)) ∷
    (Ask 1 (PrimeHandleToFd 4), Ok (Number 3)) ∷
    (Ask 1 (Audit OfObject 0), Ok (AuditIs ((audit_row 2 4096 1 0) ∷ (audit_row 3 8192 2 3) ∷ (audit_row 4 12288 1 0) ∷ []))) ∷
    (Ask 1 (StampWrite 4 1099511627776), Ok Done) ∷
    (Ask 1 (StampRead 2), Ok (Number 1099511627776)) ∷
    (Ask 1 (GemClose 2), Ok Done) ∷
    (Ask 1 (TokenClose 1), Ok Done) ∷
    (Ask 1 (TokenClose 3), Ok Done) ∷
    (Ask 1 (GemClose 4), Ok Done) ∷
    (Ask 1 (Audit OfObject 0), Ok (AuditIs ((audit_row 2 4096 1 0) ∷ (audit_row 3 8192 0 1) ∷ (audit_row 4 12288 1 0) ∷ []))) ∷
    (Ask 1 (TokenClose 2), Ok Done) ∷
    (Ask 1 (Audit OfObject 0), Ok (AuditIs ((audit_row 2 4096 1 0) ∷ (audit_row 4 12288 1 0) ∷ []))) ∷
    []

pub objects_go_with_the_last_that_refers_to_them : Gives program_limits objects_go_with_the_last_that_refers_to_them-steps
unfolding chain_within first_passing least sorted_by numbers_from answer_kind_row told answer_with answer_kind_of kind_number kind_of kind_name are_in_range rule_of_number apart_of_number kind_row call_row call_with call_kind_of call_kind_of_word row_of call_number flags_of audit_rows audit_page dumb_pitch dumb_size buffer_size with_object with_stamp meaning with_client_capability changed swept after opening_checks opened closed ended with_spent with_authenticated with_master count_in answer_of reply results no_room run rows_of controls sees with_export_order prime_handle admission_checks checks verdict
objects_go_with_the_last_that_refers_to_them = refl

abbrev lists_of_handles_have_64_at_most-steps : List (Event × Result Answer Apart)
lists_of_handles_have_64_at_most-steps =
    (Open (Primary false true), Ok (Opened 1)) ∷
    (Ask 1 (BufCreate 1), Ok (Buffer 1 4096)) ∷
    (Ask 1 (BufCreate 1), Ok (Buffer 2 4096)) ∷
    (Ask 1 (BufCreate 1), Ok (Buffer 3 4096)) ∷
    (Ask 1 (BufCreate 1), Ok (Buffer 4 4096)) ∷
    (Ask 1 (BufCreate 1), Ok (Buffer 5 4096)) ∷
    (Ask 1 (BufCreate 1), Ok (Buffer 6 4096)) ∷
    (Ask 1 (BufCreate 1), Ok (Buffer 7 4096)) ∷
    (Ask 1 (BufCreate 1), Ok (Buffer 8 4096)) ∷
    (Ask 1 (BufCreate 1), Ok (Buffer 9 4096)) ∷
    (Ask 1 (BufCreate 1), Ok (Buffer 10 4096)) ∷
    (Ask 1 (BufCreate 1), Ok (Buffer 11 4096)) ∷
    (Ask 1 (BufCreate 1), Ok (Buffer 12 4096)) ∷
    (Ask 1 (BufCreate 1), Ok (Buffer 13 4096)) ∷
    (Ask 1 (BufCreate 1), Ok (Buffer 14 4096)) ∷
    (Ask 1 (BufCreate 1), Ok (Buffer 15 4096)) ∷
    (Ask 1 (BufCreate 1), Ok (Buffer 16 4096)) ∷
    (Ask 1 (BufCreate 1), Ok (Buffer 17 4096)) ∷
    (Ask 1 (BufCreate 1), Ok (Buffer 18 4096)) ∷
    (Ask 1 (BufCreate 1), Ok (Buffer 19 4096)) ∷
    (Ask 1 (BufCreate 1), Ok (Buffer 20 4096)) ∷
    (Ask 1 (BufCreate 1), Ok (Buffer 21 4096)) ∷
    (Ask 1 (BufCreate 1), Ok (Buffer 22 4096)) ∷
    (Ask 1 (BufCreate 1), Ok (Buffer 23 4096)) ∷
    (Ask 1 (BufCreate 1), Ok (Buffer 24 4096)) ∷
    (Ask 1 (BufCreate 1), Ok (Buffer 25 4096)) ∷
    (Ask 1 (BufCreate 1), Ok (Buffer 26 4096)) ∷
    (Ask 1 (BufCreate 1), Ok (Buffer 27 4096)) ∷
    (Ask 1 (BufCreate 1), Ok (Buffer 28 4096)) ∷
    (Ask 1 (BufCreate 1), Ok (Buffer 29 4096)) ∷
    (Ask 1 (BufCreate 1), Ok (Buffer 30 4096)) ∷
    (Ask 1 (BufCreate 1), Ok (Buffer 31 4096)) ∷
    (Ask 1 (BufCreate 1), Ok (Buffer 32 4096)) ∷
    (Ask 1 (BufCreate 1), Ok (Buffer 33 4096)) ∷
    (Ask 1 (BufCreate 1), Ok (Buffer 34 4096)) ∷
    (Ask 1 (BufCreate 1), Ok (Buffer 35 4096)) ∷
    (Ask 1 (BufCreate 1), Ok (Buffer 36 4096)) ∷
    (Ask 1 (BufCreate 1), Ok (Buffer 37 4096)) ∷
    (Ask 1 (BufCreate 1), Ok (Buffer 38 4096)) ∷
    (Ask 1 (BufCreate 1), Ok (Buffer 39 4096)) ∷
    (Ask 1 (BufCreate 1), Ok (Buffer 40 4096)) ∷
    (Ask 1 (BufCreate 1), Ok (Buffer 41 4096)) ∷
    (Ask 1 (BufCreate 1), Ok (Buffer 42 4096)) ∷
    (Ask 1 (BufCreate 1), Ok (Buffer 43 4096)) ∷
    (Ask 1 (BufCreate 1), Ok (Buffer 44 4096)) ∷
    (Ask 1 (BufCreate 1), Ok (Buffer 45 4096)) ∷
    (Ask 1 (BufCreate 1), Ok (Buffer 46 4096)) ∷
    (Ask 1 (BufCreate 1), Ok (Buffer 47 4096)) ∷
    (Ask 1 (BufCreate 1), Ok (Buffer 48 4096)) ∷
    (Ask 1 (BufCreate 1), Ok (Buffer 49 4096)) ∷
    (Ask 1 (BufCreate 1), Ok (Buffer 50 4096)) ∷
    (Ask 1 (BufCreate 1), Ok (Buffer 51 4096)) ∷
    (Ask 1 (BufCreate 1), Ok (Buffer 52 4096)) ∷
    (Ask 1 (BufCreate 1), Ok (Buffer 53 4096)) ∷
    (Ask 1 (BufCreate 1), Ok (Buffer 54 4096)) ∷
    (Ask 1 (BufCreate 1), Ok (Buffer 55 4096)) ∷
    (Ask 1 (BufCreate 1), Ok (Buffer 56 4096)) ∷
    (Ask 1 (BufCreate 1), Ok (Buffer 57 4096)) ∷
    (Ask 1 (BufCreate 1), Ok (Buffer 58 4096)) ∷
    (Ask 1 (BufCreate 1), Ok (Buffer 59 4096)) ∷
    (Ask 1 (BufCreate 1), Ok (Buffer 60 4096)) ∷
    (Ask 1 (BufCreate 1), Ok (Buffer 61 4096)) ∷
    (Ask 1 (BufCreate 1), Ok (Buffer 62 4096)) ∷
    (Ask 1 (BufCreate 1), Ok (Buffer 63 4096)) ∷
    (Ask 1 (BufCreate 1), Ok (Buffer 64 4096)) ∷
    (Ask 1 (BufCreate 1), Ok (Buffer 65 4096)) ∷
    (Ask 1 (BufCreate 1), Ok (Buffer 66 4096)) ∷
    (Ask 1 (ListHandles 1), Ok (ListIs (1 ∷ 2 ∷ 3 ∷ 4 ∷ 5 ∷ 6 ∷ 7 ∷ 8 ∷ 9 ∷ 10 ∷ 11 ∷ 12 ∷ 13 ∷ 14 ∷ 15 ∷ 16 ∷ 17 ∷ 18 ∷ 19 ∷ 20 ∷ 21 ∷ 22 ∷ 23 ∷ 24 ∷ 25 ∷ 26 ∷ 27 ∷ 28 ∷ 29 ∷ 30 ∷ 31 ∷ 32 ∷ 33 ∷ 34 ∷ 35 ∷ 36 ∷ 37 ∷ 38 ∷ 39 ∷ 40 ∷ 41 ∷ 42 ∷ 43 ∷ 44 ∷ 45 ∷ 46 ∷ 47 ∷ 48 ∷ 49 ∷ 50 ∷ 51 ∷ 52 ∷ 53 ∷ 54 ∷ 55 ∷ 56 ∷ 57 ∷ 58 ∷ 59 ∷ 60 ∷ 61 ∷ 62 ∷ 63 ∷ 64 ∷ []))) ∷
    (Ask 1 (ListHandles 65), Ok (ListIs (65 ∷ 66 ∷ []))) ∷
    []

pub lists_of_handles_have_64_at_most : Gives program_limits lists_of_handles_have_64_at_most-steps
unfolding chain_within first_passing least sorted_by numbers_from answer_kind_row told answer_with answer_kind_of kind_number kind_of kind_name are_in_range rule_of_number apart_of_number kind_row call_row call_with call_kind_of call_kind_of_word row_of call_number flags_of audit_rows audit_page dumb_pitch dumb_size buffer_size with_object with_stamp meaning with_client_capability changed swept after opening_checks opened closed ended with_spent with_authenticated with_master count_in answer_of reply results no_room run rows_of controls sees with_export_order prime_handle admission_checks checks verdict
lists_of_handles_have_64_at_most = refl
