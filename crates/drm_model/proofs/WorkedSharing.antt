-- Made by tools/worked_rows.py: worked rows, as the definitions compute them. Names and PRIME tokens.
use Rattle.std.proofs.Common.{◌≡◌, true, false, List, ◌∷◌, map, Result, Ok, refl, []}
use Rattle.drm_table.specs.declared.answers.Answer.{Answer}
use Rattle.drm_table.specs.declared.answers.Answer.TheVariants.{Done, Opened, Number, Buffer, Audit as AuditIs, Closed, Denied}
use Rattle.drm_table.specs.declared.apart.Apart.{Apart}
use Rattle.drm_table.specs.declared.rules.Rule.TheVariants.{Auth as DeniedAuth, Full as DeniedFull, NoHandle as DeniedNoHandle, NoName as DeniedNoName, NoToken as DeniedNoToken, RenderAllow as DeniedRenderAllow}
use Rattle.drm_table.specs.declared.calls.Call.TheVariants.{GemClose, GemFlink, GemOpen, PrimeHandleToFd, PrimeFdToHandle, BufCreate, StampWrite, StampRead, TokenClose, Audit, CreateDumb}
use Rattle.drm_table.specs.declared.events.Event.{Event}
use Rattle.drm_table.specs.declared.events.Event.TheVariants.{Open, Ask, Close}
use Rattle.drm_table.specs.declared.events.Opening.TheVariants.{Primary, Render}
use Rattle.drm_table.specs.declared.limits.Limits.{Limits}
use Rattle.drm_table.specs.declared.audits.AuditKind.TheVariants.{Object as OfObject, Name as OfName, Token as OfToken, Hold as OfHold, Device as OfDevice}
use Rattle.drm_index_array.specs.Chains.{chain_within}
use Rattle.drm_index_array.specs.Least.{first_passing, least}
use Rattle.drm_index_array.specs.Orders.{sorted_by}
use Rattle.drm_modes.specs.Numbers.{numbers_from}
use Rattle.drm_table.specs.Answers.{answer_kind_row, told, answer_with, answer_kind_of}
use Rattle.drm_table.specs.Audits.{kind_number, kind_of, kind_name}
use Rattle.drm_table.specs.Limits.{are_in_range}
use Rattle.drm_table.specs.Rules.{rule_of_number, apart_of_number}
use Rattle.drm_table.specs.Table.{kind_row, call_row, call_with, call_kind_of, call_kind_of_word, row_of, call_number, flags_of}
use Rattle.drm_model.specs.Audit.{audit_rows, audit_page}
use Rattle.drm_model.specs.Buffers.{dumb_pitch, dumb_size, buffer_size, with_object, with_stamp}
use Rattle.drm_model.specs.Calls.{meaning}
use Rattle.drm_model.specs.Capabilities.{with_client_capability}
use Rattle.drm_model.specs.Change.{changed, swept, after}
use Rattle.drm_model.specs.Clients.{opening_checks, opened, closed}
use Rattle.drm_model.specs.Leases.{ended}
use Rattle.drm_model.specs.Magics.{with_spent, with_authenticated, with_master}
use Rattle.drm_model.specs.Parts.{count_in}
use Rattle.drm_model.specs.Reply.{answer_of, reply}
use Rattle.drm_model.specs.Results.{results}
use Rattle.drm_model.specs.Run.{no_room, run, rows_of}
use Rattle.drm_model.specs.Sees.{controls, sees}
use Rattle.drm_model.specs.Sharing.{with_export_order, prime_handle}
use Rattle.drm_model.specs.Verdict.{admission_checks, checks, verdict}
use Rattle.drm_model.specs.Audit.{audit_row}
use Rattle.drm_model.specs.Rows.{empty_rows}
use Rattle.drm_modes.specs.declared.kinds.PlaneKind.TheVariants.{Overlay as OverlayPlane, Primary as PrimaryPlane}
use Rattle.drm_modes.specs.Topology.{Topology}

abbrev test_topology : Topology
test_topology = record { crtcs = 2; planes = 1 ∷ 2 ∷ []; kinds = PrimaryPlane 1 ∷ OverlayPlane ∷ []; encoders = 3 ∷ 2 ∷ []; connectors = 5 ∷ 6 ∷ [] }

abbrev program_limits : Limits
program_limits = record { clients = 64; handles = 65535; names = 65535; tokens = 65535; objects = 65535; framebuffers = 64; lessees = 64; journal = 100000 }

-- on a new device of these limits each event gets its answer
abbrev Gives : Limits → List (Event × Result Answer Apart) → Type 0
Gives limits steps = results (empty_rows test_topology limits) (map (λ step. step.0) steps) ≡ map (λ step. step.1) steps

abbrev names_go_with_the_last_handle-steps : List (Event × Result Answer Apart)
names_go_with_the_last_handle-steps =
    (Open (Primary false true), Ok (Opened 1)) ∷
    (Ask 1 (BufCreate 4096), Ok (Buffer 1 4096)) ∷
    (Ask 1 (GemFlink 1), Ok (Number 1)) ∷
    (Ask 1 (GemFlink 1), Ok (Number 1)) ∷
    (Open (Primary true true), Ok (Opened 5)) ∷
    (Ask 5 (GemOpen 1), Ok (Buffer 1 4096)) ∷
    (Ask 5 (GemOpen 1), Ok (Buffer 2 4096)) ∷
    (Close 1, Ok Closed) ∷
    (Ask 5 (GemFlink 1), Ok (Number 1)) ∷
    (Ask 5 (GemClose 1), Ok Done) ∷
    (Ask 5 (GemClose 2), Ok Done) ∷
    (Ask 5 (GemOpen 1), Ok (Denied DeniedNoName)) ∷
    []

pub names_go_with_the_last_handle : Gives program_limits names_go_with_the_last_handle-steps
unfolding chain_within first_passing least sorted_by numbers_from answer_kind_row told answer_with answer_kind_of kind_number kind_of kind_name are_in_range rule_of_number apart_of_number kind_row call_row call_with call_kind_of call_kind_of_word row_of call_number flags_of audit_rows audit_page dumb_pitch dumb_size buffer_size with_object with_stamp meaning with_client_capability changed swept after opening_checks opened closed ended with_spent with_authenticated with_master count_in answer_of reply results no_room run rows_of controls sees with_export_order prime_handle admission_checks checks verdict
names_go_with_the_last_handle = refl

abbrev names_are_for_authenticated_clients-steps : List (Event × Result Answer Apart)
names_are_for_authenticated_clients-steps =
    (Open (Primary false true), Ok (Opened 1)) ∷
    (Open Render, Ok (Opened 2)) ∷
    (Ask 2 (GemFlink 1), Ok (Denied DeniedRenderAllow)) ∷
    (Ask 2 (CreateDumb 1 1 32), Ok (Denied DeniedRenderAllow)) ∷
    (Ask 2 (BufCreate 4096), Ok (Buffer 1 4096)) ∷
    (Open (Primary false true), Ok (Opened 6)) ∷
    (Ask 6 (GemFlink 1), Ok (Denied DeniedAuth)) ∷
    (Ask 6 (GemOpen 1), Ok (Denied DeniedAuth)) ∷
    (Ask 1 (GemFlink 1), Ok (Denied DeniedNoHandle)) ∷
    (Ask 1 (GemOpen 1), Ok (Denied DeniedNoName)) ∷
    []

pub names_are_for_authenticated_clients : Gives program_limits names_are_for_authenticated_clients-steps
unfolding chain_within first_passing least sorted_by numbers_from answer_kind_row told answer_with answer_kind_of kind_number kind_of kind_name are_in_range rule_of_number apart_of_number kind_row call_row call_with call_kind_of call_kind_of_word row_of call_number flags_of audit_rows audit_page dumb_pitch dumb_size buffer_size with_object with_stamp meaning with_client_capability changed swept after opening_checks opened closed ended with_spent with_authenticated with_master count_in answer_of reply results no_room run rows_of controls sees with_export_order prime_handle admission_checks checks verdict
names_are_for_authenticated_clients = refl

abbrev names_of_guests-steps : List (Event × Result Answer Apart)
names_of_guests-steps =
    (Open (Primary false true), Ok (Opened 1)) ∷
    (Open Render, Ok (Opened 2)) ∷
    (Ask 2 (GemFlink 1), Ok (Denied DeniedRenderAllow)) ∷
    (Open (Primary false true), Ok (Opened 4)) ∷
    (Ask 4 (GemFlink 1), Ok (Denied DeniedAuth)) ∷
    (Ask 4 (GemOpen 1), Ok (Denied DeniedAuth)) ∷
    (Ask 1 (GemFlink 1), Ok (Denied DeniedNoHandle)) ∷
    []

pub names_of_guests : Gives program_limits names_of_guests-steps
unfolding chain_within first_passing least sorted_by numbers_from answer_kind_row told answer_with answer_kind_of kind_number kind_of kind_name are_in_range rule_of_number apart_of_number kind_row call_row call_with call_kind_of call_kind_of_word row_of call_number flags_of audit_rows audit_page dumb_pitch dumb_size buffer_size with_object with_stamp meaning with_client_capability changed swept after opening_checks opened closed ended with_spent with_authenticated with_master count_in answer_of reply results no_room run rows_of controls sees with_export_order prime_handle admission_checks checks verdict
names_of_guests = refl

abbrev names_are_given_again-steps : List (Event × Result Answer Apart)
names_are_given_again-steps =
    (Open (Primary true true), Ok (Opened 1)) ∷
    (Ask 1 (BufCreate 1), Ok (Buffer 1 4096)) ∷
    (Ask 1 (BufCreate 1), Ok (Buffer 2 4096)) ∷
    (Ask 1 (BufCreate 1), Ok (Buffer 3 4096)) ∷
    (Ask 1 (GemFlink 1), Ok (Number 1)) ∷
    (Ask 1 (GemFlink 2), Ok (Number 2)) ∷
    (Ask 1 (GemClose 1), Ok Done) ∷
    (Ask 1 (GemOpen 1), Ok (Denied DeniedNoName)) ∷
    (Ask 1 (GemFlink 3), Ok (Number 1)) ∷
    (Ask 1 (Audit OfName 0), Ok (AuditIs ((audit_row 1 4 0 0) ∷ (audit_row 2 3 0 0) ∷ []))) ∷
    []

pub names_are_given_again : Gives program_limits names_are_given_again-steps
unfolding chain_within first_passing least sorted_by numbers_from answer_kind_row told answer_with answer_kind_of kind_number kind_of kind_name are_in_range rule_of_number apart_of_number kind_row call_row call_with call_kind_of call_kind_of_word row_of call_number flags_of audit_rows audit_page dumb_pitch dumb_size buffer_size with_object with_stamp meaning with_client_capability changed swept after opening_checks opened closed ended with_spent with_authenticated with_master count_in answer_of reply results no_room run rows_of controls sees with_export_order prime_handle admission_checks checks verdict
names_are_given_again = refl

abbrev names_and_handles_are_limited-steps : List (Event × Result Answer Apart)
names_and_handles_are_limited-steps =
    (Open (Primary false true), Ok (Opened 1)) ∷
    (Ask 1 (BufCreate 1), Ok (Buffer 1 4096)) ∷
    (Ask 1 (BufCreate 1), Ok (Buffer 2 4096)) ∷
    (Ask 1 (BufCreate 1), Ok (Denied DeniedFull)) ∷
    (Ask 1 (GemFlink 1), Ok (Number 1)) ∷
    (Ask 1 (GemFlink 2), Ok (Denied DeniedFull)) ∷
    (Ask 1 (GemOpen 1), Ok (Denied DeniedFull)) ∷
    (Open (Primary true true), Ok (Opened 8)) ∷
    (Ask 8 (GemOpen 1), Ok (Buffer 1 4096)) ∷
    (Open Render, Ok (Denied DeniedFull)) ∷
    []

pub names_and_handles_are_limited : Gives (record { clients = 2; handles = 2; names = 1; tokens = 8; objects = 8; framebuffers = 4; lessees = 4; journal = 40 }) names_and_handles_are_limited-steps
unfolding chain_within first_passing least sorted_by numbers_from answer_kind_row told answer_with answer_kind_of kind_number kind_of kind_name are_in_range rule_of_number apart_of_number kind_row call_row call_with call_kind_of call_kind_of_word row_of call_number flags_of audit_rows audit_page dumb_pitch dumb_size buffer_size with_object with_stamp meaning with_client_capability changed swept after opening_checks opened closed ended with_spent with_authenticated with_master count_in answer_of reply results no_room run rows_of controls sees with_export_order prime_handle admission_checks checks verdict
names_and_handles_are_limited = refl

abbrev tokens_keep_objects_and_go_with_their_client-steps : List (Event × Result Answer Apart)
tokens_keep_objects_and_go_with_their_client-steps =
    (Open (Primary false true), Ok (Opened 1)) ∷
    (Open Render, Ok (Opened 2)) ∷
    (Ask 1 (BufCreate 5000), Ok (Buffer 1 8192)) ∷
    (Ask 1 (StampWrite 1 77), Ok Done) ∷
    (Ask 1 (GemFlink 1), Ok (Number 1)) ∷
    (Ask 1 (PrimeHandleToFd 1), Ok (Number 1)) ∷
    (Ask 1 (GemClose 1), Ok Done) ∷
    (Ask 1 (GemOpen 1), Ok (Denied DeniedNoName)) ∷
    (Ask 2 (PrimeFdToHandle 1), Ok (Buffer 1 8192)) ∷
    (Ask 2 (StampRead 1), Ok (Number 77)) ∷
    (Ask 2 (PrimeFdToHandle 1), Ok (Buffer 1 8192)) ∷
    (Close 1, Ok Closed) ∷
    (Ask 2 (PrimeFdToHandle 1), Ok (Denied DeniedNoToken)) ∷
    (Ask 2 (StampRead 1), Ok (Number 77)) ∷
    []

pub tokens_keep_objects_and_go_with_their_client : Gives program_limits tokens_keep_objects_and_go_with_their_client-steps
unfolding chain_within first_passing least sorted_by numbers_from answer_kind_row told answer_with answer_kind_of kind_number kind_of kind_name are_in_range rule_of_number apart_of_number kind_row call_row call_with call_kind_of call_kind_of_word row_of call_number flags_of audit_rows audit_page dumb_pitch dumb_size buffer_size with_object with_stamp meaning with_client_capability changed swept after opening_checks opened closed ended with_spent with_authenticated with_master count_in answer_of reply results no_room run rows_of controls sees with_export_order prime_handle admission_checks checks verdict
tokens_keep_objects_and_go_with_their_client = refl

abbrev tokens_are_given_in_turn-steps : List (Event × Result Answer Apart)
tokens_are_given_in_turn-steps =
    (Open (Primary false true), Ok (Opened 1)) ∷
    (Ask 1 (BufCreate 1), Ok (Buffer 1 4096)) ∷
    (Ask 1 (PrimeHandleToFd 1), Ok (Number 1)) ∷
    (Ask 1 (PrimeHandleToFd 1), Ok (Number 2)) ∷
    (Ask 1 (TokenClose 1), Ok Done) ∷
    (Ask 1 (PrimeHandleToFd 1), Ok (Number 3)) ∷
    (Ask 1 (PrimeHandleToFd 1), Ok (Number 1)) ∷
    (Ask 1 (PrimeHandleToFd 1), Ok (Denied DeniedFull)) ∷
    (Ask 1 (TokenClose 9), Ok (Denied DeniedNoToken)) ∷
    []

pub tokens_are_given_in_turn : Gives (record { clients = 4; handles = 8; names = 8; tokens = 3; objects = 8; framebuffers = 4; lessees = 4; journal = 50 }) tokens_are_given_in_turn-steps
unfolding chain_within first_passing least sorted_by numbers_from answer_kind_row told answer_with answer_kind_of kind_number kind_of kind_name are_in_range rule_of_number apart_of_number kind_row call_row call_with call_kind_of call_kind_of_word row_of call_number flags_of audit_rows audit_page dumb_pitch dumb_size buffer_size with_object with_stamp meaning with_client_capability changed swept after opening_checks opened closed ended with_spent with_authenticated with_master count_in answer_of reply results no_room run rows_of controls sees with_export_order prime_handle admission_checks checks verdict
tokens_are_given_in_turn = refl

abbrev imports_beside_handles_without_a_place-steps : List (Event × Result Answer Apart)
imports_beside_handles_without_a_place-steps =
    (Open (Primary false true), Ok (Opened 1)) ∷
    (Ask 1 (BufCreate 1), Ok (Buffer 1 4096)) ∷
    (Ask 1 (PrimeHandleToFd 1), Ok (Number 1)) ∷
    (Open Render, Ok (Opened 4)) ∷
    (Ask 1 (GemFlink 1), Ok (Number 1)) ∷
    (Open (Primary true true), Ok (Opened 6)) ∷
    (Ask 6 (GemOpen 1), Ok (Buffer 1 4096)) ∷
    (Ask 6 (PrimeFdToHandle 1), Ok (Buffer 2 4096)) ∷
    (Ask 6 (PrimeFdToHandle 1), Ok (Buffer 2 4096)) ∷
    (Ask 1 (PrimeFdToHandle 1), Ok (Buffer 1 4096)) ∷
    (Ask 4 (PrimeFdToHandle 1), Ok (Buffer 1 4096)) ∷
    (Ask 6 (GemClose 2), Ok Done) ∷
    (Ask 6 (PrimeFdToHandle 1), Ok (Buffer 2 4096)) ∷
    (Ask 6 (TokenClose 1), Ok (Denied DeniedNoToken)) ∷
    (Ask 4 (PrimeFdToHandle 2), Ok (Denied DeniedNoToken)) ∷
    (Ask 4 (PrimeHandleToFd 2), Ok (Denied DeniedNoHandle)) ∷
    []

pub imports_beside_handles_without_a_place : Gives program_limits imports_beside_handles_without_a_place-steps
unfolding chain_within first_passing least sorted_by numbers_from answer_kind_row told answer_with answer_kind_of kind_number kind_of kind_name are_in_range rule_of_number apart_of_number kind_row call_row call_with call_kind_of call_kind_of_word row_of call_number flags_of audit_rows audit_page dumb_pitch dumb_size buffer_size with_object with_stamp meaning with_client_capability changed swept after opening_checks opened closed ended with_spent with_authenticated with_master count_in answer_of reply results no_room run rows_of controls sees with_export_order prime_handle admission_checks checks verdict
imports_beside_handles_without_a_place = refl

abbrev imports_are_seen_in_an_audit-steps : List (Event × Result Answer Apart)
imports_are_seen_in_an_audit-steps =
    (Open (Primary false true), Ok (Opened 1)) ∷
    (Ask 1 (BufCreate 1), Ok (Buffer 1 4096)) ∷
    (Ask 1 (PrimeHandleToFd 1), Ok (Number 1)) ∷
    (Open Render, Ok (Opened 4)) ∷
    (Ask 1 (GemFlink 1), Ok (Number 1)) ∷
    (Open (Primary true true), Ok (Opened 6)) ∷
    (Ask 6 (GemOpen 1), Ok (Buffer 1 4096)) ∷
    (Ask 6 (PrimeFdToHandle 1), Ok (Buffer 2 4096)) ∷
    (Ask 6 (PrimeFdToHandle 1), Ok (Buffer 2 4096)) ∷
    (Ask 1 (PrimeFdToHandle 1), Ok (Buffer 1 4096)) ∷
    (Ask 4 (PrimeFdToHandle 1), Ok (Buffer 1 4096)) ∷
    (Ask 6 (GemClose 2), Ok Done) ∷
    (Ask 6 (PrimeFdToHandle 1), Ok (Buffer 2 4096)) ∷
    (Ask 6 (Audit OfDevice 0), Ok (AuditIs ((audit_row 1 1 0 13) ∷ []))) ∷
    []

pub imports_are_seen_in_an_audit : Gives program_limits imports_are_seen_in_an_audit-steps
unfolding chain_within first_passing least sorted_by numbers_from answer_kind_row told answer_with answer_kind_of kind_number kind_of kind_name are_in_range rule_of_number apart_of_number kind_row call_row call_with call_kind_of call_kind_of_word row_of call_number flags_of audit_rows audit_page dumb_pitch dumb_size buffer_size with_object with_stamp meaning with_client_capability changed swept after opening_checks opened closed ended with_spent with_authenticated with_master count_in answer_of reply results no_room run rows_of controls sees with_export_order prime_handle admission_checks checks verdict
imports_are_seen_in_an_audit = refl

abbrev least_place_is_prime-steps : List (Event × Result Answer Apart)
least_place_is_prime-steps =
    (Open (Primary true true), Ok (Opened 1)) ∷
    (Ask 1 (BufCreate 1), Ok (Buffer 1 4096)) ∷
    (Ask 1 (GemFlink 1), Ok (Number 1)) ∷
    (Ask 1 (GemOpen 1), Ok (Buffer 2 4096)) ∷
    (Ask 1 (GemOpen 1), Ok (Buffer 3 4096)) ∷
    (Ask 1 (PrimeHandleToFd 3), Ok (Number 1)) ∷
    (Ask 1 (PrimeHandleToFd 2), Ok (Number 2)) ∷
    (Ask 1 (PrimeHandleToFd 3), Ok (Number 3)) ∷
    (Ask 1 (Audit OfHold 0), Ok (AuditIs ((audit_row 1 1 2 0) ∷ (audit_row 1 2 2 7) ∷ (audit_row 1 3 2 6) ∷ []))) ∷
    (Ask 1 (PrimeFdToHandle 1), Ok (Buffer 3 4096)) ∷
    (Ask 1 (PrimeFdToHandle 2), Ok (Buffer 3 4096)) ∷
    (Ask 1 (GemClose 3), Ok Done) ∷
    (Ask 1 (PrimeFdToHandle 1), Ok (Buffer 2 4096)) ∷
    (Ask 1 (GemClose 2), Ok Done) ∷
    (Ask 1 (PrimeFdToHandle 1), Ok (Buffer 2 4096)) ∷
    (Ask 1 (Audit OfHold 0), Ok (AuditIs ((audit_row 1 1 2 0) ∷ (audit_row 1 2 2 15) ∷ []))) ∷
    []

pub least_place_is_prime : Gives program_limits least_place_is_prime-steps
unfolding chain_within first_passing least sorted_by numbers_from answer_kind_row told answer_with answer_kind_of kind_number kind_of kind_name are_in_range rule_of_number apart_of_number kind_row call_row call_with call_kind_of call_kind_of_word row_of call_number flags_of audit_rows audit_page dumb_pitch dumb_size buffer_size with_object with_stamp meaning with_client_capability changed swept after opening_checks opened closed ended with_spent with_authenticated with_master count_in answer_of reply results no_room run rows_of controls sees with_export_order prime_handle admission_checks checks verdict
least_place_is_prime = refl

abbrev objects_stand_in_the_order_of_their_births-steps : List (Event × Result Answer Apart)
objects_stand_in_the_order_of_their_births-steps =
    (Open (Primary true true), Ok (Opened 1)) ∷
    (Ask 1 (BufCreate 1), Ok (Buffer 1 4096)) ∷
    (Ask 1 (BufCreate 5000), Ok (Buffer 2 8192)) ∷
    (Ask 1 (StampWrite 1 77), Ok Done) ∷
    (Ask 1 (GemFlink 1), Ok (Number 1)) ∷
    (Ask 1 (GemClose 1), Ok Done) ∷
    (Ask 1 (BufCreate 9000), Ok (Buffer 1 12288)) ∷
    (Ask 1 (StampRead 1), Ok (Number 0)) ∷
    (Ask 1 (GemOpen 1), Ok (Denied DeniedNoName)) ∷
    (Ask 1 (Audit OfObject 0), Ok (AuditIs ((audit_row 3 8192 1 0) ∷ (audit_row 7 12288 1 0) ∷ []))) ∷
    (Ask 1 (Audit OfHold 0), Ok (AuditIs ((audit_row 1 1 7 0) ∷ (audit_row 1 2 3 0) ∷ []))) ∷
    (Close 1, Ok Closed) ∷
    []

pub objects_stand_in_the_order_of_their_births : Gives program_limits objects_stand_in_the_order_of_their_births-steps
unfolding chain_within first_passing least sorted_by numbers_from answer_kind_row told answer_with answer_kind_of kind_number kind_of kind_name are_in_range rule_of_number apart_of_number kind_row call_row call_with call_kind_of call_kind_of_word row_of call_number flags_of audit_rows audit_page dumb_pitch dumb_size buffer_size with_object with_stamp meaning with_client_capability changed swept after opening_checks opened closed ended with_spent with_authenticated with_master count_in answer_of reply results no_room run rows_of controls sees with_export_order prime_handle admission_checks checks verdict
objects_stand_in_the_order_of_their_births = refl

abbrev closings_take_no_token_of_another-steps : List (Event × Result Answer Apart)
closings_take_no_token_of_another-steps =
    (Open (Primary true true), Ok (Opened 1)) ∷
    (Open Render, Ok (Opened 2)) ∷
    (Ask 1 (BufCreate 1), Ok (Buffer 1 4096)) ∷
    (Ask 1 (PrimeHandleToFd 1), Ok (Number 1)) ∷
    (Ask 2 (PrimeFdToHandle 1), Ok (Buffer 1 4096)) ∷
    (Ask 2 (PrimeHandleToFd 1), Ok (Number 2)) ∷
    (Ask 1 (PrimeHandleToFd 1), Ok (Number 3)) ∷
    (Ask 2 (PrimeHandleToFd 1), Ok (Number 4)) ∷
    (Ask 2 (PrimeHandleToFd 1), Ok (Number 5)) ∷
    (Ask 2 (TokenClose 4), Ok Done) ∷
    (Close 2, Ok Closed) ∷
    (Ask 1 (Audit OfToken 0), Ok (AuditIs ((audit_row 1 1 3 0) ∷ (audit_row 3 1 3 0) ∷ []))) ∷
    (Ask 1 (Audit OfObject 0), Ok (AuditIs ((audit_row 3 4096 1 2) ∷ []))) ∷
    (Close 1, Ok Closed) ∷
    []

pub closings_take_no_token_of_another : Gives program_limits closings_take_no_token_of_another-steps
unfolding chain_within first_passing least sorted_by numbers_from answer_kind_row told answer_with answer_kind_of kind_number kind_of kind_name are_in_range rule_of_number apart_of_number kind_row call_row call_with call_kind_of call_kind_of_word row_of call_number flags_of audit_rows audit_page dumb_pitch dumb_size buffer_size with_object with_stamp meaning with_client_capability changed swept after opening_checks opened closed ended with_spent with_authenticated with_master count_in answer_of reply results no_room run rows_of controls sees with_export_order prime_handle admission_checks checks verdict
closings_take_no_token_of_another = refl

abbrev audits_of_names_and_tokens-steps : List (Event × Result Answer Apart)
audits_of_names_and_tokens-steps =
    (Open (Primary true true), Ok (Opened 1)) ∷
    (Ask 1 (BufCreate 1), Ok (Buffer 1 4096)) ∷
    (Ask 1 (GemFlink 1), Ok (Number 1)) ∷
    (Ask 1 (PrimeHandleToFd 1), Ok (Number 1)) ∷
    (Ask 1 (BufCreate 5000), Ok (Buffer 2 8192)) ∷
    (Ask 1 (PrimeHandleToFd 2), Ok (Number 2)) ∷
    (Open Render, Ok (Opened 7)) ∷
    (Ask 7 (PrimeFdToHandle 2), Ok (Buffer 1 8192)) ∷
    (Ask 1 (Audit OfObject 0), Ok (AuditIs ((audit_row 2 4096 1 1) ∷ (audit_row 5 8192 2 1) ∷ []))) ∷
    (Ask 1 (Audit OfName 0), Ok (AuditIs ((audit_row 1 2 0 0) ∷ []))) ∷
    (Ask 1 (Audit OfToken 0), Ok (AuditIs ((audit_row 1 1 2 0) ∷ (audit_row 2 1 5 0) ∷ []))) ∷
    (Ask 1 (Audit OfHold 0), Ok (AuditIs ((audit_row 1 1 2 4) ∷ (audit_row 1 2 5 6) ∷ (audit_row 7 1 5 8) ∷ []))) ∷
    (Ask 1 (Audit OfDevice 0), Ok (AuditIs ((audit_row 1 2 0 12) ∷ []))) ∷
    (Ask 1 (TokenClose 2), Ok Done) ∷
    (Ask 1 (Audit OfToken 1), Ok (AuditIs ([]))) ∷
    (Ask 1 (Audit OfDevice 0), Ok (AuditIs ((audit_row 1 2 0 15) ∷ []))) ∷
    []

pub audits_of_names_and_tokens : Gives program_limits audits_of_names_and_tokens-steps
unfolding chain_within first_passing least sorted_by numbers_from answer_kind_row told answer_with answer_kind_of kind_number kind_of kind_name are_in_range rule_of_number apart_of_number kind_row call_row call_with call_kind_of call_kind_of_word row_of call_number flags_of audit_rows audit_page dumb_pitch dumb_size buffer_size with_object with_stamp meaning with_client_capability changed swept after opening_checks opened closed ended with_spent with_authenticated with_master count_in answer_of reply results no_room run rows_of controls sees with_export_order prime_handle admission_checks checks verdict
audits_of_names_and_tokens = refl
