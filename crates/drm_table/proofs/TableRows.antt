-- The table of calls: its rows are found by number and word, and a call is that of its row with its fields.
use Rattle.std.proofs.Common.{◌≡◌, ◌∙◌, ℕ, ◌^◌, ◌<◌, List, [], ◌∷◌, Option, Some, None, refl, sym, ap, subst, lit<, lit≤}
use Rattle.std.specs.Prelude.{◌==◌}
use Rattle.std.specs.Option.{option_and_then, option_map, option_map_or, option_or}
use Rattle.std.specs.Str.{bytes_eq}
use Rattle.std.proofs.lemmas.Bool.{eqb-true}
use Rattle.std.proofs.lemmas.Slice.Eq.{bytes_eq-Decides}
use Rattle.drm_table.specs.declared.audits.AuditKind.{AuditKind}
use Rattle.drm_table.specs.declared.calls.Call.{Call}
use Rattle.drm_table.specs.declared.calls.Call.TheVariants as calls
use Rattle.drm_table.specs.declared.calls.CallKind.{CallKind}
use Rattle.drm_table.specs.declared.calls.CallKind.TheVariants as kinds
use Rattle.drm_table.specs.declared.fields.Field.{Field}
use Rattle.drm_table.specs.declared.fields.Field.TheVariants.{U32, U64}
use Rattle.drm_table.specs.Audits as audits
use Rattle.drm_table.specs.Fields.{Layout, IsShort, ids_in}
use Rattle.drm_table.specs.Permit.{no_flags}
use Rattle.drm_table.specs.declared.rows.Family.{Family}
use Rattle.drm_table.specs.declared.rows.Family.TheVariants.{Device, Masters, Buffers, Sharing, Modes, Framebuffers, Leases}
use Rattle.drm_table.specs.Table.{TableRow, asked_number, call_number, flags_of, row_of, kind_row, kind_number, kind_word, kind_layout, call_kind_of, call_kind_of_word, all_kinds, buffer_call, share_call, master_call, mode_call, framebuffer_call, lease_call, device_call, call_row, call_with, family_call, kind_family, IsReadBack, AreFieldsOf, HasWidths}
use Rattle.drm_table.proofs.AuditKinds as kinds_of_audits
use Rattle.drm_table.proofs.FoundPasses.{found-passes}
use Rattle.drm_table.proofs.IdFields.{ids-back, ids-are, ids-widths}

-- ---- a row by its number and by its word

-- The number of each kind of call fits 16 bits.
pub number-small : (kind : CallKind) → kind_number kind < 2 ^ 16
unfolding kind_row
number-small kinds.Version = lit< tt
number-small _ = lit< tt

-- The layout of each kind of call is short.
pub kind-short : (kind : CallKind) → IsShort (kind_layout kind)
unfolding kind_row
kind-short kinds.Version = lit≤ tt
kind-short kinds.CreateLease = tt
kind-short _ = lit≤ tt

-- A layout that is a kind's is short.
pub short : (kind : CallKind) (layout : Layout) → layout ≡ kind_layout kind → IsShort layout
short kind layout e = subst IsShort (sym e) (kind-short kind)

-- Each kind of call is found by its number.
pub kind-found : (kind : CallKind) → call_kind_of (kind_number kind) ≡ Some kind
unfolding call_kind_of kind_row
kind-found kinds.Version = refl
kind-found _ = refl

-- A number finds only the kind of call that has it.
pub kind-of-its-own : (number : ℕ) (kind : CallKind) → call_kind_of number ≡ Some kind → kind_number kind ≡ number
unfolding call_kind_of
kind-of-its-own number kind e =
    eqb-true (kind_number kind) number (found-passes (λ (k : CallKind). kind_number k == number) all_kinds kind e)

numbered : (row : Option (CallKind × List Field)) (asked : ℕ) (kind : CallKind)
    → option_map (λ (row : CallKind × List Field). row.0) row ≡ Some kind
    → option_map_or (λ (row : CallKind × List Field). kind_number row.0) row asked ≡ kind_number kind
numbered None asked kind e = absurd cc
numbered (Some row) asked kind e = let same : row.0 ≡ kind = cc in ap kind_number same

-- The flags of a call are those of its kind's row.
pub flags-by-kind : (call : Call) (kind : CallKind)
    → option_map (λ (row : CallKind × List Field). row.0) (call_row call) ≡ Some kind
    → flags_of call ≡ (kind_row kind).flags
unfolding flags_of call_number row_of
flags-by-kind call kind e =
    let number : call_number call ≡ kind_number kind = numbered (call_row call) (asked_number call) kind e in
    let found : row_of (call_number call) ≡ Some (kind_row kind) =
    ap row_of number ∙ ap (option_map kind_row) (kind-found kind) in
    ap (λ (row : Option TableRow). option_map_or (λ (r : TableRow). r.flags) row no_flags) found

-- Each kind of call is found by its word.
pub word-found : (kind : CallKind) → call_kind_of_word (kind_word kind) ≡ Some kind
unfolding call_kind_of_word kind_row
word-found kinds.Version = refl
word-found _ = refl

-- A word finds only the kind of call that has it.
pub word-of-its-own : (word : List ℕ) (kind : CallKind) → call_kind_of_word word ≡ Some kind → kind_word kind ≡ word
unfolding call_kind_of_word
word-of-its-own word kind e =
    (bytes_eq-Decides (kind_word kind) word).0
    (found-passes (λ (k : CallKind). bytes_eq (kind_word k) word) all_kinds kind e)

-- ---- a call by its row and its fields

audit-back : (kind : AuditKind) (from : ℕ)
    → call_with kinds.Audit (U32 (audits.kind_number kind) ∷ U32 from ∷ []) ≡ Some (calls.Audit kind from)
unfolding call_with kind_row
audit-back kind from = rw (kinds_of_audits.kind-found kind) refl

-- A call of a row is made again from its row and its fields.
pub read-back : (call : Call) → IsReadBack call (call_row call)
unfolding call_row call_with kind_row
read-back (calls.Unknown n) = tt
read-back (calls.BadLayout n) = tt
read-back (calls.Audit kind from) = audit-back kind from
read-back (calls.CreateLease ids) = ap (λ (o : Option (List ℕ)). option_map calls.CreateLease o) (ids-back ids)
read-back _ = refl

-- What is made of a row and fields is a call with this row and these fields, or nothing.
abbrev MadeOf : CallKind → List Field → Option Call → Type 0
MadeOf kind fs made = option_and_then call_row made ≡ option_map (λ (call : Call). (kind, fs)) made

made : (kind : CallKind) (fs : List Field) (o : Option Call) → MadeOf kind fs o → AreFieldsOf kind fs o
made kind fs None e = tt
made kind fs (Some call) e = e

-- each kind computes where the fields are its row's
buffer-made : (kind : CallKind) (fs : List Field) → MadeOf kind fs (buffer_call kind fs)
unfolding call_row
buffer-made kinds.GemClose (U32 a ∷ []) = refl
buffer-made kinds.BufCreate (U64 a ∷ []) = refl
buffer-made kinds.StampWrite (U32 a ∷ U64 b ∷ []) = refl
buffer-made kinds.StampRead (U32 a ∷ []) = refl
buffer-made kinds.ListHandles (U32 a ∷ []) = refl
buffer-made kinds.CreateDumb (U32 a ∷ U32 b ∷ U32 c ∷ []) = refl
buffer-made kinds.DestroyDumb (U32 a ∷ []) = refl
buffer-made _ _ = refl

share-made : (kind : CallKind) (fs : List Field) → MadeOf kind fs (share_call kind fs)
unfolding call_row
share-made kinds.GemFlink (U32 a ∷ []) = refl
share-made kinds.GemOpen (U32 a ∷ []) = refl
share-made kinds.PrimeHandleToFd (U32 a ∷ []) = refl
share-made kinds.PrimeFdToHandle (U32 a ∷ []) = refl
share-made kinds.TokenClose (U32 a ∷ []) = refl
share-made _ _ = refl

master-made : (kind : CallKind) (fs : List Field) → MadeOf kind fs (master_call kind fs)
unfolding call_row
master-made kinds.GetMagic [] = refl
master-made kinds.AuthMagic (U32 a ∷ []) = refl
master-made kinds.SetMaster [] = refl
master-made kinds.DropMaster [] = refl
master-made _ _ = refl

mode-made : (kind : CallKind) (fs : List Field) → MadeOf kind fs (mode_call kind fs)
unfolding call_row
mode-made kinds.GetResources [] = refl
mode-made kinds.GetCrtc (U32 a ∷ []) = refl
mode-made kinds.SetCrtc (U32 a ∷ U32 b ∷ U32 c ∷ []) = refl
mode-made kinds.GetEncoder (U32 a ∷ []) = refl
mode-made kinds.GetConnector (U32 a ∷ []) = refl
mode-made kinds.GetPlaneResources [] = refl
mode-made kinds.GetPlane (U32 a ∷ []) = refl
mode-made kinds.SetPlane (U32 a ∷ U32 b ∷ U32 c ∷ []) = refl
mode-made _ _ = refl

framebuffer-made : (kind : CallKind) (fs : List Field) → MadeOf kind fs (framebuffer_call kind fs)
unfolding call_row
framebuffer-made kinds.GetFb (U32 a ∷ []) = refl
framebuffer-made kinds.AddFb (U32 a ∷ U32 b ∷ U32 c ∷ U32 d ∷ U32 e ∷ []) = refl
framebuffer-made kinds.RmFb (U32 a ∷ []) = refl
framebuffer-made _ _ = refl

audit-made : (number from : ℕ) (found : Option AuditKind) → audits.kind_of number ≡ found
    → MadeOf kinds.Audit (U32 number ∷ U32 from ∷ []) (option_map (λ kind. calls.Audit kind from) found)
unfolding call_row
audit-made number from None e = refl
audit-made number from (Some kind) e =
    ap (λ (n : ℕ). Some (kinds.Audit, U32 n ∷ U32 from ∷ [])) (kinds_of_audits.kind-of-its-own number kind e)

device-made : (kind : CallKind) (fs : List Field) → MadeOf kind fs (device_call kind fs)
unfolding call_row
device-made kinds.Version [] = refl
device-made kinds.GetCap (U64 cap ∷ []) = refl
device-made kinds.SetClientCap (U64 cap ∷ U64 value ∷ []) = refl
device-made kinds.Audit (U32 number ∷ U32 from ∷ []) = audit-made number from (audits.kind_of number) refl
device-made _ _ = refl

lease-made-by : (fs : List Field) (found : Option (List ℕ)) → ids_in fs ≡ found
    → MadeOf kinds.CreateLease fs (option_map calls.CreateLease found)
unfolding call_row
lease-made-by fs None e = refl
lease-made-by fs (Some ids) e = ap (λ (xs : List Field). Some (kinds.CreateLease, xs)) (ids-are fs ids e)

lease-made : (kind : CallKind) (fs : List Field) → MadeOf kind fs (lease_call kind fs)
unfolding call_row
lease-made kinds.CreateLease fs = lease-made-by fs (ids_in fs) refl
lease-made kinds.ListLessees [] = refl
lease-made kinds.GetLease [] = refl
lease-made kinds.RevokeLease (U32 lessee ∷ []) = refl
lease-made _ _ = refl

made-in : (family : Family) (kind : CallKind) (fs : List Field) → MadeOf kind fs (family_call family kind fs)
made-in Buffers kind fs = buffer-made kind fs
made-in Sharing kind fs = share-made kind fs
made-in Masters kind fs = master-made kind fs
made-in Modes kind fs = mode-made kind fs
made-in Framebuffers kind fs = framebuffer-made kind fs
made-in Leases kind fs = lease-made kind fs
made-in Device kind fs = device-made kind fs

-- A call made from a kind and fields has this kind and these fields.
pub fields-of : (kind : CallKind) (fs : List Field) → AreFieldsOf kind fs (call_with kind fs)
unfolding call_with
fields-of kind fs = made kind fs (call_with kind fs) (made-in (kind_family kind) kind fs)

-- The fields of a call of a row have the widths of its kind.
pub has-widths : (call : Call) → HasWidths (call_row call)
unfolding call_row kind_row
has-widths (calls.Unknown n) = tt
has-widths (calls.BadLayout n) = tt
has-widths (calls.CreateLease ids) = ids-widths ids
has-widths _ = refl
