-- Each kind of an audit is found by its number, and by no other.
use Rattle.std.proofs.Common.{◌≡◌, ℕ, ◌^◌, ◌<◌, Some, refl, lit<}
use Rattle.std.specs.Prelude.{◌==◌}
use Rattle.std.proofs.lemmas.Bool.{eqb-true}
use Rattle.drm_table.specs.declared.audits.AuditKind.{AuditKind}
use Rattle.drm_table.specs.declared.audits.AuditKind.TheVariants.{Client, Master, Object, Name, Token, Hold, Grant, Framebuffer, Shown, Device}
use Rattle.drm_table.specs.Audits.{kinds, kind_number, kind_of}
use Rattle.drm_table.proofs.FoundPasses.{found-passes}

-- The number of each kind of audit fits 32 bits.
pub kind-small : (kind : AuditKind) → kind_number kind < 2 ^ 32
unfolding kind_number
kind-small Client = lit< tt
kind-small Master = lit< tt
kind-small Object = lit< tt
kind-small Name = lit< tt
kind-small Token = lit< tt
kind-small Hold = lit< tt
kind-small Grant = lit< tt
kind-small Framebuffer = lit< tt
kind-small Shown = lit< tt
kind-small Device = lit< tt

-- Each kind of audit is found by its number.
pub kind-found : (kind : AuditKind) → kind_of (kind_number kind) ≡ Some kind
unfolding kind_of kind_number
kind-found Client = refl
kind-found _ = refl

-- A number finds only the kind of audit that has it.
pub kind-of-its-own : (number : ℕ) (kind : AuditKind) → kind_of number ≡ Some kind → kind_number kind ≡ number
unfolding kind_of
kind-of-its-own number kind e =
    eqb-true (kind_number kind) number (found-passes (λ (k : AuditKind). kind_number k == number) kinds kind e)
