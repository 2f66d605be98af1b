-- The kinds of an audit: their numbers and their names (own).
use Rattle.std.specs.Prelude.{ℕ, ◌==◌, Option, List, [], ◌∷◌, find, codes}
use Rattle.drm_table.specs.declared.audits.AuditKind.{AuditKind}
use Rattle.drm_table.specs.declared.audits.AuditKind.TheVariants.{Client, Master, Object, Name, Token, Hold, Grant, Framebuffer, Shown, Device}

-- all kinds, in rising order of their numbers
abbrev pub kinds : List AuditKind
kinds = Client ∷ Master ∷ Object ∷ Name ∷ Token ∷ Hold ∷ Grant ∷ Framebuffer ∷ Shown ∷ Device ∷ []

-- the number of each kind
unfoldable pub kind_number : AuditKind → ℕ
kind_number Client = 1
kind_number Master = 2
kind_number Object = 3
kind_number Name = 4
kind_number Token = 5
kind_number Hold = 6
kind_number Grant = 7
kind_number Framebuffer = 8
kind_number Shown = 9
kind_number Device = 10

-- the kind of a number, if it has one
unfoldable pub kind_of : ℕ → Option AuditKind
kind_of number = find (λ kind. kind_number kind == number) kinds

-- the name of each kind
unfoldable pub kind_name : AuditKind → List ℕ
kind_name Client = codes "client"
kind_name Master = codes "master"
kind_name Object = codes "object"
kind_name Name = codes "name"
kind_name Token = codes "token"
kind_name Hold = codes "hold"
kind_name Grant = codes "grant"
kind_name Framebuffer = codes "framebuffer"
kind_name Shown = codes "shown"
kind_name Device = codes "device"
