-- Step numbers: the numbers of the steps that made clients, masters and objects (own).
use Rattle.std.specs.Prelude.{ℕ, ◌*◌, ◌<◌, ◌≤◌, List, IfSome}
use Rattle.std.specs.List.{AllByRecursion}
use Rattle.drm_index_array.specs.Orders.{InOrder}
use Rattle.drm_model.specs.Parts.{Part, Grants, count_in}
use Rattle.drm_model.specs.Rows.{Rows, ClientRow, MasterRow, ObjectRow, GrantRow}

-- the rows are in the order of the steps that made them, a step made one at most, and the last step is this one
abbrev pub MadeInTurn : {X : Type 0} → (X → ℕ) → ℕ → List X → Type 0
MadeInTurn step_number_of last rows =
    InOrder (λ x y. step_number_of x < step_number_of y) rows × AllByRecursion (λ x. step_number_of x ≤ last) rows

-- no two clients, masters or objects have the same number, and none is of a step to come
abbrev pub StepNumbersRise : ℕ → Rows → Type 0
StepNumbersRise last w =
    MadeInTurn (λ (row : ClientRow). row.client) last w.clients
    × MadeInTurn (λ (row : MasterRow). row.master) last w.masters
    × MadeInTurn (λ (row : ObjectRow). row.object) last w.objects

-- a step adds one row at most to each list, but as many grants as there are fixed mode objects, 64 at most
abbrev pub most_in : Part → ℕ → ℕ
most_in Grants steps = 64 * steps
most_in _ steps = steps

-- each list has no more rows than this many steps can add
abbrev pub FewRows : ℕ → Rows → Type 0
FewRows steps w = (part : Part) → count_in part w ≤ most_in part steps

-- a step made the client, and its master, if it has one, is of no step to come
abbrev pub IsMadeClient : ℕ → ClientRow → Type 0
IsMadeClient last row = (1 ≤ row.client) × IfSome row.master (λ m. m ≤ last)

-- a step made the master, and its lessor, if it has one, is older
abbrev pub IsMadeMaster : ℕ → MasterRow → Type 0
IsMadeMaster last row = (1 ≤ row.master) × (row.master ≤ last) × IfSome row.lessor (λ lessor. lessor < row.master)

-- steps up to the last made the clients, masters and objects, and a lessor is older than its lessee
abbrev pub WereMade : ℕ → Rows → Type 0
WereMade last w =
    AllByRecursion (IsMadeClient last) w.clients
    × AllByRecursion (IsMadeMaster last) w.masters
    × AllByRecursion (λ (row : ObjectRow). 1 ≤ row.object) w.objects
    × IfSome w.device_master (λ m. m ≤ last)

-- steps up to the last made the masters that grants name
abbrev pub GrantsMade : ℕ → Rows → Type 0
GrantsMade last w = AllByRecursion (λ (row : GrantRow). row.master ≤ last) w.grants
