-- The parts of the rows (own).
use Rattle.std.specs.Prelude.{ℕ, length}
use Rattle.drm_model.specs.Rows.{Rows}

-- the parts: the bounds, and each list of rows
pub data Part : Type 0 where
  Bounds : Part
  Clients : Part
  Masters : Part
  Magics : Part
  Holds : Part
  Objects : Part
  Names : Part
  Tokens : Part
  Grants : Part
  Framebuffers : Part
  Shown : Part
  DeviceMaster : Part
  LastToken : Part
  LastLeaseToken : Part

-- how many rows a part has; what is no list has none
unfoldable pub count_in : Part → Rows → ℕ
count_in Bounds w = 0
count_in Clients w = length w.clients
count_in Masters w = length w.masters
count_in Magics w = length w.magics
count_in Holds w = length w.holds
count_in Objects w = length w.objects
count_in Names w = length w.names
count_in Tokens w = length w.tokens
count_in Grants w = length w.grants
count_in Framebuffers w = length w.framebuffers
count_in Shown w = length w.shown
count_in DeviceMaster w = 0
count_in LastToken w = 0
count_in LastLeaseToken w = 0
