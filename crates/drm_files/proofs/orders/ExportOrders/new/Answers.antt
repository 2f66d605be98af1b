use Rattle.drm_files.proofs.InOrder.{none_in_order}
use Rattle.drm_files.proofs.orders.ExportOrders.new.Goals as goal

pub returns : goal.returns
returns c = none_in_order _ c.new-2.ensures
