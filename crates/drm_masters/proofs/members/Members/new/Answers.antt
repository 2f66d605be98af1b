use Rattle.std.proofs.Common.{ap, ◌∙◌}
use Rattle.drm_index_array.specs.Indexed.{Indexed}
use Rattle.drm_id_alloc.specs.Groups.{has}
use Rattle.drm_id_alloc.proofs.GroupLemmas.{grouped_empty}
use Rattle.drm_masters.specs.declared.members.Membership.{Membership}
use Rattle.drm_masters.specs.Tables.{members_in}
use Rattle.drm_masters.proofs.ClientList.{no_clients}
use Rattle.drm_masters.proofs.ClientsOfMasters.{master_of}
use Rattle.drm_masters.proofs.members.Members.new.Goals as goal

pub invariant_of-result : goal.invariant_of-result
invariant_of-result c =
    grouped_empty master_of c.new.result.items (has c.new-2.result)
    (ap (λ (a : Indexed Membership). a.items) c.new.ensures) c.new-2.ensures

pub returns : goal.returns
returns c = λ i. record { items = (ap (λ (a : Indexed Membership). members_in a.items) c.new.ensures ∙ no_clients) i }
