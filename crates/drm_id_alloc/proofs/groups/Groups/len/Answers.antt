use Rattle.std.proofs.Common.{[], length, ap, ◌∙◌}
use Rattle.std.specs.Option.{option_map_or}
use Rattle.std.specs.FinMap as map
use Rattle.drm_index_array.specs.Indexed.{Indexed}
use Rattle.drm_id_alloc.specs.Groups.{GroupMap, numbers_of}
use Rattle.drm_id_alloc.proofs.NumberLemmas.{as_many_keys}
use Rattle.drm_id_alloc.proofs.groups.Groups.len.Goals as goal

pub returns-in-Some : goal.returns-in-Some
returns-in-Some c =
    c.len.ensures ∙ as_many_keys c.in-Some.numbers.now
    ∙ ap (λ o. length (option_map_or (λ (numbers : Indexed (Unit {0})). map.keys numbers.items) o []))
    c.in-Some.ensures.value
    ∙ ap (λ (m : GroupMap). length (numbers_of m c.args.group)) c.self.view_is
