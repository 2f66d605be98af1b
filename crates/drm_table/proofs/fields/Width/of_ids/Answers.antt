use Rattle.std.proofs.Common.{◌∙◌}
use Rattle.std.proofs.lemmas.List.{take-replicate}
use Rattle.drm_table.specs.declared.fields.Width.TheVariants.{U32}
use Rattle.drm_table.proofs.fields.Width.of_ids.Goals as goal

pub returns : goal.returns
returns c = c.split_at.ensures.front ∙ take-replicate c.args.count 32 U32 c.requires
