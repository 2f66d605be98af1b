use Rattle.std.proofs.Common.{ap, ◌∙◌, arith}
use Rattle.drm_files.specs.Records.{lists_of}
use Rattle.drm_files.proofs.RecordFacts.{AreRecords-empty, lists-empty}
use Rattle.drm_files.proofs.files.Files.new.Goals as goal

pub invariant_of-result : goal.invariant_of-result
invariant_of-result c =
    AreRecords-empty c.args.clients c.args.handles _ (ap (λ a. a.items) c.new.ensures) (omega arith) c.requires
    (omega arith)

pub returns : goal.returns
returns c =
    ap (λ a. lists_of c.args.clients c.args.handles a.items) c.new.ensures ∙ lists-empty c.args.clients c.args.handles
