use Rattle.std.proofs.Common.{◌≡◌, ap, sym, ◌∙◌, true, false, length, nat_lt, arith}
use Rattle.std.specs.Char.{is_ascii}
use Rattle.std.specs.List.{list_all}
use Rattle.std.specs.Option.{is_none}
use Rattle.std.proofs.lemmas.Bool.Decides.{nat_tests}
use Rattle.drm_script.specs.Reading.{reading_of}
use Rattle.drm_script.proofs.ForeignLemmas.{all_ascii}
use Rattle.drm_script.proofs.reading.read_line.Goals as goal

pub returns-in-Ok-clause-reading : goal.returns-in-Ok-clause-reading
unfolding reading_of
returns-in-Ok-clause-reading c =
    let short : nat_lt 255 (length c.args.line.now) ≡ false = grind (arith, nat_tests, c.if-line-gt-LONGEST.false) in
    let ascii : list_all is_ascii c.args.line.now ≡ true =
    all_ascii c.args.line.now ∙ ap is_none (sym c.first_foreign.ensures.place ∙ c.in_default.is) in
    rw (short, ascii, ← c.is_comment.ensures, c.if-is_comment.false) c.in-Ok.ensures.reading
