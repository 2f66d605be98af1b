use Rattle.std.proofs.Common.{◌+◌, refl, ap, sym, ◌∙◌, arith, length}
use Rattle.std.specs.Prelude.{position}
use Rattle.std.proofs.lemmas.Bool.{false≢true}
use Rattle.drm_script.specs.Lines.{is_line_end}
use Rattle.drm_script.specs.Words.{words_of}
use Rattle.drm_runs.specs.declared.causes.Unfit.TheVariants as causes
use Rattle.drm_runs.specs.declared.reading.UnfitLine.{UnfitLine}
use Rattle.drm_runs.specs.TopologyLines.{lines_in}
use Rattle.drm_runs.specs.Parts.{told_in}
use Rattle.drm_runs.specs.Told.{topology_told}
use Rattle.drm_runs.proofs.SoFar.{none_so_far, nonempty, at_line, at_end, line_read, line_unfit, unfit_is_unfit, told_all, all_fit, end_unfit, few_places, topology_sound, some_made, none_made, shorter}
use Rattle.drm_runs.proofs.reading.read_topology.Goals as goal

pub lines-init : goal.lines-init
lines-init c = record {
  so_far = none_so_far (lines_in c.args.text.now) (told_in c.new-parts.result) c.new-parts.ensures;
  room = omega arith;
}

-- a line doesn't fit
pub returns-in-Err : goal.returns-in-Err
returns-in-Err c =
    let rest = c.lines.rest.now in
    let lines = lines_in c.args.text.now in
    let t = told_in c.lines.parts in
    let line = c.first_line.result.0.now in
    let behind = c.first_line.result.1.now in
    let some = nonempty rest c.is_empty.result c.is_empty.ensures c.lines-test.true in
    let so_far =
    at_line lines rest line behind c.lines.above t c.lines.invariant.so_far some c.first_line.ensures.lines in
    let told : UnfitLine = record { number = c.lines.above + 1; cause = c.in-Err.cause } in
    let unfit =
    line_unfit lines (lines_in behind) (words_of line) c.lines.above t so_far told refl (sym c.in-Err.ensures.cause)
    in
    record {
      fits = (λ ok. absurd (false≢true ok), λ all. absurd (unfit_is_unfit lines told unfit all));
      topology = tt;
      unfit = unfit;
    }

pub lines-preserved : goal.lines-preserved
lines-preserved c =
    let rest = c.lines.rest.now in
    let lines = lines_in c.args.text.now in
    let t = told_in c.lines.parts in
    let line = c.first_line.result.0.now in
    let behind = c.first_line.result.1.now in
    let some = nonempty rest c.is_empty.result c.is_empty.ensures c.lines-test.true in
    let so_far =
    at_line lines rest line behind c.lines.above t c.lines.invariant.so_far some c.first_line.ensures.lines in
    record {
      so_far =
          line_read lines (lines_in behind) (words_of line) c.lines.above t so_far (told_in c.read_line.new.parts)
          (sym c.in_default.ensures.cause) c.in_default.ensures.told;
      room =
          omega
          (arith, c.lines.invariant.room, ap length c.first_line.ensures.behind, shorter rest (position is_line_end rest) some);
    }

pub topology-requires : goal.topology-requires
topology-requires c =
    let lines = lines_in c.args.text.now in
    let t = told_in c.lines.parts in
    let so_far =
    at_end lines c.lines.rest.now c.lines.above t c.is_empty.result c.lines.invariant.so_far c.is_empty.ensures
    c.lines-test.false in
    record { places = few_places lines c.lines.above t so_far; is = topology_sound lines c.lines.above t so_far }

-- all lines fit, and the number of CRTCs is set
pub returns-in-Some : goal.returns-in-Some
returns-in-Some c =
    let lines = lines_in c.args.text.now in
    let t = told_in c.lines.parts in
    let so_far =
    at_end lines c.lines.rest.now c.lines.above t c.is_empty.result c.lines.invariant.so_far c.is_empty.ensures
    c.lines-test.false in
    let made = some_made t.crtcs (topology_told t) c.in-Some.topology c.in-Some.ensures in
    record {
      fits = (λ ok. all_fit lines c.lines.above t so_far made.0, λ all. refl);
      topology = made.1 ∙ ap topology_told (told_all lines c.lines.above t so_far);
      unfit = tt;
    }

-- and they are not
pub returns-in-None : goal.returns-in-None
returns-in-None c =
    let lines = lines_in c.args.text.now in
    let t = told_in c.lines.parts in
    let so_far =
    at_end lines c.lines.rest.now c.lines.above t c.is_empty.result c.lines.invariant.so_far c.is_empty.ensures
    c.lines-test.false in
    let told : UnfitLine = record { number = c.lines.above + 1; cause = causes.NoCrtcs } in
    let unfit =
    end_unfit lines c.lines.above t so_far told refl refl (none_made t.crtcs (topology_told t) c.in-None.ensures) in
    record {
      fits = (λ ok. absurd (false≢true ok), λ all. absurd (unfit_is_unfit lines told unfit all));
      topology = tt;
      unfit = unfit;
    }
