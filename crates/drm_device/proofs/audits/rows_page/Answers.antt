use Rattle.std.proofs.Common.{◌≡◌, ◌+◌, [], ◌∷◌, ◌++◌, take, drop, length, length-append, ◌∙◌, ap, arith}
use Rattle.drm_index_array.proofs.Pages.{page-more, page-end}
use Rattle.drm_model.specs.Audit.{audit_rows, rising_rows, audit_page}
use Rattle.drm_device.specs.Audits.{IsPage, IsRowAt}
use Rattle.drm_device.proofs.audits.rows_page.Goals as goal

pub push-requires : goal.push-requires
push-requires c = omega (arith, c.loop-position.invariant.length)

pub returns-in-None : goal.returns-in-None
unfolding IsPage IsRowAt audit_page
returns-in-None c = λ w h.
    c.loop-position.invariant.rows w h
    ∙ page-end (rising_rows (audit_rows w c.args.kind)) c.args.from c.loop-position.position 16 (c.in-None.ensures w h)
    (omega arith)

pub loop-position-preserved : goal.loop-position-preserved
unfolding IsRowAt
loop-position-preserved c = record {
  rows = λ w h.
      c.push.ensures ∙ ap (λ rows. rows ++ c.in-Some.row ∷ []) (c.loop-position.invariant.rows w h)
      ∙ page-more (rising_rows (audit_rows w c.args.kind)) c.args.from c.loop-position.position c.in-Some.row
      (c.in-Some.ensures w h);
  length =
      ap length c.push.ensures ∙ length-append c.loop-position.page (c.in-Some.row ∷ [])
      ∙ ap (λ n. n + 1) c.loop-position.invariant.length;
}

pub returns : goal.returns
unfolding IsPage audit_page
returns c = λ w h.
    let all : c.loop-position.position ≡ 16 = omega arith in
    c.loop-position.invariant.rows w h
    ∙ ap (λ n. take n (drop c.args.from (rising_rows (audit_rows w c.args.kind)))) all
