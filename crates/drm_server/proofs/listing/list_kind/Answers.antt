use Rattle.std.proofs.Common.{◌≡◌, ℕ, ◌∙◌, ◌+◌, ◌*◌, ◌^◌, ◌<◌, ◌≤◌, List, [], ◌∷◌, refl, sym, ap, subst, take, drop, length, arith}
use Rattle.std.specs.List.{flat_map}
use Rattle.std.proofs.lemmas.Bool.{eqb-true}
use Rattle.drm_table.specs.declared.audits.AuditRow.{AuditRow}
use Rattle.drm_model.specs.Audit.{audit_rows, rising_rows, audit_page}
use Rattle.drm_model.specs.Run.{rows_of}
use Rattle.drm_frames.specs.Turns.{WriteCost}
use Rattle.drm_script.specs.Lines as lines
use Rattle.drm_frames.specs.Texts.{WritesOut}
use Rattle.drm_frames.proofs.Traces.{WriteCost-none, WriteCost-then}
use Rattle.drm_frames.proofs.TextLemmas.{stops, all-taken}
use Rattle.drm_server.proofs.ListingLemmas.{next-page, whole-page, last-page}
use Rattle.drm_server.proofs.listing.list_kind.Goals as goal

empty : (xs : List AuditRow) → length xs ≡ 0 → xs ≡ []
empty [] h = refl
empty (x ∷ xs) h = cc

times : (n : ℕ) → n * 16 + 16 ≡ (n + 1) * 16
times n = omega arith

pub loop-number-init : goal.loop-number-init
loop-number-init g c =
    record
    { pays = WriteCost-none (g.K.Sink.trace c.args.sink.now) c.args.turns.now; few = λ h. absurd (omega (arith, h)) }

pub returns-then-is_empty : goal.returns-then-is_empty
unfolding audit_page
returns-then-is_empty g c =
    let line = lines.audit_line c.args.kind in
    let rows = rising_rows (audit_rows (rows_of c.args.device.now) c.args.kind) in
    let page : c.rows-rows.result.now ≡ take 16 (drop (c.loop-number.number * 16) rows) =
    c.rows-rows.ensures.rows ∙ c.audit-page.ensures.page in
    let none : c.rows-rows.result.now ≡ [] =
    empty c.rows-rows.result.now
    (eqb-true (length c.rows-rows.result.now) 0 (sym c.is_empty.ensures ∙ c.if-is_empty.true)) in
    subst
    (λ xs. WriteCost (g.K.Sink.trace c.args.sink.now) (g.K.Sink.trace c.loop-number.sink) (flat_map line xs) c.args.turns.now c.loop-number.turns)
    (last-page line rows (c.loop-number.number * 16) 16 (omega arith) (sym page ∙ none)) c.loop-number.invariant.pays

pub list_rows-requires : goal.list_rows-requires
list_rows-requires g c = let paid = c.loop-number.invariant.pays.cost in omega (arith, paid, c.requires)

pub returns-in_default : goal.returns-in_default
unfolding audit_page
returns-in_default g c =
    let line = lines.audit_line c.args.kind in
    let rows = rising_rows (audit_rows (rows_of c.args.device.now) c.args.kind) in
    let page : c.rows-rows.result.now ≡ take 16 (drop (c.loop-number.number * 16) rows) =
    c.rows-rows.ensures.rows ∙ c.audit-page.ensures.page in
    let text =
    subst
    (λ xs. WritesOut c.list_rows.result (g.K.Sink.trace c.loop-number.sink) (g.K.Sink.trace c.list_rows.new.sink) (flat_map line xs) c.loop-number.turns c.list_rows.new.turns)
    page c.list_rows.ensures in
    stops c.list_rows.result c.in_default.not-Whole _ _ _ (flat_map line (take (c.loop-number.number * 16) rows))
    (flat_map line (take 16 (drop (c.loop-number.number * 16) rows)))
    (flat_map line (drop 16 (drop (c.loop-number.number * 16) rows))) _ _ _ _
    (whole-page line rows (c.loop-number.number * 16) 16) c.loop-number.invariant.pays text

pub loop-number-preserved : goal.loop-number-preserved
unfolding audit_page
loop-number-preserved g c =
    let line = lines.audit_line c.args.kind in
    let rows = rising_rows (audit_rows (rows_of c.args.device.now) c.args.kind) in
    let page : c.rows-rows.result.now ≡ take 16 (drop (c.loop-number.number * 16) rows) =
    c.rows-rows.ensures.rows ∙ c.audit-page.ensures.page in
    let text =
    subst
    (λ xs. WriteCost (g.K.Sink.trace c.loop-number.sink) (g.K.Sink.trace c.list_rows.new.sink) (flat_map line xs) c.loop-number.turns c.list_rows.new.turns)
    page c.in-Whole.ensures in
    record {
      pays =
          subst
          (λ all. WriteCost (g.K.Sink.trace c.args.sink.now) (g.K.Sink.trace c.list_rows.new.sink) all c.args.turns.now c.list_rows.new.turns)
          (next-page line rows (c.loop-number.number * 16) 16 ∙ ap (λ n. flat_map line (take n rows)) (times c.loop-number.number))
          (WriteCost-then c.loop-number.invariant.pays text);
      few = λ h. c.audit-page.ensures.few;
    }

pub returns : goal.returns
returns g c =
    let line = lines.audit_line c.args.kind in
    let rows = rising_rows (audit_rows (rows_of c.args.device.now) c.args.kind) in
    let many : 0 < c.loop-number.number = omega arith in
    let few : length rows < 2 ^ 31 = c.loop-number.invariant.few many in
    let all : length rows ≤ c.loop-number.number * 16 = omega (arith, few) in
    subst
    (λ xs. WriteCost (g.K.Sink.trace c.args.sink.now) (g.K.Sink.trace c.loop-number.sink) (flat_map line xs) c.args.turns.now c.loop-number.turns)
    (all-taken line rows (c.loop-number.number * 16) all) c.loop-number.invariant.pays
