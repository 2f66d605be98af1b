use Rattle.std.proofs.Common.{◌≡◌, ℕ, zero, suc, List, [], ◌∷◌, refl, sym, ap, ◌∙◌, slice_index_or}
use Rattle.std.specs.Prelude.{map}
use denote.Enum.Declared.{tag_of}
use Rattle.drm_table.specs.contracts.calls.CallKind.{the_type}
use Rattle.drm_table.specs.declared.calls.CallKind.{CallKind}
use Rattle.drm_table.specs.declared.calls.CallKind.TheVariants as kinds
use Rattle.drm_table.specs.declared.rows.Row.{Row}
use Rattle.drm_table.specs.Table.{kind_row, all_kinds, columns, TableRow}
use Rattle.drm_table.proofs.calls.CallKind.row.Goals as goal

map-at : {A B : Type 0} (f : A → B) (xs : List A) (i : ℕ) (default : A)
    → slice_index_or (map f xs) i (f default) ≡ f (slice_index_or xs i default)
map-at f [] i default = refl
map-at f (x ∷ xs) zero default = refl
map-at f (x ∷ xs) (suc i) default = map-at f xs i default

-- each kind is at its place
placed : (kind : CallKind) (default : TableRow)
    → slice_index_or (map kind_row all_kinds) (tag_of the_type kind) default ≡ kind_row kind
placed kinds.Version default = refl
placed _ default = refl

-- and so does its row
at-place : (rows : List Row) (kind : CallKind) (default : Row) → map columns rows ≡ map kind_row all_kinds
    → columns (slice_index_or rows (tag_of the_type kind) default) ≡ kind_row kind
at-place rows kind default same =
    sym (map-at columns rows (tag_of the_type kind) default)
    ∙ ap (λ (all : List TableRow). slice_index_or all (tag_of the_type kind) (columns default)) same
    ∙ placed kind (columns default)

pub returns-clause-number : goal.returns-clause-number
returns-clause-number c =
    ap (λ (row : TableRow). row.number) (at-place c.rows.result.now c.args.self _ c.rows.ensures.rows)

pub returns-clause-name : goal.returns-clause-name
returns-clause-name c = ap (λ (row : TableRow). row.name) (at-place c.rows.result.now c.args.self _ c.rows.ensures.rows)

pub returns-clause-word : goal.returns-clause-word
returns-clause-word c = ap (λ (row : TableRow). row.word) (at-place c.rows.result.now c.args.self _ c.rows.ensures.rows)

pub returns-clause-flags : goal.returns-clause-flags
returns-clause-flags c =
    ap (λ (row : TableRow). row.flags) (at-place c.rows.result.now c.args.self _ c.rows.ensures.rows)

pub returns-clause-layout : goal.returns-clause-layout
returns-clause-layout c =
    ap (λ (row : TableRow). row.layout) (at-place c.rows.result.now c.args.self _ c.rows.ensures.rows)

pub returns-clause-family : goal.returns-clause-family
returns-clause-family c =
    ap (λ (row : TableRow). row.family) (at-place c.rows.result.now c.args.self _ c.rows.ensures.rows)
