-- The clients that have rows, step by step.
use Rattle.std.proofs.Common.{◌≡◌, ℕ, ◌+◌, ◌<◌, Bool, List, [], ◌∷◌, ◌++◌, filter, length, get_or, map, take, Option, None, Some, option_to_list, refl, sym, ap, ◌∙◌, append-nil}
use Rattle.std.specs.Option.{option_map}
use Rattle.drm_trails.specs.Steps.{entry_of, followed_by, history_of}
use Rattle.drm_trails.specs.declared.steps.Step.{Step}
use Rattle.drm_trails.proofs.PassingLemmas.{history-more}
use Rattle.drm_explanations.specs.Rows.{has_row, opening_by, opening_of_row, openings_in}
use Rattle.drm_explanations.specs.declared.rows.ClientRow.{ClientRow}
use Rattle.drm_explanations.specs.declared.rows.Node.{Node}

-- the opening of a step, if its client has a row
abbrev pub shown_opening : Option ℕ → Step → List (ℕ × (Node × Bool))
shown_opening only step =
    filter (λ (o : ℕ × (Node × Bool)). has_row only o.0) (option_to_list (opening_by (entry_of step)))

-- Without steps no client has a row.
pub none_opened : (only : Option ℕ) → openings_in only (history_of []) ≡ []
unfolding openings_in followed_by
none_opened only = refl

opened_more : (only : Option ℕ) (steps : List Step) (n : ℕ) (step : Step) → n < length steps
    → step ≡ get_or steps n step
    → openings_in only (history_of (take (n + 1) steps)) ≡ openings_in only (history_of (take n steps)) ++ shown_opening only step
unfolding openings_in
opened_more only steps n step within is = ap (openings_in only) (history-more steps n step within is)

-- To map two lists one after the other is to map each.
pub map_append : {X Y : Type 0} (f : X → Y) (xs ys : List X) → map f (xs ++ ys) ≡ map f xs ++ map f ys
map_append f [] ys = refl
map_append f (x ∷ xs) ys = ap (λ l. f x ∷ l) (map_append f xs ys)

-- One more step that opens a client adds the row of the client.
pub with_one : (only : Option ℕ) (steps : List Step) (n : ℕ) (step : Step) (rows : List ClientRow) (row : ClientRow)
    → n < length steps → step ≡ get_or steps n step
    → map opening_of_row rows ≡ openings_in only (history_of (take n steps))
    → option_to_list (option_map opening_of_row (Some row)) ≡ shown_opening only step
    → map opening_of_row (rows ++ row ∷ []) ≡ openings_in only (history_of (take (n + 1) steps))
with_one only steps n step rows row within is so_far new =
    map_append opening_of_row rows (row ∷ []) ∙ (λ i. so_far i ++ new i) ∙ sym (opened_more only steps n step within is)

-- One more step that opens no client adds no row.
pub with_none : (only : Option ℕ) (steps : List Step) (n : ℕ) (step : Step) (rows : List ClientRow) → n < length steps
    → step ≡ get_or steps n step
    → map opening_of_row rows ≡ openings_in only (history_of (take n steps))
    → option_to_list (option_map opening_of_row None) ≡ shown_opening only step
    → map opening_of_row rows ≡ openings_in only (history_of (take (n + 1) steps))
with_none only steps n step rows within is so_far new =
    so_far ∙ sym (append-nil (openings_in only (history_of (take n steps))))
    ∙ ap (λ l. openings_in only (history_of (take n steps)) ++ l) new ∙ sym (opened_more only steps n step within is)
