-- Numbers that are free, as a new lessee or magic gets them.
use Rattle.std.proofs.Common.{◌≡◌, ℕ, ◌+◌, Bool, true, false, Option, None, Some, refl}
use Rattle.std.specs.Prelude.{unwrap_or}
use Rattle.std.specs.Option.{is_some, option_or}
use Rattle.drm_index_array.specs.Least.{least}
use Rattle.drm_index_array.proofs.Least.{least_some}
use Rattle.drm_model.specs.Numbers.{next_in_turn}

-- The lowest number that passes a test passes it.
pub least_passes : (p : ℕ → Bool) (from to : ℕ) → is_some (least p from to) ≡ true
    → p (unwrap_or (least p from to) 0) ≡ true
least_passes p from to h = by (least p from to) refl h
  where
    by : (o : Option ℕ) → least p from to ≡ o → is_some o ≡ true → p (unwrap_or o 0) ≡ true
    by None e k = absurd (let n : false ≡ true = k in cc)
    by (Some n) e k = (least_some p from to n e).passes

-- The next number in rotation that passes a test passes it.
pub next_passes : (p : ℕ → Bool) (given last : ℕ) → is_some (next_in_turn p given last) ≡ true
    → p (unwrap_or (next_in_turn p given last) 0) ≡ true
next_passes p given last h = by (least p (given + 1) last) refl h
  where
    by : (o : Option ℕ) → least p (given + 1) last ≡ o → is_some (option_or o (least p 1 last)) ≡ true
        → p (unwrap_or (option_or o (least p 1 last)) 0) ≡ true
    by None e k = least_passes p 1 last k
    by (Some n) e k = (least_some p (given + 1) last n e).passes
