-- What follows the room for the head of a frame.
use Rattle.std.proofs.Common.{◌≡◌, ℕ, List, ◌++◌, length, drop, ap, ◌∙◌}
use Rattle.std.proofs.lemmas.List.{drop_at}

-- Without the first 6 bytes, what is left is what was written after them.
pub behind-head : (head fields whole : List ℕ) → length head ≡ 6 → whole ≡ head ++ fields → drop 6 whole ≡ fields
behind-head head fields whole len is = ap (drop 6) is ∙ drop_at head fields 6 len
