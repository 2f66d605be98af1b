-- What a look at the next bytes shows, and what reading ahead moves (own).
use Rattle.std.specs.Prelude.{◌≡◌, ℕ, ◌<◌, List, ◌++◌, length, take, drop, Option, Result, MatchResult, option_map, ⊤}
use Rattle.std.specs.Io.KnownBytes.{Keeps, Consumes, IsAtEnd}

-- the known bytes after the first n
abbrev pub after_first : ℕ → Option (List ℕ) → Option (List ℕ)
after_first n known = option_map (λ bytes. drop n bytes) known

-- A look at the next bytes takes none. At `Ok(n)`, the first n bytes of the buffer are the next ones, none only at the end or
-- with no room.
abbrev pub Shows : {E : Type 0} → Option (List ℕ) → Option (List ℕ) → Result ℕ E → List ℕ → Type 0
Shows old new r buf =
    Keeps old new
    × MatchResult r (λ n. Consumes new (after_first n new) (take n buf) × (n ≡ 0 → 0 < length buf → IsAtEnd new)) (λ _. ⊤)

-- At `Ok(n)`, the n next bytes of a reader follow those that wait, none only at the end; nothing is moved at `Err`.
abbrev pub Moves : {E : Type 0} → Option (List ℕ) → Option (List ℕ) → List ℕ → List ℕ → Result ℕ E → Type 0
Moves old new waited waits r =
    MatchResult r (λ n. (bytes : List ℕ) × (waits ≡ waited ++ bytes) × Consumes old new bytes × (length bytes ≡ n))
    (λ _. (waits ≡ waited) × Keeps old new)
