-- What is left of a connection's requests as bytes are removed, read ahead and looked at.
use Rattle.std.proofs.Common.{◌≡◌, ℕ, ◌+◌, ◌-◌, ◌≤◌, List, [], ◌++◌, length, drop, None, Some, sym, ap, ◌∙◌, arith, append_assoc}
use Rattle.std.specs.declared.option.Option.{Option}
use Rattle.std.proofs.Math.Seq.{drop-append-add}
use Rattle.std.specs.Io.KnownBytes.{prepend_known, Keeps, Consumes, IsAtEnd}
use Rattle.drm_connections.specs.Looks.{after_first}

-- Bytes that were looked at are removed.
pub removed : (a b : Option (List ℕ)) (waits bytes : List ℕ) (seen n : ℕ) → Consumes a b bytes → length bytes ≡ n → n ≤ seen
    → Keeps (prepend_known waits (after_first seen a)) (prepend_known waits (after_first (seen - n) b))
removed None b waits bytes seen n took size within = tt
removed (Some x) None waits bytes seen n took size within = absurd took
removed (Some x) (Some y) waits bytes seen n took size within =
    let whole : length bytes + (seen - n) ≡ seen = omega (arith, size, within) in
    ap (λ l. waits ++ l)
    (sym (drop-append-add bytes y (seen - n)) ∙ ap (λ k. drop k (bytes ++ y)) whole ∙ ap (drop seen) (sym took))

-- Bytes are read ahead of others.
pub moved : (a b : Option (List ℕ)) (waited waits bytes : List ℕ) → Consumes a b bytes → waits ≡ waited ++ bytes
    → Keeps (prepend_known waited (after_first 0 a)) (prepend_known waits (after_first 0 b))
moved None b waited waits bytes took e = tt
moved (Some x) None waited waits bytes took e = absurd took
moved (Some x) (Some y) waited waits bytes took e =
    ap (λ l. l ++ y) e ∙ append_assoc waited bytes y ∙ ap (λ l. waited ++ l) (sym took)

-- The stream keeps its bytes.
pub kept : (a b : Option (List ℕ)) (waits : List ℕ) (seen : ℕ) → Keeps a b
    → Keeps (prepend_known waits (after_first seen a)) (prepend_known waits (after_first seen b))
kept None b waits seen p = tt
kept (Some x) None waits seen p = absurd p
kept (Some x) (Some y) waits seen p = ap (λ l. waits ++ drop seen l) p

-- The front of what was read ahead is handed on.
pub handed : (a : Option (List ℕ)) (waited waits bytes : List ℕ) → waited ≡ bytes ++ waits
    → Consumes (prepend_known waited (after_first 0 a)) (prepend_known waits (after_first 0 a)) bytes
handed None waited waits bytes e = tt
handed (Some x) waited waits bytes e = ap (λ l. l ++ x) e ∙ append_assoc bytes waits x

-- Bytes of the stream are handed on, where none were read ahead.
pub read : (a b : Option (List ℕ)) (waits bytes : List ℕ) → waits ≡ [] → Consumes a b bytes
    → Consumes (prepend_known waits (after_first 0 a)) (prepend_known waits (after_first 0 b)) bytes
read None b waits bytes none took = tt
read (Some x) None waits bytes none took = absurd took
read (Some x) (Some y) waits bytes none took = rw none took

-- Bytes that are looked at are handed on, where none were read ahead.
pub looked : (a b : Option (List ℕ)) (waits bytes : List ℕ) (n : ℕ) → waits ≡ [] → Keeps a b → Consumes b (after_first n b) bytes
    → Consumes (prepend_known waits (after_first 0 a)) (prepend_known waits (after_first n b)) bytes
looked None b waits bytes n none same took = tt
looked (Some x) None waits bytes n none same took = absurd same
looked (Some x) (Some y) waits bytes n none same took = rw none (sym same ∙ took)

-- Nothing is left where none were read ahead and the stream is at its end.
pub ended : (a : Option (List ℕ)) (waits : List ℕ) → waits ≡ [] → IsAtEnd a → IsAtEnd (prepend_known waits (after_first 0 a))
ended None waits none end = tt
ended (Some x) waits none end = rw none end

-- Bytes that are handed on are those that were left before a wait.
pub later : (a b c d : Option (List ℕ)) (bytes : List ℕ) → Keeps a b → Keeps b c → Consumes c d bytes → Consumes a d bytes
later None b c d bytes p q took = tt
later (Some x) None c d bytes p q took = absurd p
later (Some x) (Some y) None d bytes p q took = absurd q
later (Some x) (Some y) (Some z) None bytes p q took = absurd took
later (Some x) (Some y) (Some z) (Some w) bytes p q took = sym p ∙ sym q ∙ took
