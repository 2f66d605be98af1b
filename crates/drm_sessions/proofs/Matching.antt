-- Lists that are matched member by member.
use Rattle.std.proofs.Common.{◌≡◌, suc, List, [], ◌∷◌, ◌++◌, All, length, refl, ap}
use Rattle.std.proofs.lemmas.List.Elements.{All-head, All-tail}
use Rattle.drm_sessions.specs.Matched.{Matched}

-- Two lists that match still do with one more of each that matches.
pub Matched-push : {X Y : Type 0} (R : X → Y → Type 0) (xs : List X) (ys : List Y) (x : X) (y : Y) → Matched R xs ys
    → R x y → Matched R (xs ++ x ∷ []) (ys ++ y ∷ [])
Matched-push R [] [] x y m r = (r, tt)
Matched-push R [] (b ∷ ys) x y m r = absurd m
Matched-push R (a ∷ xs) [] x y m r = absurd m
Matched-push R (a ∷ xs) (b ∷ ys) x y m r = (m.0, Matched-push R xs ys x y m.1 r)

-- Two lists that match have one length.
pub Matched-length : {X Y : Type 0} (R : X → Y → Type 0) (xs : List X) (ys : List Y) → Matched R xs ys
    → length xs ≡ length ys
Matched-length R [] [] m = refl
Matched-length R [] (b ∷ ys) m = absurd m
Matched-length R (a ∷ xs) [] m = absurd m
Matched-length R (a ∷ xs) (b ∷ ys) m = ap suc (Matched-length R xs ys m.1)

-- Two lists that each match a third, whose members have a property, match if the members do.
pub Matched-beside : {X Y Z : Type 0} (P : Y → Type 0) (Q : X → Y → Type 0) (R : Y → Z → Type 0) (S : X → Z → Type 0)
    → ((x : X) (y : Y) (z : Z) → P y → Q x y → R y z → S x z) → (xs : List X) (ys : List Y) (zs : List Z) → All P ys
    → Matched Q xs ys → Matched R ys zs → Matched S xs zs
Matched-beside P Q R S step [] [] [] all m n = tt
Matched-beside P Q R S step [] [] (c ∷ zs) all m n = absurd n
Matched-beside P Q R S step [] (b ∷ ys) zs all m n = absurd m
Matched-beside P Q R S step (a ∷ xs) [] zs all m n = absurd m
Matched-beside P Q R S step (a ∷ xs) (b ∷ ys) [] all m n = absurd n
Matched-beside P Q R S step (a ∷ xs) (b ∷ ys) (c ∷ zs) all m n =
    (step a b c (All-head P b ys all) m.0 n.0, Matched-beside P Q R S step xs ys zs (All-tail P b ys all) m.1 n.1)

-- Two lists still match by a relation that follows from the one they match by.
pub Matched-map : {X Y : Type 0} (P Q : X → Y → Type 0) → ((x : X) (y : Y) → P x y → Q x y)
    → (xs : List X) (ys : List Y) → Matched P xs ys → Matched Q xs ys
Matched-map P Q step [] [] m = tt
Matched-map P Q step [] (b ∷ ys) m = absurd m
Matched-map P Q step (a ∷ xs) [] m = absurd m
Matched-map P Q step (a ∷ xs) (b ∷ ys) m = (step a b m.0, Matched-map P Q step xs ys m.1)
