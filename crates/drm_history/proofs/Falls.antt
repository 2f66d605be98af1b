-- What a history says of numbers: masters, leases and lessors are of steps that were made, and a lessor is older than its lessee.
use Rattle.std.proofs.Common.{◌≡◌, ℕ, ◌+◌, ◌<◌, ◌≤◌, ◌==◌, Bool, true, false, List, [], ◌∷◌, length, Option, None, Some, refl, ap, arith}
use Rattle.std.specs.Prelude.{if◌then◌else◌}
use Rattle.std.specs.Option.{option_or}
use Rattle.std.proofs.lemmas.Bool.{eqb-true}
use Rattle.drm_index_array.specs.Chains.{chain_within, last_of}
use Rattle.drm_index_array.specs.Numbers.{is_among}
use Rattle.drm_index_array.proofs.Chains.{IsFalling, same_chain}
use Rattle.drm_index_array.proofs.Numbers.{less-differ}
use Rattle.drm_model.specs.Rows.{is_option}
use Rattle.drm_history.specs.History.{AnsweredEvent, next_number}
use Rattle.drm_history.specs.Effects.{Effect, Nothing, OpensPrimary, OpensRender, Redeems, Closes, SetsMaster, DropsMaster, Leases, effect}
use Rattle.drm_history.specs.MasterState.{MasterState, master_state, transition, with_client, with_primary, with_set, owner_without, leased_by, lease_in}
use Rattle.drm_history.specs.Lessees.{lessor_by, lessor_in, top_in, is_under_in}

-- ---- numbers up to a last

abbrev pub UpTo : ℕ → Option ℕ → Type 0
UpTo last o = (m : ℕ) → o ≡ Some m → m ≤ last

-- No number is past the last, if there is none.
pub none_up : (last : ℕ) → UpTo last None
none_up last m e = absurd (let n : None ≡ Some m = e in cc)

-- A number is up to the last if it is at most that.
pub some_up : (last n : ℕ) → n ≤ last → UpTo last (Some n)
some_up last n h m e = let same : n ≡ m = (let s : Some n ≡ Some m = e in cc) in omega (arith, h, same)

-- What is up to the last step is up to the next one.
pub later_up : (last : ℕ) (o : Option ℕ) → UpTo last o → UpTo (last + 1) o
later_up last o h m e = let old = h m e in omega (arith, old)

-- A choice between two options is up to the last if both are.
pub if_up : (last : ℕ) (b : Bool) (x y : Option ℕ) → UpTo last x → UpTo last y → UpTo last (if b then x else y)
if_up last true x y h k = h
if_up last false x y h k = k

or_up : (last : ℕ) (x y : Option ℕ) → UpTo last x → UpTo last y → UpTo last (option_or x y)
or_up last None y h k = k
or_up last (Some n) y h k = h

-- ---- leases

leased_up : (d : Effect) (token number : ℕ) (older : Option ℕ) → UpTo number older
    → UpTo number (leased_by d token number older)
leased_up (Leases c ids lessee answered) token number older h =
    if_up number (answered == token) (Some number) older (some_up number number (omega arith)) h
leased_up Nothing token number older h = h
leased_up _ token number older h = h

-- The lessee of a lease token is of a step that was made.
pub lease_up : (past : List AnsweredEvent) (token : ℕ) → UpTo (length past) (lease_in past token)
unfolding lease_in
lease_up [] token m e = none_up 0 m e
lease_up (step ∷ past) token m e = let up = leased_up (effect step) token (next_number past) (lease_in past token) (later_up (length past) (lease_in past token) (lease_up past token)) m e in omega (arith, up)

-- ---- masters

record StandsUp (last : ℕ) (s : MasterState) : Type 0 where
  owner : UpTo last s.owner
  master : (c : ℕ) → UpTo last (s.master c)

later_stands : (last : ℕ) (s : MasterState) → StandsUp last s → StandsUp (last + 1) s
later_stands last s h =
    record { owner = later_up last s.owner h.owner; master = λ c. later_up last (s.master c) (h.master c) }

client_up : (last c : ℕ) (is_master : Bool) (master : Option ℕ) (s : MasterState) → UpTo last master → StandsUp last s
    → (d : ℕ) → UpTo last ((with_client c is_master master s).master d)
client_up last c is_master master s up h d = if_up last (d == c) master (s.master d) up (h.master d)

primary_up : (c : ℕ) (owner : Option ℕ) (s : MasterState) → UpTo c owner → StandsUp c s
    → StandsUp c (with_primary c owner s)
primary_up c None s up h =
    record { owner = some_up c c (omega arith); master = client_up c c true (Some c) s (some_up c c (omega arith)) h }
primary_up c (Some m) s up h = record { owner = h.owner; master = client_up c c false (Some m) s up h }

set_up : (number c : ℕ) (is_master : Bool) (s : MasterState) → StandsUp number s
    → StandsUp number (with_set number c is_master s)
set_up number c true s h = record { owner = or_up number s.owner (s.master c) h.owner (h.master c); master = h.master }
set_up number c false s h =
    record
    { owner = or_up number s.owner (Some number) h.owner (some_up number number (omega arith)); master = client_up number c true (Some number) s (some_up number number (omega arith)) h }

without_up : (last : ℕ) (is_master : Bool) (master owner : Option ℕ) → UpTo last owner
    → UpTo last (owner_without is_master master owner)
without_up last true (Some m) owner h = if_up last (is_option m owner) None owner (none_up last) h
without_up last true None owner h = h
without_up last false master owner h = h

transition_up : (d : Effect) (number : ℕ) (lease : ℕ → Option ℕ) (s : MasterState)
    → ((token : ℕ) → UpTo number (lease token)) → StandsUp number s → StandsUp number (transition d number lease s)
transition_up (OpensPrimary root capabilities) number lease s up h = primary_up number s.owner s h.owner h
transition_up OpensRender number lease s up h =
    record { owner = h.owner; master = client_up number number false None s (none_up number) h }
transition_up (Redeems token root capabilities) number lease s up h =
    record { owner = h.owner; master = client_up number number true (lease token) s (up token) h }
transition_up (Closes c) number lease s up h =
    record { owner = without_up number (s.is_master c) (s.master c) s.owner h.owner; master = h.master }
transition_up (SetsMaster c) number lease s up h = set_up number c (s.is_master c) s h
transition_up DropsMaster number lease s up h = record { owner = none_up number; master = h.master }
transition_up Nothing number lease s up h = h
transition_up _ number lease s up h = h

master_state_up : (past : List AnsweredEvent) → StandsUp (length past) (master_state past)
unfolding master_state
master_state_up [] = record { owner = none_up 0; master = λ c. none_up 0 }
master_state_up (step ∷ past) =
    let up =
    transition_up (effect step) (next_number past) (lease_in past) (master_state past)
    (λ token. later_up (length past) (lease_in past token) (lease_up past token))
    (later_stands (length past) (master_state past) (master_state_up past)) in
    record { owner = λ m e. let le = up.owner m e in omega (arith, le); master = λ c m e. let le = up.master c m e in omega (arith, le) }

-- The master of a client is of a step that was made.
pub master_up : (past : List AnsweredEvent) (c : ℕ) → UpTo (length past) ((master_state past).master c)
master_up past c = (master_state_up past).master c

-- ---- lessors

lessor_by_up : (d : Effect) (past : List AnsweredEvent) → UpTo (length past) (lessor_by d (master_state past))
lessor_by_up (Leases c ids lessee token) past = master_up past c
lessor_by_up Nothing past = none_up (length past)
lessor_by_up _ past = none_up (length past)

-- By the history a lessor is older than its lessee.
pub lessor_falls : (past : List AnsweredEvent) → IsFalling (lessor_in past)
unfolding lessor_in
lessor_falls [] n m e = absurd (let no_more : None ≡ Some m = e in cc)
lessor_falls (step ∷ past) n m e =
    (elim (n == next_number past) as (λ b. (n == next_number past) ≡ b → (if b then lessor_by (effect step) (master_state past) else lessor_in past n) ≡ Some m → m < n) [
      | true ↦ λ is k. let up = lessor_by_up (effect step) past m k in let same = eqb-true n (next_number past) is in omega (arith, up, same)
      | false ↦ λ is k. lessor_falls past n m k
    ]) refl e

-- By the history a master with a lessor is of a step that was made.
pub lessee_born : (past : List AnsweredEvent) (n m : ℕ) → lessor_in past n ≡ Some m → n ≤ length past
unfolding lessor_in
lessee_born [] n m e = absurd (let no_more : None ≡ Some m = e in cc)
lessee_born (step ∷ past) n m e =
    (elim (n == next_number past) as (λ b. (n == next_number past) ≡ b → (if b then lessor_by (effect step) (master_state past) else lessor_in past n) ≡ Some m → n ≤ length (step ∷ past)) [
      | true ↦ λ is k. let same = eqb-true n (next_number past) is in omega (arith, same)
      | false ↦ λ is k. let old = lessee_born past n m k in omega (arith, old)
    ]) refl e

-- One more step leaves the lessor of each earlier master.
pub lessor_still : (step : AnsweredEvent) (past : List AnsweredEvent) (m : ℕ) → m ≤ length past
    → lessor_in (step ∷ past) m ≡ lessor_in past m
unfolding lessor_in
lessor_still step past m old =
    ap (λ b. if b then lessor_by (effect step) (master_state past) else lessor_in past m)
    (less-differ m (next_number past) (omega (arith, old)))

chain_still : (step : AnsweredEvent) (past : List AnsweredEvent) (s m : ℕ) → m ≤ length past
    → chain_within s (lessor_in (step ∷ past)) m ≡ chain_within s (lessor_in past) m
chain_still step past s m old =
    same_chain (λ n. n ≤ length past) (lessor_in past) (lessor_in (step ∷ past)) (λ n k. lessor_still step past n k)
    (λ n l k e. let lt = lessor_falls past n l e in omega (arith, lt, k)) s m old

-- One more step leaves the top of each earlier master's chain.
pub top_still : (step : AnsweredEvent) (past : List AnsweredEvent) (m : ℕ) → m ≤ length past
    → top_in (step ∷ past) m ≡ top_in past m
top_still step past m old = ap (last_of m) (chain_still step past m m old)

-- One more step leaves which masters an earlier master is under.
pub under_still : (step : AnsweredEvent) (past : List AnsweredEvent) (top m : ℕ) → m ≤ length past
    → is_under_in (step ∷ past) top m ≡ is_under_in past top m
under_still step past top m old = ap (λ chain. is_among chain top) (chain_still step past m m old)
