-- What a history notes is noted of its steps, so that each step that is reported is found.
use Rattle.std.proofs.Common.{◌≡◌, ℕ, ◌+◌, ◌<◌, ◌≤◌, ◌==◌, Bool, true, false, cond, ◌&&◌, ◌||◌, List, [], ◌∷◌, ◌++◌, get_or, length, Option, None, Some, option_to_list, reverse, refl, sym, ◌∙◌, ap, subst, arith}
use Rattle.std.specs.Prelude.{IfSome, nat_le}
use Rattle.std.specs.List.{AllByRecursion, list_any}
use Rattle.std.specs.Option.{is_some, option_map, option_or}
use Rattle.std.proofs.lemmas.Bool.{eqb-true}
use Rattle.std.proofs.lemmas.Bool.Decides.{nat_tests}
use Rattle.std.proofs.lemmas.List.{reverse-append}
use Rattle.std.proofs.lemmas.List.Elements.{All-from_recursion, All-get_or}
use Rattle.drm_index_array.proofs.FoundInLists.{all_found, is_some-find}
use Rattle.drm_index_array.proofs.Lists.{all_append}
use Rattle.drm_history.specs.History.{AnsweredEvent, next_number}
use Rattle.drm_history.specs.Effects as told
use Rattle.drm_history.specs.Effects.{effect}
use Rattle.drm_model.specs.ClientCapabilities.{cap_universal_planes}
use Rattle.drm_model.specs.Rows.{is_option}
use Rattle.drm_history.specs.Magics.{is_named_by, is_named_in, is_root_by, is_root_in, magic_in}
use Rattle.drm_history.specs.MasterState as standings
use Rattle.drm_history.specs.MasterState.{caller_master_in, lease_in, owner_in}
use Rattle.drm_history.specs.Lessees.{ends}
use Rattle.drm_rights.specs.Leases.{ended_at, leases_in, new_lease}
use Rattle.drm_rights.specs.Ledgers.{authenticated_by, authentication_of, authentications_in, capabilities_in, capability_of, capable, is_named_noted, master_state_of, new_authentication, new_capability, new_master_state, noted, opened, owner_since_in, is_same_master, standings_in}
use Rattle.drm_trails.specs.Steps.{entry_of, followed_by, history_of}
use Rattle.drm_trails.specs.declared.steps.Step.{Step}
use Rattle.drm_rights.specs.declared.notes.Authentication.{Authentication}
use Rattle.drm_rights.specs.declared.notes.Capability.{Capability}
use Rattle.drm_rights.specs.declared.notes.Lease.{Lease}
use Rattle.drm_rights.specs.declared.notes.MasterState.{MasterState}
use Rattle.drm_explanations.specs.Rows.{is_step, owner_since}
use Rattle.drm_explanations.specs.declared.rows.At.{At}

-- a number is at least 1 and at most the number of steps
abbrev pub IsStep : ℕ → ℕ → Type 0
IsStep count n = (0 < n) × (n ≤ count)

abbrev pub AllSteps : {X : Type 0} → (X → ℕ) → ℕ → List X → Type 0
AllSteps step count xs = AllByRecursion (λ x. IsStep count (step x)) xs

later : {X : Type 0} (step : X → ℕ) (count : ℕ) (xs : List X) → AllSteps step count xs → AllSteps step (count + 1) xs
later step count [] h = tt
later step count (x ∷ xs) h = ((h.0.0, (let within = h.0.1 in omega (arith, within))), later step count xs h.1)

-- the newest step may note something
one_more : {X : Type 0} (step : X → ℕ) (past : List AnsweredEvent) (xs : List X) (new : Option X)
    → AllSteps step (length past) xs → IfSome new (λ x. step x ≡ next_number past)
    → AllSteps step (length past + 1) (xs ++ option_to_list new)
one_more step past xs None h is =
    all_append (λ x. IsStep (length past + 1) (step x)) xs [] (later step (length past) xs h) tt
one_more step past xs (Some x) h is =
    all_append (λ x. IsStep (length past + 1) (step x)) xs (x ∷ []) (later step (length past) xs h)
    (((let e : step x ≡ next_number past = is in omega (arith, e)), (let e : step x ≡ next_number past = is in omega (arith, e))), tt)

back_to_front : {X : Type 0} (P : X → Type 0) (xs : List X) → AllByRecursion P xs → AllByRecursion P (reverse xs)
back_to_front P [] h = tt
back_to_front P (x ∷ xs) h =
    subst (AllByRecursion P) (sym (reverse-append (x ∷ []) xs))
    (all_append P (reverse xs) (x ∷ []) (back_to_front P xs h.1) (h.0, tt))

-- ---- masters

opened_at : (n : ℕ) (owner : Option ℕ) → (opened n owner).step ≡ n
opened_at n None = refl
opened_at n (Some owner) = refl

set_at : (b : Bool) (state : MasterState) (n : ℕ) → state.step ≡ n
    → IfSome (cond b None (Some state)) (λ (s : MasterState). s.step ≡ n)
set_at true state n is = tt
set_at false state n is = is

new_state : (e : told.Effect) (n : ℕ) (lease : ℕ → Option ℕ) (s : standings.MasterState)
    → IfSome (new_master_state e n lease s) (λ (state : MasterState). state.step ≡ n)
new_state (told.OpensPrimary root capabilities) n lease s = opened_at n s.owner
new_state told.OpensRender n lease s = refl
new_state (told.Redeems token root capabilities) n lease s = refl
new_state (told.SetsMaster c) n lease s = set_at (s.is_master c) (noted n c true (Some n)) n refl
new_state _ n lease s = tt

states_within : (history : List AnsweredEvent)
    → AllSteps (λ (s : MasterState). s.step) (length history) (standings_in history)
unfolding standings_in
states_within [] = tt
states_within (step ∷ past) =
    let here = one_more (λ (s : MasterState). s.step) past (standings_in past) (new_master_state (effect step) (next_number past) (lease_in past) (standings.master_state past)) (states_within past)
    (new_state (effect step) (next_number past) (lease_in past) (standings.master_state past)) in
    subst
    (λ k. AllSteps (λ (s : MasterState). s.step) k (standings_in past ++ option_to_list (new_master_state (effect step) (next_number past) (lease_in past) (standings.master_state past))))
    (omega arith) here

-- The step from which a client has its master is one of the history.
pub state_within : (history : List AnsweredEvent) (c : ℕ)
    → IfSome (master_state_of (standings_in history) c) (λ (s : MasterState). IsStep (length history) s.step)
state_within history c =
    all_found (λ (s : MasterState). IsStep (length history) s.step) (λ (s : MasterState). c == s.client)
    (reverse (standings_in history))
    (back_to_front (λ (s : MasterState). IsStep (length history) s.step) (standings_in history) (states_within history))

-- ---- universal planes

new_capable : (e : told.Effect) (n : ℕ) → IfSome (new_capability e n) (λ (k : Capability). k.step ≡ n)
new_capable (told.OpensPrimary root capabilities) n = refl
new_capable told.OpensRender n = refl
new_capable (told.Redeems token root capabilities) n = refl
new_capable (told.SetsCapability c cap on) n = elim (cap == cap_universal_planes) as (λ b. IfSome (cond b (Some (capable n c on)) None) (λ (k : Capability). k.step ≡ n)) [ true ↦ refl | false ↦ tt ]
new_capable _ n = tt

capabilities_within : (history : List AnsweredEvent)
    → AllSteps (λ (k : Capability). k.step) (length history) (capabilities_in history)
unfolding capabilities_in
capabilities_within [] = tt
capabilities_within (step ∷ past) =
    let here =
    one_more (λ (k : Capability). k.step) past (capabilities_in past)
    (new_capability (effect step) (next_number past)) (capabilities_within past)
    (new_capable (effect step) (next_number past)) in
    subst
    (λ k. AllSteps (λ (k : Capability). k.step) k (capabilities_in past ++ option_to_list (new_capability (effect step) (next_number past))))
    (omega arith) here

-- The step that last set a client's universal planes is one of the history.
pub capability_within : (history : List AnsweredEvent) (c : ℕ)
    → IfSome (capability_of (capabilities_in history) c) (λ (k : Capability). IsStep (length history) k.step)
capability_within history c =
    all_found (λ (k : Capability). IsStep (length history) k.step) (λ (k : Capability). k.client == c)
    (reverse (capabilities_in history))
    (back_to_front (λ (k : Capability). IsStep (length history) k.step) (capabilities_in history) (capabilities_within history))

-- ---- authentication

authenticated_at : (n caller magic : ℕ) (client : Option ℕ)
    → IfSome (authenticated_by n caller magic client) (λ (a : Authentication). a.step ≡ n)
authenticated_at n caller magic None = tt
authenticated_at n caller magic (Some c) = refl

new_named : (e : told.Effect) (n : ℕ) (own : ℕ → ℕ) (client : ℕ → ℕ → Option ℕ)
    → IfSome (new_authentication e n own client) (λ (a : Authentication). a.step ≡ n)
new_named (told.Authenticates caller magic) n own client = authenticated_at n caller magic (client (own caller) magic)
new_named _ n own client = tt

authentications_within : (history : List AnsweredEvent)
    → AllSteps (λ (a : Authentication). a.step) (length history) (authentications_in history)
unfolding authentications_in
authentications_within [] = tt
authentications_within (step ∷ past) =
    let here = one_more (λ (a : Authentication). a.step) past (authentications_in past) (new_authentication (effect step) (next_number past) (caller_master_in past) (magic_in past)) (authentications_within past)
    (new_named (effect step) (next_number past) (caller_master_in past) (magic_in past)) in
    subst
    (λ k. AllSteps (λ (a : Authentication). a.step) k (authentications_in past ++ option_to_list (new_authentication (effect step) (next_number past) (caller_master_in past) (magic_in past))))
    (omega arith) here

-- The step that authenticated a client is one of the history.
pub authentication_within : (history : List AnsweredEvent) (c : ℕ)
    → IfSome (authentication_of (authentications_in history) c) (λ (a : Authentication). IsStep (length history) a.step)
authentication_within history c =
    all_found (λ (a : Authentication). IsStep (length history) a.step) (λ (a : Authentication). a.client == c)
    (authentications_in history) (authentications_within history)

or_assoc : (a b c : Bool) → ((a || b) || c) ≡ (a || (b || c))
or_assoc true b c = refl
or_assoc false b c = refl

or_false : (a : Bool) → (a || false) ≡ a
or_false true = refl
or_false false = refl

or_last : (a b : Bool) → (a || (b || false)) ≡ (b || a)
or_last true true = refl
or_last true false = refl
or_last false true = refl
or_last false false = refl

any_append : {X : Type 0} (p : X → Bool) (xs ys : List X) → list_any p (xs ++ ys) ≡ (list_any p xs || list_any p ys)
any_append p [] ys = refl
any_append p (x ∷ xs) ys =
    ap (λ b. p x || b) (any_append p xs ys) ∙ sym (or_assoc (p x) (list_any p xs) (list_any p ys))

named_one : (notes : List Authentication) (n caller magic c : ℕ) (client : Option ℕ)
    → is_named_noted (notes ++ option_to_list (authenticated_by n caller magic client)) c ≡ (is_option c client || is_named_noted notes c)
named_one notes n caller magic c None =
    any_append (λ (a : Authentication). a.client == c) notes [] ∙ or_false (is_named_noted notes c)
named_one notes n caller magic c (Some named) =
    any_append (λ (a : Authentication). a.client == c) notes
    (record { step = n; client = named; by = caller; magic = magic } ∷ [])
    ∙ or_last (is_named_noted notes c) (named == c)

named_step : (e : told.Effect) (past : List AnsweredEvent) (notes : List Authentication) (c : ℕ)
    → is_named_noted notes c ≡ is_named_in past c
    → is_named_noted (notes ++ option_to_list (new_authentication e (next_number past) (caller_master_in past) (magic_in past))) c ≡ (is_named_by e past c || is_named_in past c)
named_step (told.Authenticates caller magic) past notes c k =
    named_one notes (next_number past) caller magic c (magic_in past (caller_master_in past caller) magic)
    ∙ ap (λ b. is_option c (magic_in past (caller_master_in past caller) magic) || b) k
named_step _ past notes c k =
    any_append (λ (a : Authentication). a.client == c) notes [] ∙ or_false (is_named_noted notes c) ∙ k

named_noted : (history : List AnsweredEvent) (c : ℕ)
    → is_named_noted (authentications_in history) c ≡ is_named_in history c
unfolding authentications_in is_named_in
named_noted [] c = refl
named_noted (step ∷ past) c = named_step (effect step) past (authentications_in past) c (named_noted past c)

-- An authentication of a client is found exactly if the history has one.
pub named_is_found : (history : List AnsweredEvent) (c : ℕ)
    → is_some (authentication_of (authentications_in history) c) ≡ is_named_in history c
named_is_found history c =
    is_some-find (λ (a : Authentication). a.client == c) (authentications_in history) ∙ named_noted history c

-- ---- openings as root

and_right : (a b : Bool) → (a && b) ≡ true → b ≡ true
and_right true b h = h
and_right false b h = absurd (let e : false ≡ true = h in cc)

root_at : (e : told.Effect) (n c : ℕ) → is_root_by e n c ≡ true → n ≡ c
root_at (told.OpensPrimary root capabilities) n c h = eqb-true n c (and_right root (n == c) h)
root_at (told.Redeems token root capabilities) n c h = eqb-true n c (and_right root (n == c) h)
root_at _ n c h = absurd (let e : false ≡ true = h in cc)

root_or : (past : List AnsweredEvent) (c : ℕ) (now before : Bool) → (now ≡ true → next_number past ≡ c)
    → (before ≡ true → IsStep (length past) c) → (now || before) ≡ true → IsStep (length past + 1) c
root_or past c true before is older h = let e = is refl in (omega (arith, e), omega (arith, e))
root_or past c false before is older h = let o = older h in (o.0, (let within = o.1 in omega (arith, within)))

-- A client that opened as root is of a step of the history.
pub root_within : (history : List AnsweredEvent) (c : ℕ) → is_root_in history c ≡ true → IsStep (length history) c
unfolding is_root_in
root_within [] c h = absurd (let e : false ≡ true = h in cc)
root_within (step ∷ past) c h =
    let here =
    root_or past c (is_root_by (effect step) (next_number past) c) (is_root_in past c)
    (root_at (effect step) (next_number past) c) (root_within past c) h in
    subst (λ k. IsStep k c) (omega arith) here

-- ---- a step that is there is reported

-- A number of a step of the history passes the test of the range.
pub in_range : (count n : ℕ) → IsStep count n → (nat_le 1 n && nat_le n count) ≡ true
in_range count n h = let low : 1 ≤ n = h.0 in let high = h.1 in grind (arith, nat_tests)

length_followed : (past : List AnsweredEvent) (steps : List Step)
    → length (followed_by past steps) ≡ length past + length steps
unfolding followed_by
length_followed past [] = omega arith
length_followed past (step ∷ steps) = let rest = length_followed (entry_of step ∷ past) steps in omega (arith, rest)

-- A list of steps has as many steps as its history.
pub steps_of : (steps : List Step) (history : List AnsweredEvent) → history_of steps ≡ history
    → length steps ≡ length history
steps_of steps history e = let all = length_followed [] steps in let same = ap (λ (h : List AnsweredEvent). length h) e in omega (arith, all, same)

-- A step of the history is never missing in the list of steps.
pub not_missing : (steps : List Step) (history : List AnsweredEvent) (n : ℕ) → history_of steps ≡ history
    → IsStep (length history) n → false ≡ (nat_le 1 n && nat_le n (length steps)) → ⊥
not_missing steps history n e h lost =
    let size = steps_of steps history e in
    let found = in_range (length steps) n (h.0, (let within = h.1 in omega (arith, size, within))) in
    let no : false ≡ true = lost ∙ found in
    cc

-- ---- leases

new_leased : (e : told.Effect) (past : List AnsweredEvent)
    → IfSome (new_lease e past) (λ (l : Lease). l.master ≡ next_number past)
new_leased (told.Leases c ids lessee token) past = refl
new_leased _ past = tt

-- Each recorded lease is of a step of the history.
pub leases_within : (history : List AnsweredEvent)
    → AllSteps (λ (l : Lease). l.master) (length history) (leases_in history)
unfolding leases_in
leases_within [] = tt
leases_within (step ∷ past) =
    let here =
    one_more (λ (l : Lease). l.master) past (leases_in past) (new_lease (effect step) past) (leases_within past)
    (new_leased (effect step) past) in
    subst (λ k. AllSteps (λ (l : Lease). l.master) k (leases_in past ++ option_to_list (new_lease (effect step) past)))
    (omega arith) here

end_or : (past : List AnsweredEvent) (older : Option ℕ) (b : Bool) → IfSome older (IsStep (length past))
    → IfSome (option_or older (cond b (Some (next_number past)) None)) (IsStep (length past + 1))
end_or past (Some n) b h = (h.0, (let within = h.1 in omega (arith, within)))
end_or past None true h = (omega arith, omega arith)
end_or past None false h = tt

-- The step that ended a master is one of the history.
pub end_within : (history : List AnsweredEvent) (m : ℕ) → IfSome (ended_at history m) (IsStep (length history))
unfolding ended_at
end_within [] m = tt
end_within (step ∷ past) m =
    subst
    (λ k. IfSome (option_or (ended_at past m) (cond (ends step past m) (Some (next_number past)) None)) (IsStep k))
    (omega arith) (end_or past (ended_at past m) (ends step past m) (end_within past m))

-- A step's number is in range exactly if the history has that step.
pub step_found : (steps : List Step) (history : List AnsweredEvent) (n : ℕ) (b : Bool) → history_of steps ≡ history
    → b ≡ (nat_le 1 n && nat_le n (length steps)) → is_step history n ≡ b
step_found steps history n b e found = sym (found ∙ ap (λ k. nat_le 1 n && nat_le n k) (steps_of steps history e))

-- The step of a recorded lease is one of the history.
pub lease_is_step : (history : List AnsweredEvent) (n : ℕ) (d : Lease) → n < length (leases_in history)
    → is_step history (get_or (leases_in history) n d).master ≡ true
lease_is_step history n d within =
    in_range (length history) (get_or (leases_in history) n d).master
    (All-get_or (λ (l : Lease). IsStep (length history) l.master) (leases_in history) n d within (All-from_recursion (λ (l : Lease). IsStep (length history) l.master) (leases_in history) (leases_within history)))

-- A step of the history is reported with its number.
pub step_reported : (steps : List Step) (history : List AnsweredEvent) (n : ℕ) (found : Option At)
    → history_of steps ≡ history → IsStep (length history) n → IfSome found (λ (told : At). told.step ≡ n)
    → is_some found ≡ (nat_le 1 n && nat_le n (length steps)) → option_map (λ (told : At). told.step) found ≡ Some n
step_reported steps history n None e h is numbers = absurd (not_missing steps history n e h numbers)
step_reported steps history n (Some told) e h is numbers = ap Some is

-- ---- the device's master

since_or : (past : List AnsweredEvent) (b : Bool) (older : ℕ) → older ≤ length past
    → cond b older (next_number past) ≤ length past + 1
since_or past true older within = omega (arith, within)
since_or past false older within = omega arith

-- The step since which the device has its master is one of the history, or 0.
pub owner_within : (history : List AnsweredEvent) → owner_since_in history ≤ length history
unfolding owner_since_in
owner_within [] = omega arith
owner_within (step ∷ past) =
    let here =
    since_or past (is_same_master (owner_in past) (owner_in (step ∷ past))) (owner_since_in past) (owner_within past) in
    subst (λ k. cond (is_same_master (owner_in past) (owner_in (step ∷ past))) (owner_since_in past) (next_number past) ≤ k) (omega arith) here

-- The step since which the device has its master is reported if there is one.
pub since_reported : (steps : List Step) (history : List AnsweredEvent) (n : ℕ) (found : Option At)
    → history_of steps ≡ history → n ≡ owner_since_in history → IfSome found (λ (told : At). told.step ≡ n)
    → is_some found ≡ (nat_le 1 n && nat_le n (length steps))
    → option_map (λ (told : At). told.step) found ≡ owner_since history
since_reported steps history n None e n_is is numbers =
    let size = steps_of steps history e in
    let within = owner_within history in
    let zero : (owner_since_in history == 0) ≡ true = grind (arith, nat_tests) in
    ap (λ b. cond b None (Some (owner_since_in history))) (sym zero)
since_reported steps history n (Some told) e n_is is numbers =
    let some : (owner_since_in history == 0) ≡ false = grind (arith, nat_tests) in
    ap Some (is ∙ n_is) ∙ ap (λ b. cond b None (Some (owner_since_in history))) (sym some)
