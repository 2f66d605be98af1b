-- What is noted of leases and of what ended them is what a history says.
use Rattle.std.proofs.Common.{◌≡◌, ℕ, ◌<◌, ◌≤◌, ◌==◌, Bool, true, false, cond, ◌&&◌, ◌||◌, List, [], ◌∷◌, ◌++◌, length, Option, None, Some, find, option_map, option_and_then, option_to_list, refl, sym, ◌∙◌, ap, subst, arith}
use Rattle.std.specs.Prelude.{if◌then◌else◌, nat_lt}
use Rattle.std.specs.List.{AllByRecursion}
use Rattle.std.specs.Option.{is_some, option_or}
use Rattle.std.proofs.lemmas.Bool.{eqb-true}
use Rattle.std.proofs.lemmas.Bool.Decides.{nat_tests}
use Rattle.std.proofs.lemmas.List.Folds.{find-append}
use Rattle.drm_index_array.specs.Chains.{is_under}
use Rattle.drm_index_array.proofs.Lists.{all_append, all_weaker}
use Rattle.drm_index_array.proofs.FoundInLists.{find-same}
use Rattle.drm_index_array.proofs.Orders.{in_order_append}
use Rattle.drm_index_array.proofs.Chains.{IsFalling, under_none}
use Rattle.drm_index_array.proofs.Numbers.{less-differ, flipped}
use Rattle.drm_history.specs.History.{AnsweredEvent, next_number}
use Rattle.drm_history.specs.Effects as told
use Rattle.drm_history.specs.Effects.{effect}
use Rattle.drm_history.specs.MasterState.{master_state, master_in, caller_master_in, lease_in, leased_by}
use Rattle.drm_history.specs.Lessees.{lessor_by, lessor_in, top_in, is_under_in, lessee_by, lessee_in, ended_by, is_under_any, ends, has_ended}
use Rattle.drm_history.specs.Shown.{is_universal_in}
use Rattle.drm_history.proofs.Falls.{UpTo, master_up, lessee_born, under_still}
use Rattle.drm_rights.specs.Leases.{lease_at, lease_of_token, lease_of_id, if_older, lessor_noted, master_of_lease, is_ended_by, new_lease, leases_in, end_with, ends_in, ended_at, LeasesRise, EndsRise}
use Rattle.drm_rights.specs.declared.notes.Lease.{Lease}
use Rattle.drm_rights.specs.declared.notes.End.{End}
use Rattle.drm_trails.proofs.NoteLemmas.{find-newest, append-none}
use Rattle.drm_history.proofs.SeesNothing.{ended_up}

abbrev pub note_of : List AnsweredEvent → ℕ → ℕ → ℕ → Lease
note_of past c lessee token =
    record
    { master = next_number past; client = c; lessor = master_in past c; owner = top_in past (caller_master_in past c); id = lessee; token = token; universal = is_universal_in past c }

-- ---- by tokens and by ids

if-master : (b : Bool) (note : Lease) (older : Option Lease)
    → master_of_lease (cond b (Some note) older) ≡ cond b (Some note.master) (master_of_lease older)
if-master true note older = refl
if-master false note older = refl

token_by : (past : List AnsweredEvent) (token : ℕ) (d : told.Effect)
    → master_of_lease (lease_of_token (leases_in past) token) ≡ lease_in past token →
    master_of_lease (lease_of_token (leases_in past ++ option_to_list (new_lease d past)) token) ≡ leased_by d token
    (next_number past) (lease_in past token)
token_by past token (told.Leases c ids lessee answered) k =
    ap master_of_lease (find-newest (λ (l : Lease). l.token == token) (leases_in past) (note_of past c lessee answered))
    ∙ if-master (answered == token) (note_of past c lessee answered) (lease_of_token (leases_in past) token)
    ∙ ap (cond (answered == token) (Some (next_number past))) k
token_by past token _ k = ap (λ l. master_of_lease (lease_of_token l token)) (append-none (leases_in past)) ∙ k

-- The lessee of a token by the notes is the one that the history says.
pub token_noted : (history : List AnsweredEvent) (token : ℕ)
    → master_of_lease (lease_of_token (leases_in history) token) ≡ lease_in history token
unfolding leases_in lease_in
token_noted [] token = refl
token_noted (step ∷ past) token = token_by past token (effect step) (token_noted past token)

id_by : (past : List AnsweredEvent) (owner id : ℕ) (d : told.Effect)
    → master_of_lease (lease_of_id (leases_in past) owner id) ≡ lessee_in past owner id →
    master_of_lease (lease_of_id (leases_in past ++ option_to_list (new_lease d past)) owner id) ≡ lessee_by d past
    owner id (lessee_in past owner id)
id_by past owner id (told.Leases c ids lessee answered) k =
    let note = note_of past c lessee answered in
    let its = (lessee == id) && (top_in past (caller_master_in past c) == owner) in
    ap master_of_lease (find-newest (λ (l : Lease). (l.id == id) && (l.owner == owner)) (leases_in past) note)
    ∙ if-master its note (lease_of_id (leases_in past) owner id) ∙ ap (cond its (Some (next_number past))) k
id_by past owner id _ k = ap (λ l. master_of_lease (lease_of_id l owner id)) (append-none (leases_in past)) ∙ k

-- The lessee of an id below an owner by the notes is the one that the history says.
pub id_noted : (history : List AnsweredEvent) (owner id : ℕ)
    → master_of_lease (lease_of_id (leases_in history) owner id) ≡ lessee_in history owner id
unfolding leases_in lessee_in
id_noted [] owner id = refl
id_noted (step ∷ past) owner id = id_by past owner id (effect step) (id_noted past owner id)

-- ---- lessors

-- A master of a step to come has no lessor.
pub unborn : (past : List AnsweredEvent) (m : ℕ) → length past < m → lessor_in past m ≡ None
unborn past m late = (elim (lessor_in past m) as (λ o. lessor_in past m ≡ o → o ≡ None) [
  | None ↦ λ e. refl
  | Some k ↦ λ e. let born = lessee_born past m k e in absurd (omega (arith, born, late))
]) refl

older : (last m : ℕ) (o : Option ℕ) → UpTo last o → last < m → if_older m o ≡ o
older last m None up late = refl
older last m (Some k) up late =
    let old = up k refl in
    let less : nat_lt k m ≡ true = grind (arith, nat_tests) in
    ap (λ b. cond b (Some k) None) less

then-if : (m : ℕ) (b : Bool) (note : Lease) (others : Option Lease) →
    option_and_then (λ (l : Lease). if_older m l.lessor) (cond b (Some note) others) ≡ cond b (if_older m note.lessor)
    (option_and_then (λ (l : Lease). if_older m l.lessor) others)
then-if m true note others = refl
then-if m false note others = refl

-- The note of a lease that was just made is found for its step, and an older one for any other.
pub at-newest : (past : List AnsweredEvent) (m c lessee token : ℕ)
    → lease_at (leases_in past ++ note_of past c lessee token ∷ []) m ≡ cond (m == next_number past) (Some (note_of past c lessee token)) (lease_at (leases_in past) m)
at-newest past m c lessee token =
    find-newest (λ (l : Lease). m == l.master) (leases_in past) (note_of past c lessee token)

if_number : (past : List AnsweredEvent) (m : ℕ) (x y : Option ℕ) → ((m == next_number past) ≡ true → x ≡ y)
    → (z w : Option ℕ) → z ≡ w → cond (m == next_number past) x z ≡ cond (m == next_number past) y w
if_number past m x y same z w k =
    (elim (m == next_number past) as (λ b. (m == next_number past) ≡ b → cond b x z ≡ cond b y w) [ true ↦ λ e. same e | false ↦ λ e. k ])
    refl

lessor_by_effect : (past : List AnsweredEvent) (m : ℕ) (d : told.Effect)
    → lessor_noted (leases_in past) m ≡ lessor_in past m →
    lessor_noted (leases_in past ++ option_to_list (new_lease d past)) m ≡
    (if m == next_number past then lessor_by d (master_state past) else lessor_in past m)
lessor_by_effect past m (told.Leases c ids lessee token) k =
    ap (option_and_then (λ (l : Lease). if_older m l.lessor)) (at-newest past m c lessee token)
    ∙ then-if m (m == next_number past) (note_of past c lessee token) (lease_at (leases_in past) m)
    ∙ if_number past m (if_older m (master_in past c)) (master_in past c)
    (λ e. let same = eqb-true m (next_number past) e in older (length past) m (master_in past c) (master_up past c) (omega (arith, same)))
    _ _ k
lessor_by_effect past m _ k =
    ap (λ l. lessor_noted l m) (append-none (leases_in past)) ∙ k
    ∙ (elim (m == next_number past) as (λ b. (m == next_number past) ≡ b → lessor_in past m ≡ cond b None (lessor_in past m)) [
      | true ↦ λ e. let same = eqb-true m (next_number past) e in unborn past m (omega (arith, same))
      | false ↦ λ e. refl
    ]) refl

-- The lessor of a recorded lease is the one that the history says.
pub lessor_told : (history : List AnsweredEvent) (m : ℕ) → lessor_noted (leases_in history) m ≡ lessor_in history m
unfolding leases_in lessor_in
lessor_told [] m = refl
lessor_told (step ∷ past) m = lessor_by_effect past m (effect step) (lessor_told past m)

-- The lessors of all recorded leases are those that the history says.
pub lessors_told : (history : List AnsweredEvent) → lessor_noted (leases_in history) ≡ lessor_in history
lessors_told history = λ i. λ m. lessor_told history m i

-- By the notes, too, a lessor is older than its lessee.
pub noted_falls : (notes : List Lease) → IsFalling (lessor_noted notes)
noted_falls notes n m e = of_lease (lease_at notes n) e
  where
    of_lessor : (o : Option ℕ) → if_older n o ≡ Some m → m < n
    of_lessor None k = absurd (let no : None ≡ Some m = k in cc)
    of_lessor (Some lessor) k =
        (elim (nat_lt lessor n) as (λ b. nat_lt lessor n ≡ b → cond b (Some lessor) None ≡ Some m → m < n) [
          | true ↦ λ less is. let same : lessor ≡ m = (let s : Some lessor ≡ Some m = is in cc) in let lt : lessor < n = grind (arith, nat_tests) in omega (arith, same, lt)
          | false ↦ λ less is. absurd (let no : None ≡ Some m = is in cc)
        ]) refl k

    of_lease : (o : Option Lease) → option_and_then (λ (l : Lease). if_older n l.lessor) o ≡ Some m → m < n
    of_lease None k = absurd (let no : None ≡ Some m = k in cc)
    of_lease (Some l) k = of_lessor l.lessor k

-- ---- ends

-- No step ends a master of a step to come.
pub ends_none : (past : List AnsweredEvent) (o : Option ℕ) (m : ℕ) → UpTo (length past) o → length past < m
    → is_under_any past o m ≡ false
ends_none past None m up late = refl
ends_none past (Some top) m up late =
    let old = up top refl in
    under_none (lessor_in past) top m (unborn past m late)
    ∙ flipped top m (less-differ top m (omega (arith, old, late)))

-- A master of a step to come has not ended.
pub not_ended : (past : List AnsweredEvent) (m : ℕ) → length past < m → has_ended past m ≡ false
unfolding has_ended ends
not_ended [] m late = refl
not_ended (step ∷ past) m late =
    ap (λ b. b || has_ended past m)
    (ends_none past (ended_by (effect step) past) m (ended_up (effect step) past) (omega (arith, late)))
    ∙ not_ended past m (omega (arith, late))

-- whether a master was made before an end, and is the one that ended or below it, by the history
abbrev ended_told : List AnsweredEvent → ℕ → End → Bool
ended_told history m e = nat_lt m e.step && is_under_in history e.master m

ended_by_told : (history : List AnsweredEvent) (m : ℕ) → is_ended_by (leases_in history) m ≡ ended_told history m
ended_by_told history m = λ i. λ e. nat_lt m e.step && is_under (lessors_told history i) e.master m

ends_born : (past : List AnsweredEvent) → AllByRecursion (λ (e : End). e.step ≤ length past) (ends_in past)
unfolding ends_in
ends_born [] = tt
ends_born (step ∷ past) =
    all_append (λ (e : End). e.step ≤ length (step ∷ past)) (ends_in past)
    (option_to_list (end_with past (ended_by (effect step) past)))
    (all_weaker (λ (e : End). e.step ≤ length past) (λ (e : End). e.step ≤ length (step ∷ past)) (λ e old. omega (arith, old)) (ends_in past) (ends_born past))
    (newest (ended_by (effect step) past))
  where
    newest : (o : Option ℕ)
        → AllByRecursion (λ (e : End). e.step ≤ length (step ∷ past)) (option_to_list (end_with past o))
    newest None = tt
    newest (Some m) = (omega arith, tt)

told_still : (step : AnsweredEvent) (past : List AnsweredEvent) (m : ℕ) (e : End) → e.step ≤ length past
    → ended_told (step ∷ past) m e ≡ ended_told past m e
told_still step past m e old =
    (elim (nat_lt m e.step) as (λ b. nat_lt m e.step ≡ b → (b && is_under_in (step ∷ past) e.master m) ≡ (b && is_under_in past e.master m)) [
      | true ↦ λ less. let lt : m < e.step = grind (arith, nat_tests) in under_still step past e.master m (omega (arith, lt, old))
      | false ↦ λ less. refl
    ]) refl

ends_still : (step : AnsweredEvent) (past : List AnsweredEvent) (m : ℕ)
    → find (ended_told (step ∷ past) m) (ends_in past) ≡ find (ended_told past m) (ends_in past)
ends_still step past m =
    find-same (ended_told (step ∷ past) m) (ended_told past m) (ends_in past)
    (all_weaker (λ (e : End). e.step ≤ length past) (λ (e : End). ended_told (step ∷ past) m e ≡ ended_told past m e) (told_still step past m) (ends_in past) (ends_born past))

abbrev pub step_of : Option End → Option ℕ
step_of found = option_map (λ (e : End). e.step) found

step_of-or : (a b : Option End) → step_of (option_or a b) ≡ option_or (step_of a) (step_of b)
step_of-or None b = refl
step_of-or (Some e) b = refl

-- what the newest step ends
newest_end : (step : AnsweredEvent) (past : List AnsweredEvent) (m : ℕ) (o : Option ℕ) → UpTo (length past) o →
    step_of (find (ended_told (step ∷ past) m) (option_to_list (end_with past o))) ≡
    (if is_under_any past o m then Some (next_number past) else None)
newest_end step past m None up = refl
newest_end step past m (Some top) up = by (nat_lt m (next_number past)) refl
  where
    is : (b : Bool) → b ≡ is_under_in past top m
        → step_of (cond b (Some (record { step = next_number past; master = top })) None) ≡ cond (is_under_in past top m) (Some (next_number past)) None
    is b e =
        ap (λ b. step_of (cond b (Some (record { step = next_number past; master = top })) None)) e
        ∙ of (is_under_in past top m)
      where
        of : (b : Bool)
            → step_of (cond b (Some (record { step = next_number past; master = top })) None) ≡ cond b (Some (next_number past)) None
        of true = refl
        of false = refl

    by : (b : Bool) → nat_lt m (next_number past) ≡ b
        → step_of (cond (b && is_under_in (step ∷ past) top m) (Some (record { step = next_number past; master = top })) None) ≡ cond (is_under_in past top m) (Some (next_number past)) None
    by true e = let lt : m < next_number past = grind (arith, nat_tests) in is (is_under_in (step ∷ past) top m) (under_still step past top m (omega (arith, lt)))
    by false e = let le : next_number past ≤ m = grind (arith, nat_tests) in is false (sym (ends_none past (Some top) m up (omega (arith, le))))

end_told : (history : List AnsweredEvent) (m : ℕ)
    → step_of (find (ended_told history m) (ends_in history)) ≡ ended_at history m
unfolding ends_in ended_at ends
end_told [] m = refl
end_told (step ∷ past) m =
    let new = option_to_list (end_with past (ended_by (effect step) past)) in
    let before = ap step_of (ends_still step past m) ∙ end_told past m in
    ap step_of (find-append (ended_told (step ∷ past) m) (ends_in past) new)
    ∙ step_of-or (find (ended_told (step ∷ past) m) (ends_in past)) (find (ended_told (step ∷ past) m) new)
    ∙ (λ i. option_or (before i) (newest_end step past m (ended_by (effect step) past) (ended_up (effect step) past) i))

-- The first step that ended a master by the notes is the one that the history says.
pub end_noted : (history : List AnsweredEvent) (m : ℕ)
    → step_of (find (is_ended_by (leases_in history) m) (ends_in history)) ≡ ended_at history m
end_noted history m = ap (λ p. step_of (find p (ends_in history))) (ended_by_told history m) ∙ end_told history m

is_some-or : (a : Option ℕ) (b : Bool) (n : ℕ) → is_some (option_or a (cond b (Some n) None)) ≡ (b || is_some a)
is_some-or None true n = refl
is_some-or None false n = refl
is_some-or (Some k) true n = refl
is_some-or (Some k) false n = refl

-- A master has an end exactly if the history says that it has ended.
pub has_ended_at : (history : List AnsweredEvent) (m : ℕ) → is_some (ended_at history m) ≡ has_ended history m
unfolding ended_at has_ended
has_ended_at [] m = refl
has_ended_at (step ∷ past) m =
    is_some-or (ended_at past m) (ends step past m) (next_number past)
    ∙ ap (λ b. ends step past m || b) (has_ended_at past m)

-- ---- notes rise

leases_born : (past : List AnsweredEvent) → AllByRecursion (λ (l : Lease). l.master ≤ length past) (leases_in past)
unfolding leases_in
leases_born [] = tt
leases_born (step ∷ past) =
    all_append (λ (l : Lease). l.master ≤ length (step ∷ past)) (leases_in past)
    (option_to_list (new_lease (effect step) past))
    (all_weaker (λ (l : Lease). l.master ≤ length past) (λ (l : Lease). l.master ≤ length (step ∷ past)) (λ l old. omega (arith, old)) (leases_in past) (leases_born past))
    (newest (effect step))
  where
    newest : (d : told.Effect)
        → AllByRecursion (λ (l : Lease). l.master ≤ length (step ∷ past)) (option_to_list (new_lease d past))
    newest (told.Leases c ids lessee token) = (omega arith, tt)
    newest _ = tt

-- Recorded leases are in the order of their steps.
pub leases_rise : (history : List AnsweredEvent) → LeasesRise (leases_in history)
unfolding leases_in
leases_rise [] = tt
leases_rise (step ∷ past) = newest (leases_rise past) (effect step)
  where
    newest : LeasesRise (leases_in past) → (d : told.Effect)
        → LeasesRise (leases_in past ++ option_to_list (new_lease d past))
    newest rise (told.Leases c ids lessee token) =
        in_order_append (λ (x y : Lease). x.master < y.master) (leases_in past) (note_of past c lessee token) rise
        (all_weaker (λ (l : Lease). l.master ≤ length past) (λ (l : Lease). l.master < next_number past) (λ l old. omega (arith, old)) (leases_in past) (leases_born past))
    newest rise _ = subst LeasesRise (sym (append-none (leases_in past))) rise

-- Recorded ends are in the order of their steps.
pub ends_rise : (history : List AnsweredEvent) → EndsRise (ends_in history)
unfolding ends_in
ends_rise [] = tt
ends_rise (step ∷ past) = newest (ends_rise past) (ended_by (effect step) past)
  where
    newest : EndsRise (ends_in past) → (o : Option ℕ) → EndsRise (ends_in past ++ option_to_list (end_with past o))
    newest rise None = subst EndsRise (sym (append-none (ends_in past))) rise
    newest rise (Some m) =
        in_order_append (λ (x y : End). x.step < y.step) (ends_in past) (record { step = next_number past; master = m })
        rise
        (all_weaker (λ (e : End). e.step ≤ length past) (λ (e : End). e.step < next_number past) (λ e old. omega (arith, old)) (ends_in past) (ends_born past))
