-- What leases lend, by what is noted of them, is what a history says.
use Rattle.std.proofs.Common.{◌≡◌, ℕ, zero, suc, ◌+◌, ◌-◌, ◌⊎◌, inl, inr, ◌<◌, ◌≤◌, ◌==◌, Bool, true, false, cond, not, ◌&&◌, ◌||◌, List, [], ◌∷◌, ◌++◌, length, get_or, take, Option, None, Some, option_and_then, option_to_list, refl, sym, ◌∙◌, ap, arith, eq-eqb}
use Rattle.std.specs.Prelude.{nat_lt, slice_get}
use Rattle.std.specs.Option.{is_some, option_map_or, option_or}
use Rattle.std.proofs.lemmas.Bool.{eqb-true}
use Rattle.std.proofs.lemmas.Bool.Decides.{nat_tests}
use Rattle.std.proofs.lemmas.List.{take_more}
use Rattle.std.proofs.Math.Seq.{take-length}
use Rattle.drm_index_array.specs.Numbers.{is_among}
use Rattle.drm_index_array.proofs.Numbers.{less-differ, flipped}
use Rattle.drm_modes.specs.PlaneKinds.{crtc_of_kind}
use Rattle.drm_modes.specs.Topology.{Topology, first_plane, plane_ids, is_plane, planes_of}
use Rattle.drm_modes.specs.declared.kinds.PlaneKind.{PlaneKind}
use Rattle.drm_table.specs.declared.answers.Answer.{Answer}
use Rattle.drm_table.specs.declared.answers.Answer.TheVariants.{Done, Opened, Number, Closed, Lease as LeaseIs}
use Rattle.drm_table.specs.declared.calls.Call.{Call}
use Rattle.drm_table.specs.declared.calls.Call.TheVariants.{GetMagic, SetClientCap, AuthMagic, SetMaster, DropMaster, CreateLease, RevokeLease}
use Rattle.drm_table.specs.declared.events.Event.{Event}
use Rattle.drm_table.specs.declared.events.Event.TheVariants.{Open, Ask, Close}
use Rattle.drm_table.specs.declared.events.Opening.{Opening}
use Rattle.drm_table.specs.declared.events.Opening.TheVariants.{Primary, Render, Lease as Redeemed}
use Rattle.drm_history.specs.History.{AnsweredEvent, next_number}
use Rattle.drm_history.specs.Effects as told
use Rattle.drm_history.specs.Effects.{effect}
use Rattle.drm_history.specs.MasterState.{master_in}
use Rattle.drm_history.specs.Lessees.{lessor_in, ended_by, ends, has_ended, is_plane_of, is_controlled, is_lent, granted}
use Rattle.drm_history.specs.Shown.{is_universal_in}
use Rattle.drm_history.proofs.Falls.{UpTo, none_up, master_up, lessor_still}
use Rattle.drm_trails.specs.Effects.{leased_by}
use Rattle.drm_trails.specs.Steps.{entry_of, history_of}
use Rattle.drm_rights.specs.Leases.{lease_at, if_older, new_lease, leases_in, ended_at, listed_by, listed_in, lent_in, is_ended_before, had_to_lend, comes_along, lent_by}
use Rattle.drm_trails.specs.declared.steps.Step.{Step}
use Rattle.drm_rights.specs.declared.notes.Lease.{Lease}
use Rattle.drm_trails.proofs.NoteLemmas.{append-none, among-filter}
use Rattle.drm_trails.proofs.HistoryLemmas.{followed_by-append, next_number-take}
use Rattle.drm_history.proofs.SeesNothing.{ended_up}
use Rattle.drm_rights.proofs.LeaseLemmas.{note_of, at-newest, ends_none, not_ended, has_ended_at, lessor_told}
use Rattle.drm_trails.proofs.HandleLemmas.{and_true}

abbrev is_next : List AnsweredEvent → ℕ → Bool
is_next past m = m == next_number past

-- ---- one more step

still_number : (past : List AnsweredEvent) (m : ℕ) → m ≤ length past → is_next past m ≡ false
still_number past m old = less-differ m (next_number past) (omega (arith, old))

lent_still : (t : Topology) (step : AnsweredEvent) (past : List AnsweredEvent) (m x : ℕ) → m ≤ length past
    → lent_in t (step ∷ past) m x ≡ lent_in t past m x
unfolding lent_in
lent_still t step past m x old =
    ap (λ b. cond b (is_lent t (effect step) past x (λ n. granted t past n x)) (lent_in t past m x))
    (still_number past m old)

listed_still : (step : AnsweredEvent) (past : List AnsweredEvent) (m : ℕ) → m ≤ length past
    → listed_in (step ∷ past) m ≡ listed_in past m
unfolding listed_in
listed_still step past m old = ap (λ b. cond b (listed_by (effect step)) (listed_in past m)) (still_number past m old)

ended_at_up : (past : List AnsweredEvent) (m : ℕ) → UpTo (length past) (ended_at past m)
unfolding ended_at
ended_at_up [] m k e = none_up 0 k e
ended_at_up (step ∷ past) m k e = by (ended_at past m) (ends step past m) (ended_at_up past m) e
  where
    by : (o : Option ℕ) (b : Bool) → UpTo (length past) o → option_or o (cond b (Some (next_number past)) None) ≡ Some k
        → k ≤ length (step ∷ past)
    by None true up is = let same : next_number past ≡ k = (let s : Some (next_number past) ≡ Some k = is in cc) in omega (arith, same)
    by None false up is = absurd (let no : None ≡ Some k = is in cc)
    by (Some n) b up is = let old = up k is in omega (arith, old)

-- a step that comes no earlier than the next says nothing of what ended before it
before_still : (step : AnsweredEvent) (past : List AnsweredEvent) (k m : ℕ) → m ≤ next_number past
    → is_ended_before (step ∷ past) k m ≡ is_ended_before past k m
unfolding ended_at
before_still step past k m early = by (ended_at past k) (ends step past k)
  where
    late : nat_lt (next_number past) m ≡ false
    late = grind (arith, nat_tests)

    by : (o : Option ℕ) (b : Bool)
        → option_map_or (λ ended. nat_lt ended m) (option_or o (cond b (Some (next_number past)) None)) false ≡ option_map_or (λ ended. nat_lt ended m) o false
    by (Some n) b = refl
    by None true = late
    by None false = refl

-- what ended before the next step has ended
before_next : (past : List AnsweredEvent) (k : ℕ) → is_ended_before past k (next_number past) ≡ has_ended past k
before_next past k = by (ended_at past k) (ended_at_up past k) ∙ has_ended_at past k
  where
    by : (o : Option ℕ) → UpTo (length past) o
        → option_map_or (λ ended. nat_lt ended (next_number past)) o false ≡ is_some o
    by None up = refl
    by (Some n) up = let old : n ≤ length past = up n refl in grind (arith, nat_tests)

-- ---- what is granted was lent, and has not ended

and_not : (e l h : Bool) → (not e && (l && not h)) ≡ (l && not (e || h))
and_not true true h = refl
and_not true false h = refl
and_not false l h = refl

-- A lease has a mode object exactly if it was lent and the lease has not ended.
pub granted_was_lent : (t : Topology) (past : List AnsweredEvent) (m x : ℕ)
    → granted t past m x ≡ (lent_in t past m x && not (has_ended past m))
unfolding granted lent_in has_ended ends
granted_was_lent t [] m x = refl
granted_was_lent t (step ∷ past) m x =
    (elim (is_next past m) as (λ b. is_next past m ≡ b →
    cond b (is_lent t (effect step) past x (λ n. granted t past n x)) (not (ends step past m) && granted t past m x)
    ≡ (cond b (is_lent t (effect step) past x (λ n. granted t past n x)) (lent_in t past m x) && not (ends step past m || has_ended past m))) [
      | true ↦ λ e. now (eqb-true m (next_number past) e)
      | false ↦ λ e. ap (λ g. not (ends step past m) && g) (granted_was_lent t past m x) ∙ and_not (ends step past m) (lent_in t past m x) (has_ended past m)
    ]) refl
  where
    now : m ≡ next_number past
        → is_lent t (effect step) past x (λ n. granted t past n x) ≡ (is_lent t (effect step) past x (λ n. granted t past n x) && not (ends step past m || has_ended past m))
    now same =
        let late : length past < m = omega (arith, same) in
        let none = ends_none past (ended_by (effect step) past) m (ended_up (effect step) past) late in
        let never = not_ended past m late in
        and_true (is_lent t (effect step) past x (λ n. granted t past n x))
        ∙ (λ i. is_lent t (effect step) past x (λ n. granted t past n x) && not (sym none i || sym never i))

-- Two tests fail together if the second fails.
pub none_of : (b : Bool) → false ≡ (b && false)
none_of true = refl
none_of false = refl

-- ---- a lease lends what its note says

-- a lease that is noted is of a step that was made, and its lessor is older
record Fits (past : List AnsweredEvent) (m : ℕ) (l : Lease) : Type 0 where
  born : m ≤ length past
  lessor : (k : ℕ) → l.lessor ≡ Some k → k < m

fits_still : (step : AnsweredEvent) (past : List AnsweredEvent) (m : ℕ) (l : Lease) → Fits past m l
    → Fits (step ∷ past) m l
fits_still step past m l f = let born = f.born in record { born = omega (arith, born); lessor = f.lessor }

lease_fits : (past : List AnsweredEvent) (m : ℕ) (l : Lease) → lease_at (leases_in past) m ≡ Some l → Fits past m l
unfolding leases_in
lease_fits [] m l e = absurd (let no : None ≡ Some l = e in cc)
lease_fits (step ∷ past) m l e = by (effect step) (λ k. fits_still step past m l (lease_fits past m l k)) e
  where
    by : (d : told.Effect) → (lease_at (leases_in past) m ≡ Some l → Fits (step ∷ past) m l)
        → lease_at (leases_in past ++ option_to_list (new_lease d past)) m ≡ Some l → Fits (step ∷ past) m l
    by (told.Leases c ids lessee token) k is = of (is_next past m) refl (sym (at-newest past m c lessee token) ∙ is)
      where
        of : (b : Bool) → is_next past m ≡ b
            → cond b (Some (note_of past c lessee token)) (lease_at (leases_in past) m) ≡ Some l
            → Fits (step ∷ past) m l
        of true same found =
            let number = eqb-true m (next_number past) same in
            let its : note_of past c lessee token ≡ l =
            (let s : Some (note_of past c lessee token) ≡ Some l = found in cc) in
            record {
              born = omega (arith, number);
              lessor = λ n is. let old = master_up past c n (ap (λ (l : Lease). l.lessor) its ∙ is) in omega (arith, number, old);
            }
        of false same found = k found
    by _ k is = k (ap (λ l. lease_at l m) (sym (append-none (leases_in past))) ∙ is)

lessor_up : (past : List AnsweredEvent) (m : ℕ) (l : Lease) → Fits past m l → UpTo (length past) l.lessor
lessor_up past m l f k e = let less = f.lessor k e in let born = f.born in omega (arith, less, born)

-- a noted lease has its lessor
lease_lessor : (past : List AnsweredEvent) (m : ℕ) (l : Lease) → lease_at (leases_in past) m ≡ Some l
    → l.lessor ≡ lessor_in past m
lease_lessor past m l e =
    of_lessor l.lessor (lease_fits past m l e).lessor
    ∙ ap (option_and_then (λ (l : Lease). if_older m l.lessor)) (sym e) ∙ lessor_told past m
  where
    of_lessor : (o : Option ℕ) → ((k : ℕ) → o ≡ Some k → k < m) → o ≡ if_older m o
    of_lessor None less = refl
    of_lessor (Some k) less = let lt = less k refl in let is : nat_lt k m ≡ true = grind (arith, nat_tests) in ap (λ b. cond b (Some k) None) (sym is)

-- what the lessor had to lend, one step later
had_still : (t : Topology) (step : AnsweredEvent) (past : List AnsweredEvent) (m x : ℕ) (o : Option ℕ)
    → m ≤ next_number past → UpTo (length past) o → had_to_lend t (step ∷ past) m x o ≡ had_to_lend t past m x o
had_still t step past m x None early up = refl
had_still t step past m x (Some k) early up =
    let old = up k refl in
    (λ i. not (is_some (lessor_still step past k old i)) || (lent_still t step past k x old i && not (before_still step past k m early i)))

-- and as its lease was made
had_now : (t : Topology) (past : List AnsweredEvent) (x : ℕ) (o : Option ℕ)
    → is_controlled past o (λ n. granted t past n x) ≡ had_to_lend t past (next_number past) x o
had_now t past x None = refl
had_now t past x (Some k) =
    ap (λ g. not (is_some (lessor_in past k)) || g)
    (granted_was_lent t past k x ∙ ap (λ b. lent_in t past k x && not b) (sym (before_next past k)))

lent_by_still : (t : Topology) (step : AnsweredEvent) (past : List AnsweredEvent) (m x : ℕ) (o : Option Lease)
    → ((l : Lease) → o ≡ Some l → Fits past m l) → lent_by t past m x o ≡ lent_by t (step ∷ past) m x o
lent_by_still t step past m x None fits = refl
lent_by_still t step past m x (Some l) fits =
    let f = fits l refl in
    let born = f.born in
    let listed = sym (listed_still step past m born) in
    let had = sym (had_still t step past m x l.lessor (omega (arith, born)) (lessor_up past m l f)) in
    (λ i. is_among (listed i) x || (comes_along t l.universal (listed i) x && had i))

-- no lease is noted of the next step
none_yet : (past : List AnsweredEvent) (m : ℕ) → m ≡ next_number past → lease_at (leases_in past) m ≡ None
none_yet past m next = (elim (lease_at (leases_in past) m) as (λ o. lease_at (leases_in past) m ≡ o → o ≡ None) [
  | None ↦ λ e. refl
  | Some l ↦ λ e. let born = (lease_fits past m l e).born in absurd (omega (arith, born, next))
]) refl

-- the lease that the step makes
lent_now : (t : Topology) (step : AnsweredEvent) (past : List AnsweredEvent) (c x : ℕ) (ids listed : List ℕ) (lessee token m : ℕ)
    → m ≡ next_number past → listed ≡ ids →
    is_lent t (told.Leases c ids lessee token) past x (λ n. granted t past n x)
    ≡
    (is_among listed x || (comes_along t (is_universal_in past c) listed x && had_to_lend t (step ∷ past) m x (master_in past c)))
lent_now t step past c x ids listed lessee token m number same =
    ap (λ h. is_among ids x || (comes_along t (is_universal_in past c) ids x && h))
    (had_now t past x (master_in past c) ∙ sym (had_still t step past (next_number past) x (master_in past c) (omega arith) (master_up past c)) ∙ ap (λ n. had_to_lend t (step ∷ past) n x (master_in past c)) (sym number))
    ∙
    (λ i. is_among (sym same i) x || (comes_along t (is_universal_in past c) (sym same i) x && had_to_lend t (step ∷ past) m x (master_in past c)))

listed_now : (step : AnsweredEvent) (past : List AnsweredEvent) (m : ℕ) (d : told.Effect) → is_next past m ≡ true
    → effect step ≡ d → listed_in (step ∷ past) m ≡ listed_by d
unfolding listed_in
listed_now step past m d next is = (λ i. cond (next i) (listed_by (is i)) (listed_in past m))

lent_with : (t : Topology) (step : AnsweredEvent) (past : List AnsweredEvent) (m x : ℕ) (d : told.Effect)
    → effect step ≡ d → lent_in t past m x ≡ lent_by t past m x (lease_at (leases_in past) m) →
    cond (is_next past m) (is_lent t d past x (λ n. granted t past n x)) (lent_in t past m x) ≡ lent_by t (step ∷ past)
    m x (lease_at (leases_in past ++ option_to_list (new_lease d past)) m)
lent_with t step past m x (told.Leases c ids lessee token) is k =
    of (is_next past m) refl ∙ ap (lent_by t (step ∷ past) m x) (sym (at-newest past m c lessee token))
  where
    of : (b : Bool) → is_next past m ≡ b
        → cond b (is_lent t (told.Leases c ids lessee token) past x (λ n. granted t past n x)) (lent_in t past m x) ≡ lent_by t (step ∷ past) m x (cond b (Some (note_of past c lessee token)) (lease_at (leases_in past) m))
    of true next =
        lent_now t step past c x ids (listed_in (step ∷ past) m) lessee token m (eqb-true m (next_number past) next)
        (listed_now step past m (told.Leases c ids lessee token) next is)
    of false next = k ∙ lent_by_still t step past m x (lease_at (leases_in past) m) (λ l e. lease_fits past m l e)
lent_with t step past m x _ is k =
    other (is_next past m) refl
    ∙ ap (λ l. lent_by t (step ∷ past) m x (lease_at l m)) (sym (append-none (leases_in past)))
  where
    other : (b : Bool) → is_next past m ≡ b
        → cond b false (lent_in t past m x) ≡ lent_by t (step ∷ past) m x (lease_at (leases_in past) m)
    other true next = ap (lent_by t (step ∷ past) m x) (sym (none_yet past m (eqb-true m (next_number past) next)))
    other false next = k ∙ lent_by_still t step past m x (lease_at (leases_in past) m) (λ l e. lease_fits past m l e)

-- A step lent a mode object exactly if the note of its lease says so.
pub lent_told : (t : Topology) (past : List AnsweredEvent) (m x : ℕ)
    → lent_in t past m x ≡ lent_by t past m x (lease_at (leases_in past) m)
unfolding leases_in lent_in
lent_told t [] m x = refl
lent_told t (step ∷ past) m x = lent_with t step past m x (effect step) refl (lent_told t past m x)

-- What a recorded lease lends follows from its list, from the planes of its CRTCs and from its lessor.
pub lends_by : (t : Topology) (past : List AnsweredEvent) (m x : ℕ) (l : Lease) (listed : List ℕ) (has along : Bool) (lessor : Option ℕ) →
    lease_at (leases_in past) m ≡ Some l → listed ≡ listed_in past m → has ≡ is_among listed x → along ≡ comes_along t
    l.universal listed x → lessor ≡ lessor_in past m →
    (has || (along && had_to_lend t past m x lessor)) ≡ lent_in t past m x
lends_by t past m x l listed has along lessor e its_list its_place its_plane its_lessor =
    (λ i. (its_place ∙ ap (λ ids. is_among ids x) its_list) i || ((its_plane ∙ ap (λ ids. comes_along t l.universal ids x) its_list) i && had_to_lend t past m x ((its_lessor ∙ sym (lease_lessor past m l e)) i)))
    ∙ ap (lent_by t past m x) (sym e) ∙ sym (lent_told t past m x)

-- ---- all that a lease lends

none_listed : (past : List AnsweredEvent) (m : ℕ) → lease_at (leases_in past) m ≡ None → listed_in past m ≡ []
unfolding leases_in listed_in
none_listed [] m e = refl
none_listed (step ∷ past) m e = by (effect step) (none_listed past m) e
  where
    by : (d : told.Effect) → (lease_at (leases_in past) m ≡ None → listed_in past m ≡ [])
        → lease_at (leases_in past ++ option_to_list (new_lease d past)) m ≡ None
        → cond (is_next past m) (listed_by d) (listed_in past m) ≡ []
    by (told.Leases c ids lessee token) k is = of (is_next past m) (sym (at-newest past m c lessee token) ∙ is)
      where
        of : (b : Bool) → cond b (Some (note_of past c lessee token)) (lease_at (leases_in past) m) ≡ None
            → cond b ids (listed_in past m) ≡ []
        of true found = absurd (let no : Some (note_of past c lessee token) ≡ None = found in cc)
        of false found = k found
    by _ k is = of (is_next past m)
      where
        of : (b : Bool) → cond b [] (listed_in past m) ≡ []
        of true = refl
        of false = k (ap (λ l. lease_at l m) (sym (append-none (leases_in past))) ∙ is)

-- a plane of a CRTC is a plane
plane_if : (t : Topology) (ids : List ℕ) (x : ℕ) → (is_plane t x && is_plane_of t ids x) ≡ is_plane_of t ids x
plane_if t ids x = by (is_plane t x) (slice_get t.kinds (x - first_plane t))
  where
    by : (b : Bool) (kind : Option PlaneKind)
        → (b && option_map_or (is_among ids) (option_and_then crtc_of_kind (cond b kind None)) false) ≡ option_map_or (is_among ids) (option_and_then crtc_of_kind (cond b kind None)) false
    by true kind = refl
    by false kind = refl

among-planes : (t : Topology) (ids : List ℕ) (x : ℕ) → is_among (planes_of t ids) x ≡ is_plane_of t ids x
among-planes t ids x = among-filter (is_plane_of t ids) (plane_ids t) x ∙ plane_if t ids x

-- A lease lends what it lists, and planes of CRTCs that it lists.
pub all_lent : (t : Topology) (past : List AnsweredEvent) (m x : ℕ)
    → (is_among (listed_in past m) x || (is_among (planes_of t (listed_in past m)) x && lent_in t past m x)) ≡ lent_in t past m x
all_lent t past m x =
    ap (λ b. is_among (listed_in past m) x || (b && lent_in t past m x)) (among-planes t (listed_in past m) x)
    ∙ of (lease_at (leases_in past) m) refl
  where
    parts : (a u p h : Bool) → (a || (p && (a || ((not u && p) && h)))) ≡ (a || ((not u && p) && h))
    parts true u p h = refl
    parts false u true h = refl
    parts false true false h = refl
    parts false false false h = refl

    nothing : (p : Bool) (l : Bool) → l ≡ false → (false || (p && l)) ≡ l
    nothing true l none = refl
    nothing false l none = sym none

    of : (o : Option Lease) → lease_at (leases_in past) m ≡ o
        → (is_among (listed_in past m) x || (is_plane_of t (listed_in past m) x && lent_in t past m x)) ≡ lent_in t past m x
    of None e =
        ap (λ ids. is_among ids x || (is_plane_of t (listed_in past m) x && lent_in t past m x)) (none_listed past m e)
        ∙ nothing (is_plane_of t (listed_in past m) x) (lent_in t past m x)
        (lent_told t past m x ∙ ap (lent_by t past m x) e)
    of (Some l) e =
        let its = lent_told t past m x ∙ ap (lent_by t past m x) e in
        ap (λ b. is_among (listed_in past m) x || (is_plane_of t (listed_in past m) x && b)) its
        ∙ parts (is_among (listed_in past m) x) l.universal (is_plane_of t (listed_in past m) x)
        (had_to_lend t past m x l.lessor)
        ∙ sym its

-- ---- what a step listed

listed_by_opening : (opening : Opening) → listed_by (told.opening_effect opening) ≡ []
listed_by_opening (Primary root universal) = refl
listed_by_opening Render = refl
listed_by_opening (Redeemed token root universal) = refl

listed_by_call : (c : ℕ) (call : Call) (answer : Answer)
    → listed_by (told.call_effect c call answer) ≡ leased_by (Ask c call) answer
listed_by_call c (CreateLease ids) (LeaseIs lessee token) = refl
listed_by_call c (CreateLease ids) _ = refl
listed_by_call c GetMagic (Number magic) = refl
listed_by_call c GetMagic _ = refl
listed_by_call c (AuthMagic magic) Done = refl
listed_by_call c (AuthMagic magic) _ = refl
listed_by_call c SetMaster Done = refl
listed_by_call c SetMaster _ = refl
listed_by_call c (SetClientCap cap value) Done = refl
listed_by_call c (SetClientCap cap value) _ = refl
listed_by_call c DropMaster Done = refl
listed_by_call c DropMaster _ = refl
listed_by_call c (RevokeLease lessee) Done = refl
listed_by_call c (RevokeLease lessee) _ = refl
listed_by_call c _ answer = refl

listed_by_event : (event : Event) (answer : Answer) → listed_by (told.effect_by event answer) ≡ leased_by event answer
listed_by_event (Open opening) (Opened client) = listed_by_opening opening
listed_by_event (Open opening) _ = refl
listed_by_event (Ask c call) answer = listed_by_call c call answer
listed_by_event (Close c) Closed = refl
listed_by_event (Close c) _ = refl

listed_of_step : (step : Step) → listed_by (effect (entry_of step)) ≡ leased_by step.event step.answer
unfolding effect
listed_of_step step = listed_by_event step.event step.answer

listed_take : (steps : List Step) (n m : ℕ) (step : Step) → n ≤ length steps → 0 < m → m ≤ n
    → step ≡ get_or steps (m - 1) step → listed_in (history_of (take n steps)) m ≡ leased_by step.event step.answer
unfolding listed_in
listed_take steps zero m step within some low is = absurd (omega (arith, some, low))
listed_take steps (suc n) m step within some low is =
    let newest = get_or steps n step in
    let past = history_of (take n steps) in
    let next : suc n ≡ n + 1 = omega arith in
    let before : n < length steps = omega (arith, within) in
    let number : next_number past ≡ n + 1 = next_number-take steps n (omega (arith, before)) in
    let all : history_of (take (n + 1) steps) ≡ entry_of newest ∷ past =
    ap history_of (take_more steps n step before) ∙ followed_by-append [] (take n steps) newest in
    ap (λ k. listed_in (history_of (take k steps)) m) next ∙ ap (λ h. listed_in h m) all
    ∙ (elim (m == next_number past) as (λ b. (m == next_number past) ≡ b → cond b (listed_by (effect (entry_of newest))) (listed_in past m) ≡ leased_by step.event step.answer) [
      | true ↦ λ e.
          let same : m - 1 ≡ n = (let same = eqb-true m (next_number past) e in omega (arith, same, number)) in
          let it : newest ≡ step = ap (λ k. get_or steps k step) (sym same) ∙ sym is in
          listed_of_step newest ∙ ap (λ (s : Step). leased_by s.event s.answer) it
      | false ↦ λ e. listed_take steps n m step (omega (arith, before)) some (let other : m ≡ n + 1 → ⊥ = λ k. absurd (let no : false ≡ true = sym e ∙ eq-eqb m (next_number past) (k ∙ sym number) in cc) in omega (arith, low, other)) is
    ]) refl

-- A step lists the mode objects that its event and its answer say.
pub listed_at : (steps : List Step) (m : ℕ) (step : Step) → 0 < m → m ≤ length steps → step ≡ get_or steps (m - 1) step
    → listed_in (history_of steps) m ≡ leased_by step.event step.answer
listed_at steps m step some within is =
    ap (λ xs. listed_in (history_of xs) m) (sym (take-length steps))
    ∙ listed_take steps (length steps) m step (omega arith) some within is

-- No step with this number lists anything, if the history has no such step.
pub listed_none : (history : List AnsweredEvent) (m : ℕ) → (m ≡ 0) ⊎ (length history < m) → listed_in history m ≡ []
unfolding listed_in
listed_none [] m out = refl
listed_none (step ∷ past) m out =
    ap (λ b. cond b (listed_by (effect step)) (listed_in past m)) (differ out) ∙ listed_none past m (before out)
  where
    differ : (m ≡ 0) ⊎ (length (step ∷ past) < m) → (m == next_number past) ≡ false
    differ (inl none) = less-differ m (next_number past) (omega (arith, none))
    differ (inr late) = flipped (next_number past) m (less-differ (next_number past) m (omega (arith, late)))

    before : (m ≡ 0) ⊎ (length (step ∷ past) < m) → (m ≡ 0) ⊎ (length past < m)
    before (inl none) = inl none
    before (inr late) = inr (omega (arith, late))
