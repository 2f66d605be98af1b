-- The sessions of three listeners, and their participants.
use Rattle.std.proofs.Common.{◌≡◌, ℕ, zero, suc, ◌+◌, List, [], ◌∷◌, ◌++◌, All, length, refl, sym, ap, ◌∙◌, subst, arith, append_assoc, length-append, inl, inr}
use Rattle.std.specs.List.{AllByRecursion}
use Rattle.std.specs.Prelude.{map, take, drop, Result, Ok, Err, IfOk}
use Rattle.std.proofs.Math.Seq.{drop-append-add, drop-append_seam, take-append_seam}
use Rattle.std.proofs.lemmas.List.Elements.{All-append, All-cons, All-head, All-nil, All-same, All-tail}
use Rattle.drm_turns.specs.declared.history.Entry.{Entry}
use Rattle.drm_turns.specs.History.{AllDiffer, Has, StartsWith}
use Rattle.drm_turns.specs.Participants.{HasSeen, HasTakenIn, ParticipantView, numbers_of}
use Rattle.drm_turns.proofs.ParticipantsIn.{all-seen-more, starts_on}
use Rattle.drm_sessions.specs.declared.class.Class.{Class}
use Rattle.drm_sessions.specs.declared.class.Class.TheVariants.{Card, Render, Root}
use Rattle.drm_sessions.specs.declared.end.Session.{Session}
use Rattle.drm_sessions.specs.Serving.{all_steps}
use Rattle.drm_connections.specs.declared.counts.Counts.{Counts}
use Rattle.drm_listeners.specs.Connections.{IsSessionBy, IsSessionOf, SessionState, participants_in, sessions_in}
use Rattle.drm_listeners.specs.Serving.{HaveSat, IsBy, IsTold, card_sessions, render_sessions, root_sessions}

-- ---- lists

-- A list of session states has as many sessions as states.
pub length-sessions : (sittings : List SessionState) → length (sessions_in sittings) ≡ length sittings
length-sessions [] = refl
length-sessions (s ∷ sittings) = ap suc (length-sessions sittings)

all-both : {A : Type 0} (P : A → Type 0) (xs ys : List A) → AllByRecursion P xs → AllByRecursion P ys
    → AllByRecursion P (xs ++ ys)
all-both P [] ys h k = k
all-both P (x ∷ xs) ys h k = (h.0, all-both P xs ys h.1 k)

map-both : {A B : Type 0} (f : A → B) (xs ys : List A) → map f (xs ++ ys) ≡ map f xs ++ map f ys
map-both f [] ys = refl
map-both f (x ∷ xs) ys = ap (λ (l : List _). f x ∷ l) (map-both f xs ys)

-- To map three lists one after the other is to map each.
pub map-three : {A B : Type 0} (f : A → B) (xs ys zs : List A)
    → map f (xs ++ (ys ++ zs)) ≡ map f xs ++ (map f ys ++ map f zs)
map-three f xs ys zs = map-both f xs (ys ++ zs) ∙ ap (λ (l : List _). map f xs ++ l) (map-both f ys zs)

-- If the value of a result has two properties, it has them together.
pub if_ok_both : {D E : Type 0} (P Q : D → Type 0) (r : Result D E) → IfOk r P → IfOk r Q → IfOk r (λ d. P d × Q d)
if_ok_both P Q (Ok d) p q = (p, q)
if_ok_both P Q (Err e) p q = tt

all_steps-both : (xs ys : List Session) → all_steps (xs ++ ys) ≡ all_steps xs + all_steps ys
all_steps-both [] ys = omega arith
all_steps-both (x ∷ xs) ys = let more = all_steps-both xs ys in omega arith

-- The steps of three lists of sessions are the sum of the steps of each.
pub steps-three : (xs ys zs : List Session)
    → all_steps (xs ++ (ys ++ zs)) ≡ all_steps xs + (all_steps ys + all_steps zs)
steps-three xs ys zs = all_steps-both xs (ys ++ zs) ∙ ap (λ (n : ℕ). all_steps xs + n) (all_steps-both ys zs)

-- ---- numbers that differ do so without one of them

has-beside : (k : ℕ) (xs : List ℕ) (y : ℕ) (ys : List ℕ) → Has k (xs ++ ys) → Has k (xs ++ y ∷ ys)
has-beside k [] y ys h = inr h
has-beside k (x ∷ xs) y ys (inl e) = inl e
has-beside k (x ∷ xs) y ys (inr h) = inr (has-beside k xs y ys h)

differ-without : (xs : List ℕ) (y : ℕ) (ys : List ℕ) → AllDiffer (xs ++ y ∷ ys) → AllDiffer (xs ++ ys)
differ-without [] y ys d = d.1
differ-without (x ∷ xs) y ys d = (λ h. d.0 (has-beside x xs y ys h), differ-without xs y ys d.1)

-- ---- the sessions by their classes

-- If each session was served through its participant in a class, all are sessions of this class.
pub of-class : (class : Class) (sittings : List SessionState)
    → All (λ (s : SessionState). IsSessionBy class s.participant s.session) sittings
    → All (IsSessionOf class) (sessions_in sittings)
of-class class [] h = All-nil (IsSessionOf class)
of-class class (s ∷ sittings) h =
    All-cons (IsSessionOf class) s.session (sessions_in sittings)
    (s.participant, All-head (λ (x : SessionState). IsSessionBy class x.participant x.session) s sittings h)
    (of-class class sittings (All-tail (λ (x : SessionState). IsSessionBy class x.participant x.session) s sittings h))

-- Three lists whose lengths are the counts are found again as the parts of their joined list.
pub parted : {A : Type 0} (P Q R : A → Type 0) (counts : Counts) (cards renders roots : List A)
    → length cards ≡ counts.cards → length renders ≡ counts.renders
    → All P cards → All Q renders → All R roots
    → All P (card_sessions counts (cards ++ (renders ++ roots))) × All Q (render_sessions counts (cards ++ (renders ++ roots))) × All R (root_sessions counts (cards ++ (renders ++ roots)))
parted {A} P Q R counts cards renders roots c r of_cards of_renders of_roots =
    let later : List A = renders ++ roots in
    let all : List A = cards ++ later in
    let behind : drop counts.cards all ≡ later = ap (λ (n : ℕ). drop n all) (sym c) ∙ drop-append_seam cards later in (
      All-same P (card_sessions counts all) cards (ap (λ (n : ℕ). take n all) (sym c) ∙ take-append_seam cards later)
          of_cards,
      All-same Q (render_sessions counts all) renders
          (ap (λ (l : List A). take counts.renders l) behind ∙ ap (λ (n : ℕ). take n later) (sym r) ∙ take-append_seam renders roots)
          of_renders,
      All-same R (root_sessions counts all) roots
          (ap (λ (n : ℕ). drop (n + counts.renders) all) (sym c) ∙ drop-append-add cards later counts.renders ∙ ap (λ (n : ℕ). drop n later) (sym r) ∙ drop-append_seam renders roots)
          of_roots,
    )

-- ---- the participants of all

numbers-three : (xs ys zs : List SessionState)
    → numbers_of (participants_in (xs ++ (ys ++ zs))) ≡ numbers_of (participants_in xs) ++ (numbers_of (participants_in ys) ++ numbers_of (participants_in zs))
numbers-three xs ys zs =
    ap numbers_of (map-three (λ (s : SessionState). s.participant) xs ys zs)
    ∙ map-three (λ (s : ParticipantView). s.number) (participants_in xs) (participants_in ys) (participants_in zs)

-- A participant that took in the sessions of three classes has taken in the participant of each.
pub sat-of : (counts : Counts) (card render root new : ParticipantView) (cards renders roots : List SessionState)
    → length cards ≡ counts.cards → length renders ≡ counts.renders
    → All (IsBy Card) cards → All (IsBy Render) renders → All (IsBy Root) roots
    → HasTakenIn card (participants_in cards) → HasTakenIn render (participants_in renders)
    → HasTakenIn root (participants_in roots)
    → StartsWith new.seen card.seen × StartsWith new.seen render.seen × StartsWith new.seen root.seen
    → new.merged ≡ ((card.number ∷ card.merged) ++ render.number ∷ render.merged) ++ root.number ∷ root.merged
    → AllDiffer new.merged → HaveSat counts new (sessions_in cards ++ (sessions_in renders ++ sessions_in roots))
sat-of counts card render root new cards renders roots c r of_cards of_renders of_roots cards_taken renders_taken roots_taken seen merged differ =
    let begun : List ℕ = card.number ∷ card.merged in
    let without_root : AllDiffer ((begun ++ render.number ∷ render.merged) ++ root.merged) =
    differ-without (begun ++ render.number ∷ render.merged) root.number root.merged (subst AllDiffer merged differ)
    in
    let without_render : AllDiffer (begun ++ (render.merged ++ root.merged)) =
    differ-without begun render.number (render.merged ++ root.merged)
    (subst AllDiffer (append_assoc begun (render.number ∷ render.merged) root.merged) without_root) in
    let numbers : card.merged ++ (render.merged ++ root.merged) ≡ numbers_of (participants_in (cards ++ (renders ++ roots))) =
    (λ i. cards_taken.merged i ++ (renders_taken.merged i ++ roots_taken.merged i)) ∙ sym (numbers-three cards renders roots) in
    let parts =
    parted (IsBy Card) (IsBy Render) (IsBy Root) counts cards renders roots c r of_cards of_renders of_roots in
    record {
      sittings = cards ++ (renders ++ roots);
      are = sym (map-three (λ (s : SessionState). s.session) cards renders roots);
      cards = parts.0;
      renders = parts.1;
      roots = parts.2;
      seen =
          subst (λ (l : List ParticipantView). AllByRecursion (HasSeen new) l)
          (sym (map-three (λ (s : SessionState). s.participant) cards renders roots))
          (all-both (HasSeen new) (participants_in cards) (participants_in renders ++ participants_in roots) (all-seen-more card new seen.0 (participants_in cards) cards_taken.seen)
          (all-both (HasSeen new) (participants_in renders) (participants_in roots) (all-seen-more render new seen.1 (participants_in renders) renders_taken.seen) (all-seen-more root new seen.2 (participants_in roots) roots_taken.seen)));
      differ = subst AllDiffer numbers without_render.1;
    }

-- ---- the history

seen-take : (P : ParticipantView → Type 0) (n : ℕ) (xs : List SessionState) → AllByRecursion P (participants_in xs)
    → AllByRecursion P (participants_in (take n xs))
seen-take P zero xs h = tt
seen-take P (suc n) [] h = tt
seen-take P (suc n) (x ∷ xs) h = (h.0, seen-take P n xs h.1)

seen-drop : (P : ParticipantView → Type 0) (n : ℕ) (xs : List SessionState) → AllByRecursion P (participants_in xs)
    → AllByRecursion P (participants_in (drop n xs))
seen-drop P zero xs h = h
seen-drop P (suc n) [] h = tt
seen-drop P (suc n) (x ∷ xs) h = seen-drop P n xs h.1

all-told : (log : List Entry) (class : Class) (participant : ParticipantView) → StartsWith log participant.seen
    → (sittings : List SessionState) → All (IsBy class) sittings
    → AllByRecursion (HasSeen participant) (participants_in sittings) → All (IsTold log class) sittings
all-told log class participant more [] by seen = All-nil (IsTold log class)
all-told log class participant more (s ∷ sittings) by seen =
    let one : IsBy class s = All-head (IsBy class) s sittings by in
    All-cons (IsTold log class) s sittings
    record {
      by = one;
      seen = starts_on log participant.seen s.participant.seen more seen.0.seen;
      own = seen.0.own;
      steps =
          (let own = ap (λ (l : List Entry). length l) seen.0.own in let made = one.serves.steps in let none = ap (λ (l : List Entry). length l) one.nothing_made in omega (arith, own, made, none));
    }
    (all-told log class participant more sittings (All-tail (IsBy class) s sittings by) seen.1)

-- The history has each session as one of its class.
pub told-by-class : (log : List Entry) (counts : Counts) (participant : ParticipantView) (sessions : List Session)
    → StartsWith log participant.seen → (sat : HaveSat counts participant sessions)
    → All (IsTold log Card) (card_sessions counts sat.sittings) × All (IsTold log Render) (render_sessions counts sat.sittings) × All (IsTold log Root) (root_sessions counts sat.sittings)
told-by-class log counts participant sessions more sat =
    let sittings : List SessionState = sat.sittings in
    let later = seen-drop (HasSeen participant) counts.cards sittings sat.seen in (
      all-told log Card participant more (card_sessions counts sittings) sat.cards
          (seen-take (HasSeen participant) counts.cards sittings sat.seen),
      all-told log Render participant more (render_sessions counts sittings) sat.renders
          (seen-take (HasSeen participant) counts.renders (drop counts.cards sittings) later),
      all-told log Root participant more (root_sessions counts sittings) sat.roots
          (seen-drop (HasSeen participant) (counts.cards + counts.renders) sittings sat.seen),
    )
