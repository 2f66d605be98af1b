use Rattle.std.proofs.Common.{◌≡◌, ℕ, true, ◌==◌, List, ◌∷◌, ◌++◌, sym, ap, ◌∙◌, subst}
use Rattle.drm_index_array.specs.Numbers.{is_among}
use Rattle.drm_index_array.proofs.Lists.{all_weaker}
use Rattle.drm_index_array.proofs.Numbers.{among-more}
use Rattle.drm_index_array.proofs.Orders.{same-any}
use Rattle.drm_gem.specs.Objects.{ObjectSet}
use Rattle.drm_files.specs.Files.{FileLists, left_by, without_client}
use Rattle.drm_share.specs.declared.rows.SharedName.{SharedName}
use Rattle.drm_share.specs.Names.{NameList}
use Rattle.drm_state.specs.Parts.{keys_of}
use Rattle.drm_state.specs.Invariants.{AreCounted, AreNamed, Leaves}
use Rattle.drm_state.proofs.Counting.{same_invariants}
use Rattle.drm_state.proofs.Contents.{rest_keys, first_rest, shorter_rest, no_rest, all_keys}
use Rattle.drm_state.proofs.Leaving.{leaves_all, leaves_trans}
use Rattle.drm_state.proofs.Sweeps.{named_left}
use Rattle.drm_client_calls.proofs.closings.release_all.Goals as goal

-- the keys of all handles, those of the client before the others
parted : (old new : FileLists) (c : ℕ) (names : NameList) (objects : ObjectSet) (refs : List ℕ)
    → new ≡ without_client old c → AreNamed (keys_of old.holds) names.names
    → AreCounted (keys_of old.holds) refs objects.objects →
    Leaves names objects (rest_keys (left_by old c) ++ keys_of new.holds) refs names objects
parted old new c names objects refs e named invariants =
    let all = rest_keys (left_by old c) ++ keys_of (without_client old c).holds in
    let same = all_keys old c in
    subst (λ (fs : FileLists). Leaves names objects (rest_keys (left_by old c) ++ keys_of fs.holds) refs names objects)
    (sym e)
    (leaves_all names objects all refs (same_invariants (keys_of old.holds) all refs objects.objects same invariants)
    (all_weaker (λ (x : SharedName). is_among (keys_of old.holds) x.object ≡ true) (λ (x : SharedName). is_among all x.object ≡ true) (λ x a. sym (same-any (λ k. k == x.object) (keys_of old.holds) all same) ∙ a) names.names named))

-- the first of the rest is before all others
first : (names middle : NameList) (objects set : ObjectSet) (refs held : List ℕ) (rest next : List (ℕ × ℕ)) (k : ℕ)
    → rest_keys rest ≡ k ∷ rest_keys next → Leaves names objects (rest_keys rest ++ held) refs middle set
    → Leaves names objects (k ∷ (rest_keys next ++ held)) refs middle set
first names middle objects set refs held rest next k e h =
    subst (λ keys. Leaves names objects (keys ++ held) refs middle set) e h

pub loop-hold-init : goal.loop-hold-init
loop-hold-init c =
    rw c.close-rest.ensures.rest
    (λ refs h. parted c.args.files.now c.close-rest.new.self c.args.client c.args.names.now c.args.objects.now refs c.close-rest.ensures.closed c.requires.named h)

pub release-requires : goal.release-requires
release-requires c =
    let held = keys_of c.close-rest.new.self.holds in
    let refs = c.requires.invariants.0 in
    let keys =
    first_rest c.loop-hold.rest c.in-Some.hold.0 c.in-Some.hold.1 c.in-Some.ensures.first
    ∙ ap (λ rest. c.in-Some.hold.1 ∷ rest_keys rest) (sym c.in-Some.ensures.rest) in
    let left =
    first c.args.names.now c.loop-hold.names c.args.objects.now c.loop-hold.objects refs held c.loop-hold.rest
    c.take_next.new.self c.in-Some.hold.1 keys (c.loop-hold.invariant refs c.requires.invariants.1) in
    record { invariants = (rest_keys c.take_next.new.self ++ held, refs, left.invariants) }

pub loop-hold-smaller : goal.loop-hold-smaller
loop-hold-smaller c =
    rw c.in-Some.ensures.rest (shorter_rest c.loop-hold.rest c.in-Some.hold.0 c.in-Some.hold.1 c.in-Some.ensures.first)

-- one step further
further : (names middle now : NameList) (objects set new : ObjectSet) (k : ℕ) (keys refs : List ℕ)
    → Leaves names objects (k ∷ keys) refs middle set
    → (AreCounted (k ∷ keys) refs set.objects → AreNamed (k ∷ keys) middle.names → Leaves middle set keys refs now new)
    → Leaves names objects keys refs now new
further names middle now objects set new k keys refs h step =
    leaves_trans names middle now objects set new (k ∷ keys) keys refs (λ n e. among-more keys k n e) h
    (step h.invariants (named_left names middle objects set (k ∷ keys) refs h))

pub loop-hold-preserved : goal.loop-hold-preserved
loop-hold-preserved c =
    let held = keys_of c.close-rest.new.self.holds in
    let next = c.take_next.new.self in
    let key = c.in-Some.hold.1 in
    let keys =
    first_rest c.loop-hold.rest c.in-Some.hold.0 key c.in-Some.ensures.first
    ∙ ap (λ rest. key ∷ rest_keys rest) (sym c.in-Some.ensures.rest) in
    λ refs h.
    further c.args.names.now c.loop-hold.names c.release.new.names c.args.objects.now c.loop-hold.objects
    c.release.new.objects key (rest_keys next ++ held) refs
    (first c.args.names.now c.loop-hold.names c.args.objects.now c.loop-hold.objects refs held c.loop-hold.rest next key keys (c.loop-hold.invariant refs h))
    (c.release.ensures.leaves (rest_keys next ++ held) refs)

-- at the end there is no rest
pub returns-clause-leaves : goal.returns-clause-leaves
returns-clause-leaves c = λ refs h.
    subst
    (λ rest. Leaves c.args.names.now c.args.objects.now (rest_keys rest ++ keys_of c.close-rest.new.self.holds) refs c.loop-hold.names c.loop-hold.objects)
    (no_rest c.loop-hold.rest (sym c.in_default.is ∙ c.take_next.ensures.first)) (c.loop-hold.invariant refs h)
