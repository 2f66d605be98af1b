use Rattle.std.proofs.Common.{ℕ, List, ◌∷◌, ◌++◌, refl, sym, ap, ◌∙◌, subst}
use Rattle.drm_index_array.specs.Orders.{SameRows}
use Rattle.drm_index_array.proofs.Orders.{same-refl, same-trans}
use Rattle.drm_gem.specs.Objects.{ObjectSet}
use Rattle.drm_modes.specs.declared.rows.Framebuffer.{Framebuffer}
use Rattle.drm_modes.specs.Modes.{ModeSet}
use Rattle.drm_state.specs.Parts.{framebuffer_keys, LosesFramebuffersOf}
use Rattle.drm_state.specs.Invariants.{AreCounted, AreThoseNamed}
use Rattle.drm_state.proofs.Counting.{all_named, same_references}
use Rattle.drm_state.proofs.Contents.{has_reference, unreferred_step, unrefer_limit}
use Rattle.drm_state.proofs.FramebuffersThere.{all_shown, dark_further}
use Rattle.drm_state.proofs.Naming.{same-append, same-middle}
use Rattle.drm_state.proofs.LeastRow.{IsTaken, first_taken, none_taken}
use Rattle.drm_client_calls.proofs.Fewer.{further}
use Rattle.drm_client_calls.proofs.closings.close_framebuffers.Goals as goal

abbrev framebuffer : Framebuffer → ℕ
framebuffer x = x.framebuffer

abbrev client_of : Framebuffer → ℕ
client_of x = x.client

abbrev key_of : Framebuffer → ℕ
key_of x = x.object

pub loop-taken-init : goal.loop-taken-init
loop-taken-init c = record {
  are = c.laws.ensures;
  topology = refl;
  last = refl;
  others = refl;
  shown = all_shown c.args.modes.now c.laws.ensures;
  left = λ keys more h. record { invariants = h; named = all_named keys _ c.args.objects.now.objects h };
  limit = refl;
}

-- the references, of which one goes
one_goes : (client key : ℕ) (more : List ℕ) (set new : ModeSet)
    → IsTaken client_of key_of client key set.framebuffers new.framebuffers
    → SameRows (more ++ framebuffer_keys set.framebuffers) (key ∷ (more ++ framebuffer_keys new.framebuffers))
one_goes client key more set new one =
    same-trans (more ++ framebuffer_keys set.framebuffers) (more ++ key ∷ framebuffer_keys new.framebuffers)
    (key ∷ (more ++ framebuffer_keys new.framebuffers))
    (same-append more more (framebuffer_keys set.framebuffers) (key ∷ framebuffer_keys new.framebuffers) (same-refl more) one.keys)
    (same-middle key more (framebuffer_keys new.framebuffers))

invariants_yet : (set : ObjectSet) (client key : ℕ) (keys more : List ℕ) (old new : ModeSet)
    → IsTaken client_of key_of client key old.framebuffers new.framebuffers
    → AreCounted keys (more ++ framebuffer_keys old.framebuffers) set.objects
    → AreCounted keys (key ∷ (more ++ framebuffer_keys new.framebuffers)) set.objects
invariants_yet set client key keys more old new one h =
    same_references keys (more ++ framebuffer_keys old.framebuffers) (key ∷ (more ++ framebuffer_keys new.framebuffers))
    set.objects (one_goes client key more old new one) h

pub unrefer-dead-requires : goal.unrefer-dead-requires
unrefer-dead-requires c =
    let key = c.in-Some.taken.1 in
    let old = c.loop-taken.modes in
    let new = c.take_first_fb_of.new.self in
    let keys = c.requires.0 in
    let more = c.requires.1 in
    let one : IsTaken client_of key_of c.args.client key old.framebuffers new.framebuffers =
    rw c.in-Some.ensures.removed
    (first_taken framebuffer client_of key_of c.args.client c.in-Some.taken.0 key old.framebuffers c.loop-taken.invariant.are.framebuffers_rise c.in-Some.ensures.first)
    in
    has_reference c.loop-taken.objects key keys (more ++ framebuffer_keys new.framebuffers)
    (invariants_yet c.loop-taken.objects c.args.client key keys more old new one (c.loop-taken.invariant.left keys more c.requires.2).invariants)

pub loop-taken-smaller : goal.loop-taken-smaller
loop-taken-smaller c =
    rw c.in-Some.ensures.removed
    ((first_taken framebuffer client_of key_of c.args.client c.in-Some.taken.0 c.in-Some.taken.1 c.loop-taken.modes.framebuffers c.loop-taken.invariant.are.framebuffers_rise c.in-Some.ensures.first).shorter)

pub loop-taken-preserved : goal.loop-taken-preserved
loop-taken-preserved c =
    let old = c.loop-taken.modes in
    let new = c.take_first_fb_of.new.self in
    let key = c.in-Some.taken.1 in
    let first =
    first_taken framebuffer client_of key_of c.args.client c.in-Some.taken.0 key old.framebuffers
    c.loop-taken.invariant.are.framebuffers_rise c.in-Some.ensures.first in
    let one : IsTaken client_of key_of c.args.client key old.framebuffers new.framebuffers =
    rw c.in-Some.ensures.removed first in
    record {
      are = c.laws-in-Some.ensures;
      topology = ap (λ (set : ModeSet). set.topology) c.in-Some.ensures.removed ∙ c.loop-taken.invariant.topology;
      last = ap (λ (set : ModeSet). set.last) c.in-Some.ensures.removed ∙ c.loop-taken.invariant.last;
      others = one.others_stay ∙ c.loop-taken.invariant.others;
      shown = rw c.in-Some.ensures.removed (dark_further old c.in-Some.taken.0 _ c.loop-taken.invariant.shown);
      left = λ keys more h.
          let left = c.loop-taken.invariant.left keys more h in
          further c.args.objects.now.objects c.loop-taken.objects c.unrefer-dead.new.self keys
          (more ++ framebuffer_keys old.framebuffers) (more ++ framebuffer_keys new.framebuffers) key
          (one_goes c.args.client key more old new one) left
          (unreferred_step c.loop-taken.objects c.unrefer-dead.new.self key keys (more ++ framebuffer_keys new.framebuffers) c.unrefer-dead.result (invariants_yet c.loop-taken.objects c.args.client key keys more old new one left.invariants) c.unrefer-dead.ensures.dead c.unrefer-dead.ensures.gone c.unrefer-dead.ensures.stays);
      limit =
          unrefer_limit c.loop-taken.objects c.unrefer-dead.new.self key c.unrefer-dead.result
          c.unrefer-dead.ensures.gone c.unrefer-dead.ensures.stays
          ∙ c.loop-taken.invariant.limit;
    }

pub returns-clause-loses : goal.returns-clause-loses
returns-clause-loses c =
    let set = c.loop-taken.modes in
    subst (LosesFramebuffersOf c.args.client c.args.modes.now) (sym c.in_default.ensures.none) (record {
      topology = c.loop-taken.invariant.topology;
      last = c.loop-taken.invariant.last;
      framebuffers =
          sym
          (none_taken framebuffer client_of key_of c.args.client set.framebuffers (sym c.in_default.is ∙ c.take_first_fb_of.ensures.first))
          ∙ c.loop-taken.invariant.others;
      shown = c.loop-taken.invariant.shown;
    })

pub returns-clause-invariants : goal.returns-clause-invariants
returns-clause-invariants c =
    λ keys more h. subst
    (λ (set : ModeSet). AreCounted keys (more ++ framebuffer_keys set.framebuffers) c.loop-taken.objects.objects)
    (sym c.in_default.ensures.none) (c.loop-taken.invariant.left keys more h).invariants

pub returns-clause-those : goal.returns-clause-those
returns-clause-those c =
    λ keys more h. subst
    (λ (set : ModeSet). AreThoseNamed c.args.objects.now.objects (keys ++ (more ++ framebuffer_keys set.framebuffers)) c.loop-taken.objects.objects)
    (sym c.in_default.ensures.none) (c.loop-taken.invariant.left keys more h).named

pub returns-clause-limit : goal.returns-clause-limit
returns-clause-limit c = c.loop-taken.invariant.limit
