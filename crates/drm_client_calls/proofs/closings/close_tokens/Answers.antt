use Rattle.std.proofs.Common.{ℕ, List, ◌∷◌, ◌++◌, refl, sym, ap, ◌∙◌, subst}
use Rattle.drm_index_array.specs.Orders.{SameRows}
use Rattle.drm_index_array.proofs.Orders.{same-refl}
use Rattle.drm_gem.specs.Objects.{ObjectSet}
use Rattle.drm_share.specs.declared.rows.SharedToken.{SharedToken}
use Rattle.drm_share.specs.Tokens.{TokenList}
use Rattle.drm_state.specs.Parts.{token_keys, without_tokens_of}
use Rattle.drm_state.specs.Invariants.{AreCounted, AreThoseNamed}
use Rattle.drm_state.proofs.Counting.{all_named, same_references}
use Rattle.drm_state.proofs.Contents.{has_reference, unreferred_step, unrefer_limit}
use Rattle.drm_state.proofs.Naming.{same-append}
use Rattle.drm_state.proofs.LeastRow.{IsTaken, first_taken, none_taken}
use Rattle.drm_client_calls.proofs.Fewer.{further}
use Rattle.drm_client_calls.proofs.closings.close_tokens.Goals as goal

abbrev token : SharedToken → ℕ
token x = x.token

abbrev client_of : SharedToken → ℕ
client_of x = x.client

abbrev key_of : SharedToken → ℕ
key_of x = x.object

pub loop-taken-init : goal.loop-taken-init
loop-taken-init c =
    record
    { others = refl; left = λ keys more h. record { invariants = h; named = all_named keys _ c.args.objects.now.objects h }; limit = refl }

-- the references, of which one goes
one_goes : (client key : ℕ) (more : List ℕ) (list new : TokenList)
    → IsTaken client_of key_of client key list.tokens new.tokens
    → SameRows (token_keys list.tokens ++ more) (key ∷ (token_keys new.tokens ++ more))
one_goes client key more list new one =
    same-append (token_keys list.tokens) (key ∷ token_keys new.tokens) more more one.keys (same-refl more)

invariants_yet : (set : ObjectSet) (client key : ℕ) (keys more : List ℕ) (list new : TokenList)
    → IsTaken client_of key_of client key list.tokens new.tokens
    → AreCounted keys (token_keys list.tokens ++ more) set.objects
    → AreCounted keys (key ∷ (token_keys new.tokens ++ more)) set.objects
invariants_yet set client key keys more list new one h =
    same_references keys (token_keys list.tokens ++ more) (key ∷ (token_keys new.tokens ++ more)) set.objects
    (one_goes client key more list new one) h

pub unrefer-dead-requires : goal.unrefer-dead-requires
unrefer-dead-requires c =
    let key = c.in-Some.taken.1 in
    let new = c.take_first_of.new.self in
    let keys = c.requires.0 in
    let more = c.requires.1 in
    let one : IsTaken client_of key_of c.args.client key c.loop-taken.tokens.tokens new.tokens =
    rw c.in-Some.ensures.closed
    (first_taken token client_of key_of c.args.client c.in-Some.taken.0 key c.loop-taken.tokens.tokens c.in-Some.ensures.tokens.tokens_rise c.in-Some.ensures.first)
    in
    has_reference c.loop-taken.objects key keys (token_keys new.tokens ++ more)
    (invariants_yet c.loop-taken.objects c.args.client key keys more c.loop-taken.tokens new one (c.loop-taken.invariant.left keys more c.requires.2).invariants)

pub loop-taken-smaller : goal.loop-taken-smaller
loop-taken-smaller c =
    rw c.in-Some.ensures.closed
    ((first_taken token client_of key_of c.args.client c.in-Some.taken.0 c.in-Some.taken.1 c.loop-taken.tokens.tokens c.in-Some.ensures.tokens.tokens_rise c.in-Some.ensures.first).shorter)

pub loop-taken-preserved : goal.loop-taken-preserved
loop-taken-preserved c =
    let list = c.loop-taken.tokens in
    let new = c.take_first_of.new.self in
    let key = c.in-Some.taken.1 in
    let first =
    first_taken token client_of key_of c.args.client c.in-Some.taken.0 key list.tokens
    c.in-Some.ensures.tokens.tokens_rise c.in-Some.ensures.first in
    let one : IsTaken client_of key_of c.args.client key list.tokens new.tokens = rw c.in-Some.ensures.closed first in
    record {
      others =
          ap (without_tokens_of c.args.client) c.in-Some.ensures.closed
          ∙ ap (λ l. record list { tokens = l }) first.others_stay ∙ c.loop-taken.invariant.others;
      left = λ keys more h.
          let left = c.loop-taken.invariant.left keys more h in
          further c.args.objects.now.objects c.loop-taken.objects c.unrefer-dead.new.self keys
          (token_keys list.tokens ++ more) (token_keys new.tokens ++ more) key
          (one_goes c.args.client key more list new one) left
          (unreferred_step c.loop-taken.objects c.unrefer-dead.new.self key keys (token_keys new.tokens ++ more) c.unrefer-dead.result (invariants_yet c.loop-taken.objects c.args.client key keys more list new one left.invariants) c.unrefer-dead.ensures.dead c.unrefer-dead.ensures.gone c.unrefer-dead.ensures.stays);
      limit =
          unrefer_limit c.loop-taken.objects c.unrefer-dead.new.self key c.unrefer-dead.result
          c.unrefer-dead.ensures.gone c.unrefer-dead.ensures.stays
          ∙ c.loop-taken.invariant.limit;
    }

pub returns-clause-tokens : goal.returns-clause-tokens
returns-clause-tokens c =
    let list = c.loop-taken.tokens in
    c.in_default.ensures.none
    ∙ ap (λ l. record list { tokens = l })
    (sym (none_taken token client_of key_of c.args.client list.tokens (sym c.in_default.is ∙ c.take_first_of.ensures.first)))
    ∙ c.loop-taken.invariant.others

pub returns-clause-invariants : goal.returns-clause-invariants
returns-clause-invariants c =
    λ keys more h. subst
    (λ (list : TokenList). AreCounted keys (token_keys list.tokens ++ more) c.loop-taken.objects.objects)
    (sym c.in_default.ensures.none) (c.loop-taken.invariant.left keys more h).invariants

pub returns-clause-those : goal.returns-clause-those
returns-clause-those c =
    λ keys more h. subst
    (λ (list : TokenList). AreThoseNamed c.args.objects.now.objects (keys ++ (token_keys list.tokens ++ more)) c.loop-taken.objects.objects)
    (sym c.in_default.ensures.none) (c.loop-taken.invariant.left keys more h).named

pub returns-clause-limit : goal.returns-clause-limit
returns-clause-limit c = c.loop-taken.invariant.limit
