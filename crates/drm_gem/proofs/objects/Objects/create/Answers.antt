use Rattle.std.proofs.Common.{◌≡◌, List, is_some, refl, ap, sym, ◌∙◌, arith}
use Rattle.std.proofs.lemmas.Bool.{false≢true}
use Rattle.drm_keys.proofs.KeyLemmas.{many, vacant, created, created_keyed, by_key, grown, more_room}
use Rattle.drm_gem.specs.declared.object.Object.{Object}
use Rattle.drm_gem.specs.declared.objects.CreateFault.TheVariants as fault
use Rattle.drm_gem.specs.Fields.{nothing, key_of, step_number_of}
use Rattle.drm_gem.specs.Objects.{new_object}
use Rattle.drm_gem.proofs.objects.Objects.create.Goals as goal

pub returns-then-len-self-clause-full : goal.returns-then-len-self-clause-full
returns-then-len-self-clause-full c =
    let counted = many key_of step_number_of nothing c.self.inside.keys.items c.self.inside.kept c.self.invariant in
    rw (← c.self.view_is) ((λ full. omega (arith, counted, c.if-len-self.true, c.len.ensures.len)), λ le. refl)

pub returns-then-number-clause-full : goal.returns-then-number-clause-full
returns-then-number-clause-full c =
    let counted = many key_of step_number_of nothing c.self.inside.keys.items c.self.inside.kept c.self.invariant in
    rw (← c.self.view_is)
    ((λ e. absurd (let same : fault.NoMemory ≡ fault.Full = e in cc)), λ le. absurd (omega (arith, counted, c.if-len-self.false, c.len.ensures.len, le)))

pub returns-in-Err-clause-full : goal.returns-in-Err-clause-full
returns-in-Err-clause-full c =
    let counted = many key_of step_number_of nothing c.self.inside.keys.items c.self.inside.kept c.self.invariant in
    rw (← c.self.view_is)
    ((λ e. absurd (let same : fault.NoMemory ≡ fault.Full = e in cc)), λ le. absurd (omega (arith, counted, c.if-len-self.false, c.len.ensures.len, le)))

pub returns-in-Err-NoMemory-clause-full : goal.returns-in-Err-NoMemory-clause-full
returns-in-Err-NoMemory-clause-full c =
    let counted = many key_of step_number_of nothing c.self.inside.keys.items c.self.inside.kept c.self.invariant in
    rw (← c.self.view_is)
    ((λ e. absurd (let same : fault.NoMemory ≡ fault.Full = e in cc)), λ le. absurd (omega (arith, counted, c.if-len-self.false, c.len.ensures.len, le)))

pub unreachable-requires : goal.unreachable-requires
unreachable-requires c =
    let unused = rw (← c.self.view_is) at c.requires.unused in
    let taken = rw c.in-Err-Taken.field-0-is at c.in-Err-Taken.ensures.taken in
    false≢true
    (sym (ap is_some (vacant key_of step_number_of nothing c.self.inside.keys.items c.self.inside.kept c.self.invariant c.args.birth unused)) ∙ taken.0 tt)

pub invariant_of-self : goal.invariant_of-self
invariant_of-self c =
    more_room key_of step_number_of nothing c.self.inside.keys.items c.self.inside.kept c.self.invariant
    c.reserve.new.self c.reserve.new.self.capacity c.in-Err.ensures.rest_kept

pub invariant_of-self-in-Err-NoMemory : goal.invariant_of-self-in-Err-NoMemory
invariant_of-self-in-Err-NoMemory c =
    rw c.in-Err-NoMemory.ensures.err
    (more_room key_of step_number_of nothing c.self.inside.keys.items c.self.inside.kept c.self.invariant c.reserve.new.self c.reserve.new.self.capacity c.in_default.ensures.rest_kept)

pub invariant_of-self-2 : goal.invariant_of-self-2
invariant_of-self-2 c =
    let unused = rw (← c.self.view_is) at c.requires.unused in
    let object : Object = new_object c.from_number-key.result c.args.birth c.args.size in
    let number : c.insert_reserved-number.result ≡ c.vacant_key-number.result =
    c.insert_reserved-number.ensures.key ∙ ap (λ s. s.vacant_key) c.in_default.ensures.rest_kept
    ∙ sym c.vacant_key-number.ensures.value in
    rw c.in-Ok.ensures.ok
    (created_keyed key_of step_number_of nothing c.self.inside.keys.items c.self.inside.kept c.self.invariant c.args.birth c.vacant_key-number.result object c.insert_reserved-number.new.self refl c.from_number-key.ensures c.vacant_key-number.ensures.vacant
    (grown key_of step_number_of nothing c.self.inside.kept c.reserve.new.self c.insert_reserved-number.new.self c.reserve.new.self.capacity c.vacant_key-number.result c.insert_reserved-number.result object c.in_default.ensures.rest_kept number c.insert_reserved-number.ensures.updates)
    unused)

pub returns-clause-room : goal.returns-clause-room
returns-clause-room c =
    let counted = many key_of step_number_of nothing c.self.inside.keys.items c.self.inside.kept c.self.invariant in
    rw (← c.self.view_is) (omega (arith, counted, c.if-len-self.false, c.len.ensures.len))

pub returns-clause-fresh : goal.returns-clause-fresh
returns-clause-fresh c =
    rw (← c.self.view_is, c.from_number-key.ensures)
    (by_key key_of step_number_of nothing c.self.inside.keys.items c.self.inside.kept c.self.invariant c.vacant_key-number.result ∙ c.vacant_key-number.ensures.vacant)

pub returns-clause-ok : goal.returns-clause-ok
returns-clause-ok c =
    let unused = rw (← c.self.view_is) at c.requires.unused in
    let object : Object = new_object c.from_number-key.result c.args.birth c.args.size in
    let number : c.insert_reserved-number.result ≡ c.vacant_key-number.result =
    c.insert_reserved-number.ensures.key ∙ ap (λ s. s.vacant_key) c.in_default.ensures.rest_kept
    ∙ sym c.vacant_key-number.ensures.value in
    rw (← c.self.view_is, c.in-Ok.ensures.ok)
    (ap (λ (os : List Object). record { limit = c.self.inside.limit; objects = os })
    (created key_of step_number_of nothing c.self.inside.keys.items c.self.inside.kept c.self.invariant c.args.birth c.vacant_key-number.result object c.insert_reserved-number.new.self refl c.from_number-key.ensures c.vacant_key-number.ensures.vacant
    (grown key_of step_number_of nothing c.self.inside.kept c.reserve.new.self c.insert_reserved-number.new.self c.reserve.new.self.capacity c.vacant_key-number.result c.insert_reserved-number.result object c.in_default.ensures.rest_kept number c.insert_reserved-number.ensures.updates)
    unused))
