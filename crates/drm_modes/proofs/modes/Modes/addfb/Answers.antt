use Rattle.std.proofs.Common.{◌≡◌, ap, sym, ◌∙◌}
use Rattle.std.proofs.lemmas.Option.{none-some}
use Rattle.drm_id_alloc.specs.Table.{without_entry}
use Rattle.drm_id_alloc.proofs.TableLemmas.{taken_back}
use Rattle.drm_modes.specs.declared.rows.Fb.{Fb}
use Rattle.drm_modes.specs.Modes.{ModeSet, framebuffer, with_framebuffer}
use Rattle.drm_modes.specs.Tables.{mode_set}
use Rattle.drm_modes.proofs.ModeFacts.{free_is, added, has-added}
use Rattle.drm_modes.proofs.modes.Modes.addfb.Goals as goal

pub returns-in-Err-Full-clause-full : goal.returns-in-Err-Full-clause-full
returns-in-Err-Full-clause-full c =
    let inside = c.self.inside in
    let free = free_is inside.topology inside.framebuffers inside.scanouts.items c.self.invariant.first_is in
    let full = rw c.in-Err-Full.field-0-is at c.in-Err-Full.ensures.full in
    rw (← c.self.view_is) ((λ _. free ∙ full.0 tt), λ _. tt)

pub returns-in-Err-NoMemory-clause-full : goal.returns-in-Err-NoMemory-clause-full
returns-in-Err-NoMemory-clause-full c =
    let inside = c.self.inside in
    let free = free_is inside.topology inside.framebuffers inside.scanouts.items c.self.invariant.first_is in
    let full = rw c.in-Err-NoMemory.field-0-is at c.in-Err-NoMemory.ensures.full in
    rw (← c.self.view_is) ((λ none. absurd none), λ none. full.1 (sym free ∙ none))

-- the framebuffer is taken back
pub invariant_of-self-in-Err : goal.invariant_of-self-in-Err
invariant_of-self-in-Err c =
    let inside = c.self.inside in
    let made : Fb = record { client = c.args.client; shape = c.args.shape; object = c.args.object } in
    let back : c.remove-returned.new.self ≡ inside.framebuffers =
    c.remove-returned.ensures.after ∙ ap (λ t. without_entry t c.in-Ok.framebuffer) c.in-Ok.ensures.ok ∙ taken_back inside.framebuffers c.in-Ok.framebuffer made c.in-Ok.ensures.fresh in
    rw (back, c.in-Err.ensures.err) c.self.invariant

pub returns-in-Err-clause-err : goal.returns-in-Err-clause-err
returns-in-Err-clause-err c =
    let inside = c.self.inside in
    let made : Fb = record { client = c.args.client; shape = c.args.shape; object = c.args.object } in
    let back : c.remove-returned.new.self ≡ inside.framebuffers =
    c.remove-returned.ensures.after ∙ ap (λ t. without_entry t c.in-Ok.framebuffer) c.in-Ok.ensures.ok ∙ taken_back inside.framebuffers c.in-Ok.framebuffer made c.in-Ok.ensures.fresh in
    ap (λ table. mode_set inside.topology table inside.scanouts.items) back ∙ c.self.view_is

pub returns-in-Err-clause-full : goal.returns-in-Err-clause-full
returns-in-Err-clause-full c =
    let inside = c.self.inside in
    let free = free_is inside.topology inside.framebuffers inside.scanouts.items c.self.invariant.first_is in
    rw (← c.self.view_is)
    ((λ none. absurd none), λ none. none-some c.in-Ok.framebuffer (sym none ∙ free ∙ c.in-Ok.ensures.given))

pub invariant_of-self-in_default : goal.invariant_of-self-in_default
invariant_of-self-in_default c =
    let inside = c.self.inside in
    let made : Fb = record { client = c.args.client; shape = c.args.shape; object = c.args.object } in
    rw c.in-Ok.ensures.ok
    (has-added inside.topology inside.framebuffers inside.scanouts.items c.self.invariant c.note.new.self c.in-Ok.framebuffer made c.in-Ok.ensures.fresh c.in-Ok.ensures.low c.in-Ok.ensures.high c.in_default.ensures.ok)

pub returns-clause-given : goal.returns-clause-given
returns-clause-given c =
    let inside = c.self.inside in
    rw (← c.self.view_is)
    (free_is inside.topology inside.framebuffers inside.scanouts.items c.self.invariant.first_is ∙ c.in-Ok.ensures.given)

pub returns-clause-ok : goal.returns-clause-ok
returns-clause-ok c =
    let inside = c.self.inside in
    let made : Fb = record { client = c.args.client; shape = c.args.shape; object = c.args.object } in
    ap (λ table. mode_set inside.topology table inside.scanouts.items) c.in-Ok.ensures.ok
    ∙ added inside.topology inside.framebuffers inside.scanouts.items c.in-Ok.framebuffer made c.in-Ok.ensures.fresh
    ∙ ap
    (λ (set : ModeSet). with_framebuffer set (framebuffer c.in-Ok.framebuffer c.args.client c.args.shape c.args.object))
    c.self.view_is
