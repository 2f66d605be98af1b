use Rattle.std.proofs.Common.{◌≡◌, ℕ, false, [], ◌∷◌, ◌++◌, Option, None, Some, refl, sym, ap, subst, ◌∙◌}
use Rattle.std.specs.Prelude.{IfSome, unwrap_or}
use Rattle.std.specs.Option.{option_map, option_and_then, option_or}
use Rattle.drm_table.specs.declared.answers.Answer.TheVariants.{Number}
use Rattle.drm_table.specs.declared.calls.Call.TheVariants.{GetMagic}
use Rattle.drm_table.specs.declared.events.Event.TheVariants.{Ask}
use Rattle.drm_masters.specs.declared.rows.Magic.{Magic}
use Rattle.drm_masters.specs.declared.rows.Member.{Member}
use Rattle.drm_masters.specs.Masters.{MasterSet, AreMasters, member_of}
use Rattle.drm_masters.specs.Calls as calls
use Rattle.drm_masters.specs.Calls.{GaveMagic}
use Rattle.drm_model.specs.Rows.{Rows, MagicRow}
use Rattle.drm_model.specs.Magics as model
use Rattle.drm_model.specs.Change.{changed}
use Rattle.drm_model.specs.Calls.{meaning}
use Rattle.drm_model.specs.Reply.{answer_of}
use Rattle.drm_state.specs.declared.state.State.{State}
use Rattle.drm_state.specs.Parts.{magic_row_of}
use Rattle.drm_state.specs.Callers.{as_caller}
use Rattle.drm_state.specs.Invariants.{MeetsInvariants}
use Rattle.drm_state.specs.Refinement.{RefinesReply, Represents}
use Rattle.drm_state.proofs.Represented.{masters_so}
use Rattle.drm_state.proofs.MagicRows.{magic_is}
use Rattle.drm_state.proofs.Refinements.{carried_on, call_verdict}
use Rattle.drm_state.proofs.Callers.{caller_file, its_master, same_client}
use Rattle.drm_master_calls.proofs.Callers.{free_is}
use Rattle.drm_master_calls.proofs.Changed.{magic_invariants, given_represents}
use Rattle.drm_master_calls.proofs.magics.get_magic.Goals as goal

invariants_by : (s : State) (c n : ℕ) (x : Member) (new : MasterSet) (g : Option Magic)
    → member_of s.masters.members c ≡ Some x → MeetsInvariants s → AreMasters new → GaveMagic s.masters x g n new
    → MeetsInvariants (record s { masters = new })
invariants_by s c n x new (Some g) look t are h = subst (λ v. MeetsInvariants (record s { masters = v })) (sym h.1) t
invariants_by s c n x new None look t are h =
    subst (λ v. MeetsInvariants (record s { masters = v })) (sym h.1)
    (magic_invariants s x (calls.with_magic n false x) (same_client s.masters.members c x look).1 refl refl refl refl t (subst AreMasters h.1 are))

pub returns-clause-invariants : goal.returns-clause-invariants
returns-clause-invariants c =
    let s = c.args.state.now in
    let x = c.args.caller.member in
    let look = sym c.requires.caller.member in
    let gave =
    subst (λ o. IfSome o (λ y. GaveMagic s.masters y y.magic c.in-Ok.number c.magic.new.self)) look
    c.in-Ok.ensures.given in
    invariants_by s c.args.caller.client c.in-Ok.number x c.magic.new.self x.magic look c.requires.invariants
    c.laws.ensures gave

-- the rows and the answer, by the magic that the caller had
module _ (s : State) (w : Rows) (c n : ℕ) (x : Member) (new : MasterSet) (look : member_of s.masters.members c ≡ Some x) (t : MeetsInvariants s) (h : Represents s w) (own : model.caller_master w c ≡ x.master) where
  had : (g : Option Magic) → x.magic ≡ g → model.magic_of w c ≡ option_map (λ (d : Magic). d.number) g
  had g e =
      ap (option_map (λ (row : MagicRow). row.number)) (magic_is s w t h c ∙ ap (option_and_then magic_row_of) look)
      ∙ by_magic x.magic ∙ ap (option_map (λ (d : Magic). d.number)) e
    where
      by_magic : (o : Option Magic)
          → option_map (λ (row : MagicRow). row.number) (option_map (λ (d : Magic). record { master = x.master; number = d.number; client = x.client; spent = d.spent }) o) ≡ option_map (λ (d : Magic). d.number) o
      by_magic None = refl
      by_magic (Some d) = refl

  answer_by : (g : Option Magic) → x.magic ≡ g → GaveMagic s.masters x g n new
      → n ≡ unwrap_or (option_or (model.magic_of w c) (model.free_magic w (model.caller_master w c))) 0
  answer_by (Some g) e gave =
      gave.0 ∙ ap (λ o. unwrap_or (option_or o (model.free_magic w (model.caller_master w c))) 0) (sym (had (Some g) e))
  answer_by None e gave =
      ap (λ o. unwrap_or o 0) (sym gave.0 ∙ sym (free_is s w h x.master) ∙ ap (model.free_magic w) (sym own))
      ∙ ap (λ o. unwrap_or (option_or o (model.free_magic w (model.caller_master w c))) 0) (sym (had None e))

  rows_by : (g : Option Magic) → x.magic ≡ g → GaveMagic s.masters x g n new
      → Represents (record s { masters = new }) (record w { magics = model.with_magic w c (model.caller_master w c) (model.magic_of w c) })
  rows_by (Some g) e gave =
      subst
      (λ o. Represents (record s { masters = new }) (record w { magics = model.with_magic w c (model.caller_master w c) o }))
      (sym (had (Some g) e)) (subst (λ v. Represents (record s { masters = v }) w) (sym gave.1) h)
  rows_by None e gave =
      let is = same_client s.masters.members c x look in
      let number : n ≡ unwrap_or (model.free_magic w (model.caller_master w c)) 0 =
      ap (λ o. unwrap_or o 0) (sym gave.0 ∙ sym (free_is s w h x.master) ∙ ap (model.free_magic w) (sym own)) in
      let row = λ (m k d : ℕ). let r : MagicRow = record { master = m; number = k; client = d; spent = false } in r in
      subst
      (λ o. Represents (record s { masters = new }) (record w { magics = model.with_magic w c (model.caller_master w c) o }))
      (sym (had None e))
      (subst (λ v. Represents (record s { masters = v }) (record w { magics = w.magics ++ row (model.caller_master w c) (unwrap_or (model.free_magic w (model.caller_master w c)) 0) c ∷ [] })) (sym gave.1)
      (subst (λ r. Represents (record s { masters = calls.changed_member (calls.with_magic n false x) s.masters }) (record w { magics = w.magics ++ r ∷ [] })) (λ i. row (sym own i) (number i) (is.0 i))
      (given_represents s w x (calls.with_magic n false x) (row x.master n x.client) is.1 refl refl refl refl (ap (option_map (λ (d : Magic). let r : MagicRow = record { master = x.master; number = d.number; client = x.client; spent = d.spent } in r)) e) refl (masters_so s t) h)))

pub returns-clause-refines : goal.returns-clause-refines
unfolding RefinesReply meaning changed answer_of
returns-clause-refines c = rw c.set_number.ensures.number (λ w h admitted.
    let s = c.args.state.now in
    let x = c.args.caller.member in
    let look = sym c.requires.caller.member in
    let file = caller_file s (as_caller c.args.caller) c.requires.caller in
    let own = ap (λ o. unwrap_or o 0) (its_master s w c.args.caller.client c.args.caller.flags x h file look) in
    let gave =
    subst (λ o. IfSome o (λ y. GaveMagic s.masters y y.magic c.in-Ok.number c.magic.new.self)) look
    c.in-Ok.ensures.given in
    carried_on (record s { masters = c.magic.new.self }) w (Ask c.args.caller.client GetMagic) (Number c.in-Ok.number)
    (returns-clause-invariants c) (call_verdict w c.args.caller.client GetMagic admitted)
    (ap Number (answer_by s w c.args.caller.client c.in-Ok.number x c.magic.new.self look c.requires.invariants h own x.magic refl gave))
    (rows_by s w c.args.caller.client c.in-Ok.number x c.magic.new.self look c.requires.invariants h own x.magic refl gave))
