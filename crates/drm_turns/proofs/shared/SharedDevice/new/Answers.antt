use Rattle.std.proofs.Common.{◌≡◌, List, [], ◌∷◌, ◌++◌, length, Some, sym, ◌∙◌, arith, ap, subst}
use Rattle.atomic_table.specs.Table.{opening}
use Rattle.drm_model.specs.Run.{DeviceValue}
use Rattle.drm_turns.specs.History.{AllDiffer, Has, IsLegal, calls_by}
use Rattle.drm_turns.specs.Rule.{Orderly, Sat, Slot, words_of}
use Rattle.drm_turns.specs.Views.{opening_view}
use Rattle.drm_turns.proofs.Ends.{opens, opening_own}
use Rattle.drm_turns.proofs.shared.SharedDevice.new.Goals as goal

pub new-requires-2 : goal.new-requires-2
new-requires-2 c =
    let slots : c.push_reserved.new.self.items ≡ Some c.args.device ∷ [] =
    c.push_reserved.ensures.items ∙ (λ i. c.in-Ok.ensures.items i ++ Some (c.in-Ok-new.ensures.ok i) ∷ []) in
    subst
    (λ (z : List Slot × DeviceValue). Orderly (opening (words_of (length c.journal.result.now) 0 0) z.0 (opening_view z.1)))
    (λ i. (sym slots i, sym c.of-about.ensures i))
    (opens c.args.device (length c.journal.result.now) (ap length c.journal.ensures.events) c.journal.ensures.found_room)

pub invariant_of-result-in-Ok-new-2 : goal.invariant_of-result-in-Ok-new-2
invariant_of-result-in-Ok-new-2 c =
    let e : c.in-Ok-new-2.place.me ≡ (opening_view c.args.device, []) =
    c.in-Ok-new-2.ensures.ok.4 ∙ ap (λ (d : DeviceValue). (opening_view d, [])) c.of-about.ensures in
    let own = opening_own c.args.device c.journal.ensures.found_room in record {
      empty = ap (λ (m : Sat). m.1) e;
      idle = ap (λ (m : Sat). m.0.stage) e;
      untold = ap (λ (m : Sat). m.0.told) e;
      numbered = λ z. let h : 1 ≡ c.in-Ok-new-2.place.me.0.number = sym (ap (λ (m : Sat). m.0.number) e) in absurd (omega arith);
      legal = subst (λ (m : Sat). IsLegal m.0.origin m.0.seen) (sym e) own.0;
      apart =
          ((λ has. subst (λ (m : Sat). Has m.0.number m.0.kept → ⊥) (sym e) (λ h. h) has), subst (λ (m : Sat). AllDiffer m.0.kept) (sym e) tt);
      own = subst (λ (m : Sat). calls_by m.0.number m.0.seen ≡ m.0.mine) (sym e) own.1;
    }
