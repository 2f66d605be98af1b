-- No two rows have the same lease token, the same id below one owner, or the same number of a master's magics: each is
-- the one that the history describes.
use Rattle.std.proofs.Common.{◌≡◌, ℕ, ◌<◌, ◌==◌, true, false, ◌&&◌, List, [], ◌∷◌, Option, None, Some, refl, sym, ap, ◌∙◌, arith, eq-eqb}
use Rattle.std.specs.Prelude.{IfSome}
use Rattle.std.specs.List.{AllByRecursion}
use Rattle.std.specs.Option.{is_some}
use Rattle.std.proofs.lemmas.Bool.{eqb-true, and_parts, false_from_ne_true}
use Rattle.drm_index_array.specs.Orders.{InOrder}
use Rattle.drm_index_array.proofs.Lists.{all_both}
use Rattle.drm_model.specs.Rows.{MasterRow, MagicRow, is_option}
use Rattle.drm_model.specs.Masters.{owner_of}
use Rattle.drm_model.specs.Leases.{is_lessee_of}
use Rattle.drm_history.specs.History.{AnsweredEvent}
use Rattle.drm_history.specs.MasterState.{lease_in}
use Rattle.drm_history.specs.Lessees.{lessee_in, top_in}
use Rattle.drm_history.specs.Magics.{magic_in}
use Rattle.drm_history.specs.Authority.{HasOtherToken, HasOtherId, IsOtherMagic}
use Rattle.drm_history.proofs.Tokens.{TokenTold}
use Rattle.drm_history.proofs.LessorsAndIds.{IdTold}
use Rattle.drm_history.proofs.Few.{AreApart}

-- If all items have a property, a relation between them in order may be replaced by one that follows with the
-- property.
pub in_order_so : {X : Type 0} (P : X → Type 0) (R S : X → X → Type 0) → ((x y : X) → P x → P y → R x y → S x y)
    → (xs : List X) → AllByRecursion P xs → InOrder R xs → InOrder S xs
in_order_so P R S f [] p r = tt
in_order_so P R S f (x ∷ xs) p r =
    (all_both P (R x) (S x) (λ y py ry. f x y p.0 py ry) xs p.1 r.0, in_order_so P R S f xs p.1 r.1)

differ : (o : Option ℕ) (m n : ℕ) → o ≡ Some m → o ≡ Some n → m < n → ⊥
differ o m n e k less = let same : m ≡ n = (let s : Some m ≡ Some n = sym e ∙ k in cc) in omega (arith, same, less)

abbrev pub IsOlder : MasterRow → MasterRow → Type 0
IsOlder x y = x.master < y.master

module _ (past : List AnsweredEvent) where
  -- Two masters with the history's lease tokens have different ones.
  pub other_token : (x y : MasterRow) → TokenTold past x → TokenTold past y → IsOlder x y → HasOtherToken x y
  other_token x y h k less = by x.lease_token y.lease_token h k
    where
      by : (t u : Option ℕ) → IfSome t (λ t. lease_in past t ≡ Some x.master)
          → IfSome u (λ u. lease_in past u ≡ Some y.master) → IfSome t (λ t. is_option t u ≡ false)
      by None u h k = tt
      by (Some t) None h k = refl
      by (Some t) (Some u) h k =
          false_from_ne_true (u == t)
          (λ e. differ (lease_in past t) x.master y.master h (ap (lease_in past) (sym (eqb-true u t e)) ∙ k) less)

  abbrev pub IdOwned : List MasterRow → MasterRow → Type 0
  IdOwned masters row = IdTold past row × (owner_of masters row.master ≡ top_in past row.master)

  of_some : (o : Option ℕ) (P : Type 0) → is_some o ≡ true → IfSome o (λ _. P) → P
  of_some None P e h = absurd (let n : false ≡ true = e in cc)
  of_some (Some m) P e h = h

  -- Two lessees below one owner, with the history's ids, have different ones.
  pub other_id : (masters : List MasterRow) (x y : MasterRow) → IdOwned masters x → IdOwned masters y → IsOlder x y
      → HasOtherId masters x y
  other_id masters x y h k less = by x.lessor h.0
    where
      same : (lessee_in past (top_in past x.master) x.lessee_id ≡ Some x.master)
          → is_lessee_of masters (owner_of masters x.master) x.lessee_id y ≡ true → ⊥
      same told e =
          let parts =
          and_parts (is_some y.lessor && (y.lessee_id == x.lessee_id))
          (owner_of masters y.master == owner_of masters x.master) e in
          let ids = and_parts (is_some y.lessor) (y.lessee_id == x.lessee_id) parts.0 in
          let its = of_some y.lessor (lessee_in past (top_in past y.master) y.lessee_id ≡ Some y.master) ids.0 k.0 in
          let top : top_in past y.master ≡ top_in past x.master =
          sym k.1 ∙ eqb-true (owner_of masters y.master) (owner_of masters x.master) parts.1 ∙ h.1 in
          let id = eqb-true y.lessee_id x.lessee_id ids.1 in
          differ (lessee_in past (top_in past x.master) x.lessee_id) x.master y.master told
          ((λ i. lessee_in past (sym top i) (sym id i)) ∙ its) less

      by : (lessor : Option ℕ) → IfSome lessor (λ _. lessee_in past (top_in past x.master) x.lessee_id ≡ Some x.master)
          → IfSome lessor (λ _. is_lessee_of masters (owner_of masters x.master) x.lessee_id y ≡ false)
      by None told = tt
      by (Some m) told = false_from_ne_true (is_lessee_of masters (owner_of masters x.master) x.lessee_id y) (same told)

  -- Two magics of different clients, as the history has them, differ in master or number.
  pub other_magic : (x y : MagicRow) → magic_in past x.master x.number ≡ Some x.client
      → magic_in past y.master y.number ≡ Some y.client → AreApart x y → IsOtherMagic x y
  other_magic x y h k apart =
      false_from_ne_true ((x.master == y.master) && (x.number == y.number))
      (λ e.
      let parts = and_parts (x.master == y.master) (x.number == y.number) e in
      let same : x.client ≡ y.client =
      (let s : Some x.client ≡ Some y.client = sym h ∙ (λ i. magic_in past (eqb-true x.master y.master parts.0 i) (eqb-true x.number y.number parts.1 i)) ∙ k in cc)
      in
      let n : true ≡ false = sym (eq-eqb x.client y.client same) ∙ apart in
      cc)
