-- Each rule and each fault is found by its number, and by no other.
use Rattle.std.proofs.Common.{◌≡◌, ℕ, ◌^◌, ◌<◌, Some, refl, lit<}
use Rattle.std.specs.Prelude.{◌==◌}
use Rattle.std.proofs.lemmas.Bool.{eqb-true}
use Rattle.drm_table.specs.declared.rules.Rule.{Rule}
use Rattle.drm_table.specs.declared.rules.Rule.TheVariants as rules
use Rattle.drm_table.specs.declared.apart.Apart.{Apart}
use Rattle.drm_table.specs.declared.apart.Apart.TheVariants as aparts
use Rattle.drm_table.specs.Rules.{rule_number, rule_errno, rule_of_number, all_rules, apart_number, apart_errno, apart_of_number, all_aparts}
use Rattle.drm_table.proofs.FoundPasses.{found-passes}

-- The number and the errno of each rule fit 32 bits.
pub rule-small : (rule : Rule) → (rule_number rule < 2 ^ 32) × (rule_errno rule < 2 ^ 32)
rule-small rules.Unknown = (lit< tt, lit< tt)
rule-small _ = (lit< tt, lit< tt)

-- Each rule is found by its number.
pub rule-found : (rule : Rule) → rule_of_number (rule_number rule) ≡ Some rule
unfolding rule_of_number
rule-found rules.Unknown = refl
rule-found _ = refl

-- A number finds only the rule that has it.
pub rule-of-its-own : (number : ℕ) (rule : Rule) → rule_of_number number ≡ Some rule → rule_number rule ≡ number
unfolding rule_of_number
rule-of-its-own number rule e =
    eqb-true (rule_number rule) number (found-passes (λ (r : Rule). rule_number r == number) all_rules rule e)

-- The number and the errno of each fault fit 32 bits.
pub apart-small : (apart : Apart) → (apart_number apart < 2 ^ 32) × (apart_errno apart < 2 ^ 32)
apart-small aparts.JournalFull = (lit< tt, lit< tt)
apart-small _ = (lit< tt, lit< tt)

-- Each fault is found by its number.
pub apart-found : (apart : Apart) → apart_of_number (apart_number apart) ≡ Some apart
unfolding apart_of_number
apart-found aparts.JournalFull = refl
apart-found _ = refl

-- A number finds only the fault that has it.
pub apart-of-its-own : (number : ℕ) (apart : Apart) → apart_of_number number ≡ Some apart → apart_number apart ≡ number
unfolding apart_of_number
apart-of-its-own number apart e =
    eqb-true (apart_number apart) number (found-passes (λ (a : Apart). apart_number a == number) all_aparts apart e)
