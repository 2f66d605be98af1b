-- Each rule and each fault is found by its number and errno.
use Rattle.std.proofs.Common.{◌≡◌, ℕ, Option, Some, None, refl, ap, sym, ◌∙◌}
use Rattle.std.specs.Prelude.{nat_eq}
use Rattle.std.specs.Option.{option_and_then}
use Rattle.std.proofs.lemmas.Bool.{eq-eqb, eqb-true}
use Rattle.drm_table.specs.declared.rules.Rule.{Rule}
use Rattle.drm_table.specs.declared.apart.Apart.{Apart}
use Rattle.drm_table.specs.Rules.{rule_number, rule_errno, rule_of_number, apart_number, apart_errno, apart_of_number}
use Rattle.drm_table.proofs.RefusalRows as table
use Rattle.drm_frames.specs.Answers.{if_errno, rule_of, apart_of}
use Rattle.drm_frames.proofs.Sizes.{cond-some, some-is}

own-errno : {A : Type 0} (errno_of : A → ℕ) (one : A) → if_errno errno_of (errno_of one) one ≡ Some one
own-errno errno_of one = rw (eq-eqb (errno_of one) (errno_of one) refl) refl

-- what was found by its number, and has the errno
found-with : {A : Type 0} (errno_of : A → ℕ) (errno : ℕ) (one : A) (found : Option A)
    → option_and_then (if_errno errno_of errno) found ≡ Some one → (found ≡ Some one) × (errno_of one ≡ errno)
found-with errno_of errno one None e = absurd cc
found-with errno_of errno one (Some other) e =
    let t = cond-some (nat_eq (errno_of other) errno) (Some other) one e in
    (t.1, ap errno_of (sym (some-is other one t.1)) ∙ eqb-true (errno_of other) errno t.0)

-- Each rule is found by its number and errno.
pub rule-found : (rule : Rule) → rule_of (rule_number rule) (rule_errno rule) ≡ Some rule
unfolding rule_of
rule-found rule =
    ap (option_and_then (if_errno rule_errno (rule_errno rule))) (table.rule-found rule) ∙ own-errno rule_errno rule

-- Each fault is found by its number and errno.
pub apart-found : (apart : Apart) → apart_of (apart_number apart) (apart_errno apart) ≡ Some apart
unfolding apart_of
apart-found apart =
    ap (option_and_then (if_errno apart_errno (apart_errno apart))) (table.apart-found apart)
    ∙ own-errno apart_errno apart

-- A number and an errno find only the rule that has both.
pub rule-of-its-own : (number errno : ℕ) (rule : Rule) → rule_of number errno ≡ Some rule
    → (rule_number rule ≡ number) × (rule_errno rule ≡ errno)
unfolding rule_of
rule-of-its-own number errno rule e =
    let t = found-with rule_errno errno rule (rule_of_number number) e in
    (table.rule-of-its-own number rule t.0, t.1)

-- A number and an errno find only the fault that has both.
pub apart-of-its-own : (number errno : ℕ) (apart : Apart) → apart_of number errno ≡ Some apart
    → (apart_number apart ≡ number) × (apart_errno apart ≡ errno)
unfolding apart_of
apart-of-its-own number errno apart e =
    let t = found-with apart_errno errno apart (apart_of_number number) e in
    (table.apart-of-its-own number apart t.0, t.1)
