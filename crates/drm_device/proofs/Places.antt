-- What is written to the place of an outcome.
use Rattle.std.proofs.Common.{◌≡◌, refl, Result, Ok, Err}
use Rattle.std.specs.Prelude.{IsOk, IfOk}
use Rattle.std.proofs.lemmas.Bool.{false≢true}

-- An answer that is no error has its value, and this value has the property.
pub opened : {A E : Type 0} {P : A → Type 0} (r : Result A E) → IsOk r → IfOk r P → (a : A) × (r ≡ Ok a) × P a
opened (Ok a) h p = (a, refl, p)
opened (Err e) h p = absurd (false≢true h)
