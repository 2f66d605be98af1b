-- The words for the classes of listeners (own).
use Rattle.std.specs.Prelude.{ℕ, List, codes}
use Rattle.drm_sessions.specs.declared.class.Class.{Class}
use Rattle.drm_sessions.specs.declared.class.Class.TheVariants.{Card, Render, Root}

abbrev pub class_word : Class → List ℕ
class_word Card = codes "card"
class_word Render = codes "render"
class_word Root = codes "root"
