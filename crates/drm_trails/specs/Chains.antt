-- The chains of links that code finds (own).
use Rattle.std.specs.Prelude.{◌≡◌, ℕ, ◌<◌, List, [], ◌∷◌, ◌++◌, map}
use Rattle.drm_model.specs.Run.{DeviceValue}
use Rattle.drm_history.specs.History.{AnsweredEvent, next_number}
use Rattle.drm_history.specs.History as told
use Rattle.drm_history.specs.Steps.{Creation, Transfer}
use Rattle.drm_history.specs.Holds.{Has, WasGiven, WasPublished}
use Rattle.drm_history.specs.Chains as chains
use Rattle.drm_history.specs.Chains.{IsChain}
use Rattle.drm_trails.specs.Steps.{key_of}
use Rattle.drm_trails.specs.declared.steps.Key.{Key}
use Rattle.drm_trails.specs.declared.chains.Link.{Link}
use Rattle.drm_trails.specs.declared.chains.Origin.TheVariants.{Made, Published}

-- the link of the definitions
abbrev pub link_of : Link → chains.Link
link_of link = record { step = link.step; client = link.client; handle = link.handle }

-- the links of the definitions
abbrev pub links_of : List Link → List chains.Link
links_of links = map link_of links

-- the links are a chain that leads to the client's handle
abbrev pub LeadsTo : List AnsweredEvent → ℕ → ℕ → ℕ → List chains.Link → Type 0
LeadsTo history c h o [] = ⊥
LeadsTo history c h o (link ∷ links) = (link.client ≡ c) × (link.handle ≡ h) × IsChain history o (link ∷ links)

-- The links are a chain, and each has the source of its object. The source of the last link is that its step created
-- the object. The source of any other is the key under which the object was published, and the number of that step.
unfoldable pub IsExplained : List AnsweredEvent → ℕ → List Link → Type 0
IsExplained history o [] = ⊥
IsExplained history o (link ∷ []) =
    (past : List AnsweredEvent) × WasGiven history link.client link.handle Creation past ×
    (link.step ≡ next_number past) × (link.step ≡ o) × (link.origin ≡ Made)
IsExplained history o (link ∷ before ∷ links) =
    (past older : List AnsweredEvent) × (key : Key) × WasGiven history link.client link.handle (Transfer (key_of key))
    past × (link.step ≡ next_number past)
    × WasPublished past (key_of key) before.client before.handle older × (before.step < link.step) ×
    (link.origin ≡ Published key (next_number older)) × IsExplained older o (before ∷ links)

-- the links lead to the client's handle, and are explained
abbrev pub Explains : List AnsweredEvent → ℕ → ℕ → ℕ → List Link → Type 0
Explains history c h o [] = ⊥
Explains history c h o (link ∷ links) = (link.client ≡ c) × (link.handle ≡ h) × IsExplained history o (link ∷ links)

-- a chain up to an earlier moment that leads to the handle `k` of `d` is the rest of one that leads to the client's
-- handle, after these links
abbrev pub EndsChain : List AnsweredEvent → List AnsweredEvent → ℕ → ℕ → ℕ → ℕ → List Link → Type 0
EndsChain history earlier c h d k links =
    (o : ℕ) (link : Link) (rest : List Link) → link.client ≡ d → link.handle ≡ k → IsExplained earlier o (link ∷ rest)
    → Explains history c h o (links ++ link ∷ rest)

-- the history is that of a device
abbrev pub IsOfDevice : List AnsweredEvent → Type 0
IsOfDevice history = (h : DeviceValue) × (history ≡ told.history_of h)

-- the client has no handle `h`
abbrev pub HasNone : List AnsweredEvent → ℕ → ℕ → Type 0
HasNone history c h = (o : ℕ) → Has history c h o → ⊥
