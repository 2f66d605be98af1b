-- What the last gift of a handle and the last publishing under a key say of a history: what is told of it, and chains.
use Rattle.std.proofs.Common.{◌≡◌, ℕ, Bool, true, false, cond, List, [], ◌∷◌, ◌++◌, Option, None, Some, IfNone, IfOk, IfSome, Result, Ok, Err, is_none, refl, sym, ◌∙◌, ap, subst, arith}
use Rattle.std.proofs.lemmas.List.{append_assoc}
use Rattle.std.proofs.lemmas.Bool.{false≢true}
use Rattle.drm_history.specs.History.{AnsweredEvent, next_number}
use Rattle.drm_history.specs.Steps.{Key, is_key, Source, Creation, Transfer, Giving, Publishing, given, takes, published}
use Rattle.drm_history.specs.Holds.{WasGiven, WasPublished}
use Rattle.drm_history.specs.Chains.{IsChain}
use Rattle.drm_history.proofs.RunsAgree.{agrees}
use Rattle.drm_history.proofs.HistoryFunctions.{Kept, has_is_told, told, Held, Published, gift, gift_in, holder_under, holder_in, Holder, from_source, from_holder, none_some, given_now, given_before, published_now, published_before}
use Rattle.drm_history.proofs.Chained.{link_within, published_within}
use Rattle.drm_trails.specs.Steps.{key_of}
use Rattle.drm_trails.specs.Chains.{EndsChain, Explains, HasNone, IsExplained, IsOfDevice, LeadsTo, link_of, links_of}
use Rattle.drm_trails.specs.declared.chains.ChainEnd.{ChainEnd}
use Rattle.drm_trails.specs.declared.chains.Link.{Link}
use Rattle.drm_trails.specs.declared.chains.Origin.TheVariants.{Made, Published}
use Rattle.drm_trails.specs.declared.steps.Key.{Key as HandleKey}
use Rattle.drm_trails.specs.Searches.{Gift, gift_or, last_gift, source_for, Sharing, sharing_or, last_sharing}
use Rattle.std.proofs.lemmas.Option.{same_Some}

-- ---- what is told

source_for-gift : (c h : ℕ) (g : Option Giving) → source_for c h g ≡ gift_in c h g
source_for-gift c h None = refl
source_for-gift c h (Some g) = refl

abbrev pub told_from_gift : Option Gift → Option ℕ
told_from_gift None = None
told_from_gift (Some g) = from_source (Some g.source) (next_number g.past) (λ key. told g.past (Published key)) None

abbrev pub told_from_sharing : Option Sharing → Option ℕ
told_from_sharing None = None
told_from_sharing (Some s) = told s.past (Held s.client s.handle)

told_by_gift : (source : Option Source) (taken : Bool) (past : List AnsweredEvent) (older : Option Gift) (rest : Option ℕ)
    → rest ≡ told_from_gift older →
    from_source source (next_number past) (λ key. told past (Published key)) (cond taken None rest) ≡ told_from_gift
    (gift_or source taken past older)
told_by_gift (Some Creation) taken past older rest e = refl
told_by_gift (Some (Transfer key)) taken past older rest e = refl
told_by_gift None true past older rest e = refl
told_by_gift None false past older rest e = e

-- The object of a handle is that of the last step that assigned it.
pub told-last_gift : (history : List AnsweredEvent) (c h : ℕ)
    → told history (Held c h) ≡ told_from_gift (last_gift history c h)
unfolding told last_gift gift
told-last_gift [] c h = refl
told-last_gift (step ∷ past) c h =
    ap
    (λ s. from_source s (next_number past) (λ key. told past (Published key)) (cond (takes step c h) None (told past (Held c h))))
    (sym (source_for-gift c h (given step)))
    ∙ told_by_gift (source_for c h (given step)) (takes step c h) past (last_gift past c h) (told past (Held c h))
    (told-last_gift past c h)

told_if_key : (b : Bool) (p : Publishing) (past : List AnsweredEvent) (older : Option Sharing) (rest : Option ℕ)
    → rest ≡ told_from_sharing older →
    from_holder (cond b (Some (record { client = p.client; handle = p.handle })) None)
    (λ (holder : Holder). told past (Held holder.client holder.handle)) rest
    ≡ told_from_sharing (cond b (Some (record { client = p.client; handle = p.handle; past = past })) older)
told_if_key true p past older rest e = refl
told_if_key false p past older rest e = e

told_by_sharing : (key : Key) (p : Option Publishing) (past : List AnsweredEvent) (older : Option Sharing) (rest : Option ℕ)
    → rest ≡ told_from_sharing older →
    from_holder (holder_in key p) (λ (holder : Holder). told past (Held holder.client holder.handle)) rest ≡
    told_from_sharing (sharing_or key p past older)
told_by_sharing key None past older rest e = e
told_by_sharing key (Some p) past older rest e = told_if_key (is_key p.key key) p past older rest e

-- The object under a key is that of the last step that published there.
pub told-last_sharing : (history : List AnsweredEvent) (key : Key)
    → told history (Published key) ≡ told_from_sharing (last_sharing history key)
unfolding told last_sharing holder_under
told-last_sharing [] key = refl
told-last_sharing (step ∷ past) key =
    told_by_sharing key (published step) past (last_sharing past key) (told past (Published key))
    (told-last_sharing past key)

-- ---- what was

gift_by : (step : AnsweredEvent) (past : List AnsweredEvent) (c h : ℕ) (source : Option Source) (taken : Bool) (older : Option Gift) (g : Gift)
    → gift step c h ≡ source → takes step c h ≡ taken →
    ((older ≡ Some g) → WasGiven past c h g.source g.past) → gift_or source taken past older ≡ Some g → WasGiven
    (step ∷ past) c h g.source g.past
gift_by step past c h (Some source) taken older g its_gift its_take before e =
    subst (λ (found : Gift). WasGiven (step ∷ past) c h found.source found.past) (same_Some _ g e)
    (given_now step past c h source its_gift)
gift_by step past c h None true older g its_gift its_take before e = none_some g e
gift_by step past c h None false older g its_gift its_take before e =
    given_before step past g.past c h g.source its_take (before e)

-- The last step that assigned a handle did so from this source, and no later one took it.
pub last_gift_was : (history : List AnsweredEvent) (c h : ℕ) (g : Gift) → last_gift history c h ≡ Some g
    → WasGiven history c h g.source g.past
unfolding last_gift gift
last_gift_was [] c h g e = none_some g e
last_gift_was (step ∷ past) c h g e =
    gift_by step past c h (source_for c h (given step)) (takes step c h) (last_gift past c h) g
    (sym (source_for-gift c h (given step))) refl (last_gift_was past c h g) e

sharing_if_key : (step : AnsweredEvent) (past : List AnsweredEvent) (key : Key) (p : Publishing) (b : Bool) (older : Option Sharing) (s : Sharing)
    → holder_under step key ≡ cond b (Some (record { client = p.client; handle = p.handle })) None →
    ((older ≡ Some s) → WasPublished past key s.client s.handle s.past) → cond b
    (Some (record { client = p.client; handle = p.handle; past = past })) older ≡ Some s → WasPublished (step ∷ past)
    key s.client s.handle s.past
sharing_if_key step past key p true older s its_holder before e =
    subst (λ (found : Sharing). WasPublished (step ∷ past) key found.client found.handle found.past) (same_Some _ s e)
    (published_now step past key (record { client = p.client; handle = p.handle }) its_holder)
sharing_if_key step past key p false older s its_holder before e =
    published_before step past s.past key s.client s.handle its_holder (before e)

sharing_by : (step : AnsweredEvent) (past : List AnsweredEvent) (key : Key) (p : Option Publishing) (older : Option Sharing) (s : Sharing)
    → holder_under step key ≡ holder_in key p →
    ((older ≡ Some s) → WasPublished past key s.client s.handle s.past) → sharing_or key p past older ≡ Some s →
    WasPublished (step ∷ past) key s.client s.handle s.past
sharing_by step past key None older s its_holder before e =
    published_before step past s.past key s.client s.handle its_holder (before e)
sharing_by step past key (Some p) older s its_holder before e =
    sharing_if_key step past key p (is_key p.key key) older s its_holder before e

-- The last step that published under a key published this handle's object.
pub last_sharing_was : (history : List AnsweredEvent) (key : Key) (s : Sharing) → last_sharing history key ≡ Some s
    → WasPublished history key s.client s.handle s.past
unfolding last_sharing holder_under
last_sharing_was [] key s e = none_some s e
last_sharing_was (step ∷ past) key s e =
    sharing_by step past key (published step) (last_sharing past key) s refl (last_sharing_was past key s) e

-- ---- chains

explained_is_chain : (history : List AnsweredEvent) (o : ℕ) (links : List Link) → IsExplained history o links
    → IsChain history o (links_of links)
unfolding IsExplained IsChain
explained_is_chain history o [] k = k
explained_is_chain history o (link ∷ []) k = (k.0, k.1, k.2, k.3)
explained_is_chain history o (link ∷ before ∷ links) k =
    (k.0, k.1, key_of k.2, k.3, k.4, k.5, k.6, explained_is_chain k.1 o (before ∷ links) k.8)

-- The links that explain a handle are a chain that leads to it.
pub leads_to : (history : List AnsweredEvent) (c h o : ℕ) (links : List Link) → Explains history c h o links
    → LeadsTo history c h o (links_of links)
leads_to history c h o [] k = k
leads_to history c h o (link ∷ links) k = (k.0, k.1, explained_is_chain history o (link ∷ links) k.2)

if_none : {A P Q : Type 0} (o : Option A) → (P → Q) → IfNone o P → IfNone o Q
if_none None step k = step k
if_none (Some x) step k = k

-- The same of the links that a search found, if it left out none.
pub lead_to : {E : Type 0} (history : List AnsweredEvent) (c h : ℕ) (found : Result (Option ChainEnd) E)
    → IfOk found (λ found. IfSome found (λ end. IfNone end.left ((o : ℕ) × Explains history c h o end.links.items)))
    → IfOk found (λ found. IfSome found (λ end. IfNone end.left ((o : ℕ) × LeadsTo history c h o (links_of end.links.items))))
lead_to history c h (Err fault) k = k
lead_to history c h (Ok None) k = k
lead_to history c h (Ok (Some end)) k =
    if_none end.left (λ e. (e.0, leads_to history c h e.0 end.links.items e.1)) k

-- The links that explain a handle explain the object that it is of.
pub is_explained : (history : List AnsweredEvent) (c h o : ℕ) (links : List Link) → Explains history c h o links
    → IsExplained history o links
unfolding IsExplained
is_explained history c h o [] k = k
is_explained history c h o (link ∷ links) k = k.2

made_is_explained : (history past : List AnsweredEvent) (c h step : ℕ)
    → last_gift history c h ≡ Some (record { source = Creation; past = past }) → next_number past ≡ step →
    IsExplained history (next_number past) (record { step = step; client = c; handle = h; origin = Made } ∷ [])
unfolding IsExplained
made_is_explained history past c h step e number =
    (past, last_gift_was history c h (record { source = Creation; past = past }) e, sym number, sym number, refl)

transfer_is_explained : (history past older : List AnsweredEvent) (key : HandleKey) (c h d k o step sharing : ℕ) (rest : List Link) (link : Link)
    → last_gift history c h ≡ Some (record { source = Transfer (key_of key); past = past }) →
    last_sharing past (key_of key) ≡ Some (record { client = d; handle = k; past = older }) → next_number past ≡ step →
    next_number older ≡ sharing → link.client ≡ d → link.handle ≡ k → IsExplained older o (link ∷ rest) →
    IsExplained history o (record { step = step; client = c; handle = h; origin = Published key sharing } ∷ link ∷ rest)
unfolding IsExplained
transfer_is_explained history past older key c h d k o step sharing rest link its_gift its_sharing number older_number its_client its_handle chain =
    let shared = last_sharing_was past (key_of key) (record { client = d; handle = k; past = older }) its_sharing in
    let first = link_within older o (link_of link) (links_of rest) (explained_is_chain older o (link ∷ rest) chain) in
    let then = published_within past older (key_of key) d k shared in (
      past,
      older,
      key,
      last_gift_was history c h (record { source = Transfer (key_of key); past = past }) its_gift,
      sym number,
      subst (λ (x : ℕ × ℕ). WasPublished past (key_of key) x.0 x.1 older) (λ i. (sym its_client i, sym its_handle i))
          shared,
      omega (arith, first, then, number),
      ap (Published key) (sym older_number),
      chain,
    )

-- A chain that reaches the step that created the object explains the handle.
pub leads_to_made : (history earlier past : List AnsweredEvent) (c h d k step : ℕ) (links items : List Link)
    → EndsChain history earlier c h d k links →
    last_gift earlier d k ≡ Some (record { source = Creation; past = past }) → next_number past ≡ step → items ≡ links
    ++ record { step = step; client = d; handle = k; origin = Made } ∷ [] →
    (o : ℕ) × Explains history c h o items
leads_to_made history earlier past c h d k step links items leads its_gift number same =
    let made : Link = record { step = step; client = d; handle = k; origin = Made } in
    (next_number past, subst (Explains history c h (next_number past)) (sym same) (leads (next_number past) made [] refl refl (made_is_explained earlier past d k step its_gift number)))

-- A chain that leads to a transferred handle leads on to the handle that was published for it, in the history
-- before.
pub leads_to_transfer : (history earlier past older : List AnsweredEvent) (key : HandleKey) (c h d k e j step sharing : ℕ) (links items : List Link)
    → EndsChain history earlier c h d k links →
    last_gift earlier d k ≡ Some (record { source = Transfer (key_of key); past = past }) → last_sharing past
    (key_of key) ≡ Some (record { client = e; handle = j; past = older }) →
    next_number past ≡ step → next_number older ≡ sharing → items ≡ links ++ record
    { step = step; client = d; handle = k; origin = Published key sharing } ∷ [] → EndsChain history older c h e j items
leads_to_transfer history earlier past older key c h d k e j step sharing links items leads its_gift its_sharing number older_number same =
    λ o next rest client handle chain.
    let given : Link = record { step = step; client = d; handle = k; origin = Published key sharing } in
    let all : links ++ given ∷ next ∷ rest ≡ items ++ next ∷ rest =
    sym (append_assoc links (given ∷ []) (next ∷ rest)) ∙ ap (λ xs. xs ++ next ∷ rest) (sym same) in
    subst (Explains history c h o) all
    (leads o given (next ∷ rest) refl refl (transfer_is_explained earlier past older key d k e j o step sharing rest next its_gift its_sharing number older_number client handle chain))

-- If nothing is reported of a handle in a device's history, the client does not have it.
pub has_none : (history : List AnsweredEvent) (c h : ℕ) → told history (Held c h) ≡ None → IsOfDevice history
    → HasNone history c h
has_none history c h none of_device = λ o has.
    let kept : Kept history = subst Kept (sym of_device.1) (agrees of_device.0).facts.held.kept in
    none_some o (sym none ∙ has_is_told o history c h kept has)

-- of an end of a chain that leaves nothing out
none_left : {A : Type 0} {P : Type 0} (left : Option A) → IfNone left P → is_none left ≡ true → P
none_left None h none = h
none_left (Some x) h none = absurd (false≢true none)

-- What holds of a chain's end that leaves nothing out holds of the end that was found.
pub nothing_left : (P : ChainEnd → Type 0) (found : Option ChainEnd) (end : ChainEnd) → found ≡ Some end
    → IfSome found (λ (e : ChainEnd). IfNone e.left (P e)) → IfSome found (λ (e : ChainEnd). is_none e.left ≡ true)
    → P end
nothing_left P None end is whole all = none_some end is
nothing_left P (Some found) end is whole all = subst P (same_Some found end is) (none_left found.left whole all)
