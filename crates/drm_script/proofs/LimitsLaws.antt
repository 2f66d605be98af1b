-- Limits are read from just the words that spell them.
use Rattle.std.proofs.Common.{◌≡◌, ℕ, List, [], ◌∷◌, refl, sym, subst, ◌∙◌, Bool, true, false, cond, Option, Some, None, codes, IsTrue}
use Rattle.drm_table.specs.declared.limits.Limits.{Limits}
use Rattle.drm_table.specs.Limits.{are_in_range, is_between}
use Rattle.drm_script.specs.declared.limits_line.Limit.{Limit}
use Rattle.drm_script.specs.declared.limits_line.Limit.TheVariants as each
use Rattle.drm_script.specs.Fields.{Words, ◌>>=◌}
use Rattle.drm_script.specs.Grammar.{SpellEach, SpellsNumber, limits_parts}
use Rattle.drm_script.specs.LimitsLine.{with_limit, in_range, limit_at, limits_at}
use Rattle.drm_script.proofs.NumberLemmas.{and_true}
use Rattle.drm_script.proofs.FieldLaws.{some_same, words_behind, spelled, end_bind, number_bind, number32_at_some}

-- a limit was read
record ReadsLimit {B : Type 0} (limit : Limit) (ws : Words) (f : ℕ × Words → Option B) (y : B) : Type 0 where
  pub w : List ℕ
  pub rest : Words
  pub n : ℕ
  pub words : ws ≡ w ∷ rest
  pub spells : SpellsNumber 32 n w
  pub fits : are_in_range (with_limit limit n) ≡ true
  pub goes_on : f (n, rest) ≡ Some y

fits_case : {B : Type 0} (b : Bool) (limit : Limit) (w : List ℕ) (ws rest : Words) (n : ℕ) (f : ℕ × Words → Option B) (y : B)
    → are_in_range (with_limit limit n) ≡ b → ws ≡ w ∷ rest → SpellsNumber 32 n w
    → ((cond b (Some n) None >>= (λ fitting. Some (fitting, rest))) >>= f) ≡ Some y → ReadsLimit limit ws f y
fits_case true limit w ws rest n f y t words spells e =
    record { w = w; rest = rest; n = n; words = words; spells = spells; fits = t; goes_on = e }
fits_case false limit w ws rest n f y t words spells e = absurd (cc)

-- the words after a limit, as they are read
behind_limit : {B : Type 0} (limit : Limit) (f : ℕ × Words → Option B) (number : ℕ × Words) → Option B
behind_limit limit f number = (in_range limit number.0 >>= (λ fitting. Some (fitting, number.1))) >>= f

joined : {B : Type 0} (limit : Limit) (f : ℕ × Words → Option B) (o : Option (ℕ × Words))
    → ((o >>= (λ number. in_range limit number.0 >>= (λ fitting. Some (fitting, number.1)))) >>= f) ≡ (o >>= behind_limit limit f)
unfolding behind_limit
joined limit f None = refl
joined limit f (Some number) = refl

limit_bind : {B : Type 0} (limit : Limit) (ws : Words) (f : ℕ × Words → Option B) (y : B)
    → (limit_at limit ws >>= f) ≡ Some y → ReadsLimit limit ws f y
unfolding limit_at behind_limit
limit_bind limit ws f y e =
    let a = number_bind 32 ws (behind_limit limit f) y (sym (joined limit f _) ∙ e) in
    fits_case (are_in_range (with_limit limit a.n)) limit a.w ws a.rest a.n f y refl a.words a.spells a.goes_on

-- the limits are in their ranges one by one
pub record AreFit (l : Limits) : Type 0 where
  pub clients : are_in_range (with_limit each.Clients l.clients) ≡ true
  pub handles : are_in_range (with_limit each.Handles l.handles) ≡ true
  pub names : are_in_range (with_limit each.Names l.names) ≡ true
  pub tokens : are_in_range (with_limit each.Tokens l.tokens) ≡ true
  pub objects : are_in_range (with_limit each.Objects l.objects) ≡ true
  pub framebuffers : are_in_range (with_limit each.Framebuffers l.framebuffers) ≡ true
  pub lessees : are_in_range (with_limit each.Lessees l.lessees) ≡ true
  pub journal : are_in_range (with_limit each.Journal l.journal) ≡ true

-- the tests of the limits, one by one
record Between (l : Limits) : Type 0 where
  pub clients : is_between 1 1024 l.clients ≡ true
  pub handles : is_between 1 65535 l.handles ≡ true
  pub names : is_between 1 65535 l.names ≡ true
  pub tokens : is_between 1 65535 l.tokens ≡ true
  pub objects : is_between 1 65535 l.objects ≡ true
  pub framebuffers : is_between 1 64 l.framebuffers ≡ true
  pub lessees : is_between 1 64 l.lessees ≡ true
  pub journal : is_between 2 100000 l.journal ≡ true

between : (l : Limits) → are_in_range l ≡ true → Between l
unfolding are_in_range
between l r =
    let journal = and_true _ (is_between 2 100000 l.journal) r in
    let lessees = and_true _ (is_between 1 64 l.lessees) journal.0 in
    let framebuffers = and_true _ (is_between 1 64 l.framebuffers) lessees.0 in
    let objects = and_true _ (is_between 1 65535 l.objects) framebuffers.0 in
    let tokens = and_true _ (is_between 1 65535 l.tokens) objects.0 in
    let names = and_true _ (is_between 1 65535 l.names) tokens.0 in
    let handles = and_true (is_between 1 1024 l.clients) (is_between 1 65535 l.handles) names.0 in
    record {
      clients = handles.0;
      handles = handles.1;
      names = names.1;
      tokens = tokens.1;
      objects = objects.1;
      framebuffers = framebuffers.1;
      lessees = lessees.1;
      journal = journal.1;
    }

together : (l : Limits) → Between l → are_in_range l ≡ true
unfolding are_in_range
together l b = rw (b.clients, b.handles, b.names, b.tokens, b.objects, b.framebuffers, b.lessees, b.journal) refl

apart : (l : Limits) → Between l → AreFit l
unfolding are_in_range
apart l b = record {
  clients = rw b.clients refl;
  handles = rw b.handles refl;
  names = rw b.names refl;
  tokens = rw b.tokens refl;
  objects = rw b.objects refl;
  framebuffers = rw b.framebuffers refl;
  lessees = rw b.lessees refl;
  journal = rw b.journal refl;
}

-- If each limit is in its range, the limits are in range.
pub all_in_range : (l : Limits) → AreFit l → are_in_range l ≡ true
all_in_range l fit = together l (record {
  clients = (between _ fit.clients).clients;
  handles = (between _ fit.handles).handles;
  names = (between _ fit.names).names;
  tokens = (between _ fit.tokens).tokens;
  objects = (between _ fit.objects).objects;
  framebuffers = (between _ fit.framebuffers).framebuffers;
  lessees = (between _ fit.lessees).lessees;
  journal = (between _ fit.journal).journal;
})

-- Words that are read as limits spell them, and the limits are in range.
pub limits_reads : (ws : Words) (limits : Limits) → limits_at ws ≡ Some limits → SpellEach (limits_parts limits) (codes "limits" ∷ ws) × IsTrue (are_in_range limits)
unfolding limits_at
limits_reads ws limits e =
    let clients = limit_bind each.Clients ws _ limits e in
    let handles = limit_bind each.Handles clients.rest _ limits clients.goes_on in
    let names = limit_bind each.Names handles.rest _ limits handles.goes_on in
    let tokens = limit_bind each.Tokens names.rest _ limits names.goes_on in
    let objects = limit_bind each.Objects tokens.rest _ limits tokens.goes_on in
    let framebuffers = limit_bind each.Framebuffers objects.rest _ limits objects.goes_on in
    let lessees = limit_bind each.Lessees framebuffers.rest _ limits framebuffers.goes_on in
    let journal = limit_bind each.Journal lessees.rest _ limits lessees.goes_on in
    let end = end_bind journal.rest _ limits journal.goes_on in
    let this : Limits =
    record
    { clients = clients.n; handles = handles.n; names = names.n; tokens = tokens.n; objects = objects.n; framebuffers = framebuffers.n; lessees = lessees.n; journal = journal.n }
    in
    let same : this ≡ limits = some_same this limits end.1 in
    let fit : AreFit this =
    record
    { clients = clients.fits; handles = handles.fits; names = names.fits; tokens = tokens.fits; objects = objects.fits; framebuffers = framebuffers.fits; lessees = lessees.fits; journal = journal.fits }
    in
    let from_journal = words_behind journal.words end.0 in
    let from_lessees = words_behind lessees.words from_journal in
    let from_framebuffers = words_behind framebuffers.words from_lessees in
    let from_objects = words_behind objects.words from_framebuffers in
    let from_tokens = words_behind tokens.words from_objects in
    let from_names = words_behind names.words from_tokens in
    let from_handles = words_behind handles.words from_names in
    let from_clients = words_behind clients.words from_handles in
    let words : Words =
    clients.w ∷ handles.w ∷ names.w ∷ tokens.w ∷ objects.w ∷ framebuffers.w ∷ lessees.w ∷ journal.w ∷ [] in
    let spells : SpellEach (limits_parts this) (codes "limits" ∷ words) = (refl, (clients.spells, (handles.spells, (names.spells, (tokens.spells, (objects.spells, (framebuffers.spells, (lessees.spells, (journal.spells, tt))))))))) in
    (spelled limits_parts (codes "limits") ws words limits this from_clients same spells, subst (λ (l : Limits). IsTrue (are_in_range l)) same (all_in_range this fit))

limit_read : (limit : Limit) (w : List ℕ) (ws : Words) (n : ℕ) → SpellsNumber 32 n w
    → are_in_range (with_limit limit n) ≡ true → limit_at limit (w ∷ ws) ≡ Some (n, ws)
unfolding limit_at
limit_read limit w ws n s r = rw (number32_at_some w ws n s) (rw r refl)

-- Words that spell limits in range are read as these limits.
pub limits_read : (w : List ℕ) (ws : Words) (limits : Limits) → SpellEach (limits_parts limits) (w ∷ ws)
    → IsTrue (are_in_range limits) → limits_at ws ≡ Some limits
unfolding limits_at
limits_read w (a ∷ b ∷ c ∷ d ∷ f ∷ g ∷ h ∷ i ∷ []) limits s r =
    let fit = apart limits (between limits r) in
    rw (limit_read each.Clients a _ _ s.1.0 fit.clients)
    (rw (limit_read each.Handles b _ _ s.1.1.0 fit.handles)
    (rw (limit_read each.Names c _ _ s.1.1.1.0 fit.names)
    (rw (limit_read each.Tokens d _ _ s.1.1.1.1.0 fit.tokens)
    (rw (limit_read each.Objects f _ _ s.1.1.1.1.1.0 fit.objects)
    (rw (limit_read each.Framebuffers g _ _ s.1.1.1.1.1.1.0 fit.framebuffers)
    (rw (limit_read each.Lessees h _ _ s.1.1.1.1.1.1.1.0 fit.lessees)
    (rw (limit_read each.Journal i _ _ s.1.1.1.1.1.1.1.1.0 fit.journal) refl)))))))
limits_read w [] limits s r = absurd s.1
limits_read w (a ∷ []) limits s r = absurd s.1.1
limits_read w (a ∷ b ∷ []) limits s r = absurd s.1.1.1
limits_read w (a ∷ b ∷ c ∷ []) limits s r = absurd s.1.1.1.1
limits_read w (a ∷ b ∷ c ∷ d ∷ []) limits s r = absurd s.1.1.1.1.1
limits_read w (a ∷ b ∷ c ∷ d ∷ f ∷ []) limits s r = absurd s.1.1.1.1.1.1
limits_read w (a ∷ b ∷ c ∷ d ∷ f ∷ g ∷ []) limits s r = absurd s.1.1.1.1.1.1.1
limits_read w (a ∷ b ∷ c ∷ d ∷ f ∷ g ∷ h ∷ []) limits s r = absurd s.1.1.1.1.1.1.1.1
limits_read w (a ∷ b ∷ c ∷ d ∷ f ∷ g ∷ h ∷ i ∷ j ∷ ws) limits s r = absurd s.1.1.1.1.1.1.1.1.1
