-- Participants that are taken in one after the other.
use Rattle.std.proofs.Common.{◌≡◌, ℕ, ◌-◌, List, [], ◌∷◌, ◌++◌, cond, sym, ap, ◌∙◌, subst, append_assoc, eq-eqb}
use Rattle.std.specs.Prelude.{◌&&◌}
use Rattle.std.specs.List.{AllByRecursion}
use Rattle.std.proofs.lemmas.List.{map_push}
use Rattle.drm_turns.specs.declared.history.Entry.{Entry}
use Rattle.drm_turns.specs.History.{AllDiffer, StartsWith, calls_by}
use Rattle.drm_turns.specs.Participants.{HasSeen, HasTakenIn, IsChild, IsSplitOff, ParticipantView, with_outstanding}
use Rattle.drm_turns.specs.Views.{outstanding_after}

-- What begins with a history begins also with what that begins with.
pub starts_on : (a b c : List Entry) → StartsWith a b → StartsWith b c → StartsWith a c
starts_on a b c p q = (q.0 ++ p.0, p.1 ∙ ap (λ (l : List Entry). l ++ p.0) q.1 ∙ append_assoc c q.0 p.0)

-- A participant that has seen more has seen all that others had seen.
pub all-seen-more : (old new : ParticipantView) → StartsWith new.seen old.seen → (others : List ParticipantView)
    → AllByRecursion (HasSeen old) others → AllByRecursion (HasSeen new) others
all-seen-more old new more [] h = tt
all-seen-more old new more (other ∷ others) h =
    (record { seen = starts_on new.seen old.seen other.seen more h.0.seen; own = h.0.own }, all-seen-more old new more others h.1)

all-seen-push : (participant : ParticipantView) (others : List ParticipantView) (other : ParticipantView)
    → AllByRecursion (HasSeen participant) others → HasSeen participant other
    → AllByRecursion (HasSeen participant) (others ++ other ∷ [])
all-seen-push participant [] other h s = (s, tt)
all-seen-push participant (first ∷ others) other h s = (h.0, all-seen-push participant others other h.1 s)

-- A participant with no merged numbers has taken in none.
pub none-taken-in : (participant : ParticipantView) → participant.merged ≡ [] → HasTakenIn participant []
none-taken-in participant e = record { seen = tt; merged = e; differ = subst AllDiffer (sym e) tt }

-- A participant that takes in one more, which had taken in none, has taken in all of them.
pub one-more-taken-in : (old new other : ParticipantView) (others : List ParticipantView) → HasTakenIn old others
    → StartsWith new.seen old.seen → StartsWith new.seen other.seen → calls_by other.number other.seen ≡ other.mine
    → new.merged ≡ old.merged ++ other.number ∷ other.merged → other.merged ≡ [] → AllDiffer (new.number ∷ new.merged)
    → HasTakenIn new (others ++ other ∷ [])
one-more-taken-in old new other others h more seen own merged alone differ = record {
  seen = all-seen-push new others other (all-seen-more old new more others h.seen) (record { seen = seen; own = own });
  merged =
      merged ∙ ap (λ (l : List ℕ). old.merged ++ other.number ∷ l) alone
      ∙ ap (λ (l : List ℕ). l ++ other.number ∷ []) h.merged
      ∙ sym (map_push (λ (participant : ParticipantView). participant.number) others other);
  differ = differ.1;
}

-- What was split off a participant that was itself split off was split off the first.
pub split-off-again : (participant own child : ParticipantView) → own.table ≡ participant.table
    → own.origin ≡ participant.origin → IsSplitOff own child → IsSplitOff participant child
split-off-again participant own child table origin h =
    record
    { table = h.table ∙ table; origin = h.origin ∙ origin; mine = h.mine; merged = h.merged; journaled = h.journaled }

-- However often the count of those that are out changes, the participant is otherwise the same.
pub still_but_out : (first old new : ParticipantView) (outstanding : ℕ) → old ≡ with_outstanding first old.outstanding
    → new ≡ with_outstanding old outstanding → new ≡ with_outstanding first new.outstanding
still_but_out first old new outstanding was is =
    is
    ∙
    (ap (λ (s : ParticipantView). with_outstanding s outstanding) was ∙ ap (λ (s : ParticipantView). with_outstanding first s.outstanding) (sym is))

-- If a participant with no outstanding children is returned to its parent, it counts one fewer.
pub given_back : (number outstanding parent theirs : ℕ) → parent ≡ number → theirs ≡ 0
    → outstanding_after number outstanding parent theirs ≡ outstanding - 1
given_back number outstanding parent theirs own whole =
    λ i. cond (eq-eqb parent number own i && eq-eqb theirs 0 whole i) (outstanding - 1) outstanding

-- What was split off a participant stays so, whatever else is out.
pub split_off_before : (first participant child : ParticipantView)
    → participant ≡ with_outstanding first participant.outstanding → IsSplitOff first child
    → IsSplitOff participant child
split_off_before first participant child is h = record {
  table = h.table ∙ sym (ap (λ (s : ParticipantView). s.table) is);
  origin = h.origin ∙ sym (ap (λ (s : ParticipantView). s.origin) is);
  mine = h.mine;
  merged = h.merged;
  journaled = h.journaled;
}

-- A participant that was split off before is still one that was split off, whatever else is out.
pub child_before : (first participant child : ParticipantView)
    → participant ≡ with_outstanding first participant.outstanding → IsChild first child → IsChild participant child
child_before first participant child is h =
    record { parent = h.parent ∙ sym (ap (λ (s : ParticipantView). s.number) is); outstanding = h.outstanding }
