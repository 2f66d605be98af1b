-- What a handle that was looked up represents.
use Rattle.std.proofs.Common.{◌≡◌, ℕ, true, find, Option, Some, None, refl}
use Rattle.std.specs.Option.{is_some, option_map}
use Rattle.drm_index_array.specs.Numbers.{is_among}
use Rattle.drm_index_array.proofs.Numbers.{among-left}
use Rattle.drm_files.specs.declared.rows.FileHandle.{FileHandle}
use Rattle.drm_files.specs.Files as files
use Rattle.drm_share.specs.Names as names
use Rattle.drm_share.specs.Names.{AreNames}
use Rattle.drm_model.specs.Rows.{Rows, has_handle, object_of}
use Rattle.drm_model.specs.Sharing.{name_of}
use Rattle.drm_state.specs.declared.state.State.{State}
use Rattle.drm_state.specs.Parts.{step_number_at, keys_of, referring_keys}
use Rattle.drm_state.specs.Invariants.{MeetsInvariants}
use Rattle.drm_state.specs.Refinement.{Represents}
use Rattle.drm_state.proofs.Contents.{holds_it, object_found, key_found}
use Rattle.drm_state.proofs.SharedLookups.{name_found}

module _ (s : State) (c n key : ℕ) (t : MeetsInvariants s) (found : Some key ≡ option_map (λ (x : FileHandle). x.object) (find (files.is_handle c n) s.files.holds)) where
  -- The key of a handle that was looked up is among the keys that handles name.
  pub among : is_among (keys_of s.files.holds) key ≡ true
  among = key_found c n key s.files.holds found

  module _ (w : Rows) (r : Represents s w) where
    -- A client has by rows a handle that was looked up.
    pub has_it : has_handle w c n ≡ true
    has_it = holds_it s w r c n (Some key) (Some key) found refl

    -- The object of a handle that was looked up is that of its key.
    pub object_is : object_of w c n ≡ step_number_at s.objects.objects key
    object_is = object_found s w t r c n key (Some key) found refl

    -- The name of a handle's object is the same by rows as in the state.
    pub name_is : AreNames s.names → name_of w (step_number_at s.objects.objects key) ≡ names.name_of s.names key
    name_is are = name_found s w key t are r (among-left (keys_of s.files.holds) (referring_keys s) key among)

-- An option that is not empty holds a number.
pub some_free : (o : Option ℕ) → (o ≡ None → ⊥) → is_some o ≡ true
some_free None h = absurd (h refl)
some_free (Some n) h = refl
