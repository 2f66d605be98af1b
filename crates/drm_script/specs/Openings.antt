-- The openings of clients, as words spell them (own).
use Rattle.std.specs.Prelude.{ℕ, List, Bool, true, false, Option, Some, codes, find}
use Rattle.std.specs.Str.{bytes_eq}
use Rattle.drm_table.specs.declared.events.Opening.{Opening}
use Rattle.drm_table.specs.declared.events.Opening.TheVariants as openings
use Rattle.drm_script.specs.declared.openings.OpeningWord.{OpeningWord}
use Rattle.drm_script.specs.declared.openings.OpeningWord.TheVariants as words
use Rattle.drm_script.specs.declared.openings.TheConstants.{OPENING_WORDS}
use Rattle.drm_script.specs.Fields.{Words, ◌>>=◌, word_at, end_at, number_at}

-- the words of the openings (own)
abbrev pub opening_text : OpeningWord → List ℕ
opening_text words.Card = codes "card"
opening_text words.Root = codes "root"
opening_text words.Render = codes "render"
opening_text words.Lease = codes "lease"
opening_text words.RootLease = codes "rootlease"

-- the opening that a word names
unfoldable pub opening_word_of : List ℕ → Option OpeningWord
opening_word_of w = find (λ name. bytes_eq (opening_text name) w) OPENING_WORDS

-- a lease, by its token
unfoldable pub lease_at : Bool → Bool → Words → Option Opening
lease_at universal root ws = do
  token ← number_at 32 ws
  end ← end_at token.1
  Some (openings.Lease token.0 root universal)

-- a primary node
unfoldable pub primary_at : Bool → Bool → Words → Option Opening
primary_at universal root ws = do
  end ← end_at ws
  Some (openings.Primary root universal)

-- a render node
unfoldable pub render_at : Words → Option Opening
render_at ws = do
  end ← end_at ws
  Some openings.Render

-- the opening of a word and its fields; a render client has universal planes on in any case
abbrev pub opening_fields_at : Bool → OpeningWord → Words → Option Opening
opening_fields_at universal words.Card ws = primary_at universal false ws
opening_fields_at universal words.Root ws = primary_at universal true ws
opening_fields_at universal words.Render ws = render_at ws
opening_fields_at universal words.Lease ws = lease_at universal false ws
opening_fields_at universal words.RootLease ws = lease_at universal true ws

-- the opening that the words spell, with universal planes on or off
unfoldable pub opening_at : Bool → Words → Option Opening
opening_at universal ws = do
  first ← word_at ws
  name ← opening_word_of first.0
  opening_fields_at universal name first.1
