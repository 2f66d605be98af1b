-- The lines of a topology, each by its words (own).
use Rattle.std.specs.Prelude.{ℕ, Bool, false, List, [], ◌∷◌, map, codes, find, Option, None, Some, unwrap_or, option_and_then, ◌&&◌, nat_le, if◌then◌else◌}
use Rattle.std.specs.List.{filter_map}
use Rattle.std.specs.Str.{bytes_eq}
use Rattle.drm_index_array.specs.Numbers.{is_among}
use Rattle.drm_modes.specs.Numbers.{numbers_from}
use Rattle.drm_modes.specs.Topology.{bits_of}
use Rattle.drm_script.specs.Fields.{Words, number_of, of_bits}
use Rattle.drm_script.specs.Lines.{lines_of}
use Rattle.drm_script.specs.Words.{words_of}
use Rattle.drm_runs.specs.declared.words.LineWord.{LineWord}
use Rattle.drm_runs.specs.declared.words.LineWord.TheVariants as words
use Rattle.drm_runs.specs.declared.words.TheConstants.{LINE_WORDS}

-- the lines of a text, each as its words
abbrev pub lines_in : List ℕ → List Words
lines_in text = map words_of (lines_of text)

-- the first words of lines
abbrev pub line_text : LineWord → List ℕ
line_text words.Crtcs = codes "crtcs"
line_text words.Plane = codes "plane"
line_text words.Primary = codes "primary"
line_text words.Cursor = codes "cursor"
line_text words.Encoder = codes "encoder"
line_text words.Connector = codes "connector"

-- which of these a word is, if any
unfoldable pub line_word_of : List ℕ → Option LineWord
line_word_of w = find (λ name. bytes_eq (line_text name) w) LINE_WORDS

-- the line begins with this word
abbrev pub begins_with : LineWord → Words → Bool
begins_with name [] = false
begins_with name (w ∷ ws) = bytes_eq (line_text name) w

-- the words after the first
abbrev pub others : Words → Words
others [] = []
others (w ∷ ws) = ws

-- a number of 32 bits, as in a script
abbrev pub number_in : List ℕ → Option ℕ
number_in w = option_and_then (of_bits 32) (number_of w)

-- the number that is alone
abbrev pub only_number : Words → Option ℕ
only_number [] = None
only_number (w ∷ []) = number_in w
only_number (w ∷ v ∷ ws) = None

-- the number in the first word
abbrev pub first_number : Words → Option ℕ
first_number [] = None
first_number (w ∷ ws) = number_in w

-- a number from 1 to that of the CRTCs
abbrev pub of_crtcs : ℕ → ℕ → Option ℕ
of_crtcs count n = if nat_le 1 n && nat_le n count then Some n else None

-- the CRTC that a word names, out of `count`
abbrev pub crtc_in : ℕ → List ℕ → Option ℕ
crtc_in count w = option_and_then (of_crtcs count) (number_in w)

-- the mask of the CRTCs that words name: bit i is CRTC i + 1, and there are 8 at most
unfoldable pub mask_of : Words → ℕ
mask_of ws = bits_of (is_among (filter_map number_in ws)) (numbers_from 1 8)

-- the CRTC that has a primary or a cursor plane
abbrev pub own_crtc : Words → ℕ
own_crtc ws = unwrap_or (first_number ws) 0

-- the encoder of a connector, by its place among the encoders from 1
abbrev pub encoder_place : Words → ℕ
encoder_place ws = unwrap_or (only_number ws) 0
