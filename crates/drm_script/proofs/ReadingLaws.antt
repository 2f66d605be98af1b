-- What a whole line is read as.
use Rattle.std.proofs.Common.{◌≡◌, ℕ, ◌+◌, ◌<◌, List, [], ◌∷◌, length, refl, sym, ap, subst, ◌∙◌, arith, Bool, true, false, cond, not, Some, None, Option, nat_lt, ◌⊎◌, inl, inr, eqb, IsTrue, lit<}
use Rattle.std.specs.Char.{is_ascii}
use Rattle.std.specs.List.{list_all}
use Rattle.std.proofs.Math.Bool.{and-false}
use Rattle.std.proofs.lemmas.Bool.Decides.{nat_tests}
use Rattle.std.proofs.lemmas.List.Sums.{AllPass-from_list_all, list_all-from_AllPass}
use Rattle.std.proofs.lemmas.Str.Ascii.{IsAscii-from_all, All-from_ascii}
use Rattle.drm_table.specs.declared.events.Opening.{Opening}
use Rattle.drm_table.specs.declared.limits.Limits.{Limits}
use Rattle.drm_table.specs.Limits.{are_in_range}
use Rattle.drm_script.specs.declared.commands.Command.{Command}
use Rattle.drm_script.specs.declared.commands.Command.TheVariants as commands
use Rattle.drm_script.specs.declared.reading.Reading.{Reading}
use Rattle.drm_script.specs.declared.reading.Reading.TheVariants as readings
use Rattle.drm_script.specs.declared.reading.LineWord.{LineWord}
use Rattle.drm_script.specs.declared.reading.LineWord.TheVariants as words
use Rattle.drm_script.specs.declared.reading.TheConstants.{LINE_WORDS}
use Rattle.drm_script.specs.Commands.{open_at, close_at, ask_at}
use Rattle.drm_script.specs.Fields.{Words}
use Rattle.drm_script.specs.Grammar.{SpellEach, open_text, Opens, opening_parts, SpellsCommand, limits_parts, IsPlain, IsCommandLine, IsLimitsLine, IsComment, IsSkippedLine, IsOtherLine}
use Rattle.drm_script.specs.Grammar.Part.{word, label}
use Rattle.drm_script.specs.LimitsLine.{limits_at}
use Rattle.drm_script.specs.Reading.{line_text, line_word_of, command_said, limits_said, said_behind, words_said, is_comment, reading_of}
use Rattle.drm_script.specs.Words.{words_of, with_byte, begins_word}
use Rattle.drm_script.proofs.CommandLaws.{open_reads, open_read, close_reads, close_read, ask_reads, ask_read}
use Rattle.drm_script.proofs.FieldLaws.{found}
use Rattle.drm_script.proofs.LimitsLaws.{limits_reads, limits_read}

-- ---- the tests of a line

plain-from_tests : (line : List ℕ) → nat_lt 255 (length line) ≡ false → list_all is_ascii line ≡ true → IsPlain line
plain-from_tests line s a =
    let all = AllPass-from_list_all is_ascii line a in
    record { short = grind (arith, nat_tests); ascii = IsAscii-from_all line (λ k d h. let t = all k d h in grind (arith, nat_tests)) }

short_test : (line : List ℕ) → IsPlain line → nat_lt 255 (length line) ≡ false
short_test line p = grind (arith, nat_tests, p.short)

ascii_test : (line : List ℕ) → IsPlain line → list_all is_ascii line ≡ true
ascii_test line p =
    list_all-from_AllPass is_ascii line (λ k d h. let t = All-from_ascii line p.ascii k d h in grind (arith, nat_tests))

comment_test : (line : List ℕ) → is_comment line ≡ true → IsComment line
comment_test [] e = absurd (cc)
comment_test (b ∷ bs) e = grind (arith, nat_tests)

test_comment : (line : List ℕ) → IsComment line → is_comment line ≡ true
test_comment [] h = absurd h
test_comment (b ∷ bs) h = rw h refl

-- ---- the words of a line

command_said_some : (o : Option Command) (command : Command) → command_said o ≡ Some (readings.Says command)
    → o ≡ Some command
command_said_some None command e = absurd (cc)
command_said_some (Some c) command e = ap Some (cc)

limits_said_some : (o : Option Limits) (limits : Limits) → limits_said o ≡ Some (readings.Limits limits)
    → o ≡ Some limits
limits_said_some None limits e = absurd (cc)
limits_said_some (Some l) limits e = ap Some (cc)

command_no_limits : (o : Option Command) (limits : Limits) → command_said o ≡ Some (readings.Limits limits) → ⊥
command_no_limits None limits e = cc
command_no_limits (Some c) limits e = cc

limits_no_command : (o : Option Limits) (command : Command) → limits_said o ≡ Some (readings.Says command) → ⊥
limits_no_command None command e = cc
limits_no_command (Some l) command e = cc

command_not_skipped : (o : Option Command) → command_said o ≡ Some readings.Skipped → ⊥
command_not_skipped None e = cc
command_not_skipped (Some c) e = cc

limits_not_skipped : (o : Option Limits) → limits_said o ≡ Some readings.Skipped → ⊥
limits_not_skipped None e = cc
limits_not_skipped (Some l) e = cc

-- the first word, from its name
named : (w : List ℕ) (name : LineWord) → line_word_of w ≡ Some name → w ≡ line_text name
unfolding line_word_of
named w name e = found line_text w LINE_WORDS name e

command_behind : (o : Option LineWord) (w : List ℕ) (ws : Words) (command : Command) → line_word_of w ≡ o
    → said_behind o w ws ≡ Some (readings.Says command) → SpellsCommand command (w ∷ ws)
command_behind (Some words.Limits) w ws command t e = absurd (limits_no_command (limits_at ws) command e)
command_behind (Some words.Open) w ws command t e =
    let P : List ℕ → Type 0 = λ v. SpellsCommand command (v ∷ ws) in
    subst P (sym (named w words.Open t)) (open_reads true ws command (command_said_some (open_at true ws) command e))
command_behind (Some words.Open2) w ws command t e =
    let P : List ℕ → Type 0 = λ v. SpellsCommand command (v ∷ ws) in
    subst P (sym (named w words.Open2 t)) (open_reads false ws command (command_said_some (open_at false ws) command e))
command_behind (Some words.Close) w ws command t e =
    let P : List ℕ → Type 0 = λ v. SpellsCommand command (v ∷ ws) in
    subst P (sym (named w words.Close t)) (close_reads ws command (command_said_some (close_at ws) command e))
command_behind None w ws command t e = ask_reads w ws command (command_said_some (ask_at w ws) command e)

words_command : (ws : Words) (command : Command) → words_said ws ≡ Some (readings.Says command)
    → SpellsCommand command ws
words_command [] command e = absurd (cc)
words_command (w ∷ ws) command e = command_behind (line_word_of w) w ws command refl e

limits_behind : (o : Option LineWord) (w : List ℕ) (ws : Words) (limits : Limits) → line_word_of w ≡ o
    → said_behind o w ws ≡ Some (readings.Limits limits)
    → SpellEach (limits_parts limits) (w ∷ ws) × IsTrue (are_in_range limits)
limits_behind (Some words.Limits) w ws limits t e =
    let r = limits_reads ws limits (limits_said_some (limits_at ws) limits e) in
    let P : List ℕ → Type 0 = λ v. SpellEach (limits_parts limits) (v ∷ ws) in
    (subst P (sym (named w words.Limits t)) r.0, r.1)
limits_behind (Some words.Open) w ws limits t e = absurd (command_no_limits (open_at true ws) limits e)
limits_behind (Some words.Open2) w ws limits t e = absurd (command_no_limits (open_at false ws) limits e)
limits_behind (Some words.Close) w ws limits t e = absurd (command_no_limits (close_at ws) limits e)
limits_behind None w ws limits t e = absurd (command_no_limits (ask_at w ws) limits e)

words_limits : (ws : Words) (limits : Limits) → words_said ws ≡ Some (readings.Limits limits)
    → SpellEach (limits_parts limits) ws × IsTrue (are_in_range limits)
words_limits [] limits e = absurd (cc)
words_limits (w ∷ ws) limits e = limits_behind (line_word_of w) w ws limits refl e

behind_not_skipped : (o : Option LineWord) (w : List ℕ) (ws : Words) → said_behind o w ws ≡ Some readings.Skipped → ⊥
behind_not_skipped (Some words.Limits) w ws e = limits_not_skipped (limits_at ws) e
behind_not_skipped (Some words.Open) w ws e = command_not_skipped (open_at true ws) e
behind_not_skipped (Some words.Open2) w ws e = command_not_skipped (open_at false ws) e
behind_not_skipped (Some words.Close) w ws e = command_not_skipped (close_at ws) e
behind_not_skipped None w ws e = command_not_skipped (ask_at w ws) e

words_skipped : (ws : Words) → words_said ws ≡ Some readings.Skipped → ws ≡ []
words_skipped [] e = refl
words_skipped (w ∷ ws) e = absurd (behind_not_skipped (line_word_of w) w ws e)

-- one letter is no first word of the others
letter_no_word : (b : ℕ) → line_word_of (b ∷ []) ≡ None
unfolding line_word_of
letter_no_word b = rw (and-false (eqb 108 b)) (rw (and-false (eqb 111 b)) (rw (and-false (eqb 99 b)) refl))

open_words : (universal : Bool) (w : List ℕ) (ws : Words) (place : ℕ) (opening : Opening) → Opens universal opening
    → SpellEach (word (open_text universal) ∷ label place ∷ opening_parts opening) (w ∷ ws)
    → said_behind (line_word_of w) w ws ≡ Some (readings.Says (commands.Open place opening))
unfolding line_word_of
open_words true w ws place opening o s = rw s.0 (ap command_said (open_read true ws place opening o s.1))
open_words false w ws place opening o s = rw s.0 (ap command_said (open_read false ws place opening o s.1))

command_words : (w : List ℕ) (ws : Words) (command : Command) → SpellsCommand command (w ∷ ws)
    → said_behind (line_word_of w) w ws ≡ Some (readings.Says command)
unfolding line_word_of
command_words w ws (commands.Open place opening) s = open_words s.0 w ws place opening s.1 s.2
command_words w ws (commands.Close place) s = rw s.0 (ap command_said (close_read ws place s.1))
command_words w ws (commands.Ask place call) s =
    let none : line_word_of w ≡ None = ap line_word_of s.0.1 ∙ letter_no_word (97 + place) in
    rw none (ap command_said (ask_read w ws place call s.0 s.1))

limits_words : (w : List ℕ) (ws : Words) (limits : Limits) → SpellEach (limits_parts limits) (w ∷ ws)
    → IsTrue (are_in_range limits) → said_behind (line_word_of w) w ws ≡ Some (readings.Limits limits)
unfolding line_word_of
limits_words w ws limits s r = rw s.0 (ap limits_said (limits_read w ws limits s r))

no_command : (command : Command) → SpellsCommand command [] → ⊥
no_command (commands.Open place opening) s = s.2
no_command (commands.Close place) s = s
no_command (commands.Ask place call) s = s

command_words_said : (ws : Words) (command : Command) → SpellsCommand command ws
    → words_said ws ≡ Some (readings.Says command)
command_words_said [] command s = absurd (no_command command s)
command_words_said (w ∷ ws) command s = command_words w ws command s

limits_words_said : (ws : Words) (limits : Limits) → SpellEach (limits_parts limits) ws → IsTrue (are_in_range limits)
    → words_said ws ≡ Some (readings.Limits limits)
limits_words_said [] limits s r = absurd s
limits_words_said (w ∷ ws) limits s r = limits_words w ws limits s r

-- ---- a comment says nothing

-- the first word of these words begins with #
pub record BeginsWithHash (ws : Words) : Type 0 where
  pub w : List ℕ
  pub rest : Words
  pub words : ws ≡ (35 ∷ w) ∷ rest

hash_first : (t : Bool) (ws : Words) → BeginsWithHash (with_byte 35 t ws)
hash_first true (w ∷ ws) = record { w = w; rest = ws; words = refl }
hash_first true [] = record { w = []; rest = []; words = refl }
hash_first false ws = record { w = []; rest = ws; words = refl }

no_hash : (c : ℕ) (bs cs : List ℕ) → (35 ∷ bs) ≡ (c ∷ cs) → 35 < c → ⊥
no_hash c bs cs e h = let same : 35 ≡ c = cc in omega arith

no_command_word : (command : Command) (w : List ℕ) (rest : Words) → SpellsCommand command ((35 ∷ w) ∷ rest) → ⊥
no_command_word (commands.Open place opening) w rest s = no_open s.0 (s.2).0
  where
    no_open : (universal : Bool) → (35 ∷ w) ≡ open_text universal → ⊥
    no_open true e = no_hash 111 w _ e (lit< tt)
    no_open false e = no_hash 111 w _ e (lit< tt)
no_command_word (commands.Close place) w rest s = no_hash 99 w _ s.0 (lit< tt)
no_command_word (commands.Ask place call) w rest s = no_hash (97 + place) w [] s.0.1 (omega arith)

no_command_hash : (command : Command) (ws : Words) → BeginsWithHash ws → SpellsCommand command ws → ⊥
no_command_hash command ws h s =
    let P : Words → Type 0 = λ v. SpellsCommand command v in
    no_command_word command h.w h.rest (subst P h.words s)

no_limits_hash : (limits : Limits) (ws : Words) → BeginsWithHash ws → SpellEach (limits_parts limits) ws → ⊥
no_limits_hash limits ws h s =
    let P : Words → Type 0 = λ v. SpellEach (limits_parts limits) v in
    let t : SpellEach (limits_parts limits) ((35 ∷ h.w) ∷ h.rest) = subst P h.words s in
    no_hash 108 h.w _ t.0 (lit< tt)

-- a line that is not a comment, since its words say something
uncommented_at : (b : ℕ) (bs : List ℕ) (t : Bool) → t ≡ eqb b 35 → (BeginsWithHash (words_of (b ∷ bs)) → ⊥) → t ≡ false
uncommented_at b bs false e h = refl
uncommented_at b bs true e h =
    let hash : b ≡ 35 = grind (arith, nat_tests) in
    let P : ℕ → Type 0 = λ c. BeginsWithHash (words_of (c ∷ bs)) in
    absurd (h (subst P (sym hash) (hash_first (begins_word bs) (words_of bs))))

uncommented : (line : List ℕ) → (BeginsWithHash (words_of line) → ⊥) → is_comment line ≡ false
uncommented [] h = refl
uncommented (b ∷ bs) h = uncommented_at b bs (eqb b 35) refl h

-- ---- whole lines

-- a line whose first tests passed
pub record Passes (line : List ℕ) (x : Option Reading) : Type 0 where
  pub plain : IsPlain line
  pub rest : cond (is_comment line) (Some readings.Skipped) (words_said (words_of line)) ≡ x

tests_pass : (a b : Bool) (r x : Option Reading) → (None ≡ x → ⊥) → cond a None (cond (not b) None r) ≡ x
    → ((a ≡ false) × (b ≡ true)) × (r ≡ x)
tests_pass true b r x n e = absurd (n e)
tests_pass false false r x n e = absurd (n e)
tests_pass false true r x n e = ((refl, refl), e)

passes : (line : List ℕ) (x : Option Reading) → (None ≡ x → ⊥) → reading_of line ≡ x → Passes line x
unfolding reading_of
passes line x n e =
    let t = tests_pass (nat_lt 255 (length line)) (list_all is_ascii line) _ x n e in
    record { plain = plain-from_tests line t.0.0 t.0.1; rest = t.1 }

reading-plain : (line : List ℕ) → IsPlain line
    → reading_of line ≡ cond (is_comment line) (Some readings.Skipped) (words_said (words_of line))
unfolding reading_of
reading-plain line p = rw (short_test line p) (rw (ascii_test line p) refl)

not_skipped : (c : Bool) (r x : Option Reading) → (Some readings.Skipped ≡ x → ⊥) → cond c (Some readings.Skipped) r ≡ x
    → r ≡ x
not_skipped true r x n e = absurd (n e)
not_skipped false r x n e = e

-- A line that is read as a command spells it.
pub command_line : (line : List ℕ) (command : Command) → reading_of line ≡ Some (readings.Says command)
    → IsCommandLine line command
command_line line command e =
    let p = passes line (Some (readings.Says command)) (λ f. cc) e in
    let r = not_skipped (is_comment line) _ (Some (readings.Says command)) (λ f. cc) p.rest in
    record { plain = p.plain; says = words_command (words_of line) command r }

-- A line that spells a command is read as this command.
pub line_command : (line : List ℕ) (command : Command) → IsCommandLine line command
    → reading_of line ≡ Some (readings.Says command)
line_command line command h =
    let no = uncommented line (λ hash. no_command_hash command (words_of line) hash h.says) in
    reading-plain line h.plain ∙ rw no (command_words_said (words_of line) command h.says)

-- A line that is read as limits spells them, in range.
pub limits_line : (line : List ℕ) (limits : Limits) → reading_of line ≡ Some (readings.Limits limits)
    → IsLimitsLine line limits
limits_line line limits e =
    let p = passes line (Some (readings.Limits limits)) (λ f. cc) e in
    let r = not_skipped (is_comment line) _ (Some (readings.Limits limits)) (λ f. cc) p.rest in
    let s = words_limits (words_of line) limits r in
    record { plain = p.plain; says = s.0; in_range = s.1 }

-- A line that spells limits in range is read as these limits.
pub line_limits : (line : List ℕ) (limits : Limits) → IsLimitsLine line limits
    → reading_of line ≡ Some (readings.Limits limits)
line_limits line limits h =
    let no = uncommented line (λ hash. no_limits_hash limits (words_of line) hash h.says) in
    reading-plain line h.plain ∙ rw no (limits_words_said (words_of line) limits h.says h.in_range)

says_nothing : (c : Bool) (line : List ℕ) → is_comment line ≡ c
    → cond c (Some readings.Skipped) (words_said (words_of line)) ≡ Some readings.Skipped
    → IsComment line ⊎ (words_of line ≡ [])
says_nothing true line t e = inl (comment_test line t)
says_nothing false line t e = inr (words_skipped (words_of line) e)

-- A line that is skipped is blank or a comment.
pub skipped_line : (line : List ℕ) → reading_of line ≡ Some readings.Skipped → IsSkippedLine line
skipped_line line e =
    let p = passes line (Some readings.Skipped) (λ f. cc) e in
    record { plain = p.plain; says_nothing = says_nothing (is_comment line) line refl p.rest }

nothing_said : (c : Bool) (line : List ℕ) → is_comment line ≡ c → IsComment line ⊎ (words_of line ≡ [])
    → cond c (Some readings.Skipped) (words_said (words_of line)) ≡ Some readings.Skipped
nothing_said true line t h = refl
nothing_said false line t (inl h) = let u = test_comment line h in absurd (cc)
nothing_said false line t (inr h) = ap words_said h

-- A blank line or a comment is skipped.
pub line_skipped : (line : List ℕ) → IsSkippedLine line → reading_of line ≡ Some readings.Skipped
line_skipped line h = reading-plain line h.plain ∙ nothing_said (is_comment line) line refl h.says_nothing

-- A line that is not read spells nothing.
pub other_line : (line : List ℕ) → reading_of line ≡ None → IsOtherLine line
other_line line e =
    record {
      unskipped = λ h. let f = line_skipped line h in cc;
      no_limits = λ limits h. let f = line_limits line limits h in cc;
      no_command = λ command h. let f = line_command line command h in cc;
    }

other_at : (r : Option Reading) (line : List ℕ) → reading_of line ≡ r → IsOtherLine line → reading_of line ≡ None
other_at (Some readings.Skipped) line e h = absurd (h.unskipped (skipped_line line e))
other_at (Some (readings.Limits limits)) line e h = absurd (h.no_limits limits (limits_line line limits e))
other_at (Some (readings.Says command)) line e h = absurd (h.no_command command (command_line line command e))
other_at None line e h = e

-- A line that spells nothing is not read.
pub line_other : (line : List ℕ) → IsOtherLine line → reading_of line ≡ None
line_other line h = other_at (reading_of line) line refl h

-- A line of more than 255 bytes is malformed.
pub reading_of-long : (line : List ℕ) → 255 < length line → reading_of line ≡ None
unfolding reading_of
reading_of-long line h = let t : nat_lt 255 (length line) ≡ true = grind (arith, nat_tests) in rw t refl
