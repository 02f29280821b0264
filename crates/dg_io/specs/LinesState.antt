-- What a cutter of lines holds, and what its calls give. A clause speaks of the lines to come, since
-- the first bytes of a line that is dropped are gone.
use Rattle.std.specs.Prelude.{◌≡◌, ◌≢◌, ℕ, ◌+◌, ◌-◌, ◌<◌, ◌≤◌, Bool, false, IsTrue, List, [], ◌∷◌, ◌++◌, length, IfSome, if◌then◌else◌, Option, Some}
use Rattle.std.specs.Option.{option_map}
use Rattle.dg_text.specs.declared.limits.TheConstants.{LINE_BYTES_MAX}
use Rattle.dg_text.specs.Lines.{ScriptLine, Text, Long, lines_of}
use Rattle.dg_io.specs.declared.lines.Line.{Line}
use Rattle.dg_io.specs.declared.lines.Line.TheVariants as line
use Rattle.dg_io.specs.Feed.{has_feed, past_feed}
use Rattle.dg_io.specs.Told.{Gives, IsAtEnd}

pub record LinesState : Type 0 where
  pub held : List ℕ  -- the bytes taken from the source and not yet given as lines
  pub long : Bool  -- whether a line is being dropped whose first bytes are gone
  pub ended : Bool  -- whether a read has given the end of input
  pub taken : ℕ  -- the bytes taken from the source in all
  pub limit : ℕ  -- the most bytes that may be taken
  pub text : List ℕ  -- the bytes of the line, where the last call gave one

-- the lines of the bytes; the line that they go on with may be one that is dropped
abbrev pub lines_on : Bool → List ℕ → List ScriptLine
lines_on long bytes = if long then Long ∷ lines_of (past_feed bytes) else lines_of bytes

-- the lines to come, where the source has these bytes left
abbrev pub ahead : LinesState → List ℕ → List ScriptLine
ahead r left = lines_on r.long (if r.ended then r.held else r.held ++ left)

-- the lines to come, where the source tells what is left
abbrev pub told : LinesState → Option (List ℕ) → Option (List ScriptLine)
told r left = option_map (ahead r) left

-- the lines to come were this line, and then those that come now
abbrev pub Comes : ScriptLine → Option (List ScriptLine) → Option (List ScriptLine) → Type 0
Comes one old new = old ≡ option_map (λ rest. one ∷ rest) new

abbrev pub NoneLeft : Option (List ScriptLine) → Type 0
NoneLeft old = IfSome old (λ rest. rest ≡ [])

-- what an answer says of the lines to come before and after the call, and of the text
abbrev pub LineComes : Line → Option (List ScriptLine) → Option (List ScriptLine) → List ℕ → Type 0
LineComes (line.Text n) old new text = Comes (Text text) old new × (n ≡ length text) × (length text ≤ LINE_BYTES_MAX)
LineComes line.TooLong old new text = Comes Long old new
LineComes line.End old new text = NoneLeft old × (old ≡ new)

-- no whole line is held, and no read has given the end of input
abbrev pub NeedsByte : LinesState → Type 0
NeedsByte r = (r.ended ≡ false) × (has_feed r.held ≡ false)

-- a read gave the end of input only where the source has nothing left
abbrev pub EndsWith : LinesState → Option (List ℕ) → Type 0
EndsWith r left = IsTrue r.ended → IsAtEnd left

-- how much may still come: it falls with each line, whatever the source does
abbrev pub to_come : LinesState → ℕ
to_come r = (r.limit - r.taken) + length r.held + (if r.long then 1 else 0)

-- the line was cut from the bytes held, and nothing was read
pub record Cuts (answer : Line) (old new : LinesState) : Type 0 where
  pub comes : (left : Option (List ℕ)) → LineComes answer (told old left) (told new left) new.text
  pub falls : answer ≢ line.End → to_come new < to_come old
  pub kept : to_come new ≤ to_come old
  pub at_end : answer ≡ line.End → IsTrue new.ended
  pub ended : new.ended ≡ old.ended
  pub taken : new.taken ≡ old.taken
  pub limit : new.limit ≡ old.limit

-- Bytes were taken from the source, as many as are counted. Whatever the source may go on with behind them, and it goes on
-- with nothing once a read has given the end of input, this holds of the lines to come before and after.
abbrev pub Took : LinesState → Option (List ℕ) → LinesState → Option (List ℕ) → (List ScriptLine → List ScriptLine → Type 0) → Type 0
Took old left new then_left P =
    (got : List ℕ) × Gives left got then_left × (new.taken ≡ old.taken + length got)
    × ((more : List ℕ) → (IsTrue new.ended → more ≡ []) → P (ahead old (got ++ more)) (ahead new more))

-- no line was lost and none was made, whatever the source goes on with
abbrev pub TookNone : LinesState → Option (List ℕ) → LinesState → Option (List ℕ) → Type 0
TookNone old left new then_left = Took old left new then_left (λ before after. before ≡ after)

-- the line was the first of those to come, whatever the source goes on with
abbrev pub TookLine : Line → LinesState → Option (List ℕ) → LinesState → Option (List ℕ) → Type 0
TookLine line old left new then_left = Took old left new then_left (λ before after. LineComes line (Some before) (Some after) new.text)

-- the line that the answer gives, with this text, where it gives one
abbrev pub line_given : Line → List ℕ → List ScriptLine
line_given (line.Text n) text = Text text ∷ []
line_given line.TooLong text = Long ∷ []
line_given line.End text = []

-- Where no read has given the end of input yet: bytes were taken from the source, as many as are counted, and these lines
-- were given of the lines to come, whatever the source goes on with.
abbrev pub GaveLines : List ScriptLine → LinesState → Option (List ℕ) → LinesState → Option (List ℕ) → Type 0
GaveLines given old left new then_left =
    new.ended ≡ false → (got : List ℕ) × Gives left got then_left × (new.taken ≡ old.taken + length got)
    × ((more : List ℕ) → ahead old (got ++ more) ≡ given ++ ahead new more)
