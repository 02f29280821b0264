-- How the bytes of a script are cut into lines.
use Rattle.std.specs.Prelude.{ℕ, List, map, length, nat_le, if◌then◌else◌}
use Rattle.std.specs.Str.Lines.{lines}
use Rattle.dg_text.specs.declared.limits.TheConstants.{LINE_BYTES_MAX}

-- a line of the script: its bytes, or a line of more bytes than a line may have
pub data ScriptLine : Type 0 where
  Text : List ℕ → ScriptLine
  Long : ScriptLine

abbrev pub script_line : List ℕ → ScriptLine
script_line bytes = if nat_le (length bytes) LINE_BYTES_MAX then Text bytes else Long

-- The lines of the bytes. A line ends before a line feed, and loses the one carriage return that
-- may stand before it; the bytes after the last line feed are a line too, unless there are none.
abbrev pub lines_of : List ℕ → List ScriptLine
lines_of bytes = map script_line (lines bytes)
