-- Which changes are written, by the options of a command line.
use Rattle.std.specs.Prelude.{ℕ, Option, Some, None}
use Rattle.dg_dump_words.specs.declared.Options.{Options}
use Rattle.dg_dumping.specs.declared.span.Span.{Span}

-- the span whose changes are written: from the first instant on, or from 0; none where no bound is given
abbrev pub span_between : Option ℕ → Option ℕ → Option Span
span_between None None = None
span_between None (Some until) = Some (record { from = 0; until = Some until })
span_between (Some from) until = Some (record { from = from; until = until })

abbrev pub span_said : Options → Option Span
span_said o = span_between o.from o.until
