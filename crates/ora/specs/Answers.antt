-- The structs of the public calls in the terms of the definitions.
use Rattle.format.specs.BlockAnswer as format
use Rattle.ora.specs.declared.Span.{Span}

-- Where a section stands.
abbrev pub span_of : (span : Span) → format.Span
span_of span = record { offset = span.offset; size = span.size }
