-- Where a section lies (01: a body is handed back as the very part of the block): its span in the
-- terms of the definitions, and a part of a lent slice in memory.
use Rattle.std.specs.Prelude.{◌≡◌, ℕ, ◌+◌, List}
use Rattle.std.specs.Borrow.{Bor}
use Rattle.format.specs.BlockAnswer as format
use Rattle.header.specs.declared.sections.Span.{Span}

-- Where a section stands.
abbrev pub span_of : (span : Span) → format.Span
span_of span = record { offset = span.offset; size = span.size }

-- The part begins so many bytes into the whole: in the same memory, not in a copy or in an equal
-- part elsewhere.
abbrev pub BeginsAt : (whole part : Bor (List ℕ)) (offset : ℕ) → Type 0
BeginsAt whole part offset = (part.ref_ptr.0 ≡ whole.ref_ptr.0) × (part.ref_ptr.1 ≡ whole.ref_ptr.1 + offset)
